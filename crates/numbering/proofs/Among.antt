-- Every node that a tree has outside is among the nodes up to its root. Assumes nothing.
use mathlib.Core.Path.{◌≡◌, refl, sym, subst}
use mathlib.Core.Bool.{Bool, true, false}
use mathlib.Core.List.{List}
use Prim.Native.Nat.{ℕ, zero, suc, ◌+◌, ◌<◌, ◌≤◌}
use native.Mathlib.Omega.{arith}
use native.Mathlib.Decide.{dec_lt}
use lib.Dec.{eqb}
use Rattle.laws.specs.Lists.{Each, each_nil, each-cons}
use Rattle.laws.proofs.Lists.{each_append}
use Rattle.laws.proofs.Tests.{by-if}
use Rattle.ocl.specs.Types.{Ty}
use Rattle.ocl.specs.Environment.{Env}
use Rattle.ocl.specs.Model.{Schema}
use Rattle.ocl.specs.Typing.{Answer, typed, refused}
use Rattle.ocl.specs.Profile.{node_if, for_type, outside, outside_in, outside_of}
use Rattle.nodes.specs.Nodes.{word, operands_in, tree_at}
use Rattle.nodes.proofs.Nodes.{below_law, late_law}
use Rattle.numbering.specs.Forms.{operand_count, members_at, operand_at, source_type, binds, body_operand, enters, inner_env, body_of, called_at, scope_at, is_own}
use Rattle.numbering.proofs.Parts.{parts}

module _ (b : ℕ) where
  abbrev P : ℕ → Type 0
  P p = p < b

  abbrev In : List ℕ → Type 0
  In l = Each P l

  typed_in : (a : Answer) (f : Ty → List ℕ) → ((u : Ty) → In (f u)) → In (for_type a f)
  unfolding for_type
  typed_in (typed u) f h = h u
  typed_in (refused n p) f h = each_nil

  own_in : (n : ℕ) → n < b → (c : Bool) → In (node_if n c)
  unfolding node_if
  own_in n h true = each-cons h each_nil
  own_in n h false = each_nil

  module _ (k : Schema) (t : List ℕ) (n : ℕ) (low : n < b) (operand : (i : ℕ) (Γ : Env Ty) → In (operand_at k t n i Γ)) (Γ : Env Ty) where
    members_in : (c i : ℕ) → In (members_at k t n c i Γ)
    unfolding operands_in outside_of
    members_in zero i = each_nil
    members_in (suc c) i = each_append (operand i Γ) (members_in c (i + 1))

    body_in : (form : ℕ) (u : Ty) → In (body_of k t n form Γ u)
    unfolding body_of
    body_in form u = by-if In (enters form u) _ _ (λ h. operand (body_operand form) (inner_env (word t n) form Γ u)) (λ h. each_nil)

    scope_in : (form : ℕ) → In (scope_at k t n form Γ)
    unfolding scope_at
    scope_in form =
        by-if In (eqb form 36) (called_at k t n) _ (λ h. operand 2 _) (λ h. by-if In (binds form) _ _ (λ h. typed_in (source_type k t n Γ) (body_of k t n form Γ) (body_in form)) (λ h. each_nil))

    node_in : In (outside k (tree_at t n) Γ)
    node_in = subst In (sym (parts k t n Γ (word t n 0) refl))
        (each_append (members_in (operand_count (word t n 0) (word t n 5)) 1) (each_append (scope_in (word t n 0)) (own_in n low (is_own k t n (word t n 0) Γ))))

  step : (k : Schema) (t : List ℕ) (m : ℕ) → suc m ≤ b → ((n : ℕ) → n < m → (Γ : Env Ty) → In (outside k (tree_at t n) Γ)) → (n : ℕ) → n < suc m → (Γ : Env Ty) → In (outside k (tree_at t n) Γ)
  step k t m l ih n h Γ = by (dec_lt n m)
    where
      operand : (i : ℕ) (Δ : Env Ty) → Dec (word t m i < m) → In (operand_at k t m i Δ)
      operand i Δ (yes q) = subst (λ e. In (outside k e Δ)) (sym (below_law t m (word t m i) q)) (ih (word t m i) q Δ)
      operand i Δ (no q) = subst (λ e. In (outside k e Δ)) (sym (late_law t m (word t m i) (omega arith))) (unfold outside outside_in in each_nil)

      by : Dec (n < m) → In (outside k (tree_at t n) Γ)
      by (yes q) = ih n q Γ
      by (no q) = subst (λ i. In (outside k (tree_at t i) Γ)) (let e : m ≡ n = omega arith in e) (node_in k t m (omega arith) (λ i Δ. operand i Δ (dec_lt (word t m i) m)) Γ)

  -- up to node m
  below_in : (k : Schema) (t : List ℕ) (m : ℕ) → m ≤ b → (n : ℕ) → n < m → (Γ : Env Ty) → In (outside k (tree_at t n) Γ)
  below_in k t zero l n h Γ = absurd (omega arith)
  below_in k t (suc m) l n h Γ = step k t m l (below_in k t m (omega arith)) n h Γ

  pub tree_among : (k : Schema) (t : List ℕ) (n : ℕ) → n < b → (Γ : Env Ty) → Each (λ p. p < b) (outside k (tree_at t n) Γ)
  tree_among k t n h Γ = below_in k t b (omega arith) n h Γ
