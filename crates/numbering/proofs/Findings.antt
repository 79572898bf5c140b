-- What is found in each part of a node, from what is found in its operands. Assumes nothing.
use mathlib.Core.Path.{◌≡◌, sym, ap, ◌∙◌}
use mathlib.Core.Bool.{Bool, true, false}
use mathlib.Core.Logic.{◌⊎◌, inl, inr}
use mathlib.Core.List.{List, [], ◌++◌, append_assoc}
use Prim.Native.Nat.{ℕ, suc, ◌+◌, ◌-◌, ◌<◌, ◌≤◌}
use native.Mathlib.Omega.{arith}
use lib.ListN.{get_or}
use lib.Dec.{eqb}
use borrow.Author.Tests.{ne_eqb}
use Rattle.ocl.specs.Types.{Ty}
use Rattle.ocl.specs.Environment.{Env}
use Rattle.ocl.specs.Model.{Schema}
use Rattle.ocl.specs.Profile.{node_if, for_type, outside, outside_in, outside_of}
use Rattle.types.specs.declared.FlatType.{FlatType}
use Rattle.types.specs.Flat.{ty_of}
use Rattle.types.specs.Parts.{outer_code}
use Rattle.nodes.specs.Nodes.{word, operands_in, tree_at}
use Rattle.nodes.proofs.Nodes.{below_law, late_law}
use Rattle.judgements.specs.declared.TypeEnv.{TypeEnv}
use Rattle.judgements.specs.Replies.{meaning, env_of, ReadsRows}
use Rattle.numbering.specs.Lowest.{line_of, lower, lowest_with}
use Rattle.numbering.specs.Forms.{operand_count, members_at, operand_at, source_type, binds, body_operand, enters, inner_env, body_of, body_at, called_at, scope_at, looks, on_sequence, is_own}
use Rattle.numbering.specs.Walk.{CallsTold, Finds, FindsHere, Tests, Types}
use Rattle.numbering.proofs.Lowest.{lowest_append, lowest_beside, line_there}
use Rattle.numbering.proofs.Codes.{sequence_told, no_sequence_lem}
use Rattle.numbering.proofs.Parts.{parts}
use Rattle.std.specs.Prelude.{Result, Ok, Err}
use Rattle.memory.specs.declared.refusals.Refused.{Refused}

-- ---- the node itself

module _ (parents tables : List ℕ) (rows : ℕ) (t : List ℕ) (n : ℕ) (env : TypeEnv) where
  -- what typing answers for the first operand
  abbrev pub Sourced : Result FlatType Refused → Type 0
  Sourced r = Types parents tables rows (λ k. source_type k t n (env_of env)) r

  pub on_refused : {r : Result FlatType Refused} {f : Refused} → Sourced r → r ≡ Err f → Tests parents tables rows (λ k. on_sequence (source_type k t n (env_of env))) false
  on_refused d q = record { at = λ k h. no_sequence_lem (ap meaning (sym q) ∙ d.at k h) }

  pub on_typed : {r : Result FlatType Refused} {u : FlatType} {c : ℕ} → Sourced r → r ≡ Ok u → c ≡ outer_code (ty_of u) → Tests parents tables rows (λ k. on_sequence (source_type k t n (env_of env))) (eqb c 3)
  on_typed {u = u} d q e = record { at = λ k h. sequence_told (ty_of u) (ap meaning (sym q) ∙ d.at k h) e }

  module _ (form : ℕ) where
    abbrev Own : Bool → Type 0
    Own b = Tests parents tables rows (λ k. is_own k t n form (env_of env)) b

    pub own_always : (form ≡ 10) ⊎ (form ≡ 35) → Own true
    unfolding is_own
    own_always (inl e) = record { at = λ k h. rw e }
    own_always (inr e) = record { at = λ k h. rw e }

    module _ (a : (form ≡ 10) ⊎ (form ≡ 35) → ⊥) {c : Bool} (d : c ≡ looks form) where
      pub own_looks : {r : Bool} → c ≡ true → Tests parents tables rows (λ k. on_sequence (source_type k t n (env_of env))) r → Own r
      unfolding is_own
      own_looks e f = record { at = λ k h. f.at k h ∙ rw (ne_eqb form 10 (λ q. a (inl q)), ne_eqb form 35 (λ q. a (inr q)), ← d, e) }

      pub own_not : c ≡ false → Own c
      unfolding is_own
      own_not e = record { at = λ k h. rw (ne_eqb form 10 (λ q. a (inl q)), ne_eqb form 35 (λ q. a (inr q)), ← d, e) }

    module _ (best : ℕ) {c : Bool} (f : Own c) where
      pub own_found : (r : ℕ) → n < 768 → c ≡ true → line_of t r ≡ lower (line_of t best) (line_of t n)
          → FindsHere t parents tables rows (λ k. node_if n (is_own k t n form (env_of env))) best r
      unfolding node_if lowest_with
      own_found r l e d = record { at = λ k h. d ∙ rw (line_there t n l, ← f.at k h, e) }

      pub own_passed : c ≡ false → FindsHere t parents tables rows (λ k. node_if n (is_own k t n form (env_of env))) best best
      unfolding node_if lowest_with
      own_passed e = record { at = λ k h. rw (← f.at k h, e) }

-- ---- the body

pub calls_less : {t least : List ℕ} {k : Schema} {a n : ℕ} → a ≤ n → CallsTold t least k n → CallsTold t least k a
calls_less h c = record { at = λ m l e. c.at m (omega arith) e }

module _ (t least parents tables : List ℕ) (rows n form best : ℕ) (env : TypeEnv) where
  module _ {r : Result FlatType Refused} (d : Sourced parents tables rows t n env r) where
    pub body_refused : {f : Refused} → r ≡ Err f → Finds t least parents tables rows n (λ k. body_at k t n form (env_of env)) best best
    unfolding lowest_with for_type
    body_refused q = record { at = λ k h m. rw (← d.at k h, q) }

    module _ {u : FlatType} (q : r ≡ Ok u) {b : Bool} (e : b ≡ enters form (ty_of u)) where
      pub body_passed : b ≡ false → Finds t least parents tables rows n (λ k. body_at k t n form (env_of env)) best best
      unfolding lowest_with for_type body_of
      body_passed z = record { at = λ k h m. rw (← d.at k h, q, ← e, z) }

      pub body_found : (inner : TypeEnv) {i x : ℕ} → b ≡ true → env_of inner ≡ inner_env (word t n) form (env_of env) (ty_of u) → (i ≡ body_operand form) × (i < 8)
          → Finds t least parents tables rows n (λ k. operand_at k t n i (env_of inner)) best x
          → Finds t least parents tables rows n (λ k. body_at k t n form (env_of env)) best x
      unfolding for_type body_of
      body_found inner z f (g, l) y = record { at = λ k h m. y.at k h m ∙ rw (← d.at k h, q, ← e, z, ← f, ← g) }

  abbrev Scoped : ℕ → Type 0
  Scoped x = Finds t least parents tables rows n (λ k. scope_at k t n form (env_of env)) best x

  pub scope_called : {y : ℕ} (r : ℕ) → form ≡ word t n 0 → form ≡ 36 → y ≡ get_or least n 0 → line_of t r ≡ lower (line_of t best) (line_of t y) → Scoped r
  unfolding scope_at
  scope_called r g e p d = record {
    at = λ k h m.
        d ∙ ap (lower (line_of t best)) (ap (line_of t) p ∙ m.at n (omega arith) (sym g ∙ e)) ∙ sym (lowest_beside t (line_of t best) (called_at k t n))
        ∙ ap (lowest_with t (line_of t best)) (rw e);
  }

  module _ (a : form ≡ 36 → ⊥) {b : Bool} (e : b ≡ binds form) where
    pub scope_bound : {x : ℕ} → b ≡ true → Finds t least parents tables rows n (λ k. body_at k t n form (env_of env)) best x → Scoped x
    unfolding scope_at
    scope_bound z d = record { at = λ k h m. d.at k h m ∙ rw (ne_eqb form 36 a, ← e, z) }

    pub scope_none : b ≡ false → Scoped best
    unfolding scope_at lowest_with
    scope_none z = record { at = λ k h m. rw (ne_eqb form 36 a, ← e, z) }

-- ---- operands

module _ (t least parents tables : List ℕ) (rows n : ℕ) (env : TypeEnv) where
  module _ (i : ℕ) {w a : ℕ} (best : ℕ) (d : w ≡ word t n i) (e : a ≡ w) where
    pub operand_late : n ≤ a → Finds t least parents tables rows n (λ k. operand_at k t n i (env_of env)) best best
    unfolding outside outside_in lowest_with
    operand_late h = record { at = λ k l m. rw (← (e ∙ d), late_law t n a h) }

    pub operand_found : {x : ℕ} → a < n → Finds t least parents tables rows a (λ k. outside k (tree_at t a) (env_of env)) best x
        → Finds t least parents tables rows n (λ k. operand_at k t n i (env_of env)) best x
    operand_found h f = record { at = λ k l m. f.at k l (calls_less (omega arith) m) ∙ rw (← (e ∙ d), below_law t n a h) }

  -- i of the operands are done: those that are left come to what all come to
  pub record Left (count best i found : ℕ) : Type 0 where
    pub goes : (k : Schema) → ReadsRows parents tables rows k → CallsTold t least k (suc n)
        → lowest_with t (line_of t found) (members_at k t n (count - i) (i + 1) (env_of env)) ≡ lowest_with t (line_of t best) (members_at k t n count 1 (env_of env))

  members_by : (k : Schema) (c d i : ℕ) (Γ : Env Ty) → c ≡ suc d → members_at k t n c i Γ ≡ operand_at k t n i Γ ++ members_at k t n d (i + 1) Γ
  unfolding operands_in outside_of
  members_by k c d i Γ e = rw e

  members_none : (k : Schema) (c i : ℕ) (Γ : Env Ty) → c ≡ 0 → members_at k t n c i Γ ≡ []
  unfolding operands_in outside_of
  members_none k c i Γ e = rw e

  pub left_all : (count best : ℕ) → Left count best 0 best
  left_all count best = record { goes = λ k h m. ap (λ c. lowest_with t (line_of t best) (members_at k t n c 1 (env_of env))) (let e : count - 0 ≡ count = omega arith in e) }

  pub left_next : {count best i found x : ℕ} → Left count best i found → i < count
      → Finds t least parents tables rows n (λ k. operand_at k t n (i + 1) (env_of env)) found x → Left count best (i + 1) x
  left_next {count} {best} {i} {found} {x} l h d = record {
    goes = λ k s m.
        ap (λ o. lowest_with t o (members_at k t n (count - (i + 1)) (i + 1 + 1) (env_of env))) (d.at k s m)
        ∙ sym (lowest_append t (line_of t found) (operand_at k t n (i + 1) (env_of env)) (members_at k t n (count - (i + 1)) (i + 1 + 1) (env_of env)))
        ∙ ap (lowest_with t (line_of t found)) (sym (members_by k (count - i) (count - (i + 1)) (i + 1) (env_of env) (omega arith)))
        ∙ l.goes k s m;
  }

  pub left_done : {count best i found : ℕ} → Left count best i found → count ≤ i → Finds t least parents tables rows n (λ k. members_at k t n count 1 (env_of env)) best found
  unfolding lowest_with
  left_done {count} {best} {i} {found} l h = record {
    at = λ k s m. ap (lowest_with t (line_of t found)) (sym (members_none k (count - i) (i + 1) (env_of env) (omega arith))) ∙ l.goes k s m;
  }

-- ---- the whole node

pub node_found : (t least parents tables : List ℕ) (rows n best : ℕ) (env : TypeEnv) {form count outer inner r : ℕ}
    → form ≡ word t n 0 → (count ≡ operand_count form (word t n 5)) × (count ≤ 4)
    → Finds t least parents tables rows n (λ k. members_at k t n count 1 (env_of env)) best outer
    → Finds t least parents tables rows n (λ k. scope_at k t n form (env_of env)) outer inner
    → FindsHere t parents tables rows (λ k. node_if n (is_own k t n form (env_of env))) inner r
    → Finds t least parents tables rows n (λ k. outside k (tree_at t n) (env_of env)) best r
node_found t least parents tables rows n best env {form} {count} {outer} {inner} {r} e (c, l) a b d = record {
  at = λ k h m.
      let Γ : Env Ty = env_of env in
      let xs : List ℕ = members_at k t n count 1 Γ in
      let ys : List ℕ = scope_at k t n form Γ in
      let zs : List ℕ = node_if n (is_own k t n form Γ) in
      d.at k h
      ∙ ap (λ o. lowest_with t o zs) (b.at k h m ∙ ap (λ o. lowest_with t o ys) (a.at k h m) ∙ sym (lowest_append t (line_of t best) xs ys))
      ∙ sym (lowest_append t (line_of t best) (xs ++ ys) zs)
      ∙ ap (lowest_with t (line_of t best)) (append_assoc xs ys zs ∙ ap (λ i. members_at k t n i 1 Γ ++ (ys ++ zs)) c ∙ sym (parts k t n Γ form e));
}
