-- What a form's code says. Assumes nothing.
use mathlib.Core.Path.{◌≡◌, refl, ◌∙◌}
use mathlib.Core.Bool.{true, false, not}
use mathlib.Core.Logic.{◌⊎◌, inl, inr}
use Prim.Native.Nat.{ℕ, ◌<◌, ◌≤◌}
use native.Mathlib.Omega.{arith}
use native.Mathlib.Decide.{dec_lt}
use lib.Dec.{eqb, ltb}
use borrow.Author.Tests.{lt-ltb, le-ltb, ne_eqb}
use Rattle.std.specs.Prelude.{if◌then◌else◌}
use Rattle.ocl.specs.Types.{set, sequence, bag, kind_code, same_kind, Letter, collection, exactly, Ty, void, simple, around}
use Rattle.ocl.specs.Environment.{Env, extend}
use Rattle.ocl.specs.Typing.{Answer, typed, refused, on_collection}
use Rattle.ocl.specs.Profile.{is_q, is_sequence}
use Rattle.types.specs.Parts.{code_of, outer_code, member_type}
use Rattle.types.specs.Word.{type_in}
use Rattle.nodes.specs.Nodes.{variable}
use Rattle.numbering.specs.Forms.{member_count, late_count, operand_count, binds, body_operand, enters, inner_env, looks, on_sequence}

code_some : (u : Ty) → not (eqb (outer_code u) 0) ≡ on_collection u false (λ l m. true)
unfolding outer_code code_of on_collection
code_some void = refl
code_some (simple b) = refl
code_some (around collection u) = refl
code_some (around (exactly set) u) = refl
code_some (around (exactly sequence) u) = refl
code_some (around (exactly bag) u) = refl

-- ---- operands

few_members : (c z : ℕ) → z ≡ member_count c → z ≤ 4
unfolding member_count
few_members c z e = by (dec_lt 4 c)
  where
    by : Dec (4 < c) → z ≤ 4
    by (yes h) = let q : z ≡ 0 = e ∙ (unfold member_count in rw (lt-ltb 4 c h)) in omega arith
    by (no h) = let q : z ≡ c = e ∙ (unfold member_count in rw (le-ltb 4 c (omega arith))) in omega arith

module _ (form : ℕ) where
  pub three_late : form ≡ 31 → (3 ≡ late_count form) × (3 ≤ 4)
  unfolding late_count
  three_late e = (rw e, omega arith)

  pub two_late : (form ≡ 35) ⊎ (form ≡ 37) → (2 ≡ late_count form) × (2 ≤ 4)
  unfolding late_count
  two_late (inl e) = (rw e, omega arith)
  two_late (inr e) = (rw e, omega arith)

  pub one_late : (form ≡ 31 → ⊥) → ((form ≡ 35) ⊎ (form ≡ 37) → ⊥) → (1 ≡ late_count form) × (1 ≤ 4)
  unfolding late_count
  one_late a b = (rw (ne_eqb form 31 a, ne_eqb form 35 (λ e. b (inl e)), ne_eqb form 37 (λ e. b (inr e))), omega arith)

  module _ (c : ℕ) where
    pub no_form : 37 < form → (0 ≡ operand_count form c) × (0 ≤ 4)
    unfolding operand_count
    no_form h = (rw (lt-ltb 37 form h), omega arith)

    module _ (h : form ≤ 37) where
      pub leaf_count : form < 7 → (0 ≡ operand_count form c) × (0 ≤ 4)
      unfolding operand_count
      leaf_count l = (rw (le-ltb 37 form h, lt-ltb form 7 l), omega arith)

      pub unary_count : 7 ≤ form → form < 13 → (1 ≡ operand_count form c) × (1 ≤ 4)
      unfolding operand_count
      unary_count l m = (rw (le-ltb 37 form h, le-ltb form 7 l, lt-ltb form 13 m), omega arith)

      pub binary_count : 13 ≤ form → form < 25 → (2 ≡ operand_count form c) × (2 ≤ 4)
      unfolding operand_count
      binary_count l m = (rw (le-ltb 37 form h, le-ltb form 7 (omega arith), le-ltb form 13 l, lt-ltb form 25 m), omega arith)

      pub quantified_count : 25 ≤ form → form < 27 → (1 ≡ operand_count form c) × (1 ≤ 4)
      unfolding operand_count
      quantified_count l m = (rw (le-ltb 37 form h, le-ltb form 7 (omega arith), le-ltb form 13 (omega arith), le-ltb form 25 l, lt-ltb form 27 m), omega arith)

      pub coll_count : {z : ℕ} → 27 ≤ form → form < 30 → z ≡ (if ltb 4 c then 0 else c) → (z ≡ operand_count form c) × (z ≤ 4)
      unfolding operand_count member_count
      coll_count {z} l m e =
          (e ∙ rw (le-ltb 37 form h, le-ltb form 7 (omega arith), le-ltb form 13 (omega arith), le-ltb form 25 (omega arith), le-ltb form 27 l, lt-ltb form 30 m), few_members c z e)

      pub late_is : {z : ℕ} → 30 ≤ form → (z ≡ late_count form) × (z ≤ 4) → (z ≡ operand_count form c) × (z ≤ 4)
      unfolding operand_count
      late_is l (p, q) =
          (p ∙ rw (le-ltb 37 form h, le-ltb form 7 (omega arith), le-ltb form 13 (omega arith), le-ltb form 25 (omega arith), le-ltb form 27 (omega arith), le-ltb form 30 l), q)

  -- ---- bodies

  pub binds_one : (form ≡ 32) ⊎ (form ≡ 35) → true ≡ binds form
  unfolding binds
  binds_one (inl e) = rw e
  binds_one (inr e) = rw e

  pub binds_quantified : 25 ≤ form → form < 27 → true ≡ binds form
  unfolding binds
  binds_quantified l h = rw (ne_eqb form 32 (λ e. omega arith), ne_eqb form 35 (λ e. omega arith), le-ltb form 25 l, lt-ltb form 27 h)

  pub binds_early : form < 25 → false ≡ binds form
  unfolding binds
  binds_early h = rw (ne_eqb form 32 (λ e. omega arith), ne_eqb form 35 (λ e. omega arith), lt-ltb form 25 h)

  pub binds_none : ((form ≡ 32) ⊎ (form ≡ 35) → ⊥) → 27 ≤ form → false ≡ binds form
  unfolding binds
  binds_none a h = rw (ne_eqb form 32 (λ e. a (inl e)), ne_eqb form 35 (λ e. a (inr e)), le-ltb form 25 (omega arith), le-ltb form 27 h)

  pub body_third : form ≡ 35 → (3 ≡ body_operand form) × (3 < 8)
  unfolding body_operand
  body_third e = (rw e, omega arith)

  pub body_second : (form ≡ 35 → ⊥) → (2 ≡ body_operand form) × (2 < 8)
  unfolding body_operand
  body_second e = (rw (ne_eqb form 35 e), omega arith)

  pub enters_let : (u : Ty) → form ≡ 32 → eqb form 32 ≡ enters form u
  unfolding enters
  enters_let u e = rw e

  pub enters_code : {c : ℕ} (u : Ty) → (form ≡ 32 → ⊥) → c ≡ outer_code u → not (eqb c 0) ≡ enters form u
  unfolding enters
  enters_code u a e = rw (ne_eqb form 32 a, e) (code_some u)

  module _ (w : ℕ → ℕ) (Γ : Env Ty) (u : Ty) where
    pub inner_let : {Δ : Env Ty} {i : ℕ} → form ≡ 32 → (i < 16) × (i ≡ variable (w 3)) → Δ ≡ extend Γ i u → Δ ≡ inner_env w form Γ u
    unfolding inner_env
    inner_let e (l, p) d = rw (d, p, e)

    module _ (a : form ≡ 32 → ⊥) {m : Ty} (y : m ≡ member_type u) where
      pub inner_member : {Δ : Env Ty} {i : ℕ} → (form ≡ 35 → ⊥) → (i < 16) × (i ≡ variable (w 3)) → Δ ≡ extend Γ i m → Δ ≡ inner_env w form Γ u
      unfolding inner_env
      inner_member b (l, p) d = rw (d, p, y, ne_eqb form 32 a, ne_eqb form 35 b)

      pub inner_iter : {Δ Θ : Env Ty} {i j x : ℕ} {v : Ty} → form ≡ 35 → (i < 16) × (i ≡ variable (w 4)) → Θ ≡ extend Γ i m
          → (j < 16) × (j ≡ variable (w 5)) → x ≡ w 6 → v ≡ type_in x → Δ ≡ extend Θ j v → Δ ≡ inner_env w form Γ u
      unfolding inner_env
      inner_iter b (l, p) d (o, q) f g e = rw (e, d, p, y, q, g, f, b)

  -- ---- the node itself

  pub looks_collect : form ≡ 34 → true ≡ looks form
  unfolding looks
  looks_collect e = rw e

  pub looks_between : 21 ≤ form → form < 23 → true ≡ looks form
  unfolding looks
  looks_between l h = rw (ne_eqb form 34 (λ e. omega arith), le-ltb form 21 l, lt-ltb form 23 h)

  pub looks_early : form < 21 → false ≡ looks form
  unfolding looks
  looks_early h = rw (ne_eqb form 34 (λ e. omega arith), lt-ltb form 21 h)

  pub looks_late : (form ≡ 34 → ⊥) → 23 ≤ form → false ≡ looks form
  unfolding looks
  looks_late a h = rw (ne_eqb form 34 a, le-ltb form 21 (omega arith), le-ltb form 23 h)

letter_sequence : (l : Letter) → eqb (code_of l) 3 ≡ is_q l
unfolding code_of is_q same_kind kind_code
letter_sequence collection = refl
letter_sequence (exactly set) = refl
letter_sequence (exactly sequence) = refl
letter_sequence (exactly bag) = refl

code_sequence : (u : Ty) → eqb (outer_code u) 3 ≡ is_sequence u
unfolding outer_code is_sequence on_collection
code_sequence void = refl
code_sequence (simple b) = refl
code_sequence (around l u) = letter_sequence l

pub sequence_told : {c : ℕ} (u : Ty) {a : Answer} → typed u ≡ a → c ≡ outer_code u → eqb c 3 ≡ on_sequence a
unfolding on_sequence
sequence_told u e d = rw (← e, d) (code_sequence u)

pub no_sequence_lem : {n p : ℕ} {a : Answer} → refused n p ≡ a → false ≡ on_sequence a
unfolding on_sequence
no_sequence_lem e = rw (← e)
