-- A node's tree is its form over smaller trees, and one range of codes is one constructor: what a match with ranges needs. Assumes nothing.
use mathlib.Core.Path.{◌≡◌, refl}
use mathlib.Core.Bool.{Bool, true, false}
use mathlib.Core.Logic.{◌⊎◌, inl, inr}
use mathlib.Core.List.{List}
use Prim.Native.Nat.{ℕ, zero, suc, ◌<◌, ◌≤◌}
use native.Mathlib.Omega.{arith}
use lib.Dec.{eqb}
use borrow.Author.Tests.{eq-eqb, ne_eqb, eqb-true, eqb-false, lt-ltb, le-ltb}
use Rattle.ocl.specs.Forms.{Expr, node, leaf, unary, binary, connective, is_undef, conditional, let_in, attribute, call, quantified, iterate, assemble, undef}
use Rattle.nodes.specs.Nodes.{word, variable, class_in, leaf_of, unary_of, binary_of, connective_of, quantifier_of, kind_of, access_of, operands_in, form_of, trees_below, tree_at}
use Rattle.types.specs.Word.{type_in}

-- ---- trees

pub tree_law : (t : List ℕ) (n : ℕ) → tree_at t n ≡ node n (form_of (trees_below t n) (word t n) (word t n 0))
unfolding tree_at trees_below
tree_law t n = rw (eq-eqb n n refl)

below_step : (t : List ℕ) (n a : ℕ) → a < suc n → (a < n → trees_below t n a ≡ tree_at t a) → (b : Bool) → eqb a n ≡ b → trees_below t (suc n) a ≡ tree_at t a
unfolding tree_at trees_below
below_step t n a h ih true e = let p : a ≡ n = eqb-true a n e in rw p (rw (eq-eqb n n refl))
below_step t n a h ih false e = let q : a < n = (let ne = eqb-false a n e in omega arith) in rw e (ih q)

-- an operand that is smaller is its own tree
pub below_law : (t : List ℕ) (n a : ℕ) → a < n → trees_below t n a ≡ tree_at t a
below_law t zero a h = absurd (omega arith)
below_law t (suc n) a h = below_step t n a h (below_law t n a) (eqb a n) refl

-- and one that is not counts as `undef`
pub late_law : (t : List ℕ) (n a : ℕ) → n ≤ a → trees_below t n a ≡ node 0 (leaf undef)
unfolding trees_below
late_law t zero a h = refl
late_law t (suc n) a h = let q : a ≡ n → ⊥ = (λ e. omega arith) in rw (ne_eqb a n q) (late_law t n a (omega arith))

-- ---- ranges of codes

module _ (f : ℕ → Expr) (w : ℕ → ℕ) (k : ℕ) where
  pub no_form : 37 < k → form_of f w k ≡ leaf undef
  unfolding form_of
  no_form h = rw (lt-ltb 37 k h)

  pub leaf_range : k < 7 → form_of f w k ≡ leaf (leaf_of k w)
  unfolding form_of
  leaf_range h = rw (le-ltb 37 k (omega arith), lt-ltb k 7 h)

  pub unary_range : 7 ≤ k → k < 13 → form_of f w k ≡ unary (unary_of k w) (f (w 1))
  unfolding form_of
  unary_range l h = rw (le-ltb 37 k (omega arith), le-ltb k 7 l, lt-ltb k 13 h)

  strict_range : 13 ≤ k → k < 23 → form_of f w k ≡ binary (binary_of k) (f (w 1)) (f (w 2))
  unfolding form_of
  strict_range l h = rw (le-ltb 37 k (omega arith), le-ltb k 7 (omega arith), le-ltb k 13 l, lt-ltb k 23 h)

  pub binary_range : (k ≡ 37) ⊎ ((13 ≤ k) × (k < 23)) → form_of f w k ≡ binary (binary_of k) (f (w 1)) (f (w 2))
  unfolding form_of
  binary_range (inl e) = rw e
  binary_range (inr x) = strict_range x.0 x.1

  pub connective_range : 23 ≤ k → k < 25 → form_of f w k ≡ connective (connective_of k) (f (w 1)) (f (w 2))
  unfolding form_of
  connective_range l h = rw (le-ltb 37 k (omega arith), le-ltb k 7 (omega arith), le-ltb k 13 (omega arith), le-ltb k 23 l, lt-ltb k 25 h)

  pub quantified_range : 25 ≤ k → k < 27 → form_of f w k ≡ quantified (quantifier_of k) (variable (w 3)) (f (w 1)) (f (w 2))
  unfolding form_of
  quantified_range l h = rw (le-ltb 37 k (omega arith), le-ltb k 7 (omega arith), le-ltb k 13 (omega arith), le-ltb k 23 (omega arith), le-ltb k 25 l, lt-ltb k 27 h)

  pub assemble_range : 27 ≤ k → k < 30 → w 5 ≤ 4 → form_of f w k ≡ assemble (kind_of k) (operands_in f w (w 5) 1)
  unfolding form_of
  assemble_range l h c = rw (le-ltb 37 k (omega arith), le-ltb k 7 (omega arith), le-ltb k 13 (omega arith), le-ltb k 23 (omega arith), le-ltb k 25 (omega arith), le-ltb k 27 l, lt-ltb k 30 h, le-ltb 4 (w 5) c)

  pub attribute_range : 33 ≤ k → k < 35 → form_of f w k ≡ attribute (access_of k) (w 2) (f (w 1))
  unfolding form_of
  attribute_range l h =
      rw (le-ltb 37 k (omega arith), le-ltb k 7 (omega arith), le-ltb k 13 (omega arith), le-ltb k 23 (omega arith), le-ltb k 25 (omega arith), le-ltb k 27 (omega arith), le-ltb k 30 (omega arith), ne_eqb k 30 (λ e. omega arith), ne_eqb k 31 (λ e. omega arith), ne_eqb k 32 (λ e. omega arith), lt-ltb k 35 h)

-- ---- single codes

module _ (f : ℕ → Expr) (w : ℕ → ℕ) where
  -- more than four operands, which no accepted sheet has
  pub assemble_over : (k : ℕ) → 27 ≤ k → k < 30 → 4 < w 5 → form_of f w k ≡ leaf undef
  unfolding form_of
  assemble_over k l h c = rw (le-ltb 37 k (omega arith), le-ltb k 7 (omega arith), le-ltb k 13 (omega arith), le-ltb k 23 (omega arith), le-ltb k 25 (omega arith), le-ltb k 27 l, lt-ltb k 30 h, lt-ltb 4 (w 5) c)

  pub is_undef_code : form_of f w 30 ≡ is_undef (f (w 1))
  unfolding form_of
  is_undef_code = refl

  pub conditional_code : form_of f w 31 ≡ conditional (f (w 1)) (f (w 2)) (f (w 3))
  unfolding form_of
  conditional_code = refl

  pub let_code : form_of f w 32 ≡ let_in (variable (w 3)) (f (w 1)) (f (w 2))
  unfolding form_of
  let_code = refl

  pub iterate_code : form_of f w 35 ≡ iterate (variable (w 4)) (variable (w 5)) (type_in (w 6)) (f (w 1)) (f (w 2)) (f (w 3))
  unfolding form_of
  iterate_code = refl

  pub call_code : form_of f w 36 ≡ call (class_in (w 3)) (type_in (w 4)) (f (w 1)) (f (w 2))
  unfolding form_of
  call_code = refl
