-- An operand has fewer levels than its node: one law for each range of codes. Assumes nothing.
use mathlib.Core.Path.{◌≡◌, sym, ap, ◌∙◌}
use mathlib.Core.Logic.{◌⊎◌}
use mathlib.Core.List.{List}
use Prim.Native.Nat.{ℕ, zero, suc, ◌+◌, ◌<◌, ◌≤◌, max}
use native.Mathlib.Omega.{arith}
use Rattle.ocl.specs.Forms.{Expr, Form, levels, levels_in, levels_of}
use Rattle.nodes.specs.Nodes.{word, operands_in, form_of, trees_below, tree_at}
use Rattle.nodes.proofs.Nodes.{tree_law, unary_range, binary_range, connective_range, quantified_range, assemble_range, attribute_range, is_undef_code, conditional_code, let_code, iterate_code, call_code}

-- a tree has a level at least
pub some_level : (e : Expr) → 1 ≤ levels e
unfolding levels
some_level (Expr.node n f) = omega arith

left_of : (a b : ℕ) → a ≤ max a b
left_of a b = omega arith

right_of : (a b : ℕ) → b ≤ max a b
right_of a b = omega arith

module _ (t : List ℕ) (n : ℕ) where
  by_form : (k : ℕ) {f : Form} → k ≡ word t n 0 → form_of (trees_below t n) (word t n) k ≡ f → levels (tree_at t n) ≡ suc (levels_in f)
  unfolding levels
  by_form k e h = ap levels (tree_law t n) ∙ ap (λ (x : Form). suc (levels_in x)) (ap (form_of (trees_below t n) (word t n)) (sym e) ∙ h)

  operand_in : (c k i : ℕ) → i < c → levels (trees_below t n (word t n (k + i))) ≤ levels_of (operands_in (trees_below t n) (word t n) c k)
  unfolding levels operands_in
  operand_in zero k i h = absurd (omega arith)
  operand_in (suc c) k zero h =
      let e : k + 0 ≡ k = omega arith in
      rw e (left_of (levels (trees_below t n (word t n k))) (levels_of (operands_in (trees_below t n) (word t n) c (k + 1))))
  operand_in (suc c) k (suc i) h =
      let a = operand_in c (k + 1) i (omega arith) in
      let e : k + 1 + i ≡ k + suc i = omega arith in
      let b = right_of (levels (trees_below t n (word t n k))) (levels_of (operands_in (trees_below t n) (word t n) c (k + 1))) in
      let d : levels (trees_below t n (word t n (k + suc i))) ≤ levels_of (operands_in (trees_below t n) (word t n) c (k + 1)) = rw e at a in
      omega arith

  module _ (k : ℕ) (e : k ≡ word t n 0) where
    pub unary_levels : 7 ≤ k → k < 13 → levels (trees_below t n (word t n 1)) < levels (tree_at t n)
    unfolding levels
    unary_levels l h = let a = by_form k e (unary_range (trees_below t n) (word t n) k l h) in omega arith

    pub binary_levels : (k ≡ 37) ⊎ ((13 ≤ k) × (k < 23)) → (levels (trees_below t n (word t n 1)) < levels (tree_at t n)) × (levels (trees_below t n (word t n 2)) < levels (tree_at t n))
    unfolding levels
    binary_levels h = let a = by_form k e (binary_range (trees_below t n) (word t n) k h) in (omega arith, omega arith)

    pub connective_levels : 23 ≤ k → k < 25 → (levels (trees_below t n (word t n 1)) < levels (tree_at t n)) × (levels (trees_below t n (word t n 2)) < levels (tree_at t n))
    unfolding levels
    connective_levels l h = let a = by_form k e (connective_range (trees_below t n) (word t n) k l h) in (omega arith, omega arith)

    pub quantified_levels : 25 ≤ k → k < 27 → (levels (trees_below t n (word t n 1)) < levels (tree_at t n)) × (levels (trees_below t n (word t n 2)) < levels (tree_at t n))
    unfolding levels
    quantified_levels l h = let a = by_form k e (quantified_range (trees_below t n) (word t n) k l h) in (omega arith, omega arith)

    pub assemble_levels : 27 ≤ k → k < 30 → word t n 5 ≤ 4 → (i : ℕ) → i < word t n 5 → levels (trees_below t n (word t n (i + 1))) < levels (tree_at t n)
    unfolding levels
    assemble_levels l h c i m =
        let a = by_form k e (assemble_range (trees_below t n) (word t n) k l h c) in
        let d : 1 + i ≡ i + 1 = omega arith in
        let b : levels (trees_below t n (word t n (i + 1))) ≤ levels_of (operands_in (trees_below t n) (word t n) (word t n 5) 1) = rw d at (operand_in (word t n 5) 1 i m) in
        omega arith

    pub is_undef_levels : k ≡ 30 → levels (trees_below t n (word t n 1)) < levels (tree_at t n)
    unfolding levels
    is_undef_levels h = let a = by_form k e (ap (form_of (trees_below t n) (word t n)) h ∙ is_undef_code (trees_below t n) (word t n)) in omega arith

    pub conditional_levels : k ≡ 31 → (levels (trees_below t n (word t n 1)) < levels (tree_at t n)) × (levels (trees_below t n (word t n 2)) < levels (tree_at t n)) × (levels (trees_below t n (word t n 3)) < levels (tree_at t n))
    unfolding levels
    conditional_levels h = let a = by_form k e (ap (form_of (trees_below t n) (word t n)) h ∙ conditional_code (trees_below t n) (word t n)) in (omega arith, omega arith, omega arith)

    pub let_levels : k ≡ 32 → (levels (trees_below t n (word t n 1)) < levels (tree_at t n)) × (levels (trees_below t n (word t n 2)) < levels (tree_at t n))
    unfolding levels
    let_levels h = let a = by_form k e (ap (form_of (trees_below t n) (word t n)) h ∙ let_code (trees_below t n) (word t n)) in (omega arith, omega arith)

    pub attribute_levels : 33 ≤ k → k < 35 → levels (trees_below t n (word t n 1)) < levels (tree_at t n)
    unfolding levels
    attribute_levels l h = let a = by_form k e (attribute_range (trees_below t n) (word t n) k l h) in omega arith

    pub iterate_levels : k ≡ 35 → (levels (trees_below t n (word t n 1)) < levels (tree_at t n)) × (levels (trees_below t n (word t n 2)) < levels (tree_at t n)) × (levels (trees_below t n (word t n 3)) < levels (tree_at t n))
    unfolding levels
    iterate_levels h = let a = by_form k e (ap (form_of (trees_below t n) (word t n)) h ∙ iterate_code (trees_below t n) (word t n)) in (omega arith, omega arith, omega arith)

    pub call_levels : k ≡ 36 → (levels (trees_below t n (word t n 1)) < levels (tree_at t n)) × (levels (trees_below t n (word t n 2)) < levels (tree_at t n))
    unfolding levels
    call_levels h = let a = by_form k e (ap (form_of (trees_below t n) (word t n)) h ∙ call_code (trees_below t n) (word t n)) in (omega arith, omega arith)
