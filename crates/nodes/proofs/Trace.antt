-- What evaluation, with where undefined arose, makes of a node by the range that its code is in: one law for each. Assumes nothing.
use mathlib.Core.Path.{◌≡◌, sym, ap, ◌∙◌}
use mathlib.Core.Logic.{◌⊎◌}
use mathlib.Core.List.{List}
use Prim.Native.Nat.{ℕ, ◌<◌, ◌≤◌}
use Rattle.ocl.specs.Model.{Model}
use Rattle.ocl.specs.Forms.{Form, undef}
use Rattle.ocl.specs.Marks.{Mark}
use Rattle.ocl.specs.Trace.{Trace, leaf_trace, unary_trace, binary_trace, connective_trace, is_undef_trace, conditional_trace, let_trace, attribute_trace, call_trace, quantified_trace, iterate_trace, assemble_trace, tick_t, trace, form_trace, operands_trace}
use Rattle.nodes.specs.Nodes.{word, variable, class_in, leaf_of, unary_of, binary_of, connective_of, quantifier_of, kind_of, access_of, operands_in, form_of, trees_below, tree_at}
use Rattle.nodes.proofs.Nodes.{tree_law, below_law, late_law, no_form, leaf_range, unary_range, binary_range, connective_range, quantified_range, assemble_range, attribute_range, assemble_over, is_undef_code, conditional_code, let_code, iterate_code, call_code}

-- the evaluation of operand k of node n
unfoldable pub operand_trace : Model → (ℕ → Mark) → List ℕ → ℕ → ℕ → Trace
operand_trace s mark t n k = trace s mark (trees_below t n (word t n k))

module _ (s : Model) (mark : ℕ → Mark) (t : List ℕ) (n : ℕ) where
  by_form : (k : ℕ) {f : Form} → k ≡ word t n 0 → form_of (trees_below t n) (word t n) k ≡ f → trace s mark (tree_at t n) ≡ tick_t (form_trace s mark n f)
  unfolding trace
  by_form k e h = ap (trace s mark) (tree_law t n) ∙ ap (λ (x : Form). tick_t (form_trace s mark n x)) (ap (form_of (trees_below t n) (word t n)) (sym e) ∙ h)

  module _ (k : ℕ) (e : k ≡ word t n 0) where
    pub leaf_trace_lem : (h : k < 7) → trace s mark (tree_at t n) ≡ tick_t (leaf_trace s n (leaf_of k (word t n)))
    unfolding trace operand_trace
    leaf_trace_lem h = by_form k e (leaf_range (trees_below t n) (word t n) k h)

    pub unary_trace_lem : (l : 7 ≤ k) → (h : k < 13) → trace s mark (tree_at t n) ≡ tick_t (unary_trace s n (unary_of k (word t n)) (operand_trace s mark t n 1))
    unfolding trace operand_trace
    unary_trace_lem l h = by_form k e (unary_range (trees_below t n) (word t n) k l h)

    pub binary_trace_lem : (k ≡ 37) ⊎ ((13 ≤ k) × (k < 23)) → trace s mark (tree_at t n) ≡ tick_t (binary_trace n (mark n) (binary_of k) (operand_trace s mark t n 1) (operand_trace s mark t n 2))
    unfolding trace operand_trace
    binary_trace_lem h = by_form k e (binary_range (trees_below t n) (word t n) k h)

    pub connective_trace_lem : (l : 23 ≤ k) → (h : k < 25) → trace s mark (tree_at t n) ≡ tick_t (connective_trace (connective_of k) (operand_trace s mark t n 1) (operand_trace s mark t n 2))
    unfolding trace operand_trace
    connective_trace_lem l h = by_form k e (connective_range (trees_below t n) (word t n) k l h)

    pub quantified_trace_lem : (l : 25 ≤ k) → (h : k < 27) → trace s mark (tree_at t n) ≡ tick_t (quantified_trace (quantifier_of k) (variable (word t n 3)) (operand_trace s mark t n 1) (operand_trace s mark t n 2))
    unfolding trace operand_trace
    quantified_trace_lem l h = by_form k e (quantified_range (trees_below t n) (word t n) k l h)

    pub assemble_trace_lem : (l : 27 ≤ k) → (h : k < 30) → (c : word t n 5 ≤ 4) → trace s mark (tree_at t n) ≡ tick_t (assemble_trace n (kind_of k) (operands_trace s mark (operands_in (trees_below t n) (word t n) (word t n 5) 1)))
    unfolding trace operand_trace
    assemble_trace_lem l h c = by_form k e (assemble_range (trees_below t n) (word t n) k l h c)

    pub is_undef_trace_lem : (h : k ≡ 30) → trace s mark (tree_at t n) ≡ tick_t (is_undef_trace (operand_trace s mark t n 1))
    unfolding trace operand_trace
    is_undef_trace_lem h = by_form k e (ap (form_of (trees_below t n) (word t n)) h ∙ is_undef_code (trees_below t n) (word t n))

    pub conditional_trace_lem : (h : k ≡ 31) → trace s mark (tree_at t n) ≡ tick_t (conditional_trace (operand_trace s mark t n 1) (operand_trace s mark t n 2) (operand_trace s mark t n 3))
    unfolding trace operand_trace
    conditional_trace_lem h = by_form k e (ap (form_of (trees_below t n) (word t n)) h ∙ conditional_code (trees_below t n) (word t n))

    pub let_trace_lem : (h : k ≡ 32) → trace s mark (tree_at t n) ≡ tick_t (let_trace (variable (word t n 3)) (operand_trace s mark t n 1) (operand_trace s mark t n 2))
    unfolding trace operand_trace
    let_trace_lem h = by_form k e (ap (form_of (trees_below t n) (word t n)) h ∙ let_code (trees_below t n) (word t n))

    pub attribute_trace_lem : (l : 33 ≤ k) → (h : k < 35) → trace s mark (tree_at t n) ≡ tick_t (attribute_trace s n (access_of k) (mark n) (operand_trace s mark t n 1))
    unfolding trace operand_trace
    attribute_trace_lem l h = by_form k e (attribute_range (trees_below t n) (word t n) k l h)

    pub iterate_trace_lem : (h : k ≡ 35) → trace s mark (tree_at t n) ≡ tick_t (iterate_trace (variable (word t n 4)) (variable (word t n 5)) (operand_trace s mark t n 1) (operand_trace s mark t n 2) (operand_trace s mark t n 3))
    unfolding trace operand_trace
    iterate_trace_lem h = by_form k e (ap (form_of (trees_below t n) (word t n)) h ∙ iterate_code (trees_below t n) (word t n))

    pub call_trace_lem : (h : k ≡ 36) → trace s mark (tree_at t n) ≡ tick_t (call_trace s (class_in (word t n 3)) (operand_trace s mark t n 1) (operand_trace s mark t n 2))
    unfolding trace operand_trace
    call_trace_lem h = by_form k e (ap (form_of (trees_below t n) (word t n)) h ∙ call_code (trees_below t n) (word t n))

    pub over_trace : (l : 27 ≤ k) → (h : k < 30) → (c : 4 < word t n 5) → trace s mark (tree_at t n) ≡ tick_t (leaf_trace s n undef)
    unfolding trace operand_trace
    over_trace l h c = by_form k e (assemble_over (trees_below t n) (word t n) k l h c)

    pub none_trace : (h : 37 < k) → trace s mark (tree_at t n) ≡ tick_t (leaf_trace s n undef)
    unfolding trace operand_trace
    none_trace h = by_form k e (no_form (trees_below t n) (word t n) k h)

  -- operand k is node a, a smaller one
  pub operand_trace_lem : (k a : ℕ) → a ≡ word t n k → a < n → operand_trace s mark t n k ≡ trace s mark (tree_at t a)
  unfolding operand_trace
  operand_trace_lem k a e h = rw (← e, below_law t n a h)

  -- one that is not smaller, which no accepted sheet has: one step, undefined
  pub late_trace : (k a : ℕ) → a ≡ word t n k → n ≤ a → operand_trace s mark t n k ≡ tick_t (leaf_trace s 0 undef)
  unfolding operand_trace trace
  late_trace k a e h = rw (← e, late_law t n a h)
