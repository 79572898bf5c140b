-- What typing makes of a node by the range that its code is in: one law for each. Assumes nothing.
use mathlib.Core.Path.{◌≡◌, sym, ap, ◌∙◌}
use mathlib.Core.Logic.{◌⊎◌}
use mathlib.Core.List.{List}
use Prim.Native.Nat.{ℕ, ◌<◌, ◌≤◌}
use Rattle.ocl.specs.Model.{Schema}
use Rattle.ocl.specs.Forms.{Form, undef}
use Rattle.ocl.specs.Typing.{Typing, leaf_typing, unary_typing, binary_typing, connective_typing, is_undef_typing, conditional_typing, let_typing, attribute_typing, call_typing, quantified_typing, iterate_typing, assemble_typing, typing, form_typing, operands_typing as members_typing}
use Rattle.types.specs.Word.{type_in}
use Rattle.nodes.specs.Nodes.{word, variable, class_in, leaf_of, unary_of, binary_of, kind_of, access_of, operands_in, form_of, trees_below, tree_at}
use Rattle.nodes.proofs.Nodes.{tree_law, below_law, late_law, no_form, leaf_range, unary_range, binary_range, connective_range, quantified_range, assemble_range, attribute_range, assemble_over, is_undef_code, conditional_code, let_code, iterate_code, call_code}

-- the typing of operand k of node n
unfoldable pub operand_typing : Schema → List ℕ → ℕ → ℕ → Typing
operand_typing s t n k = typing s (trees_below t n (word t n k))

module _ (s : Schema) (t : List ℕ) (n : ℕ) where
  by_form : (k : ℕ) {f : Form} → k ≡ word t n 0 → form_of (trees_below t n) (word t n) k ≡ f → typing s (tree_at t n) ≡ form_typing s n f
  unfolding typing
  by_form k e h = ap (typing s) (tree_law t n) ∙ ap (form_typing s n) (ap (form_of (trees_below t n) (word t n)) (sym e) ∙ h)

  module _ (k : ℕ) (e : k ≡ word t n 0) where
    pub leaf_typing_lem : (h : k < 7) → typing s (tree_at t n) ≡ leaf_typing n (leaf_of k (word t n))
    unfolding typing operand_typing
    leaf_typing_lem h = by_form k e (leaf_range (trees_below t n) (word t n) k h)

    pub unary_typing_lem : (l : 7 ≤ k) → (h : k < 13) → typing s (tree_at t n) ≡ unary_typing s n (unary_of k (word t n)) (operand_typing s t n 1)
    unfolding typing operand_typing
    unary_typing_lem l h = by_form k e (unary_range (trees_below t n) (word t n) k l h)

    pub binary_typing_lem : (k ≡ 37) ⊎ ((13 ≤ k) × (k < 23)) → typing s (tree_at t n) ≡ binary_typing s n (binary_of k) (operand_typing s t n 1) (operand_typing s t n 2)
    unfolding typing operand_typing
    binary_typing_lem h = by_form k e (binary_range (trees_below t n) (word t n) k h)

    pub connective_typing_lem : (l : 23 ≤ k) → (h : k < 25) → typing s (tree_at t n) ≡ connective_typing s n (operand_typing s t n 1) (operand_typing s t n 2)
    unfolding typing operand_typing
    connective_typing_lem l h = by_form k e (connective_range (trees_below t n) (word t n) k l h)

    pub quantified_typing_lem : (l : 25 ≤ k) → (h : k < 27) → typing s (tree_at t n) ≡ quantified_typing s n (variable (word t n 3)) (operand_typing s t n 1) (operand_typing s t n 2)
    unfolding typing operand_typing
    quantified_typing_lem l h = by_form k e (quantified_range (trees_below t n) (word t n) k l h)

    pub assemble_typing_lem : (l : 27 ≤ k) → (h : k < 30) → (c : word t n 5 ≤ 4) → typing s (tree_at t n) ≡ assemble_typing n (kind_of k) (members_typing s n (operands_in (trees_below t n) (word t n) (word t n 5) 1))
    unfolding typing operand_typing
    assemble_typing_lem l h c = by_form k e (assemble_range (trees_below t n) (word t n) k l h c)

    pub is_undef_typing_lem : (h : k ≡ 30) → typing s (tree_at t n) ≡ is_undef_typing (operand_typing s t n 1)
    unfolding typing operand_typing
    is_undef_typing_lem h = by_form k e (ap (form_of (trees_below t n) (word t n)) h ∙ is_undef_code (trees_below t n) (word t n))

    pub conditional_typing_lem : (h : k ≡ 31) → typing s (tree_at t n) ≡ conditional_typing s n (operand_typing s t n 1) (operand_typing s t n 2) (operand_typing s t n 3)
    unfolding typing operand_typing
    conditional_typing_lem h = by_form k e (ap (form_of (trees_below t n) (word t n)) h ∙ conditional_code (trees_below t n) (word t n))

    pub let_typing_lem : (h : k ≡ 32) → typing s (tree_at t n) ≡ let_typing (variable (word t n 3)) (operand_typing s t n 1) (operand_typing s t n 2)
    unfolding typing operand_typing
    let_typing_lem h = by_form k e (ap (form_of (trees_below t n) (word t n)) h ∙ let_code (trees_below t n) (word t n))

    pub attribute_typing_lem : (l : 33 ≤ k) → (h : k < 35) → typing s (tree_at t n) ≡ attribute_typing s n (access_of k) (word t n 2) (operand_typing s t n 1)
    unfolding typing operand_typing
    attribute_typing_lem l h = by_form k e (attribute_range (trees_below t n) (word t n) k l h)

    pub iterate_typing_lem : (h : k ≡ 35) → typing s (tree_at t n) ≡ iterate_typing s n (variable (word t n 4)) (variable (word t n 5)) (type_in (word t n 6)) (operand_typing s t n 1) (operand_typing s t n 2) (operand_typing s t n 3)
    unfolding typing operand_typing
    iterate_typing_lem h = by_form k e (ap (form_of (trees_below t n) (word t n)) h ∙ iterate_code (trees_below t n) (word t n))

    pub call_typing_lem : (h : k ≡ 36) → typing s (tree_at t n) ≡ call_typing s n (class_in (word t n 3)) (type_in (word t n 4)) (operand_typing s t n 1)
    unfolding typing operand_typing
    call_typing_lem h = by_form k e (ap (form_of (trees_below t n) (word t n)) h ∙ call_code (trees_below t n) (word t n))

    pub over_typing : (l : 27 ≤ k) → (h : k < 30) → (c : 4 < word t n 5) → typing s (tree_at t n) ≡ leaf_typing n undef
    unfolding typing operand_typing
    over_typing l h c = by_form k e (assemble_over (trees_below t n) (word t n) k l h c)

    pub none_typing : (h : 37 < k) → typing s (tree_at t n) ≡ leaf_typing n undef
    unfolding typing operand_typing
    none_typing h = by_form k e (no_form (trees_below t n) (word t n) k h)

  -- operand k is node a, a smaller one
  pub operand_typing_lem : (k a : ℕ) → a ≡ word t n k → a < n → operand_typing s t n k ≡ typing s (tree_at t a)
  unfolding operand_typing
  operand_typing_lem k a e h = rw (← e, below_law t n a h)

  -- one that is not smaller, which no accepted sheet has
  pub late_typing : (k a : ℕ) → a ≡ word t n k → n ≤ a → operand_typing s t n k ≡ leaf_typing 0 undef
  unfolding operand_typing typing
  late_typing k a e h = rw (← e, late_law t n a h)
