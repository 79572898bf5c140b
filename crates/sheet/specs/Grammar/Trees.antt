-- Document 02, F-7: what a text stands for, a tree of forms whose nodes have no numbers yet; and its nodes, numbered.
use Rattle.std.specs.Prelude.{ℕ, suc, ◌+◌, pred, List, [], ◌∷◌, ◌++◌}
use Rattle.ocl.specs.Types.{Kind, Ty}
use Rattle.ocl.specs.Forms.{Connective, Quantifier, Access, Leaf, Unary, Binary}
use Rattle.sheet.specs.Lines.{Shape}

-- forms with one operand
pub data One : Type 0 where
  unary : Unary → One
  is_undef : One
  attribute : Access → ℕ → One
  -- of a definition (F-13)
  call : ℕ → One

-- forms with two operands; `let` and the quantifiers hold their variable
pub data Two : Type 0 where
  binary : Binary → Two
  connective : Connective → Two
  let_in : ℕ → Two
  quantified : Quantifier → ℕ → Two

-- forms with three operands; `iter` holds its variables and its type
pub data Three : Type 0 where
  conditional : Three
  iterate : ℕ → ℕ → Ty → Three

mutual
  pub data Tree : Type 0 where
    leaf : Leaf → Tree
    one : One → Tree → Tree
    two : Two → Tree → Tree → Tree
    three : Three → Tree → Tree → Tree → Tree
    assemble : Kind → Trees → Tree

  pub data Trees : Type 0 where
    none : Trees
    more : Tree → Trees → Trees

-- ---- "numbers the nodes operands first, left to right"

-- how many nodes a tree has
unfoldable mutual
  pub count : Tree → ℕ
  count (leaf l) = 1
  count (one f a) = suc (count a)
  count (two f a b) = suc (count a + count b)
  count (three f a b c) = suc (count a + (count b + count c))
  count (assemble k es) = suc (counts es)

  pub counts : Trees → ℕ
  counts none = 0
  counts (more e es) = count e + counts es

-- the root of a tree whose first node is n: its last node
unfoldable pub root : ℕ → Tree → ℕ
root n t = pred (n + count t)

-- the roots of trees, one after the other
unfoldable pub roots : ℕ → Trees → List ℕ
roots n none = []
roots n (more e es) = root n e ∷ roots (n + count e) es

unfoldable pub one_shape : One → ℕ → Shape
one_shape (unary op) a = Shape.unary op a
one_shape is_undef a = Shape.is_undef a
one_shape (attribute x name) a = Shape.attribute x name a
one_shape (call n) a = Shape.call a n

unfoldable pub two_shape : Two → ℕ → ℕ → Shape
two_shape (binary op) a b = Shape.binary op a b
two_shape (connective c) a b = Shape.connective c a b
two_shape (let_in i) a b = Shape.let_in i a b
two_shape (quantified q i) a b = Shape.quantified q i a b

unfoldable pub three_shape : Three → ℕ → ℕ → ℕ → Shape
three_shape conditional a b c = Shape.conditional a b c
three_shape (iterate i j t) a b c = Shape.iterate i j t a b c

-- the node lines that stand for a tree, its first node being n
unfoldable mutual
  pub shapes : Tree → ℕ → List Shape
  shapes (leaf l) n = Shape.leaf l ∷ []
  shapes (one f a) n = shapes a n ++ (one_shape f (root n a) ∷ [])
  shapes (two f a b) n =
      shapes a n ++ (shapes b (n + count a) ++ (two_shape f (root n a) (root (n + count a) b) ∷ []))
  shapes (three f a b c) n =
      shapes a n ++ (shapes b (n + count a) ++ (shapes c (n + count a + count b)
      ++ (three_shape f (root n a) (root (n + count a) b) (root (n + count a + count b) c) ∷ [])))
  shapes (assemble k es) n = shapes_of es n ++ (Shape.assemble k (roots n es) ∷ [])

  pub shapes_of : Trees → ℕ → List Shape
  shapes_of none n = []
  shapes_of (more e es) n = shapes e n ++ shapes_of es (n + count e)
