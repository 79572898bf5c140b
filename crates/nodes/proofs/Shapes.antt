-- A node whose words are those of a node line has the line's form over its operands' trees. Assumes nothing.
use mathlib.Core.Path.{◌≡◌, refl, sym, ap, ◌∙◌, subst}
use mathlib.Core.Bool.{true, false, ◌&&◌}
use mathlib.Core.List.{List, [], ◌∷◌}
use Prim.Native.Nat.{ℕ, ◌+◌, ◌<◌, ◌≤◌}
use native.Mathlib.Omega.{arith}
use lib.ListN.{length, get_or}
use lib.Dec.{T, leb}
use borrow.Author.Tests.{leb-true, ltb-true}
use Rattle.laws.specs.Lists.{Each, each_nil, each-cons}
use Rattle.laws.proofs.Tests.{and-true}
use Rattle.ocl.specs.Types.{Kind, set, sequence, bag, Ty}
use Rattle.ocl.specs.Forms.{plus, minus, times, div, modulo, Connective, and, or, Quantifier, for_all, exists, Access, of_object, of_members, Leaf, truth, undef, number, self, var, all, Unary, negation, size_of, convert, cast_to, Binary, equal, less, arith as calculation, divide, over, includes, including, union, Expr, node, Form, Definition}
use Rattle.sheet.specs.Lines.{Shape, leaf, unary, binary, connective, is_undef, conditional, let_in, attribute, call, quantified, iterate, assemble}
use Rattle.sheet.specs.Sheet.{operands_of, grow_all, grow}
use Rattle.sheet.specs.Limits.{is_variable, is_class, type_within, leaf_held, unary_held, held_by, form_within}
use Rattle.types.specs.Word.{type_in}
use Rattle.reals.proofs.Onto.{number_back}
use Rattle.nodes.specs.Nodes.{Called, TypeSaid, CallSaid, word, variable, class_in, leaf_of, unary_of, arith_by_code, division_by_code, binary_of, connective_of, quantifier_of, kind_of, access_of, operands_in, form_of, trees_below, tree_at, leaf_words, unary_words, arith_code, division_code, binary_code, connective_code, quantifier_code, access_code, assemble_code, operand_word, shape_words}
use Rattle.nodes.proofs.Nodes.{tree_law, below_law, assemble_range}

-- ---- numbers that the words hold

variable_back : (i : ℕ) → is_variable i ≡ true → variable i ≡ i
unfolding is_variable
variable_back i h = omega (arith, leb-true i 15 (and-true (leb 1 i) (leb i 15) h).1)

class_back : (c : ℕ) → is_class c ≡ true → class_in c ≡ c
unfolding is_class
class_back c h = omega (arith, ltb-true c 64 h)

-- ---- codes of collections

assemble_low : (k : Kind) → 27 ≤ assemble_code k
unfolding assemble_code
assemble_low set = omega arith
assemble_low sequence = omega arith
assemble_low bag = omega arith

assemble_high : (k : Kind) → assemble_code k < 30
unfolding assemble_code
assemble_high set = omega arith
assemble_high sequence = omega arith
assemble_high bag = omega arith

assemble_back : (k : Kind) → kind_of (assemble_code k) ≡ k
unfolding assemble_code kind_of
assemble_back set = refl
assemble_back sequence = refl
assemble_back bag = refl

-- ---- a form

module _ (f g : ℕ → Expr) (w : ℕ → ℕ) (first n type : ℕ) (d : Called) (line : ℕ) (near : (a : ℕ) → a < n → f (first + a) ≡ g a) where
  Words : Shape → Type 0
  Words x = (j : ℕ) → j < 8 → w j ≡ get_or (shape_words first type d line x) j 0

  leaf_grow : (l : Leaf) → (leaf_held l).within ≡ true → Words (leaf l) → form_of f w (w 0) ≡ Form.leaf l
  unfolding Words shape_words leaf_words leaf_held form_of leaf_of
  leaf_grow (truth false) h ws = rw (ws 0 (omega arith))
  leaf_grow (truth true) h ws = rw (ws 0 (omega arith))
  leaf_grow undef h ws = rw (ws 0 (omega arith))
  leaf_grow (number x) h ws = rw (ws 0 (omega arith), ws 1 (omega arith), number_back x (subst T (sym h) tt))
  leaf_grow self h ws = rw (ws 0 (omega arith))
  leaf_grow (var i) h ws = rw (ws 0 (omega arith), ws 1 (omega arith), variable_back i h)
  leaf_grow (all c) h ws = rw (ws 0 (omega arith), ws 1 (omega arith), class_back c h)

  unary_grow : (op : Unary) (a : ℕ) → (unary_held op).within ≡ true → a < n → Words (unary op a) → form_of f w (w 0) ≡ Form.unary op (g a)
  unfolding Words shape_words unary_words unary_held form_of unary_of
  unary_grow negation a h l ws = rw (ws 0 (omega arith), ws 1 (omega arith), near a l)
  unary_grow size_of a h l ws = rw (ws 0 (omega arith), ws 1 (omega arith), near a l)
  unary_grow (convert set) a h l ws = rw (ws 0 (omega arith), ws 1 (omega arith), near a l)
  unary_grow (convert sequence) a h l ws = rw (ws 0 (omega arith), ws 1 (omega arith), near a l)
  unary_grow (convert bag) a h l ws = rw (ws 0 (omega arith), ws 1 (omega arith), near a l)
  unary_grow (cast_to c) a h l ws = rw (ws 0 (omega arith), ws 1 (omega arith), ws 2 (omega arith), near a l, class_back c h)

  binary_grow : (op : Binary) (a b : ℕ) → a < n → b < n → Words (binary op a b) → form_of f w (w 0) ≡ Form.binary op (g a) (g b)
  unfolding Words shape_words binary_code arith_code division_code form_of binary_of arith_by_code division_by_code
  binary_grow equal a b l m ws = rw (ws 0 (omega arith), ws 1 (omega arith), ws 2 (omega arith), near a l, near b m)
  binary_grow less a b l m ws = rw (ws 0 (omega arith), ws 1 (omega arith), ws 2 (omega arith), near a l, near b m)
  binary_grow (calculation plus) a b l m ws = rw (ws 0 (omega arith), ws 1 (omega arith), ws 2 (omega arith), near a l, near b m)
  binary_grow (calculation minus) a b l m ws = rw (ws 0 (omega arith), ws 1 (omega arith), ws 2 (omega arith), near a l, near b m)
  binary_grow (calculation times) a b l m ws = rw (ws 0 (omega arith), ws 1 (omega arith), ws 2 (omega arith), near a l, near b m)
  binary_grow (divide div) a b l m ws = rw (ws 0 (omega arith), ws 1 (omega arith), ws 2 (omega arith), near a l, near b m)
  binary_grow (divide modulo) a b l m ws = rw (ws 0 (omega arith), ws 1 (omega arith), ws 2 (omega arith), near a l, near b m)
  binary_grow over a b l m ws = rw (ws 0 (omega arith), ws 1 (omega arith), ws 2 (omega arith), near a l, near b m)
  binary_grow includes a b l m ws = rw (ws 0 (omega arith), ws 1 (omega arith), ws 2 (omega arith), near a l, near b m)
  binary_grow including a b l m ws = rw (ws 0 (omega arith), ws 1 (omega arith), ws 2 (omega arith), near a l, near b m)
  binary_grow union a b l m ws = rw (ws 0 (omega arith), ws 1 (omega arith), ws 2 (omega arith), near a l, near b m)

  members_grow : (k : Kind) (es : List ℕ) → Each (λ a. a < n) es → length es ≤ 4 → Words (assemble k es) → operands_in f w (length es) 1 ≡ grow_all g es
  unfolding Words shape_words operand_word operands_in grow_all
  members_grow k [] each_nil h ws = refl
  members_grow k (a ∷ []) (each-cons l each_nil) h ws = rw (ws 1 (omega arith), near a l)
  members_grow k (a ∷ b ∷ []) (each-cons l (each-cons m each_nil)) h ws = rw (ws 1 (omega arith), ws 2 (omega arith), near a l, near b m)
  members_grow k (a ∷ b ∷ c ∷ []) (each-cons l (each-cons m (each-cons o each_nil))) h ws =
      rw (ws 1 (omega arith), ws 2 (omega arith), ws 3 (omega arith), near a l, near b m, near c o)
  members_grow k (a ∷ b ∷ c ∷ d ∷ []) (each-cons l (each-cons m (each-cons o (each-cons p each_nil)))) h ws =
      rw (ws 1 (omega arith), ws 2 (omega arith), ws 3 (omega arith), ws 4 (omega arith), near a l, near b m, near c o, near d p)
  members_grow k (a ∷ b ∷ c ∷ d ∷ e ∷ es) l h ws = absurd (omega arith)

  assemble_grow : (k : Kind) (es : List ℕ) → Each (λ a. a < n) es → length es ≤ 4 → Words (assemble k es) → form_of f w (w 0) ≡ Form.assemble k (grow_all g es)
  unfolding Words shape_words
  assemble_grow k es l h ws =
      ap (form_of f w) (ws 0 (omega arith))
      ∙ assemble_range f w (assemble_code k) (assemble_low k) (assemble_high k) (let e = ws 5 (omega arith) in omega arith)
      ∙ rw (assemble_back k, ws 5 (omega arith), members_grow k es l h ws)

  connective_grow : (c : Connective) (a b : ℕ) → a < n → b < n → Words (connective c a b) → form_of f w (w 0) ≡ Form.connective c (g a) (g b)
  unfolding Words shape_words connective_code form_of connective_of
  connective_grow and a b l m ws = rw (ws 0 (omega arith), ws 1 (omega arith), ws 2 (omega arith), near a l, near b m)
  connective_grow or a b l m ws = rw (ws 0 (omega arith), ws 1 (omega arith), ws 2 (omega arith), near a l, near b m)

  quantified_grow : (q : Quantifier) (i a b : ℕ) → is_variable i ≡ true → a < n → b < n → Words (quantified q i a b) → form_of f w (w 0) ≡ Form.quantified q i (g a) (g b)
  unfolding Words shape_words quantifier_code form_of quantifier_of
  quantified_grow for_all i a b h l m ws = rw (ws 0 (omega arith), ws 1 (omega arith), ws 2 (omega arith), ws 3 (omega arith), variable_back i h, near a l, near b m)
  quantified_grow exists i a b h l m ws = rw (ws 0 (omega arith), ws 1 (omega arith), ws 2 (omega arith), ws 3 (omega arith), variable_back i h, near a l, near b m)

  attribute_grow : (x : Access) (name a : ℕ) → a < n → Words (attribute x name a) → form_of f w (w 0) ≡ Form.attribute x name (g a)
  unfolding Words shape_words access_code form_of access_of
  attribute_grow of_object name a l ws = rw (ws 0 (omega arith), ws 1 (omega arith), ws 2 (omega arith), near a l)
  attribute_grow of_members name a l ws = rw (ws 0 (omega arith), ws 1 (omega arith), ws 2 (omega arith), near a l)

  iterate_grow : (i j : ℕ) (t : Ty) (a e b : ℕ) → (is_variable i && is_variable j && type_within t) ≡ true → type_in type ≡ t → a < n → e < n → b < n
      → Words (iterate i j t a e b) → form_of f w (w 0) ≡ Form.iterate i j t (g a) (g e) (g b)
  unfolding Words shape_words form_of
  iterate_grow i j t a e b h s l m o ws =
      let both = (and-true (is_variable i && is_variable j) (type_within t) h).0 in
      let member = (and-true (is_variable i) (is_variable j) both).0 in
      let accumulator = (and-true (is_variable i) (is_variable j) both).1 in
      rw (ws 0 (omega arith), ws 1 (omega arith), ws 2 (omega arith), ws 3 (omega arith), ws 4 (omega arith), ws 5 (omega arith), ws 6 (omega arith), variable_back i member, variable_back j accumulator, s, near a l, near e m, near b o)

  pub form_grow : (h : ℕ → Definition) (x : Shape) → form_within x ≡ true → TypeSaid type x → CallSaid f h d x → Each (λ a. a < n) (operands_of x) → length (operands_of x) ≤ 4
      → ((j : ℕ) → j < 8 → w j ≡ get_or (shape_words first type d line x) j 0) → form_of f w (w 0) ≡ grow g h x
  unfolding grow operands_of held_by form_within Words shape_words form_of
  form_grow defs (leaf l) h s called o c ws = leaf_grow l h ws
  form_grow defs (unary op a) h s called (each-cons l each_nil) c ws = unary_grow op a h l ws
  form_grow defs (binary op a b) h s called (each-cons l (each-cons m each_nil)) c ws = binary_grow op a b l m ws
  form_grow defs (connective op a b) h s called (each-cons l (each-cons m each_nil)) c ws = connective_grow op a b l m ws
  form_grow defs (is_undef a) h s called (each-cons l each_nil) c ws = rw (ws 0 (omega arith), ws 1 (omega arith), near a l)
  form_grow defs (conditional d a b) h s called (each-cons l (each-cons m (each-cons o each_nil))) c ws =
      rw (ws 0 (omega arith), ws 1 (omega arith), ws 2 (omega arith), ws 3 (omega arith), near d l, near a m, near b o)
  form_grow defs (let_in i a b) h s called (each-cons l (each-cons m each_nil)) c ws =
      rw (ws 0 (omega arith), ws 1 (omega arith), ws 2 (omega arith), ws 3 (omega arith), variable_back i h, near a l, near b m)
  form_grow defs (attribute x name a) h s called (each-cons l each_nil) c ws = attribute_grow x name a l ws
  form_grow defs (call a n) h s called (each-cons l each_nil) c ws =
      rw (ws 0 (omega arith), ws 1 (omega arith), ws 2 (omega arith), ws 3 (omega arith), ws 4 (omega arith), near a l, called.context a n refl, called.type a n refl, called.body a n refl)
  form_grow defs (quantified q i a b) h s called (each-cons l (each-cons m each_nil)) c ws = quantified_grow q i a b h l m ws
  form_grow defs (iterate i j t a e b) h s called (each-cons l (each-cons m (each-cons o each_nil))) c ws =
      iterate_grow i j t a e b h (s.said i j t a e b refl) l m o ws
  form_grow defs (assemble k es) h s called o c ws = assemble_grow k es o c ws

-- ---- a node

pub shape_tree : (t : List ℕ) (first n type : ℕ) (d : Called) (line : ℕ) (g : ℕ → Definition) (x : Shape) → form_within x ≡ true → TypeSaid type x
    → CallSaid (trees_below t (first + n)) g d x → Each (λ a. a < n) (operands_of x) → length (operands_of x) ≤ 4
    → ((j : ℕ) → j < 8 → word t (first + n) j ≡ get_or (shape_words first type d line x) j 0)
    → tree_at t (first + n) ≡ node (first + n) (grow (λ a. tree_at t (first + a)) g x)
shape_tree t first n type d line g x h s k o c ws =
    tree_law t (first + n)
    ∙ ap (node (first + n)) (form_grow (trees_below t (first + n)) (λ a. tree_at t (first + a)) (word t (first + n)) first n type d line (λ a l. below_law t (first + n) (first + a) (omega arith)) g x h s k o c ws)
