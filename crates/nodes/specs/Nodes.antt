-- The node table: 8 words to a node, counted through all definitions and rules. Word 0 is the form's code, one range of codes to one form of
-- crates/ocl; then operands, by their numbers through all of them, and what else the form holds; word 7 is the line.
use Rattle.std.specs.Prelude.{◌≡◌, true, false, List, [], ◌∷◌, ℕ, zero, suc, ◌+◌, ◌*◌, ◌%◌, length, get_or, eqb, ltb}
use Rattle.std.specs.Prelude.{if◌then◌else◌}
use Rattle.memory.specs.Map as memory
use Rattle.memory.specs.Codes as code
use Rattle.reals.specs.Words.{cell, number_in}
use Rattle.ocl.specs.Types.{Kind, set, sequence, bag, Ty}
use Rattle.ocl.specs.Forms.{Arith, plus, minus, times, Division, div, modulo, Connective, and, or, Quantifier, for_all, exists, Access, of_object, of_members, Leaf, truth, undef, number, self, var, all, Unary, negation, size_of, convert, cast_to, Binary, equal, less, arith, divide, over, includes, including, union, Expr, node, Form, leaf, unary, binary, connective, is_undef, conditional, let_in, attribute, call, quantified, iterate, assemble, Operands, no_operand, operand, Definition}
use Rattle.sheet.specs.Lines.{Shape}
use Rattle.types.specs.Word.{type_in}

-- word k of node n
abbrev pub word : List ℕ → ℕ → ℕ → ℕ
word t n k = get_or t (memory.node_words * n + k) 0

-- a variable's number, which an accepted sheet has below 16
abbrev pub variable : ℕ → ℕ
variable w = w % memory.variable_numbers

-- a class's number, a byte, which an accepted sheet has below 64
abbrev pub class_in : ℕ → ℕ
class_in w = w % memory.class_numbers

-- ---- a form by its code k and its words w

-- leaves
unfoldable pub leaf_of : ℕ → (ℕ → ℕ) → Leaf
leaf_of k w =
    if eqb k code.false then truth false
    else if eqb k code.true then truth true
    else if eqb k code.undef then undef
    else if eqb k code.number then number (number_in (w 1))
    else if eqb k code.self then self
    else if eqb k code.var then var (variable (w 1))
    else all (class_in (w 1))

-- unary forms
unfoldable pub unary_of : ℕ → (ℕ → ℕ) → Unary
unary_of k w =
    if eqb k code.negation then negation
    else if eqb k code.size_of then size_of
    else if eqb k code.to_set then convert set
    else if eqb k code.to_sequence then convert sequence
    else if eqb k code.to_bag then convert bag
    else cast_to (class_in (w 2))

-- binary forms: arithmetic
unfoldable pub arith_by_code : ℕ → Arith
arith_by_code k = if eqb k code.plus then plus else if eqb k code.minus then minus else times

-- division
unfoldable pub division_by_code : ℕ → Division
division_by_code k = if eqb k code.div then div else modulo

-- all of them; the last one has a code far from the others
unfoldable pub binary_of : ℕ → Binary
binary_of k =
    if eqb k code.equal then equal
    else if eqb k code.less then less
    else if ltb k code.div then arith (arith_by_code k)
    else if ltb k code.includes then divide (division_by_code k)
    else if eqb k code.includes then includes
    else if eqb k code.including then including
    else if eqb k code.over then over
    else union

-- connectives
unfoldable pub connective_of : ℕ → Connective
connective_of k = if eqb k code.and then and else or

-- quantifiers
unfoldable pub quantifier_of : ℕ → Quantifier
quantifier_of k = if eqb k code.for_all then for_all else exists

-- collections that are written out
unfoldable pub kind_of : ℕ → Kind
kind_of k = if eqb k code.set then set else if eqb k code.sequence then sequence else bag

-- rows
unfoldable pub access_of : ℕ → Access
access_of k = if eqb k code.of_object then of_object else of_members

-- the first c operands, from word k on
unfoldable pub operands_in : (ℕ → Expr) → (ℕ → ℕ) → ℕ → ℕ → Operands
operands_in f w zero k = no_operand
operands_in f w (suc c) k = operand (f (w k)) (operands_in f w c (k + 1))

-- over the trees f of the nodes before it; what no accepted sheet has counts as `undef`
unfoldable pub form_of : (ℕ → Expr) → (ℕ → ℕ) → ℕ → Form
form_of f w k =
    if ltb code.over k then leaf undef
    else if ltb k code.negation then leaf (leaf_of k w)
    else if ltb k code.equal then unary (unary_of k w) (f (w 1))
    else if ltb k code.and then binary (binary_of k) (f (w 1)) (f (w 2))
    else if ltb k code.for_all then connective (connective_of k) (f (w 1)) (f (w 2))
    else if ltb k code.set then quantified (quantifier_of k) (variable (w 3)) (f (w 1)) (f (w 2))
    else if ltb k code.is_undef then (if ltb 4 (w 5) then leaf undef else assemble (kind_of k) (operands_in f w (w 5) 1))
    else if eqb k code.is_undef then is_undef (f (w 1))
    else if eqb k code.conditional then conditional (f (w 1)) (f (w 2)) (f (w 3))
    else if eqb k code.let_in then let_in (variable (w 3)) (f (w 1)) (f (w 2))
    else if ltb k code.iterate then attribute (access_of k) (w 2) (f (w 1))
    else if eqb k code.iterate then iterate (variable (w 4)) (variable (w 5)) (type_in (w 6)) (f (w 1)) (f (w 2)) (f (w 3))
    else if eqb k code.call then call (class_in (w 3)) (type_in (w 4)) (f (w 1)) (f (w 2))
    else binary (binary_of k) (f (w 1)) (f (w 2))

-- the trees of the nodes below n; an operand that is not smaller, which no accepted sheet has, counts as `undef` at node 0
unfoldable pub trees_below : List ℕ → ℕ → ℕ → Expr
trees_below t zero a = node 0 (leaf undef)
trees_below t (suc n) a = if eqb a n then node n (form_of (trees_below t n) (word t n) (word t n 0)) else trees_below t n a

-- the tree of node n
unfoldable pub tree_at : List ℕ → ℕ → Expr
tree_at t n = trees_below t (suc n) n

-- ---- the words of a node line: the first node of its definition or rule is `first`, a type's word is `type`, and the definition that
-- it calls is d

-- a definition in a call's words: its root, its class, and a word for its type
pub record Called : Type 0 where
  pub root : ℕ
  pub context : ℕ
  pub type : ℕ

unfoldable pub leaf_words : Leaf → ℕ × ℕ
leaf_words (truth false) = (code.false, 0)
leaf_words (truth true) = (code.true, 0)
leaf_words undef = (code.undef, 0)
leaf_words (number x) = (code.number, cell x)
leaf_words self = (code.self, 0)
leaf_words (var i) = (code.var, i)
leaf_words (all c) = (code.all, c)

-- a code, and a class where the form has one
unfoldable pub unary_words : Unary → ℕ × ℕ
unary_words negation = (code.negation, 0)
unary_words size_of = (code.size_of, 0)
unary_words (convert set) = (code.to_set, 0)
unary_words (convert sequence) = (code.to_sequence, 0)
unary_words (convert bag) = (code.to_bag, 0)
unary_words (cast_to c) = (code.cast_to, c)

unfoldable pub arith_code : Arith → ℕ
arith_code plus = code.plus
arith_code minus = code.minus
arith_code times = code.times

unfoldable pub division_code : Division → ℕ
division_code div = code.div
division_code modulo = code.modulo

unfoldable pub binary_code : Binary → ℕ
binary_code equal = code.equal
binary_code less = code.less
binary_code (arith o) = arith_code o
binary_code (divide o) = division_code o
binary_code over = code.over
binary_code includes = code.includes
binary_code including = code.including
binary_code union = code.union

unfoldable pub connective_code : Connective → ℕ
connective_code and = code.and
connective_code or = code.or

unfoldable pub quantifier_code : Quantifier → ℕ
quantifier_code for_all = code.for_all
quantifier_code exists = code.exists

unfoldable pub access_code : Access → ℕ
access_code of_object = code.of_object
access_code of_members = code.of_members

unfoldable pub assemble_code : Kind → ℕ
assemble_code set = code.set
assemble_code sequence = code.sequence
assemble_code bag = code.bag

-- operand k, of those that there are
unfoldable pub operand_word : ℕ → List ℕ → ℕ → ℕ
operand_word first es k = if ltb k (length es) then first + get_or es k 0 else 0

unfoldable pub shape_words : ℕ → ℕ → Called → ℕ → Shape → List ℕ
shape_words first type d line (Shape.leaf l) = (leaf_words l).0 ∷ (leaf_words l).1 ∷ 0 ∷ 0 ∷ 0 ∷ 0 ∷ 0 ∷ line ∷ []
shape_words first type d line (Shape.unary op a) = (unary_words op).0 ∷ (first + a) ∷ (unary_words op).1 ∷ 0 ∷ 0 ∷ 0 ∷ 0 ∷ line ∷ []
shape_words first type d line (Shape.binary op a b) = binary_code op ∷ (first + a) ∷ (first + b) ∷ 0 ∷ 0 ∷ 0 ∷ 0 ∷ line ∷ []
shape_words first type d line (Shape.connective c a b) = connective_code c ∷ (first + a) ∷ (first + b) ∷ 0 ∷ 0 ∷ 0 ∷ 0 ∷ line ∷ []
shape_words first type d line (Shape.is_undef a) = code.is_undef ∷ (first + a) ∷ 0 ∷ 0 ∷ 0 ∷ 0 ∷ 0 ∷ line ∷ []
shape_words first type d line (Shape.conditional c a b) = code.conditional ∷ (first + c) ∷ (first + a) ∷ (first + b) ∷ 0 ∷ 0 ∷ 0 ∷ line ∷ []
shape_words first type d line (Shape.let_in i a b) = code.let_in ∷ (first + a) ∷ (first + b) ∷ i ∷ 0 ∷ 0 ∷ 0 ∷ line ∷ []
shape_words first type d line (Shape.attribute x name a) = access_code x ∷ (first + a) ∷ name ∷ 0 ∷ 0 ∷ 0 ∷ 0 ∷ line ∷ []
shape_words first type d line (Shape.call a n) = code.call ∷ (first + a) ∷ d.root ∷ d.context ∷ d.type ∷ 0 ∷ 0 ∷ line ∷ []
shape_words first type d line (Shape.quantified q i a b) = quantifier_code q ∷ (first + a) ∷ (first + b) ∷ i ∷ 0 ∷ 0 ∷ 0 ∷ line ∷ []
shape_words first type d line (Shape.iterate i j t a e b) = code.iterate ∷ (first + a) ∷ (first + e) ∷ (first + b) ∷ i ∷ j ∷ type ∷ line ∷ []
shape_words first type d line (Shape.assemble k es) =
    assemble_code k ∷ operand_word first es 0 ∷ operand_word first es 1 ∷ operand_word first es 2 ∷ operand_word first es 3 ∷ length es ∷ 0 ∷ line ∷ []

-- a word for the type that `iter` has
pub record TypeSaid (type : ℕ) (x : Shape) : Type 0 where
  pub said : (i j : ℕ) (t : Ty) (a e b : ℕ) → x ≡ Shape.iterate i j t a e b → type_in type ≡ t

-- the words of the definition that `call` has: f gives the tree at a root
pub record CallSaid (f : ℕ → Expr) (g : ℕ → Definition) (d : Called) (x : Shape) : Type 0 where
  pub context : (a n : ℕ) → x ≡ Shape.call a n → class_in d.context ≡ (g n).context
  pub type : (a n : ℕ) → x ≡ Shape.call a n → type_in d.type ≡ (g n).type
  pub body : (a n : ℕ) → x ≡ Shape.call a n → f d.root ≡ (g n).body
