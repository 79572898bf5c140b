-- Document 02, F-7: what single words stand for.
use Rattle.std.specs.Prelude.{true, false, [], ◌∷◌, ℕ, pos, eqb}
use Rattle.std.proofs.Math.Option.{Option, none}
use Rattle.laws.specs.Choice.{or_else, map_some}
use Rattle.std.specs.Prelude.{if◌then◌else◌}
use Rattle.reals.specs.Reals.{int, real}
use Rattle.ocl.specs.Types.{Kind, set, sequence, bag, Letter, collection, exactly, Ty, void, Any, Boolean, Integer, Real, Class}
use Rattle.ocl.specs.Forms.{Quantifier, for_all, exists, Leaf, truth, undef, number, self, var, plus, minus, times, div, modulo, and, or, size_of, convert, equal, less, arith, divide, over, includes, including, union}
use Rattle.sheet.specs.Text.{Bytes, byte}
use Rattle.sheet.specs.Lines.{a_number, a_real}
unfoldable pub use Rattle.sheet.specs.Lines.{Table, named}
use Rattle.sheet.specs.Grammar.Trees.{One, unary, Two, binary, connective}

-- a number behind a letter
unfoldable pub labelled : ℕ → Bytes → Option ℕ
labelled l [] = none
labelled l (b ∷ s) = if eqb b l then a_number s else none

-- `v1`, `a5`, `#1`, `d0`
unfoldable pub variable_word : Bytes → Option ℕ
variable_word w = labelled (byte "v") w

unfoldable pub attribute_word : Bytes → Option ℕ
attribute_word w = labelled (byte "a") w

unfoldable pub class_word : Bytes → Option ℕ
class_word w = labelled (byte "#") w

unfoldable pub definition_word : Bytes → Option ℕ
definition_word w = labelled (byte "d") w

-- ---- "literals, `undef`, `self`, `v1`"; a literal is also the `r` spelling of a Real (F-8)

unfoldable pub constants : Table Leaf
constants = ("true", truth true) ∷ ("false", truth false) ∷ ("undef", undef) ∷ ("self", self) ∷ []

unfoldable pub leaf_word : Bytes → Option Leaf
leaf_word w =
    or_else (named constants w)
    (or_else (map_some (λ n. number (int (pos n))) (a_number w)) (or_else (map_some (λ r. number (real r)) (a_real w)) (map_some var (variable_word w))))

unfoldable pub kinds : Table Kind
kinds = ("Set", set) ∷ ("Sequence", sequence) ∷ ("Bag", bag) ∷ []

-- ---- "each collection form by its word"

unfoldable pub plain_forms : Table One
plain_forms =
    ("size", unary size_of)
    ∷ ("asSet", unary (convert set))
    ∷ ("asSequence", unary (convert sequence))
    ∷ ("asBag", unary (convert bag))
    ∷ []

unfoldable pub argument_forms : Table Two
argument_forms = ("includes", binary includes) ∷ ("including", binary including) ∷ ("union", binary union) ∷ []

unfoldable pub quantifiers : Table Quantifier
quantifiers = ("forAll", for_all) ∷ ("exists", exists) ∷ []

-- ---- types, as in a sheet

unfoldable pub letters : Table Letter
letters = ("S", exactly set) ∷ ("Q", exactly sequence) ∷ ("B", exactly bag) ∷ ("C", collection) ∷ []

unfoldable pub simple_types : Table Ty
simple_types = ("Void", void) ∷ ("Bool", Boolean) ∷ ("Int", Integer) ∷ ("Real", Real) ∷ ("Any", Any) ∷ []

unfoldable pub type_word : Bytes → Option Ty
type_word w = or_else (named simple_types w) (map_some Class (class_word w))

-- ---- "the other two-sided signs, `+ - * div mod and or`", and "`/`, a product sign" (F-8)

unfoldable pub disjunctions : Table Two
disjunctions = ("or", connective or) ∷ []

unfoldable pub conjunctions : Table Two
conjunctions = ("and", connective and) ∷ []

unfoldable pub comparisons : Table Two
comparisons = ("=", binary equal) ∷ ("<", binary less) ∷ []

unfoldable pub sums : Table Two
sums = ("+", binary (arith plus)) ∷ ("-", binary (arith minus)) ∷ []

unfoldable pub products : Table Two
products = ("*", binary (arith times)) ∷ ("div", binary (divide div)) ∷ ("mod", binary (divide modulo)) ∷ ("/", binary over) ∷ []
