-- Document 01, The forms and their typing: how a node line is written, from its form.
use Rattle.std.specs.Prelude.{true, false, List, [], ◌∷◌, map, ℕ, suc}
use Rattle.reals.specs.Reals.{Number, int, real}
use Rattle.reals.specs.Spelling.{spell_real}
use Rattle.ocl.specs.Types.{Kind, set, sequence, bag}
use Rattle.ocl.specs.Forms.{Arith, plus, minus, times, Division, div, modulo, Connective, and, or, Quantifier, for_all, exists, Access, of_object, of_members, Leaf, truth, undef, number, self, var, all, Unary, negation, size_of, convert, cast_to, Binary, equal, less, arith, divide, over, includes, including, union}
use Rattle.sheet.specs.Text.{Bytes, bytes, spell_number, spell_integer}
use Rattle.sheet.specs.Spelling.{kind_byte, spell_type}
use Rattle.sheet.specs.SpellingLaws.{joined}
use Rattle.sheet.specs.Lines.{Shape, leaf, unary, binary, connective, is_undef, conditional, let_in, attribute, call, quantified, iterate, assemble}

-- ---- the words of forms that are told apart by what they hold

unfoldable pub conversion_word : Kind → Bytes
conversion_word set = bytes "asSet"
conversion_word sequence = bytes "asSequence"
conversion_word bag = bytes "asBag"

unfoldable pub arithmetic_word : Arith → Bytes
arithmetic_word plus = bytes "plus"
arithmetic_word minus = bytes "minus"
arithmetic_word times = bytes "times"

unfoldable pub division_word : Division → Bytes
division_word div = bytes "div"
division_word modulo = bytes "mod"

unfoldable pub binary_word : Binary → Bytes
binary_word equal = bytes "eq"
binary_word less = bytes "less"
binary_word (arith op) = arithmetic_word op
binary_word (divide op) = division_word op
binary_word over = bytes "over"
binary_word includes = bytes "includes"
binary_word including = bytes "including"
binary_word union = bytes "union"

unfoldable pub connective_word : Connective → Bytes
connective_word and = bytes "and"
connective_word or = bytes "or"

unfoldable pub quantifier_word : Quantifier → Bytes
quantifier_word for_all = bytes "forAll"
quantifier_word exists = bytes "exists"

unfoldable pub access_word : Access → Bytes
access_word of_object = bytes "attr"
access_word of_members = bytes "collect"

-- ---- a form's word and the fields after it

unfoldable pub number_fields : Number → List Bytes
number_fields (int z) = bytes "int" ∷ spell_integer z ∷ []
number_fields (real r) = bytes "real" ∷ spell_real r ∷ []

unfoldable pub leaf_fields : Leaf → List Bytes
leaf_fields (truth true) = bytes "true" ∷ []
leaf_fields (truth false) = bytes "false" ∷ []
leaf_fields undef = bytes "undef" ∷ []
leaf_fields (number x) = number_fields x
leaf_fields self = bytes "self" ∷ []
leaf_fields (var i) = bytes "var" ∷ spell_number i ∷ []
leaf_fields (all c) = bytes "all" ∷ spell_number c ∷ []

unfoldable pub unary_fields : Unary → ℕ → List Bytes
unary_fields negation a = bytes "not" ∷ spell_number a ∷ []
unary_fields size_of a = bytes "size" ∷ spell_number a ∷ []
unary_fields (convert k) a = conversion_word k ∷ spell_number a ∷ []
unary_fields (cast_to c) a = bytes "as" ∷ spell_number a ∷ spell_number c ∷ []

unfoldable pub form_fields : Shape → List Bytes
form_fields (leaf l) = leaf_fields l
form_fields (unary op a) = unary_fields op a
form_fields (binary op a b) = binary_word op ∷ spell_number a ∷ spell_number b ∷ []
form_fields (connective c a b) = connective_word c ∷ spell_number a ∷ spell_number b ∷ []
form_fields (is_undef a) = bytes "isUndef" ∷ spell_number a ∷ []
form_fields (conditional c a b) = bytes "if" ∷ spell_number c ∷ spell_number a ∷ spell_number b ∷ []
form_fields (let_in i a b) = bytes "let" ∷ spell_number i ∷ spell_number a ∷ spell_number b ∷ []
form_fields (attribute x name a) = access_word x ∷ spell_number a ∷ spell_number name ∷ []
form_fields (call a n) = bytes "call" ∷ spell_number a ∷ spell_number n ∷ []
form_fields (quantified q i a b) = quantifier_word q ∷ spell_number a ∷ spell_number i ∷ spell_number b ∷ []
form_fields (iterate i j t a e b) =
    bytes "iter" ∷ spell_number a ∷ spell_number i ∷ spell_number j ∷ spell_type t ∷ spell_number e ∷ spell_number b ∷ []
form_fields (assemble k es) = bytes "coll" ∷ (kind_byte k ∷ []) ∷ map spell_number es

-- ---- node lines, without their line feeds

unfoldable pub node_fields : ℕ → Shape → List Bytes
node_fields n x = bytes "N" ∷ spell_number n ∷ form_fields x

unfoldable pub node_text : ℕ → Shape → Bytes
node_text n x = joined 9 (node_fields n x)

-- of several nodes, from n on
unfoldable pub node_texts : ℕ → List Shape → List Bytes
node_texts n [] = []
node_texts n (x ∷ xs) = node_text n x ∷ node_texts (suc n) xs
