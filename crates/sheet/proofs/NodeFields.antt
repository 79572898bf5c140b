-- The fields of a node line that is written hold no tab and no line feed, so that they are its fields. Assumes nothing.
use mathlib.Core.Path.{◌≡◌}
use mathlib.Core.Logic.{◌≢◌}
use mathlib.Core.Bool.{true, false}
use mathlib.Core.List.{List, [], ◌∷◌, map}
use Prim.Native.Nat.{ℕ, ◌≤◌}
use native.Mathlib.Omega.{arith}
use lib.ListN.{length}
use Rattle.laws.specs.Lists.{all_of, Each, each_nil, each-cons}
use Rattle.laws.proofs.Lists.{each_append}
use Rattle.reals.specs.Reals.{int, real}
use Rattle.ocl.specs.Types.{Kind, set, sequence, bag, exactly}
use Rattle.ocl.specs.Forms.{plus, minus, times, div, modulo, Connective, and, or, Quantifier, for_all, exists, Access, of_object, of_members, Leaf, truth, undef, number, self, var, all, Unary, negation, size_of, convert, cast_to, Binary, equal, less, arith as arith_of, divide, over, includes, including, union}
use Rattle.sheet.specs.Text.{Bytes, bytes, fields_of, spell_number}
use Rattle.sheet.specs.Spelling.{kind_byte}
use Rattle.sheet.specs.SpellingLaws.{joined, Parted, parted_nil, parted_cons}
use Rattle.sheet.specs.Lines.{Shape, leaf, unary, binary, connective, is_undef, conditional, let_in, attribute, call, quantified, iterate, assemble}
use Rattle.sheet.specs.NodeSpelling.{conversion_word, arithmetic_word, division_word, binary_word, connective_word, quantifier_word, access_word, number_fields, leaf_fields, unary_fields, form_fields, node_fields, node_text}
use Rattle.sheet.proofs.Split.{split_laws}
use Rattle.sheet.proofs.TypeLines.{High, high, number_high, integer_high, real_high, letter_high, type_high, apart_from}

-- ---- no tab and no line feed

abbrev pub Fields : List Bytes → Type 0
Fields = Each High

all_numbers : (es : List ℕ) → Fields (map spell_number es)
all_numbers [] = each_nil
all_numbers (a ∷ es) = each-cons (number_high a) (all_numbers es)

conversion_high : (k : Kind) → High (conversion_word k)
unfolding conversion_word bytes all_of
conversion_high set = high (bytes "asSet") tt
conversion_high sequence = high (bytes "asSequence") tt
conversion_high bag = high (bytes "asBag") tt

binary_high : (op : Binary) → High (binary_word op)
unfolding binary_word arithmetic_word division_word bytes all_of
binary_high equal = high (bytes "eq") tt
binary_high less = high (bytes "less") tt
binary_high (arith_of plus) = high (bytes "plus") tt
binary_high (arith_of minus) = high (bytes "minus") tt
binary_high (arith_of times) = high (bytes "times") tt
binary_high (divide div) = high (bytes "div") tt
binary_high (divide modulo) = high (bytes "mod") tt
binary_high over = high (bytes "over") tt
binary_high includes = high (bytes "includes") tt
binary_high including = high (bytes "including") tt
binary_high union = high (bytes "union") tt

connective_high : (c : Connective) → High (connective_word c)
unfolding connective_word bytes all_of
connective_high and = high (bytes "and") tt
connective_high or = high (bytes "or") tt

quantifier_high : (q : Quantifier) → High (quantifier_word q)
unfolding quantifier_word bytes all_of
quantifier_high for_all = high (bytes "forAll") tt
quantifier_high exists = high (bytes "exists") tt

access_high : (x : Access) → High (access_word x)
unfolding access_word bytes all_of
access_high of_object = high (bytes "attr") tt
access_high of_members = high (bytes "collect") tt

leaf_fields_lem : (l : Leaf) → Fields (leaf_fields l)
unfolding leaf_fields number_fields bytes all_of
leaf_fields_lem (truth true) = each-cons (high (bytes "true") tt) each_nil
leaf_fields_lem (truth false) = each-cons (high (bytes "false") tt) each_nil
leaf_fields_lem undef = each-cons (high (bytes "undef") tt) each_nil
leaf_fields_lem (number (int z)) = each-cons (high (bytes "int") tt) (each-cons (integer_high z) each_nil)
leaf_fields_lem (number (real r)) = each-cons (high (bytes "real") tt) (each-cons (real_high r) each_nil)
leaf_fields_lem self = each-cons (high (bytes "self") tt) each_nil
leaf_fields_lem (var i) = each-cons (high (bytes "var") tt) (each-cons (number_high i) each_nil)
leaf_fields_lem (all c) = each-cons (high (bytes "all") tt) (each-cons (number_high c) each_nil)

unary_fields_lem : (op : Unary) (a : ℕ) → Fields (unary_fields op a)
unfolding unary_fields bytes all_of
unary_fields_lem negation a = each-cons (high (bytes "not") tt) (each-cons (number_high a) each_nil)
unary_fields_lem size_of a = each-cons (high (bytes "size") tt) (each-cons (number_high a) each_nil)
unary_fields_lem (convert k) a = each-cons (conversion_high k) (each-cons (number_high a) each_nil)
unary_fields_lem (cast_to c) a = each-cons (high (bytes "as") tt) (each-cons (number_high a) (each-cons (number_high c) each_nil))

form_fields_lem : (x : Shape) → Fields (form_fields x)
unfolding form_fields kind_byte bytes all_of
form_fields_lem (leaf l) = leaf_fields_lem l
form_fields_lem (unary op a) = unary_fields_lem op a
form_fields_lem (binary op a b) = each-cons (binary_high op) (each-cons (number_high a) (each-cons (number_high b) each_nil))
form_fields_lem (connective c a b) = each-cons (connective_high c) (each-cons (number_high a) (each-cons (number_high b) each_nil))
form_fields_lem (is_undef a) = each-cons (high (bytes "isUndef") tt) (each-cons (number_high a) each_nil)
form_fields_lem (conditional c a b) = each-cons (high (bytes "if") tt) (each-cons (number_high c) (each-cons (number_high a) (each-cons (number_high b) each_nil)))
form_fields_lem (let_in i a b) = each-cons (high (bytes "let") tt) (each-cons (number_high i) (each-cons (number_high a) (each-cons (number_high b) each_nil)))
form_fields_lem (attribute x name a) = each-cons (access_high x) (each-cons (number_high a) (each-cons (number_high name) each_nil))
form_fields_lem (call a n) = each-cons (high (bytes "call") tt) (each-cons (number_high a) (each-cons (number_high n) each_nil))
form_fields_lem (quantified q i a b) = each-cons (quantifier_high q) (each-cons (number_high a) (each-cons (number_high i) (each-cons (number_high b) each_nil)))
form_fields_lem (iterate i j t a e b) =
    each-cons (high (bytes "iter") tt) (each-cons (number_high a) (each-cons (number_high i) (each-cons (number_high j) (each-cons (type_high t) (each-cons (number_high e) (each-cons (number_high b) each_nil))))))
form_fields_lem (assemble k es) = each-cons (high (bytes "coll") tt) (each-cons (each-cons (letter_high (exactly k)) each_nil) (all_numbers es))

pub node_fields_lem : (n : ℕ) (x : Shape) → Fields (node_fields n x)
unfolding node_fields bytes all_of
node_fields_lem n x = each-cons (high (bytes "N") tt) (each-cons (number_high n) (form_fields_lem x))

pub parted : (sep : ℕ) → sep ≤ 10 → {ps : List Bytes} → Fields ps → Parted sep ps
parted sep l each_nil = parted_nil
parted sep l (each-cons p h) = parted_cons (apart_from sep l p) (parted sep l h)

-- fields joined by tabs hold no line feed
pub joined_line : {ps : List Bytes} → Fields ps → Each (λ b. b ≢ 10) (joined 9 ps)
unfolding joined
joined_line each_nil = each_nil
joined_line (each-cons p each_nil) = apart_from 10 (omega arith) p
joined_line (each-cons p (each-cons q h)) = each_append (apart_from 10 (omega arith) p) (each-cons {n = 9} (λ e. omega arith) (joined_line (each-cons q h)))

pub fields_back : (n : ℕ) (x : Shape) → fields_of (node_text n x) ≡ node_fields n x
unfolding fields_of node_text
fields_back n x = (split_laws 9).no_other_parts (node_fields n x) (some_field n x) (parted 9 (omega arith) (node_fields_lem n x))
  where
    some_field : (n : ℕ) (x : Shape) → 1 ≤ length (node_fields n x)
    some_field n x = unfold node_fields in omega arith
