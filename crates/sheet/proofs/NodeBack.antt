-- A node line that is written is read back. Assumes nothing.
use mathlib.Core.Path.{◌≡◌, refl, sym, ap, ◌∙◌}
use mathlib.Core.Bool.{true, false}
use mathlib.Core.Option.{Option, none, some}
use mathlib.Core.List.{List, [], ◌∷◌, map}
use Prim.Native.Nat.{ℕ}
use lib.ListN.{length}
use lib.IntN.{ℤ}
use lib.Dec.{T, leb}
use Rattle.laws.specs.Choice.{or_else, on_some, map_some}
use Rattle.laws.proofs.Tests.{test_true}
use Rattle.reals.specs.Reals.{Real, int, real}
use Rattle.ocl.specs.Types.{Kind, set, sequence, bag, Ty}
use Rattle.ocl.specs.Forms.{plus, minus, times, div, modulo, and, or, for_all, exists, of_object, of_members, Leaf, truth, undef, number, self, var, all, Unary, negation, size_of, convert, cast_to, Binary, equal, less, arith as arith_of, divide, over, includes, including, union}
use Rattle.reals.specs.Spelling.{spell_real}
use Rattle.sheet.specs.Text.{Bytes, bytes, after as after_bytes, literal, real_parser, at_end, whole as whole_field, ◌or◌ as either, spell_number, spell_integer}
use Rattle.sheet.specs.Spelling.{letter_byte, kind_byte, spell_type}
use Rattle.sheet.specs.Lines.{Shape, leaf, unary, binary, connective, is_undef, conditional, let_in, attribute, call, quantified, iterate, assemble, Line, node_line, is, next, done, each, a_word, a_number, an_integer, a_real, a_kind, one_number, two_numbers, three_numbers, read_fields, iterate_fields, at_most_four, assemble_fields, forms, named, shape_of, line_of}
use Rattle.sheet.specs.NodeSpelling.{conversion_word, arithmetic_word, division_word, binary_word, connective_word, quantifier_word, access_word, number_fields, leaf_fields, unary_fields, form_fields, node_fields}
use Rattle.sheet.proofs.Spelling.{type_back, spelling_laws}

-- ---- fields read back

pub number_back : (n : ℕ) → a_number (spell_number n) ≡ some n
unfolding a_number
number_back n = spelling_laws.numbers.back n

integer_back : (z : ℤ) → an_integer (spell_integer z) ≡ some z
unfolding an_integer
integer_back z = spelling_laws.integers.back z

-- a Real that is read is read back, be it kept or not
pub real_back : (f : Bytes) (r : Real) → a_real f ≡ some r → a_real (spell_real r) ≡ some r
unfolding a_real
real_back f r e = ap (whole_field real_parser) (sym (spelling_laws.reals.only f r e)) ∙ e

kind_back : (k : Kind) → a_kind (kind_byte k ∷ []) ≡ some k
unfolding a_kind whole_field at_end either literal after_bytes bytes kind_byte letter_byte or_else on_some map_some
kind_back set = refl
kind_back sequence = refl
kind_back bag = refl

numbers_back : (es : List ℕ) → each a_number (map spell_number es) ≡ some es
unfolding each on_some map_some
numbers_back [] = refl
numbers_back (a ∷ es) = rw (number_back a, numbers_back es)

-- a Real is one that is read back
unfoldable pub Legible : Leaf → Type 0
Legible (truth b) = Unit
Legible undef = Unit
Legible (number (int z)) = Unit
Legible (number (real r)) = a_real (spell_real r) ≡ some r
Legible self = Unit
Legible (var i) = Unit
Legible (all c) = Unit

-- and there are at most four members
unfoldable pub Few : Shape → Type 0
Few (leaf l) = Legible l
Few (unary op a) = Unit
Few (binary op a b) = Unit
Few (connective c a b) = Unit
Few (is_undef a) = Unit
Few (conditional c a b) = Unit
Few (let_in i a b) = Unit
Few (attribute x name a) = Unit
Few (call a n) = Unit
Few (quantified q i a b) = Unit
Few (iterate i j t a e b) = Unit
Few (assemble k es) = T (leb (length es) 4)

-- a form's word and fields
unfoldable pub shape_in : List Bytes → Option Shape
shape_in [] = none
shape_in (w ∷ fs) = shape_of w fs

one_back : (f : ℕ → Shape) (a : ℕ) → read_fields (one_number f) (spell_number a ∷ []) ≡ some (f a)
unfolding read_fields next done on_some
one_back f a = rw (number_back a)

two_back : (f : ℕ → ℕ → Shape) (a b : ℕ) → read_fields (two_numbers f) (spell_number a ∷ spell_number b ∷ []) ≡ some (f a b)
unfolding read_fields next done on_some
two_back f a b = rw (number_back a, number_back b)

three_back : (f : ℕ → ℕ → ℕ → Shape) (a b c : ℕ) → read_fields (three_numbers f) (spell_number a ∷ spell_number b ∷ spell_number c ∷ []) ≡ some (f a b c)
unfolding read_fields next done on_some
three_back f a b c = rw (number_back a, number_back b, number_back c)

iterate_back : (i j : ℕ) (t : Ty) (a e b : ℕ) → iterate_fields (spell_number a ∷ spell_number i ∷ spell_number j ∷ spell_type t ∷ spell_number e ∷ spell_number b ∷ []) ≡ some (iterate i j t a e b)
unfolding iterate_fields next done on_some
iterate_back i j t a e b = rw (number_back a, number_back i, number_back j, type_back t, number_back e, number_back b)

assemble_back : (k : Kind) (es : List ℕ) → T (leb (length es) 4) → assemble_fields ((kind_byte k ∷ []) ∷ map spell_number es) ≡ some (assemble k es)
unfolding assemble_fields next at_most_four on_some
assemble_back k es h = rw (kind_back k, numbers_back es, test_true (leb (length es) 4) h)

leaf_back : (l : Leaf) → Legible l → shape_in (leaf_fields l) ≡ some (leaf l)
unfolding shape_in leaf_fields number_fields shape_of named forms read_fields is bytes next done on_some Legible
leaf_back (truth true) h = refl
leaf_back (truth false) h = refl
leaf_back undef h = refl
leaf_back (number (int z)) h = rw (integer_back z)
leaf_back (number (real r)) h = rw h
leaf_back self h = refl
leaf_back (var i) h = rw (number_back i)
leaf_back (all c) h = rw (number_back c)

unary_back : (op : Unary) (a : ℕ) → shape_in (unary_fields op a) ≡ some (unary op a)
unfolding shape_in unary_fields conversion_word shape_of named forms is bytes on_some
unary_back negation a = one_back (unary negation) a
unary_back size_of a = one_back (unary size_of) a
unary_back (convert set) a = one_back (unary (convert set)) a
unary_back (convert sequence) a = one_back (unary (convert sequence)) a
unary_back (convert bag) a = one_back (unary (convert bag)) a
unary_back (cast_to c) a = two_back (λ e c. unary (cast_to c) e) a c

binary_back : (op : Binary) (a b : ℕ) → shape_of (binary_word op) (spell_number a ∷ spell_number b ∷ []) ≡ some (binary op a b)
unfolding binary_word arithmetic_word division_word shape_of named forms is bytes on_some
binary_back equal a b = two_back (binary equal) a b
binary_back less a b = two_back (binary less) a b
binary_back (arith_of plus) a b = two_back (binary (arith_of plus)) a b
binary_back (arith_of minus) a b = two_back (binary (arith_of minus)) a b
binary_back (arith_of times) a b = two_back (binary (arith_of times)) a b
binary_back (divide div) a b = two_back (binary (divide div)) a b
binary_back (divide modulo) a b = two_back (binary (divide modulo)) a b
binary_back over a b = two_back (binary over) a b
binary_back includes a b = two_back (binary includes) a b
binary_back including a b = two_back (binary including) a b
binary_back union a b = two_back (binary union) a b

shape_back : (x : Shape) → Few x → shape_in (form_fields x) ≡ some x
unfolding shape_in form_fields connective_word quantifier_word access_word shape_of named forms read_fields Few is bytes on_some
shape_back (leaf l) h = leaf_back l h
shape_back (unary op a) h = unary_back op a
shape_back (binary op a b) h = binary_back op a b
shape_back (connective and a b) h = two_back (connective and) a b
shape_back (connective or a b) h = two_back (connective or) a b
shape_back (is_undef a) h = one_back is_undef a
shape_back (conditional c a b) h = three_back conditional c a b
shape_back (let_in i a b) h = three_back let_in i a b
shape_back (attribute of_object name a) h = two_back (λ e name. attribute of_object name e) a name
shape_back (attribute of_members name a) h = two_back (λ s name. attribute of_members name s) a name
shape_back (call a n) h = two_back call a n
shape_back (quantified for_all i a b) h = three_back (λ s i b. quantified for_all i s b) a i b
shape_back (quantified exists i a b) h = three_back (λ s i b. quantified exists i s b) a i b
shape_back (iterate i j t a e b) h = iterate_back i j t a e b
shape_back (assemble k es) h = assemble_back k es h

-- ---- a node line read back

words_back : (n : ℕ) (fs : List Bytes) → next a_word (λ form gs. map_some (node_line n) (shape_of form gs)) fs ≡ map_some (node_line n) (shape_in fs)
unfolding next a_word on_some map_some shape_in
words_back n [] = refl
words_back n (w ∷ fs) = refl

pub line_back : (n : ℕ) (x : Shape) → Few x → line_of (node_fields n x) ≡ some (node_line n x)
unfolding line_of node_fields is bytes
line_back n x h = first (λ m. next a_word (λ form gs. map_some (node_line m) (shape_of form gs))) ∙ words_back n (form_fields x) ∙ ap (map_some (node_line n)) (shape_back x h) ∙ there (node_line n)
  where
    first : (k : ℕ → List Bytes → Option Line) → next a_number k (spell_number n ∷ form_fields x) ≡ k n (form_fields x)
    first k = unfold next on_some in rw (number_back n)

    there : (f : Shape → Line) → map_some f (some x) ≡ some (f x)
    there f = unfold map_some in refl
