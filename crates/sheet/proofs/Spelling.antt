-- Types and values are read back as they are written, and only so. Assumes nothing.
use mathlib.Core.Path.{◌≡◌, refl, ap}
use mathlib.Core.Logic.{◌≢◌}
use mathlib.Core.Bool.{true, false}
use mathlib.Core.Option.{some, none-ne-some, some-injective}
use mathlib.Core.List.{[], ◌∷◌, ◌++◌, append_assoc}
use Prim.Native.Nat.{ℕ, zero, suc, ◌≤◌, ◌<◌}
use Prim.Native.String.{String}
use native.Mathlib.Omega.{arith}
use lib.IntN.{ℤ, pos}
use lib.ListN.{length, length-append}
use lib.Dec.{T}
use Rattle.laws.specs.Choice.{or_else, on_some, map_some}
use Rattle.laws.proofs.Tests.{and_l, and_r}
use Rattle.reals.specs.Reals.{int, real, kept}
use Rattle.reals.specs.Reals as numbers
use Rattle.reals.specs.Bits.{bits}
use Rattle.reals.specs.Digits.{hex_digits}
use Rattle.reals.specs.Spelling.{spell_real}
use Rattle.ocl.specs.Types.{any, boolean, class, Kind, set, sequence, bag, Letter, collection, exactly, Ty, void, simple, around, Any, Boolean, Integer, Real, Class, integer as integer_type, real as real_type}
use Rattle.ocl.specs.Values.{Value, bool, num, obj, coll, Values, nil, cons, every_part, every_parts}
use Rattle.sheet.specs.Text.{Bytes, byte, bytes, Parser, after, literal, behind, ◌or◌, ◌then◌, mapped, is_digit, digits, plain, number_parser, negative, integer_parser, real_parser, spell_number, spell_integer}
use Rattle.sheet.specs.Spelling.{collection_type, type_parser, read_type, letter_byte, spell_simple, spell_type, value_parser, members_parser, more_parser, read_value, kind_byte, spell_bool, spell_num, spell_value, spell_members, spell_more}
use Rattle.sheet.specs.SpellingLaws.{no_digit, real_kept, SpellingLaws}
use Rattle.sheet.proofs.Numbers.{decimal, number_back, number_only}
use Rattle.sheet.proofs.RealFields.{field_alike}
use Rattle.sheet.proofs.RealSpelling.{real_reads, real_spells}
use Rattle.sheet.proofs.Parsers.{Reads, Misses, Halts, Begins, begins, begins_imp, other_byte, literal_reads, literal_misses, behind_reads, first_reads, second_reads, then_reads, mapped_reads, whole_reads, Spells, nothing_spells, literal_spells, behind_spells, or_spells, then_spells, mapped_spells, whole_spells}
use Rattle.sheet.proofs.IntegerSpelling.{number_reads, integer_begins, integer_reads}

-- ---- types, read back

-- what ends a type or a member stops a number
close_halts : Halts (bytes ")")
unfolding bytes is_digit
close_halts = record { halts = λ rest. no_digit tt }

-- behind a letter and its bracket nothing but a collection type is read
letter_first : (l : Letter) (n : ℕ) (s : Bytes) {x : Ty × Bytes} → (type_parser n then (λ t. literal ")" (around l t))) s ≡ some x → type_parser (suc n) (letter_byte l ∷ byte "(" ∷ s) ≡ some x
unfolding type_parser collection_type letter_byte bytes after literal behind ◌or◌ ◌then◌ or_else on_some map_some
letter_first collection n s e = e
letter_first (exactly set) n s e = rw e
letter_first (exactly sequence) n s e = rw e
letter_first (exactly bag) n s e = rw e

letter_reads : (l : Letter) (t : Ty) (n : ℕ) → Reads (type_parser n) (spell_type t) t → Reads (type_parser (suc n)) (spell_type (around l t)) (around l t)
unfolding spell_type
letter_reads l t n r =
    let inside = then_reads (λ u. literal ")" (around l u)) r close_halts (literal_reads ")" (around l t)) in
    record { read = λ rest st. letter_first l n (spell_type t ++ bytes ")" ++ rest) (inside.read rest st) }

-- as many letters may be read as there are bytes
type_reads : (t : Ty) (n : ℕ) → length (spell_type t) ≤ n → Reads (type_parser n) (spell_type t) t
unfolding type_parser spell_type spell_simple bytes after literal behind ◌or◌ mapped or_else on_some map_some
type_reads void zero h = absurd (omega arith)
type_reads void (suc n) h = record { read = λ rest st. refl }
type_reads (simple any) zero h = absurd (omega arith)
type_reads (simple any) (suc n) h = record { read = λ rest st. refl }
type_reads (simple boolean) zero h = absurd (omega arith)
type_reads (simple boolean) (suc n) h = record { read = λ rest st. refl }
type_reads (simple integer_type) zero h = absurd (omega arith)
type_reads (simple integer_type) (suc n) h = record { read = λ rest st. refl }
type_reads (simple real_type) zero h = absurd (omega arith)
type_reads (simple real_type) (suc n) h = record { read = λ rest st. refl }
type_reads (simple (class c)) zero h = absurd (omega arith)
type_reads (simple (class c)) (suc n) h = record { read = λ rest st. rw (number_back c rest st) }
type_reads (around l t) zero h = absurd (omega arith)
type_reads (around l t) (suc n) h = letter_reads l t n (type_reads t n (omega (arith, length-append (spell_type t) (bytes ")"))))

pub type_back : (t : Ty) → read_type (spell_type t) ≡ some t
unfolding read_type
type_back t = whole_reads (type_reads t (length (spell_type t)) (omega arith))

-- ---- values, read back

-- an Integer does not begin with a letter
no_letter : (b : ℕ) → 57 < b → (z : ℤ) → Begins (λ c. b ≢ c) (spell_integer z)
no_letter b l z = begins_imp (λ c h e. omega arith) (integer_begins z)

integer_value_reads : (z : ℤ) (n : ℕ) → Reads (value_parser (suc n)) (spell_integer z) (num (int z))
unfolding value_parser bytes
integer_value_reads z n =
    second_reads (literal_misses "t" (bool true) (spell_integer z) (λ rest. other_byte [] rest (no_letter 116 (omega arith) z)))
    (second_reads (literal_misses "f" (bool false) (spell_integer z) (λ rest. other_byte [] rest (no_letter 102 (omega arith) z)))
    (first_reads _ (mapped_reads (λ z. num (int z)) (integer_reads z))))

-- a Real is no Integer
no_integer_lem : (s : Bytes) → Misses (mapped (λ z. num (int z)) integer_parser) (byte "r" ∷ s)
unfolding mapped integer_parser number_parser digits plain is_digit behind ◌or◌ after bytes or_else on_some map_some
no_integer_lem s = record { missed = λ rest. refl }

real_value_reads : (r : numbers.Real) (n : ℕ) → T (kept (real r)) → Reads (value_parser (suc n)) (spell_real r) (num (real r))
unfolding value_parser bytes spell_real after
real_value_reads r n h =
    second_reads (literal_misses "t" (bool true) (spell_real r) (λ rest. refl))
    (second_reads (literal_misses "f" (bool false) (spell_real r) (λ rest. refl))
    (second_reads (no_integer_lem (hex_digits 16 (bits r)))
    (first_reads _ (mapped_reads (λ r. num (real r)) (real_reads r h)))))

-- behind a letter and its bracket nothing but members are read
kind_first : (k : Kind) (n : ℕ) (s : Bytes) {x : Value × Bytes} → mapped (coll k) (members_parser n) s ≡ some x → value_parser (suc n) (kind_byte k ∷ byte "(" ∷ s) ≡ some x
unfolding value_parser kind_byte letter_byte bytes after literal behind ◌or◌ mapped or_else on_some map_some integer_parser real_parser number_parser digits plain is_digit
kind_first set n s e = rw e
kind_first sequence n s e = rw e
kind_first bag n s e = e

collection_reads : (k : Kind) (vs : Values) (n : ℕ) → Reads (members_parser n) (spell_members vs) vs → Reads (value_parser (suc n)) (spell_value (coll k vs)) (coll k vs)
unfolding spell_value
collection_reads k vs n r =
    let inside = mapped_reads (coll k) r in
    record { read = λ rest st. kind_first k n (spell_members vs ++ rest) (inside.read rest st) }

-- a value does not begin with the bracket that ends its collection
no_bracket : (v : Value) → Begins (λ b. 41 ≢ b) (spell_value v)
unfolding spell_value spell_num spell_real spell_bool kind_byte letter_byte bytes
no_bracket (bool true) = begins {b = 116} (omega arith)
no_bracket (bool false) = begins {b = 102} (omega arith)
no_bracket (num (int z)) = begins_imp (λ b h e. omega arith) (integer_begins z)
no_bracket (num (real r)) = begins {b = 114} (omega arith)
no_bracket (obj o) = begins {b = 64} (omega arith)
no_bracket (coll set vs) = begins {b = 83} (omega arith)
no_bracket (coll sequence vs) = begins {b = 81} (omega arith)
no_bracket (coll bag vs) = begins {b = 66} (omega arith)

value_long : (v : Value) → 1 ≤ length (spell_value v)
value_long v = long (no_bracket v)
  where
    long : {w : Bytes} → Begins (λ b. 41 ≢ b) w → 1 ≤ length w
    long (begins p) = omega arith

-- a bracket or a comma
more_halts : (vs : Values) → Halts (spell_more vs)
unfolding spell_more bytes is_digit
more_halts nil = close_halts
more_halts (cons v vs) = record { halts = λ rest. no_digit tt }

more_long : (vs : Values) → 1 ≤ length (spell_more vs)
unfolding spell_more bytes
more_long nil = omega arith
more_long (cons v vs) = omega arith

members_long : (vs : Values) → 1 ≤ length (spell_members vs)
unfolding spell_members bytes
members_long nil = omega arith
members_long (cons v vs) = omega (arith, length-append (spell_value v) (spell_more vs), value_long v)

member_reads : (n : ℕ) (v : Value) (vs : Values) → Reads (value_parser n) (spell_value v) v → Reads (more_parser n) (spell_more vs) vs → Reads (value_parser n then (λ w. mapped (cons w) (more_parser n))) (spell_value v ++ spell_more vs) (cons v vs)
member_reads n v vs r s = then_reads (λ w. mapped (cons w) (more_parser n)) r (more_halts vs) (mapped_reads (cons v) s)

first_reads_member : (n : ℕ) (v : Value) (vs : Values) → Reads (value_parser n) (spell_value v) v → Reads (more_parser n) (spell_more vs) vs → Reads (members_parser (suc n)) (spell_members (cons v vs)) (cons v vs)
unfolding members_parser spell_members bytes
first_reads_member n v vs r s =
    second_reads (literal_misses ")" nil (spell_value v ++ spell_more vs) (λ rest. rw (append_assoc (spell_value v) (spell_more vs) rest) (other_byte [] (spell_more vs ++ rest) (no_bracket v))))
    (member_reads n v vs r s)

next_reads_member : (n : ℕ) (v : Value) (vs : Values) → Reads (value_parser n) (spell_value v) v → Reads (more_parser n) (spell_more vs) vs → Reads (more_parser (suc n)) (spell_more (cons v vs)) (cons v vs)
unfolding more_parser spell_more bytes after
next_reads_member n v vs r s = second_reads (literal_misses ")" nil (spell_more (cons v vs)) (λ rest. refl)) (behind_reads "," (member_reads n v vs r s))

-- as many parts may be read as there are bytes
mutual
  unfolding value_parser spell_value spell_num spell_bool every_part real_kept bytes after literal behind ◌or◌ mapped or_else on_some map_some integer_parser real_parser number_parser digits plain is_digit

  value_reads : (n : ℕ) (v : Value) → T (every_part real_kept v) → length (spell_value v) ≤ n → Reads (value_parser n) (spell_value v) v
  value_reads zero v q h = absurd (omega (arith, value_long v))
  value_reads (suc n) (bool true) q h = record { read = λ rest st. refl }
  value_reads (suc n) (bool false) q h = record { read = λ rest st. refl }
  value_reads (suc n) (num (int z)) q h = integer_value_reads z n
  value_reads (suc n) (num (real r)) q h = real_value_reads r n q
  value_reads (suc n) (obj o) q h = record { read = λ rest st. rw (number_back o rest st) }
  value_reads (suc n) (coll k vs) q h = collection_reads k vs n (members_read n vs q (omega arith))

  members_read : (n : ℕ) (vs : Values) → T (every_parts real_kept vs) → length (spell_members vs) ≤ n → Reads (members_parser n) (spell_members vs) vs
  members_read zero vs q h = absurd (omega (arith, members_long vs))
  members_read (suc n) nil q h = record { read = λ rest st. refl }
  members_read (suc n) (cons v vs) q h =
      let all = length-append (spell_value v) (spell_more vs) in
      let one = value_long v in
      let more = more_long vs in
      first_reads_member n v vs (value_reads n v (and_l (every_part real_kept v) _ q) (omega arith)) (more_read n vs (and_r (every_part real_kept v) _ q) (omega arith))

  more_read : (n : ℕ) (vs : Values) → T (every_parts real_kept vs) → length (spell_more vs) ≤ n → Reads (more_parser n) (spell_more vs) vs
  more_read zero vs q h = absurd (omega (arith, more_long vs))
  more_read (suc n) nil q h = record { read = λ rest st. refl }
  more_read (suc n) (cons v vs) q h =
      let all = length-append (spell_value v) (spell_more vs) in
      next_reads_member n v vs (value_reads n v (and_l (every_part real_kept v) _ q) (omega arith)) (more_read n vs (and_r (every_part real_kept v) _ q) (omega arith))

pub value_back : (v : Value) → T (every_part real_kept v) → read_value (spell_value v) ≡ some v
unfolding read_value
value_back v q = whole_reads (value_reads (length (spell_value v)) v q (omega arith))

-- ---- nothing else is read

number_spells : Spells [] number_parser spell_number
number_spells = record { spelled = number_only }

minus_spells : (n : ℕ) → Spells (bytes "-" ++ spell_number n) (negative n) spell_integer
unfolding negative spell_integer bytes
minus_spells zero = record { spelled = λ s z rest e. absurd (none-ne-some _ e) }
minus_spells (suc n) = record { spelled = λ s z rest e. ap (λ (x : ℤ × Bytes). spell_integer x.0 ++ x.1) (some-injective _ _ e) }

integer_spells : Spells [] integer_parser spell_integer
unfolding integer_parser spell_integer
integer_spells = or_spells (behind_spells "-" (then_spells number_spells minus_spells)) (mapped_spells pos number_spells (λ n. refl))

letter_spells : (w : String) (l : Letter) {p : Parser Ty} → Spells [] p spell_type → ((t : Ty) → bytes w ++ spell_type t ++ bytes ")" ≡ spell_type (around l t)) → Spells [] (collection_type w l p) spell_type
unfolding collection_type
letter_spells w l h e = behind_spells w (then_spells h (λ t. literal_spells ")" (around l t) (e t)))

type_spells : (n : ℕ) → Spells [] (type_parser n) spell_type
unfolding type_parser spell_type spell_simple letter_byte bytes
type_spells zero = nothing_spells
type_spells (suc n) =
    or_spells (literal_spells "Void" void refl)
    (or_spells (literal_spells "Bool" Boolean refl)
    (or_spells (literal_spells "Int" Integer refl)
    (or_spells (literal_spells "Real" Real refl)
    (or_spells (literal_spells "Any" Any refl)
    (or_spells (behind_spells "#" (mapped_spells Class number_spells (λ c. refl)))
    (or_spells (letter_spells "S(" (exactly set) (type_spells n) (λ t. refl))
    (or_spells (letter_spells "Q(" (exactly sequence) (type_spells n) (λ t. refl))
    (or_spells (letter_spells "B(" (exactly bag) (type_spells n) (λ t. refl))
    (letter_spells "C(" collection (type_spells n) (λ t. refl))))))))))

pub type_only : (f : Bytes) (t : Ty) → read_type f ≡ some t → f ≡ spell_type t
unfolding read_type
type_only f t e = whole_spells (type_spells (length f)) f t e

mutual
  unfolding value_parser spell_value spell_num spell_bool kind_byte letter_byte bytes

  value_spells : (n : ℕ) → Spells [] (value_parser n) spell_value
  value_spells zero = nothing_spells
  value_spells (suc n) =
      or_spells (literal_spells "t" (bool true) refl)
      (or_spells (literal_spells "f" (bool false) refl)
      (or_spells (mapped_spells (λ z. num (int z)) integer_spells (λ z. refl))
      (or_spells (mapped_spells (λ r. num (real r)) real_spells (λ r. refl))
      (or_spells (behind_spells "@" (mapped_spells obj number_spells (λ o. refl)))
      (or_spells (behind_spells "S(" (mapped_spells (coll set) (members_spell n) (λ vs. refl)))
      (or_spells (behind_spells "Q(" (mapped_spells (coll sequence) (members_spell n) (λ vs. refl)))
      (behind_spells "B(" (mapped_spells (coll bag) (members_spell n) (λ vs. refl)))))))))

  members_spell : (n : ℕ) → Spells [] (members_parser n) spell_members
  members_spell zero = nothing_spells
  members_spell (suc n) = or_spells (literal_spells ")" nil refl) (then_spells (value_spells n) (λ v. mapped_spells (cons v) (more_spell n) (λ vs. refl)))

  more_spell : (n : ℕ) → Spells [] (more_parser n) spell_more
  more_spell zero = nothing_spells
  more_spell (suc n) =
      or_spells (literal_spells ")" nil refl) (behind_spells "," (then_spells (value_spells n) (λ v. mapped_spells (cons v) (more_spell n) (λ vs. refl))))

pub value_only : (f : Bytes) (v : Value) → read_value f ≡ some v → f ≡ spell_value v
unfolding read_value
value_only f v e = whole_spells (value_spells (length f)) f v e

-- ---- all of it

pub spelling_laws : SpellingLaws
spelling_laws =
    record {
      decimal = decimal;
      numbers = record { back = λ n. whole_reads (number_reads n); only = whole_spells number_spells };
      numbers_in_front = record { back = number_back; only = number_only };
      integers = record { back = λ z. whole_reads (integer_reads z); only = whole_spells integer_spells };
      integers_in_front = record { back = λ z. (integer_reads z).read; only = integer_spells.spelled };
      reals = record { back = λ r h. whole_reads (real_reads r h); only = whole_spells real_spells };
      reals_alike = field_alike;
      types = record { back = type_back; only = type_only };
      values = record { back = value_back; only = value_only };
    }
