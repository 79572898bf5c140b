-- The letters of collections, and the spelling of values that are none: what `put_simple` asks of the calls in it, and what they
-- give. Assumes nothing.
use Prim.Native.Nat.{ℕ, ◌+◌, ◌≤◌}
use mathlib.Core.Path.{◌≡◌, refl, sym, ap, ◌∙◌, subst}
use mathlib.Core.Bool.{Bool}
use mathlib.Core.List.{◌∷◌}
use native.Mathlib.Omega.{arith}
use lib.Dec.{T}
use lib.Ieee.{Float, binary64, to_bits}
use lib.Ieee.Scale.{finite}
use lib.ListN.{length}
use Rattle.laws.specs.Integers.{unbias}
use Rattle.laws.proofs.Tests.{and_l, test_true}
use Rattle.reals.specs.Reals.{Real, is_binary64, is_real, held, real, in_range, kept}
use Rattle.reals.specs.Bits.{from_bits}
use Rattle.reals.specs.Floats.{f64_of}
use Rattle.reals.specs.Spelling.{spell_real}
use Rattle.reals.proofs.Bits.{bits_back, bits_of_float, real_finite}
use Rattle.ocl.specs.Types.{Kind, set, sequence, bag, kind_code}
use Rattle.ocl.specs.Values.{Value, num}
use Rattle.ocl.proofs.Ranges.{unbias_bias}
use Rattle.sheet.specs.Text.{Bytes, byte, spell_number, spell_integer}
use Rattle.sheet.specs.Spelling.{letter_byte, kind_byte, spell_bool, spell_num, spell_value}
use Rattle.sheet.proofs.Lengths.{real_length}
use Rattle.text.specs.Written.{Puts}
use Rattle.text.specs.WrittenReals.{PutsReal}
use Rattle.text.proofs.WrittenLaws.{puts_as}
use Rattle.values.specs.Cells.{Fits, fits_num}
use Rattle.values.specs.Meanings.{Means, means_bool, means_int, means_real, means_obj}
use Rattle.values.specs.declared.Simple.{Simple}
use Rattle.values.specs.declared.Simple.TheVariants as simple
use Rattle.spelling.specs.Meanings.{SimpleWaits}

-- ---- letters

pub letter_set : {s : ℕ} (k : Kind) → s ≡ 3 → s ≡ 3 + kind_code k → 83 ≡ kind_byte k
unfolding kind_code kind_byte letter_byte
letter_set set h e = refl
letter_set sequence h e = absurd (omega arith)
letter_set bag h e = absurd (omega arith)

pub letter_sequence : {s : ℕ} (k : Kind) → s ≡ 4 → s ≡ 3 + kind_code k → 81 ≡ kind_byte k
unfolding kind_code kind_byte letter_byte
letter_sequence set h e = absurd (omega arith)
letter_sequence sequence h e = refl
letter_sequence bag h e = absurd (omega arith)

pub letter_bag : {s : ℕ} (k : Kind) → (s ≡ 3 → ⊥) → (s ≡ 4 → ⊥) → s ≡ 3 + kind_code k → 66 ≡ kind_byte k
unfolding kind_code kind_byte letter_byte
letter_bag set h g e = absurd (h e)
letter_bag sequence h g e = absurd (g e)
letter_bag bag h g e = refl

-- ---- values that are no collections

-- how one is spelled, as the code holds it
unfoldable simple_spelling : Simple → Bytes
simple_spelling (simple.Bool b) = spell_bool b
simple_spelling (simple.Integer n) = spell_integer (unbias n)
simple_spelling (simple.Real x) = spell_real (from_bits (to_bits binary64 x))
simple_spelling (simple.Object n) = byte "@" ∷ spell_number n

real_back : (r : Real) → T (is_binary64 r) → from_bits (to_bits binary64 (f64_of r)) ≡ r
real_back r h = ap from_bits (bits_of_float r h) ∙ bits_back r h

means_spelling : {s : Simple} {v : Value} → Means s v → Fits v → simple_spelling s ≡ spell_value v
unfolding simple_spelling spell_value spell_num kept
means_spelling means_bool f = refl
means_spelling (means_int {z} e) (fits_num h) = ap spell_integer (ap unbias e ∙ unbias_bias z (test_true (in_range z) h))
means_spelling (means_real {r} e) (fits_num h) = ap (λ x. spell_real (from_bits (to_bits binary64 x))) e ∙ ap spell_real (real_back r (and_l (is_binary64 r) (is_real (held r)) h))
means_spelling means_obj f = refl

-- an f64 of the code is the Real that it stands for
meant_real : (P : Value → Type 0) {s : Simple} {v : Value} {x : Float} → Means s v → Fits v → s ≡ simple.Real x → ((r : Real) → T (is_binary64 r) → x ≡ f64_of r → P (num (real r))) → P v
unfolding kept
meant_real P means_bool f e h = absurd (let z : ◌≡◌ {A = ℕ} 0 1 = cc in omega arith)
meant_real P (means_int q) f e h = absurd (let z : ◌≡◌ {A = ℕ} 0 1 = cc in omega arith)
meant_real P {x = x} (means_real {x = y} {r = r} q) (fits_num k) e h = h r (and_l (is_binary64 r) (is_real (held r)) k) (let d : x ≡ y = cc in d ∙ q)
meant_real P means_obj f e h = absurd (let z : ◌≡◌ {A = ℕ} 0 1 = cc in omega arith)

module _ {at room : ℕ} {s : Simple} (w : SimpleWaits at s room) where
  room_for : at + length (simple_spelling s) ≤ room
  room_for = omega (arith, w.enough, ap length (means_spelling w.means w.fits))

  pub bool_room : {b : Bool} → s ≡ simple.Bool b → at + length (spell_bool b) ≤ room
  unfolding simple_spelling
  bool_room e = omega (arith, room_for, ap (λ x. length (simple_spelling x)) e)

  pub integer_room : {n : ℕ} → s ≡ simple.Integer n → at + length (spell_integer (unbias n)) ≤ room
  unfolding simple_spelling
  integer_room e = omega (arith, room_for, ap (λ x. length (simple_spelling x)) e)

  pub object_room : {n : ℕ} → s ≡ simple.Object n → at + (1 + length (spell_number n)) ≤ room
  unfolding simple_spelling
  object_room e = omega (arith, room_for, ap (λ x. length (simple_spelling x)) e)

  pub real_room : {x : Float} → s ≡ simple.Real x → T (finite x) × (at + 17 ≤ room)
  unfolding simple_spelling
  real_room {x} e = (
    meant_real (λ y. T (finite x)) w.means w.fits e (λ r h q. subst (λ y. T (finite y)) (sym q) (real_finite r h)),
    omega (arith, room_for, ap (λ y. length (simple_spelling y)) e, real_length (from_bits (to_bits binary64 x))),
  )

-- what is written is the value's spelling
module _ {s : Simple} {at r : ℕ} {a b : Bytes} where
  puts_simple : {w : Bytes} → simple_spelling s ≡ w → Puts at w a b r → (v : Value) → Fits v → Means s v → Puts at (spell_value v) a b r
  puts_simple e p v f m = puts_as p (sym e ∙ means_spelling m f)

  pub bool_puts : {t : Bool} → s ≡ simple.Bool t → Puts at (spell_bool t) a b r → (v : Value) → Fits v → Means s v → Puts at (spell_value v) a b r
  unfolding simple_spelling
  bool_puts e p = puts_simple (ap simple_spelling e) p

  pub integer_puts : {n : ℕ} → s ≡ simple.Integer n → Puts at (spell_integer (unbias n)) a b r → (v : Value) → Fits v → Means s v → Puts at (spell_value v) a b r
  unfolding simple_spelling
  integer_puts e p = puts_simple (ap simple_spelling e) p

  pub object_puts : {n : ℕ} → s ≡ simple.Object n → Puts at (64 ∷ spell_number n) a b r → (v : Value) → Fits v → Means s v → Puts at (spell_value v) a b r
  unfolding simple_spelling
  object_puts e p = puts_simple (ap simple_spelling e) p

  pub real_puts : {x : Float} → s ≡ simple.Real x → PutsReal at x a b r → (v : Value) → Fits v → Means s v → Puts at (spell_value v) a b r
  unfolding spell_value spell_num
  real_puts e p v f m = meant_real (λ v. Puts at (spell_value v) a b r) m f e (λ y h q. p.is y h q)
