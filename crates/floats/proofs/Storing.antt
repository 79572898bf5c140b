-- Words and f64s. Assumes nothing.
use mathlib.Core.Path.{◌≡◌, sym, ap, ◌∙◌, subst}
use mathlib.Core.Bool.{true, false, not}
use Prim.Native.Nat.{ℕ, ◌+◌, ◌-◌, ◌*◌, ◌%◌, ◌^◌, ◌≤◌, ◌<◌}
use native.Mathlib.Omega.{arith}
use lib.Dec.{T}
use lib.IntN.{pos}
use lib.Ieee as Ieee
use lib.Ieee.{Float, binary64, of_bits, to_bits, is_nan}
use lib.Ieee.Scale.{finite}
use lib.Ieee.Bits.{to_bits-lt}
use Rattle.laws.specs.Integers.{bias}
use Rattle.reals.specs.Reals.{Real, binary, is_binary64, Number, int, exponent, halvings, of_units, held, widened, widen, kept}
use Rattle.reals.specs.Bits.{rank, bits, from_bits}
use Rattle.reals.specs.Floats.{f64_of}
use Rattle.reals.specs.Words.{word, key, cell, number_in}
use Rattle.floats.specs.Meanings.{coded_of, FloatOf, Holds, NumberOf, CellOf}
use Rattle.floats.specs.declared.Number.{Number as Coded}
use Rattle.floats.specs.declared.Number.TheVariants as coded
use Rattle.reals.proofs.Full.{binary64→full, binary64→low}
use Rattle.reals.proofs.Widening.{widen_binary64}
use Rattle.reals.proofs.Words.{rank_below}
use Rattle.reals.proofs.Onto.{number_in_lem, number_low, number_high, number_back, word_onto, real_in_below, real_in_above}
use Rattle.reals.proofs.Bits.{real_binary64, real_bits, bits_of_float, real_finite, finite_number}

-- the f64 with finite bits is a Real's
pub float_at : (b : ℕ) → b < 2 ^ 64 → of_bits binary64 b ≡ f64_of (from_bits b)
unfolding f64_of
float_at b h = ap (of_bits binary64) (sym (real_bits b h))

pub bits_finite : (b : ℕ) → b < 2 ^ 64 → b % 2 ^ 63 < 2047 * 2 ^ 52 → T (finite (of_bits binary64 b))
bits_finite b h l = subst (λ x. T (finite x)) (sym (float_at b h)) (real_finite (from_bits b) (real_binary64 b l))

-- ---- number_of

pub below_low : (w : ℕ) → 4503599627370496 < w → (9223372036854775808 + (9223372036854775808 - w)) % 2 ^ 63 < 2047 * 2 ^ 52
below_low w h = omega (arith, h)

pub above_low : (w : ℕ) → w < 18442240474082181120 → (w - 9223372036854775808) % 2 ^ 63 < 2047 * 2 ^ 52
above_low w h = omega (arith, h)

-- what it reads is the number with the word
read_back : {w : ℕ} {r : Coded} → r ≡ coded_of (number_in w) → (x : Number) → T (kept x) → w ≡ cell x → r ≡ coded_of x
read_back t x k e = t ∙ ap (λ v. coded_of (number_in v)) e ∙ ap coded_of (number_back x k)

-- the f64 with the bits b, which are those of the word's Real
number_at : (b w : ℕ) {r : Coded} → b < 2 ^ 64 → b % 2 ^ 63 < 2047 * 2 ^ 52 → number_in w ≡ held (from_bits b) → Holds (of_bits binary64 b) r → NumberOf w r
number_at b w {r} h l n g = record { sound = g.sound; is = read_back t; total = t }
  where
    t : r ≡ coded_of (number_in w)
    t = g.is (from_bits b) (real_binary64 b l) (float_at b h) ∙ ap coded_of (sym n)

pub number_below : (w : ℕ) {r : Coded} → 4503599627370496 < w → w < 9223372036854775808 → Holds (of_bits binary64 (9223372036854775808 + (9223372036854775808 - w))) r → NumberOf w r
number_below w h l g = number_at (2 ^ 63 + (2 ^ 63 - w)) w (omega (arith, h)) (below_low w h) (number_in_lem w (h, omega (arith, l)) ∙ ap held (real_in_below w l)) g

pub number_above : (w : ℕ) {r : Coded} → 9223372036854775808 ≤ w → w < 18442240474082181120 → Holds (of_bits binary64 (w - 9223372036854775808)) r → NumberOf w r
number_above w h l g = number_at (w - 2 ^ 63) w (omega (arith, l)) (above_low w l) (number_in_lem w (omega (arith, h), l) ∙ ap held (real_in_above w h)) g

-- a word that is no number's
no_word : (w : ℕ) → number_in w ≡ int (pos 0) → NumberOf w (coded.Integer 2147483648)
unfolding coded_of bias
no_word w h = record { sound = omega arith; is = read_back t; total = t }
  where
    t : coded.Integer 2147483648 ≡ coded_of (number_in w)
    t = ap coded_of (sym h)

pub word_low : (w : ℕ) → w ≤ 4503599627370496 → NumberOf w (coded.Integer 2147483648)
word_low w h = no_word w (number_low w h)

pub word_high : (w : ℕ) → 18442240474082181120 ≤ w → NumberOf w (coded.Integer 2147483648)
word_high w h = no_word w (number_high w h)

-- ---- word_in

zero_word : (w : ℕ) → number_in w ≡ int (pos 0) → 9223372036854775808 ≡ cell (number_in w)
unfolding cell widen widened of_units exponent halvings key rank word
zero_word w e = sym (ap cell e)

pub zero_low : (w : ℕ) → w ≤ 4503599627370496 → 9223372036854775808 ≡ cell (number_in w)
zero_low w h = zero_word w (number_low w h)

pub zero_high : (w : ℕ) → 18442240474082181120 ≤ w → 9223372036854775808 ≡ cell (number_in w)
zero_high w h = zero_word w (number_high w h)

pub word_stays : (w : ℕ) → 4503599627370496 < w → w < 18442240474082181120 → w ≡ cell (number_in w)
word_stays w h l = sym (word_onto w h l)

-- ---- cell_of

bits_64 : (x : Float) → Ieee.fits binary64 x ≡ true → to_bits binary64 x < 18446744073709551616
bits_64 x h = to_bits-lt binary64 x (subst T (sym h) tt)

pub bits_room : (x : Float) → Ieee.fits binary64 x ≡ true → to_bits binary64 x - 9223372036854775808 ≤ 9223372036854775808
bits_room x h = let k = bits_64 x h in omega (arith, k)

word_plus : (r : Real) → T (is_binary64 r) → bits r < 2 ^ 63 → 2 ^ 63 + bits r ≡ key r
unfolding key bits rank word
word_plus (binary true m e) p h = absurd (omega (arith, h))
word_plus (binary false m e) p h = omega arith

word_minus : (r : Real) → T (is_binary64 r) → 2 ^ 63 ≤ bits r → 2 ^ 63 - (bits r - 2 ^ 63) ≡ key r
unfolding key bits rank word
word_minus (binary true m e) p h = omega arith
word_minus (binary false m e) p h = let k = rank_below m e (binary64→full false m e p) (binary64→low false m e p) in absurd (omega (arith, h, k))

module _ {s : Coded} {x : Float} (F : FloatOf s x) where
  bits_are : (u : Number) → T (kept u) → s ≡ coded_of u → to_bits binary64 x ≡ bits (widen u)
  bits_are u k m = ap (to_bits binary64) (F.is u k m) ∙ bits_of_float (widen u) (widen_binary64 u k)

  pub float_number : T (not (is_nan x))
  float_number = finite_number x F.sound

  pub cell_plus : to_bits binary64 x < 9223372036854775808 → CellOf s (9223372036854775808 + to_bits binary64 x)
  unfolding cell
  cell_plus h = record { is = λ u k m. ap (λ j. 2 ^ 63 + j) (bits_are u k m) ∙ word_plus (widen u) (widen_binary64 u k) (subst (λ j. j < 2 ^ 63) (bits_are u k m) h) }

  pub cell_minus : 9223372036854775808 ≤ to_bits binary64 x → CellOf s (9223372036854775808 - (to_bits binary64 x - 9223372036854775808))
  unfolding cell
  cell_minus h = record { is = λ u k m. ap (λ j. 2 ^ 63 - (j - 2 ^ 63)) (bits_are u k m) ∙ word_minus (widen u) (widen_binary64 u k) (subst (λ j. 2 ^ 63 ≤ j) (bits_are u k m) h) }
