-- The Integer with a word, and the word of an Integer. Assumes nothing.
use mathlib.Core.Path.{◌≡◌, refl, sym, ap, ◌∙◌, subst}
use mathlib.Core.Bool.{false, not}
use Prim.Native.Nat.{ℕ, suc, ◌+◌, ◌-◌, ◌*◌, ◌%◌, ◌^◌, ◌≤◌, ◌<◌}
use native.Mathlib.Nat.{le_of_lt, zero-add}
use native.Mathlib.Omega.{arith}
use lib.IntN.{ℤ, pos, negsuc}
use lib.Dec.{T}
use lib.Ieee as Ieee
use lib.Ieee.{Float, binary64, of_bits, to_bits, is_nan}
use lib.Ieee.Scale.{finite}
use Rattle.laws.proofs.Orders.{Three, less, same, over, three}
use Rattle.laws.specs.Integers.{bias}
use Rattle.reals.specs.Reals.{Number, int, real, is_binary64, in_range, of_units, widened, widen, kept}
use Rattle.reals.specs.Bits.{rank, bits, from_bits}
use Rattle.reals.specs.Floats.{f64_of}
use Rattle.reals.specs.Words.{word, key, cell}
use Rattle.reals.proofs.Full.{binary64→full, binary64→low}
use Rattle.reals.proofs.Widening.{whole_binary64, neg_range}
use Rattle.reals.proofs.Words.{rank_below, cell_room}
use Rattle.reals.proofs.Bits.{real_binary64, real_bits, bits_of_float, real_finite, finite_number}
use Rattle.floats.specs.Meanings.{whole_at, NumberOf, integer_of, IntegerIn, IntegerCell}
use Rattle.floats.specs.declared.Number.TheVariants as coded
use Rattle.floats.proofs.Casting.{cast}
use Rattle.floats.proofs.Coding.{same_integer, no_integer_lem, no_float}
use Rattle.floats.proofs.Holding.{plus_int, minus_int, plus_no, plus_far, minus_no, minus_far}
use Rattle.floats.proofs.Storing.{float_at, bits_finite, number_below, number_above}
use Rattle.std.specs.Prelude.{Option as Optional, Some, None}

-- ---- integer_in

in_int : {w n : ℕ} → 4503599627370496 < w → w < 18442240474082181120 → NumberOf w (coded.Integer n) → IntegerIn w (Some n)
unfolding integer_of
in_int {w} {n} a b N = record { sound = N.sound; is = at; low = λ l. absurd (omega (arith, a, l)); high = λ l. absurd (omega (arith, b, l)) }
  where
    at : (x : Number) → T (kept x) → w ≡ cell x → Some n ≡ integer_of x
    at (int z) k e = ap (λ j. Some j) (same_integer z (N.is (int z) k e))
    at (real r) k e = no_integer_lem r (N.is (real r) k e)

in_real : {w : ℕ} {y : Float} → NumberOf w (coded.Real y) → IntegerIn w None
unfolding integer_of
in_real {w} {y} N = record { sound = tt; is = at; low = λ l. refl; high = λ l. refl }
  where
    at : (x : Number) → T (kept x) → w ≡ cell x → None ≡ integer_of x
    at (int z) k e = no_float z (N.is (int z) k e)
    at (real r) k e = refl

no_word : (w : ℕ) → ((x : Number) → T (kept x) → w ≡ cell x → ⊥) → IntegerIn w None
no_word w h = record { sound = tt; is = λ x k e. absurd (h x k e); low = λ l. refl; high = λ l. refl }

bits_back : (b : ℕ) → b < 2 ^ 64 → b % 2 ^ 63 < 2047 * 2 ^ 52 → to_bits binary64 (of_bits binary64 b) ≡ b
bits_back b h l = ap (to_bits binary64) (float_at b h) ∙ bits_of_float (from_bits b) (real_binary64 b l) ∙ real_bits b h

-- a word below that of 0
module _ (w : ℕ) (l : w < 9223372036854775808) where
  abbrev size : ℕ
  size = 9223372036854775808 - w

  abbrev x : Float
  x = of_bits binary64 (9223372036854775808 + size)

  module _ (h : 4503599627370496 < w) where
    low : (9223372036854775808 + size) % 2 ^ 63 < 2047 * 2 ^ 52
    low = omega (arith, h)

    bits_x : to_bits binary64 x ≡ 9223372036854775808 + size
    bits_x = bits_back (9223372036854775808 + size) (omega (arith, h)) low

    minus : 9223372036854775808 ≤ to_bits binary64 x
    minus = omega (arith, bits_x)

    size_x : to_bits binary64 x - 9223372036854775808 ≡ size
    size_x = omega (arith, bits_x)

    finite_x : T (finite x)
    finite_x = bits_finite (9223372036854775808 + size) (omega (arith, h)) low

  pub below_int : {n : ℕ} {v : Optional ℕ} → size ≤ 4746794007248502784 → v ≡ whole_at size → v ≡ Some n → IntegerIn w (Some (2147483648 - n))
  below_int g i j =
      let h : 4503599627370496 < w = omega (arith, g) in
      let s = size_x h in
      in_int h (omega (arith, l)) (number_below w h l (minus_int x (minus h) (omega (arith, s, g)) (i ∙ ap whole_at (sym s)) j))

  pub below_no : {v : Optional ℕ} → size ≤ 4746794007248502784 → v ≡ whole_at size → v ≡ None → IntegerIn w None
  below_no g i j =
      let h : 4503599627370496 < w = omega (arith, g) in
      in_real (number_below w h l (minus_no x (finite_x h) (minus h) (i ∙ ap whole_at (sym (size_x h))) j))

  pub below_far : 4746794007248502784 < size → IntegerIn w None
  below_far g = go (three 4503599627370496 w)
    where
      away : w ≤ 4503599627370496 → IntegerIn w None
      away h = no_word w (λ y k e. let r = (cell_room y k).0 in omega (arith, h, e, r))

      go : Three 4503599627370496 w → IntegerIn w None
      go (less h) = let s = size_x h in in_real (number_below w h l (minus_far x (finite_x h) (minus h) (omega (arith, s, g))))
      go (same h) = away (omega (arith, h))
      go (over h) = away (omega (arith, h))

-- a word from that of 0 on
module _ (w : ℕ) (l : 9223372036854775808 ≤ w) where
  abbrev up : ℕ
  up = w - 9223372036854775808

  abbrev y : Float
  y = of_bits binary64 up

  module _ (h : w < 18442240474082181120) where
    low_up : up % 2 ^ 63 < 2047 * 2 ^ 52
    low_up = omega (arith, h)

    bits_y : to_bits binary64 y ≡ up
    bits_y = bits_back up (omega (arith, h)) low_up

    plus : to_bits binary64 y < 9223372036854775808
    plus = omega (arith, bits_y, h)

    finite_y : T (finite y)
    finite_y = bits_finite up (omega (arith, h)) low_up

  pub above_int : {n : ℕ} {v : Optional ℕ} → up < 4746794007248502784 → v ≡ whole_at up → v ≡ Some n → IntegerIn w (Some (2147483648 + n))
  above_int g i j =
      let h : w < 18442240474082181120 = omega (arith, g) in
      let s = bits_y h in
      in_int (omega (arith, l)) h (number_above w l h (plus_int y (plus h) (omega (arith, s, g)) (i ∙ ap whole_at (sym s)) j))

  pub above_no : {v : Optional ℕ} → up < 4746794007248502784 → v ≡ whole_at up → v ≡ None → IntegerIn w None
  above_no g i j =
      let h : w < 18442240474082181120 = omega (arith, g) in
      in_real (number_above w l h (plus_no y (finite_y h) (plus h) (i ∙ ap whole_at (sym (bits_y h))) j))

  pub above_far : 4746794007248502784 ≤ up → IntegerIn w None
  above_far g = go (three w 18442240474082181120)
    where
      away : 18442240474082181120 ≤ w → IntegerIn w None
      away h = no_word w (λ u k e. let r = (cell_room u k).1 in omega (arith, h, e, r))

      go : Three w 18442240474082181120 → IntegerIn w None
      go (less h) = let s = bits_y h in in_real (number_above w l h (plus_far y (finite_y h) (plus h) (omega (arith, s, g))))
      go (same h) = away (omega (arith, h))
      go (over h) = away (omega (arith, h))

-- ---- integer_cell

module _ (n : ℕ) (h : n ≤ 2147483648) where
  binary64_n : T (is_binary64 (of_units false (n * 2 ^ 1074)))
  binary64_n = whole_binary64 n (omega (arith, h)) false

  pub cast_number : T (not (is_nan (Ieee.of_int binary64 (pos n))))
  cast_number = subst (λ y. T (not (is_nan y))) (sym (cast n h)) (finite_number (f64_of (of_units false (n * 2 ^ 1074))) (real_finite (of_units false (n * 2 ^ 1074)) binary64_n))

  cast_bits : to_bits binary64 (Ieee.of_int binary64 (pos n)) ≡ rank (of_units false (n * 2 ^ 1074))
  unfolding bits of_units
  cast_bits = ap (to_bits binary64) (cast n h) ∙ bits_of_float (of_units false (n * 2 ^ 1074)) binary64_n ∙ zero-add _

  cast_low : to_bits binary64 (Ieee.of_int binary64 (pos n)) < 9223372036854775808
  unfolding of_units rank
  cast_low = let k = rank_below _ _ (binary64→full false _ _ binary64_n) (binary64→low false _ _ binary64_n) in let q = cast_bits in omega (arith, k, q)

  pub cast_under : to_bits binary64 (Ieee.of_int binary64 (pos n)) ≤ 9223372036854775808
  cast_under = le_of_lt cast_low

  pub cast_room : 9223372036854775808 + to_bits binary64 (Ieee.of_int binary64 (pos n)) < 18446744073709551616
  cast_room = omega (arith, cast_low)

pub cell_below : (b : ℕ) → b < 2147483648 → IntegerCell b (9223372036854775808 - to_bits binary64 (Ieee.of_int binary64 (pos (2147483648 - b))))
unfolding bias cell widen widened key word of_units rank
cell_below b l = record { is = at }
  where
    at : (z : ℤ) → T (in_range z) → b ≡ bias z → 9223372036854775808 - to_bits binary64 (Ieee.of_int binary64 (pos (2147483648 - b))) ≡ cell (int z)
    at (pos n) r e = absurd (omega (arith, e, l))
    at (negsuc n) r e =
        let q = neg_range n r in
        let w : 2147483648 - b ≡ suc n = omega (arith, e, q) in
        ap (λ k. 9223372036854775808 - k) (cast_bits (2147483648 - b) (omega arith) ∙ ap (λ j. rank (of_units false (j * 2 ^ 1074))) w)

pub cell_above : (b : ℕ) → 2147483648 ≤ b → b < 4294967296 → IntegerCell b (9223372036854775808 + to_bits binary64 (Ieee.of_int binary64 (pos (b - 2147483648))))
unfolding bias cell widen widened key word of_units rank
cell_above b l h = record { is = at }
  where
    at : (z : ℤ) → T (in_range z) → b ≡ bias z → 9223372036854775808 + to_bits binary64 (Ieee.of_int binary64 (pos (b - 2147483648))) ≡ cell (int z)
    at (pos n) r e =
        let w : b - 2147483648 ≡ n = omega (arith, e) in
        ap (λ k. 9223372036854775808 + k) (cast_bits (b - 2147483648) (omega (arith, h)) ∙ ap (λ j. rank (of_units false (j * 2 ^ 1074))) w)
    at (negsuc n) r e = absurd (omega (arith, e, l))
