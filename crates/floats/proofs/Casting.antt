-- A number as an f64: Integers are cast, and lose nothing. Assumes nothing.
use mathlib.Core.Path.{◌≡◌, sym, ap, ◌∙◌, subst}
use mathlib.Core.Bool.{Bool, true, false, not}
use Prim.Native.Nat.{ℕ, suc, ◌-◌, ◌*◌, ◌^◌, ◌≤◌, ◌<◌}
use native.Mathlib.Omega.{arith}
use lib.IntN.{ℤ, pos, negsuc}
use lib.Dec.{T, le→leb}
use lib.Ieee as Ieee
use lib.Ieee.{Float, nan, inf, fin, binary64, in_float}
use lib.Ieee.Exact.{HasValue}
use lib.Ieee.Fits.{neg-fits}
use lib.Ieee.Scale.{finite}
use lib.Ieee.Bits.{of_bits-fits}
use Rattle.laws.specs.Integers.{bias}
use Rattle.reals.specs.Reals.{Real, binary, is_binary64, of_units, Number, int, real, in_range, widened, widen, kept}
use Rattle.reals.specs.Bits.{bits}
use Rattle.reals.specs.Floats.{f64_of}
use Rattle.reals.proofs.Full.{binary64→full}
use Rattle.reals.proofs.Floats.{the_float, the_value}
use Rattle.reals.proofs.Widening.{whole_binary64, whole_float, neg_range}
use Rattle.reals.proofs.Bits.{real_finite}
use Rattle.floats.specs.Meanings.{coded_of, Sound, Widens, FloatOf}
use Rattle.floats.specs.declared.Number.{Number as Coded}
use Rattle.floats.specs.declared.Number.TheVariants as coded
use Rattle.floats.proofs.Coding.{same_integer, same_float, no_integer_lem, no_float}

abbrev U : ℕ
U = 2 ^ 1074

-- ---- widen

neg_value : (x : Float) (s : Bool) (a c : ℕ) → HasValue x s a c → HasValue (Ieee.neg x) (not s) a c
unfolding Ieee.neg
neg_value nan s a c v = v
neg_value (inf t) s a c v = v
neg_value (fin t m e) s a c v = (ap not v.0, v.1)

f64_fits : (r : Real) → T (Ieee.fits binary64 (f64_of r))
unfolding f64_of
f64_fits r = of_bits-fits binary64 (bits r)

-- a minus before the f64 of a Real turns its sign
neg_real : (s : Bool) (m e : ℕ) → T (is_binary64 (binary s m e)) → Ieee.neg (f64_of (binary s m e)) ≡ f64_of (binary (not s) m e)
neg_real s m e p = the_float (Ieee.neg (f64_of (binary s m e))) (not s) m e (binary64→full s m e p) (neg-fits binary64 (f64_of (binary s m e)) (f64_fits (binary s m e))) (neg_value (f64_of (binary s m e)) s (m * 2 ^ e) U (the_value s m e p))

pub in_float_lem : (n : ℕ) → n ≤ 2147483648 → T (in_float binary64 (pos n))
unfolding in_float
in_float_lem n h = le→leb n (2 ^ 53) (omega (arith, h))

small : (n : ℕ) → n ≤ 2147483648 → n < 2 ^ 53
small n h = omega (arith, h)

pub cast : (n : ℕ) → n ≤ 2147483648 → Ieee.of_int binary64 (pos n) ≡ f64_of (of_units false (n * U))
unfolding Ieee.of_int
cast n h = whole_float n (small n h) false

minus_cast : (n : ℕ) → n ≤ 2147483648 → Ieee.neg (Ieee.of_int binary64 (pos n)) ≡ f64_of (of_units true (n * U))
unfolding of_units
minus_cast n h = ap Ieee.neg (cast n h) ∙ neg_real false _ _ (whole_binary64 n (small n h) false)

pub widen_above : (b : ℕ) → 2147483648 ≤ b → b < 4294967296 → Widens b (Ieee.of_int binary64 (pos (b - 2147483648)))
unfolding bias widened
widen_above b l h =
    let k : b - 2147483648 ≤ 2147483648 = omega (arith, h) in
    record {
      sound = subst (λ x. T (finite x)) (sym (cast (b - 2147483648) k)) (real_finite (of_units false ((b - 2147483648) * U)) (whole_binary64 (b - 2147483648) (small (b - 2147483648) k) false));
      is = at;
    }
  where
    at : (z : ℤ) → T (in_range z) → b ≡ bias z → Ieee.of_int binary64 (pos (b - 2147483648)) ≡ f64_of (widened z)
    at (pos n) r e = let w : b - 2147483648 ≡ n = omega (arith, e) in cast (b - 2147483648) (omega (arith, h)) ∙ ap (λ j. f64_of (of_units false (j * U))) w
    at (negsuc n) r e = absurd (omega (arith, e, l))

pub widen_below : (b : ℕ) → b < 2147483648 → Widens b (Ieee.neg (Ieee.of_int binary64 (pos (2147483648 - b))))
unfolding bias widened
widen_below b l =
    let k : 2147483648 - b ≤ 2147483648 = omega arith in
    record {
      sound = subst (λ x. T (finite x)) (sym (minus_cast (2147483648 - b) k)) (real_finite (of_units true ((2147483648 - b) * U)) (whole_binary64 (2147483648 - b) (small (2147483648 - b) k) true));
      is = at;
    }
  where
    at : (z : ℤ) → T (in_range z) → b ≡ bias z → Ieee.neg (Ieee.of_int binary64 (pos (2147483648 - b))) ≡ f64_of (widened z)
    at (pos n) r e = absurd (omega (arith, e, l))
    at (negsuc n) r e =
        let q = neg_range n r in
        let w : 2147483648 - b ≡ suc n = omega (arith, e, q) in minus_cast (2147483648 - b) (omega arith) ∙ ap (λ j. f64_of (of_units true (j * U))) w

-- ---- float_of

pub float_int : {n : ℕ} {x : Float} → Widens n x → FloatOf (coded.Integer n) x
unfolding widen kept
float_int {n} {x} w = record { sound = w.sound; is = at }
  where
    at : (y : Number) → T (kept y) → coded.Integer n ≡ coded_of y → x ≡ f64_of (widen y)
    at (int z) k e = w.is z k (same_integer z e)
    at (real r) k e = no_integer_lem r e

pub float_real : {x : Float} → T (finite x) → FloatOf (coded.Real x) x
unfolding widen
float_real {x} t = record { sound = t; is = at }
  where
    at : (y : Number) → T (kept y) → coded.Real x ≡ coded_of y → x ≡ f64_of (widen y)
    at (int z) k e = no_float z e
    at (real r) k e = same_float r e

-- as the code has it, with what the match found
pub int_narrow : {s : Coded} {n : ℕ} → Sound s → s ≡ coded.Integer n → n < 4294967296
int_narrow h e = subst Sound e h

pub of_int : {s : Coded} {n : ℕ} {x : Float} → s ≡ coded.Integer n → Widens n x → FloatOf s x
of_int {s} {n} {x} e w = subst (λ t. FloatOf t x) (sym e) (float_int w)

pub of_real : {s : Coded} {x : Float} → s ≡ coded.Real x → Sound s → FloatOf s x
of_real {s} {x} e h = subst (λ t. FloatOf t x) (sym e) (float_real (subst Sound e h))
