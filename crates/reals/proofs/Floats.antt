-- The f64 of a Real: its value, and that there is only one with that value. Assumes nothing.
use mathlib.Core.Path.{◌≡◌, refl, sym, ap, ◌∙◌, subst}
use mathlib.Core.Bool.{Bool, true, false, cond}
use Prim.Native.Nat.{ℕ, ◌+◌, ◌-◌, ◌*◌, ◌/◌, ◌^◌}
use native.Mathlib.Nat.{add_assoc, mul-div_cancel}
use lib.IntN.{ℤ}
use lib.Dec.{T}
use lib.Pow.{pow_pos, shl-shr}
use lib.Ieee as Ieee
use lib.Ieee.{Float, nan, inf, fin, binary64, up, down, fits, to_bits, of_bits}
use lib.Ieee.Fits.{down_pos, round-fits}
use lib.Ieee.Exact.{HasValue, round_exact}
use lib.Ieee.Bits.{of_bits-to_bits}
use Rattle.std.specs.Prelude.{if◌then◌else◌}
use Rattle.reals.specs.Reals.{binary, is_binary64}
use Rattle.reals.specs.Bits.{rank, bits}
use Rattle.reals.specs.Floats.{f64_of}
use Rattle.reals.proofs.Full.{Full, binary64→full, binary64→low, full_below, digits_full}

-- the bits of a float, by its number of units
bits_at : (s : Bool) (m e : ℕ) → Full m e → (t : Bool) (n : ℕ) (d : ℤ) → t ≡ s → n * up d * 2 ^ 1074 ≡ m * 2 ^ e * down d → to_bits binary64 (fin t n d) ≡ bits (binary s m e)
unfolding to_bits bits rank
bits_at s m e f t n d p v =
    let a : n * up d * 2 ^ 1074 / down d ≡ m * 2 ^ e = ap (λ k. k / down d) v ∙ mul-div_cancel (m * 2 ^ e) (down_pos d) in
    let k : Ieee.size (m * 2 ^ e) - 53 ≡ e = digits_full m e f in
    ap (λ w. cond t (2 ^ 63) 0 + (Ieee.size w - 53) * 2 ^ 52 + w / 2 ^ (Ieee.size w - 53)) a
    ∙ ap (λ w. cond t (2 ^ 63) 0 + w * 2 ^ 52 + m * 2 ^ e / 2 ^ w) k
    ∙ ap (λ w. cond t (2 ^ 63) 0 + e * 2 ^ 52 + w) (shl-shr m e)
    ∙ add_assoc (cond t (2 ^ 63) 0) (e * 2 ^ 52) m
    ∙ sign t s p
  where
    sign : (t s : Bool) → t ≡ s → cond t (2 ^ 63) 0 + (e * 2 ^ 52 + m) ≡ (if s then 2 ^ 63 else 0) + (e * 2 ^ 52 + m)
    sign true s p = ap (λ b. (if b then 2 ^ 63 else 0) + (e * 2 ^ 52 + m)) p
    sign false s p = ap (λ b. (if b then 2 ^ 63 else 0) + (e * 2 ^ 52 + m)) p

pub bits_of : (x : Float) (s : Bool) (m e : ℕ) → Full m e → HasValue x s (m * 2 ^ e) (2 ^ 1074) → to_bits binary64 x ≡ bits (binary s m e)
bits_of nan s m e f v = absurd v
bits_of (inf t) s m e f v = absurd v
bits_of (fin t n d) s m e f v = bits_at s m e f t n d v.0 v.1

-- a float with the value of a Real is that Real's
pub the_float : (x : Float) (s : Bool) (m e : ℕ) → Full m e → T (fits binary64 x) → HasValue x s (m * 2 ^ e) (2 ^ 1074) → x ≡ f64_of (binary s m e)
unfolding f64_of
the_float x s m e f h v = sym (of_bits-to_bits binary64 x h) ∙ ap (of_bits binary64) (bits_of x s m e f v)

-- a Real's float has its value
pub the_value : (s : Bool) (m e : ℕ) → T (is_binary64 (binary s m e)) → HasValue (f64_of (binary s m e)) s (m * 2 ^ e) (2 ^ 1074)
the_value s m e p =
    let f = binary64→full s m e p in
    let x = Ieee.round binary64 s (m * 2 ^ e) (2 ^ 1074) in
    let v : HasValue x s (m * 2 ^ e) (2 ^ 1074) = round_exact binary64 s (m * 2 ^ e) (2 ^ 1074) m e (pow_pos 1074) f.short (full_below m e f (binary64→low s m e p)) refl in
    subst (λ y. HasValue y s (m * 2 ^ e) (2 ^ 1074)) (the_float x s m e f (round-fits binary64 s (m * 2 ^ e) (2 ^ 1074)) v) v
