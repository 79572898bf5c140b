-- A Real and its bits: each has the other; so with f64. Assumes nothing.
use mathlib.Core.Path.{◌≡◌, refl, sym, ap, ◌∙◌, subst}
use mathlib.Core.Logic.{◌⊎◌, inl, inr}
use mathlib.Core.Bool.{Bool, true, false, not}
use Prim.Native.Nat.{ℕ, zero, suc, ◌+◌, ◌-◌, ◌*◌, ◌/◌, ◌%◌, ◌^◌, ◌≤◌, ◌<◌}
use native.Mathlib.Nat.{le_of_lt, zero-add}
use native.Mathlib.Omega.{arith}
use lib.Dec.{T, leb, leb→le, nleb→lt}
use lib.Ieee.{Float, nan, inf, fin, binary64, to_bits, nan_bits, is_nan}
use lib.Ieee.Exact.{HasValue}
use lib.Ieee.Scale.{finite}
use lib.Ieee.Bits.{nan_bits_above}
use borrow.Author.Tests.{lt-leb, le-leb, le-ltb}
use Rattle.std.specs.Prelude.{if◌then◌else◌}
use Rattle.laws.proofs.Orders.{Three, less, same, over, three}
use Rattle.reals.specs.Reals.{Real, binary, is_binary64}
use Rattle.reals.specs.Bits.{rank, bits, from_fields, from_bits}
use Rattle.reals.specs.Floats.{f64_of}
use Rattle.reals.proofs.Full.{Full, binary64→full, binary64→low, full→binary64}
use Rattle.reals.proofs.Floats.{the_value, bits_of}
use Rattle.reals.proofs.Words.{rank_below}

-- ---- from bits to a Real

made_binary64 : (s : Bool) (x t : ℕ) → x < 2047 → t < 2 ^ 52 → T (is_binary64 (from_fields s x t))
unfolding from_fields
made_binary64 s zero t h l = full→binary64 s t 0 (record { short = omega (arith, l); long = inl refl }) (omega arith)
made_binary64 s (suc x) t h l = full→binary64 s (2 ^ 52 + t) x (record { short = omega (arith, l); long = inr (omega arith) }) (omega (arith, h))

made_bits : (s : Bool) (x t : ℕ) → bits (from_fields s x t) ≡ (if s then 2 ^ 63 else 0) + (x * 2 ^ 52 + t)
unfolding from_fields bits rank
made_bits s zero t = refl
made_bits s (suc x) t = let e : x * 2 ^ 52 + (2 ^ 52 + t) ≡ suc x * 2 ^ 52 + t = omega arith in ap (λ k. (if s then 2 ^ 63 else 0) + k) e

field_low : (b : ℕ) → b % 2 ^ 63 < 2047 * 2 ^ 52 → b % 2 ^ 63 / 2 ^ 52 < 2047
field_low b h = omega (arith, h)

digits_low : (b : ℕ) → b % 2 ^ 52 < 2 ^ 52
digits_low b = omega arith

pub real_binary64 : (b : ℕ) → b % 2 ^ 63 < 2047 * 2 ^ 52 → T (is_binary64 (from_bits b))
unfolding from_bits
real_binary64 b h = made_binary64 (leb (2 ^ 63) b) (b % 2 ^ 63 / 2 ^ 52) (b % 2 ^ 52) (field_low b h) (digits_low b)

pub real_bits : (b : ℕ) → b < 2 ^ 64 → bits (from_bits b) ≡ b
unfolding from_bits
real_bits b h = made_bits (leb (2 ^ 63) b) (b % 2 ^ 63 / 2 ^ 52) (b % 2 ^ 52) ∙ go (leb (2 ^ 63) b) (leb→le (2 ^ 63) b) (nleb→lt (2 ^ 63) b)
  where
    go : (t : Bool) → (T t → 2 ^ 63 ≤ b) → (T (not t) → b < 2 ^ 63) → (if t then 2 ^ 63 else 0) + (b % 2 ^ 63 / 2 ^ 52 * 2 ^ 52 + b % 2 ^ 52) ≡ b
    go true k j = let l = k tt in omega (arith, l, h)
    go false k j = let l = j tt in omega (arith, l)

-- ---- and back

fields_back : (s : Bool) (m e : ℕ) → Full m e → e ≤ 2045 → from_fields s ((e * 2 ^ 52 + m) / 2 ^ 52) ((e * 2 ^ 52 + m) % 2 ^ 52) ≡ binary s m e
unfolding from_fields
fields_back s m e f l = go (three m (2 ^ 52)) f.long
  where
    low : (m < 2 ^ 52) → (e ≡ 0) ⊎ (2 ^ 52 ≤ m) → e ≡ 0
    low k (inl z) = z
    low k (inr h) = absurd (omega (arith, k, h))

    high : 2 ^ 52 ≤ m → from_fields s ((e * 2 ^ 52 + m) / 2 ^ 52) ((e * 2 ^ 52 + m) % 2 ^ 52) ≡ binary s m e
    high h =
        let b = f.short in
        let x : (e * 2 ^ 52 + m) / 2 ^ 52 ≡ suc e = omega (arith, h, b) in
        let t : (e * 2 ^ 52 + m) % 2 ^ 52 ≡ m - 2 ^ 52 = omega (arith, h, b) in
        let c : 2 ^ 52 + (m - 2 ^ 52) ≡ m = omega (arith, h) in
        ap (λ k. from_fields s k ((e * 2 ^ 52 + m) % 2 ^ 52)) x
        ∙ ap (λ k. from_fields s (suc e) k) t
        ∙ ap (λ k. binary s k e) c

    go : Three m (2 ^ 52) → (e ≡ 0) ⊎ (2 ^ 52 ≤ m) → from_fields s ((e * 2 ^ 52 + m) / 2 ^ 52) ((e * 2 ^ 52 + m) % 2 ^ 52) ≡ binary s m e
    go (less k) h =
        let z = low k h in
        let x : (e * 2 ^ 52 + m) / 2 ^ 52 ≡ 0 = omega (arith, k, z) in
        let t : (e * 2 ^ 52 + m) % 2 ^ 52 ≡ m = omega (arith, k, z) in
        ap (λ j. from_fields s j ((e * 2 ^ 52 + m) % 2 ^ 52)) x ∙ ap (λ j. binary s j 0) t ∙ ap (λ j. binary s m j) (sym z)
    go (same q) h = high (omega (arith, q))
    go (over k) h = high (le_of_lt k)

pub bits_back : (r : Real) → T (is_binary64 r) → from_bits (bits r) ≡ r
unfolding from_bits bits rank
bits_back (binary s m e) p =
    let f = binary64→full s m e p in
    let l = binary64→low s m e p in
    at s (rank_below m e f l) ∙ fields_back s m e f l
  where
    at : (s : Bool) → e * 2 ^ 52 + m < 2047 * 2 ^ 52
        → from_fields (leb (2 ^ 63) ((if s then 2 ^ 63 else 0) + (e * 2 ^ 52 + m))) (((if s then 2 ^ 63 else 0) + (e * 2 ^ 52 + m)) % 2 ^ 63 / 2 ^ 52) (((if s then 2 ^ 63 else 0) + (e * 2 ^ 52 + m)) % 2 ^ 52)
        ≡ from_fields s ((e * 2 ^ 52 + m) / 2 ^ 52) ((e * 2 ^ 52 + m) % 2 ^ 52)
    at true h =
        let n = e * 2 ^ 52 + m in
        let a : (2 ^ 63 + n) % 2 ^ 63 ≡ n = omega (arith, h) in
        let b : (2 ^ 63 + n) % 2 ^ 52 ≡ n % 2 ^ 52 = omega arith in
        ap (λ k. from_fields k ((2 ^ 63 + n) % 2 ^ 63 / 2 ^ 52) ((2 ^ 63 + n) % 2 ^ 52)) (le-leb (2 ^ 63) (2 ^ 63 + n) (omega arith))
        ∙ ap (λ k. from_fields true (k / 2 ^ 52) ((2 ^ 63 + n) % 2 ^ 52)) a
        ∙ ap (λ k. from_fields true (n / 2 ^ 52) k) b
    at false h =
        let n = e * 2 ^ 52 + m in
        let a : n % 2 ^ 63 ≡ n = omega (arith, h) in
        ap (λ k. from_fields (leb (2 ^ 63) k) (k % 2 ^ 63 / 2 ^ 52) (k % 2 ^ 52)) (zero-add n)
        ∙ ap (λ k. from_fields k (n % 2 ^ 63 / 2 ^ 52) (n % 2 ^ 52)) (lt-leb (2 ^ 63) n (omega (arith, h)))
        ∙ ap (λ k. from_fields false (k / 2 ^ 52) (n % 2 ^ 52)) a

pub bits_below : (r : Real) → T (is_binary64 r) → bits r < 2 ^ 64
unfolding bits rank
bits_below (binary true m e) p = let k = rank_below m e (binary64→full true m e p) (binary64→low true m e p) in omega (arith, k)
bits_below (binary false m e) p = let k = rank_below m e (binary64→full false m e p) (binary64→low false m e p) in omega (arith, k)

-- a field of 2047 is no number's
binary64_fields : (s : Bool) (x t : ℕ) → T (is_binary64 (from_fields s x t)) → x < 2047
unfolding from_fields
binary64_fields s zero t p = omega arith
binary64_fields s (suc x) t p = let l = binary64→low s (2 ^ 52 + t) x p in omega (arith, l)

pub binary64_low : (b : ℕ) → T (is_binary64 (from_bits b)) → b % 2 ^ 63 < 2047 * 2 ^ 52
unfolding from_bits
binary64_low b p = let l = binary64_fields (leb (2 ^ 63) b) (b % 2 ^ 63 / 2 ^ 52) (b % 2 ^ 52) p in omega (arith, l)

-- ---- the f64 of a Real

pub bits_of_float : (r : Real) → T (is_binary64 r) → to_bits binary64 (f64_of r) ≡ bits r
bits_of_float (binary s m e) p = bits_of (f64_of (binary s m e)) s m e (binary64→full s m e p) (the_value s m e p)

value→finite : (x : Float) (s : Bool) (a c : ℕ) → HasValue x s a c → T (finite x)
value→finite nan s a c v = v
value→finite (inf t) s a c v = v
value→finite (fin t m e) s a c v = tt

pub real_finite : (r : Real) → T (is_binary64 r) → T (finite (f64_of r))
real_finite (binary s m e) p = value→finite (f64_of (binary s m e)) s (m * 2 ^ e) (2 ^ 1074) (the_value s m e p)

pub finite_number : (x : Float) → T (finite x) → T (not (is_nan x))
unfolding is_nan
finite_number nan t = t
finite_number (inf s) t = tt
finite_number (fin s m e) t = tt

-- bits that are no NaN's
pub no_nan : (b : ℕ) → b % 2 ^ 63 < 2047 * 2 ^ 52 → T (not (nan_bits binary64 b))
no_nan b h = subst (λ k. T (not k)) (sym (nan_bits_above binary64 b ∙ le-ltb (2047 * 2 ^ 52) (b % 2 ^ 63) (le_of_lt h))) tt
