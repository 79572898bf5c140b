-- What an operation gives is a number that a value can hold. Assumes nothing.
use mathlib.Core.Path.{◌≡◌, refl, sym, subst}
use mathlib.Core.Bool.{Bool, true, false, not, ◌&&◌, beq, true≢false}
use mathlib.Core.Option.{Option}
use Prim.Native.Nat.{ℕ, zero, suc, ◌+◌, ◌-◌, ◌*◌, ◌/◌, ◌%◌, ◌^◌, ◌<◌}
use native.Mathlib.Nat.{mul-pos, zero-lt-suc}
use lib.IntN.{ℤ}
use lib.Dec.{T, ltb, eqb}
use lib.Pow.{pow_pos}
use lib.Ieee.{Float}
use Rattle.std.specs.Prelude.{if◌then◌else◌}
use Rattle.laws.proofs.Tests.{and_i, and_r, by-if}
use Rattle.reals.specs.Reals.{Real, binary, is_binary64, rounded, differ, sum, add, subtract, multiply, divide, is_zero, signed, in_range, held_as, held, is_real, kept, Number, widen, Operation, plus, minus, times, over, Result, result, no_result, over_range, settled, operate, calculated}
use Rattle.reals.proofs.Rounding.{Rounds, finite, infinite, rounds}

held_by : (s : Bool) (m e : ℕ) (t : Bool) (z : ℤ) → held (binary s m e) ≡ held_as t z (binary s m e) → (T t → T (in_range z)) → T (is_binary64 (binary s m e)) → T (kept (held (binary s m e)))
unfolding held_as kept is_real
held_by s m e true z q h p = subst (λ n. T (kept n)) (sym q) (h tt)
held_by s m e false z q h p = subst (λ n. T (kept n)) (sym q) (and_i (is_binary64 (binary s m e)) (is_real (held (binary s m e))) p (subst (λ n. T (is_real n)) (sym q) tt))

pub held_kept : (r : Real) → T (is_binary64 r) → T (kept (held r))
unfolding held
held_kept (binary s m e) p =
    let z = signed s (m * 2 ^ e / 2 ^ 1074) in
    held_by s m e (eqb (m * 2 ^ e % 2 ^ 1074) 0 && in_range z) z refl (and_r (eqb (m * 2 ^ e % 2 ^ 1074) 0) (in_range z)) p

-- every result is one
abbrev AllKept : Result → Type 0
AllKept (result n) = T (kept n)
AllKept no_result = Unit {0}
AllKept over_range = Unit {0}

settled_kept : {s : Bool} {x : Float} {o : Option Real} → Rounds s x o → AllKept (settled o)
unfolding settled
settled_kept (finite {r} p e) = held_kept r p
settled_kept (infinite e) = tt

rounded_kept : (s : Bool) (n d : ℕ) → 0 < d → AllKept (settled (rounded s n d))
rounded_kept s n d h = settled_kept (rounds s n d h)

one : 0 < 1
one = zero-lt-suc 0

sum_kept : (s t : Bool) (a b : ℕ) → AllKept (settled (sum s a t b))
unfolding sum
sum_kept s t a b =
    by-if All (beq s t) _ _ (λ h. rounded_kept s (a + b) 1 one)
    (λ h. by-if All (ltb a b) _ _ (λ h. rounded_kept t (b - a) 1 one) (λ h. rounded_kept (s && ltb b a) (a - b) 1 one))
  where
    All : Option Real → Type 0
    All o = AllKept (settled o)

divide_kept : (s t : Bool) (m e n d : ℕ) (b : Bool) → eqb n 0 ≡ b → AllKept (if b then no_result else settled (divide (binary s m e) (binary t n d)))
unfolding divide
divide_kept s t m e n d true z = tt
divide_kept s t m e n d false z = rounded_kept (differ s t) (m * 2 ^ e * 2 ^ 1074) (n * 2 ^ d) (mul-pos (some_of n z) (pow_pos d))
  where
    some_of : (n : ℕ) → eqb n 0 ≡ false → 0 < n
    some_of zero z = absurd (true≢false z)
    some_of (suc n) z = zero-lt-suc n

operate_kept : (op : Operation) (x y : Real) → AllKept (operate op x y)
unfolding operate add subtract multiply is_zero
operate_kept plus (binary s m e) (binary t n d) = sum_kept s t (m * 2 ^ e) (n * 2 ^ d)
operate_kept minus (binary s m e) (binary t n d) = sum_kept s (not t) (m * 2 ^ e) (n * 2 ^ d)
operate_kept times (binary s m e) (binary t n d) = rounded_kept (differ s t) (m * 2 ^ e * (n * 2 ^ d)) (2 ^ 1074) (pow_pos 1074)
operate_kept over (binary s m e) (binary t n d) = divide_kept s t m e n d (eqb n 0) refl

pub results_kept : (op : Operation) (x y n : Number) → calculated op x y ≡ result n → T (kept n)
unfolding calculated
results_kept op x y n e = subst AllKept e (operate_kept op (widen x) (widen y))
