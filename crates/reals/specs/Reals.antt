-- Document 02, F-8: binary64 numbers, and Integers beside them; the operations "defined in whole numbers over sign, significand
-- and exponent". Nothing here rests on the toolchain's floats: proofs/Operators.antt shows that f64 gives these results, bit for bit.
use Rattle.std.specs.Prelude.{Bool, true, false, not, ◌&&◌, ◌||◌, ℤ, pos, negsuc, neg_ℤ, leb, ltb, eqb}
use Rattle.std.specs.Bool.{beq}
use Rattle.std.proofs.Math.Option.{Option, none, some}
use Prim.Native.Nat.{ℕ, zero, suc, ◌+◌, ◌-◌, ◌*◌, ◌/◌, ◌%◌, ◌^◌, compare, Ordering}
use Rattle.std.specs.Prelude.{if◌then◌else◌}
use Rattle.laws.specs.Integers.{integer_end}

-- the sign (true below zero), the significand and the exponent. The number is significand · 2^exponent units, and a unit is
-- the smallest number above zero, 2^-1074
pub data Real : Type 0 where
  binary : Bool → ℕ → ℕ → Real

-- is it a binary64 number: a significand of 53 binary digits, or of fewer where the exponent is the least (subnormal), and an
-- exponent that leaves it below 2^1024
unfoldable pub is_binary64 : Real → Bool
is_binary64 (binary s m e) = ltb m (2 ^ 53) && (eqb e 0 || leb (2 ^ 52) m) && leb e 2045

-- ---- "rounded .. to nearest, ties to even"

-- q, or the number after it where more than half is left over; where exactly half is, the even one of the two
unfoldable pub half_to_even : ℕ → Ordering → ℕ
half_to_even q Ordering.lt = q
half_to_even q Ordering.eq = q + q % 2
half_to_even q Ordering.gt = suc q

-- the whole number nearest to n / d
unfoldable pub nearest_whole : ℕ → ℕ → ℕ
nearest_whole n d = half_to_even (n / d) (compare (n % d * 2) d)

-- how often q is halved until it has 53 digits at most. `short` says whether it has; `fuel` never runs out
unfoldable pub halvings : ℕ → Bool → ℕ → ℕ
halvings zero short q = 0
halvings (suc fuel) true q = 0
halvings (suc fuel) false q = suc (halvings fuel (ltb (q / 2) (2 ^ 53)) (q / 2))

unfoldable pub exponent : ℕ → ℕ
exponent q = halvings q (ltb q (2 ^ 53)) q

-- rounding up to 2^53 gives one digit too many: it is carried into the exponent
unfoldable pub carried : Bool → ℕ → ℕ → Real
carried s m e = if ltb m (2 ^ 53) then binary s m e else binary s (2 ^ 52) (suc e)

-- n / d units as a binary64 number; none where the result is infinite, 2^1024 (2^2098 units) or more
unfoldable pub rounded : Bool → ℕ → ℕ → Option Real
rounded s n d =
    let e = exponent (n / d) in
    let m = nearest_whole n (d * 2 ^ e) in
    if ltb (m * 2 ^ e) (2 ^ 2098) then some (carried s m e) else none

-- ---- "one binary64 operation decides": the exact result, rounded once

-- a and b units, each with its sign, added. An exact zero has a minus only where both have one
unfoldable pub sum : Bool → ℕ → Bool → ℕ → Option Real
sum s a t b =
    if beq s t then rounded s (a + b) 1
    else if ltb a b then rounded t (b - a) 1
    else rounded (s && ltb b a) (a - b) 1

unfoldable pub add : Real → Real → Option Real
add (binary s m e) (binary t n d) = sum s (m * 2 ^ e) t (n * 2 ^ d)

unfoldable pub subtract : Real → Real → Option Real
subtract (binary s m e) (binary t n d) = sum s (m * 2 ^ e) (not t) (n * 2 ^ d)

unfoldable pub differ : Bool → Bool → Bool
differ s t = not (beq s t)

-- 1 is 2^1074 units
unfoldable pub multiply : Real → Real → Option Real
multiply (binary s m e) (binary t n d) = rounded (differ s t) (m * 2 ^ e * (n * 2 ^ d)) (2 ^ 1074)

-- by a divisor that is not zero
unfoldable pub divide : Real → Real → Option Real
divide (binary s m e) (binary t n d) = rounded (differ s t) (m * 2 ^ e * 2 ^ 1074) (n * 2 ^ d)

unfoldable pub is_zero : Real → Bool
is_zero (binary s m e) = eqb m 0

-- is the first of a and b units, each with its sign, less; minus zero is zero
unfoldable pub less_by : Bool → ℕ → Bool → ℕ → Bool
less_by false a false b = ltb a b
less_by false a true b = false
less_by true a false b = ltb 0 (a + b)
less_by true a true b = ltb b a

unfoldable pub less : Real → Real → Bool
less (binary s m e) (binary t n d) = less_by s (m * 2 ^ e) t (n * 2 ^ d)

-- ---- Integers and Reals

pub data Number : Type 0 where
  int : ℤ → Number
  real : Real → Number

-- -2147483648 to 2147483647 (document 01)
unfoldable pub in_range : ℤ → Bool
in_range (pos n) = ltb n integer_end
in_range (negsuc n) = ltb n integer_end

-- n with its sign; there is one zero
unfoldable pub signed : Bool → ℕ → ℤ
signed false n = pos n
signed true n = neg_ℤ (pos n)

-- z in place of r, where the two are the same number
unfoldable pub held_as : Bool → ℤ → Real → Number
held_as true z r = int z
held_as false z r = real r

-- "A Real that is a whole number in the Integer range is always held as that Integer, minus zero as 0"
unfoldable pub held : Real → Number
held (binary s m e) =
    let z = signed s (m * 2 ^ e / 2 ^ 1074) in
    held_as (eqb (m * 2 ^ e % 2 ^ 1074) 0 && in_range z) z (binary s m e)

unfoldable pub is_real : Number → Bool
is_real (int z) = false
is_real (real r) = true

-- what a value may hold (such a number is kept): an Integer in range, or a binary64 number that is none of these
unfoldable pub kept : Number → Bool
kept (int z) = in_range z
kept (real r) = is_binary64 r && is_real (held r)

-- a units as a Real, where nothing is lost ("Integers widened without loss"): a has 53 digits at most before its closing zeros
unfoldable pub of_units : Bool → ℕ → Real
of_units s a = binary s (a / 2 ^ exponent a) (exponent a)

unfoldable pub widened : ℤ → Real
widened (pos n) = of_units false (n * 2 ^ 1074)
widened (negsuc n) = of_units true (suc n * 2 ^ 1074)

unfoldable pub widen : Number → Real
widen (int z) = widened z
widen (real r) = r

-- ---- "Integers and Reals are ordered together by number"

-- how many units a number is
unfoldable pub units : Number → ℤ
units (int (pos n)) = pos (n * 2 ^ 1074)
units (int (negsuc n)) = neg_ℤ (pos (suc n * 2 ^ 1074))
units (real (binary s m e)) = signed s (m * 2 ^ e)

unfoldable pub order_int : ℤ → ℤ → Ordering
order_int (pos a) (pos b) = compare a b
order_int (pos a) (negsuc b) = Ordering.gt
order_int (negsuc a) (pos b) = Ordering.lt
order_int (negsuc a) (negsuc b) = compare b a

unfoldable pub by_number : Number → Number → Ordering
by_number x y = order_int (units x) (units y)

unfoldable pub is_less : Ordering → Bool
is_less Ordering.lt = true
is_less Ordering.eq = false
is_less Ordering.gt = false

-- ---- the forms on Reals

pub data Operation : Type 0 where
  plus minus times over : Operation

-- what arithmetic comes to: a number, none (undefined), or one over the range (19)
pub data Result : Type 0 where
  result : Number → Result
  no_result : Result
  over_range : Result

-- "An infinite result is 19"; any other is held as a value holds it
unfoldable pub settled : Option Real → Result
settled none = over_range
settled (some r) = result (held r)

-- "`over` divides ..; a zero divisor gives undefined"
unfoldable pub operate : Operation → Real → Real → Result
operate plus x y = settled (add x y)
operate minus x y = settled (subtract x y)
operate times x y = settled (multiply x y)
operate over x y = if is_zero y then no_result else settled (divide x y)

-- "both are widened and one binary64 operation decides"
unfoldable pub calculated : Operation → Number → Number → Result
calculated op x y = operate op (widen x) (widen y)

unfoldable pub lesser : Number → Number → Bool
lesser x y = less (widen x) (widen y)
