-- f64's operators give what specs/Reals.antt says, bit for bit. Assumes nothing.
use mathlib.Core.Path.{◌≡◌, refl, sym, ap, ◌∙◌, subst}
use mathlib.Core.Bool.{Bool, true, false, not, ◌&&◌, cond, beq, true≢false, false≢true}
use mathlib.Core.Option.{Option}
use Prim.Native.Nat.{ℕ, zero, suc, ◌+◌, ◌-◌, ◌*◌, ◌^◌, ◌<◌}
use native.Mathlib.Nat.{one-mul, zero-mul, mul_assoc, mul_comm, mul_left_comm, mul_right_comm, mul-pos, add-mul, mul-sub, mul-lt-mul_of_pos_right, lt_of_mul-lt-mul_right, zero-lt-suc}
use native.Mathlib.Omega.{arith}
use lib.IntN.{ℤ}
use lib.Dec.{T, ltb, eqb, ltb→lt, lt→ltb, not_T, eqb→eq}
use lib.Pow.{pow_pos}
use lib.Ieee as Ieee
use lib.Ieee.{Float, nan, inf, fin, binary64, up, down}
use lib.Ieee.Fits.{down_pos}
use lib.Ieee.Exact.{HasValue}
use lib.Ieee.Scale.{round_same}
use lib.Ieee.Positive.{first_pos}
use lib.Ieee.Bits.{cond_no}
use Rattle.std.specs.Prelude.{if◌then◌else◌}
use Rattle.laws.proofs.Tests.{test_same}
use Rattle.reals.specs.Reals.{Real, binary, is_binary64, rounded, sum, differ, add, subtract, multiply, divide, is_zero, less_by, less}
use Rattle.reals.specs.Floats.{f64_of, Gives, gives, gives_none}
use Rattle.reals.proofs.Floats.{the_value}
use Rattle.reals.proofs.Rounding.{Rounds, finite, infinite, rounds}

rounds→gives : {s : Bool} {x : Float} {o : Option Real} → Rounds s x o → Gives x o
rounds→gives (finite p e) = gives p e
rounds→gives (infinite e) = gives_none e

-- ---- a fraction that the toolchain rounds, in units

abbrev U : ℕ
U = 2 ^ 1074

round_units : (s : Bool) (a D n d : ℕ) → 0 < D → 0 < d → a * (d * U) ≡ n * D → Gives (Ieee.round binary64 s a D) (rounded s n d)
round_units s a D n d P Q e =
    subst (λ x. Gives x (rounded s n d)) (sym (round_same binary64 s a D n (d * U) P (mul-pos Q (pow_pos 1074)) e)) (rounds→gives (rounds s n d Q))

-- a and b of some unit, M and N in units
module _ (a b D M N : ℕ) (P : 0 < D) (A : a * U ≡ M * D) (B : b * U ≡ N * D) where
  pub less_units : ltb a b ≡ ltb M N
  less_units = test_same (ltb a b) (ltb M N)
      (λ t. lt→ltb M N (lt_of_mul-lt-mul_right D (subst (λ k. k < N * D) A (subst (λ k. a * U < k) B (mul-lt-mul_of_pos_right (ltb→lt a b t) (pow_pos 1074))))))
      (λ t. lt→ltb a b (lt_of_mul-lt-mul_right U (subst (λ k. k < b * U) (sym A) (subst (λ k. M * D < k) (sym B) (mul-lt-mul_of_pos_right (ltb→lt M N t) P)))))

  one_by : (s : Bool) (x y : ℕ) → x * U ≡ y * D → Gives (Ieee.round binary64 s x D) (rounded s y 1)
  one_by s x y e = round_units s x D y 1 P (zero-lt-suc 0) (ap (λ k. x * k) (one-mul U) ∙ e)

  added : (a + b) * U ≡ (M + N) * D
  added = add-mul a b U ∙ ap (λ k. k + b * U) A ∙ ap (λ k. M * D + k) B ∙ sym (add-mul M N D)

sub-mul : (a b c : ℕ) → (a - b) * c ≡ a * c - b * c
sub-mul a b c = mul_comm (a - b) c ∙ mul-sub c a b ∙ ap (λ k. k - c * b) (mul_comm c a) ∙ ap (λ k. a * c - k) (mul_comm c b)

taken : (a b D M N : ℕ) → a * U ≡ M * D → b * U ≡ N * D → (a - b) * U ≡ (M - N) * D
taken a b D M N A B = sub-mul a b U ∙ ap (λ k. k - b * U) A ∙ ap (λ k. M * D - k) B ∙ sym (sub-mul M N D)

both_ways : (P : Float → Option Real → Type 0) (b c : Bool) → b ≡ c → {x y : Float} {u v : Option Real} → P x u → P y v → P (cond b x y) (if c then u else v)
both_ways P true true e p q = p
both_ways P true false e p q = absurd (true≢false e)
both_ways P false true e p q = absurd (false≢true e)
both_ways P false false e p q = q

sum_gives : (s t : Bool) (a b D M N : ℕ) → 0 < D → a * U ≡ M * D → b * U ≡ N * D → Gives (Ieee.sum binary64 s a t b D) (sum s M t N)
unfolding Ieee.sum sum
sum_gives s t a b D M N P A B =
    both_ways Gives (beq s t) (beq s t) refl
    (one_by a b D M N P A B s (a + b) (M + N) (added a b D M N P A B))
    (both_ways Gives (ltb a b) (ltb M N) (less_units a b D M N P A B)
    (one_by a b D M N P A B t (b - a) (N - M) (taken b a D N M B A))
    (subst (λ k. Gives (Ieee.round binary64 (s && ltb b a) (a - b) D) (rounded (s && k) (M - N) 1)) (less_units b a D N M P B A)
    (one_by a b D M N P A B (s && ltb b a) (a - b) (M - N) (taken a b D M N A B))))

-- ---- two finite floats with their units

module _ (m : ℕ) (e : ℤ) (M : ℕ) (A : m * up e * U ≡ M * down e) (n : ℕ) (d : ℤ) (N : ℕ) (B : n * up d * U ≡ N * down d) where
  left : m * up e * down d * U ≡ M * (down e * down d)
  left = mul_right_comm (m * up e) (down d) U ∙ ap (λ k. k * down d) A ∙ mul_assoc M (down e) (down d)

  right : n * up d * down e * U ≡ N * (down e * down d)
  right = mul_right_comm (n * up d) (down e) U ∙ ap (λ k. k * down e) B ∙ mul_assoc N (down d) (down e) ∙ ap (λ k. N * k) (mul_comm (down d) (down e))

  D-pos : 0 < down e * down d
  D-pos = mul-pos (down_pos e) (down_pos d)

  fin_add : (s t : Bool) → Gives (Ieee.add binary64 (fin s m e) (fin t n d)) (sum s M t N)
  unfolding Ieee.add
  fin_add s t = sum_gives s t (m * up e * down d) (n * up d * down e) (down e * down d) M N D-pos left right

  fin_sub : (s t : Bool) → Gives (Ieee.sub binary64 (fin s m e) (fin t n d)) (sum s M (not t) N)
  unfolding Ieee.sub Ieee.neg
  fin_sub s t = fin_add s (not t)

  product : m * up e * (n * up d) * (U * U) ≡ M * N * (down e * down d)
  product =
      let p : m * up e * (n * up d) * (U * U) ≡ m * up e * U * (n * up d * U) = swap (m * up e) (n * up d) U U in
      let q : M * down e * (N * down d) ≡ M * N * (down e * down d) = swap M (down e) N (down d) in
      p ∙ ap (λ k. k * (n * up d * U)) A ∙ ap (λ k. M * down e * k) B ∙ q
    where
      swap : (a b c d : ℕ) → a * b * (c * d) ≡ a * c * (b * d)
      swap a b c d = simp (mul_assoc, mul_left_comm)

  fin_mul : (s t : Bool) → Gives (Ieee.mul binary64 (fin s m e) (fin t n d)) (rounded (differ s t) (M * N) U)
  unfolding Ieee.mul differ
  fin_mul s t = round_units (not (beq s t)) (m * up e * (n * up d)) (down e * down d) (M * N) U D-pos (pow_pos 1074) product

  quotient : m * up e * down d * (N * U) ≡ M * U * (n * up d * down e)
  quotient =
      let p : m * up e * down d * (N * U) ≡ m * up e * U * down d * N = first (m * up e) (down d) N U in
      let q : M * down e * down d * N ≡ M * down e * (N * down d) = second (M * down e) (down d) N in
      let r : M * down e * (n * up d * U) ≡ M * U * (n * up d * down e) = third M (down e) (n * up d) U in
      p ∙ ap (λ k. k * down d * N) A ∙ q ∙ ap (λ k. M * down e * k) (sym B) ∙ r
    where
      first : (a b c u : ℕ) → a * b * (c * u) ≡ a * u * b * c
      first a b c u = simp (mul_assoc, mul_comm)

      second : (a b c : ℕ) → a * b * c ≡ a * (c * b)
      second a b c = simp (mul_assoc, mul_comm)

      third : (a b c u : ℕ) → a * b * (c * u) ≡ a * u * (c * b)
      third a b c u = simp (mul_assoc, mul_comm, mul_left_comm)

  fin_div : (s t : Bool) → 0 < N → Gives (Ieee.div binary64 (fin s m e) (fin t n d)) (rounded (differ s t) (M * U) N)
  unfolding Ieee.div differ
  fin_div s t h =
      let np : 0 < n * up d = first_pos (n * up d) U (subst (λ k. 0 < k) (sym B) (mul-pos h (down_pos d))) in
      let n0 : 0 < n = first_pos n (up d) np in
      subst (λ x. Gives x (rounded (not (beq s t)) (M * U) N))
      (sym (cond_no (eqb n 0) (cond (eqb m 0) nan (inf (not (beq s t)))) (Ieee.round binary64 (not (beq s t)) (m * up e * down d) (n * up d * down e)) (not_T (eqb n 0) (λ u. let z = eqb→eq n 0 u in omega (arith, z, n0)))))
      (round_units (not (beq s t)) (m * up e * down d) (n * up d * down e) (M * U) N (mul-pos np (down_pos e)) h quotient)

  fin_lt : (s t : Bool) → Ieee.lt (fin s m e) (fin t n d) ≡ less_by s M t N
  unfolding Ieee.lt less_by
  fin_lt false false = less_units (m * up e * down d) (n * up d * down e) (down e * down d) M N D-pos left right
  fin_lt false true = refl
  fin_lt true false =
      less_units 0 (m * up e * down d + n * up d * down e) (down e * down d) 0 (M + N) D-pos (zero-mul U ∙ sym (zero-mul (down e * down d)))
      (added (m * up e * down d) (n * up d * down e) (down e * down d) M N D-pos left right)
  fin_lt true true = less_units (n * up d * down e) (m * up e * down d) (down e * down d) N M D-pos right left

-- ---- the same of any floats with these values

float_add : (x y : Float) (s t : Bool) (M N : ℕ) → HasValue x s M U → HasValue y t N U → Gives (Ieee.add binary64 x y) (sum s M t N)
float_add nan y s t M N v w = absurd v
float_add (inf a) y s t M N v w = absurd v
float_add (fin a m e) nan s t M N v w = absurd w
float_add (fin a m e) (inf b) s t M N v w = absurd w
float_add (fin a m e) (fin b n d) s t M N v w = subst (λ k. Gives (Ieee.add binary64 (fin a m e) (fin b n d)) (sum k M t N)) v.0 (subst (λ k. Gives (Ieee.add binary64 (fin a m e) (fin b n d)) (sum a M k N)) w.0 (fin_add m e M v.1 n d N w.1 a b))

float_sub : (x y : Float) (s t : Bool) (M N : ℕ) → HasValue x s M U → HasValue y t N U → Gives (Ieee.sub binary64 x y) (sum s M (not t) N)
float_sub nan y s t M N v w = absurd v
float_sub (inf a) y s t M N v w = absurd v
float_sub (fin a m e) nan s t M N v w = absurd w
float_sub (fin a m e) (inf b) s t M N v w = absurd w
float_sub (fin a m e) (fin b n d) s t M N v w = subst (λ k. Gives (Ieee.sub binary64 (fin a m e) (fin b n d)) (sum k M (not t) N)) v.0 (subst (λ k. Gives (Ieee.sub binary64 (fin a m e) (fin b n d)) (sum a M (not k) N)) w.0 (fin_sub m e M v.1 n d N w.1 a b))

float_mul : (x y : Float) (s t : Bool) (M N : ℕ) → HasValue x s M U → HasValue y t N U → Gives (Ieee.mul binary64 x y) (rounded (differ s t) (M * N) U)
float_mul nan y s t M N v w = absurd v
float_mul (inf a) y s t M N v w = absurd v
float_mul (fin a m e) nan s t M N v w = absurd w
float_mul (fin a m e) (inf b) s t M N v w = absurd w
float_mul (fin a m e) (fin b n d) s t M N v w = subst (λ k. Gives (Ieee.mul binary64 (fin a m e) (fin b n d)) (rounded (differ k t) (M * N) U)) v.0 (subst (λ k. Gives (Ieee.mul binary64 (fin a m e) (fin b n d)) (rounded (differ a k) (M * N) U)) w.0 (fin_mul m e M v.1 n d N w.1 a b))

float_div : (x y : Float) (s t : Bool) (M N : ℕ) → 0 < N → HasValue x s M U → HasValue y t N U → Gives (Ieee.div binary64 x y) (rounded (differ s t) (M * U) N)
float_div nan y s t M N h v w = absurd v
float_div (inf a) y s t M N h v w = absurd v
float_div (fin a m e) nan s t M N h v w = absurd w
float_div (fin a m e) (inf b) s t M N h v w = absurd w
float_div (fin a m e) (fin b n d) s t M N h v w = subst (λ k. Gives (Ieee.div binary64 (fin a m e) (fin b n d)) (rounded (differ k t) (M * U) N)) v.0 (subst (λ k. Gives (Ieee.div binary64 (fin a m e) (fin b n d)) (rounded (differ a k) (M * U) N)) w.0 (fin_div m e M v.1 n d N w.1 a b h))

float_lt : (x y : Float) (s t : Bool) (M N : ℕ) → HasValue x s M U → HasValue y t N U → Ieee.lt x y ≡ less_by s M t N
float_lt nan y s t M N v w = absurd v
float_lt (inf a) y s t M N v w = absurd v
float_lt (fin a m e) nan s t M N v w = absurd w
float_lt (fin a m e) (inf b) s t M N v w = absurd w
float_lt (fin a m e) (fin b n d) s t M N v w = fin_lt m e M v.1 n d N w.1 a b ∙ ap (λ k. less_by k M b N) v.0 ∙ ap (λ k. less_by s M k N) w.0

-- ---- of Reals

pub add_is : (x y : Real) → T (is_binary64 x) → T (is_binary64 y) → Gives (Ieee.add binary64 (f64_of x) (f64_of y)) (add x y)
unfolding add
add_is (binary s m e) (binary t n d) p q = float_add (f64_of (binary s m e)) (f64_of (binary t n d)) s t (m * 2 ^ e) (n * 2 ^ d) (the_value s m e p) (the_value t n d q)

pub subtract_is : (x y : Real) → T (is_binary64 x) → T (is_binary64 y) → Gives (Ieee.sub binary64 (f64_of x) (f64_of y)) (subtract x y)
unfolding subtract
subtract_is (binary s m e) (binary t n d) p q = float_sub (f64_of (binary s m e)) (f64_of (binary t n d)) s t (m * 2 ^ e) (n * 2 ^ d) (the_value s m e p) (the_value t n d q)

pub multiply_is : (x y : Real) → T (is_binary64 x) → T (is_binary64 y) → Gives (Ieee.mul binary64 (f64_of x) (f64_of y)) (multiply x y)
unfolding multiply
multiply_is (binary s m e) (binary t n d) p q = float_mul (f64_of (binary s m e)) (f64_of (binary t n d)) s t (m * 2 ^ e) (n * 2 ^ d) (the_value s m e p) (the_value t n d q)

not-zero : (s : Bool) (m e : ℕ) → T (not (is_zero (binary s m e))) → 0 < m * 2 ^ e
unfolding is_zero
not-zero s zero e t = absurd t
not-zero s (suc m) e t = mul-pos (zero-lt-suc m) (pow_pos e)

pub divide_is : (x y : Real) → T (is_binary64 x) → T (is_binary64 y) → T (not (is_zero y)) → Gives (Ieee.div binary64 (f64_of x) (f64_of y)) (divide x y)
unfolding divide
divide_is (binary s m e) (binary t n d) p q z = float_div (f64_of (binary s m e)) (f64_of (binary t n d)) s t (m * 2 ^ e) (n * 2 ^ d) (not-zero t n d z) (the_value s m e p) (the_value t n d q)

pub less_is : (x y : Real) → T (is_binary64 x) → T (is_binary64 y) → Ieee.lt (f64_of x) (f64_of y) ≡ less x y
unfolding less
less_is (binary s m e) (binary t n d) p q = float_lt (f64_of (binary s m e)) (f64_of (binary t n d)) s t (m * 2 ^ e) (n * 2 ^ d) (the_value s m e p) (the_value t n d q)
