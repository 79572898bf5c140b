-- The words of numbers: their order, one word for each number, and room beside them. Assumes nothing.
use mathlib.Core.Path.{◌≡◌, refl, sym, ap, ◌∙◌, subst}
use mathlib.Core.Logic.{◌⊎◌, inl, inr}
use mathlib.Core.Bool.{Bool, true, false}
use Prim.Native.Nat.compare
use Prim.Native.Nat.{Ordering}
use Prim.Native.Nat.{ℕ, zero, suc, ◌+◌, ◌-◌, ◌*◌, ◌^◌, ◌≤◌, ◌<◌, compare}
use native.Mathlib.Nat.{le_of_lt, le_trans, lt_of_lt_of_le, mul-le-mul_right, lt_of_mul-lt-mul_right, eq_of_mul-eq-mul_right, zero-lt-suc}
use native.Mathlib.Omega.{arith}
use lib.IntN.{ℤ, pos, negsuc, neg_ℤ}
use lib.Dec.{T}
use lib.Pow.{pow-add, pow_pos, pow_mono, shl_lt}
use Rattle.laws.proofs.Orders.{compare-lt, compare-gt, compare-eq, compare_like, compare_same, Three, less, same, over, three}
use Rattle.reals.specs.Reals.{Real, binary, is_binary64, Number, int, real, signed, in_range, held_as, held, of_units, widened, widen, kept, units, order_int, by_number}
use Rattle.reals.specs.Bits.{rank}
use Rattle.reals.specs.Words.{word, key, cell}
use Rattle.reals.proofs.Full.{Full, binary64→full, binary64→low}
use Rattle.reals.proofs.Widening.{whole_exact, pos_range, neg_range, widen_binary64, held_widen}

-- ---- ranks

module _ (m e n d : ℕ) (f : Full m e) (g : Full n d) where
  full_long : e < d → 2 ^ 52 ≤ n
  full_long l = go g.long
    where
      go : (d ≡ 0) ⊎ (2 ^ 52 ≤ n) → 2 ^ 52 ≤ n
      go (inl z) = absurd (omega (arith, l, z))
      go (inr h) = h

  -- a smaller exponent is a smaller number
  lower : e < d → m * 2 ^ e < n * 2 ^ d
  lower l =
      let a : m * 2 ^ e < 2 ^ (53 + e) = shl_lt 53 e f.short in
      let b : 2 ^ (53 + e) ≤ 2 ^ (52 + d) = pow_mono {i = (53 + e)} {j = (52 + d)} (omega (arith, l)) in
      lt_of_lt_of_le a (le_trans b (subst (λ k. k ≤ n * 2 ^ d) (sym (pow-add 2 52 d)) (mul-le-mul_right (2 ^ d) (full_long l))))

  rank_lower : e < d → e * 2 ^ 52 + m < d * 2 ^ 52 + n
  rank_lower l = let a = f.short in let b = full_long l in omega (arith, a, b, l)

pub rank_mono : (m e n d : ℕ) → Full m e → Full n d → m * 2 ^ e < n * 2 ^ d → e * 2 ^ 52 + m < d * 2 ^ 52 + n
rank_mono m e n d f g h = go (three e d)
  where
    go : Three e d → e * 2 ^ 52 + m < d * 2 ^ 52 + n
    go (less l) = rank_lower m e n d f g l
    go (same q) = let b : m < n = lt_of_mul-lt-mul_right (2 ^ d) (subst (λ k. m * 2 ^ k < n * 2 ^ d) q h) in omega (arith, b, q)
    go (over l) = let b = lower n d m e g f l in absurd (omega (arith, h, b))

pub rank_inj : (m e n d : ℕ) → Full m e → Full n d → e * 2 ^ 52 + m ≡ d * 2 ^ 52 + n → (m ≡ n) × (e ≡ d)
rank_inj m e n d f g h = go (three e d)
  where
    go : Three e d → (m ≡ n) × (e ≡ d)
    go (less l) = let b = rank_lower m e n d f g l in absurd (omega (arith, h, b))
    go (same q) = (omega (arith, h, q), q)
    go (over l) = let b = rank_lower n d m e g f l in absurd (omega (arith, h, b))

pub units_inj : (m e n d : ℕ) → Full m e → Full n d → m * 2 ^ e ≡ n * 2 ^ d → e * 2 ^ 52 + m ≡ d * 2 ^ 52 + n
units_inj m e n d f g h = go (three e d)
  where
    go : Three e d → e * 2 ^ 52 + m ≡ d * 2 ^ 52 + n
    go (less l) = let b = lower m e n d f g l in absurd (omega (arith, h, b))
    go (same q) = let b : m ≡ n = eq_of_mul-eq-mul_right (2 ^ d) (pow_pos d) m n (subst (λ k. m * 2 ^ k ≡ n * 2 ^ d) q h) in omega (arith, b, q)
    go (over l) = let b = lower n d m e g f l in absurd (omega (arith, h, b))

pub rank_order : (m e n d : ℕ) → Full m e → Full n d → compare (e * 2 ^ 52 + m) (d * 2 ^ 52 + n) ≡ compare (m * 2 ^ e) (n * 2 ^ d)
rank_order m e n d f g = compare_like (m * 2 ^ e) (n * 2 ^ d) (e * 2 ^ 52 + m) (d * 2 ^ 52 + n) (rank_mono m e n d f g) (units_inj m e n d f g) (rank_mono n d m e g f)

-- all ranks are below that of the infinity
pub rank_below : (m e : ℕ) → Full m e → e ≤ 2045 → e * 2 ^ 52 + m < 2047 * 2 ^ 52
rank_below m e f l = let a = f.short in omega (arith, a, l)

zero_full : Full 0 0
zero_full = record { short = pow_pos 53; long = inl refl }

rank_zero : (m e : ℕ) → Full m e → m * 2 ^ e ≡ 0 → e * 2 ^ 52 + m ≡ 0
rank_zero m e f h = units_inj m e 0 0 f zero_full h

rank_some : (m e : ℕ) → Full m e → 0 < m * 2 ^ e → 0 < e * 2 ^ 52 + m
rank_some m e f h = rank_mono 0 0 m e zero_full f h

-- ---- words in the order of signed numbers

-- a and b stand for M and N
module _ (a b M N : ℕ) (A : a < 2 ^ 63) (B : b < 2 ^ 63) (like : compare a b ≡ compare M N) (back : compare b a ≡ compare N M) where
  plain : compare (2 ^ 63 + a) (2 ^ 63 + b) ≡ compare M N
  plain = compare_like a b (2 ^ 63 + a) (2 ^ 63 + b) (λ l. omega (arith, l)) (λ l. omega (arith, l)) (λ l. omega (arith, l)) ∙ like

  turned : compare (2 ^ 63 - a) (2 ^ 63 - b) ≡ compare N M
  turned = compare_like b a (2 ^ 63 - a) (2 ^ 63 - b) (λ l. omega (arith, l, A, B)) (λ l. omega (arith, l, A, B)) (λ l. omega (arith, l, A, B)) ∙ back

word_order : (s t : Bool) (a b M N : ℕ) → a < 2 ^ 63 → b < 2 ^ 63 → compare a b ≡ compare M N → compare b a ≡ compare N M
    → (M ≡ 0 → a ≡ 0) → (0 < M → 0 < a) → (N ≡ 0 → b ≡ 0) → (0 < N → 0 < b) → compare (word s a) (word t b) ≡ order_int (signed s M) (signed t N)
unfolding word order_int signed
word_order false false a b M N A B like back z p y q = plain a b M N A B like back
word_order false true a b M zero A B like back z p y q = let k = y refl in ap (λ w. compare (2 ^ 63 + a) (2 ^ 63 - w)) k ∙ sym (ap (λ w. compare (2 ^ 63 + a) (2 ^ 63 + w)) k) ∙ plain a b M 0 A B like back
word_order false true a b M (suc N) A B like back z p y q = let k = q (zero-lt-suc N) in compare-gt (2 ^ 63 + a) (2 ^ 63 - b) (omega (arith, k, A, B))
word_order true false a b zero N A B like back z p y q = let k = z refl in ap (λ w. compare (2 ^ 63 - w) (2 ^ 63 + b)) k ∙ sym (ap (λ w. compare (2 ^ 63 + w) (2 ^ 63 + b)) k) ∙ plain a b 0 N A B like back
word_order true false a b (suc M) N A B like back z p y q = let k = p (zero-lt-suc M) in compare-lt (2 ^ 63 - a) (2 ^ 63 + b) (omega (arith, k, A, B))
word_order true true a b zero zero A B like back z p y q = turned a b 0 0 A B like back
word_order true true a b zero (suc N) A B like back z p y q = let k = z refl in let j = q (zero-lt-suc N) in compare-gt (2 ^ 63 - a) (2 ^ 63 - b) (omega (arith, k, j, A, B))
word_order true true a b (suc M) zero A B like back z p y q = let k = y refl in let j = p (zero-lt-suc M) in compare-lt (2 ^ 63 - a) (2 ^ 63 - b) (omega (arith, k, j, A, B))
word_order true true a b (suc M) (suc N) A B like back z p y q = turned a b (suc M) (suc N) A B like back ∙ compare.suc-suc N M

below_63 : (m e : ℕ) → Full m e → e ≤ 2045 → e * 2 ^ 52 + m < 2 ^ 63
below_63 m e f l = let a = rank_below m e f l in omega (arith, a)

pub key_order : (x y : Real) → T (is_binary64 x) → T (is_binary64 y) → compare (key x) (key y) ≡ order_int (units (real x)) (units (real y))
unfolding key rank units
key_order (binary s m e) (binary t n d) p q =
    let f = binary64→full s m e p in
    let g = binary64→full t n d q in
    word_order s t (e * 2 ^ 52 + m) (d * 2 ^ 52 + n) (m * 2 ^ e) (n * 2 ^ d) (below_63 m e f (binary64→low s m e p)) (below_63 n d g (binary64→low t n d q))
    (rank_order m e n d f g) (rank_order n d m e g f) (rank_zero m e f) (rank_some m e f) (rank_zero n d g) (rank_some n d g)

-- ---- numbers

small : (n : ℕ) → n ≤ 2147483648 → n < 2 ^ 53
small n h = omega arith

pub units_widen : (x : Number) → T (kept x) → units x ≡ units (real (widen x))
unfolding kept widen widened units of_units signed
units_widen (int (pos n)) k = ap pos (sym (whole_exact n (small n (le_of_lt (pos_range n k)))))
units_widen (int (negsuc n)) k = ap (λ j. neg_ℤ (pos j)) (sym (whole_exact (suc n) (small (suc n) (neg_range n k))))
units_widen (real (binary s m e)) k = refl

-- the order of words is the order of numbers
pub cell_number : (x y : Number) → T (kept x) → T (kept y) → compare (cell x) (cell y) ≡ by_number x y
unfolding cell by_number
cell_number x y p q =
    key_order (widen x) (widen y) (widen_binary64 x p) (widen_binary64 y q)
    ∙ ap (λ k. order_int k (units (real (widen y)))) (sym (units_widen x p))
    ∙ ap (λ k. order_int (units x) k) (sym (units_widen y q))

-- numbers lie between the other values
pub key_above : (r : Real) → T (is_binary64 r) → 2 ^ 52 < key r
unfolding key rank word
key_above (binary false m e) p = omega arith
key_above (binary true m e) p = let a = rank_below m e (binary64→full true m e p) (binary64→low true m e p) in omega (arith, a)

pub key_below : (r : Real) → T (is_binary64 r) → key r < 2 ^ 64 - 2 ^ 52
unfolding key rank word
key_below (binary false m e) p = let a = rank_below m e (binary64→full false m e p) (binary64→low false m e p) in omega (arith, a)
key_below (binary true m e) p = omega arith

pub cell_room : (x : Number) → T (kept x) → (2 ^ 52 < cell x) × (cell x < 2 ^ 64 - 2 ^ 52)
unfolding cell
cell_room x k = let p = widen_binary64 x k in (key_above (widen x) p, key_below (widen x) p)

-- ---- one word for each number

-- both zeros are held as 0
held_zero : (s t : Bool) → held (binary s 0 0) ≡ held (binary t 0 0)
unfolding held held_as signed in_range
held_zero false false = refl
held_zero false true = refl
held_zero true false = refl
held_zero true true = refl

-- the same word: the same rank, with the same sign or at zero
word_same : (s t : Bool) (a b : ℕ) → a < 2 ^ 63 → b < 2 ^ 63 → word s a ≡ word t b → (a ≡ b) × ((s ≡ t) ⊎ (a ≡ 0))
unfolding word
word_same false false a b A B h = (omega (arith, h), inl refl)
word_same false true a b A B h = (omega (arith, h, B), inr (omega (arith, h, B)))
word_same true false a b A B h = (omega (arith, h, A), inr (omega (arith, h, A)))
word_same true true a b A B h = (omega (arith, h, A, B), inl refl)

pub key_held : (x y : Real) → T (is_binary64 x) → T (is_binary64 y) → key x ≡ key y → held x ≡ held y
unfolding key rank
key_held (binary s m e) (binary t n d) p q h = go (word_same s t (e * 2 ^ 52 + m) (d * 2 ^ 52 + n) (below_63 m e f (binary64→low s m e p)) (below_63 n d g (binary64→low t n d q)) h)
  where
    f : Full m e
    f = binary64→full s m e p

    g : Full n d
    g = binary64→full t n d q

    go : (e * 2 ^ 52 + m ≡ d * 2 ^ 52 + n) × ((s ≡ t) ⊎ (e * 2 ^ 52 + m ≡ 0)) → held (binary s m e) ≡ held (binary t n d)
    go (r, inl u) = let w = rank_inj m e n d f g r in ap (λ k. held (binary k m e)) u ∙ ap (λ k. held (binary t k e)) w.0 ∙ ap (λ k. held (binary t n k)) w.1
    go (r, inr z) =
        let a : m ≡ 0 = omega (arith, z) in
        let b : e ≡ 0 = omega (arith, z) in
        let c : n ≡ 0 = omega (arith, z, r) in
        let k : d ≡ 0 = omega (arith, z, r) in
        ap (λ j. held (binary s j e)) a ∙ ap (λ j. held (binary s 0 j)) b ∙ held_zero s t ∙ sym (ap (λ j. held (binary t j d)) c ∙ ap (λ j. held (binary t 0 j)) k)

pub cell_injective : (x y : Number) → T (kept x) → T (kept y) → cell x ≡ cell y → x ≡ y
unfolding cell
cell_injective x y p q h = sym (held_widen x p) ∙ key_held (widen x) (widen y) (widen_binary64 x p) (widen_binary64 y q) h ∙ held_widen y q

pub order_self : (z : ℤ) → order_int z z ≡ Ordering.eq
unfolding order_int
order_self (pos n) = compare-eq n n refl
order_self (negsuc n) = compare-eq n n refl

-- two that are the same by number are one
pub units_apart : (x y : Number) → T (kept x) → T (kept y) → units x ≡ units y → x ≡ y
unfolding by_number
units_apart x y p q e =
    cell_injective x y p q (compare_same (cell x) (cell y) (cell_number x y p q ∙ ap (λ k. order_int k (units y)) e ∙ order_self (units y)))
