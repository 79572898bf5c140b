-- The number with a word, and the word of that number. Assumes nothing.
use mathlib.Core.Path.{◌≡◌, refl, sym, ap, ◌∙◌, subst}
use mathlib.Core.Bool.{Bool, true, false, ◌&&◌}
use Prim.Native.Nat.{ℕ, zero, suc, ◌+◌, ◌-◌, ◌*◌, ◌/◌, ◌%◌, ◌^◌, ◌≤◌, ◌<◌}
use native.Mathlib.Nat.{div-add-mod', add-zero, zero-mul}
use native.Mathlib.Omega.{arith}
use lib.IntN.{ℤ, pos, neg_ℤ}
use lib.Dec.{T, leb, ltb, eqb, ltb→lt, eqb→eq}
use borrow.Author.Tests.{lt-leb, le-leb, lt-ltb, le-ltb}
use Rattle.std.specs.Prelude.{if◌then◌else◌}
use Rattle.laws.proofs.Tests.{and_l, and_r, by-if}
use Rattle.laws.proofs.Orders.{compare_same, three, Three, less, same, over}
use Rattle.reals.specs.Reals.{Real, binary, is_binary64, Number, int, real, signed, in_range, held_as, held, widen, kept, units, order_int}
use Rattle.reals.specs.Bits.{rank, from_fields, from_bits}
use Rattle.reals.specs.Words.{word, key, cell, real_in, number_in}
use Rattle.reals.proofs.Widening.{widen_binary64, held_widen}
use Rattle.reals.proofs.Keeping.{held_kept}
use Rattle.reals.proofs.Bits.{real_binary64}
use Rattle.reals.proofs.Words.{key_order, key_held, units_widen, order_self, cell_room}

-- ---- the Real with a word

key_made : (s : Bool) (x t : ℕ) → key (from_fields s x t) ≡ word s (x * 2 ^ 52 + t)
unfolding from_fields key rank
key_made s zero t = refl
key_made s (suc x) t = let e : x * 2 ^ 52 + (2 ^ 52 + t) ≡ suc x * 2 ^ 52 + t = omega arith in ap (word s) e

key_below : (w : ℕ) → 4503599627370496 < w → w < 2 ^ 63 → key (from_bits (2 ^ 63 + (2 ^ 63 - w))) ≡ w
unfolding word from_bits
key_below w h l =
    let b = 2 ^ 63 + (2 ^ 63 - w) in
    let r : b % 2 ^ 63 / 2 ^ 52 * 2 ^ 52 + b % 2 ^ 52 ≡ 2 ^ 63 - w = omega (arith, h) in
    let v : 2 ^ 63 - (2 ^ 63 - w) ≡ w = omega (arith, l) in
    key_made (leb (2 ^ 63) b) (b % 2 ^ 63 / 2 ^ 52) (b % 2 ^ 52)
    ∙ ap (λ s. word s (b % 2 ^ 63 / 2 ^ 52 * 2 ^ 52 + b % 2 ^ 52)) (le-leb (2 ^ 63) b (omega arith))
    ∙ ap (λ k. 2 ^ 63 - k) r
    ∙ v

key_above : (w : ℕ) → 2 ^ 63 ≤ w → w < 18442240474082181120 → key (from_bits (w - 2 ^ 63)) ≡ w
unfolding word from_bits
key_above w h l =
    let b = w - 2 ^ 63 in
    let r : b % 2 ^ 63 / 2 ^ 52 * 2 ^ 52 + b % 2 ^ 52 ≡ b = omega (arith, l) in
    let v : 2 ^ 63 + b ≡ w = omega (arith, h) in
    key_made (leb (2 ^ 63) b) (b % 2 ^ 63 / 2 ^ 52) (b % 2 ^ 52)
    ∙ ap (λ s. word s (b % 2 ^ 63 / 2 ^ 52 * 2 ^ 52 + b % 2 ^ 52)) (lt-leb (2 ^ 63) b (omega (arith, l)))
    ∙ ap (λ k. 2 ^ 63 + k) r
    ∙ v

-- where a word is a number's
abbrev pub InRoom : ℕ → Type 0
InRoom w = (2 ^ 52 < w) × (w < 2 ^ 64 - 2 ^ 52)

pub real_in_below : (w : ℕ) → w < 2 ^ 63 → real_in w ≡ from_bits (2 ^ 63 + (2 ^ 63 - w))
unfolding real_in
real_in_below w l = ap (λ t. from_bits (if t then 2 ^ 63 + (2 ^ 63 - w) else w - 2 ^ 63)) (lt-ltb w (2 ^ 63) l)

pub real_in_above : (w : ℕ) → 2 ^ 63 ≤ w → real_in w ≡ from_bits (w - 2 ^ 63)
unfolding real_in
real_in_above w l = ap (λ t. from_bits (if t then 2 ^ 63 + (2 ^ 63 - w) else w - 2 ^ 63)) (le-ltb w (2 ^ 63) l)

real_in_lem : (w : ℕ) → InRoom w → T (is_binary64 (real_in w)) × (key (real_in w) ≡ w)
real_in_lem w (h, l) = by_side (three w (2 ^ 63))
  where
    Reads : Type 0
    Reads = T (is_binary64 (real_in w)) × (key (real_in w) ≡ w)

    low : w < 2 ^ 63 → Reads
    low b = let e = real_in_below w b in (subst (λ r. T (is_binary64 r)) (sym e) (real_binary64 (2 ^ 63 + (2 ^ 63 - w)) (omega (arith, h))), ap key e ∙ key_below w h b)

    high : 2 ^ 63 ≤ w → Reads
    high b = let e = real_in_above w b in (subst (λ r. T (is_binary64 r)) (sym e) (real_binary64 (w - 2 ^ 63) (omega (arith, l))), ap key e ∙ key_above w b l)

    by_side : Three w (2 ^ 63) → Reads
    by_side (less b) = low b
    by_side (same b) = high (omega (arith, b))
    by_side (over b) = high (omega (arith, b))

-- ---- what it is held as

whole_units : (s : Bool) (u d : ℕ) → u % d ≡ 0 → d ≡ 2 ^ 1074 → units (int (signed s (u / d))) ≡ signed s u
unfolding units signed
whole_units s u d h e = go s (u / d) (sym (ap (λ k. u / d * d + k) h) ∙ div-add-mod' u d)
  where
    go : (s : Bool) (q : ℕ) → q * d + 0 ≡ u → units (int (signed s q)) ≡ signed s u
    go false q x = ap (λ k. pos (q * k)) (sym e) ∙ ap pos (sym (add-zero (q * d)) ∙ x)
    go true zero x = ap (λ k. neg_ℤ (pos k)) (sym (zero-mul d) ∙ sym (add-zero (0 * d)) ∙ x)
    go true (suc q) x = ap (λ k. neg_ℤ (pos (suc q * k))) (sym e) ∙ ap (λ k. neg_ℤ (pos k)) (sym (add-zero (suc q * d)) ∙ x)

-- it is the same number
units_held : (r : Real) → units (held r) ≡ units (real r)
unfolding held held_as units
units_held (binary s m e) = go (eqb (u % 2 ^ 1074) 0 && in_range z) (λ t. eqb→eq (u % 2 ^ 1074) 0 (and_l (eqb (u % 2 ^ 1074) 0) (in_range z) t))
  where
    u : ℕ
    u = m * 2 ^ e

    z : ℤ
    z = signed s (u / 2 ^ 1074)

    go : (b : Bool) → (T b → u % 2 ^ 1074 ≡ 0) → units (held_as b z (binary s m e)) ≡ signed s u
    go true f = whole_units s u (2 ^ 1074) (f tt) refl
    go false f = refl

cell_held : (r : Real) → T (is_binary64 r) → cell (held r) ≡ key r
unfolding cell order_int
cell_held r p =
    let k = held_kept r p in
    compare_same (key (widen (held r))) (key r)
    (key_order (widen (held r)) r (widen_binary64 (held r) k) p
    ∙ ap (λ z. order_int z (units (real r))) (sym (units_widen (held r) k) ∙ units_held r)
    ∙ order_self (units (real r)))

-- ---- numbers and words

cell_is : (x : Number) → cell x ≡ key (widen x)
unfolding cell
cell_is x = refl

pub number_in_lem : (w : ℕ) → InRoom w → number_in w ≡ held (real_in w)
unfolding number_in
number_in_lem w (h, l) = ap (λ t. if t && ltb w (2 ^ 64 - 2 ^ 52) then held (real_in w) else int (pos 0)) (lt-ltb (2 ^ 52) w h) ∙ ap (λ t. if t then held (real_in w) else int (pos 0)) (lt-ltb w (2 ^ 64 - 2 ^ 52) l)

pub number_low : (w : ℕ) → w ≤ 2 ^ 52 → number_in w ≡ int (pos 0)
unfolding number_in
number_low w h = ap (λ t. if t && ltb w (2 ^ 64 - 2 ^ 52) then held (real_in w) else int (pos 0)) (le-ltb (2 ^ 52) w h)

pub number_high : (w : ℕ) → 2 ^ 64 - 2 ^ 52 ≤ w → number_in w ≡ int (pos 0)
unfolding number_in
number_high w h = ap (λ t. if t && ltb w (2 ^ 64 - 2 ^ 52) then held (real_in w) else int (pos 0)) (lt-ltb (2 ^ 52) w (omega (arith, h))) ∙ ap (λ t. if t then held (real_in w) else int (pos 0)) (le-ltb w (2 ^ 64 - 2 ^ 52) h)

pub number_back : (x : Number) → T (kept x) → number_in (cell x) ≡ x
number_back x k =
    let r = cell_room x k in
    let i = real_in_lem (cell x) r in
    number_in_lem (cell x) r ∙ key_held (real_in (cell x)) (widen x) i.0 (widen_binary64 x k) (i.1 ∙ cell_is x) ∙ held_widen x k

pub word_onto : (w : ℕ) → 2 ^ 52 < w → w < 2 ^ 64 - 2 ^ 52 → cell (number_in w) ≡ w
word_onto w h l = let i = real_in_lem w (h, l) in ap cell (number_in_lem w (h, l)) ∙ cell_held (real_in w) i.0 ∙ i.1

pub number_kept : (w : ℕ) → T (kept (number_in w))
unfolding number_in kept in_range
number_kept w =
    by-if (λ x. T (kept x)) (ltb (2 ^ 52) w && ltb w (2 ^ 64 - 2 ^ 52)) (held (real_in w)) (int (pos 0))
    (λ t. held_kept (real_in w) (real_in_lem w (ltb→lt (2 ^ 52) w (and_l (ltb (2 ^ 52) w) (ltb w (2 ^ 64 - 2 ^ 52)) t), ltb→lt w (2 ^ 64 - 2 ^ 52) (and_r (ltb (2 ^ 52) w) (ltb w (2 ^ 64 - 2 ^ 52)) t))).0)
    (λ t. tt)
