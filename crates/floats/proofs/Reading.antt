-- A Real read from its spelling. Assumes nothing.
use mathlib.Core.Path.{◌≡◌, refl, sym, ap, ◌∙◌, subst}
use mathlib.Core.Bool.{Bool, true, false, not, ◌&&◌}
use mathlib.Core.Option.{Option, none, some}
use mathlib.Core.List.{List, [], ◌∷◌}
use Prim.Native.Nat.{ℕ, suc, ◌+◌, ◌-◌, ◌*◌, ◌%◌, ◌^◌, ◌≤◌, ◌<◌}
use native.Mathlib.Nat.{lt_of_lt_of_le}
use native.Mathlib.Omega.{arith}
use lib.Dec.{T, eqb}
use lib.ListN.{length, get_or, take, drop, drop_of_length-le, length-drop}
use lib.Pow.{pow-add, pow_mono}
use lib.Ieee.{Float, binary64, of_bits, nan_bits}
use lib.Ieee.Scale.{finite}
use borrow.Author.Tests.{eq-eqb, ne_eqb}
use Rattle.laws.specs.Choice.{on_some}
use Rattle.std.specs.Prelude.{if◌then◌else◌, Result, Ok, Err}
use Rattle.laws.proofs.Parts.{at_next, part_all}
use Rattle.laws.proofs.Tests.{and_l, by-if, test_true}
use Rattle.reals.specs.Reals.{is_binary64, is_real, held, kept}
use Rattle.reals.specs.Bits.{from_bits}
use Rattle.reals.specs.Digits.{hex_digit, hex_number}
use Rattle.reals.specs.Spelling.{Reading, reads, refused, held_as_real, finite_real, of_digits, read_real}
use Rattle.reals.proofs.Bits.{real_binary64, binary64_low, real_finite, no_nan}
use Rattle.reals.proofs.Spelling.{spelling_laws}
use Rattle.reals.proofs.Digits.{digit_decimal, digit_letter, digit_low, digit_between, digit_high, Digit, is_digit_lem, no_digit, a_digit}
use Rattle.floats.specs.Meanings.{coded_of, spelled_of, SoundText, Holds, digit_or, ReadsReal}
use Rattle.floats.specs.declared.Number.{Number as Coded}
use Rattle.floats.specs.declared.Number.TheVariants as coded
use Rattle.floats.proofs.Coding.{real_by, int_by}
use Rattle.floats.proofs.Storing.{float_at, bits_finite}
use Rattle.memory.specs.declared.refusals.Misread.{Misread}
use Rattle.memory.specs.declared.refusals.Misread.TheVariants.{Malformed, OverLimit}

-- ---- one digit

pub value_decimal : (c : ℕ) → 48 ≤ c → c < 58 → c - 48 ≡ digit_or (hex_digit c)
unfolding digit_or
value_decimal c a b = sym (ap digit_or (digit_decimal c a (omega (arith, b))))

pub value_letter : (c : ℕ) → 97 ≤ c → c < 103 → c - 87 ≡ digit_or (hex_digit c)
unfolding digit_or
value_letter c a b = sym (ap digit_or (digit_letter c a (omega (arith, b))))

pub value_low : (c : ℕ) → c < 48 → 16 ≡ digit_or (hex_digit c)
unfolding digit_or
value_low c h = sym (ap digit_or (digit_low c h))

pub value_between : (c : ℕ) → 57 < c → c < 97 → 16 ≡ digit_or (hex_digit c)
unfolding digit_or
value_between c a b = sym (ap digit_or (digit_between c a b))

pub value_high : (c : ℕ) → 102 < c → 16 ≡ digit_or (hex_digit c)
unfolding digit_or
value_high c a = sym (ap digit_or (digit_high c a))

digit_small : (c : ℕ) {v : ℕ} → v ≡ digit_or (hex_digit c) → (v ≡ 16 → ⊥) → v < 16
unfolding digit_or
digit_small c {v} e f = go (a_digit c)
  where
    go : Digit c → v < 16
    go (is_digit_lem d l q) = let k = e ∙ ap digit_or q in omega (arith, l, k)
    go (no_digit q) = absurd (f (e ∙ ap digit_or q))

-- ---- all digits

-- the first i digits are those of b, and what all digits stand for follows from b and the rest
pub record ReadTo (ds : List ℕ) (b i : ℕ) : Type 0 where
  pub below : b < 2 ^ (4 * i)
  pub same : hex_number b (drop i ds) ≡ hex_number 0 ds

-- there is room for one digit more
read_room : {ds : List ℕ} {b i : ℕ} → length ds ≡ 16 → ReadTo ds b i → i < length ds → b < 1152921504606846976
read_room {i = i} long r h = lt_of_lt_of_le r.below (pow_mono {i = 4 * i} {j = 60} (omega (arith, h, long)))

pub read_times : {ds : List ℕ} {b i : ℕ} → length ds ≡ 16 → ReadTo ds b i → i < length ds → b * 16 < 18446744073709551616
read_times long r h = let k = read_room long r h in omega (arith, k)

pub read_plus : {ds : List ℕ} {b i v : ℕ} → length ds ≡ 16 → ReadTo ds b i → i < length ds → v ≡ digit_or (hex_digit (get_or ds i 0)) → (v ≡ 16 → ⊥) → b * 16 + v < 18446744073709551616
read_plus {ds} {i = i} long r h e f = let k = read_room long r h in let l = digit_small (get_or ds i 0) e f in omega (arith, k, l)

grows : (i b v : ℕ) → v < 16 → b < 2 ^ (4 * i) → b * 16 + v < 2 ^ (4 * (i + 1))
grows i b v h k =
    let e : 4 * (i + 1) ≡ 4 * i + 4 = omega arith in
    let p : 2 ^ (4 * (i + 1)) ≡ 2 ^ (4 * i) * 16 = ap (λ j. 2 ^ j) e ∙ pow-add 2 (4 * i) 4 in
    omega (arith, h, k, p)

-- the digit at i, read after b
abbrev onward : List ℕ → ℕ → ℕ → Option ℕ → Option ℕ
onward ds b i o = on_some o (λ d. hex_number (b * 16 + d) (drop (i + 1) ds))

split : (ds : List ℕ) (b i : ℕ) → i < length ds → hex_number b (drop i ds) ≡ onward ds b i (hex_digit (get_or ds i 0))
unfolding hex_number
split ds b i h = ap (hex_number b) (at_next 0 ds i h)

pub read_next : (ds : List ℕ) {b i v : ℕ} → ReadTo ds b i → i < length ds → v ≡ digit_or (hex_digit (get_or ds i 0)) → (v ≡ 16 → ⊥) → ReadTo ds (b * 16 + v) (i + 1)
unfolding on_some digit_or
read_next ds {b} {i} {v} r h e f = go (a_digit (get_or ds i 0))
  where
    go : Digit (get_or ds i 0) → ReadTo ds (b * 16 + v) (i + 1)
    go (is_digit_lem d l q) =
        let k : v ≡ d = e ∙ ap digit_or q in
        record {
          below = grows i b v (omega (arith, l, k)) r.below;
          same = ap (λ j. hex_number (b * 16 + j) (drop (i + 1) ds)) k ∙ sym (split ds b i h ∙ ap (onward ds b i) q) ∙ r.same;
        }
    go (no_digit q) = absurd (f (e ∙ ap digit_or q))

read_none : (ds : List ℕ) {b i v : ℕ} → ReadTo ds b i → i < length ds → v ≡ digit_or (hex_digit (get_or ds i 0)) → v ≡ 16 → hex_number 0 ds ≡ none
unfolding on_some digit_or
read_none ds {b} {i} {v} r h e f = sym r.same ∙ split ds b i h ∙ ap (onward ds b i) (go (a_digit (get_or ds i 0)))
  where
    go : Digit (get_or ds i 0) → hex_digit (get_or ds i 0) ≡ none
    go (is_digit_lem d l q) = let k : d ≡ 16 = sym (ap digit_or q) ∙ sym e ∙ f in absurd (omega (arith, l, k))
    go (no_digit q) = q

read_some : (ds : List ℕ) {b i : ℕ} → ReadTo ds b i → length ds ≤ i → hex_number 0 ds ≡ some b
unfolding hex_number
read_some ds {b} {i} r h = sym r.same ∙ ap (hex_number b) (drop_of_length-le ds h)

-- ---- the whole text

-- what is read is finite
told : (s : List ℕ) {r : Result Float Misread} → r ≡ spelled_of (read_real s) → ReadsReal s r
unfolding spelled_of kept
told s {r} e = record { sound = go (read_real s) refl e; is = e }
  where
    bad_or_over : (t : Bool) → SoundText (if t then Err OverLimit else Err Malformed)
    bad_or_over true = tt
    bad_or_over false = tt

    go : (k : Reading) → read_real s ≡ k → r ≡ spelled_of k → SoundText r
    go (reads q) w i = subst SoundText (sym i) (real_finite q (and_l (is_binary64 q) (is_real (held q)) (spelling_laws.only s q w).0))
    go (refused n) w i = subst SoundText (sym i) (bad_or_over (eqb n 4))

abbrev after : Bool → List ℕ → Reading
after t cs = if t then of_digits (hex_number 0 cs) else refused 3

pub other_length : (s : List ℕ) → (length s ≡ 17 → ⊥) → ReadsReal s (Err Malformed)
unfolding read_real spelled_of
other_length [] h = told [] refl
other_length (c ∷ cs) h = told (c ∷ cs) (sym (at (eqb c 114) (ne_eqb (length cs) 16 (λ e. h (ap suc e)))))
  where
    at : (t : Bool) → eqb (length cs) 16 ≡ false → spelled_of (after (t && eqb (length cs) 16) cs) ≡ Err Malformed
    at true e = ap (λ t. spelled_of (after t cs)) e
    at false e = refl

pub other_letter : (s : List ℕ) → length s ≡ 17 → (get_or s 0 0 ≡ 114 → ⊥) → ReadsReal s (Err Malformed)
unfolding read_real spelled_of
other_letter [] l h = told [] refl
other_letter (c ∷ cs) l h = told (c ∷ cs) (sym (ap (λ t. spelled_of (after (t && eqb (length cs) 16) cs)) (ne_eqb c 114 h)))

-- the digits behind the letter, as the code has them
abbrev pub digits_of : List ℕ → List ℕ
digits_of s = take (length s - 1) (drop 1 s)

pub sixteen : (s : List ℕ) → length s ≡ 17 → length (digits_of s) ≡ 16
sixteen s l = let k = length-drop 1 s in rw (part_all s 1) (omega (arith, k, l))

by_digits : (s : List ℕ) → length s ≡ 17 → get_or s 0 0 ≡ 114 → read_real s ≡ of_digits (hex_number 0 (digits_of s))
unfolding read_real
by_digits [] l h = absurd (omega (arith, l))
by_digits (c ∷ cs) l h =
    ap (λ t. after (t && eqb (length cs) 16) cs) (eq-eqb c 114 h)
    ∙ ap (λ t. after t cs) (eq-eqb (length cs) 16 (omega (arith, l)))
    ∙ sym (ap (λ ds. of_digits (hex_number 0 ds)) (part_all (c ∷ cs) 1))

pub other_digit : (s : List ℕ) {b i v : ℕ} → length s ≡ 17 → get_or s 0 0 ≡ 114 → ReadTo (digits_of s) b i → i < length (digits_of s) → v ≡ digit_or (hex_digit (get_or (digits_of s) i 0)) → v ≡ 16 → ReadsReal s (Err Malformed)
unfolding of_digits spelled_of
other_digit s l h r k e f = told s (sym (ap spelled_of (by_digits s l h ∙ ap of_digits (read_none (digits_of s) r k e f))))

pub all_digits : (s : List ℕ) {b i : ℕ} {r : Result Float Misread} → length s ≡ 17 → get_or s 0 0 ≡ 114 → ReadTo (digits_of s) b i → length (digits_of s) ≤ i → r ≡ spelled_of (finite_real (from_bits b)) → ReadsReal s r
unfolding of_digits
all_digits s l h t k g = told s (g ∙ sym (ap spelled_of (by_digits s l h ∙ ap of_digits (read_some (digits_of s) t k))))

-- ---- the bits

module _ (b : ℕ) {m : ℕ} (w : m ≡ b % 2 ^ 63) where
  pub bits_over : 9218868437227405312 ≤ m → Err OverLimit ≡ spelled_of (finite_real (from_bits b))
  unfolding finite_real spelled_of
  bits_over h =
      by-if (λ x. (Err OverLimit) ≡ spelled_of x) (is_binary64 (from_bits b)) (held_as_real (from_bits b)) (refused 4)
      (λ t. absurd (let l = binary64_low b t in omega (arith, l, h, w))) (λ t. refl)

  bits_low : m < 9218868437227405312 → b % 2 ^ 63 < 2047 * 2 ^ 52
  bits_low h = omega (arith, h, w)

  pub bits_number : m < 9218868437227405312 → T (not (nan_bits binary64 b))
  bits_number h = no_nan b (bits_low h)

  pub bits_small : b < 18446744073709551616 → m < 9218868437227405312 → T (finite (of_bits binary64 b))
  bits_small l h = bits_finite b l (bits_low h)

-- whether a Real is spelled with these bits is told by what it is held as
module _ (b : ℕ) {m : ℕ} (w : m ≡ b % 2 ^ 63) (k : b < 18446744073709551616) (h : m < 9218868437227405312) {r : Coded} (g : Holds (of_bits binary64 b) r) where
  held_so : r ≡ coded_of (held (from_bits b))
  held_so = g.is (from_bits b) (real_binary64 b (bits_low b w h)) (float_at b k)

  read_as : {t : Bool} → is_real (held (from_bits b)) ≡ t → finite_real (from_bits b) ≡ (if t then reads (from_bits b) else refused 3)
  unfolding finite_real held_as_real
  read_as e =
      ap (λ t. if t then held_as_real (from_bits b) else refused 4) (test_true (is_binary64 (from_bits b)) (real_binary64 b (bits_low b w h)))
      ∙ ap (λ t. if t then reads (from_bits b) else refused 3) e

  pub bits_int : {n : ℕ} → r ≡ coded.Integer n → Err Malformed ≡ spelled_of (finite_real (from_bits b))
  unfolding spelled_of
  bits_int e = sym (ap spelled_of (read_as (int_by (held (from_bits b)) held_so e)))

  pub bits_real : {y : Float} → r ≡ coded.Real y → Ok (of_bits binary64 b) ≡ spelled_of (finite_real (from_bits b))
  unfolding spelled_of
  bits_real e = ap Ok (float_at b k) ∙ sym (ap spelled_of (read_as (real_by (held (from_bits b)) held_so e)))
