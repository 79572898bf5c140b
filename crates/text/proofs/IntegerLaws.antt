-- Laws of Integers: their natural numbers, their sign, and where they end. Assumes nothing.
use Prim.Native.Nat.{ℕ, zero, suc, ◌+◌, ◌-◌, ◌<◌, ◌≤◌, min}
use mathlib.Core.Path.{◌≡◌, refl, sym, ap, ◌∙◌}
use mathlib.Core.Bool.{Bool, true, false}
use mathlib.Core.Option.{Option, none, some}
use mathlib.Core.List.{[], ◌∷◌}
use native.Mathlib.Omega.{arith}
use native.Mathlib.Decide.{dec_lt}
use borrow.Author.Tests.{eq-eqb, ne_eqb, lt-ltb, le-ltb, eqb-true}
use lib.Dec.{eqb}
use lib.IntN.{ℤ, pos}
use lib.ListN.{length, get_or, take, drop, drop_of_length-le, length-drop}
use lib.Seq.{drop-drop}
use Rattle.laws.specs.Choice.{map_some, on_some, or_else}
use Rattle.std.specs.Prelude.{if◌then◌else◌, Ok, Err}
use Rattle.laws.proofs.Tests.{Any?, any_some}
use Rattle.laws.proofs.Options.{or_else_none}
use Rattle.laws.proofs.Parts.{at_next}
use Rattle.reals.specs.Reals.{in_range}
use Rattle.sheet.specs.Text.{Bytes, bytes, after, behind, ◌or◌, ◌then◌, mapped, is_digit, digits, after_digits, plain, value_of_digits, number_parser, negative, integer_parser}
use Rattle.sheet.specs.Lines.{an_integer}
use Rattle.laws.specs.Integers.{bias}
use Rattle.text.specs.Numbers.{leading, DigitsEnd, DigitsRead, IntegerEnd, IntegerRead, whole_of, minus_at, signed, leading_integer}
use Rattle.text.specs.declared.numbers.Digits.{Digits}
use Rattle.text.proofs.NumberLaws.{number_leading, digits_after, leading_some, leading_none, whole_read, whole_left}
use Rattle.memory.specs.declared.refusals.Misread.TheVariants.{Malformed, OverLimit}

-- ---- the sign: what `by_sign` answers

module _ (n : ℕ) where
  pub plus_in : {m : ℕ} → m ≡ 0 → n < 2147483648 → Ok (2147483648 + n) ≡ whole_of (signed m n)
  unfolding whole_of signed in_range bias
  plus_in e h = rw (e, lt-ltb n 2147483648 h)

  pub plus_out : {m : ℕ} → m ≡ 0 → 2147483648 ≤ n → Err OverLimit ≡ whole_of (signed m n)
  unfolding whole_of signed in_range
  plus_out e h = rw (e, le-ltb n 2147483648 h)

pub minus_zero : (m n : ℕ) → (m ≡ 0 → ⊥) → n ≡ 0 → Err Malformed ≡ whole_of (signed m n)
unfolding whole_of signed
minus_zero zero n p e = absurd (p refl)
minus_zero (suc m) n p e = rw e

pub minus_in : (m n : ℕ) → (m ≡ 0 → ⊥) → (n ≡ 0 → ⊥) → n ≤ 2147483648 → Ok (2147483648 - n) ≡ whole_of (signed m n)
unfolding whole_of signed in_range bias
minus_in zero n p q h = absurd (p refl)
minus_in (suc m) zero p q h = absurd (q refl)
minus_in (suc m) (suc n) p q h = rw (lt-ltb n 2147483648 (omega arith))

pub minus_out : (m n : ℕ) → (m ≡ 0 → ⊥) → 2147483648 < n → Err OverLimit ≡ whole_of (signed m n)
unfolding whole_of signed in_range
minus_out zero n p h = absurd (p refl)
minus_out (suc m) zero p h = absurd (omega arith)
minus_out (suc m) (suc n) p h = rw (le-ltb n 2147483648 (omega arith))

far_out : (m n : ℕ) → 2147483648 < n → whole_of (signed m n) ≡ Err OverLimit
far_out zero n h = sym (plus_out n {m = 0} refl (omega arith))
far_out (suc m) n h = sym (minus_out (suc m) n (λ e. omega arith) h)

-- the cut lies outside the range, so that it is not seen
pub cut_whole : (m n : ℕ) → whole_of (signed m (min n 10000000000)) ≡ whole_of (signed m n)
cut_whole m n = go (dec_lt n 10000000000)
  where
    go : Dec (n < 10000000000) → whole_of (signed m (min n 10000000000)) ≡ whole_of (signed m n)
    go (yes l) = ap (λ (k : ℕ). whole_of (signed m k)) (omega arith)
    go (no l) = far_out m (min n 10000000000) (omega arith) ∙ sym (far_out m n (omega arith))

-- ---- the minus sign

module _ (s : Bytes) (at : ℕ) where
  pub minus_here : at < length s → get_or s at 0 ≡ 45 → 1 ≡ minus_at (drop at s)
  unfolding minus_at
  minus_here h e = rw (at_next 0 s at h, eq-eqb 45 (get_or s at 0) (sym e))

  pub minus_not : at < length s → (get_or s at 0 ≡ 45 → ⊥) → 0 ≡ minus_at (drop at s)
  unfolding minus_at
  minus_not h e = rw (at_next 0 s at h, ne_eqb 45 (get_or s at 0) (λ q. e (sym q)))

  pub minus_past : length s ≤ at → 0 ≡ minus_at (drop at s)
  unfolding minus_at
  minus_past h = rw (drop_of_length-le s h)

pub minus_within : (s : Bytes) → minus_at s ≤ length s
unfolding minus_at
minus_within [] = omega arith
minus_within (b ∷ s) = go (eqb 45 b)
  where
    go : (t : Bool) → (if t then 1 else 0) ≤ suc (length s)
    go true = omega arith
    go false = omega arith

pub minus_room : (s : Bytes) {at m : ℕ} → at ≤ length s → m ≡ minus_at (drop at s) → at + m ≤ length s
minus_room s {at} {m} h e = omega (arith, simp length-drop at (minus_within (drop at s)))

-- ---- what is read is told by `leading_integer`, and what is left by the digits

minus_leading : (s : Bytes) → integer_parser (45 ∷ s) ≡ map_some (λ z. (z, after_digits s)) (on_some (leading s) (signed 1))
unfolding integer_parser ◌or◌ behind ◌then◌ mapped after bytes on_some map_some number_parser plain digits is_digit negative signed
minus_leading s = or_else_none ((number_parser then negative) s) ∙ rw (number_leading s) (go (leading s))
  where
    go : (o : Option ℕ) → on_some {A = ℕ × Bytes} (map_some (λ n. (n, after_digits s)) o) (λ x. negative x.0 x.1) ≡ map_some (λ z. (z, after_digits s)) (on_some o (signed 1))
    go none = refl
    go (some zero) = refl
    go (some (suc n)) = refl

plus_leading : (b : ℕ) (s : Bytes) → eqb 45 b ≡ false → integer_parser (b ∷ s) ≡ map_some (λ z. (z, after_digits (b ∷ s))) (on_some (leading (b ∷ s)) (signed 0))
unfolding integer_parser ◌or◌ behind mapped after bytes on_some map_some or_else signed
plus_leading b s h = rw (h, number_leading (b ∷ s)) (go (leading (b ∷ s)))
  where
    go : (o : Option ℕ) → map_some {A = ℕ × Bytes} {B = ℤ × Bytes} (λ x. (pos x.0, x.1)) (map_some (λ n. (n, after_digits (b ∷ s))) o) ≡ map_some (λ z. (z, after_digits (b ∷ s))) (on_some o (signed 0))
    go none = refl
    go (some n) = refl

none_leading : integer_parser [] ≡ map_some (λ z. (z, after_digits [])) (on_some (leading []) (signed 0))
unfolding integer_parser ◌or◌ behind mapped after bytes on_some map_some or_else number_parser leading digits plain
none_leading = refl

pub integer_leading : (s : Bytes) → integer_parser s ≡ map_some (λ z. (z, after_digits (drop (minus_at s) s))) (leading_integer s)
unfolding leading_integer minus_at
integer_leading [] = none_leading
integer_leading (b ∷ s) = go (eqb 45 b) refl
  where
    go : (t : Bool) → t ≡ eqb 45 b → integer_parser (b ∷ s) ≡ map_some (λ z. (z, after_digits (drop (if t then 1 else 0) (b ∷ s)))) (on_some (leading (drop (if t then 1 else 0) (b ∷ s))) (signed (if t then 1 else 0)))
    go true e = rw (← eqb-true 45 b (sym e)) (minus_leading s)
    go false e = plus_leading b s (sym e)

-- ---- an Integer in a field

pub digits_behind : {s : Bytes} {at m : ℕ} {d : Digits} → m ≡ minus_at (drop at s) → DigitsRead s (at + m) d → IntegerRead s at d
digits_behind q to = record { ends = record { digits = rw q at to.ends }; value = rw q at to.value }

module _ {s : Bytes} {at e : ℕ} (to : IntegerEnd s at e) where
  -- the Integer that begins at `at`, and what stands after it
  pub integer_from : integer_parser (drop at s) ≡ map_some (λ z. (z, drop e s)) (leading_integer (drop at s))
  integer_from = rw (← digits_after to.digits, ← drop-drop (minus_at (drop at s)) at s) (integer_leading (drop at s))

  module _ {m : ℕ} (sign : m ≡ minus_at (drop at s)) {t : Bool} (told : t ≡ plain (take (e - (at + m)) (drop (at + m) s))) where
    digits_to : DigitsEnd s (at + m) e
    digits_to = rw sign to.digits

    by_leading : leading_integer (drop at s) ≡ on_some (leading (drop (at + m) s)) (signed m)
    unfolding leading_integer
    by_leading = rw (← sign, drop-drop m at s)

    pub integer_read : {n : ℕ} → t ≡ true → n ≡ min (value_of_digits 0 (digits (drop (at + minus_at (drop at s)) s))) 10000000000 → whole_of (signed m n) ≡ whole_of (leading_integer (drop at s))
    unfolding on_some
    integer_read h p = rw (p, ← sign, by_leading, leading_some digits_to told h) (cut_whole m _)

    pub integer_bad : t ≡ false → Err Malformed ≡ whole_of (leading_integer (drop at s))
    unfolding on_some whole_of
    integer_bad h = rw (by_leading, leading_none digits_to told h)

module _ {f : Bytes} {e : ℕ} (to : IntegerEnd f 0 e) where
  pub an_integer_lem : e ≡ length f → an_integer f ≡ leading_integer f
  unfolding an_integer
  an_integer_lem h = whole_read integer_parser f (drop e f) (leading_integer f) (integer_from to) (drop_of_length-le f {i = e} (omega arith))

  pub not_an_integer : (e ≡ length f → ⊥) → an_integer f ≡ none
  unfolding an_integer
  not_an_integer h = whole_left integer_parser f (drop e f) (leading_integer f) (integer_from to) (at_next 0 f e (omega (arith, to.digits.within)))

-- ---- what a caller learns of the field by the answer

pub whole_bad : (o : Option ℤ) → Err Malformed ≡ whole_of o → o ≡ none
unfolding whole_of
whole_bad none h = refl
whole_bad (some z) h = absurd (go (in_range z) h)
  where
    go : (t : Bool) → Err Malformed ≡ (if t then Ok (bias z) else Err OverLimit) → ⊥
    go true h = let z : ◌≡◌ {A = ℕ} 0 1 = cc in omega arith
    go false h = let z : ◌≡◌ {A = ℕ} 0 1 = cc in omega arith

pub whole_out : (o : Option ℤ) → Err OverLimit ≡ whole_of o → Any? (λ z. in_range z ≡ false) o
unfolding whole_of
whole_out none h = absurd (let z : ◌≡◌ {A = ℕ} 0 1 = cc in omega arith)
whole_out (some z) h = any_some (go (in_range z) h)
  where
    go : (t : Bool) → Err OverLimit ≡ (if t then Ok (bias z) else Err OverLimit) → t ≡ false
    go true h = absurd (let z : ◌≡◌ {A = ℕ} 0 1 = cc in omega arith)
    go false h = refl

pub whole_is : {p : ℕ} (o : Option ℤ) → Ok p ≡ whole_of o → Any? (λ z. (in_range z ≡ true) × (p ≡ bias z)) o
unfolding whole_of
whole_is none h = absurd (let z : ◌≡◌ {A = ℕ} 0 1 = cc in omega arith)
whole_is {p} (some z) h = any_some (go (in_range z) h)
  where
    go : (t : Bool) → Ok p ≡ (if t then Ok (bias z) else Err OverLimit) → (t ≡ true) × (p ≡ bias z)
    go true h = (refl, cc)
    go false h = absurd (let z : ◌≡◌ {A = ℕ} 0 1 = cc in omega arith)
