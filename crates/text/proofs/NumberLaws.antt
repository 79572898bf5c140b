-- Laws of decimal numbers: where their digits end, and what they stand for. That no test below the bound sees the cut is in
-- crates/laws, Bounds. Assumes nothing.
use Prim.Native.Nat.{ℕ, suc, ◌+◌, ◌-◌, ◌*◌, ◌<◌, ◌≤◌, min}
use mathlib.Core.Path.{◌≡◌, refl, sym, ap, ◌∙◌}
use mathlib.Core.Bool.{Bool, true, false, not}
use mathlib.Core.Option.{Option, none, some}
use mathlib.Core.List.{[], ◌∷◌}
use native.Mathlib.Omega.{arith}
use borrow.Author.Tests.{eq-eqb, ne_eqb, le-ltb}
use lib.Dec.{eqb, ltb}
use lib.ListN.{length, get_or, take, drop, drop_of_length-le}
use lib.Seq.{take_at, drop_at, drop-drop}
use Rattle.laws.specs.Choice.{map_some, on_some}
use Rattle.std.specs.Prelude.{if◌then◌else◌, Some, None}
use Rattle.laws.proofs.Tests.{Any?, any_some}
use Rattle.laws.proofs.Parts.{at_next, part_next, part_none}
use Rattle.sheet.specs.Text.{Bytes, Parser, is_digit, digits, after_digits, plain, value_of_digits, number_parser, whole, at_end}
use Rattle.sheet.specs.Lines.{a_number}
use Rattle.sheet.proofs.Numbers.{digits_split}
use Rattle.text.specs.Words.{byte_kind}
use Rattle.text.specs.Numbers.{cut_num, leading, DigitsEnd}
use Rattle.text.proofs.WordLaws.{digit_by_kind}

-- ---- the cut

-- digits after a number that was cut
pub cut_digits : (c : ℕ) (s : Bytes) (n : ℕ) → min (value_of_digits (min n c) s) c ≡ min (value_of_digits n s) c
unfolding value_of_digits
cut_digits c [] n = omega arith
cut_digits c (b ∷ s) n =
    sym (cut_digits c s (min n c * 10 + (b - 48)))
    ∙ ap (λ (m : ℕ). min (value_of_digits m s) c) (omega arith)
    ∙ cut_digits c s (n * 10 + (b - 48))

-- ---- where digits end, and what they stand for: the turns of `digits_at`

pub no_digit : {r : ℕ} (b : ℕ) → r ≡ byte_kind b → (r ≡ 7 → ⊥) → is_digit b ≡ false
no_digit b e h = sym (digit_by_kind b) ∙ ne_eqb (byte_kind b) 7 (λ q. h (e ∙ q))

pub a_digit : {r : ℕ} (b : ℕ) → r ≡ byte_kind b → r ≡ 7 → is_digit b ≡ true
a_digit b e h = sym (digit_by_kind b) ∙ eq-eqb (byte_kind b) 7 (sym e ∙ h)

module _ (s : Bytes) (i : ℕ) {x : ℕ} (inv : i + length (digits (drop i s)) ≡ x) where
  pub end_none : length s ≤ i → i ≡ x
  unfolding digits
  end_none h = let e : length (digits (drop i s)) ≡ 0 = rw (drop_of_length-le s h) in omega arith

  pub end_here : i < length s → is_digit (get_or s i 0) ≡ false → i ≡ x
  unfolding digits
  end_here h q = let e : length (digits (drop i s)) ≡ 0 = rw (at_next 0 s i h, q) in omega arith

  pub end_next : i < length s → is_digit (get_or s i 0) ≡ true → (i + 1) + length (digits (drop (i + 1) s)) ≡ x
  unfolding digits
  end_next h q =
      let e : length (digits (drop i s)) ≡ suc (length (digits (drop (i + 1) s))) = rw (at_next 0 s i h, q) in
      omega arith

module _ (s : Bytes) (n i c : ℕ) {x : ℕ} (inv : min (value_of_digits n (digits (drop i s))) c ≡ x) where
  pub value_none : n ≤ c → length s ≤ i → n ≡ x
  unfolding digits value_of_digits
  value_none l h = omega (arith, rw (drop_of_length-le s h) at inv)

  pub value_here : n ≤ c → i < length s → is_digit (get_or s i 0) ≡ false → n ≡ x
  unfolding digits value_of_digits
  value_here l h q = omega (arith, rw (at_next 0 s i h, q) at inv)

  pub value_next : {m d : ℕ} → i < length s → is_digit (get_or s i 0) ≡ true → d ≡ get_or s i 0 - 48 → m ≡ min (n * 10 + d) c → min (value_of_digits m (digits (drop (i + 1) s))) c ≡ x
  unfolding digits value_of_digits
  value_next h q p e = rw (e, p) (cut_digits c (digits (drop (i + 1) s)) (n * 10 + (get_or s i 0 - 48)) ∙ (rw (at_next 0 s i h, q) at inv))

digits_front : (s : Bytes) → take (length (digits s)) s ≡ digits s
digits_front s = ap (take (length (digits s))) (digits_split s) ∙ take_at (digits s) (after_digits s) (length (digits s)) refl

pub digits_rest : (s : Bytes) → after_digits s ≡ drop (length (digits s)) s
digits_rest s = sym (ap (drop (length (digits s))) (digits_split s) ∙ drop_at (digits s) (after_digits s) (length (digits s)) refl)

-- what is read is told by `leading`, and what is left by the digits
pub number_leading : (s : Bytes) → number_parser s ≡ map_some (λ n. (n, after_digits s)) (leading s)
unfolding number_parser leading map_some
number_leading s = go (plain (digits s))
  where
    read : Option (ℕ × Bytes)
    read = some (value_of_digits 0 (digits s), after_digits s)

    go : (t : Bool) → (if t then read else none) ≡ map_some (λ n. (n, after_digits s)) (if t then some (value_of_digits 0 (digits s)) else none)
    go true = refl
    go false = refl

module _ {s : Bytes} {at e : ℕ} (to : DigitsEnd s at e) where
  pub end_from : at ≤ e
  end_from = omega (arith, to.is)

  pub digits_part : take (e - at) (drop at s) ≡ digits (drop at s)
  digits_part = let q : e - at ≡ length (digits (drop at s)) = omega (arith, to.is) in rw q (digits_front (drop at s))

  pub digits_after : after_digits (drop at s) ≡ drop e s
  digits_after = digits_rest (drop at s) ∙ drop-drop (length (digits (drop at s))) at s ∙ ap (λ (k : ℕ). drop k s) (sym to.is)

  -- the number that begins at `at`, and what stands after it
  pub number_from : number_parser (drop at s) ≡ map_some (λ n. (n, drop e s)) (leading (drop at s))
  number_from = rw (← digits_after) (number_leading (drop at s))

-- ---- digits without a leading zero

module _ (s : Bytes) (a e : ℕ) (within : e ≤ length s) where
  pub plain_none : e ≤ a → ltb a e ≡ plain (take (e - a) (drop a s))
  unfolding plain
  plain_none h = rw (part_none s a e h) (le-ltb a e h)

  pub plain_one : a + 1 ≡ e → eqb (a + 1) e ≡ plain (take (e - a) (drop a s))
  unfolding plain
  plain_one h = rw (part_next 0 s a e (omega arith) within, part_none s (a + 1) e (omega arith)) (eq-eqb (a + 1) e h)

  pub plain_more : a < e → (a + 1 ≡ e → ⊥) → not (eqb (get_or s a 0) 48) ≡ plain (take (e - a) (drop a s))
  unfolding plain
  plain_more l h = rw (part_next 0 s a e l within, part_next 0 s (a + 1) e (omega arith) within) refl

-- ---- a number in a field

module _ {s : Bytes} {at e : ℕ} (to : DigitsEnd s at e) {t : Bool} (told : t ≡ plain (take (e - at) (drop at s))) where
  plain_told : plain (digits (drop at s)) ≡ t
  plain_told = sym (rw (digits_part to) at told)

  pub leading_some : t ≡ true → leading (drop at s) ≡ some (value_of_digits 0 (digits (drop at s)))
  unfolding leading
  leading_some h = rw (plain_told, h)

  pub leading_none : t ≡ false → leading (drop at s) ≡ none
  unfolding leading
  leading_none h = rw (plain_told, h)

  pub number_read : {m r : ℕ} → t ≡ true → m ≡ min (value_of_digits 0 (digits (drop at s))) 10000000000 → r ≡ min m 1000000 → Some r ≡ cut_num (leading (drop at s))
  unfolding cut_num
  number_read h p q = rw (leading_some h) (ap Some (omega arith))

  pub number_bad : t ≡ false → None ≡ cut_num (leading (drop at s))
  unfolding cut_num
  number_bad h = rw (leading_none h)

-- the whole of a field is read, or a byte is left
module _ {A : Type 0} (p : Parser A) (s rest : Bytes) (o : Option A) (read : p s ≡ map_some (λ x. (x, rest)) o) where
  pub whole_read : rest ≡ [] → whole p s ≡ o
  unfolding whole on_some map_some at_end
  whole_read h = rw (read, h) (go o)
    where
      go : (o : Option A) → on_some {A = A × Bytes} {B = A} (map_some (λ x. (x, [])) o) (λ x. at_end x.0 x.1) ≡ o
      go none = refl
      go (some x) = refl

  pub whole_left : {b : ℕ} {t : Bytes} → rest ≡ b ∷ t → whole p s ≡ none
  unfolding whole on_some map_some at_end
  whole_left {b} {t} h = rw (read, h) (go o)
    where
      go : (o : Option A) → on_some {A = A × Bytes} {B = A} (map_some (λ x. (x, b ∷ t)) o) (λ x. at_end x.0 x.1) ≡ none
      go none = refl
      go (some x) = refl

module _ {f : Bytes} {e : ℕ} (to : DigitsEnd f 0 e) where
  pub a_number_lem : e ≡ length f → a_number f ≡ leading f
  unfolding a_number
  a_number_lem h = whole_read number_parser f (drop e f) (leading f) (number_from to) (drop_of_length-le f {i = e} (omega arith))

  pub not_a_number : (e ≡ length f → ⊥) → a_number f ≡ none
  unfolding a_number
  not_a_number h = whole_left number_parser f (drop e f) (leading f) (number_from to) (at_next 0 f e (omega (arith, to.within)))

-- ---- what a caller learns of the field by the answer

pub num_bad : (o : Option ℕ) → None ≡ cut_num o → o ≡ none
unfolding cut_num
num_bad none h = refl
num_bad (some n) h = absurd (let z : ◌≡◌ {A = ℕ} 0 1 = cc in omega arith)

pub num_is : {m : ℕ} (o : Option ℕ) → Some m ≡ cut_num o → Any? (λ n. m ≡ min n 1000000) o
unfolding cut_num
num_is none h = absurd (let z : ◌≡◌ {A = ℕ} 0 1 = cc in omega arith)
num_is (some n) h = any_some {x = n} (cc)
