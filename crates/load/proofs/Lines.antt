-- A line byte by byte is the number that the line is. Assumes nothing.
use Prim.Native.Nat.{ℕ, suc, ◌+◌, ◌-◌, ◌*◌, ◌<◌, min}
use mathlib.Core.Path.{◌≡◌, refl, sym, ap, ◌∙◌}
use mathlib.Core.Bool.{Bool, true, false, ◌&&◌, true≢false}
use mathlib.Core.Option.{none, some}
use mathlib.Core.List.{[], ◌∷◌, ◌++◌}
use native.Mathlib.Omega.{arith}
use borrow.Author.Tests.{eqb-true, eqb-false, eq-eqb, ne_eqb}
use lib.Dec.{eqb}
use lib.ListN.{length, length-append}
use Rattle.std.specs.Prelude.{None, Some, Result, Ok, Err}
use Rattle.std.specs.Prelude.{if◌then◌else◌}
use Rattle.laws.specs.Lists.{all_of}
use Rattle.sheet.specs.Text.{Bytes, is_digit, digits, after_digits, plain, value_of_digits}
use Rattle.sheet.specs.Lines.{a_number}
use Rattle.sheet.proofs.Numbers.{digits_split, digit_from}
use Rattle.text.specs.Words.{byte_kind}
use Rattle.text.specs.Numbers.{leading, DigitsEnd}
use Rattle.text.proofs.NumberLaws.{cut_digits, a_digit, no_digit, a_number_lem, not_a_number}
use Rattle.load.specs.Reader.{Line, first_byte, with_digit, with_byte, line_from, line_of, is_empty, cut_of}
use Rattle.load.specs.declared.refusal.Refusal.{Refusal}
use Rattle.load.specs.declared.refusal.Refusal.TheVariants.{Misspelt}

pub line_append : (s t : Bytes) (l : Line) → line_from l (s ++ t) ≡ line_from (line_from l s) t
unfolding line_from
line_append [] t l = refl
line_append (b ∷ s) t l = line_append s t (with_byte l b)

pub line_more : (l s : Bytes) → line_from (line_of l) s ≡ line_of (l ++ s)
unfolding line_of
line_more l s = sym (line_append l s (Ok None))

-- ---- only the line without a byte is empty

begun : (s : Bytes) (l : Line) → is_empty l ≡ false → is_empty (line_from l s) ≡ false
unfolding line_from with_digit
begun [] l h = h
begun (b ∷ s) (Ok None) h = absurd (true≢false h)
begun (b ∷ s) (Ok (Some n)) h = begun s (if eqb n 0 then Err Misspelt else if is_digit b then Ok (Some (min n 1000000 * 10 + (b - 48))) else Err Misspelt) (go (eqb n 0) (is_digit b))
  where
    go : (z t : Bool) → is_empty (if z then Err Misspelt else if t then Ok (Some (min n 1000000 * 10 + (b - 48))) else Err Misspelt) ≡ false
    go true t = refl
    go false true = refl
    go false false = refl
begun (b ∷ s) (Err e) h = begun s (Err e) refl

first_begun : (b : ℕ) → is_empty (first_byte b) ≡ false
unfolding first_byte
first_begun b = go (is_digit b)
  where
    go : (t : Bool) → is_empty (if t then Ok (Some (b - 48)) else Err Misspelt) ≡ false
    go true = refl
    go false = refl

pub empty_line : (l : Bytes) → is_empty (line_of l) ≡ true → l ≡ []
unfolding line_of line_from
empty_line [] h = refl
empty_line (b ∷ s) h = absurd (true≢false (sym h ∙ begun s (first_byte b) (first_begun b)))

-- ---- the number

abbrev pub ok_number : ℕ → Result ℕ Refusal
ok_number n = Ok n

abbrev pub num_of : Line → Result ℕ Refusal
num_of (Ok None) = Err Misspelt
num_of (Ok (Some n)) = Ok (min n 1000000)
num_of (Err e) = Err e

all_digits : (s : Bytes) → all_of is_digit s ≡ true → digits s ≡ s
unfolding all_of digits
all_digits [] h = refl
all_digits (b ∷ s) h = go (is_digit b) (all_digits s) h
  where
    go : (t : Bool) → (all_of is_digit s ≡ true → digits s ≡ s) → (t && all_of is_digit s) ≡ true → (if t then b ∷ digits s else []) ≡ b ∷ s
    go true rest h = ap (λ (r : Bytes). b ∷ r) (rest h)
    go false rest h = absurd (true≢false (sym h))

some_other : (s : Bytes) → all_of is_digit s ≡ false → length (digits s) < length s
unfolding all_of digits
some_other [] h = absurd (true≢false h)
some_other (b ∷ s) h = go (is_digit b) (some_other s) h
  where
    go : (t : Bool) → (all_of is_digit s ≡ false → length (digits s) < length s) → (t && all_of is_digit s) ≡ false → length (if t then b ∷ digits s else []) < suc (length s)
    go true rest h = omega (arith, rest h)
    go false rest h = omega arith

digits_here : (s : Bytes) → DigitsEnd s 0 (length (digits s))
digits_here s = record { is = omega arith; within = omega (arith, length-append (digits s) (after_digits s), ap length (digits_split s)) }

number_all : (s : Bytes) → all_of is_digit s ≡ true → a_number s ≡ (if plain s then some (value_of_digits 0 s) else none)
unfolding leading
number_all s h = a_number_lem (digits_here s) (ap length (all_digits s h)) ∙ rw (all_digits s h)

number_none : (s : Bytes) → all_of is_digit s ≡ false → a_number s ≡ none
number_none s h = not_a_number (digits_here s) (λ e. omega (arith, some_other s h))

bad_line : (s : Bytes) → line_from (Err Misspelt) s ≡ Err Misspelt
unfolding line_from
bad_line [] = refl
bad_line (b ∷ s) = bad_line s

-- a number that is not 0 takes digits
more_digits : (s : Bytes) (n : ℕ) → (n ≡ 0 → ⊥) → all_of is_digit s ≡ true → num_of (line_from (Ok (Some n)) s) ≡ Ok (min (value_of_digits n s) 1000000)
unfolding line_from with_digit value_of_digits all_of
more_digits [] n z h = refl
more_digits (b ∷ s) n z h = rw (ne_eqb n 0 z) (go (is_digit b) (more_digits s (min n 1000000 * 10 + (b - 48)) (λ e. omega arith)) h)
  where
    go : (t : Bool) → (all_of is_digit s ≡ true → num_of (line_from (Ok (Some (min n 1000000 * 10 + (b - 48)))) s) ≡ Ok (min (value_of_digits (min n 1000000 * 10 + (b - 48)) s) 1000000)) → (t && all_of is_digit s) ≡ true → num_of (line_from (if t then Ok (Some (min n 1000000 * 10 + (b - 48))) else Err Misspelt) s) ≡ Ok (min (value_of_digits (n * 10 + (b - 48)) s) 1000000)
    go true rest h =
        rest h
        ∙ ap ok_number (sym (cut_digits 1000000 s (min n 1000000 * 10 + (b - 48))) ∙ ap (λ (m : ℕ). min (value_of_digits m s) 1000000) (omega arith) ∙ cut_digits 1000000 s (n * 10 + (b - 48)))
    go false rest h = absurd (true≢false (sym h))

other_byte : (s : Bytes) (n : ℕ) → all_of is_digit s ≡ false → line_from (Ok (Some n)) s ≡ Err Misspelt
unfolding line_from with_digit all_of
other_byte [] n h = absurd (true≢false h)
other_byte (b ∷ s) n h = go (eqb n 0) (is_digit b) (other_byte s (min n 1000000 * 10 + (b - 48))) h
  where
    go : (z t : Bool) → (all_of is_digit s ≡ false → line_from (Ok (Some (min n 1000000 * 10 + (b - 48)))) s ≡ Err Misspelt) → (t && all_of is_digit s) ≡ false → line_from (if z then Err Misspelt else if t then Ok (Some (min n 1000000 * 10 + (b - 48))) else Err Misspelt) s ≡ Err Misspelt
    go true t rest h = bad_line s
    go false true rest h = rest h
    go false false rest h = bad_line s

-- the line as it is read says what the line is
zero_more : (b : ℕ) (s : Bytes) → cut_of (a_number (48 ∷ b ∷ s)) ≡ Err Misspelt
unfolding plain
zero_more b s = go (all_of is_digit (48 ∷ b ∷ s)) refl
  where
    go : (t : Bool) → all_of is_digit (48 ∷ b ∷ s) ≡ t → cut_of (a_number (48 ∷ b ∷ s)) ≡ Err Misspelt
    go true h = rw (number_all (48 ∷ b ∷ s) h)
    go false h = rw (number_none (48 ∷ b ∷ s) h)

after_zero : (s : Bytes) → cut_of (a_number (48 ∷ s)) ≡ num_of (line_from (Ok (Some 0)) s)
unfolding line_from with_digit plain value_of_digits all_of is_digit
after_zero [] = rw (number_all (48 ∷ []) refl)
after_zero (b ∷ s) = zero_more b s ∙ rw (bad_line s)

plain_digits : (b : ℕ) (s : Bytes) → (b ≡ 48 → ⊥) → plain (b ∷ s) ≡ true
unfolding plain
plain_digits b [] h = refl
plain_digits b (c ∷ s) h = rw (ne_eqb b 48 h)

after_digit : (b : ℕ) (s : Bytes) → is_digit b ≡ true → 48 < b → cut_of (a_number (b ∷ s)) ≡ num_of (line_from (Ok (Some (b - 48))) s)
unfolding all_of value_of_digits
after_digit b s d z = go (all_of is_digit s) refl
  where
    go : (t : Bool) → all_of is_digit s ≡ t → cut_of (a_number (b ∷ s)) ≡ num_of (line_from (Ok (Some (b - 48))) s)
    go true h =
        rw (number_all (b ∷ s) (rw d h), plain_digits b s (λ e. omega arith), more_digits s (b - 48) (λ e. omega arith) h)
        (ap (λ (n : ℕ). ok_number (min (value_of_digits n s) 1000000)) (omega arith))
    go false h = rw (number_none (b ∷ s) (rw d h), other_byte s (b - 48) h)

pub line_number : (l : Bytes) → cut_of (a_number l) ≡ num_of (line_of l)
unfolding line_of line_from first_byte all_of plain
line_number [] = rw (number_all [] refl)
line_number (b ∷ s) = go (is_digit b) refl (eqb b 48) refl
  where
    go : (t : Bool) → is_digit b ≡ t → (u : Bool) → eqb b 48 ≡ u → cut_of (a_number (b ∷ s)) ≡ num_of (line_from (if t then Ok (Some (b - 48)) else Err Misspelt) s)
    go true d true z = rw (eqb-true b 48 z) (after_zero s)
    go true d false z = after_digit b s d (omega (arith, digit_from b (rw d tt), eqb-false b 48 z))
    go false d u z = rw (number_none (b ∷ s) (rw d), bad_line s)

-- ---- what the code tells

module _ {r : ℕ} (b : ℕ) (kind : r ≡ byte_kind b) where
  pub first_bad : (r ≡ 7 → ⊥) → Err Misspelt ≡ first_byte b
  unfolding first_byte
  first_bad h = rw (no_digit b kind h)

  pub first_digit : {d : ℕ} → r ≡ 7 → d ≡ b - 48 → Ok (Some d) ≡ first_byte b
  unfolding first_byte
  first_digit h e = rw (a_digit b kind h, e)

  pub digit_bad : (n : ℕ) → (n ≡ 0 → ⊥) → (r ≡ 7 → ⊥) → Err Misspelt ≡ with_digit n b
  unfolding with_digit
  digit_bad n z h = rw (ne_eqb n 0 z, no_digit b kind h)

  pub digit_more : {m d : ℕ} (n : ℕ) → (n ≡ 0 → ⊥) → r ≡ 7 → m ≡ min n 1000000 → d ≡ b - 48 → Ok (Some (m * 10 + d)) ≡ with_digit n b
  unfolding with_digit
  digit_more n z h e f = rw (ne_eqb n 0 z, a_digit b kind h, e, f)

pub digit_after_zero : (n b : ℕ) → n ≡ 0 → Err Misspelt ≡ with_digit n b
unfolding with_digit
digit_after_zero n b z = rw (eq-eqb n 0 z)

-- what `value` answers, by what the line is
pub line_value : {r : Result ℕ Refusal} {line : Line} → r ≡ num_of line → (l : Bytes) → line ≡ line_of l → r ≡ cut_of (a_number l)
line_value e l is = e ∙ ap num_of is ∙ sym (line_number l)
