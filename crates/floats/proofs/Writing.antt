-- A Real's spelling, written from its last digit to its first. Assumes nothing.
use mathlib.Core.Path.{◌≡◌, refl, sym, ap, ◌∙◌, subst}
use mathlib.Core.List.{List, [], ◌∷◌, ◌++◌, append-nil}
use Prim.Native.Nat.{ℕ, zero, suc, ◌+◌, ◌-◌, ◌/◌, ◌%◌, ◌≤◌, ◌<◌}
use native.Mathlib.Omega.{arith}
use native.Mathlib.Numerals.{add-one}
use lib.Dec.{T}
use lib.ListN.{length, set, take, drop, replicate, length-set}
use lib.Seq.{append_snoc, take-set-le, drop-set-lt, get_or-set_same}
use lib.Bits.{bit_and, and_mask, mask_lt}
use lib.Ieee.{Float, binary64, to_bits}
use Rattle.laws.proofs.Parts.{at_next}
use Rattle.reals.specs.Reals.{Real, is_binary64}
use Rattle.reals.specs.Digits.{hex_byte, hex_digits}
use Rattle.reals.specs.Spelling.{spell_real}
use Rattle.reals.specs.Floats.{f64_of}
use Rattle.reals.proofs.Bits.{bits_of_float}
use Rattle.floats.specs.Meanings.{Spells}

-- the digits of `rest` that are still to be written, and those that stand from k on, are the digits of b
pub record Behind (b : ℕ) (text : List ℕ) (rest k : ℕ) : Type 0 where
  pub letter : take 1 text ≡ 114 ∷ []
  pub digits : hex_digits (k - 1) rest ++ drop k text ≡ hex_digits 16 b
  pub long : length text ≡ 17
  pub least : 1 ≤ k
  pub most : k ≤ 17

pub none_yet : (b : ℕ) → Behind b (replicate 17 114) b 17
none_yet b = record { letter = refl; digits = append-nil (hex_digits 16 b); long = refl; least = omega arith; most = omega arith }

pub low_digit : (n : ℕ) → bit_and n 15 < 16
low_digit n = mask_lt n 4

-- the text with v in the place of the last digit
front : (text : List ℕ) (j v : ℕ) → j < length text → drop j (set text j v) ≡ v ∷ drop (suc j) text
front text j v h =
    at_next 0 (set text j v) j (let l = length-set text j v in omega (arith, l, h))
    ∙ ap (λ x. x ∷ drop (j + 1) (set text j v)) (get_or-set_same text j v 0 h)
    ∙ ap (λ l. v ∷ l) (drop-set-lt (j + 1) text j v (omega arith) ∙ ap (λ i. drop i text) (add-one j))

one_digit : {b : ℕ} {text : List ℕ} {rest : ℕ} (j : ℕ) {v : ℕ} → Behind b text rest (suc (suc j)) → v ≡ hex_byte (bit_and rest 15) → Behind b (set text (suc j) v) (rest / 16) (suc j)
unfolding hex_digits
one_digit {b} {text} {rest} j {v} s e =
    let l = s.long in
    let m = s.most in
    let w : v ≡ hex_byte (rest % 16) = e ∙ ap hex_byte (and_mask rest 4) in
    let y : suc j - 1 ≡ j = omega arith in
    let z : suc j ≡ suc (suc j) - 1 = omega arith in
    record {
      letter = take-set-le 1 text (suc j) v (omega arith) ∙ s.letter;
      digits = ap (λ i. hex_digits i (rest / 16) ++ drop (suc j) (set text (suc j) v)) y
          ∙ ap (λ r. hex_digits j (rest / 16) ++ r) (front text (suc j) v (omega (arith, l, m)) ∙ ap (λ x. x ∷ drop (suc (suc j)) text) w)
          ∙ sym (append_snoc (hex_digits j (rest / 16)) (hex_byte (rest % 16)) (drop (suc (suc j)) text))
          ∙ ap (λ i. hex_digits i rest ++ drop (suc (suc j)) text) z
          ∙ s.digits;
      long = length-set text (suc j) v ∙ l;
      least = omega arith;
      most = omega (arith, m);
    }

pub one_more : {b : ℕ} {text : List ℕ} {rest : ℕ} (k : ℕ) {v : ℕ} → Behind b text rest k → 1 < k → v ≡ hex_byte (bit_and rest 15) → Behind b (set text (k - 1) v) (rest / 16) (k - 1)
one_more zero s p e = absurd (omega (arith, p))
one_more (suc zero) s p e = absurd (omega (arith, p))
one_more {b} {text} {rest} (suc (suc j)) {v} s p e =
    let z : suc j ≡ suc (suc j) - 1 = omega arith in
    subst (λ i. Behind b (set text i v) (rest / 16) i) z (one_digit j s e)

whole_text : (text : List ℕ) → take 1 text ≡ 114 ∷ [] → text ≡ 114 ∷ drop 1 text
whole_text [] e = absurd (let h = ap length e in omega (arith, h))
whole_text (c ∷ cs) e = ap (λ x. x ++ cs) e

digits_all : (l d : List ℕ) (rest k : ℕ) → k ≤ 1 → 1 ≤ k → hex_digits (k - 1) rest ++ drop k l ≡ d → drop 1 l ≡ d
unfolding hex_digits
digits_all l d rest zero h p e = absurd (omega (arith, p))
digits_all l d rest (suc zero) h p e = e
digits_all l d rest (suc (suc k)) h p e = absurd (omega (arith, h))

pub all_written : {x : Float} {text : List ℕ} {rest k : ℕ} → Behind (to_bits binary64 x) text rest k → k ≤ 1 → Spells x text
unfolding spell_real
all_written {x} {text} {rest} {k} s h = record { is = at }
  where
    at : (y : Real) → T (is_binary64 y) → x ≡ f64_of y → text ≡ spell_real y
    at y p q = whole_text text s.letter ∙ ap (λ l. 114 ∷ l) (digits_all text _ rest k h s.least s.digits ∙ ap (hex_digits 16) (ap (to_bits binary64) q ∙ bits_of_float y p))
