-- Laws of words and numbers before closing brackets. Assumes nothing.
use Prim.Native.Nat.{ℕ, zero, suc, ◌-◌, ◌<◌, ◌≤◌}
use mathlib.Core.Path.{◌≡◌, refl, sym, ap, ◌∙◌}
use mathlib.Core.Bool.{Bool, true, false, ◌&&◌}
use mathlib.Core.Option.{Option, none, some}
use mathlib.Core.List.{[], ◌∷◌, ◌++◌}
use native.Mathlib.Omega.{arith}
use borrow.Author.Tests.{eqb-true}
use lib.Dec.{eqb}
use Rattle.std.specs.List.{list_all}
use Rattle.std.specs.Cmp.Lexicographic.{pointwise}
use lib.ListN.{length, take, drop, length-append, take-append-drop}
use Rattle.laws.specs.Choice.{on_some, map_some}
use Rattle.std.specs.Prelude.{if◌then◌else◌}
use Rattle.laws.proofs.Tests.{and-true, if_same}
use Rattle.laws.proofs.Parts.{part_all}
use Rattle.sheet.specs.Text.{Bytes, is_digit, digits, after_digits, number_parser, whole, after}
use Rattle.sheet.proofs.Numbers.{digits_split}
use Rattle.text.specs.Numbers.{leading}
use Rattle.text.proofs.NumberLaws.{digits_rest, number_leading, whole_read, whole_left}
use Rattle.types.specs.Reading.{closes, closed, spells, number_before}

-- ---- closing brackets

pub closes_length : (d : ℕ) (s : Bytes) → closes d s ≡ true → length s ≡ d
unfolding closes
closes_length zero [] e = refl
closes_length zero (b ∷ s) e = absurd (let k : ◌≡◌ {A = ℕ} 0 1 = cc in omega arith)
closes_length (suc d) [] e = absurd (let k : ◌≡◌ {A = ℕ} 0 1 = cc in omega arith)
closes_length (suc d) (b ∷ s) e = ap suc (closes_length d s (and-true (eqb b 41) (closes d s) e).1)

pub closes_off : (d : ℕ) (s : Bytes) → (length s ≡ d → ⊥) → closes d s ≡ false
closes_off d s h = go (closes d s) refl
  where
    go : (t : Bool) → closes d s ≡ t → closes d s ≡ false
    go true e = absurd (h (closes_length d s e))
    go false e = e

pub closes_all : (d : ℕ) (s : Bytes) → length s ≡ d → list_all (λ b. eqb b 41) s ≡ closes d s
unfolding closes
closes_all zero [] e = refl
closes_all zero (b ∷ s) e = absurd (omega arith)
closes_all (suc d) [] e = absurd (omega arith)
closes_all (suc d) (b ∷ s) e = ap (λ (t : Bool). eqb b 41 && t) (closes_all d s (omega arith))

-- ---- a word, then closing brackets

-- what `spells` answers by the word and by what follows it
spells_at : (w : Bytes) (d : ℕ) (s : Bytes) → spells w d s ≡ pointwise eqb w (take (length w) s) && closes d (drop (length w) s)
unfolding spells
spells_at [] d s = refl
spells_at (p ∷ w) d [] = refl
spells_at (p ∷ w) d (b ∷ s) = go (eqb p b) (spells_at w d s)
  where
    go : (t : Bool) → spells w d s ≡ pointwise eqb w (take (length w) s) && closes d (drop (length w) s) → t && spells w d s ≡ (t && pointwise eqb w (take (length w) s)) && closes d (drop (length w) s)
    go true e = e
    go false e = refl

module _ (w : Bytes) (d : ℕ) (s : Bytes) where
  pub spells_off : false ≡ pointwise eqb w (take (length w) s) → false ≡ spells w d s
  spells_off e = sym (spells_at w d s ∙ rw (← e))

  pub spells_on : true ≡ pointwise eqb w (take (length w) s) → closes d (take (length s - length w) (drop (length w) s)) ≡ spells w d s
  spells_on e = ap (closes d) (part_all s (length w)) ∙ sym (spells_at w d s ∙ rw (← e))

-- what a word's literal reads, before closing brackets
pub literal_closed : {A : Type 0} (x : A) (w : Bytes) (d : ℕ) (s : Bytes) → on_some (map_some (λ (r : Bytes). (x, r)) (after w s)) (closed d) ≡ (if spells w d s then some x else none)
unfolding on_some map_some after closed spells
literal_closed x [] d s = refl
literal_closed x (p ∷ w) d [] = refl
literal_closed {A} x (p ∷ w) d (b ∷ s) = go (eqb p b) (literal_closed x w d s)
  where
    go : (t : Bool) → on_some (map_some (λ (r : Bytes). (x, r)) (after w s)) (closed d) ≡ (if spells w d s then some x else none)
        → on_some (map_some (λ (r : Bytes). (x, r)) (if t then after w s else none)) (closed d) ≡ (if t && spells w d s then some x else none)
    go true e = e
    go false e = refl

-- ---- a number, then closing brackets

rest_le : (s : Bytes) → length (after_digits s) ≤ length s
rest_le s = omega (arith, ap length (digits_split s), length-append (digits s) (after_digits s))

rest-is : (s : Bytes) → after_digits s ≡ drop (length s - length (after_digits s)) s
rest-is s =
    let q : length s - length (after_digits s) ≡ length (digits s) = omega (arith, ap length (digits_split s), length-append (digits s) (after_digits s)) in
    rw q (digits_rest s)

number_by : (d : ℕ) (s : Bytes) → number_before d s ≡ (if closes d (after_digits s) then leading s else none)
unfolding number_before on_some map_some closed
number_by d s = rw (number_leading s) (go (leading s))
  where
    go : (o : Option ℕ) → on_some {A = ℕ × Bytes} (map_some (λ n. (n, after_digits s)) o) (closed d) ≡ (if closes d (after_digits s) then o else none)
    go none = sym (if_same (closes d (after_digits s)) none)
    go (some n) = refl

no_number : (d : ℕ) (s : Bytes) → closes d (after_digits s) ≡ false → number_before d s ≡ none
no_number d s e = number_by d s ∙ rw e

pub number_short : (d : ℕ) (s : Bytes) → length s < d → number_before d s ≡ none
number_short d s h = no_number d s (closes_off d (after_digits s) (λ e. omega (arith, rest_le s)))

pub number_off : (d : ℕ) (s : Bytes) → closes d (drop (length s - d) s) ≡ false → number_before d s ≡ none
number_off d s h = no_number d s (go (closes d (after_digits s)) refl)
  where
    go : (t : Bool) → closes d (after_digits s) ≡ t → closes d (after_digits s) ≡ false
    go false e = e
    go true e =
        let q : after_digits s ≡ drop (length s - d) s = rest-is s ∙ ap (λ (k : ℕ). drop (length s - k) s) (closes_length d _ e) in
        ap (closes d) q ∙ h

-- brackets are no digits
bracket_digits : (d : ℕ) (q : Bytes) → closes d q ≡ true → (digits q ≡ []) × (after_digits q ≡ q)
unfolding closes digits after_digits is_digit
bracket_digits d [] e = (refl, refl)
bracket_digits zero (b ∷ q) e = absurd (let k : ◌≡◌ {A = ℕ} 0 1 = cc in omega arith)
bracket_digits (suc d) (b ∷ q) e = let z : b ≡ 41 = eqb-true b 41 (and-true (eqb b 41) (closes d q) e).0 in rw z (refl, refl)

module _ (d : ℕ) (q : Bytes) (e : closes d q ≡ true) where
  digits_before : (p : Bytes) → digits (p ++ q) ≡ digits p
  unfolding digits
  digits_before [] = (bracket_digits d q e).0
  digits_before (b ∷ p) = ap (λ (l : Bytes). if is_digit b then b ∷ l else []) (digits_before p)

  rest_before : (p : Bytes) → after_digits (p ++ q) ≡ after_digits p ++ q
  unfolding after_digits
  rest_before [] = (bracket_digits d q e).1
  rest_before (b ∷ p) = go (is_digit b) (rest_before p)
    where
      go : (t : Bool) → after_digits (p ++ q) ≡ after_digits p ++ q → (if t then after_digits (p ++ q) else b ∷ p ++ q) ≡ (if t then after_digits p else b ∷ p) ++ q
      go true ih = ih
      go false ih = refl

  leading_before : (p : Bytes) → leading (p ++ q) ≡ leading p
  unfolding leading
  leading_before p = rw (digits_before p)

  number_whole : (p : Bytes) → number_before d (p ++ q) ≡ whole number_parser p
  number_whole p = number_by d (p ++ q) ∙ rw (rest_before p, leading_before p) (go (after_digits p) refl)
    where
      go : (r : Bytes) → after_digits p ≡ r → (if closes d (r ++ q) then leading p else none) ≡ whole number_parser p
      go [] z = rw e (sym (whole_read number_parser p (after_digits p) (leading p) (number_leading p) z))
      go (b ∷ r) z = rw (closes_off d (b ∷ r ++ q) (λ n. omega (arith, closes_length d q e, length-append r q))) (sym (whole_left number_parser p (after_digits p) (leading p) (number_leading p) z))

pub number_closed : (d e : ℕ) (s : Bytes) → closes d (drop e s) ≡ true → number_before d s ≡ whole number_parser (take e s)
number_closed d e s h = ap (number_before d) (sym (take-append-drop e s)) ∙ number_whole d (drop e s) h (take e s)
