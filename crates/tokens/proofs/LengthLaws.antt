-- Laws of the codes by the length of a word: the words of its own length are enough. Assumes nothing.
use mathlib.Core.Path.{◌≡◌, refl, sym, ap, ◌∙◌}
use mathlib.Core.Logic.{◌≢◌}
use mathlib.Core.Bool.{Bool, true, false, not, ◌||◌, true≢false}
use mathlib.Core.Option.{none}
use mathlib.Core.List.{[], ◌∷◌}
use Prim.Native.Nat.{ℕ, ◌<◌, ◌≤◌}
use native.Mathlib.Omega.{arith}
use borrow.Author.Tests.{ne_eqb, le-leb}
use lib.Dec.{eqb}
use lib.ListN.{length, get_or}
use Rattle.laws.specs.Lists.{all_of, member}
use Rattle.laws.proofs.Tests.{and-true}
use Rattle.sheet.specs.Text.{Bytes, bytes, is_digit}
use Rattle.sheet.specs.Lines.{is}
use Rattle.sheet.specs.Grammar.Words.{Table, named}
use Rattle.text.specs.Words.{code_among}
use Rattle.text.proofs.FormLaws.{code_in, of_length, rows, named_rows, rows_of, in_length, by_length, lengths_in, other_lengths}
use Rattle.tokens.specs.Codes.{codes, or_code, code_of}
use Rattle.tokens.proofs.CodeLaws.{other_code}

pub word_length : (w words cs : Bytes) (n : ℕ) {r : ℕ} → length w ≡ n → of_length n (rows codes) ≡ rows_of n words cs → r ≡ code_among w words cs → r ≡ or_code 99 (named codes w)
word_length w words cs n e q h = in_length w words cs n (rows codes) e q h ∙ named_rows codes w

pub no_length : (w : Bytes) → 1 < length w → (length w ≡ 2 → ⊥) → (length w ≡ 3 → ⊥) → (length w ≡ 4 → ⊥) → (length w ≡ 5 → ⊥) → (length w ≡ 6 → ⊥) → (length w ≡ 7 → ⊥) → (length w ≡ 8 → ⊥) → (length w ≡ 9 → ⊥) → (length w ≡ 10 → ⊥) → (length w ≡ 12 → ⊥)
    → 99 ≡ or_code 99 (named codes w)
unfolding lengths_in all_of rows codes bytes member
no_length w l a b c d e f g h i j =
    let z : length w ≢ 1 = λ q. omega arith in
    other_lengths w (1 ∷ 2 ∷ 3 ∷ 4 ∷ 5 ∷ 6 ∷ 7 ∷ 8 ∷ 9 ∷ 10 ∷ 12 ∷ []) (rows codes) refl
    (simp (ne_eqb _ _ z, ne_eqb _ _ a, ne_eqb _ _ b, ne_eqb _ _ c, ne_eqb _ _ d, ne_eqb _ _ e, ne_eqb _ _ f, ne_eqb _ _ g, ne_eqb _ _ h, ne_eqb _ _ i, ne_eqb _ _ j))
    ∙ named_rows codes w

-- ---- a token of one byte

pub byte_other : (b : ℕ) → (b ≡ 61 → ⊥) → (b ≡ 60 → ⊥) → (b ≡ 43 → ⊥) → (b ≡ 45 → ⊥) → (b ≡ 42 → ⊥) → (b ≡ 47 → ⊥) → (b ≡ 40 → ⊥) → (b ≡ 41 → ⊥) → (b ≡ 123 → ⊥) → (b ≡ 125 → ⊥) → (b ≡ 44 → ⊥) → (b ≡ 59 → ⊥) → (b ≡ 58 → ⊥) → (b ≡ 124 → ⊥) → (b ≡ 46 → ⊥) → (b ≡ 83 → ⊥) → (b ≡ 81 → ⊥) → (b ≡ 66 → ⊥) → (b ≡ 67 → ⊥)
    → 64 ≡ code_of (b ∷ [])
unfolding code_in of_length rows codes bytes is
byte_other b a' b' c' d' e' f' g' h' i' j' k' l' m' n' o' p' q' r' s' =
    other_code (b ∷ []) refl (sym (named_rows codes (b ∷ [])) ∙ sym (by_length (b ∷ []) (rows codes)) ∙ simp (ne_eqb _ _ a', ne_eqb _ _ b', ne_eqb _ _ c', ne_eqb _ _ d', ne_eqb _ _ e', ne_eqb _ _ f', ne_eqb _ _ g', ne_eqb _ _ h', ne_eqb _ _ i', ne_eqb _ _ j', ne_eqb _ _ k', ne_eqb _ _ l', ne_eqb _ _ m', ne_eqb _ _ n', ne_eqb _ _ o', ne_eqb _ _ p', ne_eqb _ _ q', ne_eqb _ _ r', ne_eqb _ _ s'))

-- ---- a word that begins with a digit or `#`

unfoldable begins : ℕ → Bool
begins b = is_digit b || eqb b 35

unfoldable begins_so : Bytes → Bool
begins_so [] = true
begins_so (b ∷ s) = begins b

unfoldable none_so : Table ℕ → Bool
none_so t = all_of (λ x. not (begins_so (bytes x.0))) t

other_first : (b : ℕ) (s y : Bytes) → begins b ≡ true → not (begins_so y) ≡ true → is (b ∷ s) y ≡ false
unfolding begins_so is
other_first b s [] e q = absurd (true≢false (sym q))
other_first b s (c ∷ y) e q = rw (ne_eqb b c (λ d. true≢false (sym q ∙ ap (λ (k : ℕ). not (begins k)) (sym d) ∙ ap not e)))

none_begins : (t : Table ℕ) (b : ℕ) (s : Bytes) → none_so t ≡ true → begins b ≡ true → named t (b ∷ s) ≡ none
unfolding none_so all_of named
none_begins [] b s h e = refl
none_begins (x ∷ t) b s h e =
    let p = and-true (not (begins_so (bytes x.0))) (none_so t) h in
    rw (other_first b s (bytes x.0) e p.0) (none_begins t b s p.1 e)

begun : (f : Bytes) → 0 < length f → begins (get_or f 0 0) ≡ true → 64 ≡ code_of f
unfolding code_of or_code none_so all_of codes bytes begins_so begins is_digit
begun [] h e = absurd (omega arith)
begun (b ∷ s) h e = sym (ap (or_code 64) (none_begins codes b s refl e))

pub hash_begins : (f : Bytes) → 0 < length f → get_or f 0 0 ≡ 35 → 64 ≡ code_of f
unfolding begins is_digit
hash_begins f h e = begun f h (rw e)

pub digit_begins : (f : Bytes) → 0 < length f → 48 ≤ get_or f 0 0 → get_or f 0 0 < 58 → 64 ≡ code_of f
unfolding begins is_digit
digit_begins f h p q = begun f h (rw (le-leb 48 (get_or f 0 0) p, le-leb (get_or f 0 0) 57 (omega arith)))
