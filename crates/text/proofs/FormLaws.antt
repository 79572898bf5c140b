-- Laws of the codes of forms: the words of a field's own length are enough. Assumes nothing.
use Prim.Native.Nat.{ℕ, suc, ◌+◌, ◌-◌, ◌*◌, ◌<◌, ◌≤◌}
use mathlib.Core.Path.{◌≡◌, refl, sym, ap, ◌∙◌}
use mathlib.Core.Bool.{Bool, true, false, true≢false}
use mathlib.Core.Option.{some}
use mathlib.Core.List.{List, [], ◌∷◌}
use native.Mathlib.Nat.{suc-mul}
use native.Mathlib.Omega.{arith}
use borrow.Author.Tests.{eqb-false, ne_eqb}
use lib.Dec.{eqb}
use lib.ListN.{length, get_or, take, drop, drop_of_length-le}
use lib.Seq.{drop-drop}
use Rattle.std.specs.Prelude.{if◌then◌else◌}
use Rattle.laws.specs.Lists.{all_of, member}
use Rattle.laws.proofs.Tests.{and-true}
use Rattle.laws.proofs.Parts.{at_next}
use Rattle.sheet.specs.Text.{Bytes, bytes}
use Rattle.sheet.specs.Lines.{is, Table, named, forms}
use Rattle.text.specs.Words.{code_among, form_codes, coded_words, or_code, form_code}
use Rattle.text.proofs.WordLaws.{other_length}

-- words with their codes, and the code of the first word that w is
abbrev pub Rows : Type 0
Rows = List (Bytes × ℕ)

unfoldable pub code_in : Bytes → Rows → ℕ
code_in w [] = 99
code_in w (x ∷ t) = if is w x.0 then x.1 else code_in w t

-- the rows whose word has n bytes
unfoldable pub of_length : ℕ → Rows → Rows
of_length n [] = []
of_length n (x ∷ t) = if eqb (length x.0) n then x ∷ of_length n t else of_length n t

-- no other row can be meant
pub by_length : (w : Bytes) (t : Rows) → code_in w (of_length (length w) t) ≡ code_in w t
unfolding code_in of_length
by_length w [] = refl
by_length w (x ∷ t) = go (eqb (length x.0) (length w)) (by_length w t) refl
  where
    go : (u : Bool) → code_in w (of_length (length w) t) ≡ code_in w t → u ≡ eqb (length x.0) (length w) → code_in w (if u then x ∷ of_length (length w) t else of_length (length w) t) ≡ code_in w (x ∷ t)
    go true ih e = ap (λ (k : ℕ). if is w x.0 then x.1 else k) ih
    go false ih e = rw (← other_length w x.0 (λ q. eqb-false _ _ (sym e) (sym q))) ih

unfoldable pub rows : Table ℕ → Rows
rows [] = []
rows (x ∷ t) = (bytes x.0, x.1) ∷ rows t

pub named_rows : (t : Table ℕ) (w : Bytes) → code_in w (rows t) ≡ or_code 99 (named t w)
unfolding named or_code code_in rows
named_rows [] w = refl
named_rows (x ∷ t) w = go (is w (bytes x.0)) (named_rows t w)
  where
    go : (b : Bool) → code_in w (rows t) ≡ or_code 99 (named t w) → (if b then x.1 else code_in w (rows t)) ≡ or_code 99 (if b then some x.1 else named t w)
    go true ih = refl
    go false ih = ih

abbrev pub form_rows : Rows
form_rows = rows (coded_words forms form_codes)

forms_code : (w : Bytes) → code_in w form_rows ≡ form_code w
unfolding form_code
forms_code w = named_rows (coded_words forms form_codes) w

-- the rows of words of n bytes with a byte after each
unfoldable pub rows_of : ℕ → Bytes → Bytes → Rows
rows_of n words [] = []
rows_of n words (c ∷ codes) = (take n words, c) ∷ rows_of n (drop (n + 1) words) codes

among_rows : (w words codes : Bytes) → code_among w words codes ≡ code_in w (rows_of (length w) words codes)
unfolding code_among code_in rows_of
among_rows w words [] = refl
among_rows w words (c ∷ codes) = ap (λ (k : ℕ). if is w (take (length w) words) then c else k) (among_rows w (drop (length w + 1) words) codes)

-- the words of the length of w
module _ (w words codes : Bytes) (n : ℕ) where
  pub in_length : (t : Rows) {r : ℕ} → length w ≡ n → of_length n t ≡ rows_of n words codes → r ≡ code_among w words codes → r ≡ code_in w t
  in_length t e q h = h ∙ among_rows w words codes ∙ rw (e, ← q, ← e) (by_length w t)

  pub of_length_lem : {r : ℕ} → length w ≡ n → of_length n form_rows ≡ rows_of n words codes → r ≡ code_among w words codes → r ≡ form_code w
  of_length_lem e q h = in_length form_rows e q h ∙ forms_code w

-- each word's length is one of these
unfoldable pub lengths_in : List ℕ → Rows → Bool
lengths_in ls t = all_of (λ x. member (length x.0) ls) t

none_such : (ls : List ℕ) (n : ℕ) (t : Rows) → lengths_in ls t ≡ true → member n ls ≡ false → of_length n t ≡ []
unfolding lengths_in all_of of_length
none_such ls n [] m h = refl
none_such ls n (x ∷ t) m h =
    let p = and-true (member (length x.0) ls) (lengths_in ls t) m in
    rw (ne_eqb (length x.0) n (λ e. true≢false (sym p.0 ∙ ap (λ (k : ℕ). member k ls) e ∙ h))) (none_such ls n t p.1 h)

-- no word has the length of w
pub other_lengths : (w : Bytes) (ls : List ℕ) (t : Rows) → lengths_in ls t ≡ true → member (length w) ls ≡ false → 99 ≡ code_in w t
unfolding code_in
other_lengths w ls t m h = sym (sym (by_length w t) ∙ ap (code_in w) (none_such ls (length w) t m h))

pub no_length : (w : Bytes) → (length w ≡ 2 → ⊥) → (length w ≡ 3 → ⊥) → (length w ≡ 4 → ⊥) → (length w ≡ 5 → ⊥) → (length w ≡ 6 → ⊥) → (length w ≡ 7 → ⊥) → (length w ≡ 8 → ⊥) → (length w ≡ 9 → ⊥) → (length w ≡ 10 → ⊥) → 99 ≡ form_code w
unfolding lengths_in all_of rows coded_words forms form_codes bytes member
no_length w a b c d e f g h i =
    other_lengths w (2 ∷ 3 ∷ 4 ∷ 5 ∷ 6 ∷ 7 ∷ 8 ∷ 9 ∷ 10 ∷ []) form_rows refl
    (simp (ne_eqb _ _ a, ne_eqb _ _ b, ne_eqb _ _ c, ne_eqb _ _ d, ne_eqb _ _ e, ne_eqb _ _ f, ne_eqb _ _ g, ne_eqb _ _ h, ne_eqb _ _ i))
    ∙ forms_code w

-- the turns of `among`: the words and codes that are left, and room for a word to each code
pub record WordsLeft (w words codes : Bytes) (at k : ℕ) : Type 0 where
  pub room : (length codes - k) * (length w + 1) + at ≤ length words + 1
  pub code : code_among w (drop at words) (drop k codes) ≡ code_among w words codes

rows_left : (c k n : ℕ) → k < c → (c - k) * n ≡ n + (c - (k + 1)) * n
rows_left c k n h = let q : c - k ≡ suc (c - (k + 1)) = omega arith in rw (q, suc-mul (c - (k + 1)) n) (omega arith)

module _ {w words codes : Bytes} {at k : ℕ} (left : WordsLeft w words codes at k) where
  module _ {t : Bool} (told : t ≡ is w (take ((at + length w) - at) (drop at words))) where
    word_here : t ≡ is w (take (length w) (drop at words))
    word_here = let q : (at + length w) - at ≡ length w = omega arith in rw q at told

    pub left_found : k < length codes → t ≡ true → get_or codes k 0 ≡ code_among w words codes
    unfolding code_among
    left_found h e = rw (at_next 0 codes k h, ← word_here, e) at left.code

    pub left_next : k < length codes → t ≡ false → WordsLeft w words codes (at + length w + 1) (k + 1)
    unfolding code_among
    left_next h e = record {
      room = omega (arith, rows_left (length codes) k (length w + 1) h, left.room);
      code =
          let q : at + (length w + 1) ≡ at + length w + 1 = omega arith in
          rw (at_next 0 codes k h, ← word_here, e, drop-drop (length w + 1) at words, q) at left.code;
    }

  pub left_none : length codes ≤ k → 99 ≡ code_among w words codes
  unfolding code_among
  left_none h = rw (drop_of_length-le codes h) at left.code
