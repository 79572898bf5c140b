-- Laws of types in a text: one for each return. Assumes nothing.
use mathlib.Core.Path.{◌≡◌, refl, sym, ap, ◌∙◌}
use mathlib.Core.Logic.{◌≢◌}
use mathlib.Core.Bool.{Bool, true, false, not, true≢false}
use mathlib.Core.Option.{Option, none, some}
use mathlib.Core.List.{List, [], ◌∷◌}
use Prim.Native.Nat.{ℕ, ◌+◌, ◌-◌, ◌<◌}
use Prim.Native.String.{String}
use native.Mathlib.Omega.{arith}
use borrow.Author.Tests.{eq-eqb, ne_eqb, leb-true, not-false}
use lib.Dec.{eqb, leb}
use lib.ListN.{get_or, length}
use Rattle.laws.specs.Choice.{or_else, on_some, map_some}
use Rattle.std.specs.Prelude.{if◌then◌else◌, Option as Optional, Some, None, Result, Ok}
use Rattle.laws.proofs.Tests.{and-true}
use Rattle.laws.proofs.Cases.{AllBelow, from_below}
use Rattle.laws.proofs.Parts.{part_next}
use Rattle.ocl.specs.Types.{set, sequence, bag, Letter, collection, exactly, Ty, void, around, Any, Boolean, Integer, Real}
use Rattle.sheet.specs.Text.{Bytes, bytes}
use Rattle.sheet.specs.Lines.{is}
use Rattle.sheet.specs.Limits.{type_within}
use Rattle.sheet.specs.Grammar.Tokens.{Tokens}
use Rattle.sheet.specs.Grammar.Words.{named, labelled, class_word, letters, simple_types, type_word}
use Rattle.sheet.specs.Grammar.Parser.{after, type_in}
use Rattle.sheet.proofs.Grammar.Single.{is_exact}
use Rattle.text.specs.Numbers.{cut_num}
use Rattle.types.specs.Flat.{ty_of, letter_of}
use Rattle.types.specs.Reading.{big, is as field, type_field, held, byte_code, code_letter, lettered_field, class_field}
use Rattle.types.specs.declared.FlatType.{FlatType}
use Rattle.types.proofs.TypeFields.{is_field, class_held, letter_held}
use Rattle.tokens.specs.Codes.{codes, or_code, code_of, after_code}
use Rattle.tokens.specs.Meanings.{part, onward, Ahead, NextIs}
use Rattle.tokens.specs.declared.Token.{Token}
use Rattle.tokens.proofs.CodeLaws.{by_code, coded, all_coded, named_told, word_told}
use Rattle.tokens.proofs.WordCodes.{after_close, is_bracket}
use Rattle.phrases.specs.Forms.{is_letter}
use Rattle.phrases.specs.Meanings.{Further, AfterIs, is_bad, TypeAs, type_none, type_one}
use Rattle.phrases.proofs.WordLaws as words
use Rattle.memory.specs.declared.refusals.Misread.{Misread}

-- ---- `is_letter`

letter_no_end : {k : ℕ} → is_letter k ≡ true → k ≢ 65
unfolding is_letter
letter_no_end {k} h e = true≢false (sym h ∙ ap is_letter e)

-- ---- single types by their codes

unfoldable pub simples : List (ℕ × Ty)
simples = (54, void) ∷ (55, Boolean) ∷ (56, Integer) ∷ (57, Real) ∷ (58, Any) ∷ []

simples_told : (w : Bytes) → named simple_types w ≡ by_code simples (code_of w)
unfolding simples coded all_coded simple_types code_of or_code named codes is bytes
simples_told w = named_told simple_types refl w

module _ {s : Bytes} {t : Token} (h : Ahead s t) (n : t.code ≢ 65) where
  -- a base by its row
  pub a_simple : (k : ℕ) (a : Ty) (r : FlatType) → t.code ≡ k → by_code simples k ≡ some a → ty_of r ≡ a → type_within a ≡ true → type_field (Ok r) ≡ held (type_word (part s t.start t.end))
  unfolding type_word or_else
  a_simple k a r c e q w = is_field a r (rw (simples_told (part s t.start t.end), ← words.coded h n, c, e)) q w

  pub a_class : (r : Result FlatType Misread) {m : Optional ℕ} → t.code ≢ 54 → t.code ≢ 55 → t.code ≢ 56 → t.code ≢ 57 → t.code ≢ 58
      → m ≡ cut_num (labelled 35 (part s t.start t.end)) → type_field r ≡ class_field m → type_field r ≡ held (type_word (part s t.start t.end))
  unfolding type_word or_else class_word by_code simples
  a_class r a b c d e p q =
      let x = words.coded h n in
      rw (simples_told (part s t.start t.end), ← x, ne_eqb _ 54 a, ne_eqb _ 55 b, ne_eqb _ 56 c, ne_eqb _ 57 d, ne_eqb _ 58 e)
      (q ∙ ap class_field p ∙ class_held (labelled 35 (part s t.start t.end)))

-- ---- types of one token

unfoldable letter_rows : List (ℕ × Letter)
letter_rows = (59, exactly set) ∷ (60, exactly sequence) ∷ (61, exactly bag) ∷ (62, collection) ∷ []

letters_told : (w : Bytes) → named letters w ≡ by_code letter_rows (code_of w)
unfolding letter_rows coded all_coded letters code_of or_code named codes is bytes
letters_told w = named_told letters refl w

no_letter : (w : Bytes) → is_letter (code_of w) ≡ false → named letters w ≡ none
unfolding by_code letter_rows is_letter
no_letter w h = letters_told w ∙ rw (ne_eqb _ 59 (other 59 refl), ne_eqb _ 60 (other 60 refl), ne_eqb _ 61 (other 61 refl), ne_eqb _ 62 (other 62 refl))
  where
    other : (j : ℕ) → is_letter j ≡ true → code_of w ≢ j
    other j e q = true≢false (sym e ∙ ap is_letter (sym q) ∙ h)

single_told : (w : Bytes) (l : Tokens) → is_letter (code_of w) ≡ false → type_in (w ∷ l) ≡ map_some (λ t. (t, l)) (type_word w)
unfolding type_in or_else map_some on_some
single_told w [] h = refl
single_told w (p ∷ s) h = rw (no_letter w h) (go (type_word w) (is p (bytes "(")))
  where
    go : (o : Option Ty) (b : Bool) → or_else (map_some {B = Ty × Tokens} (λ t. (t, p ∷ s)) o) (if b then none else none) ≡ map_some (λ t. (t, p ∷ s)) o
    go none true = refl
    go none false = refl
    go (some t) b = refl

module _ {s : Bytes} {t : Token} (h : Ahead s t) where
  pub no_type : t.code ≡ 65 → TypeAs s t (type_in (onward s t)) None
  unfolding type_in
  no_type e = type_none (rw (h.none e))

  module _ (l : is_letter t.code ≡ false) (n : t.code ≢ 65) (g : Result FlatType Misread) (e : type_field g ≡ held (type_word (part s t.start t.end))) {b : Bool} (q : b ≡ is_bad (type_field g)) where
    other : is_letter (code_of (part s t.start t.end)) ≡ false
    other = ap is_letter (sym (words.coded h n)) ∙ l

    judged : b ≡ is_bad (held (type_word (part s t.start t.end)))
    judged = q ∙ ap is_bad e

    never_bad : (a : Ty) → is_bad (held (some a)) ≡ false
    unfolding is_bad held
    never_bad a = go (type_within a)
      where
        go : (c : Bool) → is_bad (if c then field a else big) ≡ false
        go true = refl
        go false = refl

    pub bad_type : b ≡ true → TypeAs s t (type_in (onward s t)) None
    unfolding map_some
    bad_type d = type_none (ap type_in (h.one n).1 ∙ single_told _ _ other ∙ ap (map_some (λ a. (a, _))) (go (type_word (part s t.start t.end)) (sym d ∙ judged)))
      where
        go : (o : Option Ty) → true ≡ is_bad (held o) → o ≡ none
        go none p = refl
        go (some a) p = absurd (true≢false (p ∙ never_bad a))

    pub good_type : {u : Token} → b ≡ false → NextIs s t.end u → TypeAs s t (type_in (onward s t)) (Some (g, u))
    unfolding map_some is_bad held
    good_type {u} d m = go (type_word (part s t.start t.end)) refl (sym d ∙ judged)
      where
        go : (o : Option Ty) → type_word (part s t.start t.end) ≡ o → false ≡ is_bad (held o) → TypeAs s t (type_in (onward s t)) (Some (g, u))
        go none p z = absurd (true≢false (sym z))
        go (some a) p z = type_one {u = u} a (ap type_in (words.front h n m) ∙ single_told _ _ other ∙ rw p) (e ∙ ap held p) (words.further h n m)

-- ---- a letter, and a type in brackets

-- a letter's word: its byte tells the letter
data LetterWord (w : Bytes) : Type 0 where
  letter_word : (b : ℕ) (l : Letter) → w ≡ b ∷ [] → named letters w ≡ some l → code_letter (byte_code b) ≡ some l → type_word w ≡ none → LetterWord w

word_of : (x : String) (k : ℕ) → code_of (bytes x) ≡ k → k ≢ 64 → (w : Bytes) → code_of w ≡ k → w ≡ bytes x
word_of x k e n w c = is_exact w (bytes x) (word_told w (bytes x) e n ∙ eq-eqb _ _ c)

letter_words : LetterWord (bytes "S") × LetterWord (bytes "Q") × LetterWord (bytes "B") × LetterWord (bytes "C")
unfolding bytes named letters is byte_code letter_of type_word simple_types class_word labelled or_else map_some
letter_words = (
  letter_word 83 (exactly set) refl refl refl refl,
  letter_word 81 (exactly sequence) refl refl refl refl,
  letter_word 66 (exactly bag) refl refl refl refl,
  letter_word 67 collection refl refl refl refl,
)

a_letter : (w : Bytes) → is_letter (code_of w) ≡ true → LetterWord w
unfolding is_letter AllBelow code_of or_code named codes is bytes
a_letter w h =
    let p = and-true (leb 59 (code_of w)) (leb (code_of w) 62) h in
    let l = leb-true 59 (code_of w) p.0 in
    let m = leb-true (code_of w) 62 p.1 in
    from_below (λ k. code_of w ≡ k → LetterWord w) 59 4 (
      (
        ((tt, (λ c. rw (word_of "S" 59 refl (λ e. omega arith) w c) letter_words.0)), (λ c. rw (word_of "Q" 60 refl (λ e. omega arith) w c) letter_words.1)),
        (λ c. rw (word_of "B" 61 refl (λ e. omega arith) w c) letter_words.2),
      ),
      (λ c. rw (word_of "C" 62 refl (λ e. omega arith) w c) letter_words.3),
    )
    (code_of w) l (omega arith) refl

-- by the letter, and what follows it
unfoldable type_by : Option Letter → Tokens → Option (Ty × Tokens)
type_by a s = on_some (after_code 40 s) (λ r. on_some a (λ l. on_some (type_in r) (λ x. map_some (λ q. (around l x.0, q)) (after_code 41 x.1))))

letter_told : (w : Bytes) (s : Tokens) → type_word w ≡ none → type_in (w ∷ s) ≡ type_by (named letters w) s
unfolding type_in type_by after_code or_else on_some map_some
letter_told w [] e = rw e
letter_told w (p ∷ s) e = rw (e, is_bracket p) (go (eqb (code_of p) 40) (named letters w))
  where
    inner : (l : Letter) (o : Option (Ty × Tokens)) → on_some {B = Ty × Tokens} o (λ x. map_some (λ r. (around l x.0, r)) (after ")" x.1)) ≡ on_some o (λ x. map_some (λ r. (around l x.0, r)) (after_code 41 x.1))
    inner l none = refl
    inner l (some x) = rw (after_close x.1)

    go : (b : Bool) (a : Option Letter) → (if b then on_some {B = Ty × Tokens} a (λ l. on_some (type_in s) (λ x. map_some (λ r. (around l x.0, r)) (after ")" x.1))) else none)
        ≡ on_some {B = Ty × Tokens} (if b then some s else none) (λ r. on_some a (λ l. on_some (type_in r) (λ x. map_some (λ q. (around l x.0, q)) (after_code 41 x.1))))
    go false a = refl
    go true none = refl
    go true (some l) = inner l (type_in s)

-- what an answer says
module _ {s : Bytes} {t : Token} {o : Option (Ty × Tokens)} {r : Optional (Result FlatType Misread × Token)} (h : TypeAs s t o r) where
  pub untyped : r ≡ None → o ≡ none
  untyped d = go (rw d at h)
    where
      go : TypeAs s t o None → o ≡ none
      go (type_none e) = e

  pub typed_further : {g : Result FlatType Misread} {u : Token} → r ≡ Some (g, u) → Further s t u
  typed_further {g} {u} d = go (rw d at h)
    where
      go : TypeAs s t o (Some (g, u)) → Further s t u
      go (type_one a e c f) = f

  pub typed_ahead : {g : Result FlatType Misread} {u : Token} → r ≡ Some (g, u) → Ahead s u
  typed_ahead d = (typed_further d).ahead

module _ {s : Bytes} {t : Token} (h : Ahead s t) {b : Bool} (e : b ≡ is_letter t.code) (d : not b ≡ false) {u : Token} (m : NextIs s t.end u) {q : Optional Token} (g : AfterIs s u 40 q) where
  letter : is_letter t.code ≡ true
  letter = sym e ∙ not-false b d

  no_end : t.code ≢ 65
  no_end = letter_no_end letter

  told : LetterWord (part s t.start t.end)
  told = a_letter (part s t.start t.end) (ap is_letter (sym (words.coded h no_end)) ∙ letter)

  here : type_word (part s t.start t.end) ≡ none → type_in (onward s t) ≡ type_by (named letters (part s t.start t.end)) (onward s u)
  here z = ap type_in (words.front h no_end m) ∙ letter_told _ _ z

  pub letter_alone : q ≡ None → TypeAs s t (type_in (onward s t)) None
  unfolding type_by on_some
  letter_alone x = go told
    where
      go : LetterWord (part s t.start t.end) → TypeAs s t (type_in (onward s t)) None
      go (letter_word c l y p k z) = type_none (here z ∙ rw (words.gone g x))

  pub letter_there : t.start < length s
  letter_there = let o = (h.one no_end).0 in let w = h.within in omega arith

  -- the text falls
  pub member_less : {v : Token} → q ≡ Some v → length s - v.start < length s - t.start
  member_less x =
      let o = (h.one no_end).0 in
      let w = h.within in
      let f = (words.farther (words.further h no_end m) (words.came_further g x)).from in
      omega arith

  module _ {v : Token} (x : q ≡ Some v) {r : Optional (Result FlatType Misread × Token)} (f : TypeAs s v (type_in (onward s v)) r) where
    pub no_member : r ≡ None → TypeAs s t (type_in (onward s t)) None
    unfolding type_by on_some
    no_member y = go told
      where
        go : LetterWord (part s t.start t.end) → TypeAs s t (type_in (onward s t)) None
        go (letter_word c l i p k z) = type_none (here z ∙ rw (words.came g x, p, untyped f y))

    module _ {a : Result FlatType Misread} {w : Token} (y : r ≡ Some (a, w)) {q₂ : Optional Token} (g₂ : AfterIs s w 41 q₂) where
      pub member_unclosed : q₂ ≡ None → TypeAs s t (type_in (onward s t)) None
      unfolding type_by on_some map_some
      member_unclosed i = go told (rw y at f)
        where
          go : LetterWord (part s t.start t.end) → TypeAs s v (type_in (onward s v)) (Some (a, w)) → TypeAs s t (type_in (onward s t)) None
          go (letter_word c l j p k z) (type_one ty e₂ _ _) = type_none (here z ∙ rw (words.came g x, p, e₂, words.gone g₂ i))

      pub member_closed : {n : Token} {res : Result FlatType Misread} → q₂ ≡ Some n → type_field res ≡ lettered_field (byte_code (get_or s t.start 0)) (type_field a) → TypeAs s t (type_in (onward s t)) (Some (res, n))
      unfolding type_by on_some map_some
      member_closed {n} {res} i o = go told (rw y at f)
        where
          first : part s t.start t.end ≡ get_or s t.start 0 ∷ part s (t.start + 1) t.end
          first = part_next 0 s t.start t.end (h.one no_end).0 h.within

          go : LetterWord (part s t.start t.end) → TypeAs s v (type_in (onward s v)) (Some (a, w)) → TypeAs s t (type_in (onward s t)) (Some (res, n))
          go (letter_word c l j p k z) (type_one ty e₂ held_so _) =
              let b₀ : get_or s t.start 0 ≡ c = ap (λ (i : Bytes). get_or i 0 0) (sym first ∙ j) in
              type_one {u = n} (around l ty) (here z ∙ rw (words.came g x, p, e₂, words.came g₂ i))
              (o ∙ rw (b₀, held_so) (sym (letter_held (byte_code c) (some ty)) ∙ rw k))
              (words.farther (words.further h no_end m) (words.farther (words.came_further g x) (words.farther (typed_further f y) (words.came_further g₂ i))))
