-- Laws of the kinds of bytes, and of words. Assumes nothing.
use Prim.Native.Nat.{ℕ, suc, ◌+◌, ◌<◌, ◌≤◌}
use mathlib.Core.Path.{◌≡◌, refl, sym, ap, ◌∙◌}
use mathlib.Core.Bool.{Bool, true, false, not, ◌&&◌, true≢false}
use mathlib.Core.List.{List, [], ◌∷◌}
use native.Mathlib.Omega.{arith}
use borrow.Author.Tests.{eq-eqb, ne_eqb, eqb-true, lt-leb, le-leb}
use lib.Dec.{eqb, leb}
use lib.Pointwise.{pointwise}
use lib.ListN.{length, get_or, drop, drop_of_length-le}
use Rattle.std.specs.Prelude.{if◌then◌else◌}
use Rattle.laws.specs.Lists.{all_of}
use Rattle.laws.proofs.Parts.{at_next}
use Rattle.sheet.specs.Text.{Bytes, bytes, is_digit}
use Rattle.sheet.specs.Lines.{is}
use Rattle.text.specs.Words.{byte_kind, only_byte}

-- ---- kinds of bytes

pub digit_is : (b : ℕ) → 48 ≤ b → b < 58 → is_digit b ≡ true
unfolding is_digit
digit_is b p q = simp (le-leb _ _ p, le-leb b 57 (omega arith))

pub below_digits : (b : ℕ) → b < 48 → is_digit b ≡ false
unfolding is_digit
below_digits b p = simp (lt-leb _ _ p)

pub above_digits : (b : ℕ) → 57 < b → is_digit b ≡ false
unfolding is_digit
above_digits b p = go (leb 48 b) (lt-leb _ _ p)
  where
    go : (t : Bool) → leb b 57 ≡ false → (t && leb b 57) ≡ false
    go true q = q
    go false q = refl

pub kind_digit : (b : ℕ) → is_digit b ≡ true → 7 ≡ byte_kind b
unfolding byte_kind
kind_digit b h = rw h

pub kind_other : (b : ℕ) → is_digit b ≡ false → (b ≡ 67 → ⊥) → (b ≡ 65 → ⊥) → (b ≡ 79 → ⊥) → (b ≡ 86 → ⊥) → (b ≡ 82 → ⊥) → (b ≡ 78 → ⊥) → (b ≡ 68 → ⊥) → (b ≡ 88 → ⊥) → 0 ≡ byte_kind b
unfolding byte_kind
kind_other b h c a o v r n d x = simp (h, ne_eqb _ _ c, ne_eqb _ _ a, ne_eqb _ _ o, ne_eqb _ _ v, ne_eqb _ _ r, ne_eqb _ _ n, ne_eqb _ _ d, ne_eqb _ _ x)

-- the kind is told by the first test that holds
unfoldable first_held : List (Bool × ℕ) → ℕ
first_held [] = 0
first_held (x ∷ t) = if x.0 then x.1 else first_held t

unfoldable kinds : ℕ → List (Bool × ℕ)
kinds b =
    (is_digit b, 7) ∷ (eqb b 67, 1) ∷ (eqb b 65, 2) ∷ (eqb b 79, 3) ∷ (eqb b 86, 4) ∷ (eqb b 82, 5) ∷ (eqb b 78, 6) ∷ (eqb b 68, 8) ∷ (eqb b 88, 9) ∷ []

kinds_held : (b : ℕ) → byte_kind b ≡ first_held (kinds b)
unfolding byte_kind first_held kinds
kinds_held b = refl

-- no test of the kind k holds
unfoldable without : ℕ → List (Bool × ℕ) → Bool
without k t = all_of (λ x. not (eqb x.1 k && x.0)) t

none_held : (k : ℕ) (t : List (Bool × ℕ)) → without k t ≡ true → eqb 0 k ≡ false → eqb (first_held t) k ≡ false
unfolding first_held without all_of
none_held k [] h z = z
none_held k (x ∷ t) h z = go x.0 (eqb x.1 k) refl (λ q. none_held k t q z) h
  where
    go : (a e : Bool) → e ≡ eqb x.1 k → (without k t ≡ true → eqb (first_held t) k ≡ false) → (not (e && a) && without k t) ≡ true → eqb (if a then x.1 else first_held t) k ≡ false
    go true true q ih h = absurd (true≢false (sym h))
    go true false q ih h = sym q
    go false true q ih h = ih h
    go false false q ih h = ih h

-- the kind tells a digit
pub digit_by_kind : (b : ℕ) → eqb (byte_kind b) 7 ≡ is_digit b
unfolding byte_kind kinds without all_of
digit_by_kind b = go (is_digit b) refl
  where
    go : (t : Bool) → t ≡ is_digit b → eqb (byte_kind b) 7 ≡ t
    go true e = rw (← e)
    go false e = rw (kinds_held b) (none_held 7 (kinds b) (rw (← e)) refl)

-- the kind k tells the letter c
letter_by_kind : (c k : ℕ) → eqb (byte_kind c) k ≡ true → ((b : ℕ) → eqb b c ≡ false → without k (kinds b) ≡ true) → eqb 0 k ≡ false → (b : ℕ) → eqb (byte_kind b) k ≡ eqb b c
letter_by_kind c k here other z b = go (eqb b c) refl
  where
    go : (t : Bool) → t ≡ eqb b c → eqb (byte_kind b) k ≡ t
    go true e = rw (eqb-true b c (sym e)) here
    go false e = rw (kinds_held b) (none_held k (kinds b) (other b (sym e)) z)

-- ---- words

-- a word of one byte is told by the letter
pub is_letter : (f : Bytes) (c : ℕ) → 0 < c → is f (c ∷ []) ≡ eqb (only_byte f) c
unfolding is only_byte
is_letter [] c h = sym (ne_eqb 0 c (λ e. omega arith))
is_letter (b ∷ []) c h = go (eqb b c)
  where
    go : (t : Bool) → (t && true) ≡ t
    go true = refl
    go false = refl
is_letter (b ∷ d ∷ s) c h = go (eqb b c) ∙ sym (ne_eqb 0 c (λ e. omega arith))
  where
    go : (t : Bool) → (t && false) ≡ false
    go true = refl
    go false = refl

pub letter_one : (f : Bytes) → length f ≡ 1 → get_or f 0 0 ≡ only_byte f
unfolding only_byte
letter_one [] h = absurd (omega arith)
letter_one (b ∷ []) h = refl
letter_one (b ∷ c ∷ s) h = absurd (omega arith)

pub letter_none : (f : Bytes) → (length f ≡ 1 → ⊥) → 0 ≡ only_byte f
unfolding only_byte
letter_none [] h = refl
letter_none (b ∷ []) h = absurd (h refl)
letter_none (b ∷ c ∷ s) h = refl

pub other_length : (f w : Bytes) → (length f ≡ length w → ⊥) → false ≡ is f w
unfolding is
other_length [] [] h = absurd (h refl)
other_length [] (c ∷ t) h = refl
other_length (b ∷ s) [] h = refl
other_length (b ∷ s) (c ∷ t) h = go (eqb b c) (other_length s t (λ e. h (ap suc e)))
  where
    go : (u : Bool) → false ≡ is s t → false ≡ (u && is s t)
    go true q = q
    go false q = refl

-- what `==` of two slices says
pub same_bytes : (f w : Bytes) → pointwise eqb f w ≡ is f w
unfolding is
same_bytes [] [] = refl
same_bytes [] (c ∷ t) = refl
same_bytes (b ∷ s) [] = refl
same_bytes (b ∷ s) (c ∷ t) = ap (λ u. eqb b c && u) (same_bytes s t)

-- the turns of `same`
module _ (f w : Bytes) (i : ℕ) (long : length f ≡ length w) (inv : is (drop i f) (drop i w) ≡ is f w) where
  pub same_end : length f ≤ i → true ≡ is f w
  unfolding is
  same_end h = rw (drop_of_length-le f h, drop_of_length-le w {i = i} (omega arith)) at inv

  pub same_not : i < length f → (get_or f i 0 ≡ get_or w i 0 → ⊥) → false ≡ is f w
  unfolding is
  same_not h q = rw (at_next 0 f i h, at_next 0 w i (omega arith), ne_eqb _ _ q) at inv

  pub same_next : i < length f → get_or f i 0 ≡ get_or w i 0 → is (drop (i + 1) f) (drop (i + 1) w) ≡ is f w
  unfolding is
  same_next h q = rw (at_next 0 f i h, at_next 0 w i (omega arith), eq-eqb _ _ q) at inv

-- ---- a line's letter by its kind

module _ (f : Bytes) where
  pub is_class_line : is f (bytes "C") ≡ eqb (byte_kind (only_byte f)) 1
  unfolding bytes byte_kind is_digit kinds without all_of
  is_class_line = is_letter f 67 (omega arith) ∙ sym (letter_by_kind 67 1 refl (λ b e. rw e) refl (only_byte f))

  pub is_row_line : is f (bytes "A") ≡ eqb (byte_kind (only_byte f)) 2
  unfolding bytes byte_kind is_digit kinds without all_of
  is_row_line = is_letter f 65 (omega arith) ∙ sym (letter_by_kind 65 2 refl (λ b e. rw e) refl (only_byte f))

  pub is_object_line : is f (bytes "O") ≡ eqb (byte_kind (only_byte f)) 3
  unfolding bytes byte_kind is_digit kinds without all_of
  is_object_line = is_letter f 79 (omega arith) ∙ sym (letter_by_kind 79 3 refl (λ b e. rw e) refl (only_byte f))

  pub is_value_line : is f (bytes "V") ≡ eqb (byte_kind (only_byte f)) 4
  unfolding bytes byte_kind is_digit kinds without all_of
  is_value_line = is_letter f 86 (omega arith) ∙ sym (letter_by_kind 86 4 refl (λ b e. rw e) refl (only_byte f))

  pub is_rule_line : is f (bytes "R") ≡ eqb (byte_kind (only_byte f)) 5
  unfolding bytes byte_kind is_digit kinds without all_of
  is_rule_line = is_letter f 82 (omega arith) ∙ sym (letter_by_kind 82 5 refl (λ b e. rw e) refl (only_byte f))

  pub is_node_line : is f (bytes "N") ≡ eqb (byte_kind (only_byte f)) 6
  unfolding bytes byte_kind is_digit kinds without all_of
  is_node_line = is_letter f 78 (omega arith) ∙ sym (letter_by_kind 78 6 refl (λ b e. rw e) refl (only_byte f))

  pub is_definition_line : is f (bytes "D") ≡ eqb (byte_kind (only_byte f)) 8
  unfolding bytes byte_kind is_digit kinds without all_of
  is_definition_line = is_letter f 68 (omega arith) ∙ sym (letter_by_kind 68 8 refl (λ b e. rw e) refl (only_byte f))

  pub is_text_line : is f (bytes "X") ≡ eqb (byte_kind (only_byte f)) 9
  unfolding bytes byte_kind is_digit kinds without all_of
  is_text_line = is_letter f 88 (omega arith) ∙ sym (letter_by_kind 88 9 refl (λ b e. rw e) refl (only_byte f))
