-- A word that is an expression by itself: by its code, and by its first byte where it has none. Assumes nothing.
use mathlib.Core.Path.{◌≡◌, refl, sym, ap, ◌∙◌}
use mathlib.Core.Logic.{◌≢◌}
use mathlib.Core.Bool.{true, false, ◌||◌, not, true≢false}
use mathlib.Core.Option.{Option, none, some}
use mathlib.Core.List.{[], ◌∷◌}
use Prim.Native.Nat.{ℕ, ◌+◌, ◌<◌, ◌≤◌}
use native.Mathlib.Omega.{arith}
use native.Mathlib.Decide.{ℕ_discrete}
use borrow.Author.Tests.{ne_eqb, leb-true}
use borrow.Author.Tests.{le-leb, lt-leb}
use lib.IntN.{ℤ, pos}
use lib.ListN.{get_or}
use lib.Dec.{leb}
use Rattle.laws.specs.Choice.{or_else, on_some, map_some}
use Rattle.laws.specs.Lists.{member}
use Rattle.laws.proofs.Cases.{AllBelow, all-below}
use Rattle.laws.proofs.Parts.{part_next}
use Rattle.laws.proofs.Tests.{Any?, any_some, and-true}
use Rattle.reals.specs.Reals.{Real, int, real}
use Rattle.ocl.specs.Forms.{Leaf, truth, undef, number, self, var}
use Rattle.sheet.specs.Text.{Bytes, bytes, after, behind, ◌or◌, ◌then◌, mapped, at_end, whole, is_digit, digits, after_digits, plain, number_parser, integer_parser, real_parser}
use Rattle.sheet.specs.Lines.{Shape, leaf, is, a_number, an_integer, a_real, forms}
use Rattle.sheet.specs.Grammar.Words.{named, labelled, constants, variable_word, leaf_word}
use Rattle.sheet.specs.Texts.{is_there}
use Rattle.sheet.proofs.Grammar.Single.{Entries, entry}
use Rattle.text.specs.Numbers.{cut_num}
use Rattle.text.proofs.NumberLaws.{num_bad, num_is}
use Rattle.tokens.specs.Codes.{codes, or_code, code_of, head_code}
use Rattle.tokens.specs.Meanings.{part, onward, Ahead}
use Rattle.tokens.specs.declared.Token.{Token}
use Rattle.tokens.proofs.CodeLaws.{named_told, by_code, coded, all_coded}
use Rattle.shapes.specs.Fields.{cut}
use Rattle.shapes.specs.Forms.{StandsFor, spelled, FormRead}
use Rattle.text.specs.Words.{form_codes}
use Rattle.text.specs.Forms.{with_code, fields_by}
use Rattle.shapes.specs.Built.{count_of, form_with, Whole, Builds}
use Rattle.shapes.specs.declared.Parsed.{Parsed}
use Rattle.importer.specs.Leaves.{leaf_of}
use Rattle.std.specs.Prelude.{Some, None}

pub form_read : {k : ℕ} {x : Shape} {p : Parsed} → Whole p → StandsFor k x p → FormRead k (some x) p
form_read w z = record { is = spelled w.spelled z; few = w.few; size = w.size; low = w.classes }

-- ---- a variable

module _ (o : Option ℕ) where
  pub variable_none : None ≡ cut_num o → map_some (λ i. leaf (var i)) o ≡ none
  unfolding map_some
  variable_none h = rw (num_bad o h)

  pub variable_one : {k n : ℕ} {p : Parsed} → Some n ≡ cut_num o → Builds 5 (n ∷ 0 ∷ 0 ∷ 0 ∷ []) k p → FormRead k (map_some (λ i. leaf (var i)) o) p
  unfolding map_some count_of form_with fields_by with_code forms form_codes
  variable_one {k} {n} {p} h b = go (num_is o h)
    where
      go : {o : Option ℕ} → Any? (λ i. n ≡ cut i) o → FormRead k (map_some (λ i. leaf (var i)) o) p
      go (any_some {x} e) = form_read b.fine (b.is (x ∷ []) (omega arith) refl (rw e))

-- ---- a token's word

module _ (s : Bytes) (t : Token) (h : Ahead s t) (one : t.code ≢ 65) where
  pub leaf_here : leaf_of (onward s t) ≡ leaf_word (part s t.start t.end)
  unfolding leaf_of
  leaf_here = rw (h.one one).1

  pub code_here : t.code ≡ code_of (part s t.start t.end)
  unfolding head_code
  code_here = h.code ∙ ap head_code (h.one one).1

  pub byte_here : part s t.start t.end ≡ get_or s t.start 0 ∷ part s (t.start + 1) t.end
  byte_here = part_next 0 s t.start t.end (h.one one).0 h.within

-- ---- the words of the grammar

-- a word of the grammar that is a leaf is a constant
abbrev Alone : Bytes → ℕ → Type 0
Alone w k = (member k (0 ∷ 1 ∷ 2 ∷ 4 ∷ []) || not (is_there (leaf_word w))) ≡ true

each_alone : Entries Alone codes
unfolding Entries codes member is_there leaf_word named constants or_else map_some on_some is bytes a_number a_real variable_word labelled whole number_parser digits is_digit after_digits plain real_parser behind after ◌then◌ at_end
each_alone = (refl, (refl, (refl, (refl, (refl, (refl, (refl, (refl, (refl, (refl, (refl, (refl, (refl, (refl, (refl, (refl, (refl, (refl, (refl, (refl, (refl, (refl, (refl, (refl, (refl, (refl, (refl, (refl, (refl, (refl, (refl, (refl, (refl, (refl, (refl, (refl, (refl, (refl, (refl, (refl, (refl, (refl, (refl, (refl, (refl, (refl, (refl, (refl, (refl, (refl, (refl, (refl, (refl, (refl, (refl, (refl, (refl, tt)))))))))))))))))))))))))))))))))))))))))))))))))))))))))

module _ (w : Bytes) where
  named_code : {k : ℕ} → code_of w ≡ k → k ≢ 64 → named codes w ≡ some k
  unfolding code_of or_code
  named_code {k} e n = go (named codes w) refl e
    where
      go : (o : Option ℕ) → named codes w ≡ o → or_code 64 o ≡ k → o ≡ some k
      go none q h = absurd (n (sym h))
      go (some j) q h = ap some h

  pub leaf_none : {k : ℕ} → code_of w ≡ k → k ≢ 64 → member k (0 ∷ 1 ∷ 2 ∷ 4 ∷ []) ≡ false → leaf_word w ≡ none
  unfolding is_there
  leaf_none {k} e n m = go (leaf_word w) (rw m at (entry Alone codes each_alone (named_code e n)))
    where
      go : (o : Option Leaf) → not (is_there o) ≡ true → o ≡ none
      go none h = refl
      go (some l) h = absurd (true≢false (sym h))

  by_constants : named constants w ≡ by_code (coded constants) (code_of w)
  unfolding all_coded code_of codes or_code named constants is bytes
  by_constants = named_told constants refl w

  constant : (k : ℕ) (l : Leaf) → code_of w ≡ k → by_code (coded constants) k ≡ some l → leaf_word w ≡ some l
  unfolding leaf_word or_else
  constant k l e b = rw (by_constants, e, b)

  module _ {line : ℕ} {p : Parsed} where
    pub constant_read : (k : ℕ) → k < 3 → code_of w ≡ k → Builds k (0 ∷ 0 ∷ 0 ∷ 0 ∷ []) line p → FormRead line (map_some leaf (leaf_word w)) p
    unfolding map_some count_of form_with fields_by with_code forms form_codes AllBelow by_code coded code_of codes or_code named constants is bytes
    constant_read = all-below (λ k. code_of w ≡ k → Builds k (0 ∷ 0 ∷ 0 ∷ 0 ∷ []) line p → FormRead line (map_some leaf (leaf_word w)) p) 3 (
      (
        (tt, λ e b. rw (constant 0 (truth false) e refl) (form_read b.fine (b.is [] (omega arith) refl refl))),
        λ e b. rw (constant 1 (truth true) e refl) (form_read b.fine (b.is [] (omega arith) refl refl)),
      ),
      λ e b. rw (constant 2 undef e refl) (form_read b.fine (b.is [] (omega arith) refl refl)),
    )

    pub self_read : code_of w ≡ 4 → Builds 4 (0 ∷ 0 ∷ 0 ∷ 0 ∷ []) line p → FormRead line (map_some leaf (leaf_word w)) p
    unfolding map_some count_of form_with fields_by with_code forms form_codes by_code coded code_of codes or_code named constants is bytes
    self_read e b = rw (constant 4 self e refl) (form_read b.fine (b.is [] (omega arith) refl refl))

-- ---- other words, by their first byte

module _ (b : ℕ) (v : Bytes) where
  digit_low : is_digit b ≡ true → 48 ≤ b
  unfolding is_digit
  digit_low e = leb-true 48 b (and-true (leb 48 b) (leb b 57) e).0

  digit_high : is_digit b ≡ true → b ≤ 57
  unfolding is_digit
  digit_high e = leb-true b 57 (and-true (leb 48 b) (leb b 57) e).1

  no_number : is_digit b ≡ false → a_number (b ∷ v) ≡ none
  unfolding a_number whole number_parser digits plain on_some
  no_number e = rw e

  no_real : b ≢ 114 → a_real (b ∷ v) ≡ none
  unfolding a_real whole real_parser behind after bytes on_some
  no_real n = rw (ne_eqb 114 b (λ e. n (sym e)))

  no_variable : b ≢ 118 → variable_word (b ∷ v) ≡ none
  unfolding variable_word labelled
  no_variable n = rw (ne_eqb b 118 n)

  unsigned : b ≢ 45 → an_integer (b ∷ v) ≡ map_some pos (a_number (b ∷ v))
  unfolding an_integer a_number whole integer_parser ◌or◌ behind after bytes mapped or_else on_some map_some at_end
  unsigned n = rw (ne_eqb 45 b (λ e. n (sym e))) (go (number_parser (b ∷ v)))
    where
      ended : (m : ℕ) (r : Bytes) → at_end (pos m) r ≡ map_some pos (at_end m r)
      ended m [] = refl
      ended m (c ∷ r) = refl

      go : (o : Option (ℕ × Bytes)) → on_some {A = ℤ × Bytes} (map_some (λ (x : ℕ × Bytes). (pos x.0, x.1)) o) (λ x. at_end x.0 x.1) ≡ map_some pos (on_some o (λ x. at_end x.0 x.1))
      go none = refl
      go (some x) = ended x.0 x.1

  module _ (other : code_of (b ∷ v) ≡ 64) where
    no_constant : named constants (b ∷ v) ≡ none
    unfolding by_code coded code_of codes or_code named constants is bytes
    no_constant = by_constants (b ∷ v) ∙ rw other

    pub digit_leaf : is_digit b ≡ true → map_some leaf (leaf_word (b ∷ v)) ≡ map_some (λ x. leaf (number x)) (map_some int (an_integer (b ∷ v)))
    unfolding leaf_word or_else map_some
    digit_leaf d = rw (no_constant, no_real (λ e. omega (arith, digit_low d, digit_high d)), no_variable (λ e. omega (arith, digit_low d, digit_high d)), unsigned (λ e. omega (arith, digit_low d))) (go (a_number (b ∷ v)))
      where
        go : (o : Option ℕ) → map_some leaf (or_else (map_some (λ n. number (int (pos n))) o) none) ≡ map_some (λ x. leaf (number x)) (map_some int (map_some pos o))
        go none = refl
        go (some n) = refl

    pub real_leaf : b ≡ 114 → map_some leaf (leaf_word (b ∷ v)) ≡ map_some (λ x. leaf (number x)) (map_some real (a_real (b ∷ v)))
    unfolding leaf_word or_else map_some is_digit
    real_leaf e = rw (no_constant, no_number (rw e), no_variable (λ q. omega arith)) (go (a_real (b ∷ v)))
      where
        go : (o : Option Real) → map_some leaf (or_else (map_some (λ r. number (real r)) o) none) ≡ map_some (λ x. leaf (number x)) (map_some real o)
        go none = refl
        go (some r) = refl

    pub variable_leaf : is_digit b ≡ false → b ≢ 114 → map_some leaf (leaf_word (b ∷ v)) ≡ map_some (λ i. leaf (var i)) (variable_word (b ∷ v))
    unfolding leaf_word or_else map_some
    variable_leaf d n = rw (no_constant, no_number d, no_real n) (go (variable_word (b ∷ v)))
      where
        go : (o : Option ℕ) → map_some leaf (map_some var o) ≡ map_some (λ i. leaf (var i)) o
        go none = refl
        go (some i) = refl

-- ---- digits by their range

a_digit : (b : ℕ) → 48 ≤ b → b ≤ 57 → is_digit b ≡ true
unfolding is_digit
a_digit b l u = rw (le-leb 48 b l, le-leb b 57 u)

pub below_digits : (b : ℕ) → b < 48 → is_digit b ≡ false
unfolding is_digit
below_digits b l = rw (lt-leb 48 b l)

pub above_digits : (b : ℕ) → 48 ≤ b → 57 < b → is_digit b ≡ false
unfolding is_digit
above_digits b l u = rw (le-leb 48 b l, lt-leb b 57 u)

-- ---- what the code answers of a token that is no word of the grammar

module _ {s : Bytes} {t : Token} (h : Ahead s t) (other : t.code ≡ 64) where
  pub coded_one : t.code ≢ 65
  coded_one e = omega arith

  its_code : code_of (get_or s t.start 0 ∷ part s (t.start + 1) t.end) ≡ 64
  its_code = ap code_of (sym (byte_here s t h coded_one)) ∙ sym (code_here s t h coded_one) ∙ other

  at_byte : {k : ℕ} {p : Parsed} (o : Option Shape) → map_some leaf (leaf_word (get_or s t.start 0 ∷ part s (t.start + 1) t.end)) ≡ o → FormRead k o p
      → FormRead k (map_some leaf (leaf_of (onward s t))) p
  at_byte o e f = rw (leaf_here s t h coded_one, byte_here s t h coded_one, e) f

  pub real_read : {k : ℕ} {p : Parsed} → get_or s t.start 0 ≡ 114 → FormRead k (map_some (λ x. leaf (number x)) (map_some real (a_real (part s t.start t.end)))) p
      → FormRead k (map_some leaf (leaf_of (onward s t))) p
  real_read e f = at_byte _ (real_leaf _ _ its_code e) (rw (byte_here s t h coded_one) at f)

  pub digit_read : {k : ℕ} {p : Parsed} → 48 ≤ get_or s t.start 0 → get_or s t.start 0 ≤ 57 → FormRead k (map_some (λ x. leaf (number x)) (map_some int (an_integer (part s t.start t.end)))) p
      → FormRead k (map_some leaf (leaf_of (onward s t))) p
  digit_read l u f = at_byte _ (digit_leaf _ _ its_code (a_digit _ l u)) (rw (byte_here s t h coded_one) at f)

  pub variable_read : {k : ℕ} {p : Parsed} → get_or s t.start 0 ≢ 114 → is_digit (get_or s t.start 0) ≡ false → FormRead k (map_some (λ i. leaf (var i)) (variable_word (part s t.start t.end))) p
      → FormRead k (map_some leaf (leaf_of (onward s t))) p
  variable_read n d f = at_byte _ (variable_leaf _ _ its_code d n) (rw (byte_here s t h coded_one) at f)

-- ---- and of any token

module _ {s : Bytes} {t : Token} (h : Ahead s t) {k : ℕ} {p : Parsed} where
  pub self_leaf : t.code ≡ 4 → Builds 4 (0 ∷ 0 ∷ 0 ∷ 0 ∷ []) k p → FormRead k (map_some leaf (leaf_of (onward s t))) p
  self_leaf e b = let one : t.code ≢ 65 = λ q. omega arith in rw (leaf_here s t h one) (self_read _ (sym (code_here s t h one) ∙ e) b)

  pub constant_leaf : t.code < 3 → Builds t.code (0 ∷ 0 ∷ 0 ∷ 0 ∷ []) k p → FormRead k (map_some leaf (leaf_of (onward s t))) p
  constant_leaf l b = let one : t.code ≢ 65 = λ q. omega arith in rw (leaf_here s t h one) (constant_read _ t.code l (sym (code_here s t h one)) b)

module _ {s : Bytes} {t : Token} (h : Ahead s t) where
  pub no_leaf : 3 ≤ t.code → t.code ≢ 4 → t.code ≢ 64 → leaf_of (onward s t) ≡ none
  unfolding leaf_of member
  no_leaf l a b = go (ℕ_discrete t.code 65)
    where
      go : Dec (t.code ≡ 65) → leaf_of (onward s t) ≡ none
      go (yes e) = rw (h.none e)
      go (no e) =
          leaf_here s t h e ∙ leaf_none _ (sym (code_here s t h e)) b
          (rw (ne_eqb t.code 0 (λ q. omega arith), ne_eqb t.code 1 (λ q. omega arith), ne_eqb t.code 2 (λ q. omega arith), ne_eqb t.code 4 a))
