-- Laws of tables of forms by their codes: a code's row is there exactly where the code is of a kind, which is computed for every code.
-- Assumes nothing.
use mathlib.Core.Path.{◌≡◌, refl, sym, ap, ◌∙◌}
use mathlib.Core.Logic.{◌≢◌}
use mathlib.Core.Bool.{Bool, true, not, ◌&&◌, true≢false}
use mathlib.Core.Option.{Option, none, some}
use mathlib.Core.List.{List}
use Prim.Native.Nat.{ℕ}
use borrow.Author.Tests.{eq-eqb, eqb-true, not-true}
use lib.Dec.{eqb}
use Rattle.laws.proofs.Tests.{and-true}
use Rattle.sheet.specs.Text.{Bytes}
use Rattle.sheet.specs.Grammar.Trees.{One, Two}
use Rattle.tokens.specs.Codes.{code_of}
use Rattle.tokens.proofs.CodeLaws.{by_code, all_to, every_code}
use Rattle.phrases.specs.Forms.{one_words, two_words}

-- a row or none, at the code k
unfoldable pub fits : {A : Type 0} → (ℕ → ℕ) → (A → ℕ → Bool) → ℕ → ℕ → Option A → Bool
fits kind good j k none = not (eqb (kind k) j)
fits kind good j k (some a) = eqb (kind k) j && good a k

pub data Row {A : Type 0} (t : List (ℕ × A)) (good : A → ℕ → Bool) (k : ℕ) : Type 0 where
  row : (a : A) → by_code t k ≡ some a → good a k ≡ true → Row t good k

module _ {A : Type 0} (t : List (ℕ × A)) (kind : ℕ → ℕ) (good : A → ℕ → Bool) (j : ℕ) (h : all_to (λ k. fits kind good j k (by_code t k)) 65 ≡ true) (w : Bytes) where
  here : fits kind good j (code_of w) (by_code t (code_of w)) ≡ true
  here = every_code (λ k. fits kind good j k (by_code t k)) h w

  pub off_row : kind (code_of w) ≢ j → by_code t (code_of w) ≡ none
  unfolding fits
  off_row n = go (by_code t (code_of w)) here
    where
      go : (o : Option A) → fits kind good j (code_of w) o ≡ true → o ≡ none
      go none e = refl
      go (some a) e = absurd (n (eqb-true _ _ (and-true (eqb (kind (code_of w)) j) (good a (code_of w)) e).0))

  pub on_row : kind (code_of w) ≡ j → Row t good (code_of w)
  unfolding fits
  on_row q = go (by_code t (code_of w)) refl here
    where
      go : (o : Option A) → by_code t (code_of w) ≡ o → fits kind good j (code_of w) o ≡ true → Row t good (code_of w)
      go none p e = absurd (true≢false (sym (eq-eqb _ _ q) ∙ not-true _ e))
      go (some a) p e = row a p (and-true (eqb (kind (code_of w)) j) (good a (code_of w)) e).1

-- a form that has the code, and holds nothing
unfoldable pub alone : ℕ × ℕ → ℕ → Bool
alone x k = eqb x.0 k && eqb x.1 0

pub is_alone : (x : ℕ × ℕ) (k : ℕ) → alone x k ≡ true → x ≡ (k, 0)
unfolding alone
is_alone x k e =
    let p = and-true (eqb x.0 k) (eqb x.1 0) e in
    ap (λ (i : ℕ). (i, x.1)) (eqb-true _ _ p.0) ∙ ap (λ (i : ℕ). (k, i)) (eqb-true _ _ p.1)

unfoldable pub one_alone : One → ℕ → Bool
one_alone f k = alone (one_words f) k

unfoldable pub two_alone : Two → ℕ → Bool
two_alone f k = alone (two_words f) k
