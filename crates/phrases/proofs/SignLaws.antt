-- Laws of the two-sided signs, by their codes. Assumes nothing.
use mathlib.Core.Path.{◌≡◌, refl, sym, ap, ◌∙◌}
use mathlib.Core.Logic.{◌≢◌}
use mathlib.Core.Bool.{Bool, true, false}
use mathlib.Core.List.{List, [], ◌∷◌}
use Prim.Native.Nat.{ℕ, zero, suc, ◌<◌}
use native.Mathlib.Omega.{arith}
use borrow.Author.Tests.{eqb-true, eqb-false}
use lib.Dec.{eqb}
use Rattle.laws.specs.Choice.{map_some}
use Rattle.ocl.specs.Forms.{plus, minus, times, div, modulo, and, or, equal, less, arith as number, divide, over}
use Rattle.sheet.specs.Text.{Bytes, bytes}
use Rattle.sheet.specs.Lines.{is}
use Rattle.sheet.specs.Grammar.Trees.{Two, binary, connective}
use Rattle.sheet.specs.Grammar.Words.{named, disjunctions, conjunctions, comparisons, sums, products}
use Rattle.sheet.specs.Grammar.Parser.{taking, signs, sign_of}
use Rattle.nodes.specs.Nodes.{binary_code, arith_code, division_code, connective_code}
use Rattle.tokens.specs.Codes.{codes, or_code, code_of}
use Rattle.tokens.specs.Meanings.{part, onward, Ahead, NextIs}
use Rattle.tokens.specs.declared.Token.{Token}
use Rattle.tokens.proofs.CodeLaws.{by_code, coded, all_coded, named_told, all_to}
use Rattle.phrases.specs.Forms.{two_words, level_of, sign_level}
use Rattle.phrases.specs.Meanings.{SignAs, sign_none, sign_one}
use Rattle.phrases.proofs.WordLaws as words
use Rattle.phrases.proofs.RowLaws.{fits, Row, row, off_row, on_row, alone, is_alone, two_alone}
use Rattle.std.specs.Prelude.{Some, None}

-- ---- the signs of a level by their codes

unfoldable rows : ℕ → List (ℕ × Two)
rows zero = (24, connective or) ∷ []
rows (suc zero) = (23, connective and) ∷ []
rows (suc (suc zero)) = (13, binary equal) ∷ (14, binary less) ∷ []
rows (suc (suc (suc zero))) = (15, binary (number plus)) ∷ (16, binary (number minus)) ∷ []
rows (suc (suc (suc (suc n)))) = (17, binary (number times)) ∷ (18, binary (divide div)) ∷ (19, binary (divide modulo)) ∷ (37, binary over) ∷ []

rows_told : (n : ℕ) → n < 5 → (w : Bytes) → named (signs (level_of n)) w ≡ by_code (rows n) (code_of w)
unfolding level_of signs rows coded all_coded disjunctions conjunctions comparisons sums products code_of or_code named codes is bytes
rows_told zero l w = named_told disjunctions refl w
rows_told (suc zero) l w = named_told conjunctions refl w
rows_told (suc (suc zero)) l w = named_told comparisons refl w
rows_told (suc (suc (suc zero))) l w = named_told sums refl w
rows_told (suc (suc (suc (suc zero)))) l w = named_told products refl w
rows_told (suc (suc (suc (suc (suc n))))) l w = absurd (omega arith)

all_fit : (n : ℕ) → n < 5 → all_to (λ k. fits sign_level two_alone n k (by_code (rows n) k)) 65 ≡ true
unfolding all_to fits two_alone alone by_code rows sign_level two_words binary_code arith_code division_code connective_code
all_fit zero h = refl
all_fit (suc zero) h = refl
all_fit (suc (suc zero)) h = refl
all_fit (suc (suc (suc zero))) h = refl
all_fit (suc (suc (suc (suc zero)))) h = refl
all_fit (suc (suc (suc (suc (suc n))))) h = absurd (omega arith)

-- ---- the returns of `sign`

no_end : (n : ℕ) → n < 5 → sign_level 65 ≢ n
unfolding sign_level
no_end n h e = omega arith

module _ {s : Bytes} {t : Token} {n : ℕ} (h : Ahead s t) (l : n < 5) {r : ℕ} (e : r ≡ sign_level t.code) where
  level : t.code ≢ 65 → sign_level (code_of (part s t.start t.end)) ≡ r
  level z = ap sign_level (sym (words.coded h z)) ∙ sym e

  pub other_sign : r ≢ n → SignAs s t (sign_of (level_of n) (onward s t)) None
  unfolding sign_of taking map_some
  other_sign d = go (eqb t.code 65) refl
    where
      go : (b : Bool) → eqb t.code 65 ≡ b → SignAs s t (sign_of (level_of n) (onward s t)) None
      go true q = sign_none (rw (h.none (eqb-true _ _ q)))
      go false q =
          let z : t.code ≢ 65 = eqb-false _ _ q in
          let w = part s t.start t.end in
          sign_none (rw ((h.one z).1, rows_told n l w, off_row (rows n) sign_level two_alone n (all_fit n l) w (λ x. d (sym (level z) ∙ x))))

  pub this_sign : {u : Token} → r ≡ n → NextIs s t.end u → SignAs s t (sign_of (level_of n) (onward s t)) (Some (t.code, u))
  unfolding sign_of taking map_some two_alone
  this_sign {u} d m = go (on_row (rows n) sign_level two_alone n (all_fit n l) (part s t.start t.end) (level z ∙ d))
    where
      z : t.code ≢ 65
      z = λ x. no_end n l (ap sign_level (sym x) ∙ sym e ∙ d)

      go : Row (rows n) two_alone (code_of (part s t.start t.end)) → SignAs s t (sign_of (level_of n) (onward s t)) (Some (t.code, u))
      go (row f p g) =
          sign_one {k = t.code} {u = u} f (rw (words.front h z m, rows_told n l (part s t.start t.end), p))
          (is_alone (two_words f) t.code (rw (words.coded h z) g)) (words.further h z m)
