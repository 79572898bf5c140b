-- A form's code tells its fields: what `shape_of` reads after a word is what `shape_by` reads after the word's code. Assumes
-- nothing.
use Prim.Native.Nat.{ℕ, ◌<◌, ◌≤◌}
use mathlib.Core.Path.{◌≡◌, refl, ap}
use mathlib.Core.Bool.{Bool, true, false, not, ◌&&◌}
use mathlib.Core.Option.{Option, none, some}
use mathlib.Core.List.{List, [], ◌∷◌}
use native.Mathlib.Omega.{arith}
use borrow.Author.Tests.{eq-eqb, ne_eqb, ltb-true, not-true}
use lib.Dec.{eqb, ltb}
use lib.ListN.{length}
use Rattle.laws.specs.Choice.{on_some}
use Rattle.std.specs.Prelude.{if◌then◌else◌}
use Rattle.laws.specs.Lists.{all_of}
use Rattle.laws.proofs.Cases.{AllBelow, from_below}
use Rattle.laws.proofs.Tests.{and-true}
use Rattle.reals.specs.Reals.{int, real}
use Rattle.ocl.specs.Forms.{number}
use Rattle.sheet.specs.Text.{Bytes, bytes}
use Rattle.sheet.specs.Lines.{leaf, is, Table, named, next, done, an_integer, a_real, FormFields, read_fields, iterate_fields, assemble_fields, forms, shape_of}
use Rattle.text.specs.Words.{form_codes, coded_words, or_code, form_code}
use Rattle.text.specs.Forms.{with_code, fields_by, shape_by}

-- c is neither one of the codes nor the code of no word
unfoldable fresh : ℕ → List ℕ → Bool
fresh c [] = not (eqb 99 c)
fresh c (d ∷ cs) = not (eqb d c) && fresh c cs

-- no code twice
unfoldable apart : List ℕ → Bool
apart [] = true
apart (c ∷ cs) = fresh c cs && apart cs

fresh_none : (c : ℕ) (cs : List ℕ) → fresh c cs ≡ true → eqb 99 c ≡ false
unfolding fresh
fresh_none c [] h = not-true (eqb 99 c) h
fresh_none c (d ∷ cs) h = fresh_none c cs (and-true (not (eqb d c)) (fresh c cs) h).1

module _ {A : Type 0} where
  fresh_code : (t : Table A) (c : ℕ) (cs : List ℕ) (w : Bytes) → fresh c cs ≡ true → eqb (or_code 99 (named (coded_words t cs) w)) c ≡ false
  unfolding fresh or_code named coded_words
  fresh_code [] c cs w h = fresh_none c cs h
  fresh_code (x ∷ t) c [] w h = fresh_none c [] h
  fresh_code (x ∷ t) c (d ∷ cs) w h = let p = and-true (not (eqb d c)) (fresh c cs) h in go (is w (bytes x.0)) (not-true (eqb d c) p.0) (fresh_code t c cs w p.1)
    where
      go : (b : Bool) → eqb d c ≡ false → eqb (or_code 99 (named (coded_words t cs) w)) c ≡ false → eqb (or_code 99 (if b then some d else named (coded_words t cs) w)) c ≡ false
      go true e ih = e
      go false e ih = ih

  -- where no code comes twice, the code of a word leads where the word leads
  by_code : (t : Table A) (cs : List ℕ) (w : Bytes) → length t ≡ length cs → apart cs ≡ true → named t w ≡ with_code t cs (or_code 99 (named (coded_words t cs) w))
  unfolding named with_code coded_words or_code apart
  by_code [] cs w l h = refl
  by_code (x ∷ t) [] w l h = absurd (omega arith)
  by_code (x ∷ t) (c ∷ cs) w l h =
      let p = and-true (fresh c cs) (apart cs) h in
      go (is w (bytes x.0)) (fresh_code t c cs w p.0) (by_code t cs w (omega arith) p.1)
    where
      go : (b : Bool) → eqb (or_code 99 (named (coded_words t cs) w)) c ≡ false → named t w ≡ with_code t cs (or_code 99 (named (coded_words t cs) w))
          → (if b then some x.1 else named t w) ≡ with_code (x ∷ t) (c ∷ cs) (or_code 99 (if b then some c else named (coded_words t cs) w))
      go true e ih = rw (eq-eqb c c refl)
      go false e ih = rw e ih

  -- a number over all codes is none
  over_codes : (t : Table A) (cs : List ℕ) (n k : ℕ) → all_of (λ c. ltb c n) cs ≡ true → n ≤ k → with_code t cs k ≡ none
  unfolding with_code all_of
  over_codes [] cs n k h l = refl
  over_codes (x ∷ t) [] n k h l = refl
  over_codes (x ∷ t) (c ∷ cs) n k h l =
      let p = and-true (ltb c n) (all_of (λ c. ltb c n) cs) h in
      rw (ne_eqb k c (λ e. omega (arith, ltb-true c n p.0))) (over_codes t cs n k p.1 l)

pub over_forms : (k : ℕ) → 39 ≤ k → fields_by k ≡ none
unfolding fields_by form_codes all_of
over_forms k l = over_codes forms form_codes 39 k refl l

-- codes between others that are none
pub between_forms : (k : ℕ) → 28 ≤ k → k < 30 → fields_by k ≡ none
unfolding fields_by with_code forms form_codes AllBelow
between_forms k l h = from_below (λ k. fields_by k ≡ none) 28 2 ((tt, refl), refl) k l h

pub no_shape : (k : ℕ) (fs : List Bytes) → fields_by k ≡ none → shape_by k fs ≡ none
unfolding shape_by on_some
no_shape k fs e = rw e

-- the forms whose fields are not numbers alone
module _ (fs : List Bytes) where
  pub integer_shape : shape_by 3 fs ≡ next an_integer (λ z. done (leaf (number (int z)))) fs
  unfolding shape_by fields_by with_code forms form_codes read_fields on_some
  integer_shape = refl

  pub real_shape : shape_by 38 fs ≡ next a_real (λ r. done (leaf (number (real r)))) fs
  unfolding shape_by fields_by with_code forms form_codes read_fields on_some
  real_shape = refl

  pub assemble_shape : shape_by 27 fs ≡ assemble_fields fs
  unfolding shape_by fields_by with_code forms form_codes read_fields on_some
  assemble_shape = refl

  pub iterate_shape : shape_by 35 fs ≡ iterate_fields fs
  unfolding shape_by fields_by with_code forms form_codes read_fields on_some
  iterate_shape = refl

pub shape_code : (w : Bytes) (fs : List Bytes) → shape_of w fs ≡ shape_by (form_code w) fs
unfolding shape_of shape_by fields_by form_code forms form_codes fresh apart
shape_code w fs = ap (λ (o : Option FormFields). on_some o (λ fields. read_fields fields fs)) (by_code forms form_codes w refl refl)
