-- The fields of a form that holds nothing but numbers, by its code. Assumes nothing.
use mathlib.Core.Path.{◌≡◌, refl, sym, ap, ◌∙◌}
use mathlib.Core.Bool.{Bool, true, false, not, ◌&&◌, true≢false}
use mathlib.Core.Option.{Option, none, some}
use mathlib.Core.List.{List}
use Prim.Native.Nat.{ℕ, zero, suc, ◌+◌, ◌<◌, ◌≤◌}
use native.Mathlib.Omega.{arith}
use native.Mathlib.Decide.{dec_lt}
use borrow.Author.Tests.{eqb-true, eqb-false, not-true, not-false}
use lib.Dec.{eqb}
use lib.ListN.{get_or}
use Rattle.laws.specs.Choice.{on_some, map_some}
use Rattle.laws.proofs.Tests.{and-true}
use Rattle.sheet.specs.Text.{Bytes}
use Rattle.sheet.specs.Lines.{Shape, FormFields, no_field, one_number, two_numbers, three_numbers, other_fields, read_fields, forms}
use Rattle.text.specs.Words.{form_codes}
use Rattle.text.specs.Forms.{with_code, fields_by, shape_by}
use Rattle.text.proofs.ShapeLaws.{over_forms}
use Rattle.shapes.specs.declared.Parsed.{Parsed}
use Rattle.shapes.specs.declared.numbers.Numbers.{Numbers}
use Rattle.shapes.specs.Fields.{exact, Read, unread, read, NumbersRead}
use Rattle.shapes.specs.Forms.{Spelled, spelled, FormRead}
use Rattle.shapes.specs.Built.{count_of, form_with, numbers_of, shape_in, Whole, Builds}
use Rattle.shapes.proofs.ExactLaws.{chain, chain_exact, exact_length}

-- ---- how many numbers there are

pub one_of_none : 0 ≡ numbers_of 4
unfolding count_of fields_by with_code forms form_codes
one_of_none = refl

pub one_of_one : 1 ≡ numbers_of 30
unfolding count_of fields_by with_code forms form_codes
one_of_one = refl

pub integer_none : numbers_of 3 ≡ 9
unfolding count_of fields_by with_code forms form_codes
integer_none = refl

pub iterate_none : numbers_of 35 ≡ 9
unfolding count_of fields_by with_code forms form_codes
iterate_none = refl

real_none : numbers_of 38 ≡ 9
unfolding count_of fields_by with_code forms form_codes
real_none = refl

-- each of n codes from k on has m
unfoldable have_all : ℕ → ℕ → ℕ → Bool
have_all m k zero = true
have_all m k (suc n) = eqb m (numbers_of k) && have_all m (suc k) n

in_range : (m a n k : ℕ) → have_all m a n ≡ true → a ≤ k → k < a + n → m ≡ numbers_of k
unfolding have_all
in_range m a zero k h l u = absurd (omega arith)
in_range m a (suc n) k h l u = let p = and-true (eqb m (numbers_of a)) (have_all m (suc a) n) h in go (eqb k a) refl p.0 (in_range m (suc a) n k p.1)
  where
    go : (b : Bool) → eqb k a ≡ b → eqb m (numbers_of a) ≡ true → (suc a ≤ k → k < suc a + n → m ≡ numbers_of k) → m ≡ numbers_of k
    go true e q ih = rw (eqb-true k a e) (eqb-true m (numbers_of a) q)
    go false e q ih = let d = eqb-false k a e in ih (omega arith) (omega arith)

module _ (k : ℕ) where
  pub over_none : 37 < k → numbers_of k ≡ 9
  unfolding count_of
  over_none h = go (dec_lt k 39)
    where
      go : Dec (k < 39) → numbers_of k ≡ 9
      go (yes l) = let e : k ≡ 38 = omega arith in rw e real_none
      go (no l) = rw (over_forms k (omega arith))

  pub gap_none : 27 ≤ k → k < 30 → numbers_of k ≡ 9
  unfolding have_all count_of fields_by with_code forms form_codes
  gap_none l h = sym (in_range 9 27 3 k refl l h)

  pub of_none : k < 3 → 0 ≡ numbers_of k
  unfolding have_all count_of fields_by with_code forms form_codes
  of_none h = in_range 0 0 3 k refl (omega arith) h

  pub of_one : 5 ≤ k → k < 12 → 1 ≡ numbers_of k
  unfolding have_all count_of fields_by with_code forms form_codes
  of_one l h = in_range 1 5 7 k refl l h

  pub of_two : 12 ≤ k → k < 25 → 2 ≡ numbers_of k
  unfolding have_all count_of fields_by with_code forms form_codes
  of_two l h = in_range 2 12 13 k refl l h

  pub of_quantifier : 25 ≤ k → k < 27 → 3 ≡ numbers_of k
  unfolding have_all count_of fields_by with_code forms form_codes
  of_quantifier l h = in_range 3 25 2 k refl l h

  pub of_three : 31 ≤ k → k < 33 → 3 ≡ numbers_of k
  unfolding have_all count_of fields_by with_code forms form_codes
  of_three l h = in_range 3 31 2 k refl l h

  pub of_access : 33 ≤ k → k < 35 → 2 ≡ numbers_of k
  unfolding have_all count_of fields_by with_code forms form_codes
  of_access l h = in_range 2 33 2 k refl l h

  pub of_last : 36 ≤ k → k < 38 → 2 ≡ numbers_of k
  unfolding have_all count_of fields_by with_code forms form_codes
  of_last l h = in_range 2 36 2 k refl l h

-- a form of another code is not built from numbers
pub not_built : {code line : ℕ} {at : List ℕ} {p : Parsed} → numbers_of code ≡ 9 → Whole p → Builds code at line p
not_built e w = record { is = λ l s n a. absurd (omega arith); fine = w }

-- ---- the fields

abbrev shape_on : Option FormFields → List ℕ → Shape
shape_on o l = form_with o (get_or l 0 0) (get_or l 1 0) (get_or l 2 0)

reads_numbers : (o : Option FormFields) → count_of o ≤ 4 → (fs : List Bytes) → on_some o (λ fields. read_fields fields fs) ≡ chain (count_of o) (shape_on o) fs
unfolding count_of form_with read_fields on_some chain
reads_numbers none h fs = absurd (omega arith)
reads_numbers (some (no_field shape)) h fs = refl
reads_numbers (some (one_number shape)) h fs = refl
reads_numbers (some (two_numbers shape)) h fs = refl
reads_numbers (some (three_numbers shape)) h fs = refl
reads_numbers (some (other_fields other)) h fs = absurd (omega arith)

module _ (code : ℕ) {m : ℕ} {r : Numbers} (fs : List Bytes) (count : m ≡ numbers_of code) (few : m ≤ 4) (n : NumbersRead (exact m fs) r) where
  by_exact : shape_by code fs ≡ map_some (shape_in code) (exact m fs)
  unfolding shape_by
  by_exact = reads_numbers (fields_by code) (omega arith) fs ∙ chain_exact (numbers_of code) (shape_in code) fs ∙ ap (λ (j : ℕ). map_some (shape_in code) (exact j fs)) (sym count)

  pub numbers_bad : not r.good ≡ true → shape_by code fs ≡ none
  unfolding map_some
  numbers_bad b = by_exact ∙ go (exact m fs) n.is
    where
      go : (q : Option (List ℕ)) → Read q r → map_some (shape_in code) q ≡ none
      go none (unread e) = refl
      go (some l) (read e a) = absurd (true≢false (sym e ∙ not-true r.good b))

  pub numbers_read : {line : ℕ} {p : Parsed} → not r.good ≡ false → Builds code r.at line p → FormRead line (shape_by code fs) p
  unfolding map_some
  numbers_read {line} {p} b y = rw by_exact (record { is = go (exact m fs) refl n.is; few = y.fine.few; size = y.fine.size; low = y.fine.classes })
    where
      go : (q : Option (List ℕ)) → exact m fs ≡ q → Read q r → Spelled line (map_some (shape_in code) q) p
      go none e (unread x) = absurd (true≢false (sym (not-false r.good b) ∙ x))
      go (some l) e (read x a) = let z = exact_length m fs l e in spelled y.fine.spelled (y.is l (omega arith) (z ∙ count) a)
