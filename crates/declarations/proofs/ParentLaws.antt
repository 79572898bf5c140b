-- The field of a parent, as one number: 0 for none, else one more than the parent. Assumes nothing.
use mathlib.Core.Path.{◌≡◌, refl, sym, ap, ◌∙◌}
use mathlib.Core.Bool.{true, false}
use mathlib.Core.Option.{Option, none, some}
use Prim.Native.Nat.{ℕ, zero, suc, ◌+◌, ◌≤◌, ◌<◌, min}
use native.Mathlib.Omega.{arith}
use borrow.Author.Tests.{lt-ltb, le-ltb, eq-eqb, ne_eqb}
use lib.Dec.{eqb}
use Rattle.laws.specs.Choice.{map_some}
use Rattle.sheet.specs.Text.{Bytes, bytes}
use Rattle.sheet.specs.Lines.{is, a_number, a_parent}
use Rattle.sheet.specs.Limits.{is_class, parent_within}
use Rattle.sheet.specs.Refusals.{parent_smaller}
use Rattle.types.specs.Flat.{parent_of}
use Rattle.text.specs.Numbers.{cut_num}
use Rattle.text.specs.Words.{only_byte}
use Rattle.text.proofs.NumberLaws.{num_bad}
use Rattle.text.proofs.WordLaws.{is_letter}
use Rattle.tables.specs.Layout.{parent_code}
use Rattle.tables.proofs.LineFields.{num_some, num_cut}
use Rattle.declarations.specs.Fields.{parent_num}
use Rattle.std.specs.Prelude.{Some, None}

-- ---- the returns of `parent`

module _ (f : Bytes) {b : ℕ} (told : b ≡ only_byte f) where
  minus : is f (bytes "-") ≡ eqb b 45
  unfolding bytes
  minus = is_letter f 45 (omega arith) ∙ ap (λ (x : ℕ). eqb x 45) (sym told)

  pub no_parent : b ≡ 45 → Some 0 ≡ parent_num (a_parent f)
  unfolding a_parent parent_num
  no_parent h = rw (minus, eq-eqb b 45 h)

  module _ (other : b ≡ 45 → ⊥) where
    pub bad_parent : None ≡ cut_num (a_number f) → None ≡ parent_num (a_parent f)
    unfolding a_parent parent_num map_some
    bad_parent h = rw (minus, ne_eqb b 45 other, num_bad (a_number f) h)

    pub some_parent : {p : ℕ} → Some p ≡ cut_num (a_number f) → Some (p + 1) ≡ parent_num (a_parent f)
    unfolding a_parent parent_num map_some
    some_parent h = rw (minus, ne_eqb b 45 other, num_some (a_number f) h) (ap Some (omega (arith, num_cut (a_number f) h)))

-- ---- what a caller learns by the answer

abbrev pub the_parent : Option (Option ℕ) → Option ℕ
the_parent none = none
the_parent (some p) = p

pub parent_bad : (o : Option (Option ℕ)) → None ≡ parent_num o → o ≡ none
unfolding parent_num
parent_bad none h = refl
parent_bad (some none) h = absurd (let z : ◌≡◌ {A = ℕ} 0 1 = cc in omega arith)
parent_bad (some (some p)) h = absurd (let z : ◌≡◌ {A = ℕ} 0 1 = cc in omega arith)

module _ {q : ℕ} (o : Option (Option ℕ)) (read : Some q ≡ parent_num o) where
  pub parent_some : o ≡ some (the_parent o)
  unfolding parent_num
  parent_some = go o read
    where
      go : (o : Option (Option ℕ)) → Some q ≡ parent_num o → o ≡ some (the_parent o)
      go none h = absurd (let z : ◌≡◌ {A = ℕ} 0 1 = cc in omega arith)
      go (some p) h = refl

  pub parent_over : 64 < q → parent_within (the_parent o) ≡ false
  unfolding parent_num parent_within is_class
  parent_over = go o read
    where
      go : (o : Option (Option ℕ)) → Some q ≡ parent_num o → 64 < q → parent_within (the_parent o) ≡ false
      go none h l = absurd (let z : ◌≡◌ {A = ℕ} 0 1 = cc in omega arith)
      go (some none) h l = let z : q ≡ 0 = cc in absurd (omega arith)
      go (some (some p)) h l = let z : q ≡ suc (min p 1000000) = cc in le-ltb p 64 (omega arith)

  pub parent_exact : q ≤ 64 → o ≡ some (parent_of q)
  unfolding parent_num
  parent_exact = go o read
    where
      go : (o : Option (Option ℕ)) → Some q ≡ parent_num o → q ≤ 64 → o ≡ some (parent_of q)
      go none h l = absurd (let z : ◌≡◌ {A = ℕ} 0 1 = cc in omega arith)
      go (some none) h l = let z : q ≡ 0 = cc in rw z
      go (some (some p)) h l = let z : q ≡ suc (min p 1000000) = cc in let e : q ≡ suc p = omega arith in rw e

-- ---- the number and the parent that it says

pub code_of : (q : ℕ) → parent_code (parent_of q) ≡ q
unfolding parent_code
code_of zero = refl
code_of (suc p) = refl

pub code_within : (q : ℕ) → q ≤ 64 → parent_within (parent_of q) ≡ true
unfolding parent_within is_class
code_within zero h = refl
code_within (suc p) h = lt-ltb p 64 (omega arith)

pub code_smaller : (n q : ℕ) → q ≤ n → parent_smaller n (parent_of q) ≡ true
unfolding parent_smaller
code_smaller n zero h = refl
code_smaller n (suc p) h = lt-ltb p n (omega arith)

pub code_not_smaller : (n q : ℕ) → n < q → parent_smaller n (parent_of q) ≡ false
unfolding parent_smaller
code_not_smaller n zero h = absurd (omega arith)
code_not_smaller n (suc p) h = le-ltb p n (omega arith)
