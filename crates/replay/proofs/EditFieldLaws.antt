-- The fields of an edit's line: as a V line has them, or clearing. Assumes nothing.
use mathlib.Core.Path.{◌≡◌, refl, sym, ap, subst}
use mathlib.Core.Bool.{true, false, true≢false}
use mathlib.Core.Option.{Option, none, some, none-ne-some, some-injective}
use mathlib.Core.List.{List, [], ◌∷◌}
use Prim.Native.Nat.{ℕ}
use native.Mathlib.Omega.{arith}
use lib.ListN.{length, get_or, drop}
use lib.Dec.{T, eqb, eqb→eq}
use Rattle.laws.specs.Choice.{on_some, map_some}
use Rattle.laws.proofs.Tests.{and-true}
use Rattle.ocl.specs.Values.{Value}
use Rattle.sheet.specs.Text.{Bytes, bytes}
use Rattle.sheet.specs.Spelling.{read_value}
use Rattle.sheet.specs.Lines.{value_line, is, next, done, a_number, line_of}
use Rattle.board.specs.Edits.{Edit, a_value_or_none, edit_of}
use Rattle.tables.proofs.LineFields.{word_is}
use Rattle.replay.specs.Judging.{clears_line}

-- ---- the fields

abbrev edit_fields : List Bytes → Option Edit
edit_fields = next a_number (λ o. next a_number (λ a. next a_value_or_none (λ v. done (record { object = o; row = a; value = v }))))

pub edit_fields_lem : (fs : List Bytes) → is (get_or fs 0 []) (bytes "V") ≡ true → edit_of fs ≡ edit_fields (drop 1 fs)
unfolding edit_of is bytes
edit_fields_lem [] h = absurd (true≢false (sym h))
edit_fields_lem (w ∷ fs) h = rw (word_is w (bytes "V") h)

-- both readers find the same, where the line does not clear
pub data EditLine (fs : List Bytes) : Type 0 where
  neither : line_of fs ≡ none → edit_of fs ≡ none → EditLine fs
  both : (o a : ℕ) (v : Value) → line_of fs ≡ some (value_line o a v) → edit_of fs ≡ some (record { object = o; row = a; value = some v }) → EditLine fs

pub edit_line : (fs : List Bytes) → is (get_or fs 0 []) (bytes "V") ≡ true → clears_line fs ≡ false → EditLine fs
unfolding line_of edit_of is bytes next done on_some map_some a_value_or_none clears_line
edit_line [] h n = absurd (true≢false (sym h))
edit_line (w ∷ []) h n = let z = word_is w (bytes "V") h in neither (rw z) (rw z)
edit_line (w ∷ x ∷ []) h n = let z = word_is w (bytes "V") h in by (a_number x) refl z
  where
    by : (p : Option ℕ) → a_number x ≡ p → w ≡ bytes "V" → EditLine (w ∷ x ∷ [])
    by none e z = neither (rw (z, e)) (rw (z, e))
    by (some o) e z = neither (rw (z, e)) (rw (z, e))
edit_line (w ∷ x ∷ y ∷ []) h n = let z = word_is w (bytes "V") h in by (a_number x) (a_number y) refl refl z
  where
    by : (p q : Option ℕ) → a_number x ≡ p → a_number y ≡ q → w ≡ bytes "V" → EditLine (w ∷ x ∷ y ∷ [])
    by none q e f z = neither (rw (z, e)) (rw (z, e))
    by (some o) none e f z = neither (rw (z, e, f)) (rw (z, e, f))
    by (some o) (some a) e f z = neither (rw (z, e, f)) (rw (z, e, f))
edit_line (w ∷ x ∷ y ∷ v ∷ []) h n = let z = word_is w (bytes "V") h in by (a_number x) (a_number y) (read_value v) refl refl refl z
  where
    by : (p q : Option ℕ) (r : Option Value) → a_number x ≡ p → a_number y ≡ q → read_value v ≡ r → w ≡ bytes "V" → EditLine (w ∷ x ∷ y ∷ v ∷ [])
    by none q r e f g z = neither (rw (z, e)) (rw (z, e))
    by (some o) none r e f g z = neither (rw (z, e, f)) (rw (z, e, f))
    by (some o) (some a) none e f g z = neither (rw (z, e, f, g)) (rw (z, e, f, n, g))
    by (some o) (some a) (some t) e f g z = both o a t (rw (z, e, f, g)) (rw (z, e, f, n, g))
edit_line (w ∷ x ∷ y ∷ v ∷ u ∷ us) h n = let z = word_is w (bytes "V") h in by (a_number x) (a_number y) (read_value v) (a_value_or_none v) refl refl refl refl z
  where
    by : (p q : Option ℕ) (r : Option Value) (t : Option (Option Value)) → a_number x ≡ p → a_number y ≡ q → read_value v ≡ r → a_value_or_none v ≡ t → w ≡ bytes "V" → EditLine (w ∷ x ∷ y ∷ v ∷ u ∷ us)
    by none q r t e f g i z = neither (rw (z, e)) (rw (z, e))
    by (some o) none r t e f g i z = neither (rw (z, e, f)) (rw (z, e, f))
    by (some o) (some a) none none e f g i z = neither (rw (z, e, f, g)) (rw (z, e, f, i))
    by (some o) (some a) none (some j) e f g i z = neither (rw (z, e, f, g)) (rw (z, e, f, i))
    by (some o) (some a) (some k) none e f g i z = neither (rw (z, e, f, g)) (rw (z, e, f, i))
    by (some o) (some a) (some k) (some j) e f g i z = neither (rw (z, e, f, g)) (rw (z, e, f, i))

-- ---- a line that clears

pub record Clears (fs : List Bytes) : Type 0 where
  pub four : length fs ≡ 4
  pub last : get_or fs 3 [] ≡ bytes "-"

pub clears_is : (fs : List Bytes) → clears_line fs ≡ true → Clears fs
unfolding clears_line
clears_is fs h = let t = and-true (eqb (length fs) 4) (is (get_or fs 3 []) (bytes "-")) h in
    record { four = eqb→eq (length fs) 4 (subst T (sym t.0) tt); last = word_is (get_or fs 3 []) (bytes "-") t.1 }

pub none_read : (f : Bytes) → f ≡ bytes "-" → a_value_or_none f ≡ some none
unfolding a_value_or_none is bytes
none_read f e = rw e

pub cleared_none : (fs : List Bytes) (e : Edit) → is (get_or fs 0 []) (bytes "V") ≡ true → clears_line fs ≡ true → edit_of fs ≡ some e → e.value ≡ none
unfolding edit_of is bytes next done on_some
cleared_none [] e h c q = absurd (true≢false (sym h))
cleared_none (w ∷ fs) e h c q = by fs (clears_is (w ∷ fs) c) (rw (word_is w (bytes "V") h) at q)
  where
    by : (fs : List Bytes) → Clears (w ∷ fs) → edit_fields fs ≡ some e → e.value ≡ none
    by [] k q = absurd (let z = k.four in omega arith)
    by (x ∷ []) k q = absurd (let z = k.four in omega arith)
    by (x ∷ y ∷ []) k q = absurd (let z = k.four in omega arith)
    by (x ∷ y ∷ v ∷ []) k q = at (a_number x) (a_number y) (rw (none_read v k.last) at q)
      where
        at : (p r : Option ℕ) → on_some p (λ o. on_some r (λ a. some (record { object = o; row = a; value = none }))) ≡ some e → e.value ≡ none
        at none r q = absurd (none-ne-some _ q)
        at (some o) none q = absurd (none-ne-some _ q)
        at (some o) (some a) q = ap (λ (i : Edit). i.value) (sym (some-injective _ _ q))
    by (x ∷ y ∷ v ∷ u ∷ us) k q = absurd (let z = k.four in omega arith)
