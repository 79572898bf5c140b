-- The strict forms with one operand, over a value that lies on the stack. Assumes nothing.
use mathlib.Core.Path.{◌≡◌, refl, sym, ap, ◌∙◌}
use mathlib.Core.Bool.{Bool, true, false, not}
use mathlib.Core.List.{List}
use Prim.Native.Nat.{ℕ, zero, suc, ◌+◌, ◌-◌, ◌%◌, ◌<◌, ◌≤◌}
use native.Mathlib.Omega.{arith}
use lib.ListN.{length, get_or}
use lib.IntN.{pos}
use lib.Dec.{T, eqb}
use borrow.Author.Tests.{lt-ltb}
use Rattle.ocl.specs.Types.{Kind, kind_code}
use Rattle.ocl.specs.Values.{Value, bool, num, coll, nil, count, size, add_all}
use Rattle.reals.specs.Reals.{int, in_range, kept}
use Rattle.ocl.specs.Model.{Model}
use Rattle.ocl.specs.Forms.{Unary, negation, size_of, convert, cast_to}
use Rattle.ocl.specs.Operations.{Outcome, value, undefined, stuck, stop, form, cast, unary_apply}
use Rattle.ocl.proofs.Values.{count_sizes}
use Rattle.values.specs.Cells.{bias, fits_bool, fits_num}
use Rattle.values.specs.Meanings.{means_bool, means_int, SortOf, PayloadOf, Converts}
use Rattle.values.specs.declared.Simple.TheVariants as simple
use Rattle.values.proofs.Heads.{Shape, shape_bool, shape_num, shape_obj, shape_coll}
use Rattle.nodes.specs.Nodes.{unary_of}
use Rattle.tables.specs.declared.Counts.{Counts}
use Rattle.tables.specs.Stored.{HoldsModel}
use Rattle.outcomes.specs.declared.Ended.{Ended}
use Rattle.outcomes.specs.declared.Ended.TheVariants as ended
use Rattle.outcomes.specs.Answers.{Lies, ends_value, ends_undefined, ends_stuck, ends_stop, Ran, Gives, formed_as, Truth}
use Rattle.outcomes.specs.Tables.{IsA}
use Rattle.operations.specs.Operations.{AnyModel, OfOne, kind_for, unary_for}
use Rattle.outcomes.proofs.Words.{under_refl, head_at_lem, formed_small, formed_ran}
use Rattle.operations.proofs.Sorts.{no_bool, is_bool, bit_zero, no_coll, IsColl, is_coll_lem, count_is, sorted, known, truth_t}
use Rattle.outcomes.proofs.Lookups.{is_object}
use Rattle.std.specs.Prelude.{Option as Optional}

-- ---- answers with no cells of their own

pub ran_stuck : {sp : ℕ} {B : List ℕ} → Ran stuck sp B B ended.Stuck
ran_stuck = record { kept = under_refl; ends = ends_stuck }

pub ran_undefined : {sp s : ℕ} {B : List ℕ} → Ran (undefined s) sp B B (ended.Undef s)
ran_undefined = record { kept = under_refl; ends = ends_undefined }

pub ran_stop : {c sp s : ℕ} {B : List ℕ} → Ran (stop c s) sp B B (ended.Stop c s)
ran_stop = record { kept = under_refl; ends = ends_stop }

-- ---- one operand

total_is : {sp len t q : ℕ} {B : List ℕ} {v : Value} (S : SortOf (get_or B sp 0) t) → PayloadOf (get_or B sp 0) q → len ≤ 128 → (l : Lies v sp len B) → (x : IsColl l S) → (q ≡ count x.members) × (count x.members < 128)
unfolding size
total_is S P small l x =
    let a = count_is l S P x.kind x.members x.is in
    let b = l.long ∙ ap size x.is in
    let c = count_sizes x.members in
    (a, omega arith)

module _ {sp s len : ℕ} {B : List ℕ} where
  pub negate_stuck : {t : ℕ} → Truth (get_or B sp 0) t → 1 < t → OfOne AnyModel (λ m. unary_apply m negation) sp len s B B ended.Stuck
  unfolding unary_apply
  negate_stuck T h = record { small = tt; ran = λ m ok v l. rw (no_bool v (λ b. value (bool (not b)) s) (let e = T.is v l.fits (head_at_lem l) in omega arith)) ran_stuck }

  pub negate_done : {t : ℕ} {A : List ℕ} {r : Ended} → Truth (get_or B sp 0) t → t ≤ 1 → Gives (simple.Bool (eqb t 0)) sp s B A r → OfOne AnyModel (λ m. unary_apply m negation) sp len s B A r
  unfolding unary_apply
  negate_done {t} T h G = record {
    small = G.small;
    ran = λ m ok v l.
        let e = T.is v l.fits (head_at_lem l) in
        let b = is_bool v (omega arith) in
        let z : eqb t 0 ≡ not b.b = ap (λ (n : ℕ). eqb n 0) (e ∙ b.code) ∙ bit_zero b.b in
        rw b.is (G.is (bool (not b.b)) fits_bool (rw z means_bool));
  }

  module _ {t : ℕ} (S : SortOf (get_or B sp 0) t) where
    pub total_stuck : t < 3 → OfOne AnyModel (λ m. unary_apply m size_of) sp len s B B ended.Stuck
    unfolding unary_apply
    total_stuck h = record { small = tt; ran = λ m ok v l. rw (no_coll l S h (λ k vs. value (num (int (pos (count vs)))) s)) ran_stuck }

    pub change_stuck : (k : Kind) → t < 3 → OfOne AnyModel (λ m. unary_apply m (convert k)) sp len s B B ended.Stuck
    unfolding unary_apply
    change_stuck k h = record { small = tt; ran = λ m ok v l. rw (no_coll l S h (λ j vs. form (coll k (add_all k vs nil)) s)) ran_stuck }

    pub change_done : {kind : ℕ} {A : List ℕ} (f : Optional ℕ) {r : Ended} → 3 ≤ t → kind ≡ kind_code (kind_for kind) → sp ≤ length B → Converts kind sp (sp + len) B A f → r ≡ formed_as f s
        → OfOne AnyModel (λ m. unary_apply m (convert (kind_for kind))) sp len s B A r
    unfolding unary_apply
    change_done {kind} f h c room C q = rw q (record {
      small = formed_small f s C.small;
      ran = λ m ok v l.
          let x = is_coll_lem l S h in
          rw x.is (formed_ran B s room (C.is x.kind (kind_for kind) x.members c (rw x.is at l.fits) (rw x.is at l.cells)));
    })

    module _ {q : ℕ} (P : PayloadOf (get_or B sp 0) q) (h : 3 ≤ t) (small : len ≤ 128) where
      pub total_over : 128 < q → OfOne AnyModel (λ m. unary_apply m size_of) sp len s B B ended.Stuck
      total_over g = record { small = tt; ran = λ m ok v l. absurd (let x = total_is S P small l (is_coll_lem l S h) in omega arith) }

      pub total_done : {A : List ℕ} {r : Ended} → Gives (simple.Integer (2147483648 + q)) sp s B A r → OfOne AnyModel (λ m. unary_apply m size_of) sp len s B A r
      unfolding unary_apply in_range kept bias
      total_done G = record {
        small = G.small;
        ran = λ m ok v l.
            let x = is_coll_lem l S h in
            let y = total_is S P small l x in
            rw x.is (G.is (num (int (pos (count x.members)))) (fits_num (truth_t _ (lt-ltb (count x.members) 2147483648 (omega arith)))) (means_int (omega arith)));
      }

  module _ {st : Counts} {w0 : List ℕ} (c : ℕ) {t : ℕ} (S : SortOf (get_or B sp 0) t) where
    pub cast_stuck : 2 < t → OfOne (HoldsModel st w0) (λ m. unary_apply m (cast_to c)) sp len s B B ended.Stuck
    unfolding unary_apply cast
    cast_stuck h = record { small = tt; ran = λ m ok v l. let x = is_coll_lem l S (omega arith) in rw x.is ran_stuck }

    pub cast_other : t < 2 → OfOne (HoldsModel st w0) (λ m. unary_apply m (cast_to c)) sp len s B B (ended.Undef s)
    unfolding unary_apply cast
    cast_other h = record { small = tt; ran = λ m ok v l. by m (sorted l S) }
      where
        by : (m : Model) {p : ℕ} {v : Value} → Shape t p v → Ran (unary_apply m (cast_to c) v s) sp B B (ended.Undef s)
        by m (shape_bool i j) = ran_undefined
        by m (shape_num i j) = ran_undefined
        by m (shape_obj i j k) = absurd (omega arith)
        by m (shape_coll i j k) = absurd (omega arith)

    module _ {o : ℕ} {b : Bool} (P : PayloadOf (get_or B sp 0) o) (I : IsA st w0 o c b) (h : t ≤ 2) (g : 2 ≤ t) where
      pub cast_in : b ≡ true → 1 ≤ len → len ≤ 128 → OfOne (HoldsModel st w0) (λ m. unary_apply m (cast_to c)) sp len s B B (ended.Value len s)
      unfolding unary_apply cast
      cast_in e one small = record {
        small = (one, small);
        ran = λ m ok v l.
            let z = is_object (known l S P) (omega arith) in
            rw (z, ← I.is m ok, e) (record { kept = under_refl; ends = ends_value (rw z at l) small });
      }

      pub cast_out : b ≡ false → OfOne (HoldsModel st w0) (λ m. unary_apply m (cast_to c)) sp len s B B (ended.Undef s)
      unfolding unary_apply cast
      cast_out e = record { small = tt; ran = λ m ok v l. let z = is_object (known l S P) (omega arith) in rw (z, ← I.is m ok, e) ran_undefined }

-- by the form's code

pub any_model : {Ok : Model → Type 0} {op : Model → Value → ℕ → Outcome} {sp len s : ℕ} {B A : List ℕ} {r : Ended} → OfOne AnyModel op sp len s B A r → OfOne Ok op sp len s B A r
any_model x = record { small = x.small; ran = λ m ok v l. x.ran m (record {}) v l }

pub kind_code_lem : (n : ℕ) → n < 3 → n ≡ kind_code (kind_for n)
unfolding kind_for kind_code
kind_code_lem zero h = refl
kind_code_lem (suc zero) h = refl
kind_code_lem (suc (suc zero)) h = refl
kind_code_lem (suc (suc (suc n))) h = absurd (omega arith)

convert_codes : (n c : ℕ) → n < 3 → unary_for (9 + n) c ≡ convert (kind_for n)
unfolding unary_for unary_of kind_for
convert_codes zero c h = refl
convert_codes (suc zero) c h = refl
convert_codes (suc (suc zero)) c h = refl
convert_codes (suc (suc (suc n))) c h = absurd (omega arith)

pub unary_7 : (k c : ℕ) → k ≡ 7 → unary_for k c ≡ negation
unfolding unary_for unary_of
unary_7 k c e = rw e

pub unary_8 : (k c : ℕ) → k ≡ 8 → unary_for k c ≡ size_of
unfolding unary_for unary_of
unary_8 k c e = rw e

pub unary_9 : (k c : ℕ) → 9 ≤ k → k < 12 → unary_for k c ≡ convert (kind_for (k - 9))
unary_9 k c h l = let e : 9 + (k - 9) ≡ k = omega arith in ap (λ (n : ℕ). unary_for n c) (sym e) ∙ convert_codes (k - 9) c (omega arith)

pub unary_12 : (k c : ℕ) → k ≡ 12 → unary_for k c ≡ cast_to (c % 256)
unfolding unary_for unary_of
unary_12 k c e = rw e

pub unary_by : {Ok : Model → Type 0} (k c : ℕ) {u : Unary} {sp len s : ℕ} {B A : List ℕ} {r : Ended} → unary_for k c ≡ u → OfOne Ok (λ m. unary_apply m u) sp len s B A r → OfOne Ok (λ m. unary_apply m (unary_for k c)) sp len s B A r
unary_by k c e x = rw e x
