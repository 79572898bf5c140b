-- The strict forms with two operands, over values that lie on the stack. Assumes nothing.
use mathlib.Core.Path.{◌≡◌, refl, sym, ap, ◌∙◌}
use mathlib.Core.Bool.{Bool, true, false}
use mathlib.Core.List.{List}
use Prim.Native.Nat.{ℕ, zero, suc, ◌+◌, ◌-◌, ◌<◌, ◌≤◌}
use native.Mathlib.Omega.{arith}
use lib.ListN.{length, get_or}
use lib.Dec.{eqb, leb}
use borrow.Author.Tests.{lt-ltb, le-ltb, eq-eqb, ne_eqb}
use Rattle.std.specs.Prelude.{if◌then◌else◌, Option as Optional}
use Rattle.laws.proofs.Tests.{by-if}
use Rattle.ocl.specs.Types.{Kind, kind_code, same_kind}
use Rattle.ocl.specs.Values.{Value, bool, coll, Values, same, has, add, add_all}
use Rattle.ocl.specs.Marks.{Mark, scale_marked}
use Rattle.ocl.specs.Forms.{Arith, Binary, equal, less, arith as calculation, divide, over, includes, including, union}
use Rattle.ocl.specs.Operations.{Outcome, value, stuck, on_coll, form, on_scale, left_fits, binary_apply, is_coll}
use Rattle.values.specs.Cells.{fits_bool}
use Rattle.values.specs.Meanings.{means_bool, SortOf, IntegerTest, SameAt, HasAt, Adds, Unites}
use Rattle.values.specs.Integers.{arith_of, division_of}
use Rattle.values.specs.declared.Simple.TheVariants as simple
use Rattle.values.proofs.Heads.{shape, Shape, shape_bool, shape_num, shape_obj, shape_coll}
use Rattle.values.proofs.Adding.{header}
use Rattle.nodes.specs.Nodes.{binary_of, arith_by_code as arith_code_of, division_by_code as division_code_of}
use Rattle.outcomes.specs.declared.Ended.{Ended}
use Rattle.outcomes.specs.declared.Ended.TheVariants as ended
use Rattle.outcomes.specs.Answers.{Ran, Gives, formed_as}
use Rattle.operations.specs.Operations.{AnyMark, OfTwo, FitsScale, FitsLeft}
use Rattle.outcomes.proofs.Words.{formed_small, formed_ran}
use Rattle.operations.proofs.Sorts.{no_coll, is_coll_lem, sorted, num_test, coll_test, same_kind_lem}
use Rattle.operations.proofs.OperationLaws.{ran_stuck}

-- ---- the left operand's kind

-- the codes of the forms on numbers that are marked
scale_forms : (P : Binary → Type 0) {k : ℕ} → 14 ≤ k → k < 18 → P less → ((o : Arith) → P (calculation o)) → P (binary_of k)
unfolding binary_of
scale_forms P {k} l u a b =
    rw (ne_eqb k 13 (λ x. omega arith), lt-ltb k 18 u) (by-if P (eqb k 14) less (calculation (arith_code_of k)) (λ _. a) (λ _. b _))

module _ {k mark cell : ℕ} where
  pub left_any : k ≡ 13 → FitsLeft k mark cell true
  unfolding binary_of left_fits
  left_any e = record { is = λ m M v f h. rw e }

  pub left_scale : {r : Bool} → 14 ≤ k → k < 18 → FitsScale mark cell r → FitsLeft k mark cell r
  unfolding left_fits
  left_scale l u F = record { is = λ m M v f h. F.is m M v f h ∙ scale_forms (λ op. on_scale (scale_marked m) v ≡ left_fits m op v) l u refl (λ o. refl) }

  pub left_int : {r : Bool} → 18 ≤ k → k < 20 → IntegerTest cell r → FitsLeft k mark cell r
  unfolding binary_of left_fits
  left_int l u I = record { is = λ m M v f h. I.is v f h ∙ rw (ne_eqb k 13 (λ x. omega arith), ne_eqb k 14 (λ x. omega arith), le-ltb k 18 l, lt-ltb k 20 u) }

  pub left_num : {t : ℕ} → k ≡ 37 → SortOf cell t → FitsLeft k mark cell (eqb t 1)
  unfolding binary_of left_fits
  left_num e S = record { is = λ m M v f h. num_test (shape f (S.is v f h) (λ n. refl)) ∙ rw e }

  pub left_coll : {t : ℕ} → 20 ≤ k → (k ≡ 37 → ⊥) → SortOf cell t → FitsLeft k mark cell (leb 3 t)
  unfolding binary_of left_fits
  left_coll {t} l n S = record { is = λ m M v f h. coll_test (shape f (S.is v f h) (λ n. refl)) ∙ by m v (eqb k 20) (eqb k 21) refl refl }
    where
      by : (m : Mark) (v : Value) (a b : Bool) → eqb k 20 ≡ a → eqb k 21 ≡ b → is_coll v ≡ left_fits m (binary_of k) v
      by m v true b e f = rw (ne_eqb k 13 (λ x. omega arith), ne_eqb k 14 (λ x. omega arith), le-ltb k 18 (omega arith), le-ltb k 20 l, e)
      by m v false true e f = rw (ne_eqb k 13 (λ x. omega arith), ne_eqb k 14 (λ x. omega arith), le-ltb k 18 (omega arith), le-ltb k 20 l, e, f)
      by m v false false e f = rw (ne_eqb k 13 (λ x. omega arith), ne_eqb k 14 (λ x. omega arith), le-ltb k 18 (omega arith), le-ltb k 20 l, e, f, ne_eqb k 37 n)

-- ---- two operands

pub any_mark : {Ok : Mark → Type 0} {op : Mark → Value → Value → ℕ → Outcome} {sp la lb s : ℕ} {B A : List ℕ} {r : Ended} → OfTwo AnyMark op sp la lb s B A r → OfTwo Ok op sp la lb s B A r
any_mark x = record { small = x.small; ran = λ m M v w l k. x.ran m (record {}) v w l k }

module _ {sp la lb s : ℕ} {B : List ℕ} where
  pub same_done : {b : Bool} {A : List ℕ} {r : Ended} → SameAt B sp la (sp + la) lb b → Gives (simple.Bool b) sp s B A r → OfTwo AnyMark (λ m. binary_apply m equal) sp la lb s B A r
  unfolding binary_apply
  same_done E G = record {
    small = G.small;
    ran = λ m M v w l k. G.is (bool (same v w)) fits_bool (rw (E.is v w l.fits k.fits l.cells k.cells) means_bool);
  }

  module _ {t : ℕ} (S : SortOf (get_or B sp 0) t) where
    pub includes_stuck : t < 3 → OfTwo AnyMark (λ m. binary_apply m includes) sp la lb s B B ended.Stuck
    unfolding binary_apply
    includes_stuck h = record { small = tt; ran = λ m M v w l k. rw (no_coll l S h (λ k vs. value (bool (has w vs)) s)) ran_stuck }

    pub including_stuck : t < 3 → OfTwo AnyMark (λ m. binary_apply m including) sp la lb s B B ended.Stuck
    unfolding binary_apply
    including_stuck h = record { small = tt; ran = λ m M v w l k. rw (no_coll l S h (λ k vs. form (coll k (add k w vs)) s)) ran_stuck }

    pub union_stuck : t < 3 → OfTwo AnyMark (λ m. binary_apply m union) sp la lb s B B ended.Stuck
    unfolding binary_apply
    union_stuck h = record { small = tt; ran = λ m M v w l k. rw (no_coll l S h (λ j vs. on_coll w (λ k ws. if same_kind j k then form (coll j (add_all j ws vs)) s else stuck))) ran_stuck }

    module _ (h : 3 ≤ t) where
      pub includes_done : {b : Bool} {A : List ℕ} {r : Ended} → 1 ≤ la → sp + la ≤ length B → HasAt B (sp + 1) (sp + la) lb b → Gives (simple.Bool b) sp s B A r → OfTwo AnyMark (λ m. binary_apply m includes) sp la lb s B A r
      unfolding binary_apply
      includes_done one room E G = record {
        small = G.small;
        ran = λ m M v w l k.
            let x = is_coll_lem l S h in
            let c = header B sp (sp + la) x.kind x.members (omega arith) room (rw x.is at l.cells) in
            rw x.is (G.is (bool (has w x.members)) fits_bool (rw (E.is w x.members k.fits x.fits c.cells k.cells) means_bool));
      }

      pub including_done : {A : List ℕ} (f : Optional ℕ) {r : Ended} → sp ≤ length B → Adds sp (sp + la) lb B A f → r ≡ formed_as f s → OfTwo AnyMark (λ m. binary_apply m including) sp la lb s B A r
      unfolding binary_apply
      including_done f room D q = rw q (record {
        small = formed_small f s D.small;
        ran = λ m M v w l k.
            let x = is_coll_lem l S h in
            rw x.is (formed_ran B s room (D.is x.kind x.members w (rw x.is at l.fits) k.fits (rw x.is at l.cells) k.cells));
      })

      module _ {u : ℕ} (R : SortOf (get_or B (sp + la) 0) u) where
        pub union_other : (u ≡ t → ⊥) → OfTwo AnyMark (λ m. binary_apply m union) sp la lb s B B ended.Stuck
        unfolding binary_apply same_kind
        union_other n = record { small = tt; ran = λ m M v w l k. let x = is_coll_lem l S h in rw x.is (by x.kind x.members x.sort (sorted k R)) }
          where
            by : (j : Kind) (vs : Values) → t ≡ 3 + kind_code j → {p : ℕ} {w : Value} → Shape u p w → Ran (on_coll w (λ k ws. if same_kind j k then form (coll j (add_all j ws vs)) s else stuck)) sp B B ended.Stuck
            by j vs a (shape_bool c d) = ran_stuck
            by j vs a (shape_num c d) = ran_stuck
            by j vs a (shape_obj c d e) = ran_stuck
            by j vs a (shape_coll {k = k} c d e) = rw (ne_eqb (kind_code j) (kind_code k) (λ z. n (omega arith))) ran_stuck

        pub union_done : {A : List ℕ} {end : ℕ} (f : Optional ℕ) {r : Ended} → u ≡ t → end ≡ sp + la + lb → sp ≤ length B → Unites sp (sp + la) end B A f → r ≡ formed_as f s → OfTwo AnyMark (λ m. binary_apply m union) sp la lb s B A r
        unfolding binary_apply same_kind
        union_done f e z room D q = rw q (record {
          small = formed_small f s D.small;
          ran = λ m M v w l k.
              let x = is_coll_lem l S h in
              let y = is_coll_lem k R (omega arith) in
              let a = x.sort in let b = y.sort in
              let c = same_kind_lem y.kind x.kind (omega arith) in
              let i : w ≡ coll x.kind y.members = y.is ∙ ap (λ (j : Kind). coll j y.members) c in
              rw (x.is, i, eq-eqb (kind_code x.kind) (kind_code x.kind) refl)
              (formed_ran B s room (D.is x.kind x.members y.members (rw x.is at l.fits) (rw i at k.fits) (rw x.is at l.cells) (rw (z, ← i) k.cells)));
        })

-- ---- by the form's code

arith_codes : (n : ℕ) → n < 3 → arith_code_of (15 + n) ≡ arith_of n
unfolding arith_code_of arith_of
arith_codes zero h = refl
arith_codes (suc zero) h = refl
arith_codes (suc (suc zero)) h = refl
arith_codes (suc (suc (suc n))) h = absurd (omega arith)

division_codes : (n : ℕ) → n < 2 → division_code_of (18 + n) ≡ division_of n
unfolding division_code_of division_of
division_codes zero h = refl
division_codes (suc zero) h = refl
division_codes (suc (suc n)) h = absurd (omega arith)

pub binary_13 : {k : ℕ} → k ≡ 13 → binary_of k ≡ equal
unfolding binary_of
binary_13 e = rw e

pub binary_14 : {k : ℕ} → k ≡ 14 → binary_of k ≡ less
unfolding binary_of
binary_14 e = rw e

pub binary_15 : {k : ℕ} → 15 ≤ k → k < 18 → binary_of k ≡ calculation (arith_of (k - 15))
unfolding binary_of
binary_15 {k} h l =
    let e : 15 + (k - 15) ≡ k = omega arith in
    rw (ne_eqb k 13 (λ x. omega arith), ne_eqb k 14 (λ x. omega arith), lt-ltb k 18 l) (ap calculation (ap arith_code_of (sym e) ∙ arith_codes (k - 15) (omega arith)))

pub binary_18 : {k : ℕ} → 18 ≤ k → k < 20 → binary_of k ≡ divide (division_of (k - 18))
unfolding binary_of
binary_18 {k} h l =
    let e : 18 + (k - 18) ≡ k = omega arith in
    rw (ne_eqb k 13 (λ x. omega arith), ne_eqb k 14 (λ x. omega arith), le-ltb k 18 h, lt-ltb k 20 l) (ap divide (ap division_code_of (sym e) ∙ division_codes (k - 18) (omega arith)))

pub binary_20 : {k : ℕ} → k ≡ 20 → binary_of k ≡ includes
unfolding binary_of
binary_20 e = rw e

pub binary_21 : {k : ℕ} → k ≡ 21 → binary_of k ≡ including
unfolding binary_of
binary_21 e = rw e

pub binary_37 : {k : ℕ} → k ≡ 37 → binary_of k ≡ over
unfolding binary_of
binary_37 e = rw e

pub binary_22 : {k : ℕ} → 22 ≤ k → (k ≡ 37 → ⊥) → binary_of k ≡ union
unfolding binary_of
binary_22 {k} h n = rw (ne_eqb k 13 (λ x. omega arith), ne_eqb k 14 (λ x. omega arith), le-ltb k 18 (omega arith), le-ltb k 20 (omega arith), ne_eqb k 20 (λ x. omega arith), ne_eqb k 21 (λ x. omega arith), ne_eqb k 37 n)

pub binary_by : (k : ℕ) {b : Binary} {Ok : Mark → Type 0} {sp la lb s : ℕ} {B A : List ℕ} {r : Ended} → binary_of k ≡ b → OfTwo Ok (λ m. binary_apply m b) sp la lb s B A r → OfTwo Ok (λ m. binary_apply m (binary_of k)) sp la lb s B A r
binary_by k e x = rw e x
