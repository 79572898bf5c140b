-- Slots that a sheet takes as V lines, one after the other: there is room for them, they are good on the sheet, and they are taken again with
-- an edit made, unless there is no room for it. Assumes nothing.
use mathlib.Core.Path.{◌≡◌, refl, sym, ap, ◌∙◌, subst}
use mathlib.Core.Bool.{◌&&◌}
use mathlib.Core.List.{List, [], ◌∷◌, ◌++◌, append_assoc, append-nil}
use Prim.Native.Nat.{ℕ, ◌+◌}
use native.Mathlib.Omega.{arith}
use lib.ListN.{length}
use lib.Dec.{T, leb, leb→le, ltb, ltb→lt}
use Rattle.laws.specs.Lists.{Each, each_nil, each-cons}
use Rattle.laws.proofs.Tests.{and_l, and_r}
use Rattle.laws.proofs.Lists.{length_more}
use Rattle.ocl.specs.Values.{size}
use Rattle.sheet.specs.Sheet.{Slot, Sheet}
use Rattle.sheet.specs.Limits.{total_size, value_within, within_limits}
use Rattle.sheet.specs.Refusals.{numbered, after_slots, ordered}
use Rattle.sheet.specs.Reading.{Step, taken, refuse, step_line}
use Rattle.sheet.proofs.Ascending.{Ascending, ascending_nil, ascending_more}
use Rattle.sheet.proofs.Good.{Good, SlotOk, plain}
use Rattle.sheet.proofs.GoodLines.{Met, met_numbered, slot_ok}
use Rattle.sheet.proofs.SlotSizes.{size_more}
use Rattle.board.specs.Edits.{Edit, edited, with_slots, judged, has_room}
use Rattle.board.specs.Board.{valued}
use Rattle.board.specs.Laws.{on_taken, take_slots}
use Rattle.board.proofs.Slots.{each_edited, ascending_edited}
use Rattle.board.proofs.Facts.{line_for, Fact, fact_same, fact_of, met_taken}
use Rattle.board.proofs.Within.{room_of}
use Rattle.board.proofs.Judged.{Passed, met_of, new_fact, good_with}
use Rattle.board.proofs.Taken.{with_more, slots_taken}

step_sheet : Sheet → Step → Sheet
step_sheet u (taken s) = s
step_sheet u (refuse n) = u

pub taken_same : {s t : Sheet} → taken s ≡ taken t → s ≡ t
unfolding step_sheet
taken_same {s} e = ap (step_sheet s) e

pub not_taken : {A : Type 0} {n : ℕ} {t : Sheet} → refuse n ≡ taken t → A
not_taken e = absurd (let z : ◌≡◌ {A = ℕ} 0 1 = cc in omega arith)

module _ (s : Sheet) where
  pub record Lined (done xs : List Slot) (t : Sheet) : Type 0 where
    pub is : t ≡ with_slots s 3 (done ++ xs)
    pub room : T (has_room (done ++ xs))
    pub facts : Each (Fact s) xs
    pub good : Each (SlotOk (plain s)) xs
    pub ascending : Ascending (done ++ xs)

  -- a slot more
  room_more : (done : List Slot) (x : Slot) → Met (with_slots s 3 done) (line_for x) → T (has_room (done ++ (x ∷ [])))
  unfolding with_slots within_limits
  room_more done x m =
      let p = and_l (ltb x.object 96 && ltb x.row 64 && value_within x.value && ltb (length done) 1024) (leb (total_size done + size x.value) 2048) m.limits in
      let n = ltb→lt (length done) 1024 (and_r (ltb x.object 96 && ltb x.row 64 && value_within x.value) (ltb (length done) 1024) p) in
      let k = leb→le (total_size done + size x.value) 2048
      (and_r (ltb x.object 96 && ltb x.row 64 && value_within x.value && ltb (length done) 1024) (leb (total_size done + size x.value) 2048) m.limits) in
      room_of (done ++ (x ∷ [])) (omega (arith, length_more done x)) (omega (arith, size_more done x))

  after_more : (done : List Slot) (x : Slot) → Ascending done → Met (with_slots s 3 done) (line_for x) → Ascending (done ++ (x ∷ []))
  unfolding with_slots numbered
  after_more done x a m = ascending_more done x a (and_l (after_slots done x.object x.row) (ordered x.value) (met_numbered (with_slots s 3 done) (line_for x) m))

  fact_at : (done : List Slot) (x : Slot) → Met (with_slots s 3 done) (line_for x) → Fact s x
  fact_at done x m = unfold with_slots in fact_same (with_slots s 3 done) s x refl refl refl (fact_of (with_slots s 3 done) x m)

  good_at : (done : List Slot) (x : Slot) → Met (with_slots s 3 done) (line_for x) → SlotOk (plain s) x
  unfolding plain with_slots
  good_at done x m = slot_ok (with_slots s 3 done) x.object x.row x.value m

  lined_from : (xs done : List Slot) (t : Sheet) → T (has_room done) → Ascending done → take_slots (with_slots s 3 done) xs ≡ taken t → Lined done xs t
  unfolding take_slots on_taken
  lined_from [] done t r a e = record {
    is = sym (taken_same e) ∙ ap (with_slots s 3) (sym (append-nil done));
    room = subst (λ l. T (has_room l)) (sym (append-nil done)) r;
    facts = each_nil;
    good = each_nil;
    ascending = subst Ascending (sym (append-nil done)) a;
  }
  lined_from (x ∷ xs) done t r a e = by (step_line (with_slots s 3 done) 1 (line_for x)) refl e (lined_from xs (done ++ (x ∷ [])) t)
    where
      by : (y : Step) → step_line (with_slots s 3 done) 1 (line_for x) ≡ y → on_taken y (λ u. take_slots u xs) ≡ taken t
          → (T (has_room (done ++ (x ∷ []))) → Ascending (done ++ (x ∷ [])) → take_slots (with_slots s 3 (done ++ (x ∷ []))) xs ≡ taken t → Lined (done ++ (x ∷ [])) xs t)
          → Lined done (x ∷ xs) t
      by (refuse n) q e go = not_taken e
      by (taken u) q e go =
          let m = met_of (with_slots s 3 done) 1 x.object x.row x.value (subst Passed (sym q) (unfold Passed in tt)) in
          let i : u ≡ with_slots s 3 (done ++ (x ∷ [])) = taken_same (sym q ∙ met_taken (with_slots s 3 done) 1 x m) ∙ with_more s done x in
          let h = go (room_more done x m) (after_more done x a m) (ap (λ v. take_slots v xs) (sym i) ∙ e) in
          let z : (done ++ (x ∷ [])) ++ xs ≡ done ++ x ∷ xs = append_assoc done (x ∷ []) xs in
          record {
            is = h.is ∙ ap (with_slots s 3) z;
            room = subst (λ l. T (has_room l)) z h.room;
            facts = each-cons (fact_at done x m) h.facts;
            good = each-cons (good_at done x m) h.good;
            ascending = subst Ascending z h.ascending;
          }

  pub lined : {xs : List Slot} {t : Sheet} → take_slots (with_slots s 3 []) xs ≡ taken t → Lined [] xs t
  lined {xs} {t} e = lined_from xs [] t (room_of [] (omega arith) (unfold total_size in omega arith)) ascending_nil e

  -- the sheet with them
  pub good_lined : {xs : List Slot} {t : Sheet} → Good s → Lined [] xs t → Good (valued s xs)
  good_lined g h = good_with s g h.good h.ascending

  -- with an edit made
  pub lined_edited : {xs : List Slot} {t : Sheet} (e : Edit) → Lined [] xs t → Passed (judged s e) → T (has_room (edited xs e))
      → take_slots (with_slots s 3 []) (edited xs e) ≡ taken (with_slots s 3 (edited xs e))
  unfolding edited judged
  lined_edited {xs} e h p r =
      slots_taken s (edited xs e) (ascending_edited e.object e.row e.value h.ascending) r
      (each_edited e.object e.row e.value h.facts (new_fact s e.object e.row e.value p))
