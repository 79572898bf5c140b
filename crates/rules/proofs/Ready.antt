-- What typing and evaluation find in the words, of an accepted sheet that lies there. Assumes nothing.
use mathlib.Core.Path.{◌≡◌, sym, ap, ◌∙◌}
use mathlib.Core.Option.{none, some}
use mathlib.Core.List.{List}
use Prim.Native.Nat.{ℕ, ◌+◌, ◌<◌}
use native.Mathlib.Omega.{arith}
use native.Mathlib.Decide.{dec_lt}
use lib.ListN.{length, get_or, get_elem?, get_or-eq_default}
use lib.Dec.{ltb}
use borrow.Author.Tests.{lt-ltb, le-ltb}
use Rattle.std.specs.Prelude.{if◌then◌else◌}
use Rattle.laws.proofs.Lists.{each_imp}
use Rattle.laws.proofs.Elements.{elem_some, elem_none}
use Rattle.memory.specs.Map as memory
use Rattle.ocl.specs.Model.{Row}
use Rattle.sheet.specs.Sheet.{Slot, Sheet, no_row, model_of}
use Rattle.sheet.proofs.Good.{Good}
use Rattle.sheet.proofs.Acceptance.{good_model}
use Rattle.sheet.proofs.Soundness.{good_refusals, good_definition_refusals}
use Rattle.tables.specs.declared.Counts.{Counts}
use Rattle.tables.specs.Layout.{Holds, Fine}
use Rattle.tables.specs.Stored.{HoldsModel}
use Rattle.tables.proofs.Tables.{tab_at}
use Rattle.outcomes.specs.Tables.{Plain}
use Rattle.rules.specs.Accepted.{InWords, Ready}
use Rattle.rules.proofs.Classes.{classes_held}
use Rattle.rules.proofs.Slots.{LowRows, slots_ascend, slots_stored}
use Rattle.rules.proofs.RulesIn.{node_line, definition_in, definition_there, rule_in, rule_there, rule_past, mark_told}

module _ {st : Counts} {w0 w1 : List ℕ} {s : Sheet} (fine : Fine st) (holds : Holds st w0 w1 s) (good : Good s) where
  low_rows : LowRows s.slots
  low_rows = each_imp (λ (x : Slot) h. h.low_row) good.slots

  object_class : (o : ℕ) → Dec (o < st.objects) → get_elem? s.objects o ≡ (if ltb o st.objects then some (get_or w0 (memory.objects + o) 0) else none)
  object_class o (yes l) =
      let z : o < length s.objects = (let c = holds.counted.objects in omega arith) in
      rw (lt-ltb o st.objects l)
      (elem_some s.objects o 0 z ∙ ap some (ap (λ (l : List ℕ). get_or l o 0) (sym holds.tables.objects) ∙ tab_at 256 (length s.objects) w0 o z))
  object_class o (no l) = rw (le-ltb o st.objects (omega arith)) (elem_none s.objects o (let c = holds.counted.objects in omega arith))

  model_held : HoldsModel st w0 (model_of s)
  unfolding model_of
  model_held = record {
    classes = classes_held holds.tables st.classes st.rows holds.counted.classes (let c = holds.counted.rows in omega arith);
    row_count = sym holds.counted.rows;
    object_count = sym holds.counted.objects;
    class_of = λ o. object_class o (dec_lt o st.objects);
    ascending = slots_ascend fine holds.counted holds.tables low_rows good.ascending;
    stored = slots_stored fine holds.counted holds.tables low_rows;
  }

  plain_model : Plain st (model_of s)
  unfolding model_of no_row
  plain_model = record {
    no_row_lem = λ i l. ap (λ (r : Row). r.owner) (get_or-eq_default s.rows no_row {n = i} (let c = holds.counted.rows in omega arith));
    small = (good_model s good).values_small;
  }

pub ready : {st : Counts} {w0 w1 : List ℕ} {s : Sheet} → InWords st w0 w1 s → Ready st w0 w1 s
unfolding model_of
ready {st} {s = s} a =
    let good = a.good in
    let c = a.holds.counted.rows in
    let f = a.fine.rows in
    record {
      classes = record { classes = classes_held a.holds.tables st.classes 64 a.holds.counted.classes (omega arith); count = sym c };
      model = model_held a.fine a.holds good;
      plain = plain_model a.fine a.holds good;
      definition = definition_in a.fine a.holds good;
      some_definition = definition_there a.fine a.holds;
      rule = rule_in a.fine a.holds good;
      some_rule = rule_there a.fine a.holds;
      no_rule = rule_past a.fine a.holds;
      place = λ r x n p e h. node_line a.fine a.holds p (good_refusals s good r x e n p h).on_sheet;
      definition_place = λ d x n p e h. node_line a.fine a.holds p (good_definition_refusals s good d x e n p h).on_sheet;
      mark = mark_told a.fine a.holds;
    }
