-- An edit's line by itself: a value taken as the first one of a sheet, and the edit's own slot. Assumes nothing.
use mathlib.Core.Path.{◌≡◌, refl, sym, ap, ◌∙◌, subst}
use mathlib.Core.Bool.{true, false}
use mathlib.Core.Option.{some, none-ne-some, some-injective}
use mathlib.Core.List.{List, [], ◌∷◌}
use Prim.Native.Nat.{ℕ, ◌+◌, ◌*◌, ◌<◌}
use native.Mathlib.Omega.{arith}
use lib.ListN.{get_or}
use Rattle.memory.specs.Map as memory
use Rattle.ocl.specs.Values.{Value}
use Rattle.sheet.specs.Text.{Bytes, bytes, fields_of}
use Rattle.sheet.specs.Lines.{value_line, is}
use Rattle.sheet.specs.Sheet.{Slot, Sheet, added}
use Rattle.sheet.specs.Reading.{Step, taken, refuse, step_line, step}
use Rattle.sheet.proofs.GoodLines.{slot_ok}
use Rattle.board.specs.Edits.{Edit, edit_of, slot_for, with_slots, judged_value, judged}
use Rattle.board.specs.Laws.{on_taken, take_slots}
use Rattle.board.proofs.Facts.{met_taken}
use Rattle.board.proofs.Judged.{Passed, met_of}
use Rattle.board.proofs.AsLines.{taken_same, not_taken}
use Rattle.tables.specs.declared.Counts.{Counts}
use Rattle.tables.specs.Layout.{slot_key, Holds, Fine, Moved, moved_next}
use Rattle.tables.proofs.Tables.{kept_refl, tab_at}
use Rattle.tables.proofs.Steps.{step_bad, step_line_lem}
use Rattle.slots.specs.Slots.{TookSlot}
use Rattle.slots.proofs.LineLaws.{value_plain}
use Rattle.replay.specs.Judging.{empty_counts, clears_line, judged_edit, JudgedAs, judged_stop, judged_key, Judges, OwnTook}
use Rattle.replay.proofs.TakingLaws.{onward, stopped}
use Rattle.replay.proofs.ValuedLaws.{empty_held, empty_rows}
use Rattle.replay.proofs.EditFieldLaws.{EditLine, neither, both, edit_line, cleared_none}
use Rattle.std.specs.Prelude.{Result, Ok, Err}
use Rattle.memory.specs.declared.refusals.Refusal.{Refusal}

-- ---- a value

-- the line as the sheet without values judges it
edit_step : (line : Bytes) → is (get_or (fields_of line) 0 []) (bytes "V") ≡ true → clears_line (fields_of line) ≡ false → (s : Sheet)
    → judged_edit s (edit_of (fields_of line)) ≡ step (with_slots s 3 []) 1 (fields_of line)
unfolding judged_edit judged judged_value
edit_step line letter clears s = by (edit_line (fields_of line) letter clears)
  where
    by : EditLine (fields_of line) → judged_edit s (edit_of (fields_of line)) ≡ step (with_slots s 3 []) 1 (fields_of line)
    by (neither e f) = ap (judged_edit s) f ∙ sym (step_bad (with_slots s 3 []) 1 (fields_of line) e)
    by (both o a v e f) = ap (judged_edit s) f ∙ sym (step_line_lem (with_slots s 3 []) 1 (fields_of line) (value_plain o a v) e)

-- the first slot of the sheet without values
abbrev slot_of : ℕ → ℕ → Value → Slot
slot_of o a v = record { object = o; row = a; value = v }

first_slot : (s : Sheet) (o a : ℕ) (v : Value) (t : Sheet) → judged_value s o a (some v) ≡ taken t → (t ≡ with_slots s 3 (slot_of o a v ∷ [])) × (a < 64)
unfolding judged_value added with_slots
first_slot s o a v t e =
    let m = met_of (with_slots s 3 []) 1 o a v (subst Passed (sym e) (unfold Passed in tt)) in
    (sym (taken_same (sym (met_taken (with_slots s 3 []) 1 (slot_of o a v) m) ∙ e)), (slot_ok (with_slots s 3 []) o a v m).low_row)

first_key : {st : Counts} {v0 w1 : List ℕ} (s : Sheet) (o a : ℕ) (v : Value) → Holds st v0 w1 (with_slots s 3 (slot_of o a v ∷ [])) → get_or v0 memory.keys 0 ≡ o * 64 + a
unfolding with_slots slot_key
first_key {v0 = v0} s o a v g = sym (tab_at memory.keys 1 v0 0 (omega arith)) ∙ ap (λ (l : List ℕ). get_or l 0 0) g.tables.keys

emptied_again : {st next : Counts} {w0 v0 w1 : List ℕ} (s : Sheet) (xs : List Slot) → Holds st w0 w1 s → Holds next v0 w1 (with_slots s 3 xs) → Holds (empty_counts st) v0 w1 (with_slots s 3 [])
unfolding with_slots
emptied_again {st} s xs h g =
    empty_held st (g.counted.classes ∙ sym h.counted.classes) (g.counted.rows ∙ sym h.counted.rows) (g.counted.objects ∙ sym h.counted.objects)
    (g.counted.nodes ∙ sym h.counted.nodes) (g.counted.definitions ∙ sym h.counted.definitions) (g.counted.rules ∙ sym h.counted.rules) g

module _ {line : Bytes} {st : Counts} {w0 v0 : List ℕ} {r : Result Counts Refusal} (letter : is (get_or (fields_of line) 0 []) (bytes "V") ≡ true) (clears : clears_line (fields_of line) ≡ false)
    {su : Counts} (counts : su ≡ empty_counts st) (took : (w1 : List ℕ) (k : ℕ) → TookSlot su k line r w0 w1 v0 w1) where
  stepped : (w1 : List ℕ) (s : Sheet) → Holds st w0 w1 s → Moved v0 w1 r (judged_edit s (edit_of (fields_of line)))
  stepped w1 s h =
      rw (edit_step line letter clears s) ((took w1 1).is (with_slots s 3 []) (subst (λ c. Holds c w0 w1 (with_slots s 3 [])) (sym counts) (empty_held st refl refl refl refl refl refl h)) (empty_rows s))

  pub value_stop : {n : Refusal} → r ≡ Err n → (w1 : List ℕ) → Judges line st (Err n) w0 w1 v0
  value_stop {n} e w1 = record { is = λ s h. by s (subst (λ c. Moved v0 w1 c (judged_edit s (edit_of (fields_of line)))) e (stepped w1 s h)); kept = (took w1 1).kept0 }
    where
      by : (s : Sheet) → Moved v0 w1 (Err n) (judged_edit s (edit_of (fields_of line))) → JudgedAs line st s v0 w1 (Err n)
      by s m = judged_stop (stopped m)

  pub value_next : {next : Counts} → r ≡ Ok next → (w1 : List ℕ) → Judges line st (Ok (get_or v0 memory.keys 0)) w0 w1 v0
  unfolding judged_edit judged
  value_next {next} e w1 = record { is = λ s h. by s h (edit_line (fields_of line) letter clears) (subst (λ c. Moved v0 w1 c (judged_edit s (edit_of (fields_of line)))) e (stepped w1 s h)); kept = (took w1 1).kept0 }
    where
      by : (s : Sheet) → Holds st w0 w1 s → EditLine (fields_of line) → Moved v0 w1 (Ok next) (judged_edit s (edit_of (fields_of line))) → JudgedAs line st s v0 w1 (Ok (get_or v0 memory.keys 0))
      by s h (neither i j) m = not_taken (sym (ap (judged_edit s) j) ∙ (onward m).is)
      by s h (both o a v i j) m =
          let t = onward m in
          let q : judged_value s o a (some v) ≡ taken t.sheet = sym (ap (judged_edit s) j) ∙ t.is in
          let p = first_slot s o a v t.sheet q in
          let g : Holds next v0 w1 (with_slots s 3 (slot_of o a v ∷ [])) = subst (Holds next v0 w1) p.0 t.holds in
          subst (λ k. JudgedAs line st s v0 w1 (Ok k)) (sym (first_key s o a v g))
          (judged_key (record { object = o; row = a; value = some v }) t.sheet j q p.1 (emptied_again s (slot_of o a v ∷ []) h g))

-- ---- the edit's own slot

module _ {line : Bytes} {st : Counts} (letter : is (get_or (fields_of line) 0 []) (bytes "V") ≡ true) where
  pub own_cleared : {w0 w1 : List ℕ} → Fine st → clears_line (fields_of line) ≡ true → OwnTook line st (Ok st) w0 w1 w0
  unfolding slot_for take_slots
  own_cleared {w0} fine c = record {
    is = λ s e h m q. rw (cleared_none (fields_of line) e letter c q) (moved_next fine h);
    kept = kept_refl w0;
  }

  pub own_value : {w0 w1 v0 : List ℕ} {r : Result Counts Refusal} → clears_line (fields_of line) ≡ false → TookSlot st 1 line r w0 w1 v0 w1 → OwnTook line st r w0 w1 v0
  unfolding slot_for take_slots on_taken
  own_value {w0} {w1} {v0} {r} c took = record { is = λ s e h m q. by s e q (edit_line (fields_of line) letter c) (took.is s h m); kept = took.kept0 }
    where
      same : (y : Step) → on_taken y taken ≡ y
      same (taken t) = refl
      same (refuse n) = refl

      by : (s : Sheet) (e : Edit) → edit_of (fields_of line) ≡ some e → EditLine (fields_of line) → Moved v0 w1 r (step s 1 (fields_of line)) → Moved v0 w1 r (take_slots s (slot_for e.object e.row e.value))
      by s e q (neither i j) m = absurd (none-ne-some _ (sym j ∙ q))
      by s e q (both o a v i j) m =
          rw (← some-injective _ _ (sym j ∙ q)) (rw (same (step_line s 1 (value_line o a v)), ← step_line_lem s 1 (fields_of line) (value_plain o a v) i) m)
