-- What an answered edit has met: as a V line it would have been taken, there is room, and the verdicts fit. So the sheet stays good.
-- Assumes nothing.
use mathlib.Core.Path.{◌≡◌, refl, sym, ap, ◌∙◌, subst}
use mathlib.Core.Bool.{Bool, true, false, ◌&&◌}
use mathlib.Core.Option.{Option, none, some}
use mathlib.Core.List.{List, []}
use Prim.Native.Nat.{ℕ, ◌≤◌}
use native.Mathlib.Omega.{arith}
use lib.ListN.{length}
use lib.Dec.{T, ltb}
use Rattle.std.specs.Prelude.{if◌then◌else◌}
use Rattle.laws.specs.Lists.{Each, each_nil, each-cons}
use Rattle.laws.proofs.Tests.{by-if}
use Rattle.ocl.specs.Types.{class}
use Rattle.ocl.specs.Values.{Value}
use Rattle.ocl.specs.Model.{is_a}
use Rattle.sheet.specs.Lines.{Line, value_line}
use Rattle.sheet.specs.Texts.{on_text}
use Rattle.sheet.specs.Sheet.{Slot, Sheet, model_of}
use Rattle.sheet.specs.Limits.{within_limits}
use Rattle.sheet.specs.Refusals.{in_order, parts_known, calls_smaller, calls_known, suits, tree_holds}
use Rattle.sheet.specs.Reading.{Step, taken, refuse, must, step_line}
use Rattle.sheet.specs.Calls.{Verdict, refusal_at, refusal}
use Rattle.sheet.proofs.Ascending.{Ascending}
use Rattle.sheet.proofs.Good.{Good, SlotOk, plain, sheet_numbers, none_open, blocks_none}
use Rattle.sheet.proofs.GoodLines.{Met, slot_ok}
use Rattle.board.specs.Edits.{Edit, slot_for, edited, with_slots, judged_value, judged, has_room}
use Rattle.board.specs.Board.{Board, all_verdicts, valued, renewed_steps, after}
use Rattle.board.specs.Calls.{on_judged, answered, edit_on}
use Rattle.board.proofs.Slots.{each_edited, ascending_edited}
use Rattle.board.proofs.Facts.{Fact, fact_same, fact_of}

-- ---- a judgement that refuses has a number

data Judgement : Step → Type 0 where
  passes : {s : Sheet} → Judgement (taken s)
  refuses : {n : ℕ} → 1 ≤ n → Judgement (refuse n)

must_judge : (b : Bool) (n : ℕ) {x : Step} → 1 ≤ n → Judgement x → Judgement (must b n x)
unfolding must
must_judge true n l h = h
must_judge false n l h = refuses l

line_judged : (s : Sheet) (k : ℕ) (l : Line) → Judgement (step_line s k l)
unfolding step_line
line_judged s k l =
    must_judge (within_limits s l) 4 (omega arith) (must_judge (in_order s l) 5 (omega arith) (must_judge (parts_known s l) 6 (omega arith)
    (must_judge (calls_smaller s l) 23 (omega arith) (must_judge (calls_known s l) 24 (omega arith) (must_judge (suits s l) 7 (omega arith)
    (must_judge (tree_holds s l) 8 (omega arith) passes))))))

value_judged : (s : Sheet) (o a : ℕ) (v : Option Value) → Judgement (judged_value s o a v)
unfolding judged_value
value_judged s o a (some v) = line_judged (with_slots s 3 []) 1 (value_line o a v)
value_judged s o a none =
    must_judge (ltb o 96 && ltb a 64) 4 (omega arith) (must_judge (ltb o (length s.objects) && ltb a (length s.rows)) 6 (omega arith)
    (must_judge (is_a (model_of s) o (class ((model_of s).row a).owner)) 7 (omega arith) passes))

-- ---- one that passes

unfoldable pub Passed : Step → Type 0
Passed (taken s) = Unit
Passed (refuse n) = ⊥

passed_of : {x : Step} (v : Verdict) → Judgement x → (on_judged x v).number ≡ 0 → Passed x × (on_judged x v ≡ v)
unfolding on_judged refusal_at Passed
passed_of v passes e = (tt, refl)
passed_of v (refuses l) e = absurd (omega arith)

must_passed : (b : Bool) (n : ℕ) (x : Step) → Passed (must b n x) → T b × Passed x
unfolding must Passed
must_passed true n x h = (tt, h)
must_passed false n x h = absurd h

pub met_of : (s : Sheet) (k o a : ℕ) (v : Value) → Passed (step_line s k (value_line o a v)) → Met s (value_line o a v)
unfolding step_line on_text
met_of s k o a v h =
    let l = value_line o a v in
    let b = must_passed (within_limits s l) 4 _ h in
    let c = must_passed (in_order s l) 5 _ b.1 in
    let d = must_passed (parts_known s l) 6 _ c.1 in
    let e = must_passed (calls_smaller s l) 23 _ d.1 in
    let f = must_passed (calls_known s l) 24 _ e.1 in
    let g = must_passed (suits s l) 7 _ f.1 in
    let i = must_passed (tree_holds s l) 8 _ g.1 in
    record { brackets = tt; sentence = tt; limits = b.0; order = c.0; parts = d.0; smaller = e.0; known = f.0; suit = g.0; tree = i.0 }

new_ok : (s : Sheet) (o a : ℕ) (v : Option Value) → Passed (judged_value s o a v) → Each (SlotOk (plain s)) (slot_for o a v)
unfolding judged_value slot_for plain with_slots
new_ok s o a none h = each_nil
new_ok s o a (some v) h = each-cons (slot_ok (with_slots s 3 []) o a v (met_of (with_slots s 3 []) 1 o a v h)) each_nil

pub new_fact : (s : Sheet) (o a : ℕ) (v : Option Value) → Passed (judged_value s o a v) → Each (Fact s) (slot_for o a v)
unfolding judged_value slot_for with_slots
new_fact s o a none h = each_nil
new_fact s o a (some v) h =
    let x : Slot = record { object = o; row = a; value = v } in
    each-cons (fact_same (with_slots s 3 []) s x refl refl refl (fact_of (with_slots s 3 []) x (met_of (with_slots s 3 []) 1 o a v h))) each_nil

-- ---- an answered edit

-- what it says: the verdicts, and the steps of the rules that see its row
pub record Said (s : Sheet) (b : Board) (e : Edit) (v : Verdict) : Type 0 where
  pub output : v.output ≡ all_verdicts (after s b e)
  pub steps : v.steps ≡ renewed_steps (valued s (edited b.slots e)) e.row s.rules

pub record Answered (room : ℕ) (s : Sheet) (b : Board) (e : Edit) : Type 0 where
  pub passed : Passed (judged s e)
  pub room_left : T (has_room (edited b.slots e))
  pub said : Said s b e (edit_on room s b (some e))

pub answered_of : (room : ℕ) (s : Sheet) (b : Board) (e : Edit) → (edit_on room s b (some e)).number ≡ 0 → Answered room s b e
unfolding edit_on judged
answered_of room s b e q =
    let v : Verdict = if has_room (edited b.slots e) then answered room s b e else refusal_at 21 1 in
    let p = passed_of v (value_judged s e.object e.row e.value) q in
    let z = roomed (ap (λ (w : Verdict). w.number) (sym p.1) ∙ q) in
    record { passed = p.0; room_left = z.0; said = subst (Said s b e) (sym p.1) z.1 }
  where
    fits : (answered room s b e).number ≡ 0 → Said s b e (answered room s b e)
    fits = unfold answered refusal refusal_at in by-if (λ (w : Verdict). w.number ≡ 0 → Said s b e w) (ltb room (length (all_verdicts (after s b e)))) _ _ (λ t i. absurd (omega arith)) (λ t i. record { output = refl; steps = refl })

    roomed : (if has_room (edited b.slots e) then answered room s b e else refusal_at 21 1).number ≡ 0
        → T (has_room (edited b.slots e)) × Said s b e (if has_room (edited b.slots e) then answered room s b e else refusal_at 21 1)
    roomed = unfold refusal_at in by-if (λ (w : Verdict). w.number ≡ 0 → T (has_room (edited b.slots e)) × Said s b e w)
        (has_room (edited b.slots e)) _ _ (λ t i. (t, fits i)) (λ t i. absurd (omega arith))

-- ---- the sheet stays good

-- with other slots
pub good_with : (s : Sheet) {xs : List Slot} → Good s → Each (SlotOk (plain s)) xs → Ascending xs → Good (valued s xs)
unfolding valued with_slots plain sheet_numbers
good_with s g h a = record {
  parents = g.parents;
  rows = g.rows;
  early = λ l. absurd (omega arith);
  slots = h;
  ascending = a;
  definitions = g.definitions;
  rules = g.rules;
  distinct = g.distinct;
  earlier = λ c e. absurd (let z : ◌≡◌ {A = ℕ} 0 1 = cc in omega arith);
  few = g.few;
  blocks = blocks_none (λ l. absurd (omega arith));
  current = none_open;
  room = λ c e. absurd (let z : ◌≡◌ {A = ℕ} 0 1 = cc in omega arith);
}

pub good_edited : (s : Sheet) (xs : List Slot) (e : Edit) → Good (valued s xs) → Passed (judged s e) → Good (valued s (edited xs e))
unfolding valued with_slots edited judged plain
good_edited s xs e g h =
    good_with (valued s xs) g (each_edited e.object e.row e.value g.slots (new_ok s e.object e.row e.value h))
    (ascending_edited e.object e.row e.value g.ascending)

-- and so is the sheet that the board is made from
pub good_made : (s : Sheet) → Good s → Good (valued s s.slots)
good_made s g = good_with s g g.slots g.ascending
