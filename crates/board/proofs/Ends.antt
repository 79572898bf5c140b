-- How an edit ends: with 1, with 3 to 7 or 21 at 1, with 18, or with an answer. Assumes nothing.
use mathlib.Core.Path.{sym, subst}
use mathlib.Core.Logic.{◌≢◌}
use mathlib.Core.Bool.{Bool, true, false, ◌&&◌}
use mathlib.Core.Option.{Option, none, some}
use mathlib.Core.List.{[]}
use Prim.Native.Nat.{ℕ, ◌≤◌}
use native.Mathlib.Omega.{arith}
use lib.ListN.{length}
use lib.Dec.{T, eqb, ltb, leb, leb→le, eqb→eq}
use Rattle.laws.proofs.Tests.{and_r, or-e, by-if}
use Rattle.ocl.specs.Types.{class}
use Rattle.ocl.specs.Values.{Value}
use Rattle.ocl.specs.Model.{is_a}
use Rattle.sheet.specs.Lines.{value_line}
use Rattle.sheet.specs.Sheet.{Sheet, model_of}
use Rattle.sheet.specs.Limits.{within_limits}
use Rattle.sheet.specs.Refusals.{in_order, parts_known, calls_smaller, calls_known, suits, tree_holds}
use Rattle.sheet.specs.Reading.{Step, taken, refuse, must, step_line, sheet_in}
use Rattle.sheet.specs.Calls.{Verdict, refusal_at, refusal}
use Rattle.sheet.proofs.NeverStuck.{Low, fitting_low, accepted_low}
use Rattle.board.specs.Edits.{Edit, read_edit, edited, with_slots, judged_value, judged, has_room}
use Rattle.board.specs.Board.{Board, all_verdicts, after}
use Rattle.board.specs.Calls.{short_board, make_call, on_judged, answered, edit_on, edit_call}
use Rattle.board.specs.Laws.{edit_number, EditEnds, short_lent, refused_edit, too_long, answered_edit, EditNumbers, NeverStuckBoards}
use Rattle.board.proofs.Board.{made_accepted}
use Rattle.board.proofs.Runs.{edit_call_lem}

data EditStep : Step → Type 0 where
  passes : {s : Sheet} → EditStep (taken s)
  refuses : {n : ℕ} → T (edit_number n) → EditStep (refuse n)

must_step : (b : Bool) (n : ℕ) {x : Step} → T (edit_number n) → EditStep x → EditStep (must b n x)
unfolding must
must_step true n l h = h
must_step false n l h = refuses l

-- a V line calls no definition and has no operand, so that 23, 24 and 8 do not come
value_step : (s : Sheet) (o a : ℕ) (v : Option Value) → EditStep (judged_value s o a v)
unfolding judged_value step_line calls_smaller calls_known tree_holds must edit_number
value_step s o a (some v) = let l = value_line o a v in let u = with_slots s 3 [] in
    must_step (within_limits u l) 4 tt (must_step (in_order u l) 5 tt (must_step (parts_known u l) 6 tt (must_step (suits u l) 7 tt passes)))
value_step s o a none =
    must_step (ltb o 96 && ltb a 64) 4 tt (must_step (ltb o (length s.objects) && ltb a (length s.rows)) 6 tt
    (must_step (is_a (model_of s) o (class ((model_of s).row a).owner)) 7 tt passes))

on_step_lem : {x : Step} {v : Verdict} → EditStep x → EditEnds v → EditEnds (on_judged x v)
unfolding on_judged
on_step_lem passes h = h
on_step_lem (refuses {n} t) h = refused_edit n t

pub ends_on : (room : ℕ) (s : Sheet) (b : Board) (o : Option Edit) → EditEnds (edit_on room s b o)
unfolding edit_on answered judged edit_number
ends_on room s b none = refused_edit 3 tt
ends_on room s b (some e) = on_step_lem (value_step s e.object e.row e.value) (by-if EditEnds (has_room (edited b.slots e)) _ _
    (λ t. by-if EditEnds (ltb room (length (all_verdicts (after s b e)))) _ _ (λ t. too_long) (λ t. answered_edit _ _)) (λ t. refused_edit 21 tt))

-- it is no refusal of what is lent
number_on : {x : Step} (v : Verdict) → EditStep x → v.number ≢ 1 → (on_judged x v).number ≢ 1
unfolding on_judged refusal_at edit_number
number_on v passes h = h
number_on v (refuses {n} t) h = λ e. rw e at t

pub edit_number_lem : (room : ℕ) (s : Sheet) (b : Board) (o : Option Edit) → (edit_on room s b o).number ≢ 1
unfolding edit_on answered judged refusal refusal_at
edit_number_lem room s b none = λ e. omega arith
edit_number_lem room s b (some e) = number_on _ (value_step s e.object e.row e.value) (by-if (λ (v : Verdict). v.number ≢ 1) (has_room (edited b.slots e)) _ _
    (λ t. by-if (λ (v : Verdict). v.number ≢ 1) (ltb room (length (all_verdicts (after s b e)))) _ _ (λ t q. omega arith) (λ t q. omega arith)) (λ t q. omega arith))

pub edit_ends : EditNumbers
edit_ends text w0 w1 w2 words out e b line v0 v1 v2 lent room =
    subst EditEnds (sym (edit_call_lem text (made_accepted text w0 w1 w2 words out e) b line v0 v1 v2 lent room))
    (by-if EditEnds (short_board v0 v1 v2 lent room) (refusal 1) (edit_on (length room) (sheet_in text) b (read_edit line)) (λ t. short_lent) (λ t. ends_on (length room) (sheet_in text) b (read_edit line)))

-- ---- 100 is no number of these calls

low_number : (n : ℕ) → T (edit_number n) → n ≤ 24
unfolding edit_number
low_number n t = or-e (leb 3 n && leb n 7) (eqb n 21) t (λ u. let l = leb→le n 7 (and_r (leb 3 n) (leb n 7) u) in omega arith) (λ u. let e = eqb→eq n 21 u in omega arith)

low_end : {v : Verdict} → EditEnds v → Low v
unfolding refusal refusal_at
low_end short_lent = omega arith
low_end (refused_edit n t) = low_number n t
low_end too_long = omega arith
low_end (answered_edit n b) = omega arith

pub never_stuck_boards : NeverStuckBoards
unfolding make_call edit_call refusal refusal_at
never_stuck_boards text w0 w1 w2 words out = record {
  make_number = by-if Low (short_board w0 w1 w2 words out) _ _ (λ t. omega arith) (λ t. accepted_low text _ (λ s ts. fitting_low (length out) _));
  edit_number_lem = λ b line. by-if Low (short_board w0 w1 w2 words out) _ _ (λ t. omega arith) (λ t. accepted_low text _ (λ s ts. low_end (ends_on (length out) s b (read_edit line))));
}
