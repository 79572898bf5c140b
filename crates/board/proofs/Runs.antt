-- Calls one after the other: each finds a board that lies in the two slices, and leaves one there. Assumes nothing.
use mathlib.Core.Path.{◌≡◌, refl, sym, ap, ◌∙◌, subst}
use mathlib.Core.Logic.{◌≢◌}
use mathlib.Core.Bool.{Bool, true, false}
use mathlib.Core.Option.{Option, none, some}
use mathlib.Core.List.{List, [], ◌∷◌, ◌++◌}
use Prim.Native.Nat.{ℕ}
use native.Mathlib.Omega.{arith}
use borrow.Author.Tests.{ne_eqb}
use lib.ListN.{length, take, drop}
use lib.Seq.{take_at}
use lib.Dec.{eqb, ltb}
use Rattle.std.specs.Prelude.{if◌then◌else◌}
use Rattle.laws.proofs.Tests.{by-if}
use Rattle.sheet.specs.Text.{Bytes}
use Rattle.sheet.specs.Sheet.{Sheet}
use Rattle.sheet.specs.Reading.{Step, taken, refuse, sheet_in}
use Rattle.sheet.specs.Calls.{Verdict, refusal_at, refusal, output_after}
use Rattle.sheet.specs.Report.{fitting}
use Rattle.sheet.proofs.Accepted.{AcceptedSheet, on_accepted_lem}
use Rattle.sheet.proofs.Soundness.{sheet_is}
use Rattle.sheet.proofs.RowLines.{fits}
use Rattle.board.specs.Edits.{Edit, read_edit, edited, judged, has_room}
use Rattle.board.specs.Board.{Board, all_verdicts, made, after}
use Rattle.board.specs.Calls.{short_board, make_call, on_judged, answered, edit_on, edit_call, after_line, Layout, Slices, Holds, board_after, After, none_yet, one_more}
use Rattle.board.specs.Laws.{Edits, Runs, first, edit, refused, EditLeaves, RunLaw}
use Rattle.board.proofs.Judged.{Said, answered_of}
use Rattle.board.proofs.Board.{ready, made_accepted, is_board}

-- ---- what an accepted text's calls come to

module _ (text : Bytes) (a : AcceptedSheet text) where
  make_is : (w0 w1 w2 words : List ℕ) (out : Bytes) → make_call text w0 w1 w2 words out ≡ (if short_board w0 w1 w2 words out then refusal 1 else fitting (length out) (all_verdicts (made (sheet_in text))))
  unfolding make_call
  make_is w0 w1 w2 words out =
      ap (λ v. if short_board w0 w1 w2 words out then refusal 1 else v)
      (on_accepted_lem text a (λ s ts. fitting (length out) (all_verdicts (made s))) ∙ ap (λ s. fitting (length out) (all_verdicts (made s))) (sym (sheet_is text a.sheet a.is)))

  make_output : (w0 w1 w2 words : List ℕ) (out : Bytes) → (make_call text w0 w1 w2 words out).number ≡ 0 → (make_call text w0 w1 w2 words out).output ≡ all_verdicts (made (sheet_in text))
  unfolding refusal refusal_at
  make_output w0 w1 w2 words out e =
      rw (make_is w0 w1 w2 words out)
      (by-if (λ (v : Verdict). v.number ≡ 0 → v.output ≡ all_verdicts (made (sheet_in text))) (short_board w0 w1 w2 words out) (refusal 1) (fitting (length out) (all_verdicts (made (sheet_in text))))
      (λ t q. absurd (omega arith)) (λ t. fits (length out) (all_verdicts (made (sheet_in text)))) (rw (make_is w0 w1 w2 words out) at e))

  pub edit_call_lem : (b : Board) (line : Bytes) (w0 w1 w2 words : List ℕ) (out : Bytes) → edit_call text b line w0 w1 w2 words out ≡ (if short_board w0 w1 w2 words out then refusal 1 else edit_on (length out) (sheet_in text) b (read_edit line))
  unfolding edit_call
  edit_call_lem b line w0 w1 w2 words out =
      ap (λ v. if short_board w0 w1 w2 words out then refusal 1 else v)
      (on_accepted_lem text a (λ s ts. edit_on (length out) s b (read_edit line)) ∙ ap (λ s. edit_on (length out) s b (read_edit line)) (sym (sheet_is text a.sheet a.is)))

-- 1, or what follows, which it is where the number is 0
unshort : (c : Bool) (v : Verdict) → (if c then refusal 1 else v).number ≡ 0 → (if c then refusal 1 else v) ≡ v
unfolding refusal refusal_at
unshort c v e = by-if (λ (w : Verdict). w.number ≡ 0 → w ≡ v) c (refusal 1) v (λ t q. absurd (omega arith)) (λ t q. refl) e

-- ---- a refusal writes nothing

abbrev Silent : Verdict → Type 0
Silent v = v.number ≢ 0 → v.output ≡ []

silent_judged : (x : Step) (v : Verdict) → Silent v → Silent (on_judged x v)
unfolding on_judged refusal_at
silent_judged (taken t) v h = h
silent_judged (refuse n) v h = λ q. refl

silent_edit : (room : ℕ) (s : Sheet) (b : Board) (o : Option Edit) → Silent (edit_on room s b o)
unfolding edit_on answered refusal refusal_at
silent_edit room s b none = λ q. refl
silent_edit room s b (some e) = silent_judged (judged s e) _ (by-if Silent (has_room (edited b.slots e)) _ _
    (λ t. by-if Silent (ltb room (length (all_verdicts (after s b e)))) _ _ (λ t q. refl) (λ t q. absurd (q refl))) (λ t q. refl))

silent_call : (c : Bool) (v : Verdict) → Silent v → Silent (if c then refusal 1 else v)
unfolding refusal refusal_at
silent_call true v h = λ q. refl
silent_call false v h = h

-- ---- the two slices

module _ (l : Layout) (b : Board) where
  -- what an answer leaves
  holds_after : (v : Verdict) (before later : Slices) → v.number ≡ 0 → v.output ≡ all_verdicts b → later.words ≡ board_after v (l.lay b) before.words → later.out ≡ output_after v before.out
      → Holds l b later
  unfolding board_after output_after
  holds_after v before later n o w u = record {
    in_words = ap (take 8192) (w ∙ ap (λ (k : ℕ). if eqb k 0 then l.lay b ++ drop 8192 before.words else before.words) n) ∙ take_at (l.lay b) (drop 8192 before.words) 8192 (l.whole b);
    in_bytes = ap (take (length (all_verdicts b))) (u ∙ ap (λ (c : Bytes). c ++ drop (length c) before.out) o) ∙ take_at (all_verdicts b) (drop (length (all_verdicts b)) before.out) (length (all_verdicts b)) refl;
  }

-- what a refusal leaves
words_kept : (v : Verdict) (laid words : List ℕ) → v.number ≢ 0 → board_after v laid words ≡ words
unfolding board_after
words_kept v laid words n = ap (λ (c : Bool). if c then laid ++ drop 8192 words else words) (ne_eqb v.number 0 n)

out_kept : (v : Verdict) (out : Bytes) → v.output ≡ [] → output_after v out ≡ out
unfolding output_after
out_kept v out e = ap (λ (c : Bytes). c ++ drop (length c) out) e

-- ---- a run

module _ (l : Layout) (text : Bytes) where
  record Standing (es : List Edit) (x : Slices) (v : Verdict) : Type 0 where
    accepted : AcceptedSheet text
    board : Board
    after_edits : After (sheet_in text) es board
    holds : Holds l board x
    output : v.output ≡ all_verdicts board

  unchanged_by : {es : List Edit} {x : Slices} {v : Verdict} → Standing es x v → (line : Bytes) (w0 w1 w2 : List ℕ) (later : Slices) (u : Verdict) → Edits l text line w0 w1 w2 x later u → u.number ≢ 0
      → (later.words ≡ x.words) × (later.out ≡ x.out)
  unchanged_by {es} {x} s line w0 w1 w2 later u h n =
      let k = h.for es s.board s.after_edits s.holds in
      let c = edit_call_lem text s.accepted s.board line w0 w1 w2 x.words x.out in
      let z : Silent u = subst Silent (sym (k.is ∙ c)) (silent_call (short_board w0 w1 w2 x.words x.out) _ (silent_edit (length x.out) (sheet_in text) s.board (read_edit line))) in
      (k.words ∙ words_kept u _ x.words n, k.out ∙ out_kept u x.out (z n))

  -- an answered edit
  module _ {es : List Edit} {x : Slices} {v : Verdict} (s : Standing es x v) (line : Bytes) (w0 w1 w2 : List ℕ) (later : Slices) (u : Verdict) (h : Edits l text line w0 w1 w2 x later u) (n : u.number ≡ 0)
      (e : Edit) (q : read_edit line ≡ some e) where
    answer_is : u ≡ edit_on (length x.out) (sheet_in text) s.board (some e)
    answer_is =
        let c = (h.for es s.board s.after_edits s.holds).is ∙ edit_call_lem text s.accepted s.board line w0 w1 w2 x.words x.out in
        c ∙ unshort (short_board w0 w1 w2 x.words x.out) (edit_on (length x.out) (sheet_in text) s.board (read_edit line)) (sym (ap (λ (w : Verdict). w.number) c) ∙ n)
        ∙ ap (edit_on (length x.out) (sheet_in text) s.board) q

    answer_number : (edit_on (length x.out) (sheet_in text) s.board (some e)).number ≡ 0
    answer_number = sym (ap (λ (w : Verdict). w.number) answer_is) ∙ n

    answer_says : Said (sheet_in text) s.board e u
    answer_says = subst (Said (sheet_in text) s.board e) (sym answer_is) (answered_of (length x.out) (sheet_in text) s.board e answer_number).said

    edit_leaves : EditLeaves l text s.board e later u
    unfolding after_line
    edit_leaves =
        let k = h.for es s.board s.after_edits s.holds in
        record {
          holds = holds_after l (after (sheet_in text) s.board e) u x later n answer_says.output
              (k.words ∙ ap (λ f. board_after u (l.lay (after_line (sheet_in text) s.board f)) x.words) q) k.out;
          steps = answer_says.steps;
        }

    edit_stands : Standing (es ++ (e ∷ [])) later u
    edit_stands = record {
      accepted = s.accepted;
      board = after (sheet_in text) s.board e;
      after_edits = one_more s.after_edits (length x.out) e answer_number;
      holds = edit_leaves.holds;
      output = answer_says.output;
    }

  run_stands : {es : List Edit} {x : Slices} {v : Verdict} → Runs l text es x v → Standing es x v
  run_stands (first w0 w1 w2 {before} {later} {v} m n) =
      let y = sym (ap (λ (w : Verdict). w.number) m.is) ∙ n in
      let a = made_accepted text w0 w1 w2 before.words before.out y in
      let o = ap (λ (w : Verdict). w.output) m.is ∙ make_output text a w0 w1 w2 before.words before.out y in
      record {
        accepted = a;
        board = made (sheet_in text);
        after_edits = none_yet;
        holds = holds_after l (made (sheet_in text)) v before later n o m.words m.out;
        output = o;
      }
  run_stands (edit {later = later} {v = v} r line w0 w1 w2 h n e q) = edit_stands (run_stands r) line w0 w1 w2 later v h n e q
  run_stands (refused {later = later} {v = v} r line w0 w1 w2 h n) =
      let s = run_stands r in
      let k = unchanged_by s line w0 w1 w2 later v h n in
      record {
        accepted = s.accepted;
        board = s.board;
        after_edits = s.after_edits;
        holds = record { in_words = ap (take 8192) k.0 ∙ s.holds.in_words; in_bytes = ap (take (length (all_verdicts s.board))) k.1 ∙ s.holds.in_bytes };
        output = s.output;
      }

pub run_law : RunLaw
run_law l text es x v r =
    let s = run_stands l text r in
    record {
      board = s.board;
      after_edits = s.after_edits;
      holds = s.holds;
      verdicts = s.output;
      report = s.output ∙ (is_board (sheet_in text) (ready text s.accepted) es s.board s.after_edits).report;
      lies = rw s.output s.holds.in_bytes;
      answered = edit_leaves l text s;
      unchanged = unchanged_by l text s;
    }
