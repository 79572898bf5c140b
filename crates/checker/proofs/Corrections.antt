-- The two calls about a running board, one after the other: from what is proved of calls that do as the definitions say, and from the calls'
-- contracts. Assumes nothing.
use mathlib.Core.Path.{◌≡◌, sym, ap, ◌∙◌}
use mathlib.Core.Logic.{◌≢◌}
use mathlib.Core.Option.{some}
use mathlib.Core.List.{List, [], ◌∷◌, ◌++◌}
use Prim.Native.Nat.{ℕ}
use lib.ListN.{length, take}
use Rattle.sheet.specs.Text.{Bytes}
use Rattle.sheet.specs.Reading.{sheet_in}
use Rattle.sheet.specs.Calls.{Verdict, output_after}
use Rattle.sheet.proofs.Accepted.{AcceptedSheet}
use Rattle.board.specs.Edits.{Edit, read_edit}
use Rattle.board.specs.Board.{made}
use Rattle.board.specs.Calls.{make_call, edit_call, after_line, Layout, board_after}
use Rattle.board.specs.Laws.{Runs, first, edit, RunSays}
use Rattle.board.specs.Laws.{refused as passed_over}
use Rattle.board.proofs.Board.{ready, made_accepted, is_board, is_edit}
use Rattle.board.proofs.Runs.{run_law}
use Rattle.opening.specs.declared.Answer.{Answer}
use Rattle.opening.specs.Answers.{answer_of, AnswersWith}
use Rattle.checker.specs.Boards.{AnswersMade, AnswersEdit}
use Rattle.checker.specs.Corrections.{said, slices, MakesByCall, EditsByCall, Turns, accepted, refused, CorrectionsOfCalls}
use Rattle.checker.specs.Corrections.{made as board-made}
use Rattle.checker.proofs.Soundness.{written}

-- ---- what a caller gets is the definition's verdict

module _ (v : Verdict) {a : Answer} {w0 w1 w2 v0 v1 v2 : List ℕ} {out now : Bytes} (z : AnswersWith v a w0 w1 w2 out v0 v1 v2 now) where
  said_is : said a now ≡ v
  said_is =
      ap (λ (b : Answer). record { number = b.number; steps = b.steps; place = b.place; output = take a.length now }) z.is
      ∙ ap (λ (o : Bytes). record { number = v.number; steps = v.steps; place = v.place; output = o }) (written v z)

  said_answer : a ≡ answer_of (said a now)
  said_answer = z.is ∙ ap answer_of (sym said_is)

pub makes_by_call : MakesByCall
makes_by_call l text a w0 w1 w2 words out v0 v1 v2 board now d =
    let e = said_is (make_call text w0 w1 w2 words out) d.call in
    record {
      is = e;
      words = d.laid ∙ ap (λ v. board_after v (l.lay (made (sheet_in text))) words) (sym e);
      out = d.call.output ∙ ap (λ v. output_after v out) (sym e);
    }

pub edits_by_call : EditsByCall
edits_by_call l text line a w0 w1 w2 words out v0 v1 v2 board now d = record {
  for = λ es b k h.
      let i = d.for es b k h in
      let e = said_is (edit_call text b line w0 w1 w2 words out) i.call in
      record {
        is = e;
        words = i.laid ∙ ap (λ v. board_after v (l.lay (after_line (sheet_in text) b (read_edit line))) words) (sym e);
        out = i.call.output ∙ ap (λ v. output_after v out) (sym e);
      };
}

-- ---- the turns as a run

module _ (l : Layout) (text : Bytes) where
  record Run (es : List Edit) (a : Answer) (words : List ℕ) (out : Bytes) : Type 0 where
    sheet : AcceptedSheet text
    verdict : Verdict
    answer : a ≡ answer_of verdict
    run : Runs l text es (slices words out) verdict

  says : {es : List Edit} {a : Answer} {words : List ℕ} {out : Bytes} (r : Run es a words out) → RunSays l text es (slices words out) r.verdict
  says {es} {a} {words} {out} r = run_law l text es (slices words out) r.verdict r.run

  first_run : {a : Answer} {w0 w1 w2 words v0 v1 v2 board : List ℕ} {out now : Bytes} → AnswersMade l text a w0 w1 w2 words out v0 v1 v2 board now → a.number ≡ 0 → Run [] a board now
  first_run {a} {w0} {w1} {w2} {words} {v0} {v1} {v2} {board} {out} {now} d n = record {
    sheet = made_accepted text w0 w1 w2 words out (sym (ap (λ (b : Answer). b.number) d.call.is) ∙ n);
    verdict = said a now;
    answer = said_answer (make_call text w0 w1 w2 words out) d.call;
    run = first w0 w1 w2 (makes_by_call l text a w0 w1 w2 words out v0 v1 v2 board now d) n;
  }

  module _ {es : List Edit} {last a : Answer} {w0 w1 w2 words v0 v1 v2 board : List ℕ} {out line now : Bytes} (r : Run es last words out)
      (d : AnswersEdit l text line a w0 w1 w2 words out v0 v1 v2 board now) where
    next_run : a.number ≡ 0 → {e : Edit} → read_edit line ≡ some e → Run (es ++ (e ∷ [])) a board now
    next_run n {e} q =
        let s = says r in
        record {
          sheet = r.sheet;
          verdict = said a now;
          answer = said_answer (edit_call text s.board line w0 w1 w2 words out) (d.for es s.board s.after_edits s.holds).call;
          run = edit r.run line w0 w1 w2 (edits_by_call l text line a w0 w1 w2 words out v0 v1 v2 board now d) n e q;
        }

    same_run : a.number ≢ 0 → Run es last board now
    same_run n = record {
      sheet = r.sheet;
      verdict = r.verdict;
      answer = r.answer;
      run = passed_over r.run line w0 w1 w2 (edits_by_call l text line a w0 w1 w2 words out v0 v1 v2 board now d) n;
    }

  run_of : {es : List Edit} {a : Answer} {words : List ℕ} {out : Bytes} → Turns l text es a words out → Run es a words out
  run_of (board-made d n) = first_run d n
  run_of (accepted t d n q) = next_run (run_of t) d n q
  run_of (refused t d n) = same_run (run_of t) d n

pub corrections_of_calls : CorrectionsOfCalls
corrections_of_calls l text es a words out t =
    let r = run_of l text t in
    let s = says l text r in
    let k = ready text r.sheet in
    let z = ap (λ (b : Answer). b.length) r.answer in
    record {
      report = ap (λ (n : ℕ). take n out) z ∙ s.lies ∙ s.report;
      length_of = z ∙ ap length s.report;
      board = s.board;
      lies = s.holds;
      board_is = is_board (sheet_in text) k es s.board s.after_edits;
      edit_is = is_edit (sheet_in text) k es s.board s.after_edits;
      next = λ line b w0 w1 w2 v0 v1 v2 later now d.
          let h = edits_by_call l text line b w0 w1 w2 words out v0 v1 v2 later now d in
          let x = s.answered line w0 w1 w2 (slices later now) (said b now) h in
          record {
            leaves = λ n e q. (x n e q).holds;
            steps = λ n e q. (x n e q).steps;
            unchanged = s.unchanged line w0 w1 w2 (slices later now) (said b now) h;
          };
    }
