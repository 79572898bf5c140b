-- The call that makes a running board. Assumes nothing.
use mathlib.Core.Path.{◌≡◌, sym, ap, ◌∙◌, subst}
use mathlib.Core.Logic.{◌≢◌}
use mathlib.Core.List.{List}
use Prim.Native.Nat.{ℕ}
use native.Mathlib.Omega.{arith}
use borrow.Author.Tests.{ne_eqb}
use lib.ListN.{length}
use Rattle.ocl.specs.Types.{Ty}
use Rattle.sheet.specs.Text.{Bytes}
use Rattle.sheet.specs.Sheet.{Sheet}
use Rattle.sheet.specs.Reading.{sheet_in}
use Rattle.sheet.specs.Calls.{Verdict, refusal_at, refusal, on_accepted}
use Rattle.sheet.specs.Report.{fitting}
use Rattle.sheet.proofs.Accepted.{accepted_of, on_accepted_lem}
use Rattle.sheet.proofs.Soundness.{sheet_is}
use Rattle.board.specs.Board.{all_verdicts, made}
use Rattle.board.specs.Calls.{board_after}
use Rattle.board.proofs.Verdicts.{verdicts_lines}
use Rattle.tables.specs.declared.Counts.{Counts}
use Rattle.tables.specs.Layout.{Kept}
use Rattle.report.specs.Reports.{report_on, SaysReport}
use Rattle.making.specs.Made.{MakesBoard}
use Rattle.board_words.specs.Layout.{board_words}
use Rattle.opening.specs.declared.Answer.{Answer}
use Rattle.opening.specs.Answers.{answer_of}
use Rattle.opening.specs.Parts.{OpensAs, opened, refused, OpensText, GivesFor}
use Rattle.opening.proofs.Readings.{leaves_on, leaves_stop}
use Rattle.answering.specs.Making.{LaysFor, LeavesMade}
use Rattle.std.specs.Prelude.{Option as Optional, Result, Ok, Err}
use Rattle.memory.specs.Refusals.{number}
use Rattle.memory.specs.declared.refusals.Refused.{Refused}

-- ---- on an accepted sheet

module _ {st : Counts} {w0 w1 w2 v2 : List ℕ} {out now : Bytes} {words board : List ℕ} {a : Answer} {r : Optional ℕ} (d : MakesBoard st w0 w1 w2 v2 out now words board r)
    (e : (v : Verdict) → SaysReport r v → a ≡ answer_of v) where
  pub make_gives : GivesFor st w0 w1 w2 (λ s ts. report_on s (length out)) a out now × LaysFor st w0 w1 w2 (length out) words board × Kept w2 v2
  make_gives = (record { for = λ s ts g i. record { is = e (report_on s (length out)) (d.is s ts g i); output = d.output s ts g i } }, record { for = d.laid }, d.kept)

-- ---- after a text is opened

-- all verdicts are the report's lines
verdicts_report : (s : Sheet) (room : ℕ) → report_on s room ≡ fitting room (all_verdicts (made s))
unfolding all_verdicts made
verdicts_report s room = ap (fitting room) (sym (verdicts_lines s 0 s.rules))

-- a text that is refused is refused with a number
pub never_none : (text : Bytes) (n k : ℕ) → ((f : Sheet → List Ty → Verdict) → on_accepted text f ≡ refusal_at n k) → n ≢ 0
unfolding refusal_at refusal
never_none text n k h z =
    let a = accepted_of text (λ s ts. refusal 18) (ap (λ (v : Verdict). v.number) (h (λ s ts. refusal 18)) ∙ z) in
    let q : ◌≡◌ {A = ℕ} 18 0 = ap (λ (v : Verdict). v.number) (sym (on_accepted_lem text a (λ s ts. refusal 18)) ∙ h (λ s ts. refusal 18)) ∙ z in
    omega arith

pub not_laid : (v : Verdict) (laid words : List ℕ) → v.number ≢ 0 → words ≡ board_after v laid words
unfolding board_after
not_laid v laid words n = rw (ne_eqb v.number 0 n)

abbrev verdict : Bytes → Sheet → List Ty → Verdict
verdict out s ts = fitting (length out) (all_verdicts (made s))

module _ {text : Bytes} {w0 w1 w2 v0 v1 v2 : List ℕ} {z : Result Counts Refused} {a : Answer} (t : OpensText text z w0 w1 w2 v0 v1 v2) (words : List ℕ) (out : Bytes) where
  pub make_given : {st : Counts} {x2 board : List ℕ} {after : Bytes} → z ≡ Ok st
      → GivesFor st v0 v1 v2 (λ s ts. report_on s (length out)) a out after → LaysFor st v0 v1 v2 (length out) words board → Kept v2 x2
      → LeavesMade text a w0 w1 w2 words out v0 v1 x2 board after
  make_given {st} {board = board} e g l k = record {
    leaves = leaves_on t (verdict out) e (record { for = λ s ts h i. rw (← verdicts_report s (length out)) (g.for s ts h i) }) k;
    laid = by (subst (OpensAs text v0 v1 v2) e t.is);
  }
    where
      by : OpensAs text v0 v1 v2 (Ok st) → board ≡ board_after (on_accepted text (verdict out)) (board_words (made (sheet_in text))) words
      by (opened s ts q h i) =
          l.for s ts h i ∙ ap (λ v. board_after v (board_words (made s)) words) (verdicts_report s (length out)
          ∙ sym (on_accepted_lem text (record { sheet = s; is = q; defined = h.defined; typing = record { types = ts; all = h.typed } }) (verdict out)))
          ∙ ap (λ u. board_after (on_accepted text (verdict out)) (board_words (made u)) words) (sym (sheet_is text s q))

  pub make_stopped : {x : Refused} → z ≡ Err x → a ≡ answer_of (refusal_at (number x.refusal) x.place) → LeavesMade text a w0 w1 w2 words out v0 v1 v2 words out
  unfolding refusal_at
  make_stopped {x} e q = record { leaves = leaves_stop t (verdict out) out e q; laid = by (subst (OpensAs text v0 v1 v2) e t.is) }
    where
      by : OpensAs text v0 v1 v2 (Err x) → words ≡ board_after (on_accepted text (verdict out)) (board_words (made (sheet_in text))) words
      by (refused {e = n} {k = k} h) = not_laid (on_accepted text (verdict out)) (board_words (made (sheet_in text))) words (λ i. never_none text (number n) k h (sym (ap (λ (v : Verdict). v.number) (h (verdict out))) ∙ i))
