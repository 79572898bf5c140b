-- The two calls about a running board: what is too short, and the whole calls.
use mathlib.Core.Path.{◌≡◌, refl, sym, ◌∙◌}
use mathlib.Core.Bool.{Bool, true, false, ◌||◌}
use mathlib.Core.List.{List}
use Prim.Native.Nat.{ℕ, ◌≤◌}
use native.Mathlib.Omega.{arith}
use borrow.Author.Tests.{ltb-false}
use lib.ListN.{length}
use lib.Dec.{ltb}
use Rattle.laws.proofs.Tests.{or_outer, or_middle, or-none}
use Rattle.memory.specs.Refusals.{number, at}
use Rattle.memory.specs.declared.refusals.Refusal.TheVariants.{ShortBench}
use Rattle.memory.specs.declared.refusals.Refused.{Refused}
use Rattle.sheet.specs.Text.{Bytes}
use Rattle.sheet.specs.Calls.{refusal_at, refusal, short_words, short_output}
use Rattle.sheet.specs.Report.{fitting}
use Rattle.sheet.specs.Soundness.{Lent}
use Rattle.board.specs.Board.{all_verdicts, made}
use Rattle.board.specs.Calls.{short_board, make_call, board_after, edit_on, edit_call}
use Rattle.board_words.proofs.Found.{layout}
use Rattle.opening.specs.declared.Answer.{Answer}
use Rattle.opening.specs.Answers.{answer_of}
use Rattle.opening.specs.Parts.{Wipes}
use Rattle.opening.proofs.Answers.{all_lent, untouched, finished, wiped_kept}
use Rattle.opening.proofs.Readings.{accepted_number}
use Rattle.answering.specs.Making.{LeavesMade}
use Rattle.checker.specs.Boards.{AnswersMade, AnswersEdit}
use Rattle.answering.proofs.ReportCalls.{fitting_number}
use Rattle.board.specs.Edits.{read_edit}
use Rattle.board.proofs.Ends.{edit_number_lem}
use Rattle.answering.specs.Editing.{LeavesEdit}

-- ---- lengths

module _ (w0 w1 w2 words : List ℕ) (out : Bytes) where
  pub short_some : {b : Bool} → b ≡ (short_words w0 w1 w2 || short_output out) → b ≡ true → b ≡ short_board w0 w1 w2 words out
  unfolding short_board
  short_some e h = h ∙ or_outer (short_words w0 w1 w2) (ltb (length words) 8192) (short_output out) (sym e ∙ h)

  pub short_words_lem : {b : Bool} → b ≡ (short_words w0 w1 w2 || short_output out) → b ≡ false → ltb (length words) 8192 ≡ short_board w0 w1 w2 words out
  unfolding short_board
  short_words_lem e h = or_middle (short_words w0 w1 w2) (ltb (length words) 8192) (short_output out) (sym e ∙ h)

pub board_lent : (w0 w1 w2 words : List ℕ) (out : Bytes) {b : Bool} → b ≡ short_board w0 w1 w2 words out → b ≡ false → Lent w0 w1 w2 out × (8192 ≤ length words)
unfolding short_board
board_lent w0 w1 w2 words out e h =
    let z = or-none (short_words w0 w1 w2) (ltb (length words) 8192) (short_output out) (sym e ∙ h) in
    (all_lent {w0 = w0} {w1 = w1} {w2 = w2} {out = out} refl z.0, ltb-false (length words) 8192 z.1)

-- ---- the call that makes a board

module _ {text : Bytes} {w0 w1 w2 words : List ℕ} {out : Bytes} {a : Answer} {b : Bool} (is : b ≡ short_board w0 w1 w2 words out) where
  pub make_short : {x : Refused} → b ≡ true → x ≡ at ShortBench 0 → a ≡ answer_of (refusal_at (number x.refusal) x.place) → AnswersMade layout text a w0 w1 w2 words out w0 w1 w2 words out
  unfolding make_call refusal refusal_at board_after
  make_short q s e = record { call = rw (sym is ∙ q) (untouched w0 w1 w2 out (rw s at e)); laid = rw (sym is ∙ q) }

  pub make_long : {v0 v1 v2 x0 x1 x2 board : List ℕ} {after : Bytes} → b ≡ false → LeavesMade text a w0 w1 w2 words out v0 v1 v2 board after → Wipes v0 v1 v2 x0 x1 x2
      → AnswersMade layout text a w0 w1 w2 words out x0 x1 x2 board after
  unfolding make_call
  make_long q d z = record {
    call = rw (sym is ∙ q) (finished (accepted_number text (λ s ts. fitting (length out) (all_verdicts (made s))) (λ s ts e f h. fitting_number (length out) (all_verdicts (made s)))) d.leaves z);
    laid = d.laid ∙ rw (sym is ∙ q);
  }

-- ---- the call that edits it

-- the words are as many after as before
pub edit_wide : {text line : Bytes} {a : Answer} {w0 w1 w2 words v0 v1 v2 board : List ℕ} {out after : Bytes} → Lent w0 w1 w2 out
    → LeavesEdit text line a w0 w1 w2 words out v0 v1 v2 board after → (8192 ≤ length v0) × (8192 ≤ length v1) × (8192 ≤ length v2)
edit_wide l k = (omega (arith, l.words0, k.kept0.size), omega (arith, l.words1, k.kept1.size), omega (arith, l.words2, k.kept2.size))

module _ {text line : Bytes} {w0 w1 w2 words : List ℕ} {out : Bytes} {a : Answer} {b : Bool} (is : b ≡ short_board w0 w1 w2 words out) where
  pub edit_short : {x : Refused} → b ≡ true → x ≡ at ShortBench 0 → a ≡ answer_of (refusal_at (number x.refusal) x.place) → AnswersEdit layout text line a w0 w1 w2 words out w0 w1 w2 words out
  unfolding edit_call refusal refusal_at board_after
  edit_short q s e = record {
    for = λ es c k i. record { call = rw (sym is ∙ q) (untouched w0 w1 w2 out (rw s at e)); laid = rw (sym is ∙ q) };
    words0 = rw (sym is ∙ q);
    words1 = rw (sym is ∙ q);
    words2 = rw (sym is ∙ q);
    board_size = refl;
    out_size = refl;
  }

  pub edit_long : {v0 v1 v2 x0 x1 x2 board : List ℕ} {after : Bytes} → b ≡ false → LeavesEdit text line a w0 w1 w2 words out v0 v1 v2 board after → Wipes v0 v1 v2 x0 x1 x2
      → AnswersEdit layout text line a w0 w1 w2 words out x0 x1 x2 board after
  unfolding edit_call
  edit_long q d z = record {
    for = λ es c k i. record {
      call = rw (sym is ∙ q) (finished (accepted_number text (λ s ts. edit_on (length out) s c (read_edit line)) (λ s ts e f h. edit_number_lem (length out) s c (read_edit line)))
          (record { gives = d.gives es c k i; kept0 = d.kept0; kept1 = d.kept1; kept2 = d.kept2 }) z);
      laid = d.laid es c k i ∙ rw (sym is ∙ q);
    };
    words0 = rw (sym is ∙ q) (z.words0 ∙ wiped_kept d.kept0);
    words1 = rw (sym is ∙ q) (z.words1 ∙ wiped_kept d.kept1);
    words2 = rw (sym is ∙ q) (z.words2 ∙ wiped_kept d.kept2);
    board_size = d.board_size;
    out_size = d.out_size;
  }
