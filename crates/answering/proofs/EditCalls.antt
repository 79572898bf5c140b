-- The call that edits a running board. Assumes nothing.
use mathlib.Core.Path.{◌≡◌, refl, sym, ap, ◌∙◌, subst}
use mathlib.Core.List.{List, [], ◌∷◌}
use Prim.Native.Nat.{ℕ, suc}
use native.Mathlib.Omega.{arith}
use lib.ListN.{length}
use Rattle.ocl.specs.Types.{Ty}
use Rattle.sheet.specs.Text.{Bytes}
use Rattle.sheet.specs.Sheet.{Rule, Sheet}
use Rattle.sheet.specs.Reading.{accepted, read_text, sheet_in}
use Rattle.sheet.specs.Calls.{Verdict, refusal_at}
use Rattle.sheet.proofs.Accepted.{AcceptedSheet, on_accepted_lem}
use Rattle.sheet.proofs.Soundness.{sheet_is}
use Rattle.board.specs.Edits.{Edit, read_edit}
use Rattle.board.specs.Board.{Board, all_verdicts, verdicts_from}
use Rattle.board.specs.Calls.{edit_on, after_line, Holds, board_after, After}
use Rattle.board.specs.Laws.{BoardIs, sheet_with}
use Rattle.board.proofs.Board.{ready, is_board}
use Rattle.tables.specs.declared.Counts.{Counts}
use Rattle.tables.proofs.Tables.{kept_then}
use Rattle.rules.specs.Accepted.{Accepted}
use Rattle.board_words.specs.Layout.{board_words, BoardLies}
use Rattle.board_words.proofs.Found.{layout, board_lies, ends_lie}
use Rattle.editing.specs.Edited.{SaysEdit, written, refused, VerdictsLie, EditsBoard}
use Rattle.opening.specs.declared.Answer.{Answer}
use Rattle.opening.specs.Answers.{answer_of}
use Rattle.opening.specs.Parts.{OpensAs, opened, OpensText, GivesAnswer, written_to, refused as not_opened}
use Rattle.opening.proofs.Answers.{gives_refusal}
use Rattle.answering.specs.Editing.{EditsOn, edit_verdict, LeavesEdit}
use Rattle.answering.proofs.MakeCalls.{never_none, not_laid}
use Rattle.std.specs.Prelude.{Result, Ok, Err}
use Rattle.memory.specs.Refusals.{number}
use Rattle.memory.specs.declared.refusals.Refused.{Refused}

-- ---- what an edit comes to

module _ {a : Answer} {e : Result (ℕ × ℕ) Refused} where
  pub edit_written : {n k : ℕ} → e ≡ Ok (n, k) → a ≡ written_to n k → (v : Verdict) → SaysEdit e v → a ≡ answer_of v
  edit_written {n} {k} q p v z = by v (rw q at z)
    where
      by : (v : Verdict) → SaysEdit (Ok (n, k)) v → a ≡ answer_of v
      by _ (written b l) = rw l at p

  pub edit_refused : {x : Refused} → e ≡ Err x → a ≡ answer_of (refusal_at (number x.refusal) x.place) → (v : Verdict) → SaysEdit e v → a ≡ answer_of v
  edit_refused {x} q p v z = by v (rw q at z)
    where
      by : (v : Verdict) → SaysEdit (Err x) v → a ≡ answer_of v
      by _ refused = p

-- ---- on an accepted sheet

pub edits_on : {line : Bytes} {st : Counts} {u0 v0 w1 u2 v2 words board : List ℕ} {out after : Bytes} {e : Result (ℕ × ℕ) Refused} {a : Answer}
    → EditsBoard line st u0 v0 w1 u2 v2 words board out after e → ((v : Verdict) → SaysEdit e v → a ≡ answer_of v)
    → EditsOn line st u0 v0 w1 u2 v2 words board out after a
edits_on d q = record {
  gives = λ s ts g b l i. let p = d.for s ts g b l i in record { is = q _ p.is; output = p.output };
  laid = λ s ts g b l i. (d.for s ts g b l i).board;
  board_size = d.words_size;
  out_size = d.out_size;
  kept0 = d.kept0;
  kept2 = d.kept2;
}

-- ---- a board of the text that lies in the slices

verdicts_count : (s : Sheet) (r : ℕ) (xs : List Rule) → length (verdicts_from s r xs) ≡ length xs
unfolding verdicts_from
verdicts_count s r [] = refl
verdicts_count s r (x ∷ xs) = ap suc (verdicts_count s (suc r) xs)

module _ (text : Bytes) (t : AcceptedSheet text) (es : List Edit) (b : Board) (k : After (sheet_in text) es b) {words : List ℕ} {out : Bytes} (i : Holds layout b (record { words = words; out = out })) where
  here : BoardIs (sheet_in text) es b
  here = is_board (sheet_in text) (ready text t) es b k

  same : sheet_in text ≡ t.sheet
  same = sheet_is text t.sheet t.is

  slots_lie : BoardLies words t.sheet b
  slots_lie = rw same at (slots_in)
    where
      slots_in : BoardLies words (sheet_in text) b
      slots_in = record { lies = board_lies words b i.in_words here.room; as_lines = here.as_lines }

  verdicts_lie : {st : Counts} {w0 w1 : List ℕ} {ts : List Ty} → Accepted st w0 w1 t.sheet ts → VerdictsLie st.rules words out b.verdicts
  unfolding all_verdicts
  verdicts_lie g =
      let count = ap length here.by_rule ∙ verdicts_count (sheet_with (sheet_in text) es) 0 (sheet_in text).rules ∙ ap (λ (s : Sheet). length s.rules) same ∙ sym g.lies.holds.counted.rules in
      record { count = count; ends = ends_lie words b i.in_words (omega (arith, g.lies.fine.rules)); bytes = i.in_bytes }

-- ---- after a text is opened

module _ {text : Bytes} {w0 w1 w2 v0 v1 v2 : List ℕ} {z : Result Counts Refused} {a : Answer} (t : OpensText text z w0 w1 w2 v0 v1 v2) (line : Bytes) where
  pub edit_given : {st : Counts} {x0 x2 words board : List ℕ} {out after : Bytes} → z ≡ Ok st → EditsOn line st v0 x0 v1 v2 x2 words board out after a
      → LeavesEdit text line a w0 w1 w2 words out x0 v1 x2 board after
  edit_given {st} {x0} {x2} {words} {board} {out} {after} e d = record {
    gives = λ es b k i. gives es b k i (subst (OpensAs text v0 v1 v2) e t.is);
    laid = λ es b k i. laid es b k i (subst (OpensAs text v0 v1 v2) e t.is);
    board_size = d.board_size;
    out_size = d.out_size;
    kept0 = kept_then t.kept0 d.kept0;
    kept1 = t.kept1;
    kept2 = kept_then t.kept2 d.kept2;
  }
    where
      sheet_of : (s : Sheet) (ts : List Ty) → read_text text ≡ accepted s → Accepted st v0 v1 s ts → AcceptedSheet text
      sheet_of s ts q h = record { sheet = s; is = q; defined = h.defined; typing = record { types = ts; all = h.typed } }

      gives : (es : List Edit) (b : Board) → After (sheet_in text) es b → Holds layout b (record { words = words; out = out }) → OpensAs text v0 v1 v2 (Ok st)
          → GivesAnswer (edit_verdict text line b (length out)) a out after
      gives es b k i (opened s ts q h w) =
          let c = sheet_of s ts q h in
          rw (on_accepted_lem text c (λ s ts. edit_on (length out) s b (read_edit line))) (d.gives s ts h b (slots_lie text c es b k i) (verdicts_lie text c es b k i h))

      laid : (es : List Edit) (b : Board) → After (sheet_in text) es b → Holds layout b (record { words = words; out = out }) → OpensAs text v0 v1 v2 (Ok st)
          → board ≡ board_after (edit_verdict text line b (length out)) (board_words (after_line (sheet_in text) b (read_edit line))) words
      laid es b k i (opened s ts q h w) =
          let c = sheet_of s ts q h in
          rw (on_accepted_lem text c (λ s ts. edit_on (length out) s b (read_edit line)), sheet_is text s q)
          (d.laid s ts h b (slots_lie text c es b k i) (verdicts_lie text c es b k i h))

  pub edit_stopped : {x : Refused} (words : List ℕ) (out : Bytes) → z ≡ Err x → a ≡ answer_of (refusal_at (number x.refusal) x.place) → LeavesEdit text line a w0 w1 w2 words out v0 v1 v2 words out
  unfolding refusal_at
  edit_stopped {x} words out e q = record {
    gives = λ es b r i. gives b (subst (OpensAs text v0 v1 v2) e t.is);
    laid = λ es b r i. laid b (subst (OpensAs text v0 v1 v2) e t.is);
    board_size = refl;
    out_size = refl;
    kept0 = t.kept0;
    kept1 = t.kept1;
    kept2 = t.kept2;
  }
    where
      gives : (b : Board) → OpensAs text v0 v1 v2 (Err x) → GivesAnswer (edit_verdict text line b (length out)) a out out
      gives b (not_opened {e = n} {k = k} h) = rw (h (λ s ts. edit_on (length out) s b (read_edit line))) (gives_refusal (number n) k out q)

      laid : (b : Board) → OpensAs text v0 v1 v2 (Err x)
          → words ≡ board_after (edit_verdict text line b (length out)) (board_words (after_line (sheet_in text) b (read_edit line))) words
      laid b (not_opened {e = n} {k = k} h) =
          not_laid (edit_verdict text line b (length out)) (board_words (after_line (sheet_in text) b (read_edit line))) words
          (λ i. never_none text (number n) k h (sym (ap (λ (v : Verdict). v.number) (h (λ s ts. edit_on (length out) s b (read_edit line)))) ∙ i))
