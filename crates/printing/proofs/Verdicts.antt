-- From what a call promises to what its program prints. Assumes nothing.
use Prim.Native.Nat.{ℕ, ◌+◌, ◌≤◌}
use mathlib.Core.Path.{◌≡◌, refl, sym, ap, ◌∙◌}
use mathlib.Core.Logic.{◌≢◌}
use mathlib.Core.List.{List}
use native.Mathlib.Omega.{arith}
use borrow.Author.Tests.{ne_eqb, eq-eqb}
use lib.ListN.{length, take, drop, length-append}
use lib.Seq.{take_at}
use Rattle.sheet.specs.Text.{Bytes}
use Rattle.sheet.specs.Calls.{Verdict, refusal_at, output_after, short_words, short_output}
use Rattle.sheet.specs.Report.{report_of, report_call, printed, program}
use Rattle.sheet.specs.Rows.{rows_into, rows_call, rows_program}
use Rattle.sheet.specs.Origin.{origins_of, origin_call, origin_program}
use Rattle.sheet.specs.Profile.{profile_of, profile_call}
use Rattle.opening.specs.Answers.{AnswersWith}
use Rattle.opening.specs.declared.Answer.{Answer}
use Rattle.text.specs.Written.{Puts}
use Rattle.printing.specs.Printed.{Front}
use Rattle.printing.specs.Answered.{Prints}

-- what was written from the start stands at the front
puts_front : {w a b : Bytes} {r : ℕ} → Puts 0 w a b r × (r ≤ length b) → Front w b r
puts_front {w} {a} {b} {r} (p, room) = record {
  size = p.end ∙ omega arith;
  room = room;
  is = ap (take r) p.is ∙ take_at w (drop (0 + length w) a) r (omega (arith, p.end));
}

-- an answer's bytes stand at the front of the output
answer_front : (v : Verdict) (out : Bytes) → v.number ≡ 0 → Front (printed v) (output_after v out) (length v.output)
unfolding printed output_after
answer_front v out h = rw (eq-eqb v.number 0 h) (record {
  size = refl;
  room = simp length-append (omega arith);
  is = take_at v.output (drop (length v.output) out) (length v.output) refl;
})

-- a refusal is told by its number and place
refusal_printed : (v : Verdict) → v.number ≢ 0 → printed (refusal_at v.number v.place) ≡ printed v
unfolding printed refusal_at
refusal_printed v h = rw (ne_eqb v.number 0 h)

-- ---- what is printed for an answer

pub prints_answer : {a : Answer} (left : Bytes) → a.number ≡ 0 → Prints a left left a.length
prints_answer left h = record { is = λ v out e q. rw (e, q) (answer_front v out (sym (ap (λ (x : Answer). x.number) e) ∙ h)) }

pub prints_refusal : {a : Answer} {left after : Bytes} {r : ℕ} → a.number ≢ 0
    → Puts 0 (printed (refusal_at a.number a.place)) left after r × (r ≤ length after) → Prints a left after r
prints_refusal h p = record { is = λ v out e q. rw (← refusal_printed v (rw e at h)) (puts_front (rw e at p)) }

-- ---- nothing is short

module _ (text : Bytes) (w0 w1 w2 : List ℕ) (out : Bytes) (long0 : length w0 ≡ 8192) (long1 : length w1 ≡ 8192) (long2 : length w2 ≡ 8192) (room : length out ≡ 65536) where
  report_lent : report_call text w0 w1 w2 out ≡ report_of text 65536
  unfolding report_call short_words short_output
  report_lent = rw (long0, long1, long2, room)

  rows_lent : rows_call text w0 w1 w2 out ≡ rows_into text 65536
  unfolding rows_call short_words short_output
  rows_lent = rw (long0, long1, long2, room)

  origins_lent : origin_call text w0 w1 w2 out ≡ origins_of text 65536
  unfolding origin_call short_words short_output
  origins_lent = rw (long0, long1, long2, room)

  profile_lent : profile_call text w0 w1 w2 out ≡ profile_of text
  unfolding profile_call short_words short_output
  profile_lent = rw (long0, long1, long2, room)

  module _ {a : Answer} {v0 v1 v2 : List ℕ} {left after : Bytes} {r : ℕ} (p : Prints a left after r) where
    pub report_printed : AnswersWith (report_call text w0 w1 w2 out) a w0 w1 w2 out v0 v1 v2 left → Front (program text) after r
    unfolding program
    report_printed told = rw report_lent at (p.is (report_call text w0 w1 w2 out) out told.is told.output)

    pub rows_printed : AnswersWith (rows_call text w0 w1 w2 out) a w0 w1 w2 out v0 v1 v2 left → Front (rows_program text) after r
    unfolding rows_program
    rows_printed told = rw rows_lent at (p.is (rows_call text w0 w1 w2 out) out told.is told.output)

    pub origins_printed : AnswersWith (origin_call text w0 w1 w2 out) a w0 w1 w2 out v0 v1 v2 left → Front (origin_program text) after r
    unfolding origin_program
    origins_printed told = rw origins_lent at (p.is (origin_call text w0 w1 w2 out) out told.is told.output)

    pub profile_printed : AnswersWith (profile_call text w0 w1 w2 out) a w0 w1 w2 out v0 v1 v2 left → Front (printed (profile_of text)) after r
    profile_printed told = rw profile_lent at (p.is (profile_call text w0 w1 w2 out) out told.is told.output)
