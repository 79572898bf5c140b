-- Demand 3 of the calls that read and evaluate, and that what stands for stuck is never seen: from what is proved of their definitions and
-- from the calls' contracts. Assumes nothing.
use mathlib.Core.Path.{◌≡◌, sym, ap, ◌∙◌, subst⁻¹}
use mathlib.Core.List.{List, ◌++◌}
use Prim.Native.Nat.{ℕ, ◌≤◌}
use lib.ListN.{length, get_elem?, take, drop}
use lib.Seq.{take-append_seam}
use Rattle.ocl.specs.Types.{Ty}
use Rattle.ocl.specs.Model.{Model}
use Rattle.sheet.specs.Text.{Bytes, bytes, lines_of}
use Rattle.sheet.specs.Spelling.{spell_value}
use Rattle.sheet.specs.Calls.{Verdict, output_after, read_call}
use Rattle.sheet.specs.Report.{report_call}
use Rattle.sheet.specs.Soundness.{Ending, undefined_end, value_end, stop_end}
use Rattle.sheet.proofs.Soundness.{read_lent, demand3}
use Rattle.sheet.proofs.NeverStuck.{never_stuck}
use Rattle.opening.specs.declared.Answer.{Answer}
use Rattle.opening.specs.Answers.{answer_of, AnswersWith}
use Rattle.checker.specs.Soundness.{Says, AnswerEnding, undefined_said, value_said, stop_said, Demand3OfCall, NeverStuckOfCall}

-- what is written is what the definition says
pub written : (v : Verdict) {a : Answer} {w0 w1 w2 v0 v1 v2 : List ℕ} {out after : Bytes} → AnswersWith v a w0 w1 w2 out v0 v1 v2 after → take a.length after ≡ v.output
unfolding output_after
written v {out = out} {after = after} z =
    ap (λ (b : Answer). take b.length after) z.is ∙ ap (take (length v.output)) z.output ∙ take-append_seam v.output (drop (length v.output) out)

module _ {a : Answer} {after : Bytes} (out : Bytes) where
  answer_says : (w : Bytes) (n : ℕ) → a ≡ answer_of (record { number = 0; steps = n; place = 0; output = w }) → after ≡ w ++ drop (length w) out → Says w a after
  answer_says w n e q = record {
    number = ap (λ (b : Answer). b.number) e;
    length_of = ap (λ (b : Answer). b.length) e;
    begins = ap (take (length w)) q ∙ take-append_seam w (drop (length w) out);
  }

  answer_ending : {m : Model} {t : Ty} {v : Verdict} → Ending m t v → a ≡ answer_of v → after ≡ output_after v out → AnswerEnding m t a after
  unfolding output_after
  answer_ending (undefined_end {n}) e q = undefined_said (answer_says (bytes "u") n e q)
  answer_ending (value_end {n} v b l r f) e q = value_said v b l r f (answer_says (spell_value v) n e q)
  answer_ending (stop_end c) e q = stop_said (rw (ap (λ (b : Answer). b.number) e) c)

pub demand3_of_call : Demand3OfCall
demand3_of_call text r o t x0 x1 x2 put k b y0 y1 y2 types y s h w0 w1 w2 out l a v0 v1 v2 after z =
    let was = read_call text x0 x1 x2 put in
    let same : read_call text w0 w1 w2 out ≡ was = read_lent text w0 w1 w2 out l ∙ sym (read_lent text x0 x1 x2 put k) in
    let accepted = ap (λ (v : Verdict). v.number) same ∙ sym (ap (λ (c : Answer). c.number) y.is) ∙ s.number in
    let line = ap (λ (v : Verdict). get_elem? (lines_of v.output) r) same ∙ ap (λ (w : Bytes). get_elem? (lines_of w) r) (sym (written was y)) ∙ s.line in
    let d = demand3 text w0 w1 w2 out l r o t accepted line h in
    let i = z.is in
    record {
      ending = answer_ending out d.ending i z.output;
      in_reach = rw i d.in_reach;
      no_step_stop = λ k n. d.no_step_stop k (ap (λ (b : Answer). b.number) (sym i) ∙ n);
    }

pub never_stuck_of_call : NeverStuckOfCall
never_stuck_of_call text w0 w1 w2 out a v0 v1 v2 after =
    let n = never_stuck text w0 w1 w2 out in
    record {
      read = λ z. subst⁻¹ (λ (b : Answer). b.number ≤ 24) z.is n.read_number;
      evaluated = λ r o z. subst⁻¹ (λ (b : Answer). b.number ≤ 24) z.is (n.evaluate_number r o);
      profiled = λ z. subst⁻¹ (λ (b : Answer). b.number ≤ 24) z.is n.profile_number;
      reported = λ z. subst⁻¹ (λ (b : Answer). b.number ≤ 24) z.is n.report_number;
      seen = λ z. subst⁻¹ (λ (b : Answer). b.number ≤ 24) z.is n.rows_number;
      traced = λ z. subst⁻¹ (λ (b : Answer). b.number ≤ 24) z.is n.origin_number;
      report_bytes = λ z b c e. n.report_bytes b c (sym (written (report_call text w0 w1 w2 out) z) ∙ e);
    }
