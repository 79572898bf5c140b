-- F-9 of the calls that read and evaluate: from what is proved of their definitions and from the calls' contracts. Assumes nothing.
use mathlib.Core.Path.{◌≡◌, sym, ap, ◌∙◌}
use mathlib.Core.List.{List}
use Prim.Native.Nat.{ℕ}
use Rattle.sheet.specs.Text.{Bytes}
use Rattle.sheet.specs.Calls.{Verdict, words_after, output_after, read_call, evaluate_call}
use Rattle.sheet.specs.Soundness.{Lent}
use Rattle.sheet.proofs.Soundness.{read_lent}
use Rattle.sheet.proofs.Unseen.{unseen_law}
use Rattle.opening.specs.declared.Answer.{Answer}
use Rattle.opening.specs.Answers.{answer_of}
use Rattle.checker.specs.Unseen.{AcceptedBy, UnseenOfCall}
use Rattle.checker.proofs.Soundness.{written}

-- whatever is lent
accepted_lent : (text : Bytes) → AcceptedBy text → (w0 w1 w2 : List ℕ) (out : Bytes) → Lent w0 w1 w2 out → (read_call text w0 w1 w2 out).number ≡ 0
accepted_lent text x w0 w1 w2 out l =
    ap (λ (v : Verdict). v.number) (read_lent text w0 w1 w2 out l ∙ sym (read_lent text x.w0 x.w1 x.w2 x.out x.lent))
    ∙ sym (ap (λ (a : Answer). a.number) x.answers.is) ∙ x.number

pub unseen_of_call : UnseenOfCall
unseen_of_call text other x y r d o w0 w1 w2 out l a v0 v1 v2 after p x0 x1 x2 put m b y0 y1 y2 end q =
    let v = evaluate_call text r o w0 w1 w2 out in
    let w = evaluate_call other r o x0 x1 x2 put in
    let e : v ≡ w = (unseen_law text w0 w1 w2 out l (accepted_lent text x w0 w1 w2 out l) other x0 x1 x2 put m (accepted_lent other y x0 x1 x2 put m) r d).same_answer o in
    record {
      answer = p.is ∙ ap answer_of e ∙ sym q.is;
      written = written v p ∙ ap (λ (u : Verdict). u.output) e ∙ sym (written w q);
      words0 = λ z. p.words0 ∙ ap (words_after v) z ∙ ap (λ u. words_after u x0) e ∙ sym q.words0;
      words1 = λ z. p.words1 ∙ ap (words_after v) z ∙ ap (λ u. words_after u x1) e ∙ sym q.words1;
      words2 = λ z. p.words2 ∙ ap (words_after v) z ∙ ap (λ u. words_after u x2) e ∙ sym q.words2;
      output = λ z. p.output ∙ ap (output_after v) z ∙ ap (λ u. output_after u put) e ∙ sym q.output;
    }
