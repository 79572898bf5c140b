-- Document 02, F-9 of the calls that read and evaluate: of whatever answers and outputs the calls' contracts allow.
use Rattle.std.specs.Prelude.{◌≡◌, List, ℕ, take}
use Rattle.sheet.specs.Text.{Bytes}
use Rattle.sheet.specs.Calls.{read_call, evaluate_call}
use Rattle.sheet.specs.Soundness.{Lent}
use Rattle.sheet.specs.Unseen.{rows_seen_in, DifferOnly}
use Rattle.opening.specs.declared.Answer.{Answer}
use Rattle.opening.specs.Answers.{AnswersWith}

-- the text is accepted: the call that reads it, with every slice at its minimum or above, answers 0
pub record AcceptedBy (text : Bytes) : Type 0 where
  pub w0 : List ℕ
  pub w1 : List ℕ
  pub w2 : List ℕ
  pub out : Bytes
  pub lent : Lent w0 w1 w2 out
  pub answer : Answer
  pub v0 : List ℕ
  pub v1 : List ℕ
  pub v2 : List ℕ
  pub after : Bytes
  pub answers : AnswersWith (read_call text w0 w1 w2 out) answer w0 w1 w2 out v0 v1 v2 after
  pub number : answer.number ≡ 0

-- two calls, each lent what it was lent
pub record SameCall (a b : Answer) (w0 w1 w2 v0 v1 v2 x0 x1 x2 y0 y1 y2 : List ℕ) (out after put end : Bytes) : Type 0 where
  -- number, steps, place and length
  pub answer : a ≡ b
  -- what is written
  pub written : take a.length after ≡ take b.length end
  -- lent the same, they leave the same
  pub words0 : w0 ≡ x0 → v0 ≡ y0
  pub words1 : w1 ≡ x1 → v1 ≡ y1
  pub words2 : w2 ≡ x2 → v2 ≡ y2
  pub output : out ≡ put → after ≡ end

abbrev pub UnseenOfCall : Type 0
UnseenOfCall =
    (text other : Bytes) → AcceptedBy text → AcceptedBy other → (r : ℕ) → DifferOnly (rows_seen_in text r) text other → (o : ℕ)
    → (w0 w1 w2 : List ℕ) (out : Bytes) → Lent w0 w1 w2 out
    → (a : Answer) (v0 v1 v2 : List ℕ) (after : Bytes) → AnswersWith (evaluate_call text r o w0 w1 w2 out) a w0 w1 w2 out v0 v1 v2 after
    → (x0 x1 x2 : List ℕ) (put : Bytes) → Lent x0 x1 x2 put
    → (b : Answer) (y0 y1 y2 : List ℕ) (end : Bytes) → AnswersWith (evaluate_call other r o x0 x1 x2 put) b x0 x1 x2 put y0 y1 y2 end
    → SameCall a b w0 w1 w2 v0 v1 v2 x0 x1 x2 y0 y1 y2 out after put end
