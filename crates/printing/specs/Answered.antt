-- What is printed for a call's answer.
use Rattle.std.specs.Prelude.{ℕ, ◌≡◌}
use Rattle.sheet.specs.Text.{Bytes}
use Rattle.sheet.specs.Calls.{Verdict, output_after}
use Rattle.sheet.specs.Report.{printed}
use Rattle.opening.specs.declared.Answer.{Answer}
use Rattle.opening.specs.Answers.{answer_of}
use Rattle.printing.specs.Printed.{Front}

-- for every verdict that the answer gives, whose call left the output so
pub record Prints (answer : Answer) (left after : Bytes) (n : ℕ) : Type 0 where
  pub is : (v : Verdict) (out : Bytes) → answer ≡ answer_of v → left ≡ output_after v out → Front (printed v) after n
