-- `put_answer` meets its contract. Assumes nothing.
use Rattle.printing.proofs.Verdicts.{prints_answer, prints_refusal}
use Rattle.printing.proofs.put_answer.Goals as goal

pub returns-then-number-eq0 : goal.returns-then-number-eq0
returns-then-number-eq0 c = prints_answer _ c.if-number-eq0.true

pub returns : goal.returns
returns c = prints_refusal c.if-number-eq0.false c.put_refusal.ensures
