-- `evaluation::answers::earlier` meets its contract. Assumes nothing.
use borrow.Author.Tests.{eq-eqb, ne_eqb}
use Rattle.evaluation.specs.Traces.{earlier_of}
use Rattle.evaluation.proofs.answers.earlier.Goals as goal

pub returns-then-first-eq0 : goal.returns-then-first-eq0
unfolding earlier_of
returns-then-first-eq0 c = rw (eq-eqb _ _ c.if-first-eq0.true)

pub returns-else-first-eq0 : goal.returns-else-first-eq0
unfolding earlier_of
returns-else-first-eq0 c = rw (ne_eqb _ _ c.if-first-eq0.false)
