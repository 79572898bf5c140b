-- `put_answer` meets its contract. Assumes nothing.
use mathlib.Core.Path.{sym, ◌∙◌}
use Rattle.load.proofs.Answers.{prints_refused, prints_begun, prints_none, prints_short, prints_load}
use Rattle.load.proofs.reader.put_answer.Goals as goal

pub returns-in-Err : goal.returns-in-Err
returns-in-Err c = rw c.in-Err.is (prints_refused c.put_refusal.ensures.1 (rw c.number.ensures at c.put_refusal.ensures.0))

pub returns-then-not-is_empty : goal.returns-then-not-is_empty
returns-then-not-is_empty c = rw c.in-Ok.is (prints_begun c.put_refusal-then-not-is_empty.ensures.1 (sym c.is_empty.ensures ∙ c.if-not-is_empty.true) (rw c.tally_of.ensures at (c.line_number.ensures c.in-Ok.s.window.recent)) (rw c.number-then-not-is_empty.ensures at c.put_refusal-then-not-is_empty.ensures.0))

pub returns-then-w-eq0 : goal.returns-then-w-eq0
returns-then-w-eq0 c = rw c.in-Ok.is (prints_none c.put_refusal-then-w-eq0.ensures.1 (sym c.is_empty.ensures ∙ c.if-not-is_empty.false) c.if-w-eq0.true (rw c.number-then-w-eq0.ensures at c.put_refusal-then-w-eq0.ensures.0))

pub returns-then-w-eq0-2 : goal.returns-then-w-eq0-2
returns-then-w-eq0-2 c = rw c.in-Ok.is (prints_short c.put_refusal-then-w-eq0-2.ensures.1 (sym c.is_empty.ensures ∙ c.if-not-is_empty.false) c.if-w-eq0.false c.if-w-eq0-2.true (rw c.number-then-w-eq0-2.ensures at c.put_refusal-then-w-eq0-2.ensures.0))

pub returns : goal.returns
returns c = rw c.in-Ok.is (prints_load c.put_pair.ensures.1 (sym c.is_empty.ensures ∙ c.if-not-is_empty.false) c.if-w-eq0.false c.if-w-eq0-2.false c.put_pair.ensures.0)
