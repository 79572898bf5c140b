-- `among` meets its contract. The words and codes that are left tell the code, and leave room for a word to each code. Assumes nothing.
use mathlib.Core.Path.{◌∙◌}
use Rattle.text.proofs.FormLaws.{left_found, left_next, left_none}
use Rattle.text.proofs.words.among.Goals as goal

pub returns-then-same : goal.returns-then-same
returns-then-same c = c.from.ensures ∙ left_found c.loop-code.invariant c.same.ensures c.loop-code-test.true c.if-same.true

pub loop-code-preserved : goal.loop-code-preserved
loop-code-preserved c = search left_next

pub returns : goal.returns
returns c = search left_none
