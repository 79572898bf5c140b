-- `is_call` meets its contract.
use borrow.Author.Tests.{ne_eqb}
use mathlib.Core.Path.{◌∙◌}
use Rattle.trees.proofs.CallLaws.{call_count, call_code}
use Rattle.trees.proofs.calls.is_call.Goals as goal

pub returns-then-count-eq1 : goal.returns-then-count-eq1
returns-then-count-eq1 c = call_code _ _ c.if-count-eq1.true

pub returns-else-count-eq1 : goal.returns-else-count-eq1
returns-else-count-eq1 c = ne_eqb _ _ c.if-count-eq1.false ∙ call_count _ _ c.if-count-eq1.false
