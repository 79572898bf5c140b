-- `calls_below` meets its contract.
use mathlib.Core.Bool.{not}
use mathlib.Core.Path.{ap, ◌∙◌}
use Rattle.trees.proofs.CallLaws.{below_none, below_call}
use Rattle.trees.proofs.calls.calls_below.Goals as goal

pub returns-then-not-is_call : goal.returns-then-not-is_call
returns-then-not-is_call c = ap not c.if-not-is_call.true ∙ below_none _ _ c.is_call.ensures _ c.if-not-is_call.true

pub returns-else-not-is_call : goal.returns-else-not-is_call
returns-else-not-is_call c = search below_call
