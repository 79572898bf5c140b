-- `is_any` meets its contract.
use mathlib.Core.Path.{◌∙◌}
use borrow.Author.Tests.{ne_eqb}
use Rattle.types.proofs.Members.{any_on, any_ends, any_not}
use Rattle.types.proofs.parts.is_any.Goals as goal

pub returns-in-Any : goal.returns-in-Any
returns-in-Any c = any_ends c.args.t c.if-t-eq0.true c.in-Any.is

pub returns-in_default : goal.returns-in_default
returns-in_default c = any_not c.args.t c.if-t-eq0.true c.in_default.not-Any

pub returns-else-t-eq0 : goal.returns-else-t-eq0
returns-else-t-eq0 c = ne_eqb _ 0 c.if-t-eq0.false ∙ any_on _ c.if-t-eq0.false
