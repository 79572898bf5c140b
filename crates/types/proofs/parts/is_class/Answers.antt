-- `is_class` meets its contract.
use Rattle.types.specs.Parts.{class_number, class_of, simple_class}
use Rattle.types.proofs.Members.{class_on, class_ends, class_not}
use Rattle.types.proofs.parts.is_class.Goals as goal

pub returns-then-t-ne0 : goal.returns-then-t-ne0
unfolding class_number
returns-then-t-ne0 c = search class_on

pub returns-in-Class : goal.returns-in-Class
unfolding class_number class_of simple_class
returns-in-Class c = rw c.from.ensures (class_ends c.args.t _ c.if-t-ne0.false c.in-Class.is)

pub returns-in_default : goal.returns-in_default
unfolding class_number
returns-in_default c = class_not c.args.t c.if-t-ne0.false c.in_default.not-Class
