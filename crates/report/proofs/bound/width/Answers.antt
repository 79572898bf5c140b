-- `width` meets its contract. Assumes nothing.
use Rattle.report.proofs.BoundLaws.{width_on, width_ends}
use Rattle.rules.specs.Width.{width}
use Rattle.report.proofs.bound.width.Goals as goal

pub returns-then-t-ne0 : goal.returns-then-t-ne0
returns-then-t-ne0 c = search width_on

pub returns-in-Void : goal.returns-in-Void
unfolding width
returns-in-Void c = width_ends c.args.t _ c.if-t-ne0.false c.in-Void.is

pub returns-in-Bool : goal.returns-in-Bool
unfolding width
returns-in-Bool c = width_ends c.args.t _ c.if-t-ne0.false c.in-Bool.is

pub returns-in-Int : goal.returns-in-Int
unfolding width
returns-in-Int c = width_ends c.args.t _ c.if-t-ne0.false c.in-Int.is

pub returns-in-Real : goal.returns-in-Real
unfolding width
returns-in-Real c = width_ends c.args.t _ c.if-t-ne0.false c.in-Real.is

pub returns-in-Any : goal.returns-in-Any
unfolding width
returns-in-Any c = width_ends c.args.t _ c.if-t-ne0.false c.in-Any.is

pub returns-in-Class : goal.returns-in-Class
unfolding width
returns-in-Class c = width_ends c.args.t _ c.if-t-ne0.false c.in-Class.is
