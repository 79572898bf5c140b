-- `classes_in` meets its contract.
use Rattle.shapes.specs.Iterate.{classes_in}
use mathlib.Core.Path.{sym, ap}
use Rattle.shapes.proofs.iterate.classes_in.Goals as goal

pub returns-in-Void : goal.returns-in-Void
unfolding classes_in
returns-in-Void c = sym (ap classes_in c.in-Void.is)

pub returns-in-Bool : goal.returns-in-Bool
unfolding classes_in
returns-in-Bool c = sym (ap classes_in c.in-Bool.is)

pub returns-in-Int : goal.returns-in-Int
unfolding classes_in
returns-in-Int c = sym (ap classes_in c.in-Int.is)

pub returns-in-Any : goal.returns-in-Any
unfolding classes_in
returns-in-Any c = sym (ap classes_in c.in-Any.is)

pub returns-in-Real : goal.returns-in-Real
unfolding classes_in
returns-in-Real c = sym (ap classes_in c.in-Real.is)

pub returns-in-Class : goal.returns-in-Class
unfolding classes_in
returns-in-Class c = rw (c.in-Class.is, c.from.ensures)
