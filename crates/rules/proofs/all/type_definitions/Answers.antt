-- `type_definitions` meets its contract. Assumes nothing.
use Rattle.rules.proofs.DefineLaws.{defined_none, defined_next, undefined_node, defined_refused, defined_all}
use Rattle.rules.proofs.all.type_definitions.Goals as goal

pub loop-d-init : goal.loop-d-init
loop-d-init c = defined_none _

pub line_of-requires : goal.line_of-requires
line_of-requires c = search undefined_node

pub returns-in-Err : goal.returns-in-Err
returns-in-Err c = rw c.at.ensures (defined_refused c.wide-d-end.ensures c.loop-d.invariant c.loop-d-test.true c.define_numbered.ensures c.in-Err.is c.line_of.ensures)

pub loop-d-preserved : goal.loop-d-preserved
loop-d-preserved c = search defined_next

pub returns : goal.returns
returns c = search defined_all
