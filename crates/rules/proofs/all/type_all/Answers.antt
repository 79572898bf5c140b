-- `type_all` meets its contract. Assumes nothing.
use Rattle.rules.proofs.AllLaws.{typed_none, typed_next, refused_node, typed_refused, typed_all}
use Rattle.rules.proofs.all.type_all.Goals as goal

pub loop-r-init : goal.loop-r-init
loop-r-init c = typed_none _

pub line_of-requires : goal.line_of-requires
line_of-requires c = search refused_node

pub returns-in-Err : goal.returns-in-Err
returns-in-Err c = rw c.at.ensures (typed_refused c.wide-r-end.ensures c.loop-r.invariant c.loop-r-test.true c.type_numbered.ensures c.in-Err.is c.line_of.ensures)

pub loop-r-preserved : goal.loop-r-preserved
loop-r-preserved c = search typed_next

pub returns : goal.returns
returns c = search typed_all
