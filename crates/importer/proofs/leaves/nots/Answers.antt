-- `nots` meets its contract.
use Rattle.importer.proofs.NotLaws.{noted_next, noted_end}
use Rattle.importer.proofs.leaves.nots.Goals as goal

pub loop-next-preserved : goal.loop-next-preserved
loop-next-preserved c = noted_next c.loop-next.invariant c.after.ensures c.in-Some.is

pub returns : goal.returns
returns c = noted_end c.loop-next.invariant c.after.ensures c.in_default.is
