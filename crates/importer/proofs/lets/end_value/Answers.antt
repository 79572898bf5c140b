-- `end_value` meets its contract.
use Rattle.importer.proofs.LetLaws.{not_ended, is_ended}
use Rattle.importer.proofs.lets.end_value.Goals as goal

pub returns-then-lets-le-NODES : goal.returns-then-lets-le-NODES
returns-then-lets-le-NODES c = search is_ended

pub returns-else-lets-le-NODES : goal.returns-else-lets-le-NODES
returns-else-lets-le-NODES c = search not_ended
