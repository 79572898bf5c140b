-- `put_condition` meets its contract.
use Rattle.importer.proofs.PutLaws.{put_condition_is}
use Rattle.importer.proofs.puts.put_condition.Goals as goal

pub returns : goal.returns
returns c = search put_condition_is
