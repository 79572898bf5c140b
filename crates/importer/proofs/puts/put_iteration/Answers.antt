-- `put_iteration` meets its contract.
use Rattle.importer.proofs.PutLaws.{put_iteration_is}
use Rattle.importer.proofs.puts.put_iteration.Goals as goal

pub returns : goal.returns
returns c = search put_iteration_is
