-- `put_one` meets its contract.
use Rattle.importer.proofs.PutLaws.{put_one_is}
use Rattle.importer.proofs.puts.put_one.Goals as goal

pub returns : goal.returns
returns c = search put_one_is
