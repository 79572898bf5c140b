-- `read_answer` meets its contract. Assumes nothing.
use Rattle.opening.proofs.Answers.{still_lent}
use Rattle.opening.proofs.Readings.{leaves_stop}
use Rattle.answering.proofs.ReadCalls.{types_wait, reads_types}
use Rattle.answering.proofs.read.read_answer.Goals as goal

pub put_types-requires : goal.put_types-requires
put_types-requires c = let l = still_lent c.requires c.open_text.ensures in (l.words2, l.output, types_wait c.open_text.ensures c.in-Ok.is c.wide.ensures l)

pub returns-in-Ok : goal.returns-in-Ok
returns-in-Ok c = search reads_types

pub returns-in-Err : goal.returns-in-Err
returns-in-Err c = search leaves_stop
