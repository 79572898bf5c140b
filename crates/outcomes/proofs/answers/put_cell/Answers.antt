-- `put_cell` meets its contract. Assumes nothing.
use Rattle.outcomes.proofs.Words.{gives_cell}
use Rattle.outcomes.proofs.answers.put_cell.Goals as goal

pub returns : goal.returns
returns c = search gives_cell
