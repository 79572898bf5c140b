-- `operand_rows` meets its contract. Assumes nothing.
use Rattle.rows.proofs.SeenLaws.{operand_seen, late_seen}
use Rattle.rows.proofs.seen.operand_rows.Goals as goal

pub returns-then-n-a : goal.returns-then-n-a
returns-then-n-a c = search late_seen

pub returns : goal.returns
returns c = search operand_seen
