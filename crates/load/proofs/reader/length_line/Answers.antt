-- `length_line` meets its contract. Assumes nothing.
use Rattle.load.proofs.Steps.{length_over, length_slid}
use Rattle.load.proofs.reader.length_line.Goals as goal

pub returns-then-n-gt-MOST : goal.returns-then-n-gt-MOST
returns-then-n-gt-MOST c = length_over c.if-n-gt-MOST.true

pub returns : goal.returns
returns c = rw c.ok_or.ensures.value (length_slid c.args.t c.args.recent.now _ c.if-n-gt-MOST.false c.slide.result c.slide.ensures)
