-- `few_by_bytes` meets its contract: what is left of the text tells what the whole does.
use Rattle.tokens.proofs.ScanLaws.{bytes_begin, bytes_over, bytes_next, bytes_end}
use Rattle.tokens.proofs.few_by_bytes.Goals as goal

pub loop-b-init : goal.loop-b-init
loop-b-init c = bytes_begin _

pub returns-then-depth-gt-MOST_OPEN : goal.returns-then-depth-gt-MOST_OPEN
returns-then-depth-gt-MOST_OPEN c = search bytes_over

pub loop-b-preserved : goal.loop-b-preserved
loop-b-preserved c = search bytes_next

pub returns : goal.returns
returns c = search bytes_end
