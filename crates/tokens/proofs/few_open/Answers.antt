-- `few_open` meets its contract: few are open by bytes, or what is left of the text tells what the whole does. Assumes nothing.
use mathlib.Core.Path.{sym, ◌∙◌}
use Rattle.tokens.proofs.BracketLaws.{few_begin, too_many, few_next, few_end, few_less}
use Rattle.tokens.proofs.ByteLaws.{bytes_few}
use Rattle.tokens.proofs.few_open.Goals as goal

pub returns-then-few_by_bytes : goal.returns-then-few_by_bytes
returns-then-few_by_bytes c = bytes_few _ (sym c.if-few_by_bytes.true ∙ c.few_by_bytes.ensures)

pub loop-t-init : goal.loop-t-init
loop-t-init c = few_begin c.next_token-t.ensures

pub returns-then-depth-gt-MOST_OPEN : goal.returns-then-depth-gt-MOST_OPEN
returns-then-depth-gt-MOST_OPEN c = search too_many

pub loop-t-smaller : goal.loop-t-smaller
loop-t-smaller c = search few_less

pub loop-t-preserved : goal.loop-t-preserved
loop-t-preserved c = search few_next

pub returns : goal.returns
returns c = search few_end
