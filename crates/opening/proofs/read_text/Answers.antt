-- `read_text` meets its contract.
use Rattle.opening.proofs.Readings.{long_text, within_text}
use Rattle.opening.proofs.read_text.Goals as goal

pub returns-then-text-gt-MOST_BYTES : goal.returns-then-text-gt-MOST_BYTES
returns-then-text-gt-MOST_BYTES c = rw c.at.ensures (long_text _ _ _ _ c.if-text-gt-MOST_BYTES.true)

pub returns : goal.returns
returns c = search within_text
