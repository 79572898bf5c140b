-- `put_refusal` meets its contract: the mark, and behind it number and place. Assumes nothing.
use Rattle.text.proofs.PrintedLaws.{refusal_line}
use Rattle.text.proofs.printed.put_refusal.Goals as goal

pub returns : goal.returns
returns c = search refusal_line
