-- `load_text` meets its contract. Assumes nothing.
use mathlib.Core.List.{[]}
use Rattle.load.proofs.reader.load_text.Goals as goal

pub returns : goal.returns
returns c = c.put_answer.ensures.is c.args.text.now (c.feed.ensures.is [] c.start.ensures)
