-- `read_type` meets its contract. The loop's invariant: what was read is the type inside the first j letters, before their brackets.
use borrow.Author.Rules.{rules}
use Rattle.types.proofs.TypeFields.{letter_next, letters_start, letters_end}
use Rattle.types.proofs.reading.read_type.Goals as goal

pub loop-j-init : goal.loop-j-init
loop-j-init c = search (letters_start, rules)

pub loop-j-preserved : goal.loop-j-preserved
loop-j-preserved c = search (letter_next, rules)

pub returns : goal.returns
returns c = search letters_end
