-- `slots::parts::whole_at` meets its contract. Assumes nothing.
use Rattle.text.proofs.LiteralLaws.{whole_narrow}
use Rattle.slots.proofs.PartLaws.{whole_part}
use Rattle.slots.proofs.parts.whole_at.Goals as goal

pub integer_literal-requires : goal.integer_literal-requires
integer_literal-requires c = search whole_narrow

pub returns : goal.returns
returns c = search whole_part
