-- `source_type` meets its contract. Assumes nothing.
use borrow.Author.Rules.{rules}
use Rattle.typing.specs.Tables.{operand_at}
use Rattle.numbering.proofs.forms.source_type.Goals as goal

pub returns : goal.returns
unfolding operand_at
returns c = (record { at = λ k h. (c.operand.ensures k h).is }, search rules)
