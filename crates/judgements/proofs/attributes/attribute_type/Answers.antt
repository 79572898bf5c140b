-- `attribute_type` meets its contract. Assumes nothing.
use Rattle.ocl.specs.Marks.{of_row}
use Rattle.judgements.proofs.AttributeRows.{attribute_not, attribute_row, row_word}
use Rattle.judgements.proofs.attributes.attribute_type.Goals as goal

pub returns-in_default : goal.returns-in_default
returns-in_default c = search (attribute_not, c.at.ensures)

pub returns : goal.returns
returns c = λ m h. attribute_row m _ _ _ _ c.is_class.ensures _ c.in-Some.is (c.row_type.ensures m h of_row row_word)
