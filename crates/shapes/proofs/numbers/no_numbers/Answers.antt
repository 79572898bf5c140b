-- `no_numbers` meets its contract.
use Rattle.shapes.proofs.FieldLaws as laws
use Rattle.shapes.proofs.numbers.no_numbers.Goals as goal

pub returns : goal.returns
returns c = laws.no_numbers
