-- `exactly` meets its contract.
use Rattle.shapes.proofs.FieldLaws.{exact_not, exact_all}
use Rattle.shapes.proofs.numbers.exactly.Goals as goal

pub returns-then-count-m : goal.returns-then-count-m
returns-then-count-m c = search exact_not

pub returns : goal.returns
returns c = search exact_all
