-- `enters` meets its contract. Assumes nothing.
use Rattle.numbering.proofs.Codes.{enters_let, enters_code}
use Rattle.numbering.proofs.forms.enters.Goals as goal

pub returns-then-form-eq-LET_IN : goal.returns-then-form-eq-LET_IN
returns-then-form-eq-LET_IN c = search enters_let

pub returns-else-form-eq-LET_IN : goal.returns-else-form-eq-LET_IN
returns-else-form-eq-LET_IN c = search enters_code
