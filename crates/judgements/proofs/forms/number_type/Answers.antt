-- `number_type` meets its contract. Assumes nothing.
use Rattle.judgements.proofs.Numbers.{number_int, number_real}
use Rattle.judgements.proofs.forms.number_type.Goals as goal

pub returns-in-Integer : goal.returns-in-Integer
returns-in-Integer c = search number_int

pub returns-in-Real : goal.returns-in-Real
returns-in-Real c = search number_real
