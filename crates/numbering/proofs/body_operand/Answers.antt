-- `body_operand` meets its contract. Assumes nothing.
use Rattle.numbering.proofs.Codes.{body_third, body_second}
use Rattle.numbering.proofs.body_operand.Goals as goal

pub returns-then-form-eq-ITERATE : goal.returns-then-form-eq-ITERATE
returns-then-form-eq-ITERATE c = search body_third

pub returns : goal.returns
returns c = body_second _ c.if-form-eq-ITERATE.false
