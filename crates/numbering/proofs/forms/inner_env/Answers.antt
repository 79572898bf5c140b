-- `inner_env` meets its contract. Assumes nothing.
use Rattle.numbering.proofs.Codes.{inner_let, inner_iter, inner_member}
use Rattle.numbering.proofs.forms.inner_env.Goals as goal

pub returns-then-form-eq-LET_IN : goal.returns-then-form-eq-LET_IN
returns-then-form-eq-LET_IN c = search inner_let

pub returns-then-form-eq-ITERATE : goal.returns-then-form-eq-ITERATE
returns-then-form-eq-ITERATE c = search inner_iter

pub returns : goal.returns
returns c = search inner_member
