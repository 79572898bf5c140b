-- `no_output` meets its contract.
use mathlib.Core.Path.{refl}
use Rattle.sheet.specs.Calls.{refusal_at}
use Rattle.opening.proofs.no_output.Goals as goal

pub returns : goal.returns
unfolding refusal_at
returns c = refl
