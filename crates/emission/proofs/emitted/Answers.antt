-- `emitted` meets its contract.
use native.Mathlib.Nat.{add-zero}
use Rattle.emission.specs.Nodes.{parsed_in}
use Rattle.emission.proofs.emitted.Goals as goal

pub returns : goal.returns
unfolding parsed_in
returns c = simp add-zero
