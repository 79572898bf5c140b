-- `settle` meets its contract. Assumes nothing.
use Rattle.floats.proofs.Settling.{over_plus, over_minus, not_infinite, settled_finite}
use Rattle.floats.proofs.numbers.settle.Goals.{then-bits-eq-INFINITE-via-then-bits-eq-INFINITE, then-bits-eq-INFINITE-via-else-bits-eq-INFINITE+then-bits}
use Rattle.floats.proofs.numbers.settle.Goals as goal

pub returns-then-bits-eq-INFINITE : goal.returns-then-bits-eq-INFINITE
returns-then-bits-eq-INFINITE c = elim c.then-bits-eq-INFINITE.branch [
  | then-bits-eq-INFINITE-via-then-bits-eq-INFINITE w ↦ search over_plus
  | then-bits-eq-INFINITE-via-else-bits-eq-INFINITE+then-bits w ↦ search over_minus
]

pub hold-requires : goal.hold-requires
hold-requires c = search not_infinite

pub returns : goal.returns
returns c = search settled_finite
