-- `find_slot` meets its contract. Assumes nothing.
use mathlib.Core.Path.{refl}
use native.Mathlib.Omega.{arith}
use Rattle.outcomes.proofs.Lookups.{all_open, go_up, go_down, none_there}
use Rattle.outcomes.proofs.lookup.find_slot.Goals as goal

pub loop-low-init : goal.loop-low-init
loop-low-init c = all_open refl refl

pub returns-then-k-key : goal.returns-then-k-key
returns-then-k-key c = (omega arith, c.if-k-key.true)

pub loop-low-preserved-then-k-key-2 : goal.loop-low-preserved-then-k-key-2
loop-low-preserved-then-k-key-2 c = go_up c.loop-low.invariant _ (omega arith) (omega arith) c.if-k-key-2.true

pub loop-low-preserved : goal.loop-low-preserved
loop-low-preserved c = go_down c.loop-low.invariant _ (omega arith) (omega arith) c.if-k-key.false c.if-k-key-2.false

pub returns : goal.returns
returns c = search none_there
