-- `slots::line::store_slot` meets its contract. Assumes nothing.
use lib.ListN.{set, length-set}
use Prim.Native.Nat.{ℕ, ◌+◌}
use mathlib.Core.Path.{refl, ap}
use native.Mathlib.Omega.{arith}
use Rattle.memory.specs.Map as memory
use Rattle.slots.proofs.line.store_slot.Goals as goal

pub bounds-w0-n-2 : goal.bounds-w0-n-2
bounds-w0-n-2 c = rw length-set (let z = c.wide-n.ensures in omega arith)

pub returns : goal.returns
returns c = (refl, ap (λ (n : ℕ). set (set c.args.w0.now (memory.keys + n) c.args.key) (memory.starts + n) c.args.st.cells) c.wide-n.ensures)
