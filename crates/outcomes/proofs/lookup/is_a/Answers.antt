-- `is_a` meets its contract. Assumes nothing.
use mathlib.Core.Path.{refl, ap}
use Prim.Native.Nat.{ℕ, ◌+◌}
use lib.ListN.{take}
use borrow.Author.Tests.{le-ltb}
use Rattle.memory.specs.Map as memory
use Rattle.outcomes.proofs.Lookups.{no_object, object_is}
use Rattle.outcomes.proofs.lookup.is_a.Goals as goal

pub returns-then-o-st : goal.returns-then-o-st
returns-then-o-st c = object_is c.if-o-st.true (ap (λ (n : ℕ). memory.objects + n) c.wide-then-o-st.ensures) refl (ap (λ (n : ℕ). take n c.args.tables.now) c.wide.ensures) c.class_below.ensures

pub returns-else-o-st : goal.returns-else-o-st
returns-else-o-st c = rw (le-ltb _ _ c.if-o-st.false) (no_object c.if-o-st.false)
