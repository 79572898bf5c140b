-- `common_class` meets its contract. The loop's invariant: the class reached and d have in common what c and d have, and it is a byte.
use mathlib.Core.Path.{◌≡◌}
use Prim.Native.Nat.{◌<◌}
use Rattle.ocl.specs.Types.{simple_join, class}
use Rattle.types.specs.Flat.{parents_in}
use Rattle.types.proofs.classes.common_class.Given as goal

abbrev pub invariant-loop-c : goal.invariant-loop-c
invariant-loop-c l = (simple_join (parents_in l.parents) (class l.x) (class l.d) ≡ simple_join (parents_in l.parents) (class l.c) (class l.d)) × (l.x < 256)

abbrev pub decreases-loop-c : goal.decreases-loop-c
decreases-loop-c l = l.x
