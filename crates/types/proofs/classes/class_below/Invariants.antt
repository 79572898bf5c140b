-- `class_below` meets its contract. The loop's invariant: the class reached is below d exactly where c is.
use mathlib.Core.Path.{◌≡◌}
use Rattle.ocl.specs.Types.{simple_subtype, class}
use Rattle.types.specs.Flat.{parents_in}
use Rattle.types.proofs.classes.class_below.Given as goal

abbrev pub invariant-loop-x : goal.invariant-loop-x
invariant-loop-x l = simple_subtype (parents_in l.parents) (class l.x) (class l.d) ≡ simple_subtype (parents_in l.parents) (class l.c) (class l.d)

abbrev pub decreases-loop-x : goal.decreases-loop-x
decreases-loop-x l = l.x
