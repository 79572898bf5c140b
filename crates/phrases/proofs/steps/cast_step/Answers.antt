-- `cast_step` meets its contract. Assumes nothing.
use native.Mathlib.Omega.{arith}
use Rattle.phrases.proofs.WordLaws.{came_ahead}
use Rattle.phrases.proofs.StepLaws.{no_cast, no_class, cast_done}
use Rattle.phrases.proofs.steps.cast_step.Goals as goal

pub returns-in_default : goal.returns-in_default
returns-in_default c = search no_cast

pub labelled_before-class-requires : goal.labelled_before-class-requires
labelled_before-class-requires c = (search came_ahead, λ e. omega arith)

pub returns-in_default-class : goal.returns-in_default-class
returns-in_default-class c = search no_class

pub returns : goal.returns
returns c = search cast_done
