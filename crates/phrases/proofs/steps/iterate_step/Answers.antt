-- `iterate_step` meets its contract. Assumes nothing.
use native.Mathlib.Omega.{arith}
use Rattle.phrases.proofs.WordLaws.{labelled_ahead}
use Rattle.phrases.proofs.TypeLaws.{typed_ahead}
use Rattle.phrases.proofs.IterateLaws.{no_first, no_second, no_type, no_equals, iterates}
use Rattle.phrases.proofs.steps.iterate_step.Goals as goal

pub returns-in_default : goal.returns-in_default
returns-in_default c = search no_first

pub labelled_before-result-requires : goal.labelled_before-result-requires
labelled_before-result-requires c = (search labelled_ahead, λ e. omega arith)

pub returns-in_default-result : goal.returns-in_default-result
returns-in_default-result c = search no_second

pub type_in-typed-requires : goal.type_in-typed-requires
type_in-typed-requires c = search labelled_ahead

pub returns-in_default-typed : goal.returns-in_default-typed
returns-in_default-typed c = search no_type

pub after-equals-requires : goal.after-equals-requires
after-equals-requires c = (search typed_ahead, λ e. omega arith)

pub returns-in_default-equals : goal.returns-in_default-equals
returns-in_default-equals c = search no_equals

pub returns : goal.returns
returns c = search iterates
