-- `dot_step` meets its contract. Assumes nothing.
use Rattle.phrases.proofs.WordLaws.{labelled_ahead}
use Rattle.phrases.proofs.DotLaws.{dot_attribute, dot_definition, dot_undef, dot_cast, dot_broken}
use Rattle.phrases.proofs.steps.dot_step.Goals as goal

pub returns-in-Some : goal.returns-in-Some
returns-in-Some c = search dot_attribute

pub empty_call-requires : goal.empty_call-requires
empty_call-requires c = search labelled_ahead

pub returns-in-Some-definition : goal.returns-in-Some-definition
returns-in-Some-definition c = search dot_definition

pub returns-in-30 : goal.returns-in-30
returns-in-30 c = search dot_undef

pub returns-in-12 : goal.returns-in-12
returns-in-12 c = search dot_cast

pub returns-in_default-code : goal.returns-in_default-code
returns-in_default-code c = search dot_broken
