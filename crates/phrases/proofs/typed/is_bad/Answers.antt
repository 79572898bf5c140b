-- `is_bad` meets its contract. Assumes nothing.
use Rattle.std.proofs.Common.{rules}
use Rattle.types.specs.Reading.{type_field}
use Rattle.phrases.specs.Meanings.{is_bad}
use Rattle.phrases.proofs.typed.is_bad.Goals as goal

pub returns-in-Err-Malformed : goal.returns-in-Err-Malformed
unfolding is_bad type_field
returns-in-Err-Malformed c = search rules

pub returns-in_default : goal.returns-in_default
unfolding is_bad type_field
returns-in_default c = search rules

pub returns-in_default-2 : goal.returns-in_default-2
unfolding is_bad type_field
returns-in_default-2 c = search rules
