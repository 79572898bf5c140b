-- `letter_code` meets its contract.
use mathlib.Core.Path.{sym, ap}
use Rattle.types.specs.Reading.{byte_code}
use Rattle.types.proofs.TypeFields.{no_letter}
use Rattle.types.proofs.reading.letter_code.Goals as goal

pub returns-in-67 : goal.returns-in-67
unfolding byte_code
returns-in-67 c = ap byte_code (sym c.in-67.is)

pub returns-in-83 : goal.returns-in-83
unfolding byte_code
returns-in-83 c = ap byte_code (sym c.in-83.is)

pub returns-in-81 : goal.returns-in-81
unfolding byte_code
returns-in-81 c = ap byte_code (sym c.in-81.is)

pub returns-in-66 : goal.returns-in-66
unfolding byte_code
returns-in-66 c = ap byte_code (sym c.in-66.is)

pub returns-in_default : goal.returns-in_default
returns-in_default c = no_letter _ c.in_default.in_default-own.rest.0.0.0.1 c.in_default.in_default-own.rest.0.0.1 c.in_default.in_default-own.rest.0.1 c.in_default.in_default-own.rest.1
