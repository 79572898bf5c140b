-- A number as the code has it: the word that values hold it by. Document 02, F-8: a field that spells no number is 3, and one that
-- no value may hold is 4.
use Rattle.std.specs.Prelude.{◌<◌, Result, Ok, Err, ℕ}
use Rattle.std.proofs.Math.Option.{Option, none, some}
use Rattle.std.specs.Prelude.{if◌then◌else◌}
use Rattle.laws.specs.Integers.{stored_end}
use Rattle.reals.specs.Reals.{Number, kept}
use Rattle.reals.specs.Words.{cell}
use Rattle.memory.specs.declared.refusals.Misread.{Misread}
use Rattle.memory.specs.declared.refusals.Misread.TheVariants.{Malformed, OverLimit}

unfoldable pub literal_of : Option Number → Result ℕ Misread
literal_of none = Err Malformed
literal_of (some x) = if kept x then Ok (cell x) else Err OverLimit

-- an Integer of the range has 32 bits
abbrev pub Narrow : Result ℕ Misread → Type 0
Narrow (Err Malformed) = Unit {0}
Narrow (Err OverLimit) = Unit {0}
Narrow (Ok n) = n < stored_end
