-- `letter_byte` meets its contract.
use Prim.Native.Nat.{ℕ}
use mathlib.Core.Path.{sym, ap}
use Rattle.sheet.specs.Spelling.{letter_byte}
use Rattle.types.specs.Flat.{letter_of}
use Rattle.types.proofs.WrittenLaws.{letter_other}
use Rattle.types.proofs.spelling.letter_byte.Goals as goal

pub returns-in-2 : goal.returns-in-2
unfolding letter_byte letter_of
returns-in-2 c = ap (λ (k : ℕ). letter_byte (letter_of k)) (sym c.in-2.is)

pub returns-in-3 : goal.returns-in-3
unfolding letter_byte letter_of
returns-in-3 c = ap (λ (k : ℕ). letter_byte (letter_of k)) (sym c.in-3.is)

pub returns-in-4 : goal.returns-in-4
unfolding letter_byte letter_of
returns-in-4 c = ap (λ (k : ℕ). letter_byte (letter_of k)) (sym c.in-4.is)

pub returns-in_default : goal.returns-in_default
returns-in_default c = letter_other _ c.in_default.in_default-own.rest.0.0.1 c.in_default.in_default-own.rest.0.1 c.in_default.in_default-own.rest.1
