-- Document 02, F-8: a Real is "spelled `r` and 16 lower-case hexadecimal digits of its bits".
use Rattle.std.specs.Prelude.{◌&&◌, List, [], ◌∷◌, ℕ, eqb, length}
use Rattle.std.proofs.Math.Option.{Option, none, some}
use Rattle.std.specs.Prelude.{if◌then◌else◌}
use Rattle.reals.specs.Reals.{Real, is_binary64, is_real, held}
use Rattle.reals.specs.Bits.{bits, from_bits}
use Rattle.reals.specs.Digits.{hex_digits, hex_number}

unfoldable pub spell_real : Real → List ℕ
spell_real r = 114 ∷ hex_digits 16 (bits r)

-- the Real that a text spells, or the number of its refusal
pub data Reading : Type 0 where
  reads : Real → Reading
  refused : ℕ → Reading

-- what is held as an Integer is spelled as one: "a spelling that breaks this is number 3"
unfoldable pub held_as_real : Real → Reading
held_as_real r = if is_real (held r) then reads r else refused 3

-- "Bits of an infinity or a NaN are 4"
unfoldable pub finite_real : Real → Reading
finite_real r = if is_binary64 r then held_as_real r else refused 4

unfoldable pub of_digits : Option ℕ → Reading
of_digits none = refused 3
of_digits (some b) = finite_real (from_bits b)

unfoldable pub read_real : List ℕ → Reading
read_real [] = refused 3
read_real (c ∷ cs) = if eqb c 114 && eqb (length cs) 16 then of_digits (hex_number 0 cs) else refused 3
