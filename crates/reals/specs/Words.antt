-- A number as one 64-bit word, so that words are in the order of their numbers: 2^63 and the rank of its Real, added or, below
-- zero, taken away. An Integer has the word of the Real that it is, and both zeros have one word.
use Rattle.std.specs.Prelude.{Bool, true, false, ◌&&◌, ℕ, ◌+◌, ◌-◌, ◌^◌, pos, ltb}
use Rattle.std.specs.Prelude.{if◌then◌else◌}
use Rattle.reals.specs.Reals.{Real, binary, Number, int, held, widen}
use Rattle.reals.specs.Bits.{rank, from_bits}

unfoldable pub word : Bool → ℕ → ℕ
word false n = 2 ^ 63 + n
word true n = 2 ^ 63 - n

unfoldable pub key : Real → ℕ
key (binary s m e) = word s (rank (binary s m e))

unfoldable pub cell : Number → ℕ
cell x = key (widen x)

-- the other way: the number with a word. A word that is no number's gives 0
unfoldable pub real_in : ℕ → Real
real_in w = from_bits (if ltb w (2 ^ 63) then 2 ^ 63 + (2 ^ 63 - w) else w - 2 ^ 63)

unfoldable pub number_in : ℕ → Number
number_in w = if ltb (2 ^ 52) w && ltb w (2 ^ 64 - 2 ^ 52) then held (real_in w) else int (pos 0)
