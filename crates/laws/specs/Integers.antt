-- Integers as natural numbers, as code holds them: counted from the least one that document 01 allows.
use Rattle.std.specs.Prelude.{ℕ, suc, ◌+◌, ◌-◌, ℤ, pos, negsuc, ltb}
use Rattle.std.specs.Prelude.{if◌then◌else◌}

-- "an Integer from -2147483648 to 2147483647": the first number past them
abbrev pub integer_end : ℕ
integer_end = 2147483648

-- the least Integer is 0, 0 is `integer_end`
unfoldable pub bias : ℤ → ℕ
bias (pos n) = integer_end + n
bias (negsuc n) = integer_end - suc n

-- every Integer is below this
abbrev pub stored_end : ℕ
stored_end = 4294967296

-- and back
unfoldable pub unbias : ℕ → ℤ
unbias p = if ltb p integer_end then negsuc (integer_end - 1 - p) else pos (p - integer_end)
