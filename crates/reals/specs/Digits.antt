-- Document 02, F-8: "lower-case hexadecimal digits", written and read.
use Rattle.std.specs.Prelude.{◌&&◌, List, [], ◌∷◌, ◌++◌, ℕ, zero, suc, ◌+◌, ◌-◌, ◌*◌, ◌/◌, ◌%◌, leb, ltb}
use Rattle.std.proofs.Math.Option.{Option, none, some}
use Rattle.laws.specs.Choice.{on_some}
use Rattle.std.specs.Prelude.{if◌then◌else◌}

-- 0 to 9, then a to f
unfoldable pub hex_byte : ℕ → ℕ
hex_byte d = if ltb d 10 then 48 + d else 87 + d

-- the last k digits of n
unfoldable pub hex_digits : ℕ → ℕ → List ℕ
hex_digits zero n = []
hex_digits (suc k) n = hex_digits k (n / 16) ++ (hex_byte (n % 16) ∷ [])

unfoldable pub hex_digit : ℕ → Option ℕ
hex_digit c = if leb 48 c && leb c 57 then some (c - 48) else if leb 97 c && leb c 102 then some (c - 87) else none

-- the digits of n, and then these
unfoldable pub hex_number : ℕ → List ℕ → Option ℕ
hex_number n [] = some n
hex_number n (c ∷ cs) = on_some (hex_digit c) (λ d. hex_number (n * 16 + d) cs)
