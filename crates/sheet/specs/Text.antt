-- Document 01, The sheet: bytes, lines, fields and numbers.
use Rattle.std.specs.Prelude.{ℕ, zero, suc, ◌+◌, ◌*◌, ◌-◌, ◌/◌, ◌%◌, Bool, true, false, not, ◌&&◌, List, [], ◌∷◌, ◌++◌, ℤ, pos, negsuc, eqb, leb, ltb}
use Prim.Native.Char.{Char, code}
use Prim.Native.String.{String, [] as no_char, ◌∷◌ as char}
use Rattle.std.proofs.Math.Option.{Option, none, some}
use Rattle.laws.specs.Choice.{or_else, on_some, map_some}
use Rattle.std.specs.Prelude.{if◌then◌else◌}
use Rattle.reals.specs.Reals.{Real, held, is_real}
use Rattle.reals.specs.Bits.{from_bits}
use Rattle.reals.specs.Digits.{hex_digit}

abbrev pub Bytes : Type 0
Bytes = List ℕ

-- the byte of a character below 128, and the bytes of a text of such characters
abbrev pub byte : Char → ℕ
byte c = code c

unfoldable pub bytes : String → Bytes
bytes no_char = []
bytes (char c s) = code c ∷ bytes s

-- a byte in front of the first part; there is one, so that [] is never asked for
unfoldable pub onto : ℕ → List Bytes → List Bytes
onto b [] = (b ∷ []) ∷ []
onto b (p ∷ ps) = (b ∷ p) ∷ ps

-- the parts between the separators, one more than there are separators
unfoldable pub split : ℕ → Bytes → List Bytes
split sep [] = [] ∷ []
split sep (b ∷ s) = if eqb b sep then [] ∷ split sep s else onto b (split sep s)

-- "each line ends in a line feed": so the last part of a text is empty, or a line without its line feed
unfoldable pub lines_of : Bytes → List Bytes
lines_of text = split 10 text

-- "fields parted by one tab"
unfoldable pub fields_of : Bytes → List Bytes
fields_of line = split 9 line

-- ---- reading from the front: what was read, and the bytes after it

abbrev pub Parser : Type 0 → Type 0
Parser A = Bytes → Option (A × Bytes)

-- reads nothing
unfoldable pub nothing : {A : Type 0} → Parser A
nothing s = none

-- what follows the bytes p
unfoldable pub after : Bytes → Bytes → Option Bytes
after [] s = some s
after (p ∷ ps) [] = none
after (p ∷ ps) (b ∷ s) = if eqb p b then after ps s else none

-- the text w, which stands for x
unfoldable pub literal : {A : Type 0} → String → A → Parser A
literal w x s = map_some (λ rest. (x, rest)) (after (bytes w) s)

-- p, behind the text w
unfoldable pub behind : {A : Type 0} → String → Parser A → Parser A
behind w p s = on_some (after (bytes w) s) p

-- the first, or where it reads nothing the second
infixr 30 ◌or◌
unfoldable pub ◌or◌ : {A : Type 0} → Parser A → Parser A → Parser A
◌or◌ p q s = or_else (p s) (q s)

-- the one, then what it leads to
infixl 40 ◌then◌
unfoldable pub ◌then◌ : {A B : Type 0} → Parser A → (A → Parser B) → Parser B
◌then◌ p k s = on_some (p s) (λ x. k x.0 x.1)

-- what was read, changed
unfoldable pub mapped : {A B : Type 0} → (A → B) → Parser A → Parser B
mapped f p s = map_some (λ x. (f x.0, x.1)) (p s)

-- the whole of a field is read
unfoldable pub at_end : {A : Type 0} → A → Bytes → Option A
at_end x [] = some x
at_end x (b ∷ s) = none

unfoldable pub whole : {A : Type 0} → Parser A → Bytes → Option A
whole p s = on_some (p s) (λ x. at_end x.0 x.1)

-- ---- "Numbers are in decimal, a minus on Integers only, no leading zero, no `-0`"

unfoldable pub is_digit : ℕ → Bool
is_digit b = leb 48 b && leb b 57

-- the digits in front, and what follows them
unfoldable pub digits : Bytes → Bytes
digits [] = []
digits (b ∷ s) = if is_digit b then b ∷ digits s else []

unfoldable pub after_digits : Bytes → Bytes
after_digits [] = []
after_digits (b ∷ s) = if is_digit b then after_digits s else b ∷ s

-- there is a digit, and 0 leads no other
unfoldable pub plain : Bytes → Bool
plain [] = false
plain (b ∷ []) = true
plain (b ∷ c ∷ s) = not (eqb b 48)

-- the number that digits stand for, after digits that stood for n
unfoldable pub value_of_digits : ℕ → Bytes → ℕ
value_of_digits n [] = n
value_of_digits n (b ∷ s) = value_of_digits (n * 10 + (b - 48)) s

-- a number of any length
unfoldable pub number_parser : Parser ℕ
number_parser s = if plain (digits s) then some (value_of_digits 0 (digits s), after_digits s) else none

-- the Integer -n, which 0 is not spelled as
unfoldable pub negative : ℕ → Parser ℤ
negative zero s = none
negative (suc n) s = some (negsuc n, s)

-- an Integer of any length
unfoldable pub integer_parser : Parser ℤ
integer_parser = behind "-" (number_parser then negative) or mapped pos number_parser

-- k hexadecimal digits in front, after digits that stood for n
unfoldable pub hex_parser : ℕ → ℕ → Parser ℕ
hex_parser zero n s = some (n, s)
hex_parser (suc k) n [] = none
hex_parser (suc k) n (b ∷ s) = on_some (hex_digit b) (λ d. hex_parser k (n * 16 + d) s)

-- document 02, F-8: "a whole number in the Integer range is always held as that Integer ..; a spelling that breaks this is number 3"
unfoldable pub no_integer : Real → Parser Real
no_integer r s = if is_real (held r) then some (r, s) else none

-- "spelled `r` and 16 lower-case hexadecimal digits of its bits"; those of an infinity or a NaN too, which are 4 (Limits.antt)
unfoldable pub real_parser : Parser Real
real_parser = behind "r" (hex_parser 16 0 then (λ b. no_integer (from_bits b)))

-- ---- writing numbers

-- at most f digits of n
unfoldable pub spell_digits : ℕ → ℕ → Bytes
spell_digits zero n = []
spell_digits (suc f) n = if ltb n 10 then (48 + n) ∷ [] else spell_digits f (n / 10) ++ ((48 + n % 10) ∷ [])

-- a number has no more digits than one more than itself
unfoldable pub spell_number : ℕ → Bytes
spell_number n = spell_digits (suc n) n

unfoldable pub spell_integer : ℤ → Bytes
spell_integer (pos n) = spell_number n
spell_integer (negsuc n) = byte "-" ∷ spell_number (suc n)
