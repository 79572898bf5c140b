-- Document 02, F-7: the words and signs of a text. A token is its bytes.
use Rattle.std.specs.Prelude.{Bool, false, ◌&&◌, ◌||◌, List, [], ◌∷◌, ℕ, eqb, leb}
use Rattle.std.specs.Prelude.{if◌then◌else◌}
use Rattle.sheet.specs.Text.{Bytes, byte, onto, is_digit}

abbrev pub Tokens : Type 0
Tokens = List Bytes

-- "A word is a longest run of letters, digits and `#`"
unfoldable pub in_word : ℕ → Bool
in_word b = is_digit b || leb (byte "a") b && leb b (byte "z") || leb (byte "A") b && leb b (byte "Z") || eqb b (byte "#")

-- do a byte and the first one after it stand in one token: two of a word, or the two of `->`
unfoldable pub joins : ℕ → Bytes → Bool
joins b [] = false
joins b (c ∷ s) = in_word b && in_word c || eqb b (byte "-") && eqb c (byte ">")

-- "spaces may stand around words and signs, not inside"; every other byte that is in no word is a sign by itself, be it one of
-- the grammar or not
unfoldable pub tokens : Bytes → Tokens
tokens [] = []
tokens (b ∷ s) =
    if eqb b (byte " ") then tokens s
    else if joins b s then onto b (tokens s)
    else (b ∷ []) ∷ tokens s
