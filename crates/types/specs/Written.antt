-- A type's spelling in the order in which it is written.
use Rattle.std.specs.Prelude.{ℕ, zero, suc, [], ◌∷◌, ◌++◌, take}
use Rattle.sheet.specs.Text.{Bytes, byte}
use Rattle.sheet.specs.Spelling.{letter_byte}
use Rattle.types.specs.declared.FlatType.{FlatType}
use Rattle.types.specs.Flat.{letter_of}

-- the letter of a code, and its bracket
unfoldable pub opening : ℕ → Bytes
opening k = letter_byte (letter_of k) ∷ byte "(" ∷ []

-- a code's letter and what follows it; nothing where the code is 0
unfoldable pub opened : ℕ → Bytes → Bytes
opened zero w = []
opened (suc k) w = opening (suc k) ++ w

-- all letters of a type
unfoldable pub letters : FlatType → Bytes
letters t = opened t.outer (opened t.middle (opened t.inner []))

-- d closing brackets, three at most
unfoldable pub brackets : ℕ → Bytes
brackets d = take d (byte ")" ∷ byte ")" ∷ byte ")" ∷ [])
