-- Rows as the bits of a word, which has room for all of them: row i is bit i.
use Rattle.std.specs.Prelude.{◌≡◌, Bool, List, ℕ, ◌/◌, ◌%◌, ◌^◌, eqb}
use Rattle.laws.specs.Lists.{member}

unfoldable pub bit : ℕ → ℕ → Bool
bit word i = eqb (word / 2 ^ i % 2) 1

-- the word has the bits of these rows and no other
pub record Bits (word : ℕ) (rows : List ℕ) : Type 0 where
  pub is : (i : ℕ) → bit word i ≡ member i rows
