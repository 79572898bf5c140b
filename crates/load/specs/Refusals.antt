-- Why a text is refused, by the numbers of the documents.
use Rattle.std.specs.Prelude.{ℕ, eqb}
use Rattle.std.specs.Prelude.{if◌then◌else◌}
use Rattle.load.specs.declared.refusal.Refusal.{Refusal}
use Rattle.load.specs.declared.refusal.Refusal.TheVariants.{Misspelt, OutOfRange, TooShort}

abbrev pub number_of : Refusal → ℕ
number_of Misspelt = 3
number_of OutOfRange = 4
number_of TooShort = 25

-- a line is refused by 3 or 4
unfoldable pub refusal_of : ℕ → Refusal
refusal_of c = if eqb c 3 then Misspelt else if eqb c 4 then OutOfRange else TooShort
