-- Document 02, F-12: a small sheet, and the sheet with its objects numbered anew.
use Rattle.std.specs.Prelude.{List, [], ◌∷◌, ℕ, zero, suc}
use Prim.Native.String.{String}
use Rattle.sheet.specs.Examples.{lines}
use Rattle.profile.specs.FreeNumbering.{Renumbers}

-- object 0 becomes 2, 1 becomes 0 and 2 becomes 1
unfoldable pub turned : ℕ → ℕ
turned zero = 2
turned (suc zero) = 0
turned (suc (suc zero)) = 1
turned (suc (suc (suc o))) = suc (suc (suc o))

unfoldable pub turned_back : ℕ → ℕ
turned_back zero = 1
turned_back (suc zero) = 2
turned_back (suc (suc zero)) = 0
turned_back (suc (suc (suc o))) = suc (suc (suc o))

unfoldable pub as_given : List String
as_given = "C 0 -" ∷ "C 1 0" ∷ "A 0 0 5 S(#0)" ∷ "A 1 0 6 Q(#0)" ∷ "O 0 1" ∷ "O 1 0" ∷ "O 2 0" ∷ "V 0 0 S(@0,@1)" ∷ "V 0 1 Q(@1,@0)" ∷ "V 2 0 S()"
    ∷ "R 0 0" ∷ "N 0 self" ∷ "N 1 attr 0 5" ∷ []

-- O and V lines are back in order, and so are a Set's members; a Sequence's stay as they stood
unfoldable pub numbered_anew : List String
numbered_anew = "C 0 -" ∷ "C 1 0" ∷ "A 0 0 5 S(#0)" ∷ "A 1 0 6 Q(#0)" ∷ "O 0 0" ∷ "O 1 0" ∷ "O 2 1" ∷ "V 1 0 S()" ∷ "V 2 0 S(@0,@2)" ∷ "V 2 1 Q(@0,@2)"
    ∷ "R 0 0" ∷ "N 0 self" ∷ "N 1 attr 0 5" ∷ []

abbrev pub RenumberedExample : Type 0
RenumberedExample = Renumbers turned turned_back (lines as_given) (lines numbered_anew)
