-- Document 02, F-7: what is proved of the grammar and the parser.
use Rattle.std.specs.Prelude.{◌≡◌, ◌↔◌, [], ◌++◌}
use Rattle.std.proofs.Math.Option.{some}
use Rattle.sheet.specs.Grammar.Tokens.{Tokens}
use Rattle.sheet.specs.Grammar.Trees.{Tree}
use Rattle.sheet.specs.Grammar.Sentences.{Level, Reads, whole}
use Rattle.sheet.specs.Grammar.Parser.{sentence}

-- "It accepts exactly that grammar's texts": the parser finds the grammar's trees and no other
abbrev pub Exact : Type 0
Exact = (s : Tokens) (t : Tree) → sentence s ≡ some t ↔ Reads whole s t []

-- "each with one reading"
abbrev pub Unambiguous : Type 0
Unambiguous = (s : Tokens) (t u : Tree) → Reads whole s t [] → Reads whole s u [] → t ≡ u

-- an expression is tokens of its own, and reads the same whatever follows them; so a reading with a rest is one without, and no more is
-- said here than by rules that set one part after the other
pub record Own (l : Level) (s : Tokens) (t : Tree) (r : Tokens) : Type 0 where
  pub own : Tokens
  pub parts : s ≡ own ++ r
  pub before : (q : Tokens) → Reads l (own ++ q) t q

abbrev pub RestFree : Type 0
RestFree = (l : Level) (s : Tokens) (t : Tree) (r : Tokens) → Reads l s t r → Own l s t r
