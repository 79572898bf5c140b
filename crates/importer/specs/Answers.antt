-- A call of crates/sheet's parser answers o where every number of calls that is enough gives o.
use Rattle.std.specs.Prelude.{◌≡◌, ℕ, ◌+◌, ◌*◌, ◌≤◌, length}
use Rattle.sheet.specs.Grammar.Tokens.{Tokens}
use Rattle.sheet.specs.Grammar.Sentences.{Level}
use Rattle.sheet.specs.Grammar.Parser.{Found, rank, parse}

pub record Answers (l : Level) (s : Tokens) (o : Found) : Type 0 where
  pub answers : (f : ℕ) → 16 * length s + rank l ≤ f → parse f l s ≡ o
