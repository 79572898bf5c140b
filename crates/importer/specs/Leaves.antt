-- What the code promises of a leaf, and of `not`s.
use Rattle.std.specs.Prelude.{◌≡◌, [], ◌∷◌, ℕ, zero, suc, ◌+◌, ◌≤◌}
use Rattle.std.proofs.Math.Option.{Option, none, some}
use Rattle.ocl.specs.Forms.{Leaf, negation}
use Rattle.sheet.specs.Text.{Bytes}
use Rattle.sheet.specs.Grammar.Tokens.{Tokens}
use Rattle.sheet.specs.Grammar.Trees.{unary, Tree, one}
use Rattle.sheet.specs.Grammar.Words.{leaf_word}
use Rattle.tokens.specs.declared.Token.{Token}
use Rattle.tokens.specs.Codes.{after_code}
use Rattle.tokens.specs.Meanings.{onward, Ahead}
use Rattle.importer.specs.declared.leaves.Negations.{Negations}

-- the leaf that the first token is
unfoldable pub leaf_of : Tokens → Option Leaf
leaf_of [] = none
leaf_of (w ∷ s) = leaf_word w

-- n times `not`, and then r
pub data Negated : ℕ → Tokens → Tokens → Type 0 where
  no_not : {r : Tokens} → Negated zero r r
  one_not : {n : ℕ} {s s' r : Tokens} → after_code 7 s ≡ some s' → Negated n s' r → Negated (suc n) s r

pub record NegationsAre (s : Bytes) (t : Token) (r : Negations) : Type 0 where
  pub ahead : Ahead s r.next
  pub from : t.start + r.count ≤ r.next.start
  pub nots : Negated r.count (onward s t) (onward s r.next)
  pub stops : after_code 7 (onward s r.next) ≡ none

-- the tree under n `not`s
unfoldable pub negated : ℕ → Tree → Tree
negated zero x = x
negated (suc n) x = one (unary negation) (negated n x)
