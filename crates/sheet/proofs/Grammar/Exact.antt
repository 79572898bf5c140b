-- The parser accepts exactly the grammar's sentences, each with one tree. Assumes nothing.
use mathlib.Core.Path.{◌≡◌, sym, ◌∙◌}
use mathlib.Core.Option.{some, none-ne-some, some-injective}
use mathlib.Core.List.{[], ◌∷◌}
use native.Mathlib.Omega.{arith}
use Rattle.laws.specs.Choice.{on_some}
use Rattle.laws.proofs.Options.{on_some_some}
use Rattle.laws.proofs.Tests.{at_some}
use Rattle.sheet.specs.Grammar.Tokens.{Tokens}
use Rattle.sheet.specs.Grammar.Trees.{Tree}
use Rattle.sheet.specs.Grammar.Sentences.{Reads, whole}
use Rattle.sheet.specs.Grammar.Parser.{rank, parse, enough, at_end, sentence}
use Rattle.sheet.specs.Grammar.Laws.{Exact, Unambiguous}
use Rattle.sheet.proofs.Grammar.Sound.{sound}
use Rattle.sheet.proofs.Grammar.Stops.{stops_end}
use Rattle.sheet.proofs.Grammar.Complete.{complete}

ended : (x : Tree × Tokens) {t : Tree} (s : Tokens) → at_end x ≡ some t → Reads whole s x.0 x.1 → Reads whole s t []
unfolding at_end
ended x {t} s e h = go x.1 e h
  where
    go : (r : Tokens) → at_end (x.0, r) ≡ some t → Reads whole s x.0 r → Reads whole s t []
    go [] e h = rw (some-injective _ _ e) at h
    go (w ∷ r) e h = absurd (none-ne-some _ e)

pub exact : Exact
unfolding sentence enough rank on_some at_end
exact s t = (forth, back)
  where
    forth : sentence s ≡ some t → Reads whole s t []
    forth e =
        let x = on_some_some (parse (enough s) whole s) at_end e in
        ended x.0 s x.2 (at_some (rw x.1 at (sound (enough s) whole s)))

    all_read : parse (enough s) whole s ≡ some (t, []) → sentence s ≡ some t
    all_read e = rw e

    back : Reads whole s t [] → sentence s ≡ some t
    back h = all_read (complete h stops_end (enough s) (omega arith))

pub unambiguous : Unambiguous
unambiguous s t u h k = some-injective _ _ (sym ((exact s t).1 h) ∙ (exact s u).1 k)
