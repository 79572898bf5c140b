-- `closes` meets its contract.
use mathlib.Core.Path.{sym, ◌∙◌}
use borrow.Author.Rules.{rules}
use lib.Dec.{eqb}
use borrow.Author.Tests.{ne_eqb}
use Rattle.std.proofs.lemmas.Iterator.{YieldsList-from_slice}
use Rattle.std.proofs.lemmas.Iterator.Search.{all_from_yields_List}
use Rattle.types.proofs.Closing.{closes_off, closes_all}
use Rattle.types.proofs.reading.closes.Goals as goal

pub returns-then-s-d : goal.returns-then-s-d
returns-then-s-d c =
    all_from_yields_List (λ b. eqb b 41) _ _ _ c.all.ensures.ran (YieldsList-from_slice c.args.s.now cc) (λ x b q k. search rules) ∙ closes_all _ _ c.if-s-d.true

pub returns-else-s-d : goal.returns-else-s-d
returns-else-s-d c = ne_eqb _ _ c.if-s-d.false ∙ sym (closes_off _ _ c.if-s-d.false)
