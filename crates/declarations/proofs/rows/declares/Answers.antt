-- `declares` meets its contract: the chain asks each row.
use borrow.Author.Rules.{rules}
use borrow.Author.Tests.{tests}
use mathlib.Core.Path.{refl, ◌∙◌}
use native.Mathlib.Omega.{arith}
use Rattle.std.proofs.lemmas.Iterator.{YieldsList-from_range}
use Rattle.std.proofs.lemmas.Iterator.Search.{any_from_yields_List}
use Rattle.declarations.proofs.KnownLaws.{asks, any_declares}
use Rattle.declarations.proofs.rows.declares.Goals as goal

pub returns : goal.returns
returns c =
    let a = c.args in
    any_from_yields_List (asks a.w0.now a.rows a.c a.name c.requires.0 c.requires.1) _ _ _ c.any.ensures.ran (YieldsList-from_range 0 a.rows a.rows refl (omega arith)) (λ x b q k. search (rules, tests))
    ∙ any_declares a.w0.now a.rows a.c a.name c.requires.0 c.requires.1 a.rows 0 (omega arith)
