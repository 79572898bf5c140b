-- `all_used` meets its contract.
use native.Mathlib.Omega.{arith}
use borrow.Author.Rules.{rules}
use borrow.Author.Tests.{tests}
use mathlib.Core.Path.{refl}
use Rattle.std.proofs.lemmas.Iterator.{YieldsList-from_range}
use Rattle.std.proofs.lemmas.Iterator.Search.{all_from_yields_List}
use Rattle.trees.proofs.EndLaws.{is_used, used_all}
use Rattle.trees.proofs.ending.all_used.Goals as goal

pub returns : goal.returns
returns c =
    let a = c.args in
    used_all a.w1.now a.first a.count (all_from_yields_List (is_used a.w1.now a.first) _ _ _ c.all.ensures.ran (YieldsList-from_range 0 a.count a.count refl (omega arith)) (λ x b q k. search (rules, tests)))
