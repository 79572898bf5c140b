-- `slots::objects::all_known` meets its contract. Assumes nothing.
use borrow.Author.Rules.{rules}
use borrow.Author.Tests.{tests}
use Rattle.std.proofs.lemmas.Iterator.{YieldsList-from_slice}
use Rattle.std.proofs.lemmas.Iterator.Search.{all_from_yields_List}
use Rattle.slots.specs.Objects.{cell_known}
use Rattle.slots.proofs.ObjectLaws.{known_all}
use Rattle.slots.proofs.objects.all_known.Goals as goal

pub returns : goal.returns
returns c = known_all _ _ (all_from_yields_List (cell_known c.args.n) _ _ _ c.all.ensures.ran (YieldsList-from_slice c.args.cells.now cc) (λ x b q k. search (rules, tests)))
