-- `rules_outside` meets its contract. Assumes nothing.
use mathlib.Core.Path.{refl}
use borrow.Author.Rules.{rules}
use Rattle.numbering.proofs.Roots.{low_context, low_root, none_gone, one_gone, all_gone}
use Rattle.numbering.proofs.whole.rules_outside.Goals as goal

pub loop-r-init : goal.loop-r-init
loop-r-init c = none_gone _ _ _ _ _ _

pub overflow_cast-context : goal.overflow_cast-context
overflow_cast-context c = search low_context

pub root_outside-best-requires : goal.root_outside-best-requires
root_outside-best-requires c = search (low_root, rules)

pub loop-r-preserved : goal.loop-r-preserved
loop-r-preserved c = one_gone _ c.loop-r.invariant c.loop-r-test.true (low_root c.requires.rules_le_most_rules.1 c.loop-r-test.true c.wide-r-end.ensures c.wide-root.ensures) c.wide-root.ensures refl c.root_outside-best.ensures

pub returns : goal.returns
returns c = search all_gone
