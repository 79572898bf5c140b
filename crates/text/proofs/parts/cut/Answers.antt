-- `cut` meets its contract. The first k fields lie where the ends say, and the rest of the line is the rest of the fields. Assumes nothing.
use mathlib.Core.Path.{refl}
use borrow.Author.Rules.{rules}
use Rattle.text.proofs.PartLaws.{cut_none, cut_last, cut_next, cut_full}
use Rattle.text.proofs.parts.cut.Goals as goal

pub loop-k-init : goal.loop-k-init
loop-k-init c = cut_none _ _ refl

pub returns-then-e-line : goal.returns-then-e-line
returns-then-e-line c = search cut_last

pub loop-k-preserved : goal.loop-k-preserved
loop-k-preserved c = search (cut_next, rules)

pub returns : goal.returns
returns c = search (cut_full, rules)
