-- `on_numbers` meets its contract. Assumes nothing.
use Rattle.judgements.proofs.Numbers.{by_integers, by_reals, no_numbers}
use Rattle.judgements.proofs.binary.on_numbers.Goals as goal

pub returns-then-both_under : goal.returns-then-both_under
returns-then-both_under c = search by_integers

pub returns-then-both_under-2 : goal.returns-then-both_under-2
returns-then-both_under-2 c = search by_reals

pub returns : goal.returns
returns c = search (no_numbers, c.at.ensures)
