-- `bring_all` meets its contract. Assumes nothing.
use Rattle.operations.proofs.BringLaws.{bring_none, bring_ended, bring_over, bring_again, bring_end}
use Rattle.operations.proofs.collect.bring_all.Goals as goal

pub returns-in_default : goal.returns-in_default
returns-in_default c = search bring_none

pub returns-in_default-one : goal.returns-in_default-one
returns-in_default-one c = search bring_ended

pub returns-then-len-gt-MOST : goal.returns-then-len-gt-MOST
returns-then-len-gt-MOST c = search bring_over

pub loop-q-preserved : goal.loop-q-preserved
loop-q-preserved c = search bring_again

pub returns : goal.returns
returns c = search bring_end
