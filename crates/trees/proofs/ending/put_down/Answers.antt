-- `put_down` meets its contract.
use native.Mathlib.Omega.{arith}
use lib.ListN.{length-set}
use Rattle.trees.proofs.DownLaws.{put_definition, put_rule}
use Rattle.trees.proofs.ending.put_down.Goals as goal

pub bounds-w0-n-then-st-eq-DEFINITION_OPEN : goal.bounds-w0-n-then-st-eq-DEFINITION_OPEN
bounds-w0-n-then-st-eq-DEFINITION_OPEN c = simp length-set (omega arith)

pub bounds-w0-n-then-st-eq-DEFINITION_OPEN-2 : goal.bounds-w0-n-then-st-eq-DEFINITION_OPEN-2
bounds-w0-n-then-st-eq-DEFINITION_OPEN-2 c = simp length-set (omega arith)

pub returns-then-st-eq-DEFINITION_OPEN : goal.returns-then-st-eq-DEFINITION_OPEN
returns-then-st-eq-DEFINITION_OPEN c = search put_definition

pub bounds-w0-n-3 : goal.bounds-w0-n-3
bounds-w0-n-3 c = simp length-set (omega arith)

pub returns : goal.returns
returns c = search put_rule
