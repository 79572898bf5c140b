-- `replay::judging::judge_clearing` meets its contract. Assumes nothing.
use native.Mathlib.Omega.{arith}
use Rattle.replay.proofs.ClearingLaws.{clears_four, cleared_object, cleared_row, clearing_unread, clearing_judged}
use Rattle.replay.proofs.judging.judge_clearing.Goals as goal

pub field-requires : goal.field-requires
field-requires c = (c.requires.0, (let z = clears_four c.requires.0 c.requires.2 in omega arith), omega arith)

pub returns-in_default : goal.returns-in_default
returns-in_default c = search (clearing_unread, cleared_object)

pub field-requires-2 : goal.field-requires-2
field-requires-2 c = (c.requires.0, (let z = clears_four c.requires.0 c.requires.2 in omega arith), omega arith)

pub returns-in_default-number : goal.returns-in_default-number
returns-in_default-number c = search (clearing_unread, cleared_row)

pub returns : goal.returns
returns c = λ w1. clearing_judged c.requires.0 c.requires.1 c.requires.2 c.field.ensures c.number.ensures c.in-Some.is c.field-2.ensures c.number-2.ensures c.in-Some-number.is (c.judge_cleared.ensures w1)
