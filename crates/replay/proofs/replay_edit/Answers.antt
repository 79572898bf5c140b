-- `replay::replay_edit` meets its contract. Assumes nothing.
use native.Mathlib.Omega.{arith}
use lib.Seq.{length-take-le}
use Rattle.replay.proofs.EditLineLaws.{no_feed, two_lines, one_line_lem}
use Rattle.replay.proofs.replay_edit.Goals as goal
use Rattle.replay.proofs.replay_edit.Goals.{then-line-e-via-then-line-e, then-line-e-via-else-line-e+then-e-line}

pub returns-then-line-e : goal.returns-then-line-e
returns-then-line-e c = λ w1. elim c.then-line-e.branch [ then-line-e-via-then-line-e w ↦ no_feed c.find-e.ensures w.if-line-e.true | then-line-e-via-else-line-e+then-e-line w ↦ two_lines c.find-e.ensures w.if-e-line.true ]

pub slice_bounds-edit_line-end : goal.slice_bounds-edit_line-end
slice_bounds-edit_line-end c = search length-take-le

pub returns : goal.returns
returns c = λ w1. one_line_lem c.find-e.ensures (omega arith) (omega arith) (c.edit_line.ensures w1)
