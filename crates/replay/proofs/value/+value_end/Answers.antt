-- `replay::value::value_end` meets its contract. Assumes nothing.
use mathlib.Core.Logic.{⊎_elim}
use native.Mathlib.Omega.{arith}
use Rattle.replay.proofs.CellLaws.{end_past, end_simple, end_other, end_top, end_deep}
use Rattle.replay.proofs.MemberLaws.{among_first, among_again}
use Rattle.replay.proofs.ValueLaws.{group_end, group_none}
use Rattle.replay.proofs.value.+value_end.Goals as goal

pub returns-then-cells-p : goal.returns-then-cells-p
returns-then-cells-p t c = search end_past

pub returns-then-simple_cell : goal.returns-then-simple_cell
returns-then-simple_cell t c = search end_simple

pub returns-then-cell-lt-COLLECTIONS : goal.returns-then-cell-lt-COLLECTIONS
returns-then-cell-lt-COLLECTIONS t c = search end_other

pub returns-then-cell-ge-TOP : goal.returns-then-cell-ge-TOP
returns-then-cell-ge-TOP t c = ⊎_elim (end_top (omega arith)) (λ h. end_deep (omega arith) (omega arith) h.1) c.then-cell-ge-TOP.either

pub loop-init : goal.loop-init
loop-init t c = among_first _ _ (omega arith)

pub value_end-r-requires : goal.value_end-r-requires
value_end-r-requires t c = (let z = c.decreases in omega arith, tt)

pub returns-then-r-eq0 : goal.returns-then-r-eq0
returns-then-r-eq0 t c = group_none _ _ _ _ (omega arith) (omega arith) (omega arith) c.if-deep-eq0.false c.member_count-n.ensures.0 c.loop.invariant c.value_end-r.ensures c.loop-test.true c.if-r-eq0.true

pub loop-preserved : goal.loop-preserved
loop-preserved t c = among_again c.loop.invariant c.value_end-r.ensures c.loop-test.true (omega arith)

pub returns : goal.returns
returns t c = group_end _ _ _ _ (omega arith) (omega arith) (omega arith) c.if-deep-eq0.false c.member_count-n.ensures.0 c.loop.invariant (omega arith)
