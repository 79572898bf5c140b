-- `slots::suits::belongs` meets its contract. Assumes nothing.
use Rattle.slots.proofs.SuitLaws.{belongs_base, belongs_other, belongs_start, belongs_around, belongs_not, belongs_again, belongs_end}
use native.Mathlib.Omega.{arith}
use Rattle.slots.proofs.suits.+belongs.Goals as goal

pub returns-then-letter-eq0 : goal.returns-then-letter-eq0
returns-then-letter-eq0 t c = belongs_base c.requires.0 c.requires.1 c.if-letter-eq0.true c.base_suits.ensures

pub returns-then-not-letter_suits : goal.returns-then-not-letter_suits
returns-then-not-letter_suits t c = belongs_other c.requires.0 c.requires.1 c.if-letter-eq0.false c.letter_suits.ensures (c.if-not-letter_suits.true)

pub loop-q-init : goal.loop-q-init
loop-q-init t c = belongs_start c.requires.0 c.requires.1 _

pub skip-r-requires : goal.skip-r-requires
skip-r-requires t c = let r = c.loop-q.invariant.room in omega arith

pub belongs-requires : goal.belongs-requires
belongs-requires t c = let r = c.loop-q.invariant.room in let a = c.loop-q.invariant.above in let x = c.skip-r.ensures.up c.loop-q-test.true in let y = c.skip-r.ensures.within in let z = c.decreases in (omega arith, (omega arith, omega arith))

pub returns-then-not-belongs : goal.returns-then-not-belongs
returns-then-not-belongs t c = belongs_not c.loop-q.invariant c.loop-q-test.true c.skip-r.ensures c.belongs.ensures (belongs_around c.requires.0 c.requires.1 c.if-letter-eq0.false c.letter_suits.ensures (c.if-not-letter_suits.false) c.under_outer-inner.ensures) (c.if-not-belongs.true)

pub loop-q-smaller : goal.loop-q-smaller
loop-q-smaller t c = let u = c.skip-r.ensures.up c.loop-q-test.true in omega arith

pub loop-q-preserved : goal.loop-q-preserved
loop-q-preserved t c = belongs_again c.loop-q.invariant c.loop-q-test.true c.skip-r.ensures c.belongs.ensures (c.if-not-belongs.false)

pub returns : goal.returns
returns t c = belongs_end c.loop-q.invariant (belongs_around c.requires.0 c.requires.1 c.if-letter-eq0.false c.letter_suits.ensures (c.if-not-letter_suits.false) c.under_outer-inner.ensures) (omega arith)
