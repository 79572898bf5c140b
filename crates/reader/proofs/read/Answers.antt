-- The loop's invariant: `Going` of proofs/Loop.antt. What is left of the text falls. Assumes nothing.
use borrow.Author.Rules.{rules}
use mathlib.Core.Path.{◌≡◌}
use Rattle.std.specs.Prelude.{Err}
use native.Mathlib.Omega.{arith}
use lib.Seq.{length-take-le}
use Rattle.reader.proofs.Loop.{going_start, going_refused, going_next, going_last}
use Rattle.reader.proofs.read.Goals as goal

pub loop-e-init : goal.loop-e-init
loop-e-init c = search going_start

pub slice_bounds-line_read-end : goal.slice_bounds-line_read-end
slice_bounds-line_read-end c = search length-take-le

pub returns-in_err-st : goal.returns-in_err-st
returns-in_err-st c = let e : c.from_residual.result ≡ Err c.in_err-st.field-0.0 = search rules in rw e (going_refused c.loop-e.invariant c.loop-e-test.true (rw c.in_err-st.was at c.line_read.ensures))

pub overflow_add-rest : goal.overflow_add-rest
overflow_add-rest c = omega (arith, c.loop-e.invariant.ends.within, c.loop-e.invariant.short, c.requires.3)

pub overflow_add-k : goal.overflow_add-k
overflow_add-k c = omega (arith, c.loop-e.invariant.short, c.requires.3)

pub loop-e-preserved : goal.loop-e-preserved
loop-e-preserved c = going_next c.loop-e.invariant c.loop-e-test.true (rw c.in_ok-st.was at c.line_read.ensures) c.find-e-in-loop-e.ensures

pub returns : goal.returns
returns c = search going_last
