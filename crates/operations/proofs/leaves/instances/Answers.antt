-- `operations::leaves::instances` meets its contract. Assumes nothing.
use mathlib.Core.Path.{◌≡◌, sym, ◌∙◌}
use lib.ListN.{length-set}
use native.Mathlib.Omega.{arith}
use borrow.Author.Rules.{rules}
use Rattle.std.specs.Prelude.{None}
use Rattle.operations.proofs.LeafLaws.{gathered_none, gathered_more, gathered_over, gathered_all}
use Rattle.operations.proofs.leaves.instances.Goals as goal

pub loop-o-init : goal.loop-o-init
loop-o-init c = gathered_none c.args.stack.now c.empty_of.ensures (omega arith)

pub returns-in_err-len : goal.returns-in_err-len
returns-in_err-len c =
    let e : c.from_residual.result ≡ None = search rules in
    rw (e ∙ sym c.in_err-len.was) (gathered_over c.loop-o.invariant c.with_object.ensures c.in_err-len.was (omega arith))

pub loop-o-preserved : goal.loop-o-preserved
loop-o-preserved c = gathered_more c.loop-o.invariant c.with_object.ensures c.in_ok-len.was c.with_object.auto.stack (omega (arith, c.loop-o.invariant.long, length-set c.args.stack.now c.args.sp c.empty_of.result, c.requires)) c.loop-o-test.true

pub returns : goal.returns
returns c = gathered_all c.args.stack.now _ c.loop-o.invariant c.loop-o-test.false (omega arith)
