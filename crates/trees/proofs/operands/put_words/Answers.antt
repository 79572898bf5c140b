-- `put_words` meets its contract.
use Rattle.trees.proofs.OperandLaws.{wrote_none, wrote_next, wrote_all}
use native.Mathlib.Omega.{arith}
use borrow.Author.Rules.{rules}
use Rattle.trees.proofs.operands.put_words.Goals as goal

pub loop-k-init : goal.loop-k-init
loop-k-init c = (wrote_none _ _ _, search rules)

pub loop-k-preserved : goal.loop-k-preserved
loop-k-preserved c = (wrote_next c.loop-k.invariant.0 (omega arith) (omega (arith, c.loop-k.invariant.0.kept.size)) c.shift.ensures, search rules)

pub returns : goal.returns
returns c = wrote_all c.loop-k.invariant.0 (omega arith)
