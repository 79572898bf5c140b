-- `evaluation::rule::trace_rule` meets its contract. Assumes nothing.
use native.Mathlib.Omega.{arith}
use Rattle.evaluation.proofs.NodeLaws.{rule_done}
use Rattle.evaluation.proofs.rule.trace_rule.Goals as goal

pub returns : goal.returns
returns c = rw c.unpack.ensures (rule_done _ _ _ c.args.stack.now (omega (arith, c.requires)) c.requires.root_bound.1 c.push.ensures c.word.ensures)
