-- `put_lines` meets its contract. Assumes nothing.
use Rattle.rows.proofs.RuleLaws.{LinesTo}
use Rattle.rows.proofs.lines.put_lines.Given as goal

abbrev pub invariant-loop-r : goal.invariant-loop-r
invariant-loop-r l = LinesTo l.st l.w0 l.w2 l.initial.out l.out l.r l.end
