-- `put_types` meets its contract. Assumes nothing.
use Rattle.answering.proofs.ReadCalls.{LinesTo}
use Rattle.answering.proofs.read.put_types.Given as goal

abbrev pub invariant-loop-ty : goal.invariant-loop-ty
invariant-loop-ty l = LinesTo l.w2 l.rules l.initial.out l.out l.ty-index l.at
