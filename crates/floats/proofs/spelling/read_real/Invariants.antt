-- `read_real` meets its contract: the digits read so far and those behind them stand for what all of them stand for. Assumes nothing.
use Rattle.floats.proofs.Reading.{ReadTo}
use Rattle.floats.proofs.spelling.read_real.Given as goal

abbrev pub invariant-loop-c : goal.invariant-loop-c
invariant-loop-c l = ReadTo l.c-items l.bits l.c-index
