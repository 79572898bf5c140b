-- `spell_real` meets its contract: the digits still to be written and those behind them are all digits. Assumes nothing.
use lib.Ieee.{binary64, to_bits}
use Rattle.floats.proofs.Writing.{Behind}
use Rattle.floats.proofs.spelling.spell_real.Given as goal

abbrev pub invariant-loop-k : goal.invariant-loop-k
invariant-loop-k l = Behind (to_bits binary64 l.x) l.text l.rest l.k
