-- `spell_real` meets its contract: the digits still to be written and those behind them are all digits. Assumes nothing.
use Rattle.reals.proofs.Bits.{finite_number}
use Rattle.floats.proofs.Writing.{none_yet, low_digit, one_more, all_written}
use Rattle.floats.proofs.spelling.spell_real.Goals as goal

pub float_to_bits-rest : goal.float_to_bits-rest
float_to_bits-rest c = search finite_number

pub loop-k-init : goal.loop-k-init
loop-k-init c = none_yet _

pub byte_of-requires : goal.byte_of-requires
byte_of-requires c = low_digit c.loop-k.rest

pub loop-k-preserved : goal.loop-k-preserved
loop-k-preserved c = search one_more

pub returns : goal.returns
returns c = search all_written
