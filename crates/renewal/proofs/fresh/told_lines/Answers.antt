-- `told_lines` meets its contract. Assumes nothing.
use Rattle.renewal.proofs.FreshLaws.{told, not_told}
use Rattle.rows.specs.Bits.{bit}
use Rattle.renewal.proofs.fresh.told_lines.Goals as goal

pub returns-then-has_bit : goal.returns-then-has_bit
returns-then-has_bit c = search (told, bit)

pub returns : goal.returns
returns c = search (not_told, bit)
