-- `shift_right` meets its contract. Assumes nothing.
use native.Mathlib.Omega.{arith}
use Rattle.moves.proofs.ShiftLaws.{moved_bytes}
use Rattle.moves.proofs.shifted.shift_right.Goals as goal

pub returns : goal.returns
returns c = moved_bytes c.args.from c.args.to c.args.n c.args.out.now (omega arith) c.copy_within.ensures.after
