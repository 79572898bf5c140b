-- `deeper` meets its contract: a fourth letter is refused.
use native.Mathlib.Omega.{arith}
use Rattle.types.proofs.TypeFields.{deeper_wrap, deeper_full}
use Rattle.types.proofs.reading.deeper.Goals as goal

pub returns-then-depth-lt3 : goal.returns-then-depth-lt3
returns-then-depth-lt3 c = deeper_wrap _ c.args.t _ c.requires (omega (arith, c.depth.ensures, c.if-depth-lt3.true)) c.wrap.ensures

pub returns : goal.returns
returns c = deeper_full _ c.args.t c.requires (omega (arith, c.depth.ensures, c.if-depth-lt3.false))
