-- `answer_input` meets its contract: the text is what was read. Assumes nothing.
use mathlib.Core.Path.{refl}
use native.Mathlib.Omega.{arith}
use lib.ListN.{take, length-take}
use Rattle.printing.proofs.programs.answer_input.Goals as goal

pub returns : goal.returns
returns g c = (
  take c.in_ok-n.n c.read_input.new.text,
  c.in_ok-n.ensures.bytes.0,
  λ h. c.in_ok-n.ensures.bytes.1 (omega (arith, h, length-take c.in_ok-n.n c.read_input.new.text, c.read_input.auto.text, c.in_ok-n.ensures.within)),
  record { shown = _; before = _; after = _; shows = refl; says = record { met = c.printed.ensures }; is = refl },
)
