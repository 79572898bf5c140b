-- `letter_below` meets its contract: all letters are below C, and any other is below itself alone.
use mathlib.Core.Logic.{⊎_elim}
use Rattle.types.proofs.Levels.{letter_low, letter_high, letter_exact}
use Rattle.types.proofs.order.letter_below.Goals as goal

pub returns-then-l-lt-SET : goal.returns-then-l-lt-SET
returns-then-l-lt-SET c = ⊎_elim (λ h. letter_low _ _ h) (λ h. letter_high _ _ h.1) c.then-l-lt-SET.either

pub returns : goal.returns
returns c = search letter_exact
