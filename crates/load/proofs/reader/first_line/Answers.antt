-- `first_line` meets its contract. Assumes nothing.
use mathlib.Core.Logic.{inl, inr, ⊎_elim}
use Rattle.load.proofs.Steps.{first_refused, first_taken}
use Rattle.load.proofs.reader.first_line.Goals as goal

pub returns-then-n-eq0 : goal.returns-then-n-eq0
returns-then-n-eq0 c = first_refused (⊎_elim inl (λ h. inr h.1) c.then-n-eq0.either)

pub returns : goal.returns
returns c = search first_taken
