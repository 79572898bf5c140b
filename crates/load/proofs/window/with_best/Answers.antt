-- `with_best` meets its contract. Assumes nothing.
use mathlib.Core.Logic.{⊎_elim}
use Rattle.load.specs.Tally.{with_ring}
use Rattle.load.proofs.Record.{kept_none, kept_old, kept_first, kept_larger}
use Rattle.load.proofs.window.with_best.Goals as goal
use Rattle.load.proofs.window.with_best.Goals.{then-t-via-then-t, then-t-via-else-t+then-t-2}

pub returns-then-t : goal.returns-then-t
returns-then-t c = λ ring. elim c.then-t.branch [
  | then-t-via-then-t w ↦ kept_none (with_ring c.args.t ring) w.if-t.true
  | then-t-via-else-t+then-t-2 w ↦ kept_old (with_ring c.args.t ring) w.if-t.false w.if-t-2.true.0 w.if-t-2.true.1
]

pub returns : goal.returns
returns c = λ ring. ⊎_elim (λ h. kept_larger (with_ring c.args.t ring) c.if-t.false h.0 h.1) (λ h. kept_first (with_ring c.args.t ring) c.if-t.false h) c.if-t-2.either
