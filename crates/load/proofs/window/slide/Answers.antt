-- `slide` meets its contract. Assumes nothing.
use Prim.Native.Nat.{◌%◌}
use mathlib.Core.Path.{refl}
use mathlib.Core.Logic.{inl, inr, ⊎_elim}
use lib.ListN.{set}
use Rattle.load.specs.Record.{stored}
use Rattle.load.specs.Tally.{with_ring}
use Rattle.load.proofs.Record.{not_taken, taken_window}
use Rattle.load.proofs.window.slide.Goals as goal

pub returns-then-length-gt-LONGEST : goal.returns-then-length-gt-LONGEST
returns-then-length-gt-LONGEST c = (
  not_taken (with_ring c.args.t c.args.recent.now) c.args.length
      (⊎_elim inl
      (λ h. inr (⊎_elim (λ h. inl h.1)
      (λ h. inr (⊎_elim (λ h. inl h.2)
      (λ h. inr (rw c.oldest-old.ensures at h.3)) h)) h)) c.then-length-gt-LONGEST.either),
  refl,
)

pub returns : goal.returns
unfolding stored
returns c =
    taken_window (with_ring c.args.t c.args.recent.now) c.args.length c.if-length-gt-LONGEST.false
    c.if-t-ge-MOST_LENGTHS.false
    c.if-t-gt-MOST_SUM.false
    (rw c.oldest-old.ensures at c.if-t-old.false)
    (rw (c.from.ensures, c.oldest-old.ensures) at (c.with_best.ensures (set c.args.recent.now (c.args.t.count % 64) c.args.length)))
