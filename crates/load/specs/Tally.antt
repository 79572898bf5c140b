-- A record in two parts, as the code holds it in a loop.
use Rattle.std.specs.Prelude.{ℕ, ◌≡◌, true, false, List}
use Rattle.std.specs.Prelude.{Option as Maybe, None, Some}
use Rattle.load.specs.Record.{Pushes}
use Rattle.load.specs.declared.window.Window.{Window}
use Rattle.load.specs.declared.window.Tally.{Tally}

-- a record by its tally and its ring
abbrev pub with_ring : Tally → List ℕ → Window
with_ring t ring = record { width = t.width; count = t.count; recent = ring; sum = t.sum; largest = t.largest; first = t.first }

-- the tally and the ring after one length more; both are as before where that is not taken
abbrev pub Slides : Tally → List ℕ → ℕ → Maybe Tally → List ℕ → Type 0
Slides t before x (Some u) after = Pushes (with_ring t before) x true (with_ring u after)
Slides t before x None after = Pushes (with_ring t before) x false (with_ring t before) × (after ≡ before)
