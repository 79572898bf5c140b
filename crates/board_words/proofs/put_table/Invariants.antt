-- `board_words::put_table` meets its contract. Assumes nothing.
use mathlib.Core.Path.{◌≡◌}
use lib.ListN.{length, take}
use lib.Seq.{paste}
use Rattle.board_words.specs.Layout.{padded}
use Rattle.board_words.proofs.put_table.Given as goal

abbrev pub invariant-loop-i : goal.invariant-loop-i
invariant-loop-i l = (l.words ≡ paste l.initial.words l.at (padded l.room (take l.n l.table)) l.i) × (length l.words ≡ length l.initial.words)
