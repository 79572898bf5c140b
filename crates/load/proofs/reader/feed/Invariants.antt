-- `feed` meets its contract. What is left of the piece leads from the state now to the state after the piece. Assumes nothing.
use mathlib.Core.Path.{◌≡◌}
use mathlib.Core.List.{◌++◌}
use lib.ListN.{drop}
use Rattle.std.specs.Prelude.{Ok}
use Rattle.sheet.specs.Text.{Bytes}
use Rattle.load.specs.Reader.{reader_of, progress_of, reader_with}
use Rattle.load.proofs.Feeding.{Going}
use Rattle.load.proofs.reader.feed.Given as goal

abbrev pub invariant-loop-b : goal.invariant-loop-b
invariant-loop-b l = (text : Bytes) → reader_with (Ok l.initial.state) l.initial.recent ≡ reader_of text → Going (progress_of (text ++ l.piece)) (reader_with (Ok l.state) l.recent) (drop l.b-index l.piece)
