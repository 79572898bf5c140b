-- `write_line` meets its contract. Assumes nothing.
use mathlib.Core.List.{◌++◌}
use lib.ListN.{take}
use Rattle.std.proofs.KnownBytes.{Appends-trans}
use Rattle.printing.proofs.Lines.{piece_more}
use Rattle.printing.proofs.programs.write_line.Goals as goal

pub loop-rest-preserved : goal.loop-rest-preserved
loop-rest-preserved g c =
    let inv = c.loop-rest.invariant in
    (inv.0 ++ take 1024 c.loop-rest.rest.now, piece_more _ inv.0 c.loop-rest.rest.now 1024 inv.1, Appends-trans _ _ _ _ _ inv.2 c.in_ok-write_all.ensures.bytes)
