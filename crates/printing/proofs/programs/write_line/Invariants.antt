-- What has been written is what comes before the rest.
use Rattle.std.proofs.Common.{◌++◌, ◌≡◌, List, ℕ, length}
use Rattle.std.specs.Io.KnownBytes.{Appends}
use Rattle.printing.proofs.programs.write_line.Given as goal

abbrev pub invariant-loop-rest : goal.invariant-loop-rest
invariant-loop-rest g l = (front : List ℕ) × (l.line ≡ front ++ l.rest) × Appends (g.W.Write.contents l.initial.output) (g.W.Write.contents l.output) front

abbrev pub decreases-loop-rest : goal.decreases-loop-rest
decreases-loop-rest g l = length l.rest
