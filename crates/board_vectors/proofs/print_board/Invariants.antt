-- What is left of the pieces falls with each edit.
use Rattle.std.proofs.Common.{length, ◌-◌}
use Rattle.board_vectors.proofs.print_board.Given as goal

abbrev pub decreases-loop-at : goal.decreases-loop-at
decreases-loop-at g l = length l.pieces - l.at
