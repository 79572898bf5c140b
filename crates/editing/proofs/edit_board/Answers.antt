-- `edit_board` meets its contract. Assumes nothing.
use mathlib.Core.List.{[]}
use native.Mathlib.Omega.{arith}
use Rattle.replay.proofs.ReplayLaws.{lying_accepted}
use Rattle.editing.proofs.EditLaws.{edit_known, edit_row, edit_made, edit_refused}
use Rattle.editing.proofs.edit_board.Goals as goal

pub replay_edit-requires : goal.replay_edit-requires
replay_edit-requires c = search lying_accepted

pub renew_board-requires : goal.renew_board-requires
renew_board-requires c = record { least_words_in_bounds = (omega (arith, c.requires.least_words_in_bounds.0, (c.replay_edit.ensures []).kept.size), c.requires.least_words_in_bounds.1, c.requires.least_words_in_bounds.2, edit_known (c.replay_edit.ensures _) c.in-Ok.is c.requires.known_accepted); row_lt_most_rows = (edit_row (c.replay_edit.ensures _) c.in-Ok.is c.requires.known_accepted, c.requires.least_words_in_bounds.3) }

pub returns-in-Ok : goal.returns-in-Ok
returns-in-Ok c = edit_made (c.replay_edit.ensures _) c.in-Ok.is c.renew_board.ensures

pub returns-in-Err : goal.returns-in-Err
returns-in-Err c = rw c.at.ensures (edit_refused (c.replay_edit.ensures _) c.in-Err.is _ _)
