-- `renew_board` meets its contract. Assumes nothing.
use Prim.Native.Nat.{ℕ}
use native.Mathlib.Omega.{arith}
use lib.ListN.{length-replicate}
use Rattle.std.proofs.lemmas.Result.{err_from_is_err_and}
use Rattle.editing.proofs.EditLaws.{board_renewed, board_refused}
use borrow.Author.Rules.{rules}
use Rattle.editing.proofs.renew_board.Goals as goal

pub returns-in_err-end : goal.returns-in_err-end
returns-in_err-end c = let p = err_from_is_err_and c.from_residual.result c.from_residual.ensures.1 in rw (p.1, p.2) (board_refused _ c.requires.least_words_in_bounds.3 c.renew.ensures c.in_err-end.was)

pub returns : goal.returns
returns c = board_renewed _ c.requires.least_words_in_bounds.3 c.renew.ensures c.in_ok-end.was (omega (arith, c.renew.ensures.placed_size, length-replicate {A = ℕ} 64 0)) c.store_board.ensures (search rules)
