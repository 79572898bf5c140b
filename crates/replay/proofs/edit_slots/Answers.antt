-- `replay::edit_slots` meets its contract. Assumes nothing.
use native.Mathlib.Omega.{arith}
use mathlib.Core.List.{[]}
use Rattle.std.proofs.lemmas.Result.{err_from_is_err_and}
use Rattle.replay.proofs.EditSlotLaws.{spelled_judged, lying_emptied, edit_refused, edit_full, edit_made}
use Rattle.replay.proofs.edit_slots.Goals as goal

pub replay-requires : goal.replay-requires
replay-requires c = (c.requires.0, c.requires.1, spelled_judged c.requires.4 c.in_ok-key.ensures, c.requires.2, (let k = (c.judge.ensures []).kept.size in omega arith), rw c.emptied.ensures (lying_emptied c.requires.4 c.in_ok-key.ensures))

pub returns-in_err-key : goal.returns-in_err-key
returns-in_err-key c = λ w1. let p = err_from_is_err_and c.from_residual.result c.from_residual.ensures.1 in rw (p.1, p.2) (edit_refused (rw c.in_err-key.was at (c.judge.ensures w1)))

pub returns-in-Err : goal.returns-in-Err
returns-in-Err c = edit_full c.in_ok-key.ensures c.emptied.ensures c.in-Err.is c.replay.ensures

pub shape_of-w0-in-Ok : goal.shape_of-w0-in-Ok
shape_of-w0-in-Ok c = (let a = (c.judge.ensures []).kept.size in let b = (c.replay.ensures []).kept.size in omega arith)

pub returns-in-Ok : goal.returns-in-Ok
returns-in-Ok c = edit_made c.in_ok-key.ensures c.emptied.ensures c.in-Ok.is c.finished.ensures c.replay.ensures
