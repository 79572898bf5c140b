-- `labelled_before` meets its contract. Assumes nothing.
use Rattle.std.specs.Prelude.{◌≡◌, None}
use Rattle.std.proofs.Common.{rules}
use Rattle.phrases.proofs.WordLaws.{labelled_ahead, before_none, before_gone, before_is}
use Rattle.phrases.proofs.words.labelled_before.Goals as goal

pub returns-in_err-n : goal.returns-in_err-n
returns-in_err-n c = let e : c.from_residual.result ≡ None = search rules in rw e (before_none _ _ c.labelled_at.ensures c.in_err-n.was)

pub after-requires : goal.after-requires
after-requires c = (labelled_ahead c.labelled_at.ensures c.in_ok-n.was, c.requires.1)

pub returns-in_err-u : goal.returns-in_err-u
returns-in_err-u c = let e : c.from_residual-in_err-u.result ≡ None = search rules in rw e (before_gone _ _ c.labelled_at.ensures c.in_ok-n.was c.after.ensures c.in_err-u.was)

pub returns : goal.returns
returns c = before_is _ _ c.labelled_at.ensures c.in_ok-n.was c.after.ensures c.in_ok-u.was
