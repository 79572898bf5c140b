-- `instances` meets its contract. Assumes nothing.
use mathlib.Core.Path.{◌≡◌}
use native.Mathlib.Omega.{arith}
use Rattle.std.specs.Prelude.{None}
use Rattle.std.proofs.Common.{rules}
use Rattle.phrases.proofs.WordLaws.{came_ahead, labelled_ahead}
use Rattle.phrases.proofs.OpeningLaws.{no_class, no_dot, no_all, no_open, no_close, all_instances_lem}
use Rattle.phrases.proofs.openings.instances.Goals as goal

pub returns-in_err-class : goal.returns-in_err-class
returns-in_err-class c = let e : c.from_residual.result ≡ None = search rules in rw e (no_class c.labelled_at.ensures c.in_err-class.was)

pub after-requires : goal.after-requires
after-requires c = (labelled_ahead c.labelled_at.ensures c.in_ok-class.was, λ e. omega arith)

pub returns-in_err-word : goal.returns-in_err-word
returns-in_err-word c = let e : c.from_residual-in_err-word.result ≡ None = search rules in rw e (no_dot c.labelled_at.ensures c.in_ok-class.was c.after.ensures c.in_err-word.was)

pub after-requires-2 : goal.after-requires-2
after-requires-2 c = (came_ahead c.after.ensures c.in_ok-word.was, λ e. omega arith)

pub returns-in_err-bracket : goal.returns-in_err-bracket
returns-in_err-bracket c = let e : c.from_residual-in_err-bracket.result ≡ None = search rules in rw e (no_all c.labelled_at.ensures c.in_ok-class.was c.after.ensures c.in_ok-word.was c.after-2.ensures c.in_err-bracket.was)

pub after-requires-3 : goal.after-requires-3
after-requires-3 c = (came_ahead c.after-2.ensures c.in_ok-bracket.was, λ e. omega arith)

pub returns-in_err-close : goal.returns-in_err-close
returns-in_err-close c = let e : c.from_residual-in_err-close.result ≡ None = search rules in rw e (no_open c.labelled_at.ensures c.in_ok-class.was c.after.ensures c.in_ok-word.was c.after-2.ensures c.in_ok-bracket.was c.after-3.ensures c.in_err-close.was)

pub after-requires-4 : goal.after-requires-4
after-requires-4 c = (came_ahead c.after-3.ensures c.in_ok-close.was, λ e. omega arith)

pub returns-in_err-next : goal.returns-in_err-next
returns-in_err-next c = let e : c.from_residual-in_err-next.result ≡ None = search rules in rw e (no_close c.labelled_at.ensures c.in_ok-class.was c.after.ensures c.in_ok-word.was c.after-2.ensures c.in_ok-bracket.was c.after-3.ensures c.in_ok-close.was c.after-4.ensures c.in_err-next.was)

pub returns : goal.returns
returns c = all_instances_lem c.labelled_at.ensures c.in_ok-class.was c.after.ensures c.in_ok-word.was c.after-2.ensures c.in_ok-bracket.was c.after-3.ensures c.in_ok-close.was c.after-4.ensures c.in_ok-next.was
