-- `collection` meets its contract. Assumes nothing.
use mathlib.Core.Path.{◌≡◌}
use native.Mathlib.Omega.{arith}
use Rattle.std.specs.Prelude.{None}
use Rattle.std.proofs.Common.{rules}
use Rattle.phrases.proofs.WordLaws.{came_ahead}
use Rattle.phrases.proofs.OpeningLaws.{no_brace, no_members, members}
use Rattle.phrases.proofs.openings.collection.Goals as goal

pub returns-in_err-u : goal.returns-in_err-u
returns-in_err-u c = let e : c.from_residual.result ≡ None = search rules in rw e (no_brace c.requires.0 c.requires.1 c.next_token.ensures c.after.ensures c.in_err-u.was)

pub after-closed-requires : goal.after-closed-requires
after-closed-requires c = (came_ahead c.after.ensures c.in_ok-u.was, λ e. omega arith)

pub returns-in-Some : goal.returns-in-Some
returns-in-Some c = no_members c.requires.0 c.requires.1 c.next_token.ensures c.after.ensures c.in_ok-u.was c.after-closed.ensures c.in-Some.is

pub returns-in-None : goal.returns-in-None
returns-in-None c = members c.requires.0 c.requires.1 c.next_token.ensures c.after.ensures c.in_ok-u.was c.after-closed.ensures c.in-None.is
