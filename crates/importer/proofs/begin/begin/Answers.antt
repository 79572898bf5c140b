-- `begin` meets its contract.
use Rattle.std.specs.Prelude.{◌≡◌, None}
use Rattle.std.proofs.Common.{rules}
use Rattle.importer.proofs.BeginLaws.{begin_leaf, begin_no, begin_round, begin_if, begin_braces, begin_all, begin_empty}
use Rattle.importer.proofs.begin.begin.Goals as goal

pub returns-then-p : goal.returns-then-p
returns-then-p c = search begin_leaf

pub returns-in_err-found : goal.returns-in_err-found
returns-in_err-found c = let e : c.from_residual.result ≡ None = search rules in rw e (begin_no c.requires.0 c.leaf-p.ensures c.if-p.false c.opening.ensures c.in_err-found.was)

pub returns-in-All : goal.returns-in-All
returns-in-All c = search (begin_all, c.in_ok-found.was)

pub returns-in-Bracket : goal.returns-in-Bracket
returns-in-Bracket c = search (begin_round, c.in_ok-found.was)

pub returns-in-Condition : goal.returns-in-Condition
returns-in-Condition c = search (begin_if, c.in_ok-found.was)

pub returns-in-Empty : goal.returns-in-Empty
returns-in-Empty c = search (begin_empty, c.in_ok-found.was)

pub returns-in-Members : goal.returns-in-Members
returns-in-Members c = search (begin_braces, c.in_ok-found.was)
