-- `open_let` meets its contract.
use native.Mathlib.Omega.{arith}
use lib.ListN.{length-set}
use Rattle.importer.proofs.LetLaws.{not_opened, is_opened}
use Rattle.importer.proofs.lets.open_let.Goals as goal

pub bounds-w2-lets-then-lets-lt-NODES : goal.bounds-w2-lets-then-lets-lt-NODES
bounds-w2-lets-then-lets-lt-NODES c = simp length-set (omega arith)

pub returns-then-lets-lt-NODES : goal.returns-then-lets-lt-NODES
returns-then-lets-lt-NODES c = search is_opened

pub returns-else-lets-lt-NODES : goal.returns-else-lets-lt-NODES
returns-else-lets-lt-NODES c = not_opened _ c.if-lets-lt-NODES.false
