-- `joined` meets its contract.
use native.Mathlib.Omega.{arith}
use Rattle.importer.proofs.PutLaws.{behind_is, joined_none, joined_one}
use Rattle.importer.proofs.puts.joined.Goals as goal

pub returns-in_err-next : goal.returns-in_err-next
returns-in_err-next c = rw c.from_residual.ensures (joined_none c.in_err-next.was)

pub put_two-requires : goal.put_two-requires
put_two-requires c = (c.requires.0, c.requires.1, (behind_is c.requires.2 c.in_ok-next.was).0)

pub overflow_add-result : goal.overflow_add-result
overflow_add-result c = omega (arith, (behind_is c.requires.2 c.in_ok-next.was).1)

pub returns : goal.returns
returns c = search (joined_one, c.in_ok-next.was)
