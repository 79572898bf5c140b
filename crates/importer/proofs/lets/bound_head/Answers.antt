-- `bound_head` meets its contract.
use Rattle.std.specs.Prelude.{◌≡◌, None}
use Rattle.std.proofs.Common.{rules}
use Rattle.importer.proofs.HeadLaws.{bound_none, bound_one}
use Rattle.importer.proofs.lets.bound_head.Goals as goal

pub returns-in_err-n : goal.returns-in_err-n
returns-in_err-n c = let e : c.from_residual.result ≡ None = search rules in rw e (bound_none c.binding.ensures c.in_err-n.was)

pub returns : goal.returns
returns c = bound_one c.binding.ensures c.in_ok-n.was c.open_let.ensures
