-- `let_head` meets its contract.
use Rattle.std.specs.Prelude.{◌≡◌, None}
use Rattle.std.proofs.Common.{rules}
use Rattle.importer.proofs.HeadLaws.{after_further, head_none, head_some}
use Rattle.importer.proofs.lets.let_head.Goals as goal

pub returns-in_err-begun : goal.returns-in_err-begun
returns-in_err-begun c = let e : c.from_residual.result ≡ None = search rules in rw e (head_none c.after.ensures c.in_err-begun.was)

pub bound_head-requires : goal.bound_head-requires
bound_head-requires c = ((after_further c.after.ensures c.in_ok-begun.was).ahead, c.requires.1)

pub returns : goal.returns
returns c = head_some c.after.ensures c.in_ok-begun.was c.bound_head.ensures
