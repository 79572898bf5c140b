-- `body_depth` meets its contract.
use Rattle.trees.proofs.CallLaws.{depth_none, depth_far, depth_is}
use Rattle.trees.proofs.calls.body_depth.Goals as goal

pub returns-then-not-is_call : goal.returns-then-not-is_call
returns-then-not-is_call c = search depth_none

pub returns-then-root-ge-MOST_NODES : goal.returns-then-root-ge-MOST_NODES
returns-then-root-ge-MOST_NODES c = search depth_far

pub returns : goal.returns
returns c = depth_is _ _ c.is_call.ensures _ c.if-not-is_call.false c.if-root-ge-MOST_NODES.false c.min.ensures
