-- `rules::evaluated::trace_numbered` meets its contract. Assumes nothing.
use lib.Seq.{length-take-le}
use Rattle.rules.proofs.Evaluations.{rule_shallow, rule_room, traces_numbered}
use Rattle.rules.proofs.evaluated.trace_numbered.Goals as goal

pub slice_bounds-stack-end-2 : goal.slice_bounds-stack-end-2
slice_bounds-stack-end-2 c = search length-take-le

pub trace_rule-requires : goal.trace_rule-requires
trace_rule-requires c = search (rule_room, rule_shallow)

pub returns : goal.returns
returns c = search traces_numbered
