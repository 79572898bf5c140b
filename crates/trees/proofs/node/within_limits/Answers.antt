-- `within_limits` meets its contract.
use mathlib.Core.Path.{sym, ap, ◌∙◌}
use mathlib.Core.Bool.{not}
use borrow.Author.Rules.{rules}
use borrow.Author.Tests.{tests}
use Rattle.sheet.specs.Limits.{is_node}
use Rattle.trees.specs.Rules.{node_limits}
use Rattle.trees.proofs.PlaceLaws.{limits_operands, limits_nodes}
use Rattle.trees.proofs.node.within_limits.Goals as goal
use Rattle.trees.proofs.node.within_limits.Goals.{then-n-lt-MOST_NODES, else-n-lt-MOST_NODES, then-p, else-p}

pub returns-then-operands_within : goal.returns-then-operands_within
unfolding node_limits is_node
returns-then-operands_within c = elim c.if-p.branch [
  | then-p w ↦ elim c.if-n-lt-MOST_NODES.branch [
    | then-n-lt-MOST_NODES v ↦ limits_nodes c.args.st c.args.n c.args.p w.operands_within.ensures v.if-n-lt-MOST_NODES.true (ap not (sym v.value-is ∙ w.if-p.true)) (sym w.value-is ∙ c.if-operands_within.true)
    | else-n-lt-MOST_NODES v ↦ search (rules, tests)
  ]
  | else-p w ↦ elim c.if-n-lt-MOST_NODES.branch [
    | then-n-lt-MOST_NODES v ↦ search (rules, tests)
    | else-n-lt-MOST_NODES v ↦ search (rules, tests)
  ]
]

pub returns-else-operands_within : goal.returns-else-operands_within
unfolding node_limits is_node
returns-else-operands_within c = elim c.if-p.branch [
  | then-p w ↦ elim c.if-n-lt-MOST_NODES.branch [
    | then-n-lt-MOST_NODES v ↦ c.if-operands_within.false ∙ limits_operands c.args.st c.args.n c.args.p w.operands_within.ensures v.if-n-lt-MOST_NODES.true (ap not (sym v.value-is ∙ w.if-p.true)) (sym w.value-is ∙ c.if-operands_within.false)
    | else-n-lt-MOST_NODES v ↦ search (rules, tests)
  ]
  | else-p w ↦ elim c.if-n-lt-MOST_NODES.branch [
    | then-n-lt-MOST_NODES v ↦ search (rules, tests)
    | else-n-lt-MOST_NODES v ↦ search (rules, tests)
  ]
]
