-- `in_order` meets its contract.
use borrow.Author.Rules.{rules}
use borrow.Author.Tests.{tests}
use Rattle.texts.specs.Judging.{text_order}
use Rattle.texts.proofs.judging.in_order.Goals as goal
use Rattle.texts.proofs.judging.in_order.Goals.{then-st-le-RULES, else-st-le-RULES, then-st-eq-RULE_OPEN, else-st-eq-RULE_OPEN}

pub returns-then-st : goal.returns-then-st
unfolding text_order
returns-then-st c = elim c.if-st-eq-RULE_OPEN.branch [
  | then-st-eq-RULE_OPEN w ↦ elim c.if-st-le-RULES.branch [
    | then-st-le-RULES v ↦ search (rules, tests)
    | else-st-le-RULES v ↦ search (rules, tests)
  ]
  | else-st-eq-RULE_OPEN w ↦ elim c.if-st-le-RULES.branch [
    | then-st-le-RULES v ↦ search (rules, tests)
    | else-st-le-RULES v ↦ search (rules, tests)
  ]
]

pub returns-else-st : goal.returns-else-st
unfolding text_order
returns-else-st c = elim c.if-st-eq-RULE_OPEN.branch [
  | then-st-eq-RULE_OPEN w ↦ elim c.if-st-le-RULES.branch [
    | then-st-le-RULES v ↦ search (rules, tests)
    | else-st-le-RULES v ↦ search (rules, tests)
  ]
  | else-st-eq-RULE_OPEN w ↦ elim c.if-st-le-RULES.branch [
    | then-st-le-RULES v ↦ search (rules, tests)
    | else-st-le-RULES v ↦ search (rules, tests)
  ]
]
