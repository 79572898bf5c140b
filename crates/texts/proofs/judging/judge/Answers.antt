-- `judge` meets its contract.
use Rattle.texts.proofs.JudgeLaws.{judge_many, judge_4, judge_5, judge_6, judge_24, judge_on}
use Rattle.texts.proofs.judging.judge.Goals as goal

pub returns-then-nodes-gt-NODES : goal.returns-then-nodes-gt-NODES
returns-then-nodes-gt-NODES c = judge_many _ _ _ c.if-nodes-gt-NODES.true

pub returns-then-not-within_limits : goal.returns-then-not-within_limits
returns-then-not-within_limits c = search judge_4

pub returns-then-not-in_order : goal.returns-then-not-in_order
returns-then-not-in_order c = search judge_5

pub returns-then-st-g : goal.returns-then-st-g
returns-then-st-g c = search judge_6

pub returns-then-st-g-2 : goal.returns-then-st-g-2
returns-then-st-g-2 c = search judge_24

pub place-requires : goal.place-requires
place-requires c = (c.requires.0, c.requires.1, c.requires.2, c.requires.3, c.if-nodes-gt-NODES.false, c.requires.4 c.if-nodes-gt-NODES.false)

pub returns : goal.returns
returns c = judge_on _ _ _ c.if-nodes-gt-NODES.false c.gather-g.ensures c.requires.3 c.within_limits.ensures c.if-not-within_limits.false c.in_order.ensures c.if-not-in_order.false c.if-st-g.false c.if-st-g-2.false c.place.ensures
