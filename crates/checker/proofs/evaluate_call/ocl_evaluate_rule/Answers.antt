-- `ocl_evaluate_rule` meets its contract.
use Rattle.sheet.specs.Calls.{evaluate_call}
use Rattle.opening.proofs.Answers.{all_lent, still_long, short_call, long_call}
use Rattle.answering.proofs.EvaluateCalls.{evaluate_number}
use Rattle.checker.proofs.evaluate_call.ocl_evaluate_rule.Goals as goal

pub returns-then-short_lent : goal.returns-then-short_lent
unfolding evaluate_call
returns-then-short_lent c = search short_call

pub evaluate_answer-a-requires : goal.evaluate_answer-a-requires
evaluate_answer-a-requires c = all_lent c.short_lent.ensures c.if-short_lent.false

pub wipe_all-requires : goal.wipe_all-requires
wipe_all-requires c = still_long (all_lent c.short_lent.ensures c.if-short_lent.false) c.evaluate_answer-a.ensures

pub returns : goal.returns
unfolding evaluate_call
returns c = long_call _ _ _ _ _ c.short_lent.ensures c.if-short_lent.false (evaluate_number _ _ _) c.evaluate_answer-a.ensures c.wipe_all.ensures
