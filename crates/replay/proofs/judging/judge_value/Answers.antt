-- `replay::judging::judge_value` meets its contract. Assumes nothing.
use Rattle.std.proofs.lemmas.Result.{err_from_is_err_and}
use Rattle.replay.proofs.ValuedLaws.{empty_fine}
use Rattle.replay.proofs.JudgingLaws.{value_stop, value_next}
use Rattle.replay.proofs.judging.judge_value.Goals as goal

pub value_line-requires : goal.value_line-requires
value_line-requires c = (c.requires.0, c.requires.1, c.requires.3, rw c.emptied.ensures (empty_fine c.requires.4))

pub returns-in_err-value_line : goal.returns-in_err-value_line
returns-in_err-value_line c = λ w1. let p = err_from_is_err_and c.from_residual.result c.from_residual.ensures.1 in rw (p.1, p.2) (value_stop c.requires.1 c.requires.2 c.emptied.ensures c.value_line.ensures c.in_err-value_line.was w1)

pub returns : goal.returns
returns c = value_next c.requires.1 c.requires.2 c.emptied.ensures c.value_line.ensures c.in_ok-value_line.was
