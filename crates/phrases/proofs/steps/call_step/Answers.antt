-- `call_step` meets its contract. Assumes nothing.
use Rattle.phrases.proofs.CallLaws.{plain_answer, argument_answer, quantifier_answer, collect_answer, iterate_answer, broken_answer}
use Rattle.phrases.proofs.steps.call_step.Goals as goal

pub returns-in-1 : goal.returns-in-1
returns-in-1 c = search plain_answer

pub returns-in-2 : goal.returns-in-2
returns-in-2 c = search argument_answer

pub returns-in-3 : goal.returns-in-3
returns-in-3 c = search quantifier_answer

pub returns-in-4 : goal.returns-in-4
returns-in-4 c = search collect_answer

pub returns-in-5 : goal.returns-in-5
returns-in-5 c = search iterate_answer

pub returns-in_default : goal.returns-in_default
returns-in_default c = search broken_answer
