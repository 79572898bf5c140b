-- `evaluate_typed` meets its contract. Assumes nothing.
use borrow.Author.Rules.{rules}
use native.Mathlib.Omega.{arith}
use Rattle.answering.proofs.EvaluateCalls.{fitting, evaluate_ended}
use Rattle.answering.proofs.evaluate.evaluate_typed.Goals as goal

pub evaluate_numbered-e-requires : goal.evaluate_numbered-e-requires
evaluate_numbered-e-requires c = record { least_words_in_bounds = (c.requires.lent.0.words0, c.requires.lent.0.words1, c.requires.lent.0.words2); known = (record { sheet = c.requires.lent.1.sheet; lies = c.requires.lent.1.accepted.lies }, c.requires.r_lt_rules.0, omega (arith, c.requires.r_lt_rules.1, c.requires.lent.1.accepted.lies.fine.objects)) }

pub put_outcome-requires : goal.put_outcome-requires
put_outcome-requires c = search (fitting, rules)

pub returns : goal.returns
returns c = (evaluate_ended c.requires.r_lt_rules.0 c.requires.r_lt_rules.1 c.requires.r_lt_rules.2 c.evaluate_numbered-e.ensures c.put_outcome.ensures, c.evaluate_numbered-e.ensures.kept)
