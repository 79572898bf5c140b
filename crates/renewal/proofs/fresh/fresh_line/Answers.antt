-- `fresh_line` meets its contract. Assumes nothing.
use native.Mathlib.Omega.{arith}
use Rattle.report.proofs.PassLaws.{rule_there}
use Rattle.renewal.proofs.FreshLaws.{no_fresh, fresh_fits, fresh_from, fresh_to, fresh_steps, one_fresh}
use Rattle.renewal.proofs.fresh.fresh_line.Goals as goal

pub overflow_add-r : goal.overflow_add-r
overflow_add-r c = omega (arith, rule_there)

pub offset_bounds-w0-r : goal.offset_bounds-w0-r
offset_bounds-w0-r c = omega (arith, rule_there)

pub bounds-w0-r : goal.bounds-w0-r
bounds-w0-r c = omega (arith, rule_there)

pub evaluate_numbered-e-requires : goal.evaluate_numbered-e-requires
evaluate_numbered-e-requires c = record { least_words_in_bounds = (c.requires.least_words_in_bounds.0, c.requires.least_words_in_bounds.1, c.requires.least_words_in_bounds.2); known = (record { sheet = c.requires.least_words_in_bounds.3.sheet; lies = c.requires.least_words_in_bounds.3.typed.lies }, rule_there c.requires.least_words_in_bounds.3.typed, omega (arith, c.requires.least_words_in_bounds.4, c.requires.least_words_in_bounds.3.typed.lies.fine.objects)) }

pub put_line-end-requires : goal.put_line-end-requires
put_line-end-requires c = fresh_fits c.is_a.ensures c.if-is_a.true c.requires.least_words_in_bounds.3 c.evaluate_numbered-e.ensures _ c.line_place-at.ensures c.requires.least_output_in_bounds.0

pub overflow_sub-result : goal.overflow_sub-result
overflow_sub-result c = fresh_from c.is_a.ensures c.if-is_a.true c.requires.least_words_in_bounds.3 c.evaluate_numbered-e.ensures c.put_line-end.ensures

pub overflow_add-result : goal.overflow_add-result
overflow_add-result c = omega (arith, c.requires.least_output_in_bounds.1, fresh_from c.is_a.ensures c.if-is_a.true c.requires.least_words_in_bounds.3 c.evaluate_numbered-e.ensures c.put_line-end.ensures, fresh_to c.is_a.ensures c.if-is_a.true c.requires.least_words_in_bounds.3 c.evaluate_numbered-e.ensures c.put_line-end.ensures)

pub overflow_add-result-then-is_a : goal.overflow_add-result-then-is_a
overflow_add-result-then-is_a c = omega (arith, c.requires.least_output_in_bounds.2, fresh_steps c.is_a.ensures c.if-is_a.true c.requires.least_words_in_bounds.3 c.evaluate_numbered-e.ensures _ c.steps_of.ensures)

pub returns-then-is_a : goal.returns-then-is_a
returns-then-is_a c = search one_fresh

pub returns : goal.returns
returns c = search no_fresh
