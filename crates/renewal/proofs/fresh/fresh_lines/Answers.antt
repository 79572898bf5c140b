-- `fresh_lines` meets its contract. Assumes nothing.
use native.Mathlib.Omega.{arith}
use Rattle.renewal.proofs.FreshLaws.{objects_none, objects_next, objects_few, objects_all}
use Rattle.renewal.proofs.fresh.fresh_lines.Goals as goal

pub loop-o-init : goal.loop-o-init
loop-o-init c = objects_none _ _

pub fresh_line-sums-requires : goal.fresh_line-sums-requires
fresh_line-sums-requires c = record { least_words_in_bounds = (c.requires.least_words_in_bounds.0, c.requires.least_words_in_bounds.1, omega (arith, c.requires.least_words_in_bounds.2, c.loop-o.invariant.so.kept.size), c.requires.least_words_in_bounds.3, c.loop-o-test.true); least_output_in_bounds = (omega (arith, c.requires.least_output_in_bounds.0, c.loop-o.invariant.so.size), (objects_few c.loop-o.invariant c.requires.least_words_in_bounds.3 c.requires.least_output_in_bounds.1 c.requires.least_output_in_bounds.2).0, (objects_few c.loop-o.invariant c.requires.least_words_in_bounds.3 c.requires.least_output_in_bounds.1 c.requires.least_output_in_bounds.2).1) }

pub loop-o-preserved : goal.loop-o-preserved
loop-o-preserved c = search objects_next

pub returns : goal.returns
returns c = search objects_all
