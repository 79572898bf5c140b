-- The cases of the five mistakes, by computation. Assumes nothing.
use mathlib.Core.Path.{refl}
use Rattle.laws.specs.Choice.{or_else, on_some}
use Rattle.reals.specs.Reals.{order_int, is_less, in_range}
use Rattle.ocl.specs.Types.{join, simple_join, first_above, simple_subtype, climbs, same_simple, simple_code, up, parent_or, height, subtype, depth}
use Rattle.ocl.specs.Values.{size, add, append}
use Rattle.ocl.specs.Model.{class_is_a, is_a, declared, nearest, row_read, number_type}
use Rattle.ocl.specs.Environment.{extend, start}
use Rattle.ocl.specs.Marks.{row_marked, scale_marked, mark_or, mark_in}
use Rattle.ocl.specs.Typing.{then_for, and_then, common, on_collection, bound_type, leaf_type, cast_type, unary_type, scale_type, scaled, on_numbers, binary_type, conditional_type, on_class, row_type, attribute_type, leaf_typing, unary_typing, binary_typing, conditional_typing, let_typing, attribute_typing, typing, type_rule, quantified_typing, assemble_typing, operand_typing, no_operand_typing, wrap, iterate_typing}
use Rattle.ocl.specs.Operations.{form, ranged, arithmetic, left_fits, binary_apply, has_row, value_in_row, access}
use Rattle.ocl.specs.Evaluation.{tick, leaf_run, binary_run, conditional_run, let_run, attribute_run, ends_at, seek, quantified_run, fold, iterate_run, no_operand_run, operand_run, assemble_run, evaluation, evaluate_rule}
use Rattle.ocl.specs.Worked.{parents, undef₀, int₀}
use Rattle.ocl.specs.Mistakes.{redeclared, only_object, nine_and_true, model, rule_typing, outcome_in, attribute₅, hidden, one_branch, one_three, each_below, blank_then, sum_of, outer_seen, true_after, Mistakes}

pub mistakes : Mistakes
unfolding or_else on_some join simple_join first_above simple_subtype climbs same_simple simple_code up parent_or height subtype class_is_a is_a declared nearest row_read number_type extend start then_for and_then common on_collection bound_type leaf_type cast_type unary_type scale_type scaled on_numbers binary_type conditional_type on_class row_marked scale_marked row_type attribute_type leaf_typing unary_typing binary_typing conditional_typing let_typing attribute_typing typing type_rule mark_or mark_in tick form is_less in_range ranged arithmetic leaf_run left_fits binary_apply binary_run conditional_run let_run has_row value_in_row access attribute_run ends_at seek quantified_run fold iterate_run no_operand_run operand_run assemble_run evaluation evaluate_rule size add append order_int parents undef₀ int₀ one_three each_below blank_then sum_of outer_seen true_after redeclared only_object nine_and_true model rule_typing outcome_in attribute₅ hidden one_branch quantified_typing assemble_typing operand_typing no_operand_typing wrap depth iterate_typing
mistakes = record {
  static_type = refl;
  static_row = refl;
  let_strict = refl;
  hidden_type = refl;
  hidden_value = refl;
  branch_steps = refl;
  void_no_class = refl;
  void_no_cast = refl;
  void_no_collection = refl;
  all_bodies = refl;
  some_body = refl;
  each_body = refl;
  blank_then_false = refl;
  blank_then_true = refl;
  blank_for_all = refl;
  blank_exists = refl;
  outer_type = refl;
  outer_value = refl;
  negative_less = refl;
  last_step = refl;
  step_stop = refl;
}
