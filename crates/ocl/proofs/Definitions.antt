-- The cases of named definitions, by computation. Assumes nothing.
use mathlib.Core.Path.{refl}
use Rattle.laws.specs.Choice.{or_else, on_some}
use Rattle.reals.specs.Reals.{order_int, in_range}
use Rattle.ocl.specs.Types.{join, simple_join, first_above, simple_subtype, climbs, same_simple, simple_code, up, parent_or, height, subtype, depth}
use Rattle.ocl.specs.Values.{order, head_order, then_order, sort, rank, same}
use Rattle.ocl.specs.Model.{class_is_a, is_a, declared, nearest, row_read, number_type}
use Rattle.ocl.specs.Environment.{extend, start}
use Rattle.ocl.specs.Forms.{reach, levels}
use Rattle.ocl.specs.Marks.{row_marked, mark_or, mark_in, scale_marked}
use Rattle.ocl.specs.Typing.{then_for, and_then, common, wrap, on_class, bound_type, leaf_type, binary_type, conditional_type, row_type, attribute_type, call_type, leaf_typing, binary_typing, conditional_typing, let_typing, attribute_typing, call_typing, no_operand_typing, operand_typing, assemble_typing, typing, type_rule, root, type_definition, on_numbers, scaled, scale_type, is_undef_typing}
use Rattle.ocl.specs.Operations.{ranged, arithmetic, left_fits, binary_apply, has_row, value_in_row, access}
use Rattle.ocl.specs.Evaluation.{tick, leaf_run, binary_run, is_undef_run, let_run, attribute_run, call_run, evaluation, evaluate_rule}
use Rattle.ocl.specs.Worked.{parents, undef₀, int₀}
use Rattle.ocl.specs.Collect.{self₀}
use Rattle.ocl.specs.Definitions.{thread_rows, thread_classes, thread_values, threads, itself, five, anything, call₀, next₆, call_answer, definition_answer, call_outcome, Definitions}

pub definitions : Definitions
unfolding or_else on_some join simple_join first_above simple_subtype climbs same_simple simple_code up parent_or height subtype depth order head_order then_order sort rank order_int same class_is_a is_a declared nearest row_read extend start reach levels then_for and_then common wrap on_class bound_type leaf_type binary_type conditional_type row_marked row_type attribute_type call_type leaf_typing binary_typing conditional_typing let_typing attribute_typing call_typing no_operand_typing operand_typing assemble_typing typing type_rule root type_definition mark_or mark_in in_range ranged arithmetic left_fits binary_apply has_row value_in_row access tick leaf_run binary_run is_undef_run let_run attribute_run call_run evaluation evaluate_rule parents undef₀ int₀ self₀ thread_rows thread_classes thread_values threads itself five anything call₀ next₆ call_answer definition_answer call_outcome number_type on_numbers scaled scale_type scale_marked is_undef_typing
definitions = record {
  own_type = refl;
  body_not_below = refl;
  root_first = refl;
  own_row_lem = refl;
  row_below = refl;
  of_class = refl;
  of_class_below = refl;
  type_declared = refl;
  class_above = refl;
  of_any = refl;
  of_void = refl;
  of_collection = refl;
  operand_first = refl;
  operand_is_self = refl;
  self_again = refl;
  hidden = refl;
  variable_again = refl;
  row_of_body = refl;
  undefined_operand = refl;
  undefined_body = refl;
  other_object = refl;
  no_object = refl;
  stop_in_body = refl;
  call_reach = refl;
  iterated_reach = refl;
  body_deeper = refl;
  operand_deeper = refl;
}
