-- The cases of `collect`, by computation. Assumes nothing.
use mathlib.Core.Path.{refl}
use Rattle.laws.specs.Choice.{or_else, on_some, map_some}
use Rattle.reals.specs.Reals.{order_int, units}
use Rattle.ocl.specs.Types.{join, simple_join, first_above, simple_subtype, climbs, same_simple, simple_code, up, parent_or, height, letter_join, same_kind, kind_code, around_some, subtype, depth}
use Rattle.ocl.specs.Values.{size, order, head_order, then_order, sort, rank, members, count, put, insert, append, add, add_all}
use Rattle.ocl.specs.Model.{class_is_a, is_a, every, declared, nearest, row_read, number_type}
use Rattle.ocl.specs.Environment.{extend, start}
use Rattle.ocl.specs.Marks.{row_marked, kind_marked, mark_or, mark_in}
use Rattle.ocl.specs.Typing.{then_for, and_then, common, wrap, on_collection, on_class, bound_type, leaf_type, conditional_type, collect_kind, row_type, attribute_type, leaf_typing, conditional_typing, attribute_typing, no_operand_typing, operand_typing, assemble_typing, typing, type_rule}
use Rattle.ocl.specs.Operations.{form, instances, has_row, value_in_row, values_in_row, access}
use Rattle.ocl.specs.Evaluation.{tick, leaf_run, conditional_run, attribute_run, no_operand_run, operand_run, assemble_run, evaluation, evaluate_rule}
use Rattle.ocl.specs.Worked.{parents, int₀}
use Rattle.ocl.specs.Collect.{block_rows, block_classes, zeros, block_values, blocks, collect_typing, collect_outcome, self₀, collect₀, every_block, one_block, twice, any_kind, Collect}

pub collect : Collect
unfolding or_else on_some map_some join simple_join first_above simple_subtype climbs same_simple simple_code up parent_or height letter_join same_kind kind_code around_some subtype depth size order head_order then_order sort rank order_int members count put insert append add add_all class_is_a is_a every declared nearest row_read extend start then_for and_then common wrap on_collection on_class bound_type leaf_type conditional_type row_marked kind_marked collect_kind row_type attribute_type leaf_typing conditional_typing attribute_typing no_operand_typing operand_typing assemble_typing typing type_rule mark_or mark_in tick form instances leaf_run conditional_run has_row value_in_row values_in_row access attribute_run no_operand_run operand_run assemble_run evaluation evaluate_rule parents int₀ block_rows block_classes zeros block_values blocks collect_typing collect_outcome self₀ collect₀ every_block one_block twice any_kind units number_type
collect = record {
  bag_type = refl;
  bag_value = refl;
  sequence_type = refl;
  static_row = refl;
  by_type = refl;
  not_flat = refl;
  too_large = refl;
  undefined_first = refl;
  no_collection = refl;
  void_members = refl;
  any_members = refl;
  no_row_lem = refl;
  too_deep = refl;
}
