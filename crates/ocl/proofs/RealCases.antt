-- The cases of Reals, by computation. Assumes nothing.
use mathlib.Core.Path.{refl}
use Rattle.reals.specs.Reals.{half_to_even, nearest_whole, halvings, exponent, carried, rounded, differ, sum, add as add_reals, subtract, multiply, divide as divide_reals, is_zero, less_by, less as less_reals, signed, in_range, held_as, held, of_units, widened, widen, units, order_int, is_less, settled, operate, calculated, lesser}
use Rattle.reals.specs.Bits.{from_fields, from_bits}
use Rattle.reals.specs.Cases.{real₀, half, one_and_half, largest}
use Rattle.ocl.specs.Types.{join, simple_join, first_above, simple_subtype, climbs, same_simple, simple_code, up, parent_or, height, letter_join, letter_subtype, same_kind, kind_code, around_some, subtype, depth}
use Rattle.ocl.specs.Values.{size, order, head_order, then_order, sort, of_bool, rank, members, same, has, put, insert, add}
use Rattle.ocl.specs.Model.{number_type, belongs, class_is_a, is_a}
use Rattle.ocl.specs.Environment.{extend, start}
use Rattle.ocl.specs.Marks.{scale_marked, mark_or, mark_in}
use Rattle.ocl.specs.Typing.{then_for, and_then, common, wrap, on_collection, on_class, bound_type, leaf_type, cast_type, unary_type, both_below, scale_type, scaled, on_numbers, includes_type, binary_type, conditional_type, attribute_type, leaf_typing, unary_typing, binary_typing, is_undef_typing, conditional_typing, attribute_typing, no_operand_typing, operand_typing, assemble_typing, typing, type_rule}
use Rattle.ocl.specs.Operations.{form, ranged, arithmetic, operation_of, cast, unary_apply, left_fits, binary_apply}
use Rattle.ocl.specs.Evaluation.{tick, leaf_run, unary_run, binary_run, is_undef_run, conditional_run, no_operand_run, operand_run, assemble_run, evaluation, evaluate_rule}
use Rattle.ocl.specs.Worked.{parents, undef₀, int₀}
use Rattle.ocl.specs.Mistakes.{redeclared, only_object, nine_and_true, model, rule_typing, outcome_in}
use Rattle.ocl.specs.RealCases.{one_and_half₀, two, beside, any_half, marked, before_undef, RealTypes, RealTyping, RealOutcomes, RealOrder}

pub real_types : RealTypes
unfolding half_to_even nearest_whole halvings exponent carried rounded differ sum add_reals subtract multiply divide_reals is_zero less_by less_reals signed in_range held_as held of_units widened widen units order_int is_less settled operate calculated lesser from_fields from_bits real₀ half one_and_half largest join simple_join first_above simple_subtype climbs same_simple simple_code up parent_or height letter_join letter_subtype same_kind kind_code around_some subtype depth number_type belongs class_is_a is_a parents undef₀ int₀ redeclared only_object nine_and_true model rule_typing outcome_in one_and_half₀ two beside any_half marked before_undef
real_types = record {
  int_below = refl;
  real_not_below = refl;
  real_below_any = refl;
  bool_not_below = refl;
  sets_below = refl;
  int_real = refl;
  real_void = refl;
  real_bool = refl;
  class_real = refl;
  int_in_real = refl;
  real_in_real = refl;
  real_in_any = refl;
  real_in_int = refl;
  real_in_class = refl;
  real_in_set = refl;
  true_in_real = refl;
}

pub real_typing : RealTyping
unfolding join simple_join first_above simple_subtype climbs same_simple simple_code up parent_or height letter_join letter_subtype same_kind kind_code around_some subtype depth number_type belongs class_is_a is_a extend start scale_marked mark_or mark_in then_for and_then common wrap on_collection on_class bound_type leaf_type cast_type unary_type both_below scale_type scaled on_numbers includes_type binary_type conditional_type attribute_type leaf_typing unary_typing binary_typing is_undef_typing conditional_typing attribute_typing no_operand_typing operand_typing assemble_typing typing type_rule parents undef₀ int₀ redeclared only_object nine_and_true model rule_typing outcome_in one_and_half₀ two beside any_half marked before_undef half one_and_half real₀
real_typing = record {
  literal = refl;
  both_int = refl;
  both_void = refl;
  int_then_real = refl;
  real_then_int = refl;
  both_real = refl;
  void_then_real = refl;
  less_ints = refl;
  less_reals_lem = refl;
  over_ints = refl;
  over_reals = refl;
  over_voids = refl;
  div_ints = refl;
  eq_both = refl;
  bool_plus_real = refl;
  real_less_bool = refl;
  bool_over = refl;
  over_self = refl;
  any_plus = refl;
  real_div = refl;
  mod_real = refl;
  real_as = refl;
  real_attr = refl;
}

pub real_outcomes : RealOutcomes
unfolding half_to_even nearest_whole halvings exponent carried rounded differ sum add_reals subtract multiply divide_reals is_zero less_by less_reals signed in_range held_as held of_units widened widen units order_int is_less settled operate calculated lesser from_fields from_bits real₀ half one_and_half largest join simple_join first_above simple_subtype climbs same_simple simple_code up parent_or height letter_join letter_subtype same_kind kind_code around_some subtype depth number_type belongs class_is_a is_a size order head_order then_order sort of_bool rank members same has put insert add extend start scale_marked mark_or mark_in then_for and_then common wrap on_collection on_class bound_type leaf_type cast_type unary_type both_below scale_type scaled on_numbers includes_type binary_type conditional_type attribute_type leaf_typing unary_typing binary_typing is_undef_typing conditional_typing attribute_typing no_operand_typing operand_typing assemble_typing typing type_rule form ranged arithmetic operation_of cast unary_apply left_fits binary_apply tick leaf_run unary_run binary_run is_undef_run conditional_run no_operand_run operand_run assemble_run evaluation evaluate_rule parents undef₀ int₀ redeclared only_object nine_and_true model rule_typing outcome_in one_and_half₀ two beside any_half marked before_undef
real_outcomes = record {
  add = refl;
  subtract = refl;
  multiply = refl;
  divided = refl;
  compare_less = refl;
  compare_not = refl;
  whole_again = refl;
  whole_quotient = refl;
  zero_again = refl;
  past_range = refl;
  by_integers = refl;
  by_reals = refl;
  infinite = refl;
  zero_divisor = refl;
  zero_by_zero = refl;
  real_left = refl;
  real_right = refl;
  less_left = refl;
  less_right = refl;
  div_left = refl;
  div_right = refl;
  bool_left = refl;
  bool_less = refl;
  bool_over = refl;
  plus_undef = refl;
  over_undef = refl;
  as_real = refl;
}

pub real_order : RealOrder
unfolding half_to_even nearest_whole halvings exponent carried rounded differ sum add_reals subtract multiply divide_reals is_zero less_by less_reals signed in_range held_as held of_units widened widen units order_int is_less settled operate calculated lesser from_fields from_bits real₀ half one_and_half largest join simple_join first_above simple_subtype climbs same_simple simple_code up parent_or height letter_join letter_subtype same_kind kind_code around_some subtype depth number_type belongs class_is_a is_a size order head_order then_order sort of_bool rank members same has put insert add extend start scale_marked mark_or mark_in then_for and_then common wrap on_collection on_class bound_type leaf_type cast_type unary_type both_below scale_type scaled on_numbers includes_type binary_type conditional_type attribute_type leaf_typing unary_typing binary_typing is_undef_typing conditional_typing attribute_typing no_operand_typing operand_typing assemble_typing typing type_rule form ranged arithmetic operation_of cast unary_apply left_fits binary_apply tick leaf_run unary_run binary_run is_undef_run conditional_run no_operand_run operand_run assemble_run evaluation evaluate_rule parents undef₀ int₀ redeclared only_object nine_and_true model rule_typing outcome_in one_and_half₀ two beside any_half marked before_undef
real_order = record {
  after_true = refl;
  before_objects = refl;
  above_one = refl;
  below_two = refl;
  below-zero = refl;
  one_size = refl;
  in_order_lem = refl;
  included = refl;
  one_value = refl;
  two_values = refl;
}
