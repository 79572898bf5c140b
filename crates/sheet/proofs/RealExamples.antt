-- The sheets with Reals, by computation. Assumes nothing.
use mathlib.Core.Path.{refl}
use Rattle.laws.specs.Choice.{or_else, on_some, map_some}
use Rattle.laws.specs.Lists.{all_of, member, concat}
use Rattle.reals.specs.Reals.{order_int, is_less, in_range, units, kept, half_to_even, nearest_whole, halvings, exponent, carried, rounded, differ, sum, add as add_reals, subtract, multiply, divide as divide_reals, is_zero, less_by, less as less_reals, signed, held_as, held, is_real, is_binary64, of_units, widened, widen, settled, operate, calculated, lesser}
use Rattle.reals.specs.Bits.{rank as bit_rank, bits, from_fields, from_bits}
use Rattle.reals.specs.Digits.{hex_byte, hex_digits, hex_digit}
use Rattle.reals.specs.Spelling.{spell_real}
use Rattle.reals.specs.Cases.{real₀, one_and_half}
use Rattle.ocl.specs.Types.{join, simple_join, first_above, simple_subtype, climbs, same_simple, simple_code, up, parent_or, height, letter_join, letter_subtype, same_kind, kind_code, around_some, subtype, depth}
use Rattle.ocl.specs.Values.{size, add, add_all, insert, put, order, head_order, then_order, sort, rank, of_bool, members, count, append, same, has, every_part}
use Rattle.ocl.specs.Model.{class_is_a, is_a, every, belongs, declared, nearest, row_read, number_type}
use Rattle.ocl.specs.Environment.{extend, start}
use Rattle.ocl.specs.Forms.{levels}
use Rattle.ocl.specs.Marks.{row_marked, kind_marked, mark_or, mark_in, scale_marked}
use Rattle.ocl.specs.Typing.{then_for, and_then, common, wrap, on_collection, on_kind, bound_type, leaf_type, cast_type, unary_type, both_below, binary_type, conditional_type, on_class, collect_kind, row_type, attribute_type, leaf_typing, unary_typing, binary_typing, connective_typing, is_undef_typing, conditional_typing, let_typing, attribute_typing, call_type, call_typing, quantified_typing, iterate_typing, no_operand_typing, operand_typing, assemble_typing, typing, type_rule, root, type_definition, scale_type, scaled, on_numbers, includes_type, including_type, union_type}
use Rattle.ocl.specs.Operations.{steps_of, operation_of, form, ranged, unless_zero, quotient, remainder, arithmetic, instances, cast, unary_apply, left_fits, binary_apply, has_row, value_in_row, values_in_row, access, division}
use Rattle.ocl.specs.Evaluation.{tick, leaf_run, unary_run, binary_run, decides, connective_run, is_undef_run, conditional_run, let_run, attribute_run, call_run, ends_at, seek, quantified_run, fold, iterate_run, no_operand_run, operand_run, assemble_run, evaluation, evaluate_rule}
use Rattle.sheet.specs.Text.{bytes, no_integer, onto, split, lines_of, fields_of, nothing, after, literal, behind, ◌or◌, ◌then◌, mapped, at_end, whole, is_digit, digits, after_digits, plain, value_of_digits, number_parser, negative, integer_parser, spell_digits, spell_number, spell_integer, hex_parser, real_parser}
use Rattle.sheet.specs.Spelling.{spell_members, spell_more, collection_type, type_parser, read_type, letter_byte, spell_simple, spell_type, value_parser, read_value, kind_byte, spell_bool, spell_value, spell_num}
use Rattle.sheet.specs.Lines.{is, next, done, each, a_number, an_integer, a_parent, a_kind, read_fields, iterate_fields, at_most_four, assemble_fields, named, forms, shape_of, a_word, line_of, in_body, a_real}
use Rattle.sheet.specs.Texts.{on_text}
use Rattle.sheet.specs.Sheet.{empty, lookup, no_row, model_of, operands_of, grow_all, grow, tree_of, definition_of, with_node, added, last_tree, all_used, with_body, end_of, end_for, end_rule}
use Rattle.sheet.specs.Limits.{simple_class_below, part_within, nesting, is_class, is_variable, is_node, is_definition, leaf_held, unary_held, held_by, form_within, parent_within, total_size, within_limits, class_below, type_within, value_within}
use Rattle.sheet.specs.Refusals.{object_below, may_follow, followed, ordered, block_of, declares, after_slots, next_node, two_variables, numbered, in_order, parent_smaller, form_known, parts_known, call_below, has_type, in_definition, calls_smaller, calls_known, suits, fresh, operands_fresh, tree_holds}
use Rattle.sheet.specs.Reading.{must, step_line, step_spelled, step, on_step, on_end, closing, read_last, read_lines, read_text}
use Rattle.sheet.specs.Calls.{answer, refusal_at, refusal, short_words, short_output, on_sheet, on_rule, typing_of, on_type, on_types, on_definitions, on_accepted, type_lines, read_call, on_object, definition_marks, rule_marks, marks_of, outcome_of, ended, evaluate_on, evaluate_call}
use Rattle.sheet.specs.Report.{spell_outcome, report_line, object_lines, rule_lines, fitting, report_of, printed, program, report_call}
use Rattle.sheet.specs.Examples.{tabbed, lines, prints, words, reads_into}
use Rattle.sheet.specs.RealExamples.{rule, stored, halves, RealExamples}

pub real_examples : RealExamples
unfolding on_text or_else on_some map_some all_of member concat join simple_join first_above simple_subtype climbs same_simple simple_code up parent_or height letter_join letter_subtype same_kind kind_code around_some subtype depth size add add_all insert put order head_order then_order sort rank of_bool order_int members count append same has class_is_a is_a every belongs declared nearest row_read extend start levels then_for and_then common wrap on_collection on_kind bound_type leaf_type cast_type unary_type both_below binary_type conditional_type on_class row_marked kind_marked collect_kind row_type attribute_type leaf_typing unary_typing binary_typing connective_typing is_undef_typing conditional_typing let_typing attribute_typing call_type call_typing quantified_typing iterate_typing no_operand_typing operand_typing assemble_typing typing type_rule root type_definition mark_or mark_in tick form is_less in_range ranged unless_zero quotient remainder arithmetic instances leaf_run cast unary_apply unary_run left_fits binary_apply binary_run decides connective_run is_undef_run conditional_run let_run has_row value_in_row values_in_row access attribute_run call_run ends_at seek quantified_run fold iterate_run no_operand_run operand_run assemble_run evaluation evaluate_rule steps_of bytes onto split lines_of fields_of nothing after literal behind ◌or◌ ◌then◌ mapped at_end whole is_digit digits after_digits plain value_of_digits number_parser negative integer_parser spell_digits spell_number spell_integer collection_type type_parser read_type letter_byte spell_simple spell_type value_parser read_value kind_byte spell_bool spell_value is next done each a_number an_integer a_parent a_kind read_fields iterate_fields at_most_four assemble_fields named forms shape_of a_word line_of in_body empty lookup no_row model_of operands_of grow_all grow tree_of definition_of with_node added last_tree all_used with_body end_of end_for end_rule simple_class_below every_part object_below part_within nesting may_follow followed ordered is_class is_variable is_node is_definition leaf_held unary_held held_by form_within parent_within total_size within_limits block_of declares after_slots next_node two_variables numbered in_order parent_smaller form_known parts_known call_below has_type in_definition calls_smaller calls_known suits fresh operands_fresh tree_holds class_below type_within value_within must step_line step_spelled step on_step on_end closing read_last read_lines read_text answer refusal_at refusal short_words short_output on_sheet on_rule typing_of on_type on_object definition_marks rule_marks marks_of outcome_of ended evaluate_on evaluate_call spell_outcome report_line object_lines rule_lines on_types on_definitions on_accepted type_lines read_call fitting report_of printed program tabbed lines prints words reads_into number_type units kept scale_type scaled on_numbers includes_type including_type union_type scale_marked division a_real hex_parser real_parser spell_num half_to_even nearest_whole halvings exponent carried rounded differ sum add_reals subtract multiply divide_reals is_zero less_by less_reals signed held_as held is_real is_binary64 of_units widened widen settled operate calculated lesser bit_rank bits from_fields from_bits hex_byte hex_digits hex_digit spell_real real₀ one_and_half no_integer operation_of rule stored halves spell_members spell_more report_call
real_examples = record {
  sum = refl;
  third = refl;
  difference = refl;
  product = refl;
  less = refl;
  below-zero = refl;
  whole_again = refl;
  same_value = refl;
  minus_zero = refl;
  past_range = refl;
  common_type = refl;
  of_definition = refl;
  accumulated = refl;
  infinite = refl;
  by_integers = refl;
  zero_divisor = refl;
  zero_by_zero = refl;
  types = refl;
  div_real = refl;
  over_truth = refl;
  cast_real = refl;
  cast_any = refl;
  set = refl;
  bag = refl;
  out_of_order = refl;
  twice = refl;
  both_kinds = refl;
  any = refl;
  in_integers = refl;
  in_truths = refl;
  in_objects = refl;
  greatest = refl;
  past_greatest = refl;
  least = refl;
  past_least = refl;
  zero_spelled = refl;
  minus_zero_spelled = refl;
  capital_digit = refl;
  capital_letter = refl;
  fifteen_digits = refl;
  seventeen_digits = refl;
  other_letter = refl;
  integer_field = refl;
  real_as_int = refl;
  no_field = refl;
  two_fields = refl;
  infinity = refl;
  minus_infinity = refl;
  no_number = refl;
  both_faults = refl;
  largest = refl;
  evaluate_short = refl;
  evaluate_enough = refl;
  report_short = refl;
  report_enough = refl;
  longest = refl;
}
