-- The table of small sheets, by computation. Assumes nothing.
use mathlib.Core.Path.{refl}
use Rattle.laws.specs.Choice.{or_else, on_some, map_some}
use Rattle.laws.specs.Lists.{all_of, member, concat}
use Rattle.reals.specs.Reals.{order_int, is_less, in_range, units, kept}
use Rattle.ocl.specs.Types.{join, simple_join, first_above, simple_subtype, climbs, same_simple, simple_code, up, parent_or, height, letter_join, letter_subtype, same_kind, kind_code, around_some, subtype, depth}
use Rattle.ocl.specs.Values.{size, add, add_all, insert, put, order, head_order, then_order, sort, rank, of_bool, members, count, append, same, has, every_part}
use Rattle.ocl.specs.Model.{class_is_a, is_a, every, belongs, declared, nearest, row_read, number_type}
use Rattle.ocl.specs.Environment.{extend, start}
use Rattle.ocl.specs.Forms.{levels, calls}
use Rattle.ocl.specs.Marks.{row_marked, kind_marked, mark_or, mark_in, scale_marked}
use Rattle.ocl.specs.Typing.{then_for, and_then, common, wrap, on_collection, on_kind, bound_type, leaf_type, cast_type, unary_type, both_below, binary_type, conditional_type, on_class, collect_kind, row_type, attribute_type, leaf_typing, unary_typing, binary_typing, connective_typing, is_undef_typing, conditional_typing, let_typing, attribute_typing, call_type, call_typing, quantified_typing, iterate_typing, no_operand_typing, operand_typing, assemble_typing, typing, type_rule, root, type_definition, scale_type, scaled, on_numbers, includes_type, including_type, union_type}
use Rattle.ocl.specs.Rows.{row_in, rows_of, resolved_rows}
use Rattle.ocl.specs.Operations.{steps_of, form, ranged, unless_zero, quotient, remainder, arithmetic, instances, cast, unary_apply, left_fits, binary_apply, has_row, value_in_row, values_in_row, access, division}
use Rattle.ocl.specs.Evaluation.{tick, leaf_run, unary_run, binary_run, decides, connective_run, is_undef_run, conditional_run, let_run, attribute_run, call_run, ends_at, seek, quantified_run, fold, iterate_run, no_operand_run, operand_run, assemble_run, evaluation, evaluate_rule}
use Rattle.sheet.specs.Text.{bytes, onto, split, lines_of, fields_of, nothing, after, literal, behind, ◌or◌, ◌then◌, mapped, at_end, whole, is_digit, digits, after_digits, plain, value_of_digits, number_parser, negative, integer_parser, spell_digits, spell_number, spell_integer, hex_parser, real_parser}
use Rattle.sheet.specs.Spelling.{collection_type, type_parser, read_type, letter_byte, spell_simple, spell_type, value_parser, read_value, kind_byte, spell_bool, spell_value, spell_num}
use Rattle.sheet.specs.Lines.{is, next, done, each, a_number, an_integer, a_parent, a_kind, read_fields, iterate_fields, at_most_four, assemble_fields, named, forms, shape_of, a_word, line_of, in_body, a_real}
use Rattle.sheet.specs.Texts.{on_text}
use Rattle.sheet.specs.Sheet.{empty, lookup, no_row, model_of, operands_of, grow_all, grow, tree_of, definition_of, with_node, added, last_tree, all_used, with_body, end_of, end_for, end_rule}
use Rattle.sheet.specs.Limits.{simple_class_below, part_within, nesting, is_class, is_variable, is_node, is_definition, leaf_held, unary_held, held_by, form_within, parent_within, total_size, within_limits, class_below, type_within, value_within}
use Rattle.sheet.specs.Refusals.{object_below, may_follow, followed, ordered, block_of, declares, after_slots, next_node, two_variables, numbered, in_order, parent_smaller, form_known, parts_known, call_below, has_type, in_definition, calls_smaller, calls_known, suits, fresh, operands_fresh, tree_holds}
use Rattle.sheet.specs.Reading.{must, step_line, step_spelled, step, on_step, on_end, closing, read_last, read_lines, read_text}
use Rattle.sheet.specs.Calls.{answer, refusal_at, refusal, short_words, short_output, on_sheet, on_rule, typing_of, on_type, on_types, on_definitions, on_accepted, type_lines, read_call, on_object, definition_marks, rule_marks, marks_of, outcome_of, ended, evaluate_on, evaluate_call}
use Rattle.sheet.specs.Report.{spell_outcome, report_line, object_lines, rule_lines, fitting, report_of, printed, program}
use Rattle.sheet.specs.Rows.{rows_seen, row_fields, rows_line, rows_lines, rows_into, rows_program}
use Rattle.sheet.specs.Examples.{tabbed, lines, prints, prints_rows, words, reads_into, evaluates, second_untyped, nots, deep_rule, deep_definition, deep_call, Examples}

pub examples : Examples
unfolding row_in rows_of resolved_rows calls rows_seen row_fields rows_line rows_lines rows_into rows_program prints_rows on_text or_else on_some map_some all_of member concat join simple_join first_above simple_subtype climbs same_simple simple_code up parent_or height letter_join letter_subtype same_kind kind_code around_some subtype depth size add add_all insert put order head_order then_order sort rank of_bool order_int members count append same has class_is_a is_a every belongs declared nearest row_read extend start levels then_for and_then common wrap on_collection on_kind bound_type leaf_type cast_type unary_type both_below binary_type conditional_type on_class row_marked kind_marked collect_kind row_type attribute_type leaf_typing unary_typing binary_typing connective_typing is_undef_typing conditional_typing let_typing attribute_typing call_type call_typing quantified_typing iterate_typing no_operand_typing operand_typing assemble_typing typing type_rule root type_definition mark_or mark_in tick form is_less in_range ranged unless_zero quotient remainder arithmetic instances leaf_run cast unary_apply unary_run left_fits binary_apply binary_run decides connective_run is_undef_run conditional_run let_run has_row value_in_row values_in_row access attribute_run call_run ends_at seek quantified_run fold iterate_run no_operand_run operand_run assemble_run evaluation evaluate_rule steps_of bytes onto split lines_of fields_of nothing after literal behind ◌or◌ ◌then◌ mapped at_end whole is_digit digits after_digits plain value_of_digits number_parser negative integer_parser spell_digits spell_number spell_integer collection_type type_parser read_type letter_byte spell_simple spell_type value_parser read_value kind_byte spell_bool spell_value is next done each a_number an_integer a_parent a_kind read_fields iterate_fields at_most_four assemble_fields named forms shape_of a_word line_of in_body empty lookup no_row model_of operands_of grow_all grow tree_of definition_of with_node added last_tree all_used with_body end_of end_for end_rule simple_class_below every_part object_below part_within nesting may_follow followed ordered is_class is_variable is_node is_definition leaf_held unary_held held_by form_within parent_within total_size within_limits block_of declares after_slots next_node two_variables numbered in_order parent_smaller form_known parts_known call_below has_type in_definition calls_smaller calls_known suits fresh operands_fresh tree_holds class_below type_within value_within must step_line step_spelled step on_step on_end closing read_last read_lines read_text answer refusal_at refusal short_words short_output on_sheet on_rule typing_of on_type on_object definition_marks rule_marks marks_of outcome_of ended evaluate_on evaluate_call spell_outcome report_line object_lines rule_lines on_types on_definitions on_accepted type_lines read_call fitting report_of printed program tabbed lines prints words reads_into evaluates second_untyped nots deep_rule deep_definition deep_call number_type units kept scale_type scaled on_numbers includes_type including_type union_type scale_marked division a_real hex_parser real_parser spell_num
examples = record {
  paper = refl;
  nothing = refl;
  no_line_feed = refl;
  leading_zero = refl;
  field_too_many = refl;
  minus_zero = refl;
  no_undefined = refl;
  five_members = refl;
  class_64 = refl;
  integer_range = refl;
  four_deep = refl;
  gap = refl;
  block_again = refl;
  name_twice = refl;
  value_twice = refl;
  members_order = refl;
  one_variable = refl;
  own_parent = refl;
  wrong_value = refl;
  used_twice = refl;
  unused = refl;
  no_node = refl;
  deepest_rule = refl;
  too_deep_rule = refl;
  unbound = refl;
  no_common_type = refl;
  not_boolean = refl;
  no_attribute = refl;
  collect = refl;
  collect_undefined = refl;
  collect_sequence = refl;
  collect_no_class = refl;
  too_deep_type = refl;
  source_first = refl;
  two_types = refl;
  second_untyped_lem = refl;
  no_rules = refl;
  short_output_lem = refl;
  enough_output = refl;
  other_untyped = refl;
  untyped_first = refl;
  no_such_rule = refl;
  other_class = refl;
  static_row = refl;
  call = refl;
  call_of_operand = refl;
  call_hides = refl;
  call_binds = refl;
  call_undefined = refl;
  call_stops = refl;
  call_type_lem = refl;
  call_rule = refl;
  call_class = refl;
  call_void = refl;
  body_type = refl;
  first_definition = refl;
  call_itself = refl;
  call_upward = refl;
  order_first = refl;
  call_unknown = refl;
  call_limit = refl;
  definition_limit = refl;
  definition_deep = refl;
  definition_gap = refl;
  value_late = refl;
  definition_late = refl;
  definition_class = refl;
  definition_type = refl;
  definition_fields = refl;
  definition_empty = refl;
  definition_unused = refl;
  deepest_call = refl;
  too_deep_call = refl;
  too_deep_definition = refl;
  sum = refl;
  decided = refl;
  blank_then_false = refl;
  blank_then_true = refl;
  size_stop = refl;
  over_range_lem = refl;
  over_unrun = refl;
  spelled = refl;
  rows_seen_lem = refl;
  rows_refused = refl;
  rows_too_long = refl;
}
