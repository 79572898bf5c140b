-- The table of small sheets held to the profile, by computation. Assumes nothing.
use mathlib.Core.Path.{refl}
use Rattle.laws.specs.Choice.{or_else, on_some, map_some}
use Rattle.laws.specs.Lists.{all_of, member, concat}
use Rattle.reals.specs.Reals.{in_range, kept}
use Rattle.ocl.specs.Types.{join, simple_join, first_above, simple_subtype, climbs, same_simple, simple_code, up, parent_or, height, letter_join, letter_subtype, same_kind, kind_code, around_some, subtype, depth}
use Rattle.ocl.specs.Model.{declared, nearest, row_read, number_type}
use Rattle.ocl.specs.Environment.{extend, start}
use Rattle.ocl.specs.Forms.{levels}
use Rattle.ocl.specs.Typing.{then_for, and_then, common, wrap, on_collection, on_kind, bound_type, leaf_type, cast_type, unary_type, both_below, binary_type, conditional_type, on_class, collect_kind, row_type, attribute_type, leaf_typing, unary_typing, binary_typing, connective_typing, is_undef_typing, conditional_typing, let_typing, attribute_typing, call_type, call_typing, quantified_typing, iterate_typing, no_operand_typing, operand_typing, assemble_typing, typing, type_rule, root, type_definition, scale_type, scaled, on_numbers, includes_type, including_type, union_type}
use Rattle.sheet.specs.Text.{bytes, onto, split, lines_of, fields_of, nothing, after, literal, behind, ◌or◌, ◌then◌, mapped, at_end, whole, is_digit, digits, after_digits, plain, value_of_digits, number_parser, negative, integer_parser, spell_digits, spell_number, hex_parser, real_parser}
use Rattle.sheet.specs.Spelling.{collection_type, type_parser, read_type, letter_byte, spell_simple, spell_type}
use Rattle.sheet.specs.Lines.{is, next, done, each, a_number, an_integer, a_parent, a_kind, read_fields, iterate_fields, at_most_four, assemble_fields, forms, shape_of, a_word, line_of, in_body, a_real}
use Rattle.sheet.specs.Texts.{opens, closes, few_open, brackets_within, is_there, is_sentence, on_text, nodes_in, nodes_of}
use Rattle.sheet.specs.Sheet.{empty, no_row, operands_of, grow_all, grow, tree_of, definition_of, with_node, with_nodes, as_text, added, last_tree, all_used, with_body, end_of, end_for, end_rule}
use Rattle.sheet.specs.Limits.{simple_class_below, is_class, is_variable, is_node, is_definition, leaf_held, unary_held, held_by, form_within, parent_within, within_limits, class_below, type_within}
use Rattle.sheet.specs.Refusals.{block_of, declares, next_node, may_be_text, two_variables, numbered, in_order, parent_smaller, form_known, parts_known, call_below, has_type, in_definition, calls_smaller, calls_known, fresh, operands_fresh, tree_holds, suits}
use Rattle.sheet.specs.Reading.{must, step_line, step_spelled, step, on_step, on_end, closing, read_last, read_lines, read_text}
use Rattle.sheet.specs.Calls.{answer, refusal_at, refusal, on_sheet, typing_of, on_type, on_types, on_definitions, on_accepted, type_lines, short_words, short_output}
use Rattle.sheet.specs.Examples.{tabbed, words}
use Rattle.sheet.specs.Grammar.Tokens.{in_word, joins, tokens}
use Rattle.sheet.specs.Grammar.Trees.{count as count_nodes, root as root_of, roots, one_shape, two_shape, three_shape, shapes}
use Rattle.sheet.specs.Grammar.Words.{named, labelled, variable_word, attribute_word, class_word, definition_word, constants, leaf_word, kinds, plain_forms, argument_forms, quantifiers, letters, simple_types, type_word, disjunctions, conjunctions, comparisons, sums, products}
use Rattle.sheet.specs.Grammar.Parser.{after as after_token, taking, after_call, type_in, binding, instances_start, braces, start_by, start_of, or_broken, dot_by, dot_step, quantified_step, iterate_step, collect_step, call_step, arrow_step, step_of, signs, sign_of, tighter, rank as level_rank, parse, enough, at_end as at_text_end, sentence, reading_of}
use Rattle.sheet.specs.TextExamples.{keyed, line_for, sheet_of}
use Rattle.ocl.specs.Profile.{is_q, is_sequence, makes_sequence, collects, node_if, for_type, outside, outside_rule, joins as joins_two}
use Rattle.sheet.specs.Profile.{outside_rules, lowest_from, lowest, first_outside, on_profile, profile_of, profile_call}
use Rattle.sheet.specs.ProfileExamples.{profiles_into, profiles, rule_of, after_sequence, ProfileExamples}

pub profile_examples : ProfileExamples
unfolding on_text or_else on_some map_some all_of member concat join simple_join first_above simple_subtype climbs same_simple simple_code up parent_or height letter_join letter_subtype same_kind kind_code around_some subtype depth declared nearest row_read extend start levels then_for and_then common wrap on_collection on_kind bound_type leaf_type cast_type unary_type both_below binary_type conditional_type on_class collect_kind row_type attribute_type leaf_typing unary_typing binary_typing connective_typing is_undef_typing conditional_typing let_typing attribute_typing call_type call_typing quantified_typing iterate_typing no_operand_typing operand_typing assemble_typing typing type_rule root type_definition in_range bytes onto split lines_of fields_of nothing after literal behind ◌or◌ ◌then◌ mapped at_end whole is_digit digits after_digits plain value_of_digits number_parser negative integer_parser collection_type type_parser read_type letter_byte spell_simple spell_type is next done each a_number an_integer a_parent a_kind read_fields iterate_fields at_most_four assemble_fields forms shape_of a_word line_of in_body empty no_row operands_of grow_all grow tree_of definition_of with_node with_nodes as_text added last_tree all_used with_body end_of end_for end_rule simple_class_below is_class is_variable is_node is_definition leaf_held unary_held held_by form_within parent_within within_limits block_of declares next_node may_be_text two_variables numbered in_order parent_smaller form_known parts_known call_below has_type in_definition calls_smaller calls_known fresh operands_fresh tree_holds class_below type_within must step_line step_spelled step on_step on_end closing read_last read_lines read_text answer refusal_at refusal on_sheet typing_of on_type on_types on_definitions on_accepted type_lines tabbed number_type kept scale_type scaled on_numbers includes_type including_type union_type in_word joins tokens count_nodes root_of roots one_shape two_shape three_shape shapes named labelled variable_word attribute_word class_word definition_word constants leaf_word kinds plain_forms argument_forms quantifiers letters simple_types type_word disjunctions conjunctions comparisons sums products after_token taking after_call type_in binding instances_start braces start_by start_of or_broken dot_by dot_step quantified_step iterate_step collect_step call_step arrow_step step_of signs sign_of tighter level_rank parse enough at_text_end sentence reading_of keyed line_for sheet_of opens closes few_open brackets_within is_there is_sentence nodes_in nodes_of short_words short_output words is_q is_sequence makes_sequence collects node_if for_type outside outside_rule joins_two outside_rules lowest_from lowest first_outside on_profile profile_of profile_call profiles_into profiles rule_of after_sequence spell_digits spell_number hex_parser real_parser a_real suits
profile_examples = record {
  iterated = refl;
  set_as_sequence = refl;
  sequence_as_sequence = refl;
  including_sequence = refl;
  including_set = refl;
  union_sequences = refl;
  union_bags = refl;
  collect_sequence = refl;
  collect_set = refl;
  collect_any_kind = refl;
  inside = refl;
  let_sequence = refl;
  member_sequence = refl;
  unrun = refl;
  reached = refl;
  reached_through = refl;
  unreached = refl;
  lowest_line = refl;
  text_line = refl;
  typed_first = refl;
  read_first = refl;
  no_rules = refl;
  short_output_lem = refl;
}
