-- The small sheet numbered anew, by computation. Assumes nothing.
use mathlib.Core.Path.{refl}
use Rattle.laws.specs.Choice.{or_else, on_some, map_some}
use Rattle.reals.specs.Reals.{order_int, is_less, units}
use Rattle.ocl.specs.Values.{add, add_all, insert, put, order, head_order, then_order, sort, rank, members, count, append}
use Rattle.sheet.specs.Text.{bytes, onto, split, lines_of, fields_of, nothing, after, literal, behind, ◌or◌, ◌then◌, mapped, at_end, whole, is_digit, digits, after_digits, plain, value_of_digits, number_parser, negative, integer_parser, hex_parser, real_parser}
use Rattle.sheet.specs.Spelling.{collection_type, type_parser, read_type, value_parser, read_value}
use Rattle.sheet.specs.Lines.{is, next, done, each, a_number, an_integer, a_parent, a_kind, read_fields, iterate_fields, at_most_four, assemble_fields, named, forms, shape_of, a_word, line_of, in_body, a_real}
use Rattle.sheet.specs.Refusals.{block_of, after_slots}
use Rattle.sheet.specs.Examples.{tabbed, lines}
use Rattle.profile.specs.Renumbering.{renumbered}
use Rattle.profile.specs.RenumberedLines.{at_last, lines_from, lines_in, of_blocks, objects_in, slots_in, renumbered_objects, put_slot, renumbered_slot, renumbered_slots, object_lines_from, value_lines, renumbered_lines}
use Rattle.profile.specs.RenumberedExample.{turned, turned_back, as_given, numbered_anew, RenumberedExample}

pub renumbered_example : RenumberedExample
unfolding or_else on_some map_some order_int is_less units add add_all insert put order head_order then_order sort rank members count append bytes onto split lines_of fields_of nothing after literal behind ◌or◌ ◌then◌ mapped at_end whole is_digit digits after_digits plain value_of_digits number_parser negative integer_parser hex_parser real_parser collection_type type_parser read_type value_parser read_value is next done each a_number an_integer a_parent a_kind read_fields iterate_fields at_most_four assemble_fields named forms shape_of a_word line_of in_body a_real block_of after_slots tabbed lines renumbered at_last lines_from lines_in of_blocks objects_in slots_in renumbered_objects put_slot renumbered_slot renumbered_slots object_lines_from value_lines renumbered_lines turned turned_back as_given numbered_anew
renumbered_example = refl
