-- What a line begins with, its block, and what may be open between two lines: the names and numbers of src/lines.rt.
use Rattle.std.specs.Prelude.{ℕ}

-- ---- a byte begins a line by its letter, or a number, or nothing

abbrev pub no_line : ℕ
no_line = 0

abbrev pub class_line : ℕ
class_line = 1

abbrev pub row_line : ℕ
row_line = 2

abbrev pub object_line : ℕ
object_line = 3

abbrev pub value_line : ℕ
value_line = 4

abbrev pub rule_line : ℕ
rule_line = 5

abbrev pub node_line : ℕ
node_line = 6

abbrev pub digit : ℕ
digit = 7

abbrev pub definition_line : ℕ
definition_line = 8

abbrev pub text_line : ℕ
text_line = 9

-- ---- the blocks, in their order

abbrev pub classes : ℕ
classes = 0

abbrev pub rows : ℕ
rows = 1

abbrev pub objects : ℕ
objects = 2

abbrev pub values : ℕ
values = 3

abbrev pub definitions : ℕ
definitions = 4

abbrev pub rules : ℕ
rules = 5

-- ---- what is open: a rule waits for its nodes or its text until an X line has given them

abbrev pub nothing_open : ℕ
nothing_open = 0

abbrev pub rule_open : ℕ
rule_open = 1

abbrev pub definition_open : ℕ
definition_open = 2

abbrev pub text_given : ℕ
text_given = 3
