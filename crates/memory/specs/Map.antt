-- Where each table begins in the lent words: the names of src/lib.rt, which has the same numbers as sums, and what docs/ARCHITECTURE.md
-- (Memory) draws. No other file has an address as a number.
use Rattle.std.specs.Prelude.{ℕ}

-- ---- w0: classes and rows

abbrev pub parents : ℕ
parents = 0

abbrev pub owners : ℕ
owners = 64

abbrev pub names : ℕ
names = 128

abbrev pub types : ℕ
types = 192

abbrev pub rows_end : ℕ
rows_end = 256

-- ---- w0: objects and slots

abbrev pub objects : ℕ
objects = rows_end

abbrev pub keys : ℕ
keys = 352

abbrev pub starts : ℕ
starts = 1376

abbrev pub cells : ℕ
cells = 2400

abbrev pub cells_end : ℕ
cells_end = 4448

-- ---- w0: rules and definitions

abbrev pub contexts : ℕ
contexts = cells_end

abbrev pub roots : ℕ
roots = 4512

abbrev pub definition_contexts : ℕ
definition_contexts = 4576

abbrev pub definition_types : ℕ
definition_types = 4608

abbrev pub definition_roots : ℕ
definition_roots = 4640

-- ---- w1: nodes, their marks and their depths

abbrev pub node_words : ℕ
node_words = 8

abbrev pub nodes_end : ℕ
nodes_end = 6144

abbrev pub marks : ℕ
marks = nodes_end

abbrev pub depths : ℕ
depths = 6912

-- a mark is a row, with the first of these added where `collect` gives a Sequence; where numbers go by Reals, it is the second
abbrev pub mark_sequence : ℕ
mark_sequence = 64

abbrev pub mark_reals : ℕ
mark_reals = 128

-- variables have numbers below the first of these and classes below the second; in a node's word, whatever lies there is taken so
abbrev pub variable_numbers : ℕ
variable_numbers = 16

abbrev pub class_numbers : ℕ
class_numbers = 256

-- a place is one word: its node, and this many times its step
abbrev pub place_step : ℕ
place_step = 1024

-- ---- w2, while rules are typed: the types of the rules, behind the marks

abbrev pub rule_types : ℕ
rule_types = 768

-- ---- w2, while a text is read: its open `let`s, behind its nodes

abbrev pub let_variables : ℕ
let_variables = nodes_end

abbrev pub let_roots : ℕ
let_roots = 6912

-- ---- the board: slots where w0 has them, and behind these where the verdicts of each rule end

abbrev pub board_ends : ℕ
board_ends = cells_end

abbrev pub board_end : ℕ
board_end = roots
