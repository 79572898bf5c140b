-- Document 01, The sheet and Calls: how much of each there may be, and how much is lent at least.
use Rattle.std.specs.Prelude.{ℕ}

-- ---- a sheet

-- "At most 49,152 bytes"
abbrev pub most_bytes : ℕ
most_bytes = 49152

-- "class 0 to 63"
abbrev pub most_classes : ℕ
most_classes = 64

-- "attribute row 0 to 63 of class c; name 0 to 255"
abbrev pub most_rows : ℕ
most_rows = 64

abbrev pub most_names : ℕ
most_names = 256

-- "object 0 to 95"
abbrev pub most_objects : ℕ
most_objects = 96

-- "At most 1,024 lines, sizes together at most 2,048": V lines, and the cells of their values
abbrev pub most_values : ℕ
most_values = 1024

abbrev pub most_cells : ℕ
most_cells = 2048

-- document 02, F-13: definitions "numbered 0 to 31"
abbrev pub most_definitions : ℕ
most_definitions = 32

-- "rule 0 to 63"
abbrev pub most_rules : ℕ
most_rules = 64

-- "at most 768 nodes in all rules together"; document 02, F-13: "Definitions share the 768 nodes"
abbrev pub most_nodes : ℕ
most_nodes = 768

-- document 02, F-7: "Over 64 brackets and `if`s open together are number 4"
abbrev pub most_open : ℕ
most_open = 64

-- ---- what is lent

-- "three slices of 64-bit words (at least 8,192 each)"
abbrev pub least_words : ℕ
least_words = 8192

-- document 02, F-8: "The output's minimum becomes 2,560 bytes"
abbrev pub least_output : ℕ
least_output = 2560

-- and the program "lends 65,536 output bytes"
abbrev pub program_output : ℕ
program_output = 65536
