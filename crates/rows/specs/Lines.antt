-- The lines of the rows that rules see, and what the code answers: for every accepted sheet in the words.
use Rattle.std.specs.Prelude.{List, [], ◌++◌, ℕ, ◌+◌, ◌≤◌, ◌<◌, ◌≡◌, length, get_or, Option as Optional}
use Rattle.std.specs.Prelude.{if◌then◌else◌}
use Rattle.laws.specs.Lists.{member}
use Rattle.memory.specs.Map as memory
use Rattle.ocl.specs.Types.{Ty}
use Rattle.sheet.specs.Sizes.{most_rows, most_rules, most_nodes}
use Rattle.sheet.specs.Text.{Bytes, bytes, spell_number}
use Rattle.sheet.specs.Sheet.{Sheet}
use Rattle.sheet.specs.Calls.{Verdict, output_after}
use Rattle.sheet.specs.Report.{fitting}
use Rattle.sheet.specs.Rows.{row_fields, rows_lines}
use Rattle.text.specs.Written.{Puts}
use Rattle.tables.specs.declared.Counts.{Counts}
use Rattle.tables.specs.Layout.{Kept}
use Rattle.rules.specs.Accepted.{Accepted}
use Rattle.report.specs.Reports.{SaysReport}
use Rattle.rows.specs.Bits.{Bits}
use Rattle.rows.specs.Seen.{AllSeen}

-- f of the rows that the word has is put, in at most `most` bytes
pub record PutsRows (f : List ℕ → Bytes) (most seen at : ℕ) (before after : Bytes) (r : ℕ) : Type 0 where
  pub is : (rows : List ℕ) → Bits seen rows → Puts at (f rows) before after r
  pub within : r ≤ at + most

-- row i behind a space, if it is seen
unfoldable pub row_field : ℕ → List ℕ → Bytes
row_field i rows = if member i rows then bytes " " ++ spell_number i else []

-- those of the first n rows that are seen
unfoldable pub fields_of : ℕ → List ℕ → Bytes
fields_of n rows = row_fields rows n

-- the line of a rule, where there are n rows
unfoldable pub line_of : ℕ → ℕ → List ℕ → Bytes
line_of n rule rows = spell_number rule ++ row_fields rows n ++ bytes "\n"

-- ---- all rules

-- the counts are small, and each rule's root is a node
pub record Rooted (st : Counts) (w0 : List ℕ) : Type 0 where
  pub rules : st.rules ≤ most_rules
  pub rows : st.rows ≤ most_rows
  pub root : (r : ℕ) → r < st.rules → get_or w0 (memory.roots + r) 0 < most_nodes

-- all lines are put from the first byte on
pub record PutsLines (st : Counts) (w0 w2 : List ℕ) (before after : Bytes) (n : ℕ) : Type 0 where
  pub is : (w1 : List ℕ) → AllSeen w1 w2 → (s : Sheet) (ts : List Ty) → Accepted st w0 w1 s ts → Puts 0 (rows_lines s 0 s.rules) before after n
  pub within : n ≤ 12480

-- the rows of a sheet's rules into so many bytes
abbrev pub rows_on : Sheet → ℕ → Verdict
rows_on s room = fitting room (rows_lines s 0 s.rules)

-- w2 was `before` and is `after`; the output was `out` and is `now`
pub record TellsRows (st : Counts) (w0 w1 before after : List ℕ) (out now : Bytes) (r : Optional ℕ) : Type 0 where
  pub is : (s : Sheet) (ts : List Ty) → Accepted st w0 w1 s ts → SaysReport r (rows_on s (length out))
  pub output : (s : Sheet) (ts : List Ty) → Accepted st w0 w1 s ts → now ≡ output_after (rows_on s (length out)) out
  pub kept : Kept before after
