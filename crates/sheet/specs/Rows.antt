-- Document 02, F-9: "Customers .. want to know which rules could learn them". The rows that a rule sees, and the program that prints them.
use Rattle.std.specs.Prelude.{◌||◌, List, [], ◌∷◌, ◌++◌, ℕ, zero, suc, length}
use Rattle.std.specs.Prelude.{if◌then◌else◌}
use Rattle.laws.specs.Lists.{member}
use Rattle.ocl.specs.Rows.{resolved_rows}
use Rattle.sheet.specs.Text.{Bytes, bytes, spell_number}
use Rattle.sheet.specs.Sheet.{Rule, Sheet, schema_in}
use Rattle.sheet.specs.Calls.{Verdict, refusal, short_words, short_output, on_accepted}
use Rattle.sheet.specs.Report.{fitting, printed}
use Rattle.sheet.specs.Sizes.{program_output}

-- the rows that a rule sees: those that a node of it, or of a definition that it reaches, was resolved to
unfoldable pub rows_seen : Sheet → Rule → List ℕ
rows_seen s x = resolved_rows (schema_in s) x.context x.body

-- those of the first n rows that are seen, ascending, each behind a space
unfoldable pub row_fields : List ℕ → ℕ → Bytes
row_fields seen zero = []
row_fields seen (suc n) = row_fields seen n ++ (if member n seen then bytes " " ++ spell_number n else [])

-- rule, then rows
unfoldable pub rows_line : Sheet → ℕ → Rule → Bytes
rows_line s r x = spell_number r ++ row_fields (rows_seen s x) (length s.rows) ++ bytes "\n"

-- the lines of the rules from number r on
unfoldable pub rows_lines : Sheet → ℕ → List Rule → Bytes
rows_lines s r [] = []
rows_lines s r (x ∷ xs) = rows_line s r x ++ rows_lines s (suc r) xs

-- it refuses as the report does, and with 18 by its own lines
unfoldable pub rows_into : Bytes → ℕ → Verdict
rows_into text room = on_accepted text (λ s ts. fitting room (rows_lines s 0 s.rules))

unfoldable pub rows_call : Bytes → List ℕ → List ℕ → List ℕ → Bytes → Verdict
rows_call text w0 w1 w2 out =
    if short_words w0 w1 w2 || short_output out then refusal 1 else rows_into text (length out)

-- the program lends 65,536 output bytes and prints as the report's does
unfoldable pub rows_program : Bytes → Bytes
rows_program text = printed (rows_into text program_output)
