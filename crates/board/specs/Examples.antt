-- Document 02, F-10: small sheets and what edits of their boards answer, as one table.
use Rattle.std.specs.Prelude.{◌≡◌, true, List, [], ◌∷◌, ◌++◌, ℕ, length, replicate, eqb}
use Prim.Native.String.{String}
use Rattle.std.specs.Prelude.{if◌then◌else◌}
use Rattle.ocl.specs.Values.{bool}
use Rattle.sheet.specs.Text.{Bytes, bytes, spell_number}
use Rattle.sheet.specs.Sheet.{Sheet}
use Rattle.sheet.specs.Reading.{sheet_in}
use Rattle.sheet.specs.Calls.{Verdict, answer, refusal_at, refusal}
use Rattle.sheet.specs.Report.{printed}
use Rattle.sheet.specs.Examples.{lines, words}
use Rattle.board.specs.Edits.{read_edit}
use Rattle.board.specs.Board.{Board, made}
use Rattle.board.specs.Calls.{make_call, edit_on, edit_call, after_line}

-- an answer's steps and verdicts, or `!`, number and place
unfoldable pub shown : Verdict → Bytes
shown v = if eqb v.number 0 then spell_number v.steps ++ bytes "\n" ++ v.output else printed v

-- what edits answer one after the other; a refused one leaves the board
unfoldable pub answers : Sheet → Board → List String → Bytes
answers s b [] = []
answers s b (l ∷ ls) =
    shown (edit_on 2560 s b (read_edit (lines (l ∷ []))))
    ++ answers s (if eqb (edit_on 2560 s b (read_edit (lines (l ∷ [])))).number 0 then after_line s b (read_edit (lines (l ∷ []))) else b) ls

unfoldable pub editing : List String → List String → Bytes
editing ls es = answers (sheet_in (lines ls)) (made (sheet_in (lines ls))) es

-- one edit's bytes as they stand
unfoldable pub edits_by : List String → Bytes → Verdict
edits_by ls line = edit_call (lines ls) (made (sheet_in (lines ls))) line words words words words (replicate 2560 0)

-- making, with so many board words and verdict bytes
unfoldable pub makes : ℕ → ℕ → List String → Verdict
makes n k ls = make_call (lines ls) words words words (replicate n 0) (replicate k 0)

-- two rows; a rule for each, one that reads the first by a definition, and one that sees none
unfoldable pub two_rows : List String
two_rows = "C 0 -" ∷ "C 1 -" ∷ "A 0 0 5 Int" ∷ "A 1 0 6 S(Int)" ∷ "O 0 0" ∷ "O 1 1" ∷ "V 0 0 9" ∷ "D 0 0 Int" ∷ "N 0 self" ∷ "N 1 attr 0 5"
    ∷ "R 0 0" ∷ "N 0 self" ∷ "N 1 attr 0 5" ∷ "R 1 0" ∷ "N 0 self" ∷ "N 1 attr 0 6" ∷ "N 2 size 1"
    ∷ "R 2 0" ∷ "N 0 true" ∷ "N 1 self" ∷ "N 2 call 1 0" ∷ "N 3 int 7" ∷ "N 4 if 0 3 2" ∷ "R 3 1" ∷ "N 0 true" ∷ []

-- a board of the first row's sheet with so many slots before all that are edited
unfoldable pub filled : ℕ → Board
filled n = record { slots = replicate n (record { object = 0; row = 0; value = bool true }); verdicts = (made (sheet_in (lines two_rows))).verdicts }

unfoldable pub on_filled : ℕ → String → Verdict
on_filled n l = edit_on 0 (sheet_in (lines two_rows)) (filled n) (read_edit (lines (l ∷ [])))

-- two objects of one rule
unfoldable pub two_objects : List String
two_objects = "C 0 -" ∷ "A 0 0 5 Int" ∷ "O 0 0" ∷ "O 1 0" ∷ "V 1 0 30" ∷ "R 0 0" ∷ "N 0 self" ∷ "N 1 attr 0 5" ∷ "N 2 int 12" ∷ "N 3 less 1 2" ∷ []

pub record Examples : Type 0 where
  -- making answers the report and no steps
  pub made_board : makes 8192 2560 two_rows ≡ answer (bytes "0 0 9 2\n1 0 u 3\n2 0 7 3\n3 1 t 1\n")
  -- a value is set, set again and cleared; an accepted edit stays for the next. The rules that were resolved to the row run again, by a
  -- definition and in a branch that is not run too, and their steps are added up
  pub edits : editing two_rows ("V 0 0 7" ∷ "V 0 1 S(1,2)" ∷ "V 0 0 -" ∷ "V 0 1 S(4)" ∷ [])
      ≡ bytes "5\n0 0 7 2\n1 0 u 3\n2 0 7 3\n3 1 t 1\n3\n0 0 7 2\n1 0 2 3\n2 0 7 3\n3 1 t 1\n5\n0 0 u 2\n1 0 2 3\n2 0 7 3\n3 1 t 1\n3\n0 0 u 2\n1 0 1 3\n2 0 7 3\n3 1 t 1\n"
  -- for all its objects; the slots are put in order, and the verdicts grow and shrink
  pub all_objects : editing two_objects ("V 0 0 9" ∷ "V 1 0 -" ∷ []) ≡ bytes "8\n0 0 t 4\n0 1 f 4\n7\n0 0 t 4\n0 1 u 3\n"
  -- clearing where no value stood, and the value that stood, are edits like any other
  pub clears_nothing : editing two_rows ("V 0 1 -" ∷ "V 0 0 9" ∷ []) ≡ bytes "3\n0 0 9 2\n1 0 u 3\n2 0 7 3\n3 1 t 1\n5\n0 0 9 2\n1 0 u 3\n2 0 7 3\n3 1 t 1\n"
  -- 3, 4, 5, 6 and 7 at 1, in this order, which leave the board: the last edit finds it as it was made
  pub refused : editing two_rows ("O 1 0" ∷ "V 0 0 u" ∷ "V 0 0 --" ∷ "V 96 9 S(2,1)" ∷ "V 96 0 -" ∷ "V 9 1 S(2,1)" ∷ "V 9 0 t" ∷ "V 0 2 -" ∷ "V 1 0 7" ∷ "V 1 0 -"
      ∷ "V 0 0 t" ∷ "V 0 1 -" ∷ [])
      ≡ bytes "! 3 1\n! 3 1\n! 3 1\n! 4 1\n! 4 1\n! 5 1\n! 6 1\n! 6 1\n! 7 1\n! 7 1\n! 7 1\n3\n0 0 9 2\n1 0 u 3\n2 0 7 3\n3 1 t 1\n"
  -- exactly one line with its line feed
  pub no_bytes : edits_by two_rows [] ≡ refusal_at 3 1
  pub no_line_feed : edits_by two_rows (bytes "V\t0\t0\t7") ≡ refusal_at 3 1
  pub two_lines : edits_by two_rows (lines ("V 0 0 7" ∷ "V 0 0 8" ∷ [])) ≡ refusal_at 3 1
  pub one_line_lem : length (edits_by two_rows (lines ("V 0 0 7" ∷ []))).output ≡ 32
  -- the text's own refusals come before the edit's
  pub text_first : edits_by ("C 0 0" ∷ []) [] ≡ refusal_at 6 1
  pub typing_first : edits_by ("C 0 -" ∷ "R 0 0" ∷ "N 0 var 1" ∷ []) [] ≡ refusal_at 9 3
  -- 1, for board words and for verdict bytes, before all others
  pub short_words_lem : makes 8191 2560 ("C 0 0" ∷ []) ≡ refusal 1
  pub short_bytes : makes 8192 2559 ("C 0 0" ∷ []) ≡ refusal 1
  -- 21 after 7, then 18: of no verdict bytes here. Clearing and setting anew add no slot
  pub full_type : on_filled 1024 "V 0 1 t" ≡ refusal_at 7 1
  pub full : on_filled 1024 "V 0 1 S()" ≡ refusal_at 21 1
  pub not_full : on_filled 1023 "V 0 1 S()" ≡ refusal 18
  pub full_cleared : on_filled 1024 "V 0 1 -" ≡ refusal 18
  pub full_again : on_filled 1024 "V 0 0 7" ≡ refusal 18
