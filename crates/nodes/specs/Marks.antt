-- A node's mark as one word: its row, 64 more where `collect` gives a Sequence, and 128 where the numbers are Reals (document 02,
-- F-8). Rows are below 64 and `collect` gives no Set (crates/ocl's `MarkAt`), so that the word tells all three, and an `attr`
-- node's word is its row.
use Rattle.std.specs.Prelude.{◌≡◌, ℕ, ◌+◌, ◌%◌, ltb}
use Rattle.std.specs.Prelude.{if◌then◌else◌}
use Rattle.memory.specs.Map as memory
use Rattle.ocl.specs.Types.{Kind, sequence, bag, same_kind}
use Rattle.ocl.specs.Marks.{Scale, integers, reals, Mark, of_row, of_rows, of_numbers, row_marked, kind_marked, scale_marked}
use Rattle.sheet.specs.Sizes.{most_rows}

unfoldable pub mark_word : Mark → ℕ
mark_word (of_row i) = i
mark_word (of_rows k i) = if same_kind k sequence then memory.mark_sequence + i else i
mark_word (of_numbers integers) = 0
mark_word (of_numbers reals) = memory.mark_reals

unfoldable pub kind_in : ℕ → Kind
kind_in word = if ltb (word % memory.mark_reals) memory.mark_sequence then bag else sequence

unfoldable pub scale_in : ℕ → Scale
scale_in word = if ltb word memory.mark_reals then integers else reals

-- what evaluation reads in the word of a mark
pub record Marked (word : ℕ) (m : Mark) : Type 0 where
  pub row : row_marked m ≡ word % most_rows
  pub kind : kind_marked m ≡ kind_in word
  pub scale : scale_marked m ≡ scale_in word
