-- Document 02, F-10: "in two more lent slices: words (at least 8,192, never zeroed)". What the first 8,192 of them hold of a board: its slots,
-- where w0 has a sheet's, and how many there are; and where each rule's verdicts end in the verdict bytes.
use Rattle.std.specs.Prelude.{◌≡◌, List, [], ◌∷◌, ◌++◌, map, ℕ, ◌+◌, ◌-◌, length, get_or, take, drop, replicate, ltb}
use Rattle.std.specs.Prelude.{if◌then◌else◌}
use Rattle.memory.specs.Map as memory
use Rattle.sheet.specs.Sizes.{most_values, most_cells, most_rules}
use Rattle.sheet.specs.Text.{Bytes}
use Rattle.sheet.specs.Sheet.{Slot, Sheet}
use Rattle.sheet.specs.Limits.{total_size}
use Rattle.sheet.specs.Reading.{taken}
use Rattle.board.specs.Edits.{with_slots}
use Rattle.board.specs.Board.{Board}
use Rattle.board.specs.Laws.{take_slots}
use Rattle.board.specs.Calls.{least_board}
use Rattle.tables.specs.declared.Counts.{Counts}
use Rattle.tables.specs.Layout.{tab, slot_key, starts_from, cells_of, Holds}

-- n words: what is there, and 0 behind it
unfoldable pub padded : ℕ → List ℕ → List ℕ
padded n xs = take n (xs ++ replicate n 0)

-- where the lines of each rule end, if the first begin at n
unfoldable pub ends_from : ℕ → List Bytes → List ℕ
ends_from n [] = []
ends_from n (l ∷ ls) = (n + length l) ∷ ends_from (n + length l) ls

-- how many slots and how many cells; and from `keys` on the slots' keys, starts and cells, and the ends
unfoldable pub board_words : Board → List ℕ
board_words b =
    (length b.slots ∷ total_size b.slots ∷ replicate (memory.keys - 2) 0) ++ padded most_values (map slot_key b.slots) ++ padded most_values (starts_from 0 b.slots)
    ++ padded most_cells (cells_of b.slots) ++ padded most_rules (ends_from 0 b.verdicts) ++ replicate (least_board - memory.board_end) 0

-- the words hold these slots
pub record SlotsLie (words : List ℕ) (xs : List Slot) : Type 0 where
  pub count : get_or words 0 0 ≡ length xs
  pub size : get_or words 1 0 ≡ total_size xs
  pub keys : tab memory.keys (length xs) words ≡ map slot_key xs
  pub starts : tab memory.starts (length xs) words ≡ starts_from 0 xs
  pub cells : tab memory.cells (total_size xs) words ≡ cells_of xs

-- and they are a board's, which the sheet takes as V lines
pub record BoardLies (words : List ℕ) (s : Sheet) (b : Board) : Type 0 where
  pub lies : SlotsLie words b.slots
  pub as_lines : take_slots (with_slots s 3 []) b.slots ≡ taken (with_slots s 3 b.slots)

-- ---- a board put there

-- word i of a table of n words, or 0 behind it
unfoldable pub word_or : List ℕ → ℕ → ℕ → ℕ
word_or table n i = if ltb i n then get_or table i 0 else 0

-- the slots of each sheet in w0, and verdicts with these ends
pub record StoresBoard (st : Counts) (w0 w1 ends before after : List ℕ) : Type 0 where
  pub is : (s : Sheet) (ls : List Bytes) → Holds st w0 w1 s → take st.rules ends ≡ ends_from 0 ls
      → after ≡ board_words (record { slots = s.slots; verdicts = ls }) ++ drop least_board before
