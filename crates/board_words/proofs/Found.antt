-- What lies in the words of a board is found there again. Assumes nothing.
use mathlib.Core.Path.{◌≡◌, refl, sym, ap, ◌∙◌}
use mathlib.Core.List.{List, [], ◌∷◌, ◌++◌, map, append_assoc}
use Prim.Native.Nat.{ℕ, ◌+◌, ◌≤◌}
use native.Mathlib.Omega.{arith}
use lib.ListN.{length, get_or, take, drop, replicate, length-append, length-map, length-replicate, take-append-drop}
use lib.Seq.{length-take-le, take-append-le, take-take, take_at, drop_at}
use lib.Dec.{T, leb, leb→le}
use Rattle.laws.proofs.Tests.{and_l, and_r}
use Rattle.memory.specs.Map as memory
use Rattle.ocl.specs.Values.{size}
use Rattle.sheet.specs.Text.{Bytes}
use Rattle.sheet.specs.Sheet.{Slot}
use Rattle.sheet.specs.Limits.{total_size}
use Rattle.board.specs.Edits.{has_room}
use Rattle.board.specs.Board.{Board}
use Rattle.board.specs.Calls.{Layout}
use Rattle.tables.specs.Layout.{tab, slot_key, starts_from, cells_of}
use Rattle.rules.proofs.Slots.{cells_length}
use Rattle.board_words.specs.Layout.{padded, ends_from, board_words, SlotsLie}

-- ---- lengths

pub padded_length : (n : ℕ) (xs : List ℕ) → length (padded n xs) ≡ n
unfolding padded
padded_length n xs = length-take-le n (xs ++ replicate n 0) (omega (arith, length-append xs (replicate n 0), length-replicate {A = ℕ} n 0))

starts_length : (n : ℕ) (xs : List Slot) → length (starts_from n xs) ≡ length xs
unfolding starts_from
starts_length n [] = refl
starts_length n (x ∷ xs) = let e = starts_length (n + size x.value) xs in omega arith

pub ends_length : (n : ℕ) (ls : List Bytes) → length (ends_from n ls) ≡ length ls
unfolding ends_from
ends_length n [] = refl
ends_length n (l ∷ ls) = let e = ends_length (n + length l) ls in omega arith

module _ (b : Board) where
  front : List ℕ
  front = length b.slots ∷ total_size b.slots ∷ replicate 350 0

  front_length : length front ≡ memory.keys
  unfolding front
  front_length = omega (arith, length-replicate {A = ℕ} 350 0)

  pub lay_length : length (board_words b) ≡ 8192
  unfolding board_words
  lay_length = simp length-append (omega (arith, padded_length 1024 (map slot_key b.slots), padded_length 1024 (starts_from 0 b.slots), padded_length 2048 (cells_of b.slots), padded_length 64 (ends_from 0 b.verdicts), length-replicate {A = ℕ} 350 0, length-replicate {A = ℕ} 3680 0))

abbrev pub layout : Layout
layout = record { lay = board_words; whole = lay_length }

-- ---- a table among others

table_found : (A R xs : List ℕ) (off n m : ℕ) → length A ≡ off → length xs ≡ n → n ≤ m → tab off n (A ++ (padded m xs ++ R)) ≡ xs
unfolding padded
table_found A R xs off n m a e h =
    ap (take n) (drop_at A (padded m xs ++ R) off a)
    ∙ take-append-le n (padded m xs) R (omega (arith, padded_length m xs))
    ∙ take-take n m (xs ++ replicate m 0) h
    ∙ take_at xs (replicate m 0) n e

six : (F K S C E Z : List ℕ) → F ++ K ++ S ++ C ++ E ++ Z ≡ F ++ (K ++ (S ++ (C ++ (E ++ Z))))
six F K S C E Z = simp append_assoc refl

module _ (words : List ℕ) (b : Board) (lies : take 8192 words ≡ board_words b) where
  abbrev keys : List ℕ
  keys = padded 1024 (map slot_key b.slots)

  abbrev starts : List ℕ
  starts = padded 1024 (starts_from 0 b.slots)

  abbrev cells : List ℕ
  cells = padded 2048 (cells_of b.slots)

  abbrev ends : List ℕ
  ends = padded 64 (ends_from 0 b.verdicts)

  abbrev rest : List ℕ
  rest = replicate 3680 0 ++ drop 8192 words

  split : words ≡ front b ++ (keys ++ (starts ++ (cells ++ (ends ++ rest))))
  unfolding board_words front
  split =
      sym (take-append-drop 8192 words) ∙ ap (λ l. l ++ drop 8192 words) lies
      ∙ append_assoc (front b ++ keys ++ starts ++ cells ++ ends) (replicate 3680 0) (drop 8192 words) ∙ six (front b) keys starts cells ends rest

  -- the words in front of each table
  before_starts : length (front b ++ keys) ≡ memory.starts
  before_starts = simp length-append (omega (arith, front_length b, padded_length 1024 (map slot_key b.slots)))

  before_cells : length (front b ++ keys ++ starts) ≡ memory.cells
  before_cells = simp length-append (omega (arith, before_starts, length-append (front b) keys, padded_length 1024 (starts_from 0 b.slots)))

  before_ends : length (front b ++ keys ++ starts ++ cells) ≡ memory.board_ends
  before_ends = length-append (front b ++ keys ++ starts) cells ∙ omega (arith, before_cells, padded_length 2048 (cells_of b.slots))

  pub board_lies : T (has_room b.slots) → SlotsLie words b.slots
  unfolding has_room
  board_lies r =
      let n = leb→le (length b.slots) 1024 (and_l (leb (length b.slots) 1024) (leb (total_size b.slots) 2048) r) in
      let m = leb→le (total_size b.slots) 2048 (and_r (leb (length b.slots) 1024) (leb (total_size b.slots) 2048) r) in
      record {
        count = ap (λ l. get_or l 0 0) split ∙ (unfold front in refl);
        size = ap (λ l. get_or l 1 0) split ∙ (unfold front in refl);
        keys = ap (tab memory.keys (length b.slots)) split
            ∙ table_found (front b) (starts ++ (cells ++ (ends ++ rest))) (map slot_key b.slots) memory.keys (length b.slots) 1024 (front_length b) (length-map b.slots slot_key) n;
        starts = ap (tab memory.starts (length b.slots)) (split ∙ sym (append_assoc (front b) keys (starts ++ (cells ++ (ends ++ rest)))))
            ∙ table_found (front b ++ keys) (cells ++ (ends ++ rest)) (starts_from 0 b.slots) memory.starts (length b.slots) 1024 before_starts (starts_length 0 b.slots) n;
        cells = ap (tab memory.cells (total_size b.slots)) (split ∙ sym (append_assoc (front b) keys (starts ++ (cells ++ (ends ++ rest)))) ∙ sym (append_assoc (front b ++ keys) starts (cells ++ (ends ++ rest))))
            ∙ table_found (front b ++ keys ++ starts) (ends ++ rest) (cells_of b.slots) memory.cells (total_size b.slots) 2048 before_cells (cells_length b.slots) m;
      }

  pub ends_lie : length b.verdicts ≤ 64 → tab memory.board_ends (length b.verdicts) words ≡ ends_from 0 b.verdicts
  ends_lie n =
      ap (tab memory.board_ends (length b.verdicts))
      (split ∙ sym (append_assoc (front b) keys (starts ++ (cells ++ (ends ++ rest)))) ∙ sym (append_assoc (front b ++ keys) starts (cells ++ (ends ++ rest)))
      ∙ sym (append_assoc (front b ++ keys ++ starts) cells (ends ++ rest)))
      ∙ table_found (front b ++ keys ++ starts ++ cells) rest (ends_from 0 b.verdicts) memory.board_ends (length b.verdicts) 64 before_ends (ends_length 0 b.verdicts) n
