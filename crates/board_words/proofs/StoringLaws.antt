-- A board put into its words table by table. Assumes nothing.
use mathlib.Core.Path.{◌≡◌, refl, sym, ap, ◌∙◌}
use mathlib.Core.List.{List, [], ◌∷◌, ◌++◌}
use Prim.Native.Nat.{ℕ, zero, suc, ◌+◌, ◌-◌, ◌<◌, ◌≤◌}
use native.Mathlib.Omega.{arith}
use native.Mathlib.Decide.{dec_lt}
use native.Mathlib.Numerals.{add-one}
use borrow.Author.Tests.{lt-ltb, le-ltb}
use lib.ListN.{length, get_or, take, drop, set, replicate, length-set, length-append, length-replicate, length-drop, take-append-drop, get_or-append}
use lib.Seq.{length-take-le, take_all, take-take, drop-set-lt, get_or-take, get_or-append-add, drop-drop, paste, paste-suc, take-paste, drop-paste, length_paste_head}
use Rattle.memory.specs.Map as memory
use Rattle.board.specs.Board.{Board}
use Rattle.tables.specs.declared.Counts.{Counts}
use Rattle.tables.specs.Layout.{tab, Fine}
use Rattle.board_words.specs.Layout.{padded, board_words, word_or, StoresBoard}
use Rattle.board_words.proofs.Found.{padded_length}

-- ---- one word of a table

pub word_there : (table : List ℕ) {n i : ℕ} → i < n → get_or table i 0 ≡ word_or table n i
unfolding word_or
word_there table {n} {i} h = rw (lt-ltb i n h)

pub word_past : (table : List ℕ) {n i : ℕ} → n ≤ i → 0 ≡ word_or table n i
unfolding word_or
word_past table {n} {i} h = rw (le-ltb i n h)

get_d_zeros : (m i : ℕ) → ◌≡◌ {A = ℕ} (get_or (replicate m 0) i 0) 0
get_d_zeros zero i = refl
get_d_zeros (suc m) zero = refl
get_d_zeros (suc m) (suc i) = get_d_zeros m i

padded_at : (table : List ℕ) (room n i : ℕ) → n ≤ length table → i < room → word_or table n i ≡ get_or (padded room (take n table)) i 0
unfolding padded word_or
padded_at table room n i h l = by (dec_lt i n)
  where
    by : Dec (i < n) → word_or table n i ≡ get_or (padded room (take n table)) i 0
    by (yes k) =
        rw (lt-ltb i n k)
        (sym (get_or-take room (take n table ++ replicate room 0) i 0 l ∙ get_or-append (take n table) (replicate room 0) 0 i (omega (arith, length-take-le n table h)) ∙ get_or-take n table i 0 k))
    by (no k) =
        let z : length (take n table) + (i - n) ≡ i = omega (arith, length-take-le n table h) in
        rw (le-ltb i n (omega arith))
        (sym (get_or-take room (take n table ++ replicate room 0) i 0 l ∙ ap (λ (j : ℕ). get_or (take n table ++ replicate room 0) j 0) (sym z)
        ∙ get_or-append-add (take n table) (replicate room 0) (i - n) 0 ∙ get_d_zeros room (i - n)))

pub put_more : (S : List ℕ) {T : List ℕ} (table : List ℕ) (to room n i : ℕ) {x : ℕ} → T ≡ paste S to (padded room (take n table)) i → to + room ≤ length S → n ≤ length table → i < room
    → x ≡ word_or table n i → set T (to + i) x ≡ paste S to (padded room (take n table)) (i + 1)
put_more S table to room n i e h k l w =
    rw (e, w ∙ padded_at table room n i k l, add-one i) (paste-suc S to (padded room (take n table)) i 0 (omega arith) (omega (arith, padded_length room (take n table))))

pub put_done : (S : List ℕ) {T : List ℕ} (t : List ℕ) (to room i : ℕ) → T ≡ paste S to t i → room ≤ i → i ≤ room → T ≡ paste S to t room
put_done S t to room i e h l = e ∙ ap (λ (k : ℕ). paste S to t k) (let z : i ≡ room = omega arith in z)

-- ---- the words as far as they are written

-- the first n words are these, and those from 8,192 on are as they were
pub record Written (before after : List ℕ) (n : ℕ) (part : List ℕ) : Type 0 where
  pub front : take n after ≡ part
  pub back : drop 8192 after ≡ drop 8192 before
  pub size : length after ≡ length before

first_two : (w : List ℕ) (a b : ℕ) → 8192 ≤ length w → Written w (set (set w 0 a) 1 b) 2 (a ∷ b ∷ [])
first_two w a b h = record {
  front = two w h;
  back = drop-set-lt 8192 (set w 0 a) 1 b (omega arith) ∙ drop-set-lt 8192 w 0 a (omega arith);
  size = length-set (set w 0 a) 1 b ∙ length-set w 0 a;
}
  where
    two : (w : List ℕ) → 8192 ≤ length w → take 2 (set (set w 0 a) 1 b) ≡ a ∷ b ∷ []
    two [] h = absurd (omega arith)
    two (x ∷ []) h = absurd (omega arith)
    two (x ∷ y ∷ w) h = refl

table_put : {w v u : List ℕ} (xs : List ℕ) {front : List ℕ} (at room : ℕ) → 8192 ≤ length w → at + room ≤ 8192 → Written w v at front → u ≡ paste v at (padded room xs) room
    → Written w u (at + room) (front ++ padded room xs)
table_put {w} {v} {u} xs {front} at room long fits h e =
    let l = padded_length room xs in
    let s = h.size in
    record {
      front = ap (take (at + room)) e ∙ take-paste v at (padded room xs) room (omega arith) (omega arith) ∙ ap (λ (t : List ℕ). t ++ take room (padded room xs)) h.front
          ∙ ap (λ (t : List ℕ). front ++ t) (take_all room (padded room xs) (omega arith));
      back = behind (at + room) fits (ap (drop (at + room)) e ∙ drop-paste v at (padded room xs) room (omega arith) (omega arith)) ∙ h.back;
      size = ap length e ∙ length-append (take at v ++ take room (padded room xs)) (drop (at + room) v) ∙ omega (arith, length_paste_head v at (padded room xs) room (omega arith) (omega arith), length-drop (at + room) v);
    }
  where
    behind : (m : ℕ) → m ≤ 8192 → drop m u ≡ drop m v → drop 8192 u ≡ drop 8192 v
    behind m k q =
        let z : m + (8192 - m) ≡ 8192 = omega arith in
        ap (λ (i : ℕ). drop i u) (sym z) ∙ sym (drop-drop (8192 - m) m u) ∙ ap (drop (8192 - m)) q ∙ drop-drop (8192 - m) m v ∙ ap (λ (i : ℕ). drop i v) z

-- ---- what each table holds

pub part_long : (w : List ℕ) (off m : ℕ) {n : ℕ} → 8192 ≤ length w → off + m ≤ 8192 → n ≤ m → n ≤ length (take m (drop off w))
part_long w off m h k l = omega (arith, length-take-le m (drop off w) (omega (arith, length-drop off w)))

part_of : (w : List ℕ) (off m n : ℕ) → n ≤ m → take n (take m (drop off w)) ≡ tab off n w
part_of w off m n h = take-take n m (drop off w) h

zeros : (m : ℕ) (table : List ℕ) → padded m (take 0 table) ≡ replicate m 0
unfolding padded
zeros m table = take_all m (replicate m 0) (omega (arith, length-replicate {A = ℕ} m 0))

stored : {st : Counts} {w0 w1 ends before after K S C : List ℕ} {slots cells rules : ℕ} → Fine st → slots ≡ st.slots → cells ≡ st.cells → rules ≡ st.rules
    → K ≡ tab memory.keys slots w0 → S ≡ tab memory.starts slots w0 → C ≡ tab memory.cells cells w0
    → Written before after 8192 ((st.slots ∷ st.cells ∷ []) ++ padded 350 (take 0 ends) ++ padded 1024 K ++ padded 1024 S ++ padded 2048 C ++ padded 64 (take rules ends) ++ padded 3680 (take 0 ends))
    → StoresBoard st w0 w1 ends before after
unfolding board_words
stored {st} {w0} {w1} {ends} {before} {after} {K} {S} {C} {rules = rules} fine a b c k s d h = record {
  is = λ u ls g e.
      let x : Board = record { slots = u.slots; verdicts = ls } in
      let z : (st.slots ∷ st.cells ∷ []) ++ padded 350 (take 0 ends) ++ padded 1024 K ++ padded 1024 S ++ padded 2048 C ++ padded 64 (take rules ends) ++ padded 3680 (take 0 ends) ≡ board_words x =
      rw (zeros 350 ends, zeros 3680 ends, k, s, d, a, b, c, g.counted.slots, g.counted.cells, g.tables.keys, g.tables.starts, g.tables.cells, e) in
      sym (take-append-drop 8192 after) ∙ ap (λ (t : List ℕ). t ++ drop 8192 after) (h.front ∙ z) ∙ ap (λ (t : List ℕ). board_words x ++ t) h.back;
}

-- ---- the words after each table

-- the front after each of them
abbrev front1 : Counts → List ℕ → List ℕ
front1 st ends = (st.slots ∷ st.cells ∷ []) ++ padded 350 (take 0 ends)

abbrev front2 : Counts → List ℕ → List ℕ → ℕ → List ℕ
front2 st w0 ends slots = front1 st ends ++ padded 1024 (take slots (take 1024 (drop memory.keys w0)))

abbrev front3 : Counts → List ℕ → List ℕ → ℕ → List ℕ
front3 st w0 ends slots = front2 st w0 ends slots ++ padded 1024 (take slots (take 1024 (drop memory.starts w0)))

abbrev front4 : Counts → List ℕ → List ℕ → ℕ → ℕ → List ℕ
front4 st w0 ends slots cells = front3 st w0 ends slots ++ padded 2048 (take cells (take 2048 (drop memory.cells w0)))

abbrev front5 : Counts → List ℕ → List ℕ → ℕ → ℕ → ℕ → List ℕ
front5 st w0 ends slots cells rules = front4 st w0 ends slots cells ++ padded 64 (take rules ends)

module _ (st : Counts) (w0 ends w : List ℕ) (long : 8192 ≤ length w) {v1 : List ℕ} (a : v1 ≡ paste (set (set w 0 st.slots) 1 st.cells) 2 (padded 350 (take 0 ends)) 350) where
  pub written1 : Written w v1 memory.keys (front1 st ends)
  written1 = table_put _ 2 350 long (omega arith) (first_two w st.slots st.cells long) a

  module _ {slots : ℕ} (x : slots ≡ st.slots) {v2 : List ℕ} (b : v2 ≡ paste v1 memory.keys (padded 1024 (take slots (take 1024 (drop memory.keys w0)))) 1024) where
    pub written2 : Written w v2 memory.starts (front2 st w0 ends slots)
    written2 = table_put _ memory.keys 1024 long (omega arith) written1 b

    module _ {v3 : List ℕ} (c : v3 ≡ paste v2 memory.starts (padded 1024 (take slots (take 1024 (drop memory.starts w0)))) 1024) where
      pub written3 : Written w v3 memory.cells (front3 st w0 ends slots)
      written3 = table_put _ memory.starts 1024 long (omega arith) written2 c

      module _ {cells : ℕ} (y : cells ≡ st.cells) {v4 : List ℕ} (d : v4 ≡ paste v3 memory.cells (padded 2048 (take cells (take 2048 (drop memory.cells w0)))) 2048) where
        pub written4 : Written w v4 memory.board_ends (front4 st w0 ends slots cells)
        written4 = table_put _ memory.cells 2048 long (omega arith) written3 d

        module _ {rules : ℕ} (z : rules ≡ st.rules) {v5 : List ℕ} (e : v5 ≡ paste v4 memory.board_ends (padded 64 (take rules ends)) 64) where
          pub written5 : Written w v5 memory.board_end (front5 st w0 ends slots cells rules)
          written5 = table_put _ memory.board_ends 64 long (omega arith) written4 e

          module _ {v6 : List ℕ} (f : v6 ≡ paste v5 memory.board_end (padded 3680 (take 0 ends)) 3680) where
            pub written6 : Written w v6 8192 (front5 st w0 ends slots cells rules ++ padded 3680 (take 0 ends))
            written6 = table_put _ memory.board_end 3680 long (omega arith) written5 f

            pub board_stored : (w1 : List ℕ) → Fine st → StoresBoard st w0 w1 ends w v6
            board_stored w1 fine =
                let i = fine.slots in
                let j = fine.cells in
                stored {w1 = w1} fine x y z (part_of w0 memory.keys 1024 slots (omega arith)) (part_of w0 memory.starts 1024 slots (omega arith)) (part_of w0 memory.cells 2048 cells (omega arith)) written6
