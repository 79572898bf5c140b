-- The slots of a sheet that lies in the words: their keys ascend, and a slot's cells are where its start says. Assumes nothing.
use mathlib.Core.Path.{◌≡◌, refl, sym, ap, ◌∙◌}
use mathlib.Core.Logic.{◌≢◌}
use mathlib.Core.Bool.{◌&&◌}
use mathlib.Core.Option.{Option, none, some}
use mathlib.Core.List.{List, [], ◌∷◌, ◌++◌, map, map-append, append_assoc}
use Prim.Native.Nat.{ℕ, zero, suc, ◌+◌, ◌*◌, ◌≤◌, ◌<◌}
use native.Mathlib.Omega.{arith}
use lib.ListN.{length, get_or, drop, length-append, length-take, length-drop, length-map}
use lib.Seq.{slice, get_or_at}
use lib.Dec.{eqb, eqb→eq}
use borrow.Author.Tests.{eq-eqb, ne_eqb}
use Rattle.laws.specs.Lists.{Each, each_nil, each-cons, concat}
use Rattle.laws.proofs.Tests.{and_l, and_r, by-if}
use Rattle.laws.proofs.Lists.{each_right, each_head}
use Rattle.laws.proofs.Slices.{cut_part, split_left, split_right}
use Rattle.memory.specs.Map as memory
use Rattle.ocl.specs.Values.{Value, size}
use Rattle.sheet.specs.Sheet.{Slot, Sheet, lookup}
use Rattle.sheet.specs.Limits.{total_size}
use Rattle.sheet.proofs.Ascending.{Before, smaller_object, smaller_row, Ascending, ascending_nil, ascending_cons}
use Rattle.values.specs.Cells.{enc}
use Rattle.values.proofs.Encoding.{size_law, some_cells}
use Rattle.tables.specs.declared.Counts.{Counts}
use Rattle.tables.specs.Layout.{tab, slot_key, starts_from, cells_of, HoldsTables, Counted, Fine}
use Rattle.tables.specs.Stored.{key_at, start_at, end_at, Stored, no_slot, slot}
use Rattle.tables.proofs.Tables.{tab_at}

-- each slot's row is small enough to be told from its key
abbrev pub LowRows : List Slot → Type 0
LowRows xs = Each (λ x. x.row < 64) xs

-- ---- keys ascend

lower_key : {x y : Slot} → x.row < 64 → Before x y → slot_key x < slot_key y
unfolding slot_key
lower_key l (smaller_object h) = omega arith
lower_key l (smaller_row e h) = omega arith

first_lower : {x : Slot} {xs : List Slot} → x.row < 64 → Each (Before x) xs → (k : ℕ) → k < length xs → slot_key x < get_or (map slot_key xs) k 0
first_lower l each_nil k h = absurd (omega arith)
first_lower l (each-cons p hs) zero h = lower_key l p
first_lower l (each-cons p hs) (suc k) h = first_lower l hs k (omega arith)

keys_ascend : {xs : List Slot} → LowRows xs → Ascending xs → (j k : ℕ) → j < k → k < length xs → get_or (map slot_key xs) j 0 < get_or (map slot_key xs) k 0
keys_ascend each_nil ascending_nil j k l h = absurd (omega arith)
keys_ascend (each-cons p hs) (ascending_cons b a) j zero l h = absurd (omega arith)
keys_ascend (each-cons p hs) (ascending_cons b a) zero (suc k) l h = first_lower p b k (omega arith)
keys_ascend (each-cons p hs) (ascending_cons b a) (suc j) (suc k) l h = keys_ascend hs a j k (omega arith) (omega arith)

-- ---- a slot by its key

-- what is looked up is the value of a slot with the key, or no slot has it
data Found (key : ℕ) (xs : List Slot) : Option Value → Type 0 where
  absent : Each (λ x. slot_key x ≢ key) xs → Found key xs none
  present : (before : List Slot) (x : Slot) (after : List Slot) → xs ≡ before ++ x ∷ after → slot_key x ≡ key → Found key xs (some x.value)

found_later : {key : ℕ} {x : Slot} {xs : List Slot} {o : Option Value} → slot_key x ≢ key → Found key xs o → Found key (x ∷ xs) o
found_later n (absent h) = absent (each-cons n h)
found_later {x = y} n (present before x after e k) = present (y ∷ before) x after (ap (λ (l : List Slot). y ∷ l) e) k

found : (xs : List Slot) (o i : ℕ) → i < 64 → LowRows xs → Found (o * 64 + i) xs (lookup xs o i)
unfolding lookup slot_key
found [] o i l each_nil = absent each_nil
found (x ∷ xs) o i l (each-cons p hs) =
    by-if (Found (o * 64 + i) (x ∷ xs)) (eqb o x.object && eqb i x.row) (some x.value) (lookup xs o i)
    (λ t. present [] x xs refl (
    let a = eqb→eq o x.object (and_l (eqb o x.object) _ t) in
    let b = eqb→eq i x.row (and_r (eqb o x.object) _ t) in
    omega arith))
    (λ t. found_later (λ e.
    let a : o ≡ x.object = omega arith in
    let b : i ≡ x.row = omega arith in
    rw (eq-eqb o x.object a, eq-eqb i x.row b) at t) (found xs o i l hs))

no_key : {key : ℕ} {xs : List Slot} → Each (λ x. slot_key x ≢ key) xs → (j : ℕ) → j < length xs → get_or (map slot_key xs) j 0 ≢ key
no_key each_nil j l e = absurd (omega arith)
no_key (each-cons n h) zero l e = n e
no_key (each-cons n h) (suc j) l e = no_key h j (omega arith) e

-- ---- starts and cells, of the slots before one and of it

starts_at : (n : ℕ) (before : List Slot) (x : Slot) (after : List Slot) → get_or (starts_from n (before ++ x ∷ after)) (length before) 0 ≡ n + total_size before
unfolding starts_from total_size
starts_at n [] x after = omega arith
starts_at n (y ∷ before) x after = starts_at (n + size y.value) before x after ∙ omega arith

starts_next : (n : ℕ) (before : List Slot) (x y : Slot) (after : List Slot)
    → get_or (starts_from n (before ++ x ∷ y ∷ after)) (suc (length before)) 0 ≡ n + (total_size before + size x.value)
unfolding starts_from total_size
starts_next n [] x y after = omega arith
starts_next n (z ∷ before) x y after = starts_next (n + size z.value) before x y after ∙ omega arith

size_parts : (before : List Slot) (x : Slot) (after : List Slot) → total_size (before ++ x ∷ after) ≡ total_size before + (size x.value + total_size after)
unfolding total_size
size_parts [] x after = omega arith
size_parts (y ∷ before) x after = let e = size_parts before x after in omega arith

cells_parts : (before : List Slot) (x : Slot) (after : List Slot) → cells_of (before ++ x ∷ after) ≡ cells_of before ++ (enc x.value ++ cells_of after)
unfolding cells_of concat
cells_parts [] x after = refl
cells_parts (y ∷ before) x after =
    ap (λ (l : List ℕ). enc y.value ++ l) (cells_parts before x after) ∙ sym (append_assoc (enc y.value) (cells_of before) (enc x.value ++ cells_of after))

pub cells_length : (xs : List Slot) → length (cells_of xs) ≡ total_size xs
unfolding cells_of concat total_size
cells_length [] = refl
cells_length (x ∷ xs) = length-append (enc x.value) (cells_of xs) ∙ (let a = size_law x.value in let b = cells_length xs in omega arith)

-- the middle one of a table's three parts
middle : (w : List ℕ) (off n : ℕ) (A B C : List ℕ) → 0 < length B → n ≡ length A + (length B + length C) → tab off n w ≡ A ++ (B ++ C)
    → slice (off + length A) (off + length A + length B) w ≡ B
middle w off n A B C more e is =
    let a = sym (length-take n (drop off w)) ∙ ap length is ∙ length-append A (B ++ C) in
    let b = length-append B C in
    let d = length-drop off w in
    let room : off + n ≤ length w = omega arith in
    let whole : slice off (off + n) w ≡ A ++ (B ++ C) = cut_part off n w (omega arith) ∙ is in
    split_left w (off + length A) (off + n) B C room (omega arith) (split_right w off (off + n) A (B ++ C) room (omega arith) whole)

-- ---- the slots in the words

module _ {st : Counts} {w0 : List ℕ} {s : Sheet} (fine : Fine st) (counted : Counted st s) (h : HoldsTables w0 s) where
  pub key_at_lem : (j : ℕ) → j < length s.slots → key_at w0 j ≡ get_or (map slot_key s.slots) j 0
  key_at_lem j l = sym (tab_at memory.keys (length s.slots) w0 j l) ∙ ap (λ (k : List ℕ). get_or k j 0) h.keys

  start_at_lem : (j : ℕ) → j < length s.slots → get_or w0 (memory.starts + j) 0 ≡ get_or (starts_from 0 s.slots) j 0
  start_at_lem j l = sym (tab_at memory.starts (length s.slots) w0 j l) ∙ ap (λ (k : List ℕ). get_or k j 0) h.starts

  pub slots_ascend : LowRows s.slots → Ascending s.slots → (j k : ℕ) → j < k → k < st.slots → key_at w0 j < key_at w0 k
  slots_ascend low up j k l m =
      let z : k < length s.slots = (let c = counted.slots in omega arith) in
      rw (key_at_lem j (omega arith), key_at_lem k z) (keys_ascend low up j k l z)

  module _ (before : List Slot) (x : Slot) where
    length_parts : (after : List Slot) → s.slots ≡ before ++ x ∷ after → st.slots ≡ length before + suc (length after)
    length_parts after e = counted.slots ∙ ap length e ∙ length-append before (x ∷ after)

    pub begins : (after : List Slot) → s.slots ≡ before ++ x ∷ after → start_at w0 (length before) ≡ memory.cells + total_size before
    begins after e =
        let n = length_parts after e in
        let c = counted.slots in
        ap (λ (i : ℕ). memory.cells + i)
        (start_at_lem (length before) (omega arith) ∙ ap (λ (l : List Slot). get_or (starts_from 0 l) (length before) 0) e ∙ starts_at 0 before x after ∙ omega arith)

    -- where the next slot begins, or behind the last cell
    pub ends : (after : List Slot) → s.slots ≡ before ++ x ∷ after → end_at st w0 (length before) ≡ memory.cells + (total_size before + size x.value)
    unfolding total_size
    ends [] e =
        let n = length_parts [] e in
        rw (eq-eqb (suc (length before)) st.slots (omega arith)) (let c = counted.cells ∙ ap total_size e ∙ size_parts before x [] in omega arith)
    ends (y ∷ after) e =
        let n = length_parts (y ∷ after) e in
        let c = counted.slots in
        rw (ne_eqb (suc (length before)) st.slots (λ q. omega arith))
        (ap (λ (i : ℕ). memory.cells + i)
        (start_at_lem (suc (length before)) (omega arith) ∙ ap (λ (l : List Slot). get_or (starts_from 0 l) (suc (length before)) 0) e ∙ starts_next 0 before x y after ∙ omega arith))

    module _ (after : List Slot) (e : s.slots ≡ before ++ x ∷ after) where
      pub cells_at : slice (start_at w0 (length before)) (end_at st w0 (length before)) w0 ≡ enc x.value
      cells_at =
          let a = cells_length before in
          let b = size_law x.value in
          let c = cells_length after in
          let n = ap total_size e ∙ size_parts before x after in
          let p : start_at w0 (length before) ≡ memory.cells + length (cells_of before) = begins after e ∙ omega arith in
          let q : end_at st w0 (length before) ≡ memory.cells + length (cells_of before) + length (enc x.value) = ends after e ∙ omega arith in
          rw (p, q)
          (middle w0 memory.cells (total_size s.slots) (cells_of before) (enc x.value) (cells_of after) (some_cells x.value) (omega arith)
          (h.cells ∙ ap cells_of e ∙ cells_parts before x after))

      pub slot_there : (o i : ℕ) → slot_key x ≡ o * 64 + i → Stored st w0 o i (some x.value)
      slot_there o i k =
          let n = length_parts after e in
          let c = counted.slots in
          let z = counted.cells ∙ ap total_size e ∙ size_parts before x after in
          let f = fine.cells in
          let p = begins after e in
          let q = ends after e in
          slot (length before) (omega arith)
          (key_at_lem (length before) (omega arith) ∙ ap (λ (l : List Slot). get_or (map slot_key l) (length before) 0) e
          ∙ ap (λ (l : List ℕ). get_or l (length before) 0) (map-append slot_key before (x ∷ after))
          ∙ get_or_at (map slot_key before) (slot_key x) (map slot_key after) 0 (length before) (length-map before slot_key) ∙ k)
          (omega arith) (omega arith) cells_at
          (each_head (each_right before (rw e at h.fits)))

  pub slots_stored : LowRows s.slots → (o i : ℕ) → i < 64 → Stored st w0 o i (lookup s.slots o i)
  slots_stored low o i l = by (found s.slots o i l low)
    where
      by : {v : Option Value} → Found (o * 64 + i) s.slots v → Stored st w0 o i v
      by (absent n) = no_slot (λ j m e. let c = counted.slots in let z : j < length s.slots = omega arith in no_key n j z (sym (key_at_lem j z) ∙ e))
      by (present before x after e k) = slot_there before x after e o i k
