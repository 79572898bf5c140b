-- The slot of a line that is spelled well: each answer of `put_slot`. Assumes nothing.
use mathlib.Core.Path.{◌≡◌, refl, sym, ap, ◌∙◌}
use mathlib.Core.Bool.{Bool, true, false, ◌&&◌}
use mathlib.Core.List.{List, [], ◌∷◌, ◌++◌, append-nil, append_assoc}
use Prim.Native.Nat.{ℕ, ◌+◌, ◌*◌, ◌<◌, ◌≤◌, min}
use native.Mathlib.Omega.{arith}
use borrow.Author.Rules.{rules}
use borrow.Author.Tests.{lt-ltb, le-ltb, le-leb, ltb-true}
use lib.ListN.{length, get_or, take, drop, set, length-set}
use lib.Seq.{get_or-set_same, get_or-set_other, drop-set-lt, drop-drop, take-add}
use lib.Dec.{ltb}
use Rattle.laws.specs.Lists.{each_nil, each-cons, concat}
use Rattle.laws.proofs.Lists.{length_more, each_append}
use Rattle.laws.proofs.Slices.{cut_part}
use Rattle.memory.specs.Map as memory
use Rattle.ocl.specs.Values.{Value, size, every_part}
use Rattle.sheet.specs.Lines.{value_line}
use Rattle.sheet.specs.Sheet.{Slot, Sheet, added}
use Rattle.sheet.specs.Limits.{total_size, value_within, within_limits}
use Rattle.sheet.specs.Refusals.{object_below, in_order, parts_known, calls_smaller, calls_known, suits, tree_holds}
use Rattle.sheet.proofs.SlotSizes.{size_more}
use Rattle.values.specs.Cells.{enc}
use Rattle.tables.specs.declared.Counts.{Counts}
use Rattle.tables.specs.Layout.{tab, slot_key, starts_from, cells_of, Holds, Fine, Kept, moved_next, moved_refused}
use Rattle.tables.proofs.Tables.{kept_refl, kept_set, kept_then}
use Rattle.tables.proofs.Entries.{definitions_same, holds_kept, spare_key, spare_start, tab_next, tab_more_of, open_kept}
use Rattle.tables.proofs.Steps.{over_limits, out_of_order, unknown_part, not_suited, steps_on}
use Rattle.slots.specs.Slots.{SmallRows, ValueAt, SlotAnswer, slot_counts, SlotTook}
use Rattle.std.specs.Prelude.{Ok, Err}
use Rattle.memory.specs.declared.refusals.Refusal.TheVariants.{OutOfRow, OverMeasure, UnknownPart, WrongThread}

-- ---- the tables with one slot more

starts_more : (n : ℕ) (xs : List Slot) (x : Slot) → starts_from n (xs ++ (x ∷ [])) ≡ starts_from n xs ++ ((n + total_size xs) ∷ [])
unfolding starts_from total_size
starts_more n [] x = ap (λ (m : ℕ). m ∷ []) (omega arith)
starts_more n (y ∷ xs) x = ap (λ (l : List ℕ). n ∷ l) (starts_more (n + size y.value) xs x ∙ ap (λ (m : ℕ). starts_from (n + size y.value) xs ++ (m ∷ [])) (omega arith))

cells_more : (xs : List Slot) (x : Slot) → cells_of (xs ++ (x ∷ [])) ≡ cells_of xs ++ enc x.value
unfolding cells_of concat
cells_more [] x = append-nil (enc x.value)
cells_more (y ∷ xs) x = ap (λ (l : List ℕ). enc y.value ++ l) (cells_more xs x) ∙ sym (append_assoc (enc y.value) (cells_of xs) (enc x.value))

module _ (st : Counts) (k o a n : ℕ) (w0 w1 : List ℕ) (room : 8192 ≤ length w0) (fine : Fine st) (few : st.slots < 1024) (fits : st.cells + n ≤ 2048) where
  abbrev key : ℕ
  key = o * 64 + a

  abbrev keyed : List ℕ
  keyed = set w0 (memory.keys + st.slots) key

  abbrev stored : List ℕ
  stored = set keyed (memory.starts + st.slots) st.cells

  kept_words : Kept w0 stored
  kept_words = kept_then (kept_set w0 (memory.keys + st.slots) key (omega arith)) (kept_set keyed (memory.starts + st.slots) st.cells (omega arith))

  new_cells : {v : Value} → ValueAt st w0 n v → take n (drop st.cells (drop memory.cells stored)) ≡ enc v
  new_cells at =
      ap (take n) (drop-drop st.cells memory.cells stored ∙ drop-set-lt (memory.cells + st.cells) keyed (memory.starts + st.slots) st.cells (omega arith) ∙ drop-set-lt (memory.cells + st.cells) w0 (memory.keys + st.slots) key (omega arith))
      ∙ sym (cut_part (memory.cells + st.cells) n w0 (omega arith))
      ∙ at.lies

  key_there : get_or stored (memory.keys + st.slots) 0 ≡ key
  key_there = get_or-set_other keyed (memory.starts + st.slots) (memory.keys + st.slots) st.cells 0 (λ e. omega arith) ∙ get_or-set_same w0 (memory.keys + st.slots) key 0 (omega arith)

  start_there : get_or stored (memory.starts + st.slots) 0 ≡ st.cells
  start_there = get_or-set_same keyed (memory.starts + st.slots) st.cells 0 (rw (length-set w0 (memory.keys + st.slots) key) (omega arith))

  long : length stored ≡ length w0
  long = length-set keyed (memory.starts + st.slots) st.cells ∙ length-set w0 (memory.keys + st.slots) key

  slot_held : (s : Sheet) (v : Value) → Holds st w0 w1 s → ValueAt st w0 n v → n ≡ size v → Holds (slot_counts st n) stored w1 (added s k (value_line o a v))
  unfolding added slot_key
  slot_held s v h at e =
      let x : Slot = record { object = o; row = a; value = v } in
      let g = holds_kept st.cells (spare_start fine h.counted few) (holds_kept key (spare_key fine h.counted few) h) in
      let m = h.counted.slots in
      let c = h.counted.cells in
      let l = long in
      record {
        counted = record {
          block = refl;
          classes = h.counted.classes;
          rows = h.counted.rows;
          objects = h.counted.objects;
          slots = let z = length_more s.slots x in omega arith;
          cells = let z = size_more s.slots x in omega arith;
          nodes = h.counted.nodes;
          definitions = h.counted.definitions;
          rules = h.counted.rules;
        };
        tables = record {
          parents = g.tables.parents;
          smaller = g.tables.smaller;
          owners = g.tables.owners;
          names = g.tables.names;
          types = g.tables.types;
          objects = g.tables.objects;
          keys = tab_more_of slot_key memory.keys stored s.slots x (omega arith) g.tables.keys (ap (λ (i : ℕ). get_or stored (memory.keys + i) 0) (sym m) ∙ key_there);
          starts =
              ap (λ (i : ℕ). tab memory.starts i stored) (length_more s.slots x)
              ∙ tab_next memory.starts (length s.slots) stored (omega arith)
              ∙ ap (λ (t : List ℕ). t ++ (get_or stored (memory.starts + length s.slots) 0 ∷ [])) g.tables.starts
              ∙ ap (λ (i : ℕ). starts_from 0 s.slots ++ (i ∷ [])) (ap (λ (i : ℕ). get_or stored (memory.starts + i) 0) (sym m) ∙ start_there ∙ c ∙ omega arith)
              ∙ sym (starts_more 0 s.slots x);
          cells =
              ap (λ (i : ℕ). tab memory.cells i stored) (size_more s.slots x)
              ∙ take-add (total_size s.slots) (size v) (drop memory.cells stored)
              ∙ ap (λ (t : List ℕ). t ++ take (size v) (drop (total_size s.slots) (drop memory.cells stored))) g.tables.cells
              ∙ ap (λ (i : ℕ). cells_of s.slots ++ take i (drop (total_size s.slots) (drop memory.cells stored))) (sym e)
              ∙ ap (λ (i : ℕ). cells_of s.slots ++ take n (drop i (drop memory.cells stored))) (sym c)
              ∙ ap (λ (t : List ℕ). cells_of s.slots ++ t) (new_cells at)
              ∙ sym (cells_more s.slots x);
          fits = each_append g.tables.fits (each-cons at.fits each_nil);
          contexts = g.tables.contexts;
        };
        definitions = definitions_same refl refl g.definitions;
        rules = record { bodies = g.rules.bodies; roots = g.rules.roots; lines = g.rules.lines };
        current = open_kept refl refl refl refl g.current;
      }

  more_fine : Fine (slot_counts st n)
  more_fine = search rules

-- ---- limits

pub same_number : {o p : ℕ} → o ≡ min p 1000000 → o < 96 → p ≡ o
same_number e h = omega arith

pub same_row : {a q : ℕ} → a ≡ min q 1000000 → a < 64 → q ≡ a
same_row e h = omega arith

second : (x y z : Bool) → x && y && z ≡ true → y ≡ true
second true true z e = refl
second true false z e = absurd (let y : ◌≡◌ {A = ℕ} 0 1 = cc in omega arith)
second false y z e = absurd (let y : ◌≡◌ {A = ℕ} 0 1 = cc in omega arith)

known_row : (st : Counts) {w0 w1 : List ℕ} {s : Sheet} (o a : ℕ) (v : Value) → Holds st w0 w1 s → parts_known s (value_line o a v) ≡ true → a < st.rows
unfolding parts_known
known_row st {s = s} o a v g e = let l = ltb-true a (length s.rows) (second (ltb o (length s.objects)) _ (every_part (object_below (length s.objects)) v) e) in let z = g.counted.rows in omega arith

module _ (st : Counts) (k : ℕ) {o a n : ℕ} (w0 w1 : List ℕ) where
  pub slot_big_object : 96 ≤ o → SlotTook st k o a n (Err OverMeasure) w0 w1 w0
  unfolding within_limits
  slot_big_object h = record {
    is = λ s p q v g m at e w eo ea. rw (over_limits s k (value_line p q v) (rw (le-ltb p 96 (omega arith)))) moved_refused;
    kept0 = kept_refl w0;
  }

  module _ (object : o < 96) where
    pub slot_big_row : 64 ≤ a → SlotTook st k o a n (Err OverMeasure) w0 w1 w0
    unfolding within_limits
    slot_big_row h = record {
      is = λ s p q v g m at e w eo ea. rw (over_limits s k (value_line p q v) (rw (lt-ltb p 96 (omega arith), le-ltb q 64 (omega arith)))) moved_refused;
      kept0 = kept_refl w0;
    }

    module _ (row : a < 64) where
      pub slot_full : 1024 ≤ st.slots → SlotTook st k o a n (Err OverMeasure) w0 w1 w0
      unfolding within_limits
      slot_full h = record {
        is = λ s p q v g m at e w eo ea.
            rw (over_limits s k (value_line p q v) (rw (lt-ltb p 96 (omega arith), lt-ltb q 64 (omega arith), w, le-ltb (length s.slots) 1024 (let z = g.counted.slots in omega arith)))) moved_refused;
        kept0 = kept_refl w0;
      }

      module _ (few : st.slots < 1024) (fits : st.cells + n ≤ 2048) where
        within : (s : Sheet) (v : Value) → Holds st w0 w1 s → n ≡ size v → value_within v ≡ true → within_limits s (value_line o a v) ≡ true
        unfolding within_limits
        within s v g e w =
            rw (lt-ltb o 96 object, lt-ltb a 64 row, w, lt-ltb (length s.slots) 1024 (let z = g.counted.slots in omega arith), le-leb (total_size s.slots + size v) 2048 (let z = g.counted.cells in omega arith))

        module _ {b : Bool} (order : SlotAnswer in_order st w0 o a n b) where
          pub slot_disorder : b ≡ false → SlotTook st k o a n (Err OutOfRow) w0 w1 w0
          slot_disorder z = record {
            is = λ s p q v g m at e w eo ea.
                rw (same_number eo object, same_row ea row) (rw (out_of_order s k (value_line o a v) (within s v g e w) (sym (order.is w1 s v g m at) ∙ z)) moved_refused);
            kept0 = kept_refl w0;
          }

          module _ (sorted : b ≡ true) {c : Bool} (known : SlotAnswer parts_known st w0 o a n c) where
            pub slot_unknown : c ≡ false → SlotTook st k o a n (Err UnknownPart) w0 w1 w0
            slot_unknown z = record {
              is = λ s p q v g m at e w eo ea.
                  rw (same_number eo object, same_row ea row) (rw (unknown_part s k (value_line o a v) (within s v g e w) (sym (order.is w1 s v g m at) ∙ sorted) (sym (known.is w1 s v g m at) ∙ z)) moved_refused);
              kept0 = kept_refl w0;
            }

            module _ (there : c ≡ true) {d : Bool} (suit : a < st.rows → SlotAnswer suits st w0 o a n d) where
              a_row : {s : Sheet} (v : Value) → Holds st w0 w1 s → SmallRows s → ValueAt st w0 n v → a < st.rows
              a_row {s} v g m at = known_row st o a v g (sym (known.is w1 s v g m at) ∙ there)

              pub slot_unsuited : d ≡ false → SlotTook st k o a n (Err WrongThread) w0 w1 w0
              unfolding calls_smaller calls_known
              slot_unsuited z = record {
                is = λ s p q v g m at e w eo ea.
                    rw (same_number eo object, same_row ea row) (rw (not_suited s k (value_line o a v) refl refl (within s v g e w) (sym (order.is w1 s v g m at) ∙ sorted) (sym (known.is w1 s v g m at) ∙ there) (sym ((suit (a_row v g m at)).is w1 s v g m at) ∙ z)) moved_refused);
                kept0 = kept_refl w0;
              }

              pub slot_taken : (room : 8192 ≤ length w0) (fine : Fine st) {v0 : List ℕ} {su : Counts} → d ≡ true → su ≡ slot_counts st n
                  → v0 ≡ set (set w0 (memory.keys + st.slots) (o * 64 + a)) (memory.starts + st.slots) st.cells → SlotTook st k o a n (Ok su) w0 w1 v0
              unfolding calls_smaller calls_known tree_holds
              slot_taken room fine z ce ve = rw (ce, ve) (record {
                is = λ s p q v g m at e w eo ea.
                    rw (same_number eo object, same_row ea row)
                    (rw (steps_on s k (value_line o a v) refl refl (within s v g e w) (sym (order.is w1 s v g m at) ∙ sorted) (sym (known.is w1 s v g m at) ∙ there) (sym ((suit (a_row v g m at)).is w1 s v g m at) ∙ z) refl)
                    (moved_next {st = slot_counts st n} (more_fine st k o a n w0 w1 room fine few fits) (slot_held st k o a n w0 w1 room fine few fits s v g at e)));
                kept0 = kept_words st k o a n w0 w1 room fine few fits;
              })
