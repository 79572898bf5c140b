-- What the tables say of a V line: the answers of `read_into`, `after_last`, `slot_in_order`, `slot_known` and `slot_suits`. Assumes nothing.
use mathlib.Core.Path.{◌≡◌, refl, sym, ap, ◌∙◌}
use mathlib.Core.Bool.{Bool, true, false, ◌&&◌, ◌||◌}
use mathlib.Core.List.{List, [], ◌∷◌, ◌++◌, map, append_assoc}
use Prim.Native.Nat.{ℕ, zero, suc, ◌+◌, ◌*◌, ◌-◌, ◌<◌, ◌≤◌}
use native.Mathlib.Omega.{arith}
use native.Mathlib.Decide.{dec_lt}
use lib.ListN.{length, get_or, get_elem?, take, drop, length-append}
use lib.Seq.{slice, take_at, drop_at, take-take, length-take-le}
use lib.Dec.{eqb, ltb}
use borrow.Author.Tests.{lt-ltb, le-ltb, le-leb, lt-leb, eq-eqb, ne_eqb}
use borrow.Rule.Slice.PartMut.{put_mid, post_of, take_put, drop_put}
use Rattle.laws.specs.Lists.{Each, each-cons}
use Rattle.laws.proofs.Slices.{cut_part}
use Rattle.laws.proofs.Elements.{get_d_map}
use Rattle.memory.specs.Map as memory
use Rattle.ocl.specs.Types.{class, Ty}
use Rattle.ocl.specs.Values.{Value, every_part}
use Rattle.ocl.specs.Model.{Row, is_a, belongs}
use Rattle.sheet.specs.Text.{Bytes}
use Rattle.sheet.specs.Sheet.{Slot, Sheet, no_row, model_of}
use Rattle.sheet.specs.Refusals.{after_slots, object_below, block_of, numbered, in_order, parts_known, suits}
use Rattle.types.specs.Flat.{parents_in, ty_of}
use Rattle.types.specs.declared.FlatType.{FlatType}
use Rattle.types.specs.Word.{type_in}
use Rattle.values.specs.Cells.{enc}
use Rattle.tables.specs.declared.Counts.{Counts}
use Rattle.tables.specs.Layout.{tab, slot_key, Holds, Fine}
use Rattle.tables.proofs.Tables.{tab_length, tab_at, parents_held}
use Rattle.tables.proofs.Entries.{tab_next}
use Rattle.slots.specs.Machine.{ReadIs}
use Rattle.slots.specs.Order.{OrderIs}
use Rattle.slots.specs.Objects.{KnownIs}
use Rattle.slots.specs.Suits.{Seen, ObjectSuits, BelongsAt}
use Rattle.slots.specs.Slots.{SmallRows, ReadInto, last_before, ValueAt, SlotAnswer}
use Rattle.std.specs.Prelude.{Result}
use Rattle.memory.specs.declared.refusals.Misread.{Misread}

-- ---- the cells behind the first n

module _ (f : Bytes) (n : ℕ) (B ys : List ℕ) (h : n ≤ 2048) (room : 8192 ≤ length B) (long : length ys ≡ memory.cells_end - (memory.cells + n)) where
  part_there : slice (memory.cells + n) memory.cells_end (put_mid (memory.cells + n) (memory.cells_end - (memory.cells + n)) B ys) ≡ ys
  part_there =
      let a = length-take-le (memory.cells + n) B (omega arith) in
      let b = length-append (take (memory.cells + n) B) ys in
      ap (λ (l : List ℕ). drop (memory.cells + n) (take memory.cells_end l)) (sym (append_assoc (take (memory.cells + n) B) ys (post_of (memory.cells + n) (memory.cells_end - (memory.cells + n)) B)))
      ∙ ap (drop (memory.cells + n)) (take_at (take (memory.cells + n) B ++ ys) (post_of (memory.cells + n) (memory.cells_end - (memory.cells + n)) B) memory.cells_end (omega arith))
      ∙ drop_at (take (memory.cells + n) B) ys (memory.cells + n) a

  pub read_into : {r : Result ℕ Misread} → ReadIs f ys r → ReadInto f n B (put_mid (memory.cells + n) (memory.cells_end - (memory.cells + n)) B ys) r
  read_into is = record {
    front = take_put (memory.cells + n) (memory.cells_end - (memory.cells + n)) B ys (omega arith);
    back = drop_put (memory.cells + n) memory.cells_end B ys (omega arith) (omega arith) long;
    is = rw part_there is;
  }

-- ---- the last slot

pub after_none : (w : List ℕ) {n : ℕ} (key : ℕ) → n ≡ 0 → true ≡ last_before w n key
unfolding last_before
after_none w key e = rw e

pub after_some : (w : List ℕ) (n key : ℕ) → (n ≡ 0 → ⊥) → ltb (get_or w (memory.keys + n - 1) 0) key ≡ last_before w n key
unfolding last_before
after_some w zero key h = absurd (h refl)
after_some w (suc n) key h = ap (λ (i : ℕ). ltb (get_or w i 0) key) (omega arith)

-- the last of some keys is below this one
unfoldable keys_before : List ℕ → ℕ → Bool
keys_before [] key = true
keys_before (k ∷ []) key = ltb k key
keys_before (k ∷ l ∷ ks) key = keys_before (l ∷ ks) key

keys_last : (ks : List ℕ) (k key : ℕ) → keys_before (ks ++ (k ∷ [])) key ≡ ltb k key
unfolding keys_before
keys_last [] k key = refl
keys_last (l ∷ []) k key = refl
keys_last (l ∷ m ∷ ks) k key = keys_last (m ∷ ks) k key

last_keys : (w : List ℕ) (n key : ℕ) → memory.keys + n ≤ length w → last_before w n key ≡ keys_before (tab memory.keys n w) key
unfolding last_before keys_before
last_keys w zero key h = refl
last_keys w (suc n) key h = sym (ap (λ (l : List ℕ). keys_before l key) (tab_next memory.keys n w (omega arith)) ∙ keys_last (tab memory.keys n w) (get_or w (memory.keys + n) 0) key)

one_key : (x : Slot) (o a : ℕ) → x.row < 64 → a < 64 → ltb (slot_key x) (o * 64 + a) ≡ ltb x.object o || eqb x.object o && ltb x.row a
unfolding slot_key
one_key x o a h l = go (dec_lt x.object o) (dec_lt o x.object) (dec_lt x.row a)
  where
    go : Dec (x.object < o) → Dec (o < x.object) → Dec (x.row < a) → ltb (x.object * 64 + x.row) (o * 64 + a) ≡ ltb x.object o || eqb x.object o && ltb x.row a
    go (yes p) q r = rw (lt-ltb (x.object * 64 + x.row) (o * 64 + a) (omega arith), lt-ltb x.object o p)
    go (no p) (yes q) r = rw (le-ltb (x.object * 64 + x.row) (o * 64 + a) (omega arith), le-ltb x.object o (omega arith), ne_eqb x.object o (λ e. omega arith))
    go (no p) (no q) (yes r) = rw (lt-ltb (x.object * 64 + x.row) (o * 64 + a) (omega arith), le-ltb x.object o (omega arith), eq-eqb x.object o (omega arith), lt-ltb x.row a r)
    go (no p) (no q) (no r) = rw (le-ltb (x.object * 64 + x.row) (o * 64 + a) (omega arith), le-ltb x.object o (omega arith), eq-eqb x.object o (omega arith), le-ltb x.row a (omega arith))

slots_keys : (xs : List Slot) (o a : ℕ) → a < 64 → Each (λ (x : Slot). x.row < 64) xs → keys_before (map slot_key xs) (o * 64 + a) ≡ after_slots xs o a
unfolding keys_before after_slots
slots_keys [] o a l e = refl
slots_keys (x ∷ []) o a l (each-cons h e) = one_key x o a h l
slots_keys (x ∷ y ∷ xs) o a l (each-cons h e) = slots_keys (y ∷ xs) o a l e

last_slot : {st : Counts} {w0 w1 : List ℕ} {s : Sheet} (o a : ℕ) → 8192 ≤ length w0 → Fine st → a < 64 → Holds st w0 w1 s → SmallRows s → last_before w0 st.slots (o * 64 + a) ≡ after_slots s.slots o a
last_slot {st} {w0} {w1} {s} o a room fine l h m =
    last_keys w0 st.slots (o * 64 + a) (let z = fine.slots in omega arith)
    ∙ ap (λ (n : ℕ). keys_before (tab memory.keys n w0) (o * 64 + a)) h.counted.slots
    ∙ ap (λ (k : List ℕ). keys_before k (o * 64 + a)) h.tables.keys
    ∙ slots_keys s.slots o a l m.rows

-- ---- order

the_cells : (w : List ℕ) (a n : ℕ) → a ≤ length w → slice a (a + n) w ≡ take n (drop a w)
the_cells w a n h = cut_part a n w h

after_is : {st : Counts} {w0 w1 : List ℕ} {s : Sheet} (o a : ℕ) {b : Bool} → 8192 ≤ length w0 → Fine st → a < 64 → b ≡ last_before w0 st.slots (o * 64 + a) → Holds st w0 w1 s → SmallRows s → after_slots s.slots o a ≡ b
after_is o a room fine small last h m = sym (last ∙ last_slot o a room fine small h m)

-- the part of the words that the code takes
pub part_is : (w : List ℕ) (x : ℕ) {c : ℕ} (n : ℕ) → x ≡ c → take (memory.cells + x + n - (memory.cells + x)) (drop (memory.cells + x) w) ≡ take n (drop (memory.cells + c) w)
part_is w x {c} n e = let z : memory.cells + x + n - (memory.cells + x) ≡ n = omega arith in ap (λ (i : ℕ). take i (drop (memory.cells + x) w)) z ∙ ap (λ (i : ℕ). take n (drop (memory.cells + i) w)) e

pub parents_part : (w : List ℕ) (x : ℕ) {c : ℕ} → x ≡ c → take x w ≡ tab memory.parents c w
parents_part w x e = ap (λ (i : ℕ). take i w) e

pub objects_part : (w : List ℕ) (x : ℕ) {c : ℕ} → x ≡ c → take (memory.objects + x - 256) (drop 256 w) ≡ tab memory.objects c w
objects_part w x e = ap (λ (i : ℕ). take i (drop 256 w)) (let z : 256 + x - 256 ≡ x = omega arith in z ∙ e)

module _ {st : Counts} {w0 : List ℕ} {o a n : ℕ} where
  pub order_block : 3 < st.block → SlotAnswer in_order st w0 o a n false
  unfolding in_order block_of
  order_block b = record { is = λ w1 s v h m at. sym (rw (lt-leb s.block 3 (let e = h.counted.block in omega arith))) }

  module _ (room : 8192 ≤ length w0) (fine : Fine st) (small : a < 64) (block : st.block ≤ 3) {b : Bool} (last : b ≡ last_before w0 st.slots (o * 64 + a)) where
    pub order_slot : b ≡ false → SlotAnswer in_order st w0 o a n false
    unfolding in_order block_of numbered
    order_slot z = record { is = λ w1 s v h m at. sym (rw (le-leb s.block 3 (let e = h.counted.block in omega arith), after_is o a room fine small last h m, z)) }

    pub order_value : {r : Bool} {C : List ℕ} → b ≡ true → memory.cells + st.cells ≤ length w0 → C ≡ take n (drop (memory.cells + st.cells) w0) → OrderIs C r → SlotAnswer in_order st w0 o a n r
    unfolding in_order block_of numbered
    order_value z l c i = record {
      is = λ w1 s v h m at.
          i.is v at.fits (c ∙ sym (the_cells w0 (memory.cells + st.cells) n l) ∙ at.lies)
          ∙ sym (rw (le-leb s.block 3 (let e = h.counted.block in omega arith), after_is o a room fine small last h m, z));
    }

-- ---- parts

module _ {st : Counts} {w0 : List ℕ} {o a n : ℕ} where
  pub known_no_object : st.objects ≤ o → SlotAnswer parts_known st w0 o a n false
  unfolding parts_known
  known_no_object b = record { is = λ w1 s v h m at. sym (rw (le-ltb o (length s.objects) (let e = h.counted.objects in omega arith))) }

  module _ (object : o < st.objects) where
    pub known_no_row : st.rows ≤ a → SlotAnswer parts_known st w0 o a n false
    unfolding parts_known
    known_no_row b = record {
      is = λ w1 s v h m at. sym (rw (lt-ltb o (length s.objects) (let e = h.counted.objects in omega arith), le-ltb a (length s.rows) (let e = h.counted.rows in omega arith)));
    }

    pub known_value : {r : Bool} {C : List ℕ} → a < st.rows → memory.cells + st.cells ≤ length w0 → C ≡ take n (drop (memory.cells + st.cells) w0) → KnownIs C st.objects r → SlotAnswer parts_known st w0 o a n r
    unfolding parts_known
    known_value b l c i = record {
      is = λ w1 s v h m at.
          i.is v at.fits (c ∙ sym (the_cells w0 (memory.cells + st.cells) n l) ∙ at.lies)
          ∙ ap (λ (c : ℕ). every_part (object_below c) v) h.counted.objects
          ∙ sym (rw (lt-ltb o (length s.objects) (let e = h.counted.objects in omega arith), lt-ltb a (length s.rows) (let e = h.counted.rows in omega arith)));
    }

-- ---- the row's class and type

module _ {st : Counts} {w0 w1 : List ℕ} {s : Sheet} (room : 8192 ≤ length w0) (fine : Fine st) (h : Holds st w0 w1 s) {a : ℕ} (known : a < st.rows) where
  there : a < length s.rows
  there = let e = h.counted.rows in omega arith

  owner_at : get_or w0 (memory.owners + a) 0 ≡ (get_or s.rows a no_row).owner
  owner_at =
      sym (tab_at 64 (length s.rows) w0 a there)
      ∙ ap (λ (l : List ℕ). get_or l a 0) h.tables.owners
      ∙ get_d_map (λ (r : Row). r.owner) s.rows a no_row 0 there

  type_at : type_in (get_or w0 (memory.types + a) 0) ≡ (get_or s.rows a no_row).type
  type_at =
      ap type_in (sym (tab_at 192 (length s.rows) w0 a there))
      ∙ sym (get_d_map type_in (tab memory.types (length s.rows) w0) a 0 (type_in 0) (rw (tab_length 192 (length s.rows) w0 (let e = h.counted.rows in let f = fine.rows in omega arith)) there))
      ∙ ap (λ (l : List Ty). get_or l a (type_in 0)) h.tables.types
      ∙ get_d_map (λ (r : Row). r.type) s.rows a no_row (type_in 0) there

seen : {st : Counts} {w0 w1 : List ℕ} {s : Sheet} {P Q : List ℕ} → Holds st w0 w1 s → P ≡ tab memory.parents st.classes w0 → Q ≡ tab memory.objects st.objects w0 → Seen P Q (model_of s)
unfolding model_of
seen {st} {w0} {w1} {s} h p q = record {
  parent = parents_held h.tables st.classes h.counted.classes ∙ ap parents_in (sym p);
  class_of = ap get_elem? (sym (q ∙ ap (λ (n : ℕ). tab memory.objects n w0) h.counted.objects ∙ h.tables.objects));
}

module _ {st : Counts} {w0 P Q : List ℕ} {o a i : ℕ} (room : 8192 ≤ length w0) (fine : Fine st) (p : P ≡ tab memory.parents st.classes w0) (q : Q ≡ tab memory.objects st.objects w0) (e : i ≡ a)
    {b : Bool} (ob : ObjectSuits P Q o (get_or w0 (memory.owners + i) 0) b) where
  pub its_object : {w1 : List ℕ} {s : Sheet} → a < st.rows → Holds st w0 w1 s → b ≡ is_a (model_of s) o (class ((model_of s).row a).owner)
  unfolding model_of
  its_object {w1} {s} known h = ob.is (model_of s) (seen h p q) ∙ ap (λ (c : ℕ). is_a (model_of s) o (class c)) (ap (λ (j : ℕ). get_or w0 (memory.owners + j) 0) e ∙ owner_at room fine h known)

  pub suits_object : {n : ℕ} → b ≡ false → a < st.rows → SlotAnswer suits st w0 o a n false
  unfolding suits
  suits_object z known = record { is = λ w1 s v h m at. sym (ap (λ (c : Bool). c && belongs (model_of s) ((model_of s).row a).type v) (sym (its_object known h) ∙ z)) }

  pub suits_value : {n : ℕ} {r : Bool} {t : FlatType} {C : List ℕ} → b ≡ true → C ≡ take n (drop (memory.cells + st.cells) w0) → memory.cells + st.cells + n ≤ length w0 → ty_of t ≡ type_in (get_or w0 (memory.types + i) 0)
      → BelongsAt P Q C 0 n t r → a < st.rows → SlotAnswer suits st w0 o a n r
  unfolding suits model_of
  suits_value {n} {r} {t} {C} z ce l te be known = record { is = λ w1 s v h m at. made w1 s v h at }
    where
      made : (w1 : List ℕ) (s : Sheet) (v : Value) → Holds st w0 w1 s → ValueAt st w0 n v → r ≡ (is_a (model_of s) o (class ((model_of s).row a).owner) && belongs (model_of s) ((model_of s).row a).type v)
      made w1 s v h at =
          let x : slice 0 n C ≡ enc v = ap (take n) ce ∙ take-take n n (drop (memory.cells + st.cells) w0) (omega arith) ∙ sym (the_cells w0 (memory.cells + st.cells) n (omega arith)) ∙ at.lies in
          let y : ty_of t ≡ ((model_of s).row a).type = te ∙ ap (λ (j : ℕ). type_in (get_or w0 (memory.types + j) 0)) e ∙ type_at room fine h known in
          be.is (model_of s) v (seen h p q) at.fits x
          ∙ ap (λ (u : Ty). belongs (model_of s) u v) y
          ∙ ap (λ (c : Bool). c && belongs (model_of s) ((model_of s).row a).type v) (sym z ∙ its_object known h)
