-- The slots of a board, found in its words one by one, and those before and after a key. Assumes nothing.
use mathlib.Core.Path.{◌≡◌, refl, sym, ap, ◌∙◌, subst}
use mathlib.Core.Bool.{Bool, true, false, ◌&&◌, ◌||◌, true≢false}
use mathlib.Core.List.{List, [], ◌∷◌, ◌++◌, map, map-append, append_assoc, append-nil}
use Prim.Native.Nat.{ℕ, suc, ◌+◌, ◌*◌, ◌<◌, ◌≤◌}
use native.Mathlib.Omega.{arith}
use native.Mathlib.Decide.{dec_lt}
use native.Mathlib.Numerals.{add-one}
use borrow.Author.Tests.{eq-eqb, ne_eqb, lt-ltb, le-ltb, eqb-true, eqb-false, ltb-true, ltb-false}
use lib.ListN.{length, get_or, length-append, length-map}
use lib.Seq.{slice, get_or_at}
use lib.Dec.{T, eqb, leb, leb→le, ltb, ltb→lt}
use Rattle.std.specs.Prelude.{if◌then◌else◌}
use Rattle.laws.specs.Lists.{Each}
use Rattle.laws.proofs.Tests.{and_l, and_r, test_true}
use Rattle.laws.proofs.Lists.{each_head, each_imp, each_right}
use Rattle.memory.specs.Map as memory
use Rattle.ocl.specs.Values.{Value, size, every_part}
use Rattle.sheet.specs.Sheet.{Slot, Sheet, empty}
use Rattle.sheet.specs.Limits.{total_size, part_within, nesting, value_within}
use Rattle.sheet.proofs.Good.{good_empty}
use Rattle.board.specs.Edits.{comes_before, slots_before, slots_after, with_slots, has_room}
use Rattle.board.proofs.Facts.{Fact}
use Rattle.sheet.proofs.SlotSizes.{size_append}
use Rattle.values.specs.Cells.{enc, Fits}
use Rattle.values.proofs.Encoding.{size_law, some_cells, same_cells}
use Rattle.tables.specs.declared.Counts.{Counts}
use Rattle.tables.specs.Layout.{slot_key, Fine, HoldsTables, Counted}
use Rattle.tables.specs.Stored.{end_at}
use Rattle.slots.proofs.LimitLaws.{within_fits}
use Rattle.rules.proofs.Slots.{key_at_lem, begins, ends, cells_at}
use Rattle.board_words.specs.Layout.{SlotsLie}
use Rattle.replay.specs.Slots.{end_in, SlotAt, SlotsAt, none_left, one_more, FirstFrom, after_in}
use Rattle.replay.specs.Replays.{Parted}

-- ---- a slot by its number

slot_fits : (v : Value) → T (value_within v) → Fits v
unfolding value_within
slot_fits v t =
    let a = and_l (every_part part_within v && leb (size v) 128) (leb (nesting v) 3) t in
    within_fits v (and_l (every_part part_within v) (leb (size v) 128) a) (let l = leb→le (size v) 128 (and_r (every_part part_within v) (leb (size v) 128) a) in omega arith)

module _ (words : List ℕ) (xs : List Slot) (lies : SlotsLie words xs) (room : T (has_room xs)) (s : Sheet) (facts : Each (Fact s) xs) where
  abbrev counts : Counts
  counts = record {
    block = 3;
    classes = 0;
    rows = 0;
    objects = 0;
    slots = get_or words 0 0;
    cells = get_or words 1 0;
    nodes = 0;
    definitions = 0;
    rules = 0;
    «open» = 0;
    context = 0;
    result = 0;
    first = 0;
  }

  counted : Counted counts (with_slots empty 3 xs)
  unfolding with_slots empty
  counted = record { block = refl; classes = refl; rows = refl; objects = refl; slots = lies.count; cells = lies.size; nodes = refl; definitions = refl; rules = refl }

  fine : Fine counts
  unfolding has_room
  fine =
      let n = leb→le (length xs) 1024 (and_l (leb (length xs) 1024) (leb (total_size xs) 2048) room) in
      let m = leb→le (total_size xs) 2048 (and_r (leb (length xs) 1024) (leb (total_size xs) 2048) room) in
      record {
        classes = omega arith;
        rows = omega arith;
        objects = omega arith;
        slots = omega (arith, lies.count);
        cells = omega (arith, lies.size);
        nodes = omega arith;
        definitions = omega arith;
        rules = omega arith;
        first = omega arith;
        context = omega arith;
      }

  fact_fits : (x : Slot) → Fact s x → Fits x.value
  fact_fits x f = slot_fits x.value (and_r (ltb x.object 96 && ltb x.row 64) (value_within x.value) f.low)

  held : HoldsTables words (with_slots empty 3 xs)
  unfolding with_slots empty
  held = record {
    parents = refl;
    smaller = good_empty.parents;
    owners = refl;
    names = refl;
    types = refl;
    objects = refl;
    keys = lies.keys;
    starts = lies.starts;
    cells = lies.cells;
    fits = each_imp fact_fits facts;
    contexts = refl;
  }

  end_is : (j : ℕ) → memory.cells + end_in words (get_or words 0 0) j ≡ end_at counts words j
  unfolding end_in
  end_is j = rw (add-one j) (by (eqb (suc j) (get_or words 0 0)))
    where
      by : (b : Bool) → memory.cells + (if b then get_or words 1 0 else get_or words (memory.starts + suc j) 0) ≡ (if b then memory.cells + get_or words 1 0 else memory.cells + get_or words (memory.starts + suc j) 0)
      by true = refl
      by false = refl

  module _ (before : List Slot) (x : Slot) (after : List Slot) (e : xs ≡ before ++ x ∷ after) where
    many : get_or words 0 0 ≡ length before + suc (length after)
    many = lies.count ∙ ap length e ∙ length-append before (x ∷ after)

    fact : Fact s x
    fact = each_head (each_right before (subst (Each (Fact s)) e facts))

    slot_at : SlotAt words (get_or words 0 0) (length before) x
    unfolding with_slots slot_key total_size
    slot_at =
        let f = fact in
        let o = ltb→lt x.object 96 (and_l (ltb x.object 96) (ltb x.row 64) (and_l (ltb x.object 96 && ltb x.row 64) (value_within x.value) f.low)) in
        let a = ltb→lt x.row 64 (and_r (ltb x.object 96) (ltb x.row 64) (and_l (ltb x.object 96 && ltb x.row 64) (value_within x.value) f.low)) in
        let p = begins fine counted held before x after e in
        let q = end_is (length before) ∙ ends fine counted held before x after e in
        let c = cells_at fine counted held before x after e in
        let n = many in
        let m = fine.cells in
        let z : total_size xs ≡ total_size before + (size x.value + total_size after) = ap total_size e ∙ size_append before (x ∷ after) in
        let v = size_law x.value in
        let w = some_cells x.value in
        record {
          row = a;
          key = key_at_lem fine counted held (length before) (omega (arith, lies.count)) ∙ ap (λ (l : List Slot). get_or (map slot_key l) (length before) 0) e
              ∙ ap (λ (l : List ℕ). get_or l (length before) 0) (map-append slot_key before (x ∷ after))
              ∙ get_or_at (map slot_key before) (slot_key x) (map slot_key after) 0 (length before) (length-map before slot_key);
          low = omega arith;
          fits = fact_fits x f;
          within = test_true (value_within x.value) (and_r (ltb x.object 96 && ltb x.row 64) (value_within x.value) f.low);
          up = omega arith;
          room = omega (arith, lies.size);
          cells = subst (λ i. slice (memory.cells + get_or words (memory.starts + length before) 0) i words ≡ enc x.value) (sym (end_is (length before))) c;
        }

  slots_from : (before rest : List Slot) → xs ≡ before ++ rest → SlotsAt words (get_or words 0 0) (get_or words 0 0) (length before) rest
  slots_from before [] e = none_left (sym (lies.count ∙ ap length (e ∙ append-nil before)))
  slots_from before (x ∷ rest) e =
      one_more {i = length before} (let n = many before x rest e in omega arith) (slot_at before x rest e)
      (subst (λ i. SlotsAt words (get_or words 0 0) (get_or words 0 0) i rest) (length-append before (x ∷ []) ∙ omega arith) (slots_from (before ++ (x ∷ [])) rest (e ∙ sym (append_assoc before (x ∷ []) rest))))

  pub slots_at : SlotsAt words (get_or words 0 0) (get_or words 0 0) 0 xs
  slots_at = slots_from [] xs refl

-- ---- only one slot is there

slot_same : {words : List ℕ} {n j : ℕ} {x y : Slot} → SlotAt words n j x → SlotAt words n j y → x ≡ y
unfolding slot_key
slot_same {x = x} {y} a b =
    let k : x.object * 64 + x.row ≡ y.object * 64 + y.row = sym a.key ∙ b.key in
    let p = a.row in
    let q = b.row in
    three (let z : x.object ≡ y.object = omega arith in z) (let z : x.row ≡ y.row = omega arith in z) (same_cells a.fits b.fits (sym a.cells ∙ b.cells))
  where
    three : {o p a b : ℕ} {v w : Value} → o ≡ p → a ≡ b → v ≡ w → ◌≡◌ {A = Slot} (record { object = o; row = a; value = v }) (record { object = p; row = b; value = w })
    three {o} {p} {a} {b} {v} {w} e f g = ap (λ i. record { object = i; row = a; value = v }) e ∙ ap (λ i. record { object = p; row = i; value = v }) f ∙ ap (λ i. record { object = p; row = b; value = i }) g

pub slots_same : {words : List ℕ} {n k i : ℕ} {xs ys : List Slot} → SlotsAt words n k i xs → SlotsAt words n k i ys → xs ≡ ys
slots_same (none_left e) (none_left f) = refl
slots_same (none_left e) (one_more l b h) = absurd (omega arith)
slots_same (one_more l a g) (none_left f) = absurd (omega arith)
slots_same (one_more {x = x} {xs} l a g) (one_more {x = y} {xs = ys} m b h) = ap (λ (z : Slot). z ∷ xs) (slot_same a b) ∙ ap (λ (zs : List Slot). y ∷ zs) (slots_same g h)

pub first_same : {words : List ℕ} {n key p q : ℕ} → FirstFrom words n key p → FirstFrom words n key q → p ≡ q
first_same {words} {n} {key} {p} {q} a b = by (dec_lt p q) (dec_lt q p)
  where
    by : Dec (p < q) → Dec (q < p) → p ≡ q
    by (yes l) d = absurd (let x = b.below p l in let y = a.at (let z = b.low in omega arith) in omega arith)
    by (no l) (yes m) = absurd (let x = a.below q m in let y = b.at (let z = a.low in omega arith) in omega arith)
    by (no l) (no m) = omega arith

pub parted_same : {words : List ℕ} {key : ℕ} {xs ys us vs : List Slot} → Parted words key xs ys → Parted words key us vs → (xs ≡ us) × (ys ≡ vs)
parted_same {words} {key} {us = us} {vs} a b =
    let e : b.place ≡ a.place = first_same b.first a.first in (
      slots_same a.before (subst (λ p. SlotsAt words (get_or words 0 0) p 0 us) e b.before),
      slots_same a.after (subst (λ p. SlotsAt words (get_or words 0 0) (get_or words 0 0) (after_in words (get_or words 0 0) p key) vs) e b.after),
    )

-- ---- those before a key, and those after it

apart : (m n : ℕ) → n ≤ m → (m ≡ n → ⊥) → n < m
apart m n l h = omega (arith, h)

module _ (o a : ℕ) (low : a < 64) where
  before_key : (x : Slot) → x.row < 64 → comes_before x o a ≡ true → slot_key x < o * 64 + a
  unfolding comes_before slot_key
  before_key x l h = by (ltb x.object o) (eqb x.object o) (ltb x.row a) refl refl refl h
    where
      by : (p q r : Bool) → ltb x.object o ≡ p → eqb x.object o ≡ q → ltb x.row a ≡ r → (p || q && r) ≡ true → x.object * 64 + x.row < o * 64 + a
      by true q r e f g h = let k = ltb-true x.object o e in omega arith
      by false true true e f g h = let k = eqb-true x.object o f in let m = ltb-true x.row a g in omega arith
      by false true false e f g h = absurd (true≢false (sym h))
      by false false r e f g h = absurd (true≢false (sym h))

  after_key : (x : Slot) → x.row < 64 → comes_before x o a ≡ false → o * 64 + a ≤ slot_key x
  unfolding comes_before slot_key
  after_key x l h = by (ltb x.object o) (eqb x.object o) (ltb x.row a) refl refl refl h
    where
      by : (p q r : Bool) → ltb x.object o ≡ p → eqb x.object o ≡ q → ltb x.row a ≡ r → (p || q && r) ≡ false → o * 64 + a ≤ x.object * 64 + x.row
      by true q r e f g h = absurd (true≢false h)
      by false true true e f g h = absurd (true≢false h)
      by false true false e f g h = let k = eqb-true x.object o f in let m = ltb-false x.row a g in omega arith
      by false false r e f g h = let k = ltb-false x.object o e in let m = eqb-false x.object o f in let d = apart x.object o k m in omega arith

  same_key : (x : Slot) → x.row < 64 → (eqb x.object o && eqb x.row a) ≡ eqb (slot_key x) (o * 64 + a)
  unfolding slot_key
  same_key x l = by (eqb x.object o) (eqb x.row a) refl refl
    where
      by : (p q : Bool) → eqb x.object o ≡ p → eqb x.row a ≡ q → (p && q) ≡ eqb (x.object * 64 + x.row) (o * 64 + a)
      by true true e f = sym (eq-eqb (x.object * 64 + x.row) (o * 64 + a) (let k = eqb-true x.object o e in let m = eqb-true x.row a f in omega arith))
      by true false e f = sym (ne_eqb (x.object * 64 + x.row) (o * 64 + a) (λ h. eqb-false x.row a f (let z : x.row ≡ a = omega arith in z)))
      by false q e f = sym (ne_eqb (x.object * 64 + x.row) (o * 64 + a) (λ h. eqb-false x.object o e (let z : x.object ≡ o = omega arith in z)))

  module _ (words : List ℕ) (n : ℕ) where
    abbrev key : ℕ
    key = o * 64 + a

    record From (i : ℕ) (xs : List Slot) : Type 0 where
      place : ℕ
      up : i ≤ place
      few : place ≤ n
      below : (j : ℕ) → i ≤ j → j < place → get_or words (memory.keys + j) 0 < key
      at : place < n → key ≤ get_or words (memory.keys + place) 0
      before : SlotsAt words n place i (slots_before xs o a)
      after : SlotsAt words n n (after_in words n place key) (slots_after xs o a)

    from_before : {i : ℕ} {x : Slot} {xs : List Slot} → SlotAt words n i x → comes_before x o a ≡ true → From (i + 1) xs → From i (x ∷ xs)
    unfolding slots_before slots_after
    from_before {i} {x} {xs} s e f = record {
      place = f.place;
      up = let u = f.up in omega arith;
      few = f.few;
      below = λ j l m. by j l m (dec_lt i j);
      at = f.at;
      before = rw e (one_more {i = i} (let u = f.up in omega arith) s f.before);
      after = rw e f.after;
    }
      where
        by : (j : ℕ) → i ≤ j → j < f.place → Dec (i < j) → get_or words (memory.keys + j) 0 < key
        by j l m (yes k) = f.below j (omega arith) m
        by j l m (no k) = let z : j ≡ i = omega arith in rw (z, s.key) (before_key x s.row e)

    from_after : {i : ℕ} {x : Slot} {xs : List Slot} → i < n → SlotAt words n i x → SlotsAt words n n (i + 1) xs → comes_before x o a ≡ false → From i (x ∷ xs)
    unfolding slots_before slots_after after_in
    from_after {i} {x} {xs} l s h e = record {
      place = i;
      up = omega arith;
      few = omega arith;
      below = λ j l m. absurd (omega arith);
      at = λ l. rw s.key (after_key x s.row e);
      before = rw e (none_left refl);
      after = rw e (tail (ltb i n && eqb (get_or words (memory.keys + i) 0) key) (eqb x.object o && eqb x.row a) (rw (lt-ltb i n l, s.key, same_key x s.row)));
    }
      where
        tail : (b c : Bool) → b ≡ c → SlotsAt words n n (if b then i + 1 else i) (if c then xs else x ∷ xs)
        tail true true e = h
        tail true false e = absurd (true≢false e)
        tail false true e = absurd (true≢false (sym e))
        tail false false e = one_more {i = i} l s h

    from : {i : ℕ} {xs : List Slot} → SlotsAt words n n i xs → From i xs
    unfolding slots_before slots_after after_in
    from {i} (none_left e) = record {
      place = i;
      up = omega arith;
      few = omega arith;
      below = λ j l m. absurd (omega arith);
      at = λ l. absurd (omega arith);
      before = none_left refl;
      after = rw (le-ltb i n (omega arith)) (none_left e);
    }
    from {i} (one_more {x = x} {xs} l s h) = by (comes_before x o a) refl (from h)
      where
        by : (b : Bool) → comes_before x o a ≡ b → From (i + 1) xs → From i (x ∷ xs)
        by true e f = from_before s e f
        by false e f = from_after l s h e

pub parted : (words : List ℕ) (o a : ℕ) {xs : List Slot} → a < 64 → get_or words 0 0 ≤ 1024 → SlotsAt words (get_or words 0 0) (get_or words 0 0) 0 xs
    → Parted words (o * 64 + a) (slots_before xs o a) (slots_after xs o a)
parted words o a low few h =
    let f = from o a low words (get_or words 0 0) h in
    record { few = few; place = f.place; first = record { low = f.few; below = λ j l. f.below j (omega arith) l; at = f.at }; before = f.before; after = f.after }
