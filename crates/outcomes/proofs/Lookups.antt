-- What is found in the tables: an object's class, a row's owner, a slot by its key, a slot's value. Assumes nothing.
use mathlib.Core.Path.{◌≡◌, refl, sym, ap, ◌∙◌}
use mathlib.Core.Bool.{Bool, true, false}
use mathlib.Core.Option.{Option, none, some}
use mathlib.Core.List.{List}
use Prim.Native.Nat.{ℕ, suc, ◌+◌, ◌-◌, ◌*◌, ◌%◌, ◌<◌, ◌≤◌}
use native.Mathlib.Omega.{arith}
use lib.ListN.{length, get_or}
use lib.Seq.{slice}
use lib.Dec.{eqb}
use borrow.Author.Tests.{lt-ltb, le-ltb, eq-eqb, ne_eqb, eqb-true, eqb-false}
use Rattle.std.specs.Prelude.{if◌then◌else◌, Option as Optional, Some, None}
use Rattle.laws.proofs.Orders.{Three, less, same, over, three}
use Rattle.memory.specs.Map as memory
use Rattle.ocl.specs.Types.{class, simple_subtype}
use Rattle.ocl.specs.Values.{Value, bool, num, obj, coll, size, sort}
use Rattle.ocl.specs.Model.{Row, Model, is_a, class_is_a}
use Rattle.ocl.specs.Forms.{of_object}
use Rattle.ocl.specs.Operations.{given, has_row, value_in_row, access}
use Rattle.ocl.proofs.Values.{size_pos}
use Rattle.types.specs.Flat.{parents_in}
use Rattle.values.specs.Cells.{payload, head, enc, Fits}
use Rattle.values.specs.Meanings.{SortOf, PayloadOf, Brings}
use Rattle.values.proofs.Heads.{shape, Shape, shape_bool, shape_num, shape_obj, shape_coll}
use Rattle.values.proofs.Forming.{part_size}
use Rattle.tables.specs.declared.Counts.{Counts}
use Rattle.tables.specs.Layout.{tab}
use Rattle.tables.specs.Stored.{key_at, start_at, Stored, no_slot, slot, HoldsModel}
use Rattle.tables.proofs.Tables.{tab_at}
use Rattle.outcomes.specs.declared.Ended.{Ended}
use Rattle.outcomes.specs.declared.Ended.TheVariants as ended
use Rattle.outcomes.specs.Answers.{ends_undefined, ends_stuck, Ran, SmallAnswer, formed_as}
use Rattle.outcomes.specs.Tables.{Plain, IsA, Owner, FindsSlot, cells_start, SlotHolds, SlotStands, object_of, IsObject, HasRow, RowSlot, Accesses}
use Rattle.outcomes.proofs.Words.{under_refl, head_at_lem, formed_small, formed_value}

-- ---- classes and rows

pub no_object : {st : Counts} {w0 : List ℕ} {o c : ℕ} → st.objects ≤ o → IsA st w0 o c false
unfolding is_a class_is_a
no_object {st} {w0} {o} h = record { is = λ m H. rw (H.class_of o, le-ltb o st.objects h) }

pub object_is : {st : Counts} {w0 ps : List ℕ} {o c d at : ℕ} {r : Bool} → o < st.objects → at ≡ 256 + o → d ≡ get_or w0 at 0 → ps ≡ tab memory.parents st.classes w0
    → r ≡ simple_subtype (parents_in ps) (class d) (class c) → IsA st w0 o c r
unfolding is_a class_is_a
object_is {st} {w0} {ps} {o} {c} {d} {at} {r} h a e p q = record { is = λ m H. rw (H.class_of o, lt-ltb o st.objects h, H.classes.parent, ← p, ← a, ← e) q }

pub no_owner : {st : Counts} {w0 : List ℕ} {i : ℕ} → st.rows ≤ i → Owner st w0 i 0
no_owner {i = i} h = record { is = λ m H P. sym (P.no_row_lem i h) }

pub owner_is : {st : Counts} {w0 : List ℕ} {i at : ℕ} → i < st.rows → at ≡ i → Owner st w0 i (get_or w0 (memory.owners + at) 0)
owner_is {st} {w0} {i} {at} h e = record {
  is = λ m H P.
      let k : i < m.row_count = (let a = H.row_count in omega arith) in
      ap (λ (j : ℕ). get_or w0 (memory.owners + j) 0) e ∙ sym (tab_at 64 st.rows w0 i h) ∙ sym (ap (λ (x : Row). x.owner) (H.classes.row i k));
}

-- ---- a slot by its key

abbrev pub Ascending : List ℕ → ℕ → Type 0
Ascending w0 slots = (j k : ℕ) → j < k → k < slots → key_at w0 j < key_at w0 k

-- the slots before low are under the key, those from high on are over it
pub record Between (w0 : List ℕ) (slots key low high : ℕ) : Type 0 where
  pub up : low ≤ high
  pub within : high ≤ slots
  pub under : Ascending w0 slots → (j : ℕ) → j < low → key_at w0 j < key
  pub above : Ascending w0 slots → (j : ℕ) → high ≤ j → j < slots → key < key_at w0 j

module _ {w0 : List ℕ} {slots key low high : ℕ} where
  pub all_open : slots ≡ high → low ≡ 0 → Between w0 slots key low high
  all_open e f = record { up = omega arith; within = omega arith; under = λ a j h. absurd (omega arith); above = λ a j h k. absurd (omega arith) }

  module _ (b : Between w0 slots key low high) where
    pub go_up : (mid : ℕ) → low ≤ mid → mid < high → key_at w0 mid < key → Between w0 slots key (mid + 1) high
    go_up mid l h u =
        let w = b.within in
        record { up = omega arith; within = w; above = b.above; under = λ a j k. by a j k (three j mid) }
      where
        by : Ascending w0 slots → (j : ℕ) → j < mid + 1 → Three j mid → key_at w0 j < key
        by a j k (less x) = let w = b.within in let z = a j mid x (omega arith) in omega arith
        by a j k (same x) = rw x u
        by a j k (over x) = absurd (omega arith)

    pub go_down : (mid : ℕ) → low ≤ mid → mid < high → (key_at w0 mid ≡ key → ⊥) → key ≤ key_at w0 mid → Between w0 slots key low mid
    go_down mid l h n u =
        let w = b.within in
        record { up = l; within = omega arith; under = b.under; above = λ a j k m. by a j k m (three j mid) }
      where
        by : Ascending w0 slots → (j : ℕ) → mid ≤ j → j < slots → Three j mid → key < key_at w0 j
        by a j k m (less x) = absurd (omega arith)
        by a j k m (same x) = rw x (omega arith)
        by a j k m (over x) = let z = a mid j x m in omega arith

    pub none_there : high ≤ low → FindsSlot w0 slots key None
    none_there h a j k e = by (three j low)
      where
        by : Three j low → ⊥
        by (less x) = let z = b.under a j x in omega arith
        by (same x) = let z = b.above a j (omega arith) k in omega arith
        by (over x) = let z = b.above a j (omega arith) k in omega arith

same_slot : (w0 : List ℕ) (slots : ℕ) → Ascending w0 slots → (j k : ℕ) → j < slots → k < slots → key_at w0 j ≡ key_at w0 k → j ≡ k
same_slot w0 slots a j k h i e = by (three j k)
  where
    by : Three j k → j ≡ k
    by (less x) = absurd (let z = a j k x i in omega arith)
    by (same x) = x
    by (over x) = absurd (let z = a k j x h in omega arith)

-- ---- a slot's value

pub start_last : (st : Counts) (w0 : List ℕ) {j a : ℕ} → a ≡ st.slots → a ≡ j → st.cells ≡ cells_start st w0 j
start_last st w0 {j} e f = rw (eq-eqb st.slots j (sym e ∙ f))

pub start_other : (st : Counts) (w0 : List ℕ) {j a : ℕ} → a ≡ st.slots → (a ≡ j → ⊥) → get_or w0 (memory.starts + j) 0 ≡ cells_start st w0 j
start_other st w0 {j} e f = rw (ne_eqb st.slots j (λ g. f (e ∙ g)))

module _ (st : Counts) (w0 : List ℕ) (j a e : ℕ) (p : a ≡ cells_start st w0 j) (q : e ≡ cells_start st w0 (j + 1)) where
  begins : j < st.slots → memory.cells + a ≡ start_at w0 j
  begins h = let z : eqb st.slots j ≡ false = ne_eqb st.slots j (λ g. omega arith) in let p' : a ≡ get_or w0 (memory.starts + j) 0 = rw z at p in omega arith

  ends_at_lem : (b : Bool) → eqb (suc j) st.slots ≡ b → memory.cells + e ≡ (if b then memory.cells + st.cells else start_at w0 (suc j))
  ends_at_lem true z =
      let y : eqb st.slots (j + 1) ≡ true = eq-eqb st.slots (j + 1) (let k = eqb-true (suc j) st.slots z in omega arith) in
      let q' : e ≡ st.cells = rw y at q in omega arith
  ends_at_lem false z =
      let y : eqb st.slots (j + 1) ≡ false = ne_eqb st.slots (j + 1) (λ g. eqb-false (suc j) st.slots z (omega arith)) in
      let q' : e ≡ get_or w0 (memory.starts + (j + 1)) 0 = rw y at q in
      let k : memory.starts + (j + 1) ≡ memory.starts + suc j = omega arith in
      rw (← k) (omega arith)

  part : {v : Value} → SlotHolds st w0 j v → slice (memory.cells + a) (memory.cells + e) w0 ≡ enc v
  part x = rw (begins x.there, ends_at_lem (eqb (suc j) st.slots) refl) x.cells

  size_is : {v : Value} → memory.cells_end ≤ length w0 → SlotHolds st w0 j v → (size v ≡ e - a) × (e ≤ 2048)
  size_is {v} room x =
      let z = ends_at_lem (eqb (suc j) st.slots) refl in
      let l = x.within in
      let y = part_size w0 (memory.cells + a) (memory.cells + e) v (omega arith) (part x) in
      (omega arith, omega arith)

  module _ (sp s : ℕ) {B : List ℕ} (room : 8192 ≤ length w0) where
    pub stands_empty : e ≤ a → SlotStands st w0 j sp s B B ended.Stuck
    stands_empty k = record { small = tt; is = λ v x m. absurd (let z = size_is (omega arith) x in let y = size_pos v in omega arith) }

    pub stands_far : 2048 < e → SlotStands st w0 j sp s B B ended.Stuck
    stands_far k = record { small = tt; is = λ v x m. absurd (let z = size_is (omega arith) x in omega arith) }

    pub stands : {A : List ℕ} {x y : ℕ} (f : Optional ℕ) {r : Ended} → sp ≤ length B → x ≡ memory.cells + a → y ≡ memory.cells + e → Brings w0 x y sp B A f → r ≡ formed_as f s → SlotStands st w0 j sp s B A r
    stands {A} {x} {y} f {r} k g h b q = rw q (record { small = formed_small f s b.small; is = λ v z m. formed_value B s k (b.is v z.fits (rw (g, h) (part z))) m })

-- ---- whether a value is an object of a class, and whether it has a row

not_object : {t p : ℕ} {v : Value} → Shape t p v → (t ≡ 2 → ⊥) → (m : Model) (c : ℕ) → false ≡ object_of m c v
unfolding object_of
not_object (shape_bool i j) n m c = refl
not_object (shape_num i j) n m c = refl
not_object (shape_obj i j l) n m c = absurd (n i)
not_object (shape_coll i j l) n m c = refl

pub is_object : {t p : ℕ} {v : Value} → Shape t p v → t ≡ 2 → v ≡ obj p
is_object (shape_bool i j) e = absurd (omega arith)
is_object (shape_num i j) e = absurd (omega arith)
is_object (shape_obj i j l) e = ap obj (sym j)
is_object (shape_coll i j l) e = absurd (omega arith)

module _ {st : Counts} {w0 : List ℕ} {c cell t : ℕ} (S : SortOf cell t) where
  pub object_other : (t ≡ 2 → ⊥) → IsObject st w0 c cell false
  object_other n = record { is = λ m H v f e. not_object (shape f (S.is v f e) (λ x. refl)) n m c }

  pub object_of_lem : {o : ℕ} {b : Bool} → t ≡ 2 → PayloadOf cell o → IsA st w0 o c b → IsObject st w0 c cell b
  unfolding object_of
  object_of_lem d Q I = record { is = λ m H v f e. rw (is_object (shape f (S.is v f e) (λ n. Q.is v f n e)) d) (I.is m H) }

row_class : (m : Model) (i : ℕ) (v : Value) → object_of m (m.row i).owner v ≡ has_row m i v
unfolding object_of has_row
row_class m i (bool b) = refl
row_class m i (num x) = refl
row_class m i (obj o) = refl
row_class m i (coll k vs) = refl

pub row_of : {st : Counts} {w0 : List ℕ} {i c cell : ℕ} {b : Bool} → Owner st w0 i c → IsObject st w0 c cell b → HasRow st w0 i cell b
row_of {i = i} C I = record { is = λ m H P v f e. I.is m H v f e ∙ ap (λ (x : ℕ). object_of m x v) (C.is m H P) ∙ row_class m i v }

-- a value that has the row is an object
pub record Object (v : Value) : Type 0 where
  pub o : ℕ
  pub is : v ≡ obj o

pub has_object : (m : Model) (i : ℕ) (v : Value) → has_row m i v ≡ true → Object v
unfolding has_row
has_object m i (bool b) e = absurd (let z : ◌≡◌ {A = ℕ} 0 1 = cc in omega arith)
has_object m i (num x) e = absurd (let z : ◌≡◌ {A = ℕ} 0 1 = cc in omega arith)
has_object m i (obj o) e = record { o = o; is = refl }
has_object m i (coll k vs) e = absurd (let z : ◌≡◌ {A = ℕ} 0 1 = cc in omega arith)

-- ---- the slot of a row for an object

pub slot_of : (st : Counts) (w0 : List ℕ) {i cell slots o : ℕ} (x : Optional ℕ) → i < 64 → slots ≡ st.slots → PayloadOf cell o → FindsSlot w0 slots (o * 64 + i) x → RowSlot st w0 i cell x
unfolding payload sort
slot_of st w0 {i} {cell} {slots} {o} (Some j) h n Q F = (let l = F.0 in omega arith, λ m H p f e. by m H p (Q.is (obj p) f (λ n. omega arith) e) (m.value_of p i) refl (H.stored p i h))
  where
    by : (m : Model) → HoldsModel st w0 m → (p : ℕ) → o ≡ p → (x : Option Value) → m.value_of p i ≡ x → Stored st w0 p i x → (v : Value) × ((m.value_of p i ≡ some v) × SlotHolds st w0 j v)
    by m H p e none u (no_slot f) = absurd (f j (let l = F.0 in omega arith) (F.1 ∙ ap (λ (k : ℕ). k * 64 + i) e))
    by m H p e (some v) u (slot k l q x y z f) =
        let d = same_slot w0 st.slots H.ascending k j l (let l = F.0 in omega arith) (q ∙ ap (λ (k : ℕ). k * 64 + i) (sym e) ∙ sym F.1) in
        let c : SlotHolds st w0 k v = record { there = l; within = y; cells = z; fits = f } in
        (v, (u, rw d at c))
slot_of st w0 {i} {cell} {slots} {o} None h n Q F = λ m H p f e. by m H p (Q.is (obj p) f (λ n. omega arith) e) (m.value_of p i) refl (H.stored p i h)
  where
    by : (m : Model) → HoldsModel st w0 m → (p : ℕ) → o ≡ p → (x : Option Value) → m.value_of p i ≡ x → Stored st w0 p i x → m.value_of p i ≡ none
    by m H p e none u q = u
    by m H p e (some v) u (slot k l q x y z f) = absurd (F (rw n H.ascending) k (omega arith) (q ∙ ap (λ (k : ℕ). k * 64 + i) (sym e)))

pub slot_within : (st : Counts) (w0 : List ℕ) (i cell : ℕ) {j : ℕ} {x : Optional ℕ} → RowSlot st w0 i cell x → x ≡ Some j → j < st.slots
slot_within st w0 i cell {j} F e = let a : RowSlot st w0 i cell (Some j) = rw e at F in a.0

-- ---- `attr`

module _ {st : Counts} {w0 : List ℕ} {mark sp len s : ℕ} {B : List ℕ} {b : Bool} (h : HasRow st w0 (mark % 64) (get_or B sp 0) b) where
  pub attribute_other : b ≡ false → Accesses of_object st w0 mark sp len s B B ended.Stuck
  unfolding access
  attribute_other e = record {
    small = tt;
    ran = λ m H P k K v l. rw (K.row, ← h.is m H P v l.fits (head_at_lem l), e) (record { kept = under_refl; ends = ends_stuck });
  }

  module _ (e : b ≡ true) where
    on_object_lem : {A : List ℕ} {r : Ended} → SmallAnswer r
        → ((m : Model) → HoldsModel st w0 m → Plain st m → (o : ℕ) → Fits (obj o) → get_or B sp 0 ≡ head (obj o) → Ran (given (m.value_of o (mark % 64)) s) sp B A r) → Accesses of_object st w0 mark sp len s B A r
    unfolding access value_in_row
    on_object_lem {A} {r} sm g = record {
      small = sm;
      ran = λ m H P k K v l.
          let q = sym (h.is m H P v l.fits (head_at_lem l)) ∙ e in
          let x = has_object m (mark % 64) v q in
          let f : Fits (obj x.o) = rw x.is at l.fits in
          let d : get_or B sp 0 ≡ head (obj x.o) = rw x.is at (head_at_lem l) in
          rw (K.row, q, x.is) (g m H P x.o f d);
    }

    pub attribute_none : {x : Optional ℕ} → RowSlot st w0 (mark % 64) (get_or B sp 0) x → x ≡ None → Accesses of_object st w0 mark sp len s B B (ended.Undef s)
    attribute_none F y =
        let a : RowSlot st w0 (mark % 64) (get_or B sp 0) None = rw y at F in
        on_object_lem tt (λ m H P o f d. rw (a m H o f d) (record { kept = under_refl; ends = ends_undefined }))

    pub attribute_some : {x : Optional ℕ} {j : ℕ} {A : List ℕ} {r : Ended} → RowSlot st w0 (mark % 64) (get_or B sp 0) x → x ≡ Some j → SlotStands st w0 j sp s B A r → Accesses of_object st w0 mark sp len s B A r
    attribute_some {x} {j} F y d =
        let a : RowSlot st w0 (mark % 64) (get_or B sp 0) (Some j) = rw y at F in
        on_object_lem d.small (λ m H P o f e. let t = a.1 m H o f e in rw t.1.0 (d.is t.0 t.1.1 (P.small o (mark % 64) t.0 t.1.0)))
