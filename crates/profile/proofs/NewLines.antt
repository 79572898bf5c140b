-- The lines of an accepted text with its objects numbered anew are all taken, so that the new text is accepted and reads as the sheet with
-- its objects numbered anew. Assumes nothing.
use mathlib.Core.Path.{◌≡◌, refl, sym, ap, ◌∙◌, subst}
use mathlib.Core.Bool.{false}
use mathlib.Core.Option.{none, some}
use mathlib.Core.List.{List, [], ◌∷◌, ◌++◌}
use Prim.Native.Nat.{ℕ, suc, ◌+◌, ◌≤◌, ◌<◌}
use native.Mathlib.Omega.{arith}
use lib.ListN.{length}
use Rattle.laws.specs.Choice.{map_some}
use Rattle.laws.specs.Lists.{Each}
use Rattle.laws.proofs.Lists.{each_imp}
use Rattle.sheet.specs.Text.{Bytes}
use Rattle.sheet.specs.Lines.{Line}
use Rattle.sheet.specs.Sheet.{Slot, Sheet, empty, end_rule}
use Rattle.sheet.specs.Limits.{total_size}
use Rattle.sheet.specs.Reading.{accepted, read_text}
use Rattle.sheet.proofs.Ascending.{Ascending}
use Rattle.sheet.proofs.Acceptance.{accepted_good}
use Rattle.profile.specs.Renumbering.{Permutation}
use Rattle.profile.specs.RenumberedLines.{early, objects_in, slots_in, late, object_lines_from, value_lines, renumbered_lines, lines_in, renumbered_slots, renumbered_objects}
use Rattle.profile.specs.FreeNumbering.{Renumbers}
use Rattle.profile.proofs.Taken.{closed_by, Takes, takes_join, takes_cut, takes_count, text_whole, taken_read}
use Rattle.profile.proofs.Rising.{lines_rising, object_part, in_parts}
use Rattle.profile.proofs.Objects.{block_after, Quiet, quiet_early, with_objects, ObjectFact, objects_facts, objects_taken}
use Rattle.profile.proofs.Slots.{slotted, SlotFact, slots_facts, slots_taken}
use Rattle.profile.proofs.SlotsInOrder.{each_renumbered, length_renumbered, total_renumbered, ascending_renumbered}
use Rattle.profile.proofs.NewObjects.{objects_count}
use Rattle.profile.proofs.SlotImages.{value_fit, each_object, fact_image}
use Rattle.profile.proofs.NewSheet.{shuffled, renumbered_sheet}
use Rattle.profile.proofs.LateLines.{end_shuffled, closed_same, late_taken}

-- ---- all lines

lines_count : (n : ℕ) (os : List ℕ) → length (object_lines_from n os) ≡ length os
unfolding object_lines_from
lines_count n [] = refl
lines_count n (c ∷ os) = ap suc (lines_count (suc n) os)

values_count : (xs : List Slot) → length (value_lines xs) ≡ length xs
unfolding value_lines
values_count [] = refl
values_count (x ∷ xs) = ap suc (values_count xs)

block_same : {A B : Type 0} (b c : ℕ) (xs : List A) (ys : List B) → length xs ≡ length ys → block_after b c xs ≡ block_after b c ys
unfolding block_after
block_same b c [] [] e = refl
block_same b c [] (y ∷ ys) e = absurd (omega arith)
block_same b c (x ∷ xs) [] e = absurd (omega arith)
block_same b c (x ∷ xs) (y ∷ ys) e = refl

-- a permutation of as many
abbrev pub recount : {n m : ℕ} → n ≡ m → Permutation n → Permutation m
recount e p = record {
  to = p.to;
  back = p.back;
  to_back = p.to_back;
  back_to = p.back_to;
  to_inside = λ o h. subst (λ i. p.to o < i) e (p.to_inside o (subst (λ i. o < i) (sym e) h));
  back_inside = λ o h. subst (λ i. p.back o < i) e (p.back_inside o (subst (λ i. o < i) (sym e) h));
}

-- O and V lines, from a sheet with classes and rows alone
module _ (m : Sheet) (quiet : Quiet m) (os : List ℕ) (xs : List Slot) (p : Permutation (length os)) where
  abbrev os' : List ℕ
  os' = renumbered_objects p.back os (length os)

  abbrev xs' : List Slot
  xs' = renumbered_slots p.to xs

  -- as they stood, and as they are numbered anew
  abbrev M₂ : Sheet
  M₂ = with_objects m (block_after 2 m.block os) os

  abbrev M₃ : Sheet
  M₃ = slotted M₂ (block_after 3 M₂.block xs) xs

  abbrev N₂ : Sheet
  N₂ = with_objects m (block_after 2 m.block os') os'

  count_os : length os' ≡ length os
  count_os = objects_count p.back os (length os)

  new_objects : (k : ℕ) → (1 ≤ length os → m.block ≤ 2) → Each (ObjectFact m) os → length os ≤ 96 → Takes m k (object_lines_from 0 os') N₂ (k + length os)
  new_objects k low facts room =
      let c = count_os in
      let z : length m.objects ≡ 0 = ap length quiet.objects in
      let t = objects_taken os' m k quiet.current (λ h. low (omega arith)) (each_object p.back os (length os) facts p.back_inside) (omega arith) in
      let a = subst (λ l. Takes m k (object_lines_from (length l) os') (with_objects m (block_after 2 m.block os') (l ++ os')) (k + length os')) quiet.objects t in
      subst (λ i. Takes m k (object_lines_from 0 os') N₂ (k + i)) c a

  new_slots : (k : ℕ) → (1 ≤ length xs → M₂.block ≤ 3) → Each (SlotFact M₂) xs → length os ≤ 96 → length xs ≤ 1024 → total_size xs ≤ 2048 → Ascending xs
      → Takes N₂ k (value_lines xs') (slotted N₂ (block_after 3 N₂.block xs') xs') (k + length xs)
  unfolding with_objects
  new_slots k low facts few room total up =
      let c = length_renumbered p.to p.back p.back_to xs in
      let d = total_renumbered p.to p.back p.back_to (each_imp (λ x f. value_fit x.value f.within f.in_order_lem) facts) in
      let e : N₂.block ≡ M₂.block = block_same 2 m.block os' os count_os in
      let z : length m.slots ≡ 0 = ap length quiet.slots in
      let y : total_size m.slots ≡ 0 = unfold total_size in ap total_size quiet.slots in
      let g = each_renumbered p.to (fact_image M₂ p (block_after 2 m.block os') few) facts in
      let a = ascending_renumbered p.to p.back p.back_to up in
      let t = slots_taken xs' N₂ k quiet.current (λ h. let b = low (omega arith) in omega arith) g (omega arith) (omega arith) (subst (λ l. Ascending (l ++ xs')) (sym quiet.slots) a) in
      let u = subst (λ l. Takes N₂ k (value_lines xs') (slotted N₂ (block_after 3 N₂.block xs') (l ++ xs')) (k + length xs')) quiet.slots t in
      subst (λ i. Takes N₂ k (value_lines xs') (slotted N₂ (block_after 3 N₂.block xs') xs') (k + i)) c u

  -- which is the sheet with its objects numbered anew
  new_sheet : slotted N₂ (block_after 3 N₂.block xs') xs' ≡ shuffled p.to p.back M₃
  unfolding slotted with_objects shuffled
  new_sheet =
      let c = length_renumbered p.to p.back p.back_to xs in
      let e : N₂.block ≡ M₂.block = block_same 2 m.block os' os count_os in
      ap (λ b. slotted N₂ b xs') (ap (λ b. block_after 3 b xs') e ∙ block_same 3 M₂.block xs' xs c)

quiet_empty : Quiet empty
unfolding empty
quiet_empty = record { objects = refl; slots = refl; current = refl }

-- past the O lines
pub record PastObjects (m : Sheet) (k : ℕ) (ls rest : List Line) (u : Sheet) (j : ℕ) : Type 0 where
  pub facts : Each (ObjectFact m) (objects_in ls)
  pub room : length (objects_in ls) ≤ 96
  pub low : 1 ≤ length (objects_in ls) → m.block ≤ 2
  pub right : Takes (with_objects m (block_after 2 m.block (objects_in ls)) (objects_in ls)) (k + length (objects_in ls)) rest u j

past_objects : (m : Sheet) → Quiet m → (k : ℕ) (ls rest : List Line) (u : Sheet) (j : ℕ) → Takes m k (object_part ls ++ rest) u j → PastObjects m k ls rest u j
past_objects m q k ls rest u j t =
    let c = takes_cut (object_part ls) t in
    let f = objects_facts ls m c.sheet k c.number c.left q.current in
    let z : length m.objects ≡ 0 = ap length q.objects in
    let e : c.sheet ≡ with_objects m (block_after 2 m.block (objects_in ls)) (objects_in ls) = f.result ∙ ap (λ l. with_objects m (block_after 2 m.block (objects_in ls)) (l ++ objects_in ls)) q.objects in
    let i : c.number ≡ k + length (objects_in ls) = takes_count c.left ∙ ap (λ l. k + l) (ap length f.lines ∙ lines_count (length m.objects) (objects_in ls)) in
    record {
      facts = f.facts;
      room = (let r = f.room (omega arith) in omega arith);
      low = f.low;
      right = subst (λ n. Takes (with_objects m (block_after 2 m.block (objects_in ls)) (objects_in ls)) n rest u j) i (subst (λ x. Takes x c.number rest u j) e c.right);
    }

-- past the V lines
pub record PastSlots (m : Sheet) (k : ℕ) (xs : List Slot) (rest : List Line) (u : Sheet) (j : ℕ) : Type 0 where
  pub facts : Each (SlotFact m) xs
  pub room : length xs ≤ 1024
  pub total : total_size xs ≤ 2048
  pub low : 1 ≤ length xs → m.block ≤ 3
  pub right : Takes (slotted m (block_after 3 m.block xs) xs) (k + length xs) rest u j

past_slots : (m : Sheet) → m.slots ≡ [] → m.current ≡ none → (k : ℕ) (xs : List Slot) (rest : List Line) (u : Sheet) (j : ℕ) → Takes m k (value_lines xs ++ rest) u j → PastSlots m k xs rest u j
unfolding total_size
past_slots m q h k xs rest u j t =
    let c = takes_cut (value_lines xs) t in
    let f = slots_facts xs m c.sheet k c.number c.left h in
    let z : length m.slots ≡ 0 = ap length q in
    let y : total_size m.slots ≡ 0 = ap total_size q in
    let e : c.sheet ≡ slotted m (block_after 3 m.block xs) xs = f.result ∙ ap (λ l. slotted m (block_after 3 m.block xs) (l ++ xs)) q in
    let i : c.number ≡ k + length xs = takes_count c.left ∙ ap (λ l. k + l) (values_count xs) in
    record {
      facts = f.facts;
      room = (let r = f.room (omega arith) in omega arith);
      total = (let r = f.total (omega arith) in omega arith);
      low = f.low;
      right = subst (λ n. Takes (slotted m (block_after 3 m.block xs) xs) n rest u j) i (subst (λ x. Takes x c.number rest u j) e c.right);
    }

-- the lines numbered anew, where those as they stood are taken
module _ (ls : List Line) (u : Sheet) (j : ℕ) where
  abbrev os : List ℕ
  os = objects_in ls

  abbrev xs : List Slot
  xs = slots_in ls

  pub record Pieces : Type 0 where
    pub m : Sheet
    pub k : ℕ
    pub quiet : Quiet m
    pub left : Takes empty 0 (early ls) m k
    pub objects : PastObjects m k ls (value_lines xs ++ late ls) u j
    pub slots : PastSlots (with_objects m (block_after 2 m.block os) os) (k + length os) xs (late ls) u j

  pub pieces : Takes empty 0 ls u j → Pieces
  pieces t =
      let c = takes_cut (early ls) (subst (λ l. Takes empty 0 l u j) (in_parts ls (lines_rising t)) t) in
      let q = quiet_early ls c.left quiet_empty in
      let o = past_objects c.sheet q c.number ls (value_lines xs ++ late ls) u j c.right in
      record { m = c.sheet; k = c.number; quiet = q; left = c.left; objects = o; slots = slots_of c.sheet c.number q o.right }
    where
      slots_of : (m : Sheet) (k : ℕ) → Quiet m → Takes (with_objects m (block_after 2 m.block os) os) (k + length os) (value_lines xs ++ late ls) u j
          → PastSlots (with_objects m (block_after 2 m.block os) os) (k + length os) xs (late ls) u j
      slots_of m k q t = past_slots (with_objects m (block_after 2 m.block os) os) (unfold with_objects in q.slots) (unfold with_objects in q.current) (k + length os) xs (late ls) u j t

  -- the sheet at their end
  pieces_same : (to back : ℕ → ℕ) → Pieces → (u.objects ≡ os) × (u.slots ≡ xs)
  unfolding slotted with_objects
  pieces_same to back c = let z = late_taken to back ls _ u _ j c.slots.right in (z.1.objects, z.1.slots)

  pub new_taken : Pieces → (p : Permutation (length os)) → Ascending xs → Takes empty 0 (renumbered_lines p.to p.back ls) (shuffled p.to p.back u) j
  unfolding renumbered_lines
  new_taken c p up =
      let o = c.objects in let x = c.slots in
      let z = late_taken p.to p.back ls _ u _ j x.right in
      takes_join c.left (takes_join (new_objects c.m c.quiet os xs p c.k o.low o.facts o.room)
      (takes_join (new_slots c.m c.quiet os xs p (c.k + length os) x.low x.facts o.room x.room x.total up)
      (subst (λ w. Takes w (c.k + length os + length xs) (late ls) (shuffled p.to p.back u) j) (sym (new_sheet c.m c.quiet os xs p)) z.0)))

-- the new text is accepted, and reads as the sheet with its objects numbered anew
accepted_by_lines : (text other : Bytes) (s u : Sheet) (j : ℕ) (ls : List Line) → lines_in text ≡ some ls → Takes empty 0 ls u j → end_rule u ≡ some s → Ascending s.slots
    → (p : Permutation (length s.objects)) → length other ≤ 49152 → Renumbers p.to p.back text other
    → read_text other ≡ accepted (shuffled p.to p.back s)
unfolding map_some closed_by
accepted_by_lines text other s u j ls e t q up p short new =
    let c = pieces ls u j t in
    let y = closed_same p.to p.back false u s q in
    let g = pieces_same ls u j p.to p.back c in
    let r = new_taken ls u j c (recount (ap length (y.objects ∙ g.0)) p) (subst Ascending (y.slots ∙ g.1) up) in
    taken_read other (shuffled p.to p.back s) (shuffled p.to p.back u) j (renumbered_lines p.to p.back ls) short
    (new ∙ ap (map_some (renumbered_lines p.to p.back)) e) r (end_shuffled p.to p.back u ∙ ap (map_some (shuffled p.to p.back)) q)

pub accepted_new : (text other : Bytes) (s : Sheet) → read_text text ≡ accepted s → (p : Permutation (length s.objects)) → length other ≤ 49152
    → Renumbers p.to p.back text other → read_text other ≡ accepted (renumbered_sheet s p)
unfolding renumbered_sheet lines_in
accepted_new text other s e p short new =
    let w = text_whole text s e in
    accepted_by_lines text other s w.last w.number w.lines w.spelled w.all w.ends (accepted_good text s e).ascending p short new
