-- V lines that are taken one after another: what they have met, what they make of a sheet, and which are taken. Assumes nothing.
use mathlib.Core.Path.{◌≡◌, refl, sym, ap, ◌∙◌, subst}
use mathlib.Core.Bool.{◌&&◌}
use mathlib.Core.Option.{none}
use mathlib.Core.List.{List, [], ◌∷◌, ◌++◌, append-nil, append_assoc}
use Prim.Native.Nat.{ℕ, suc, ◌+◌, ◌≤◌, ◌<◌}
use native.Mathlib.Omega.{arith}
use lib.ListN.{length}
use lib.Dec.{T, ltb, ltb→lt, leb, leb→le, lt→ltb, le→leb}
use Rattle.laws.specs.Lists.{Each, each_nil, each-cons}
use Rattle.laws.proofs.Tests.{and_i, and_l, and_r}
use Rattle.laws.proofs.Lists.{length_more, each_imp}
use Rattle.ocl.specs.Types.{class}
use Rattle.ocl.specs.Values.{size, every_part}
use Rattle.ocl.specs.Model.{is_a, belongs}
use Rattle.sheet.specs.Lines.{value_line}
use Rattle.sheet.specs.Sheet.{Slot, Sheet, model_of, added}
use Rattle.sheet.specs.Texts.{on_text}
use Rattle.sheet.specs.Refusals.{object_below, block_of, after_slots, ordered, numbered, in_order, parts_known, calls_smaller, calls_known, suits, tree_holds}
use Rattle.sheet.specs.Limits.{value_within, total_size, within_limits}
use Rattle.sheet.proofs.Ascending.{Ascending, ascending_after}
use Rattle.sheet.proofs.GoodLines.{Met}
use Rattle.sheet.proofs.Good.{plain}
use Rattle.sheet.proofs.Belonging.{belongs_same}
use Rattle.sheet.proofs.Stays.{of_body}
use Rattle.profile.specs.RenumberedLines.{value_lines}
use Rattle.profile.proofs.Taken.{Takes, takes_nil, takes_cons}
use Rattle.profile.proofs.Objects.{closed_none, none_closed, block_after, two_blocks}

-- ---- V lines

unfoldable pub slotted : Sheet → ℕ → List Slot → Sheet
slotted s b l = record {
  block = b;
  parents = s.parents;
  rows = s.rows;
  objects = s.objects;
  slots = l;
  lines = s.lines;
  definitions = s.definitions;
  rules = s.rules;
  current = s.current;
}

pub record SlotFact (s : Sheet) (x : Slot) : Type 0 where
  pub object_low : x.object < 96
  pub row_low : x.row < 64
  pub within : T (value_within x.value)
  pub object_known : x.object < length s.objects
  pub row_known : x.row < length s.rows
  pub parts_known_lem : T (every_part (object_below (length s.objects)) x.value)
  pub suited : T (is_a (plain s) x.object (class ((plain s).row x.row).owner))
  pub belong : T (belongs (plain s) ((plain s).row x.row).type x.value)
  pub in_order_lem : T (ordered x.value)

pub record SlotFacts (s : Sheet) (xs : List Slot) (t : Sheet) : Type 0 where
  pub result : t ≡ slotted s (block_after 3 s.block xs) (s.slots ++ xs)
  pub facts : Each (SlotFact s) xs
  pub room : length s.slots ≤ 1024 → length s.slots + length xs ≤ 1024
  pub total : total_size s.slots ≤ 2048 → total_size s.slots + total_size xs ≤ 2048
  pub low : 1 ≤ length xs → s.block ≤ 3

-- what a V line has met, and what is enough for it
module _ (s : Sheet) (x : Slot) where
  met_slot : Met s (value_line x.object x.row x.value) → SlotFact s x × (s.block ≤ 3) × (length s.slots < 1024) × (total_size s.slots + size x.value ≤ 2048)
  unfolding within_limits in_order numbered block_of parts_known suits plain model_of is_a
  met_slot m =
      let o = x.object in let a = x.row in let v = x.value in
      let l₃ = and_l (ltb o 96 && ltb a 64 && value_within v && ltb (length s.slots) 1024) _ m.limits in
      let l₂ = and_l (ltb o 96 && ltb a 64 && value_within v) _ l₃ in
      let l₁ = and_l (ltb o 96 && ltb a 64) _ l₂ in
      let k₁ = and_l (ltb o (length s.objects) && ltb a (length s.rows)) _ m.parts in (
        record {
          object_low = ltb→lt o 96 (and_l (ltb o 96) _ l₁);
          row_low = ltb→lt a 64 (and_r (ltb o 96) _ l₁);
          within = and_r (ltb o 96 && ltb a 64) _ l₂;
          object_known = ltb→lt o (length s.objects) (and_l (ltb o (length s.objects)) _ k₁);
          row_known = ltb→lt a (length s.rows) (and_r (ltb o (length s.objects)) _ k₁);
          parts_known_lem = and_r (ltb o (length s.objects) && ltb a (length s.rows)) _ m.parts;
          suited = and_l (is_a (model_of s) o (class ((model_of s).row a).owner)) _ m.suit;
          belong = subst T (belongs_same (model_of s) (plain s) refl refl ((model_of s).row a).type v) (and_r (is_a (model_of s) o (class ((model_of s).row a).owner)) _ m.suit);
          in_order_lem = and_r (after_slots s.slots o a) _ (and_r (leb s.block 3) _ m.order);
        },
        leb→le s.block 3 (and_l (leb s.block 3) _ m.order),
        ltb→lt (length s.slots) 1024 (and_r (ltb o 96 && ltb a 64 && value_within v) _ l₃),
        leb→le (total_size s.slots + size v) 2048 (and_r (ltb o 96 && ltb a 64 && value_within v && ltb (length s.slots) 1024) _ m.limits),
      )

  slot_met : SlotFact s x → s.block ≤ 3 → length s.slots < 1024 → total_size s.slots + size x.value ≤ 2048 → T (after_slots s.slots x.object x.row)
      → Met s (value_line x.object x.row x.value)
  unfolding on_text within_limits in_order numbered block_of parts_known calls_smaller calls_known suits tree_holds plain model_of is_a
  slot_met f b l z after =
      let o = x.object in let a = x.row in let v = x.value in record {
        brackets = tt;
        sentence = tt;
        limits =
            and_i (ltb o 96 && ltb a 64 && value_within v && ltb (length s.slots) 1024) (leb (total_size s.slots + size v) 2048)
            (and_i (ltb o 96 && ltb a 64 && value_within v) (ltb (length s.slots) 1024)
            (and_i (ltb o 96 && ltb a 64) (value_within v) (and_i (ltb o 96) (ltb a 64) (lt→ltb o 96 f.object_low) (lt→ltb a 64 f.row_low)) f.within) (lt→ltb (length s.slots) 1024 l))
            (le→leb (total_size s.slots + size v) 2048 z);
        order = and_i (leb s.block 3) (after_slots s.slots o a && ordered v) (le→leb s.block 3 b) (and_i (after_slots s.slots o a) (ordered v) after f.in_order_lem);
        parts =
            and_i (ltb o (length s.objects) && ltb a (length s.rows)) (every_part (object_below (length s.objects)) v)
            (and_i (ltb o (length s.objects)) (ltb a (length s.rows)) (lt→ltb o (length s.objects) f.object_known) (lt→ltb a (length s.rows) f.row_known)) f.parts_known_lem;
        smaller = tt;
        known = tt;
        suit =
            and_i (is_a (model_of s) o (class ((model_of s).row a).owner)) (belongs (model_of s) ((model_of s).row a).type v) f.suited
            (subst T (belongs_same (plain s) (model_of s) refl refl ((model_of s).row a).type v) f.belong);
        tree = tt;
      }

-- what is asked of a slot's value does not follow the other slots
fact_up : (s : Sheet) (b : ℕ) (l : List Slot) (x : Slot) → SlotFact (slotted s b l) x → SlotFact s x
unfolding slotted plain
fact_up s b l x f = record {
  object_low = f.object_low;
  row_low = f.row_low;
  within = f.within;
  object_known = f.object_known;
  row_known = f.row_known;
  parts_known_lem = f.parts_known_lem;
  suited = f.suited;
  belong = f.belong;
  in_order_lem = f.in_order_lem;
}

fact_down : (s : Sheet) (b : ℕ) (l : List Slot) (x : Slot) → SlotFact s x → SlotFact (slotted s b l) x
unfolding slotted plain
fact_down s b l x f = record {
  object_low = f.object_low;
  row_low = f.row_low;
  within = f.within;
  object_known = f.object_known;
  row_known = f.row_known;
  parts_known_lem = f.parts_known_lem;
  suited = f.suited;
  belong = f.belong;
  in_order_lem = f.in_order_lem;
}

total_more : (xs : List Slot) (y : Slot) → total_size (xs ++ (y ∷ [])) ≡ total_size xs + size y.value
unfolding total_size
total_more [] y = omega arith
total_more (x ∷ xs) y = let a = total_more xs y in omega arith

one_slot : (s t : Sheet) (x : Slot) (xs : List Slot) → Met s (value_line x.object x.row x.value) → SlotFacts (slotted s 3 (s.slots ++ (x ∷ []))) xs t → SlotFacts s (x ∷ xs) t
unfolding block_after slotted total_size
one_slot s t x xs m f = let y = met_slot s x m in let l = length_more s.slots x in let z = total_more s.slots x in record {
  result = f.result ∙ ap (λ b. slotted s b ((s.slots ++ (x ∷ [])) ++ xs)) (two_blocks 3 xs) ∙ ap (slotted s 3) (append_assoc s.slots (x ∷ []) xs);
  facts = each-cons y.0 (each_imp (λ w g. fact_up s 3 (s.slots ++ (x ∷ [])) w g) f.facts);
  room = λ h. let a = f.room (let b = y.2 in omega arith) in omega arith;
  total = λ h. let a = f.total (let b = y.3 in omega arith) in omega arith;
  low = λ h. y.1;
}

pub slots_facts : (xs : List Slot) (s t : Sheet) (k j : ℕ) → Takes s k (value_lines xs) t j → s.current ≡ none → SlotFacts s xs t
unfolding value_lines block_after added total_size slotted
slots_facts [] s t k j takes_nil h = record {
  result = ap (slotted s s.block) (sym (append-nil s.slots));
  facts = each_nil;
  room = λ l. omega arith;
  total = λ l. omega arith;
  low = λ l. absurd (omega arith);
}
slots_facts (x ∷ xs) s t k j (takes_cons {t = w} e m r) h =
    let y = value_line x.object x.row x.value in
    let z = closed_none (of_body y) s w h e in
    one_slot s t x xs (subst (λ u. Met u y) (sym z) m)
    (slots_facts xs (added s (suc k) y) t (suc k) j (subst (λ u. Takes (added u (suc k) y) (suc k) (value_lines xs) t j) (sym z) r) h)

pub slots_taken : (xs : List Slot) (s : Sheet) (k : ℕ) → s.current ≡ none → (1 ≤ length xs → s.block ≤ 3) → Each (SlotFact s) xs → length s.slots + length xs ≤ 1024
    → total_size s.slots + total_size xs ≤ 2048 → Ascending (s.slots ++ xs) → Takes s k (value_lines xs) (slotted s (block_after 3 s.block xs) (s.slots ++ xs)) (k + length xs)
unfolding value_lines block_after added slotted total_size
slots_taken [] s k h b each_nil r z a =
    let e : slotted s s.block (s.slots ++ []) ≡ s = ap (slotted s s.block) (append-nil s.slots) in
    let i : k + 0 ≡ k = omega arith in
    subst (λ t. Takes s k [] t (k + 0)) (sym e) (subst (Takes s k [] s) (sym i) takes_nil)
slots_taken (x ∷ xs) s k h b (each-cons f fs) r z a =
    let l = length_more s.slots x in let w = total_more s.slots x in
    let y = value_line x.object x.row x.value in
    let s₁ = added s (suc k) y in
    let c = append_assoc s.slots (x ∷ []) xs in
    let p = slots_taken xs s₁ (suc k) h (λ q. omega arith) (each_imp (λ v g. fact_down s 3 (s.slots ++ (x ∷ [])) v g) fs) (omega arith) (omega arith) (subst Ascending (sym c) a) in
    let i : suc k + length xs ≡ k + length (x ∷ xs) = omega arith in
    let e : slotted s₁ (block_after 3 3 xs) ((s.slots ++ (x ∷ [])) ++ xs) ≡ slotted s 3 (s.slots ++ (x ∷ xs)) =
    ap (λ b. slotted s b ((s.slots ++ (x ∷ [])) ++ xs)) (two_blocks 3 xs) ∙ ap (slotted s 3) c in
    takes_cons (none_closed (of_body y) s h) (slot_met s x f (b (omega arith)) (omega arith) (omega arith) (ascending_after s.slots x xs a))
    (subst (λ t. Takes s₁ (suc k) (value_lines xs) t (k + length (x ∷ xs))) e (subst (Takes s₁ (suc k) (value_lines xs) (slotted s₁ (block_after 3 3 xs) ((s.slots ++ (x ∷ [])) ++ xs))) i p))
