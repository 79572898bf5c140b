-- Slots taken from words as V lines: where each one lies, and the answers of `take_slot` and `take_slots`. Assumes nothing.
use mathlib.Core.Path.{◌≡◌, refl, sym, ap, ◌∙◌, subst}
use mathlib.Core.Bool.{Bool, true, false}
use mathlib.Core.List.{List, [], ◌∷◌, ◌++◌}
use Prim.Native.Nat.{ℕ, ◌+◌, ◌-◌, ◌/◌, ◌%◌, ◌<◌, ◌≤◌}
use native.Mathlib.Omega.{arith}
use native.Mathlib.Decide.{dec_lt}
use borrow.Author.Tests.{eq-eqb, ne_eqb, lt-ltb, le-ltb}
use lib.ListN.{length, get_or, take, drop, length-take, length-drop}
use lib.Seq.{slice, get_or-take, get_or-drop}
use lib.Dec.{eqb}
use Rattle.std.specs.Prelude.{if◌then◌else◌, Option, Some, None, Result, Ok, Err}
use Rattle.std.specs.List.{AllWithin, HoldsAt}
use Rattle.std.specs.Option.{MatchOption, unwrap_or}
use Rattle.laws.specs.Lists.{each_nil, each-cons}
use Rattle.laws.proofs.Lists.{each_append}
use Rattle.laws.proofs.Slices.{cut_part}
use Rattle.memory.specs.Map as memory
use Rattle.sheet.specs.Sheet.{Slot, Sheet, added}
use Rattle.sheet.specs.Reading.{Step, taken, refuse, step_line}
use Rattle.sheet.proofs.GoodLines.{slot_ok}
use Rattle.board.specs.Laws.{on_taken, take_slots}
use Rattle.board.proofs.Facts.{line_for, met_taken}
use Rattle.board.proofs.Judged.{Passed, met_of}
use Rattle.board.proofs.AsLines.{taken_same}
use Rattle.tables.specs.declared.Counts.{Counts}
use Rattle.tables.specs.Layout.{slot_key, Holds, Fine, Kept, Moved, moved_next, moved_refused}
use Rattle.tables.proofs.Tables.{kept_refl, kept_then}
use Rattle.slots.specs.Slots.{SmallRows}
use Rattle.replay.specs.Slots.{Lying, end_in, SlotAt, SlotsAt, none_left, one_more, FirstFrom, after_in, CellsTook, SlotReplayed, SlotsReplayed, most_keys}
use Rattle.memory.specs.Refusals.{number}
use Rattle.memory.specs.declared.refusals.Refusal.{Refusal}
use Rattle.memory.specs.declared.refusals.Refusal.TheVariants.{OverMeasure}

pub stop_next : {A : Type 0} {e : Refusal} {su : Counts} → Err e ≡ Ok su → A
stop_next q = absurd (let z : ◌≡◌ {A = ℕ} 0 1 = cc in omega arith)

-- ---- `end_of`, `slots_before` and `slot_after`

module _ (words : List ℕ) (n j : ℕ) where
  pub end_last : j + 1 ≡ n → get_or words 1 0 ≡ end_in words n j
  unfolding end_in
  end_last e = rw (eq-eqb (j + 1) n e)

  pub end_next : (j + 1 ≡ n → ⊥) → get_or words (memory.starts + (j + 1)) 0 ≡ end_in words n j
  unfolding end_in
  end_next e = rw (ne_eqb (j + 1) n e)

module _ (words : List ℕ) {n p : ℕ} (key : ℕ) where
  pub after_same : p < n → get_or words (memory.keys + p) 0 ≡ key → p + 1 ≡ after_in words n p key
  unfolding after_in
  after_same l e = rw (lt-ltb p n l, eq-eqb (get_or words (memory.keys + p) 0) key e)

  pub after_other : p < n → (get_or words (memory.keys + p) 0 ≡ key → ⊥) → p ≡ after_in words n p key
  unfolding after_in
  after_other l e = rw (lt-ltb p n l, ne_eqb (get_or words (memory.keys + p) 0) key e)

  pub after_low : {q : ℕ} → p ≤ n → q ≡ after_in words n p key → q ≤ n
  unfolding after_in
  after_low {q} l e = by (dec_lt p n)
    where
      by : Dec (p < n) → q ≤ n
      by (yes k) = low (eqb (get_or words (memory.keys + p) 0) key) (e ∙ rw (lt-ltb p n k))
        where
          low : (b : Bool) → q ≡ (if b then p + 1 else p) → q ≤ n
          low true e = omega arith
          low false e = omega arith
      by (no k) = let z : q ≡ p = e ∙ rw (le-ltb p n (omega arith)) in omega arith

  pub after_end : n ≤ p → p ≡ after_in words n p key
  unfolding after_in
  after_end l = rw (le-ltb p n l)

-- ---- slot j of n

-- the cells between two places, as they are lent and as a slice
part_is : (words : List ℕ) (n j from to : ℕ) → from ≡ get_or words (memory.starts + j) 0 → to ≡ end_in words n j → to ≤ 2048 → from < to → 8192 ≤ length words
    → take (memory.cells + to - (memory.cells + from)) (drop (memory.cells + from) words) ≡ slice (memory.cells + get_or words (memory.starts + j) 0) (memory.cells + end_in words n j) words
part_is words n j from to start end room up long =
    let z : memory.cells + from + (memory.cells + to - (memory.cells + from)) ≡ memory.cells + to = omega arith in
    sym (ap (λ (i : ℕ). drop (memory.cells + from) (take i words)) (sym z) ∙ cut_part (memory.cells + from) (memory.cells + to - (memory.cells + from)) words (omega arith))
    ∙ ap (λ (i : ℕ). slice (memory.cells + i) (memory.cells + to) words) start ∙ ap (λ (i : ℕ). slice (memory.cells + get_or words (memory.starts + j) 0) (memory.cells + i) words) end

module _ (words : List ℕ) (n j : ℕ) {st : Counts} {w0 w1 : List ℕ} where
  none_there : ((x : Slot) → SlotAt words n j x → ⊥) → SlotReplayed words n j st (Err OverMeasure) w0 w1 w0
  none_there h = record { is = λ s x g m a. absurd (h x a); found = λ e. stop_next e; kept = kept_refl w0 }

  pub high_key : most_keys ≤ get_or words (memory.keys + j) 0 → SlotReplayed words n j st (Err OverMeasure) w0 w1 w0
  high_key h = none_there (λ x a. let k = a.key in let l = a.low in omega arith)

  pub high_end : {to : ℕ} → to ≡ end_in words n j → 2048 < to → SlotReplayed words n j st (Err OverMeasure) w0 w1 w0
  high_end e h = none_there (λ x a. let l = a.room in omega arith)

  pub no_cell : {from to : ℕ} → from ≡ get_or words (memory.starts + j) 0 → to ≡ end_in words n j → to ≤ from → SlotReplayed words n j st (Err OverMeasure) w0 w1 w0
  no_cell f e h = none_there (λ x a. let l = a.up in omega arith)

  module _ {from to : ℕ} (start : from ≡ get_or words (memory.starts + j) 0) (end : to ≡ end_in words n j) (low : get_or words (memory.keys + j) 0 < most_keys) (room : to ≤ 2048) (up : from < to) (long : 8192 ≤ length words) where
    pub slot_took : {r : Result Counts Refusal} {v0 : List ℕ} → CellsTook (take (memory.cells + to - (memory.cells + from)) (drop (memory.cells + from) words)) (get_or words (memory.keys + j) 0) st r w0 w1 v0 → SlotReplayed words n j st r w0 w1 v0
    unfolding slot_key
    slot_took took = record {
      is = λ s x h m a. took.is s x h m a.key a.row a.fits a.within (part_is words n j from to start end room up long ∙ a.cells);
      found = λ e.
          let v = took.found e in (
            record { object = get_or words (memory.keys + j) 0 / 64; row = get_or words (memory.keys + j) 0 % 64; value = v.value },
            record { row = omega arith; key = omega arith; low = omega arith; fits = v.fits; within = v.within; up = omega arith; room = omega arith; cells = sym (part_is words n j from to start end room up long) ∙ v.lies },
          );
      kept = took.kept;
    }

-- ---- a slot more on the sheet

small_added : (u : Sheet) (x : Slot) → SmallRows u → x.row < 64 → SmallRows (added u 1 (line_for x))
unfolding added
small_added u x m l = record { rows = each_append m.rows (each-cons l each_nil) }

pub rows_more : (u : Sheet) (x : Slot) {t : Sheet} → step_line u 1 (line_for x) ≡ taken t → SmallRows u → SmallRows t
rows_more u x {t} e m =
    let k = met_of u 1 x.object x.row x.value (subst Passed (sym e) (unfold Passed in tt)) in
    subst SmallRows (taken_same (sym (met_taken u 1 x k) ∙ e)) (small_added u x m (slot_ok u x.object x.row x.value k).low_row)

-- the code goes on, and so does the definition
pub record Onward (v0 w1 : List ℕ) (st : Counts) (y : Step) : Type 0 where
  pub sheet : Sheet
  pub is : y ≡ taken sheet
  pub fine : Fine st
  pub holds : Holds st v0 w1 sheet

pub onward : {v0 w1 : List ℕ} {st : Counts} {y : Step} → Moved v0 w1 (Ok st) y → Onward v0 w1 st y
onward (moved_next {s = t} f g) = record { sheet = t; is = refl; fine = f; holds = g }

pub stopped : {v0 w1 : List ℕ} {e : Refusal} {y : Step} → Moved v0 w1 (Err e) y → y ≡ refuse (number e)
stopped moved_refused = refl

-- ---- the slots from one number to another

pub record Left (words : List ℕ) (n to j : ℕ) (su : Counts) (w0 w1 : List ℕ) (s : Sheet) (xs : List Slot) : Type 0 where
  pub sheet : Sheet
  pub rest : List Slot
  pub holds : Holds su w0 w1 sheet
  pub small : SmallRows sheet
  pub at : SlotsAt words n to j rest
  pub same : take_slots s xs ≡ take_slots sheet rest

pub record Taking (words : List ℕ) (n from to : ℕ) (st : Counts) (u0 : List ℕ) (su : Counts) (j : ℕ) (w0 : List ℕ) : Type 0 where
  pub low : j ≤ to
  pub lying : Lying su w0
  pub found : (xs : List Slot) × SlotsAt words n j from xs
  pub going : (w1 : List ℕ) (s : Sheet) (xs : List Slot) → Holds st u0 w1 s → SmallRows s → SlotsAt words n to from xs → Left words n to j su w0 w1 s xs
  pub kept : Kept u0 w0

pub taking_first : {words : List ℕ} {n from to : ℕ} {st : Counts} {w0 : List ℕ} → from ≤ to → Lying st w0 → Taking words n from to st w0 st from w0
taking_first {w0 = w0} l h = record {
  low = l;
  lying = h;
  found = ([], none_left refl);
  going = λ w1 s xs g m a. record { sheet = s; rest = xs; holds = g; small = m; at = a; same = refl };
  kept = kept_refl w0;
}

-- one more at the end
slots_more : {words : List ℕ} {n k i : ℕ} {xs : List Slot} (x : Slot) → SlotAt words n k x → SlotsAt words n k i xs → SlotsAt words n (k + 1) i (xs ++ (x ∷ []))
slots_more {words} {n} {k} {i} x a (none_left e) = one_more {i = i} (omega arith) (subst (λ i. SlotAt words n i x) (sym e) a) (none_left {i = i + 1} (omega arith))
slots_more {i = i} x a (one_more l b h) = one_more {i = i} (omega arith) b (slots_more x a h)

record Head (words : List ℕ) (n to j : ℕ) (xs : List Slot) : Type 0 where
  first : Slot
  rest : List Slot
  are : xs ≡ first ∷ rest
  here : SlotAt words n j first
  at : SlotsAt words n to (j + 1) rest

head_of : {words : List ℕ} {n to j : ℕ} {xs : List Slot} → j < to → SlotsAt words n to j xs → Head words n to j xs
head_of l (none_left e) = absurd (omega arith)
head_of l (one_more {x = x} {xs} k a h) = record { first = x; rest = xs; are = refl; here = a; at = h }

module _ {words : List ℕ} {n from to : ℕ} {st : Counts} {u0 : List ℕ} {su : Counts} {j : ℕ} {w0 : List ℕ} (t : Taking words n from to st u0 su j w0) where
  pub taking_end : to ≤ j → (w1 : List ℕ) → SlotsReplayed words n from to st (Ok su) u0 w1 w0
  unfolding take_slots
  taking_end h w1 = record {
    is = λ s xs g m a. by s xs (t.going w1 s xs g m a);
    found = λ e. (t.found.0, subst (λ k. SlotsAt words n k from t.found.0) (let l = t.low in let z : j ≡ to = omega arith in z) t.found.1);
    kept = t.kept;
  }
    where
      none : {xs : List Slot} → SlotsAt words n to j xs → xs ≡ []
      none (none_left e) = refl
      none (one_more l a b) = absurd (omega arith)

      by : (s : Sheet) (xs : List Slot) → Left words n to j su w0 w1 s xs → Moved w0 w1 (Ok su) (take_slots s xs)
      by s xs x = rw (x.same ∙ ap (take_slots x.sheet) (none x.at)) (moved_next t.lying.fine x.holds)

  module _ (more : j < to) {r : Result Counts Refusal} {v0 : List ℕ} (took : (w1 : List ℕ) → SlotReplayed words n j su r w0 w1 v0) where
    pub taking_stop : {k : Refusal} → r ≡ Err k → (w1 : List ℕ) → SlotsReplayed words n from to st (Err k) u0 w1 v0
    unfolding take_slots on_taken
    taking_stop {k} e w1 = record {
      is = λ s xs g m a. by s xs (t.going w1 s xs g m a);
      found = λ q. stop_next q;
      kept = kept_then t.kept (took w1).kept;
    }
      where
        by : (s : Sheet) (xs : List Slot) → Left words n to j su w0 w1 s xs → Moved v0 w1 (Err k) (take_slots s xs)
        by s xs x =
            let h = head_of more x.at in
            let q = stopped (subst (λ c. Moved v0 w1 c (step_line x.sheet 1 (line_for h.first))) e ((took w1).is x.sheet h.first x.holds x.small h.here)) in
            rw (x.same ∙ ap (take_slots x.sheet) h.are ∙ ap (λ y. on_taken y (λ u. take_slots u h.rest)) q) moved_refused

    module _ {next : Counts} (e : r ≡ Ok next) where
      step : (w1 : List ℕ) (u : Sheet) (x : Slot) → Holds su w0 w1 u → SmallRows u → SlotAt words n j x → Onward v0 w1 next (step_line u 1 (line_for x))
      step w1 u x g m a = onward (subst (λ c. Moved v0 w1 c (step_line u 1 (line_for x))) e ((took w1).is u x g m a))

      pub taking_again : Taking words n from to st u0 next (j + 1) v0
      unfolding take_slots on_taken
      taking_again =
          let y = t.lying in
          let x = (took y.w1).found e in
          let p = step y.w1 y.sheet x.0 y.holds y.small x.1 in
          record {
            low = omega arith;
            lying = record { w1 = y.w1; sheet = p.sheet; holds = p.holds; small = rows_more y.sheet x.0 p.is y.small; fine = p.fine };
            found = (t.found.0 ++ (x.0 ∷ []), slots_more x.0 x.1 t.found.1);
            going = λ w1 s xs g m a. by w1 s xs (t.going w1 s xs g m a);
            kept = kept_then t.kept (took y.w1).kept;
          }
        where
          by : (w1 : List ℕ) (s : Sheet) (xs : List Slot) → Left words n to j su w0 w1 s xs → Left words n to (j + 1) next v0 w1 s xs
          by w1 s xs x =
              let h = head_of more x.at in
              let p = step w1 x.sheet h.first x.holds x.small h.here in
              record {
                sheet = p.sheet;
                rest = h.rest;
                holds = p.holds;
                small = rows_more x.sheet h.first p.is x.small;
                at = h.at;
                same = x.same ∙ ap (take_slots x.sheet) h.are ∙ ap (λ y. on_taken y (λ u. take_slots u h.rest)) p.is;
              }

-- ---- what comes before a key

-- the first of the n keys that is not below the key
module _ (words : List ℕ) (n key : ℕ) (room : memory.keys + n ≤ length words) where
  abbrev first_keys : List ℕ
  first_keys = take (memory.keys + n - memory.keys) (drop memory.keys words)

  key_at : (j : ℕ) → j < n → get_or first_keys j 0 ≡ get_or words (memory.keys + j) 0
  key_at j h = get_or-take (memory.keys + n - memory.keys) (drop memory.keys words) j 0 (omega arith) ∙ get_or-drop memory.keys words j 0

  keys_long : length first_keys ≡ n
  keys_long = simp (length-take, length-drop) (omega arith)

  pub first_is : (r : Option ℕ) {p : ℕ}
      → MatchOption r (AllWithin (λ k. k < key) first_keys 0 (length first_keys)) (λ i. (i < length first_keys) × HoldsAt (λ k. key ≤ k) first_keys i × AllWithin (λ k. k < key) first_keys 0 i)
      → p ≡ unwrap_or r n → FirstFrom words n key p
  first_is None h e = rw e (record {
    low = omega arith;
    below = λ j l. omega (arith, key_at j l, h j 0 (omega arith) (omega (arith, keys_long)));
    at = λ l. absurd (omega arith);
  })
  first_is (Some i) h e = rw e (record {
    low = omega (arith, keys_long, h.0);
    below = λ j l. omega (arith, key_at j (omega (arith, keys_long, h.0)), h.2 j 0 (omega arith) l);
    at = λ l. omega (arith, key_at i l, h.1 0);
  })
