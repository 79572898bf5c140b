-- The slots of a board with an edit made, on an accepted sheet: the answers of `edit_slots`. Assumes nothing.
use mathlib.Core.Path.{◌≡◌, refl, sym, ap, ◌∙◌, subst}
use mathlib.Core.Bool.{Bool, true, false}
use mathlib.Core.Option.{Option, none, some}
use mathlib.Core.List.{List, [], ◌++◌}
use Prim.Native.Nat.{ℕ, ◌+◌, ◌*◌, ◌%◌, ◌<◌, ◌≤◌}
use native.Mathlib.Omega.{arith}
use lib.ListN.{length, get_or}
use lib.Dec.{T, leb, leb→le}
use Rattle.laws.proofs.Tests.{and_l, test_true}
use Rattle.ocl.specs.Types.{Ty}
use Rattle.sheet.specs.Text.{Bytes, fields_of}
use Rattle.sheet.specs.Sheet.{Slot, Sheet}
use Rattle.sheet.specs.Limits.{total_size}
use Rattle.sheet.specs.Reading.{Step, taken, refuse}
use Rattle.sheet.specs.Calls.{refusal_at}
use Rattle.board.specs.Edits.{Edit, edit_of, slot_for, slots_before, slots_after, edited, with_slots, judged, has_room}
use Rattle.board.specs.Board.{Board}
use Rattle.board.specs.Calls.{on_judged, answered, edit_on}
use Rattle.board.specs.Laws.{take_slots}
use Rattle.board.proofs.Judged.{Passed}
use Rattle.board.proofs.AsLines.{not_taken, lined, lined_edited}
use Rattle.tables.specs.declared.Counts.{Counts}
use Rattle.tables.specs.Layout.{Holds, Fine}
use Rattle.tables.proofs.Tables.{kept_then}
use Rattle.rules.specs.Accepted.{Accepted}
use Rattle.board_words.specs.Layout.{BoardLies}
use Rattle.replay.specs.Slots.{Lying}
use Rattle.replay.specs.Judging.{empty_counts, judged_edit, JudgedAs, judged_stop, judged_key, Judges}
use Rattle.replay.specs.Replays.{last_counts, Parted, Spelled, Comes, comes_next, comes_stop, Replaying, ReplayedAs, refused, replayed, EditTook}
use Rattle.replay.proofs.ValuedLaws.{empty_fine, empty_rows, accepted_with}
use Rattle.replay.proofs.FoundLaws.{slots_at, parted_same, parted}
use Rattle.std.specs.Prelude.{Result, Ok, Err}
use Rattle.memory.specs.declared.refusals.Refusal.{Refusal}
use Rattle.memory.specs.declared.refusals.Refusal.TheVariants.{BoardFull}

-- ---- an edit that is refused by itself

step_number : Step → ℕ
step_number (taken s) = 0
step_number (refuse n) = n

on_refused : (s : Sheet) (b : Board) (room : ℕ) (edit : Option Edit) {n : ℕ} → judged_edit s edit ≡ refuse n → edit_on room s b edit ≡ refusal_at n 1
unfolding judged_edit edit_on on_judged step_number
on_refused s b room none e = ap (λ (n : ℕ). refusal_at n 1) (ap step_number e)
on_refused s b room (some x) e = rw e

module _ {line : Bytes} {words : List ℕ} {st : Counts} {w0 w1 v0 : List ℕ} where
  pub edit_refused : {n : Refusal} → Judges line st (Err n) w0 w1 v0 → EditTook line words st (Err n) w0 w1 v0
  edit_refused {n} h = record { is = λ s ts a. by s ts (h.is s a.lies.holds); kept = h.kept }
    where
      by : (s : Sheet) (ts : List Ty) → JudgedAs line st s v0 w1 (Err n) → ReplayedAs (edit_of (fields_of line)) words s ts v0 w1 (Err n)
      by s ts (judged_stop e) = refused (λ b l room. on_refused s b room (edit_of (fields_of line)) e)

-- ---- an edit that is made

pub record Keyed (line : Bytes) (st : Counts) (s : Sheet) (v0 w1 : List ℕ) (key : ℕ) : Type 0 where
  pub edit : Edit
  pub sheet : Sheet
  pub is : edit_of (fields_of line) ≡ some edit
  pub judges : judged s edit ≡ taken sheet
  pub row : edit.row < 64
  pub holds : Holds (empty_counts st) v0 w1 (with_slots s 3 [])
  pub at : key ≡ edit.object * 64 + edit.row

pub keyed : {line : Bytes} {st : Counts} {s : Sheet} {v0 w1 : List ℕ} {key : ℕ} → JudgedAs line st s v0 w1 (Ok key) → Keyed line st s v0 w1 key
keyed (judged_key e t i j l h) = record { edit = e; sheet = t; is = i; judges = j; row = l; holds = h; at = refl }

pub lying_emptied : {line : Bytes} {st : Counts} {w0 v0 : List ℕ} {key : ℕ} → Lying st w0 → ((w1 : List ℕ) → Judges line st (Ok key) w0 w1 v0) → Lying (empty_counts st) v0
lying_emptied y h =
    let k = keyed ((h y.w1).is y.sheet y.holds) in
    record { w1 = y.w1; sheet = with_slots y.sheet 3 []; holds = k.holds; small = empty_rows y.sheet; fine = empty_fine y.fine }

pub spelled_judged : {line : Bytes} {st : Counts} {w0 v0 : List ℕ} {key : ℕ} → Lying st w0 → ((w1 : List ℕ) → Judges line st (Ok key) w0 w1 v0) → Spelled line
spelled_judged y h = let k = keyed ((h y.w1).is y.sheet y.holds) in record { edit = k.edit; is = k.is }

-- the board's slots with the edit made
few_slots : (words : List ℕ) (s : Sheet) (b : Board) → BoardLies words s b → get_or words 0 0 ≤ 1024
unfolding has_room
few_slots words s b l =
    let h = lined s l.as_lines in
    omega (arith, l.lies.count, leb→le (length b.slots) 1024 (and_l (leb (length b.slots) 1024) (leb (total_size b.slots) 2048) h.room))

board_parted : (words : List ℕ) (s : Sheet) (b : Board) (e : Edit) → BoardLies words s b → e.row < 64
    → Parted words (e.object * 64 + e.row) (slots_before b.slots e.object e.row) (slots_after b.slots e.object e.row)
board_parted words s b e l row =
    let h = lined s l.as_lines in
    parted words e.object e.row row (few_slots words s b l) (slots_at words b.slots l.lies h.room s h.facts)

passed_taken : {y : Step} {t : Sheet} → y ≡ taken t → Passed y
passed_taken e = subst Passed (sym e) (unfold Passed in tt)

-- there is no room
on_full : (s : Sheet) (b : Board) (room : ℕ) (e : Edit) {t : Sheet} → judged s e ≡ taken t → has_room (edited b.slots e) ≡ false → edit_on room s b (some e) ≡ refusal_at 21 1
unfolding edit_on on_judged
on_full s b room e j h = rw (j, h)

-- there is
on_room : (s : Sheet) (b : Board) (room : ℕ) (e : Edit) {t : Sheet} → judged s e ≡ taken t → has_room (edited b.slots e) ≡ true → edit_on room s b (some e) ≡ answered room s b e
unfolding edit_on on_judged
on_room s b room e j h = rw (j, h)

comes_stopped : {w0 w1 : List ℕ} {m : Refusal} {y : Step} {t : Sheet} → Comes w0 w1 (Err m) y → y ≡ taken t → ⊥
comes_stopped comes_stop e = not_taken e

record Came (v0 w1 : List ℕ) (su : Counts) (y : Step) : Type 0 where
  sheet : Sheet
  is : y ≡ taken sheet
  fine : Fine su
  holds : Holds su v0 w1 sheet

came : {v0 w1 : List ℕ} {su : Counts} {y : Step} → Comes v0 w1 (Ok su) y → Came v0 w1 su y
came (comes_next {s = t} f h) = record { sheet = t; is = refl; fine = f; holds = h }

module _ {line : Bytes} {words : List ℕ} {st : Counts} {w0 v0 x0 : List ℕ} {key : ℕ} (judges : (w1 : List ℕ) → Judges line st (Ok key) w0 w1 v0) where
  -- what the code came to, by the edit and the slots before and after it
  went : {su : Counts} {r : Result Counts Refusal} → su ≡ empty_counts st → (w1 : List ℕ) → Replaying line key words su r v0 w1 x0 → (s : Sheet) (k : Keyed line st s v0 w1 key) (xs ys : List Slot)
      → Parted words key xs ys → Comes x0 w1 r (take_slots (with_slots s 3 []) (xs ++ slot_for k.edit.object k.edit.row k.edit.value ++ ys))
  went e w1 h s k xs ys p = h.is (with_slots s 3 []) k.edit xs ys (rw e k.holds) (empty_rows s) k.is p

  pub edit_full : {su : Counts} {m : Refusal} {r : Result Counts Refusal} → su ≡ empty_counts st → r ≡ Err m → ((w1 : List ℕ) → Replaying line key words su r v0 w1 x0)
      → (w1 : List ℕ) → EditTook line words st (Err BoardFull) w0 w1 x0
  unfolding edited
  edit_full {su} {m} {r} e i h w1 = record { is = λ s ts a. by s ts (keyed ((judges w1).is s a.lies.holds)); kept = kept_then (judges w1).kept (h w1).kept }
    where
      full : (s : Sheet) (k : Keyed line st s v0 w1 key) (b : Board) → BoardLies words s b → (y : Bool) → has_room (edited b.slots k.edit) ≡ y → y ≡ false
      full s k b l false q = refl
      full s k b l true q =
          let c = subst (λ c. Comes x0 w1 c (take_slots (with_slots s 3 []) (edited b.slots k.edit))) i
          (went e w1 (h w1) s k (slots_before b.slots k.edit.object k.edit.row) (slots_after b.slots k.edit.object k.edit.row) (rw k.at (board_parted words s b k.edit l k.row))) in
          absurd (comes_stopped c (lined_edited s k.edit (lined s l.as_lines) (passed_taken k.judges) (subst T (sym q) tt)))

      by : (s : Sheet) (ts : List Ty) → Keyed line st s v0 w1 key → ReplayedAs (edit_of (fields_of line)) words s ts x0 w1 (Err BoardFull)
      by s ts k = refused (λ b l room. ap (edit_on room s b) k.is ∙ on_full s b room k.edit k.judges (full s k b l (has_room (edited b.slots k.edit)) refl))

  pub edit_made : {su next : Counts} {r : Result Counts Refusal} {last : Counts} → su ≡ empty_counts st → r ≡ Ok next → last ≡ last_counts next → ((w1 : List ℕ) → Replaying line key words su r v0 w1 x0)
      → (w1 : List ℕ) → EditTook line words st (Ok (last, (key % 64))) w0 w1 x0
  unfolding edited
  edit_made {su} {next} {r} {last} e i n h w1 = record { is = λ s ts a. by s ts a (keyed ((judges w1).is s a.lies.holds)); kept = kept_then (judges w1).kept (h w1).kept }
    where
      by : (s : Sheet) (ts : List Ty) → Accepted st w0 w1 s ts → Keyed line st s v0 w1 key → ReplayedAs (edit_of (fields_of line)) words s ts x0 w1 (Ok (last, (key % 64)))
      by s ts a k =
          let x = (h w1).found i in
          let zs = x.0 ++ slot_for k.edit.object k.edit.row k.edit.value ++ x.1.0 in
          let c = came (subst (λ c. Comes x0 w1 c (take_slots (with_slots s 3 []) zs)) i (went e w1 (h w1) s k x.0 x.1.0 x.1.1)) in
          let l = lined s c.is in
          let row : key % 64 ≡ k.edit.row = (let r = k.row in let z = k.at in omega arith) in
          rw (row, n) (replayed k.edit zs k.is k.row (accepted_with a l c.fine c.holds)
          (λ b m. let p = parted_same {us = slots_before b.slots k.edit.object k.edit.row} {vs = slots_after b.slots k.edit.object k.edit.row} x.1.1 (rw k.at (board_parted words s b k.edit m k.row)) in
          let q : zs ≡ edited b.slots k.edit = ap (λ us. us ++ slot_for k.edit.object k.edit.row k.edit.value ++ x.1.0) p.0
          ∙ ap (λ us. slots_before b.slots k.edit.object k.edit.row ++ slot_for k.edit.object k.edit.row k.edit.value ++ us) p.1 in
          (q, λ room. ap (edit_on room s b) k.is ∙ on_room s b room k.edit k.judges (test_true (has_room (edited b.slots k.edit)) (subst (λ us. T (has_room us)) q l.room)))))
