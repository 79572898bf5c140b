-- Slots that ascend, have room and are each as a V line's are taken as V lines, one after the other. Assumes nothing.
use mathlib.Core.Path.{◌≡◌, refl, sym, ap, ◌∙◌, subst}
use mathlib.Core.List.{List, [], ◌∷◌, ◌++◌, append_assoc, append-nil}
use Prim.Native.Nat.{◌+◌, ◌<◌, ◌≤◌}
use native.Mathlib.Omega.{arith}
use lib.ListN.{length, length-append}
use lib.Dec.{T, leb, leb→le}
use Rattle.laws.specs.Lists.{Each, each-cons}
use Rattle.laws.proofs.Tests.{and_l, and_r}
use Rattle.ocl.specs.Values.{size}
use Rattle.sheet.specs.Sheet.{Slot, Sheet, added}
use Rattle.sheet.specs.Limits.{total_size}
use Rattle.sheet.specs.Refusals.{after_slots}
use Rattle.sheet.specs.Reading.{taken}
use Rattle.sheet.proofs.Ascending.{Ascending, ascending_after}
use Rattle.sheet.proofs.GoodLines.{Met}
use Rattle.sheet.proofs.SlotSizes.{size_append}
use Rattle.board.specs.Edits.{with_slots, has_room}
use Rattle.board.specs.Laws.{on_taken, take_slots}
use Rattle.board.proofs.Facts.{line_for, Fact, fact_same, met_by, met_taken}

module _ (s : Sheet) where
  pub with_more : (done : List Slot) (x : Slot) → added (with_slots s 3 done) 1 (line_for x) ≡ with_slots s 3 (done ++ (x ∷ []))
  with_more done x = unfold added with_slots in refl

  take_rest : (rest done : List Slot) → Ascending (done ++ rest) → length (done ++ rest) ≤ 1024 → total_size (done ++ rest) ≤ 2048 → Each (Fact s) rest
      → take_slots (with_slots s 3 done) rest ≡ taken (with_slots s 3 (done ++ rest))
  unfolding take_slots on_taken
  take_rest [] done a n m h = ap (λ l. taken (with_slots s 3 l)) (sym (append-nil done))
  take_rest (x ∷ rest) done a n m (each-cons f h) =
      let u = with_slots s 3 done in
      let z : (done ++ (x ∷ [])) ++ rest ≡ done ++ x ∷ rest = append_assoc done (x ∷ []) rest in
      let c = length-append done (x ∷ rest) in
      let d : total_size (done ++ x ∷ rest) ≡ total_size done + (size x.value + total_size rest) = unfold total_size in size_append done (x ∷ rest) in
      let t = met_taken u 1 x (met done x f (omega arith) (omega arith) (ascending_after done x rest a)) in
      ap (λ y. on_taken y (λ t. take_slots t rest)) (t ∙ ap taken (with_more done x))
      ∙ take_rest rest (done ++ (x ∷ [])) (subst Ascending (sym z) a) (subst (λ l. length l ≤ 1024) (sym z) n) (subst (λ l. total_size l ≤ 2048) (sym z) m) h
      ∙ ap (λ l. taken (with_slots s 3 l)) z
    where
      met : (done : List Slot) (x : Slot) → Fact s x → length done < 1024 → total_size done + size x.value ≤ 2048 → T (after_slots done x.object x.row) → Met (with_slots s 3 done) (line_for x)
      met done x f n m t = unfold with_slots in met_by (with_slots s 3 done) x (omega arith) (fact_same s (with_slots s 3 done) x refl refl refl f) n m t

  pub slots_taken : (xs : List Slot) → Ascending xs → T (has_room xs) → Each (Fact s) xs → take_slots (with_slots s 3 []) xs ≡ taken (with_slots s 3 xs)
  unfolding has_room
  slots_taken xs a r h = take_rest xs [] a (leb→le (length xs) 1024 (and_l (leb (length xs) 1024) (leb (total_size xs) 2048) r)) (leb→le (total_size xs) 2048 (and_r (leb (length xs) 1024) (leb (total_size xs) 2048) r)) h
