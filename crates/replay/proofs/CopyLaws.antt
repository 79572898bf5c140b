-- A slot's cells taken from words: the answers of `take_cells`. Assumes nothing.
use mathlib.Core.Path.{◌≡◌, refl, sym, ap, ◌∙◌}
use mathlib.Core.Bool.{Bool, true, false, ◌&&◌, true≢false}
use mathlib.Core.List.{List, ◌++◌}
use Prim.Native.Nat.{ℕ, ◌+◌, ◌-◌, ◌/◌, ◌%◌, ◌<◌, ◌≤◌}
use native.Mathlib.Omega.{arith}
use lib.ListN.{length, take, drop}
use lib.Seq.{slice, paste, take-paste, drop-paste, take-length, drop-drop, drop_at, length-take-le}
use lib.Dec.{T, ltb, leb, leb→le}
use Rattle.laws.proofs.Tests.{and_r, test_fails}
use Rattle.laws.proofs.Slices.{trim}
use Rattle.memory.specs.Map as memory
use Rattle.ocl.specs.Values.{size}
use Rattle.sheet.specs.Sheet.{Slot, Sheet}
use Rattle.sheet.specs.Limits.{total_size, value_within, within_limits}
use Rattle.board.proofs.Facts.{line_for}
use Rattle.values.specs.Cells.{enc}
use Rattle.values.proofs.Encoding.{size_law}
use Rattle.tables.specs.declared.Counts.{Counts}
use Rattle.tables.specs.Layout.{slot_key, Holds, Fine, moved_refused}
use Rattle.tables.proofs.Tables.{kept_refl, kept_then}
use Rattle.tables.proofs.Steps.{over_limits}
use Rattle.slots.specs.Slots.{SlotTook}
use Rattle.slots.proofs.LineLaws.{kept_behind, holds_behind}
use Rattle.replay.specs.Values.{IsValue}
use Rattle.replay.specs.Slots.{CellsTook, most_keys}
use Rattle.replay.proofs.TakingLaws.{stop_next}
use Rattle.std.specs.Prelude.{Result, Err}
use Rattle.memory.specs.declared.refusals.Refusal.{Refusal}
use Rattle.memory.specs.declared.refusals.Refusal.TheVariants.{OverMeasure}

-- ---- a slot's cells

module _ {cells : List ℕ} {key : ℕ} {st : Counts} (w0 w1 : List ℕ) {b : Bool} (value : IsValue cells b) where
  pub no_cells : b ≡ false → CellsTook cells key st (Err OverMeasure) w0 w1 w0
  no_cells z = record {
    is = λ s x h m k l f w e. absurd (true≢false (sym (value.is x.value f w e) ∙ z));
    found = λ e. stop_next e;
    kept = kept_refl w0;
  }

  pub no_room : (fine : Fine st) → 2048 - st.cells < length cells → CellsTook cells key st (Err OverMeasure) w0 w1 w0
  unfolding within_limits
  no_room fine h = record {
    is = λ s x g m k l f w e. rw (over_limits s 1 (line_for x) (test_fails (within_limits s (line_for x)) (λ t. full s x g e t))) moved_refused;
    found = λ e. stop_next e;
    kept = kept_refl w0;
  }
    where
      full : (s : Sheet) (x : Slot) → Holds st w0 w1 s → cells ≡ enc x.value → T (within_limits s (line_for x)) → ⊥
      full s x g e t =
          let l = leb→le (total_size s.slots + size x.value) 2048
          (and_r (ltb x.object 96 && ltb x.row 64 && value_within x.value && ltb (length s.slots) 1024) (leb (total_size s.slots + size x.value) 2048) t) in
          omega (arith, size_law x.value, ap length e, g.counted.cells)

  module _ (yes : b ≡ true) (low : key < most_keys) (fine : Fine st) (long : 8192 ≤ length w0) (room : st.cells + length cells ≤ 2048) {used : ℕ} (count : used ≡ st.cells) {v0 : List ℕ}
      (copied : v0 ≡ paste w0 (memory.cells + used) cells (length cells)) (same : length v0 ≡ length w0) where
    abbrev at : ℕ
    at = memory.cells + st.cells

    pasted : v0 ≡ paste w0 at cells (length cells)
    pasted = copied ∙ ap (λ (i : ℕ). paste w0 (memory.cells + i) cells (length cells)) count

    up_to : take (at + length cells) v0 ≡ take at w0 ++ cells
    up_to = ap (take (at + length cells)) pasted ∙ take-paste w0 at cells (length cells) (omega arith) (omega arith) ∙ ap (λ (l : List ℕ). take at w0 ++ l) (take-length cells)

    front : take at v0 ≡ take at w0
    front = trim at (length cells) v0 (take at w0) cells (length-take-le at w0 (omega arith)) up_to

    back : drop memory.cells_end v0 ≡ drop memory.cells_end w0
    back =
        let m = at + length cells in
        let z : m + (memory.cells_end - m) ≡ memory.cells_end = omega arith in
        ap (λ (i : ℕ). drop i v0) (sym z) ∙ sym (drop-drop (memory.cells_end - m) m v0)
        ∙ ap (drop (memory.cells_end - m)) (ap (drop m) pasted ∙ drop-paste w0 at cells (length cells) (omega arith) (omega arith))
        ∙ drop-drop (memory.cells_end - m) m w0 ∙ ap (λ (i : ℕ). drop i w0) z

    lies : slice at (at + length cells) v0 ≡ cells
    lies = ap (drop at) up_to ∙ drop_at (take at w0) cells at (length-take-le at w0 (omega arith))

    pub put_cells : {r : Result Counts Refusal} {u0 : List ℕ} → SlotTook st 1 (key / 64) (key % 64) (length cells) r v0 w1 u0 → CellsTook cells key st r w0 w1 u0
    unfolding slot_key
    put_cells took = record {
      is = λ s x h m k l f w e.
          took.is s x.object x.row x.value (holds_behind v0 w0 front back refl same long fine h) m (record { fits = f; lies = lies ∙ e }) (ap length e ∙ size_law x.value) w
          (omega arith) (omega arith);
      found = λ e. value.found yes;
      kept = kept_then (kept_behind v0 w0 front back refl same long fine) took.kept0;
    }
