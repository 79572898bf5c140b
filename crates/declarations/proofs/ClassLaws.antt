-- C lines: how they are spelled by the fields that code reads, and each answer of `put_class`. Assumes nothing.
use mathlib.Core.Path.{◌≡◌, refl, sym, ◌∙◌}
use mathlib.Core.Bool.{true, false, true≢false}
use mathlib.Core.Option.{Option, none, some}
use mathlib.Core.List.{List, [], ◌∷◌}
use Prim.Native.Nat.{ℕ, ◌+◌, ◌≤◌, ◌<◌, min}
use native.Mathlib.Omega.{arith}
use borrow.Author.Rules.{rules}
use borrow.Author.Tests.{lt-ltb, le-ltb, eq-eqb, ne_eqb}
use lib.ListN.{length, get_or, drop, set, length-drop, length-set}
use lib.Seq.{get_or-set_same}
use Rattle.laws.proofs.Lists.{length_more}
use Rattle.sheet.specs.Text.{Bytes, bytes, fields_of}
use Rattle.sheet.specs.Lines.{class_line, is, next, done, a_number, a_parent, line_of}
use Rattle.sheet.specs.Sheet.{Sheet, added}
use Rattle.sheet.specs.Limits.{is_class, parent_within, within_limits}
use Rattle.sheet.specs.Refusals.{block_of, numbered, in_order, parent_smaller, parts_known, calls_smaller, calls_known, suits, tree_holds}
use Rattle.sheet.proofs.Parents.{parent_more}
use Rattle.types.specs.Flat.{parent_of}
use Rattle.text.specs.Numbers.{cut_num}
use Rattle.text.specs.declared.parts.Fields.{Fields}
use Rattle.text.proofs.NumberLaws.{num_bad}
use Rattle.text.proofs.PartLaws.{counted_exact}
use Rattle.tables.specs.declared.Counts.{Counts}
use Rattle.tables.specs.Layout.{parent_code, Holds, Fine}
use Rattle.tables.proofs.Tables.{kept_set}
use Rattle.tables.proofs.Entries.{definitions_same, tab_more_of, holds_kept, spare_parent, open_kept}
use Rattle.tables.proofs.Steps.{over_limits, steps_on}
use Rattle.tables.proofs.LineFields.{word_is, takes_none, takes_more, field_bad, field_some, fields_done, the, num_some, num_exact}
use Rattle.declarations.specs.Fields.{parent_num}
use Rattle.declarations.specs.Taken.{Lettered, TookSpelled}
use Rattle.declarations.proofs.TakenLaws.{stopped, passed, past_block, order_by_number, misnumbered, unknown}
use Rattle.declarations.proofs.ParentLaws.{the_parent, parent_some, parent_exact, parent_bad, code_of, code_within, code_smaller, code_not_smaller}
use Rattle.std.specs.Prelude.{Some, None, Ok, Err}
use Rattle.memory.specs.declared.refusals.Refusal.TheVariants.{OverMeasure, OutOfRow, UnknownPart}

-- ---- the fields

class_fields : (fs : List Bytes) → is (get_or fs 0 []) (bytes "C") ≡ true → line_of fs ≡ next a_number (λ n. next a_parent (λ p. done (class_line n p))) (drop 1 fs)
unfolding line_of is bytes
class_fields [] h = absurd (true≢false (sym h))
class_fields (w ∷ fs) h = rw (word_is w (bytes "C") h)

module _ {line : Bytes} {f : Fields} (so : Lettered "C" line f) where
  reads : line_of (fields_of line) ≡ next a_number (λ n. next a_parent (λ p. done (class_line n p))) (drop 1 (fields_of line))
  reads = class_fields (fields_of line) so.is_letter

  pub class_count : (f.count ≡ 3 → ⊥) → line_of (fields_of line) ≡ none
  class_count h =
      reads
      ∙ takes_more _ _ 1 (λ n. takes_more _ _ 0 (λ p. takes_none (class_line n p))) (drop 1 (fields_of line))
      (λ e. h (omega (arith, so.cut.counted, length-drop 1 (fields_of line))))

  module _ (three : f.count ≡ 3) where
    long : length (fields_of line) ≡ 3
    long = counted_exact so.cut (omega arith) ∙ three

    pub class_number : {x : Bytes} → x ≡ get_or (fields_of line) 1 [] → None ≡ cut_num (a_number x) → line_of (fields_of line) ≡ none
    class_number {x} e h = reads ∙ field_bad a_number _ (fields_of line) 1 (omega (arith, long)) (rw (← e) (num_bad (a_number x) h))

    module _ {x y : Bytes} (at1 : x ≡ get_or (fields_of line) 1 []) (at2 : y ≡ get_or (fields_of line) 2 []) {n : ℕ} (number : Some n ≡ cut_num (a_number x)) where
      first : line_of (fields_of line) ≡ next a_parent (λ p. done (class_line (the (a_number x)) p)) (drop 2 (fields_of line))
      first = reads ∙ field_some a_number _ (fields_of line) 1 (omega (arith, long)) (rw (← at1) (num_some (a_number x) number))

      pub class_parent : None ≡ parent_num (a_parent y) → line_of (fields_of line) ≡ none
      class_parent h = first ∙ field_bad a_parent _ (fields_of line) 2 (omega (arith, long)) (rw (← at2) (parent_bad (a_parent y) h))

      module _ {q : ℕ} (parent : Some q ≡ parent_num (a_parent y)) where
        pub class_spelled : line_of (fields_of line) ≡ some (class_line (the (a_number x)) (the_parent (a_parent y)))
        class_spelled =
            first
            ∙ field_some a_parent _ (fields_of line) 2 (omega (arith, long)) (rw (← at2) (parent_some (a_parent y) parent))
            ∙ fields_done (class_line (the (a_number x)) (the_parent (a_parent y))) (fields_of line) 3 (omega (arith, long))

        -- within the limits they are the numbers of the line
        pub class_exact : n < 64 → q ≤ 64 → line_of (fields_of line) ≡ some (class_line n (parent_of q))
        class_exact low high =
            class_spelled ∙ rw (num_exact (a_number x) number (omega arith), parent_exact (a_parent y) parent high)

-- numbers over their limits
module _ (st : Counts) (k : ℕ) (w0 w1 : List ℕ) (n : ℕ) (p : Option ℕ) {m : ℕ} (cut : m ≡ min n 1000000) where
  pub class_over : 64 ≤ m → TookSpelled st k (class_line n p) (Err OverMeasure) w0 w1 w0 w1
  unfolding within_limits is_class
  class_over h = stopped st k w0 w1 _ OverMeasure (λ s _. over_limits s k _ (rw (le-ltb n 64 (omega arith))))

  pub class_over_parent : m < 64 → parent_within p ≡ false → TookSpelled st k (class_line n p) (Err OverMeasure) w0 w1 w0 w1
  unfolding within_limits is_class
  class_over_parent l h = stopped st k w0 w1 _ OverMeasure (λ s _. over_limits s k _ (rw (lt-ltb n 64 (omega arith), h)))

-- ---- the entry

-- the counts with class n; the block is the first still
abbrev pub class_counts : Counts → ℕ → Counts
class_counts st n = record {
  block = st.block;
  classes = n + 1;
  rows = st.rows;
  objects = st.objects;
  slots = st.slots;
  cells = st.cells;
  nodes = st.nodes;
  definitions = st.definitions;
  rules = st.rules;
  «open» = st.open;
  context = st.context;
  result = st.result;
  first = st.first;
}

-- where the next word of the parents is the parent's already
class_held : (st : Counts) (k n : ℕ) (p : Option ℕ) (w0 w1 : List ℕ) (s : Sheet) → st.block ≤ 0 → n ≡ st.classes → n < length w0 → get_or w0 n 0 ≡ parent_code p
    → parent_smaller n p ≡ true → Holds st w0 w1 s → Holds (class_counts st n) w0 w1 (added s k (class_line n p))
unfolding added
class_held st k n p w0 w1 s b e room at less h =
    let long : 0 + length s.parents ≡ n = omega (arith, e, h.counted.classes) in
    record {
      counted = record {
        block = omega arith;
        classes = omega (arith, length_more s.parents p);
        rows = h.counted.rows;
        objects = h.counted.objects;
        slots = h.counted.slots;
        cells = h.counted.cells;
        nodes = h.counted.nodes;
        definitions = h.counted.definitions;
        rules = h.counted.rules;
      };
      tables = record {
        parents = tab_more_of parent_code 0 w0 s.parents p (rw long room) h.tables.parents (rw long at);
        smaller = parent_more s.parents p h.tables.smaller (rw (sym (e ∙ h.counted.classes), less) tt);
        owners = h.tables.owners;
        names = h.tables.names;
        types = h.tables.types;
        objects = h.tables.objects;
        keys = h.tables.keys;
        starts = h.tables.starts;
        cells = h.tables.cells;
        fits = h.tables.fits;
        contexts = h.tables.contexts;
      };
      definitions = definitions_same refl refl h.definitions;
      rules = record { bodies = h.rules.bodies; roots = h.rules.roots; lines = h.rules.lines };
      current = open_kept refl refl refl refl h.current;
    }

module _ (st : Counts) (k : ℕ) (w0 w1 : List ℕ) (n q : ℕ) (low : n < 64) (high : q ≤ 64) where
  within : (s : Sheet) → within_limits s (class_line n (parent_of q)) ≡ true
  unfolding within_limits is_class
  within s = rw (lt-ltb n 64 low, code_within q high)

  pub class_block : 0 < st.block → TookSpelled st k (class_line n (parent_of q)) (Err OutOfRow) w0 w1 w0 w1
  unfolding block_of
  class_block = past_block st k w0 w1 (class_line n (parent_of q)) within

  module _ (in_block : st.block ≤ 0) where
    pub class_gap : (n ≡ st.classes → ⊥) → TookSpelled st k (class_line n (parent_of q)) (Err OutOfRow) w0 w1 w0 w1
    unfolding block_of numbered
    class_gap o =
        misnumbered st k w0 w1 (class_line n (parent_of q)) within in_block (λ s h. ne_eqb n (length s.parents) (λ e. o (e ∙ sym h.counted.classes)))

    module _ (is_next : n ≡ st.classes) where
      its_number : (s : Sheet) → Holds st w0 w1 s → numbered s (class_line n (parent_of q)) ≡ true
      unfolding numbered
      its_number s h = eq-eqb n (length s.parents) (is_next ∙ h.counted.classes)

      in_order_lem : (s : Sheet) → Holds st w0 w1 s → in_order s (class_line n (parent_of q)) ≡ true
      unfolding block_of
      in_order_lem s h = order_by_number st k w0 w1 (class_line n (parent_of q)) within in_block s h.counted ∙ its_number s h

      pub class_unknown : n < q → TookSpelled st k (class_line n (parent_of q)) (Err UnknownPart) w0 w1 w0 w1
      unfolding block_of parts_known
      class_unknown u = unknown st k w0 w1 (class_line n (parent_of q)) within in_block its_number (λ s h. code_not_smaller n q u)

      pub class_put : Fine st → 8192 ≤ length w0 → q ≤ n → TookSpelled st k (class_line n (parent_of q)) (Ok (class_counts st n)) w0 w1 (set w0 n q) w1
      unfolding parts_known calls_smaller calls_known suits tree_holds
      class_put fine room smaller =
          passed st k w0 w1 _ (class_counts st n) _ (kept_set w0 n q (omega arith)) (search rules) (λ s h. (
            steps_on s k (class_line n (parent_of q)) refl refl (within s) (in_order_lem s h) (code_smaller n q smaller) refl refl,
            class_held st k n (parent_of q) (set w0 n q) w1 s in_block is_next (rw length-set (omega arith))
                (get_or-set_same w0 n q 0 (omega arith) ∙ sym (code_of q))
                (code_smaller n q smaller)
                (holds_kept q (rw is_next (spare_parent fine h.counted (omega arith))) h),
          ))
