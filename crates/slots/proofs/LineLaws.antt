-- The fields of a V line, and the answers of `value_line`. Assumes nothing.
use mathlib.Core.Path.{◌≡◌, refl, sym, ap, ◌∙◌}
use mathlib.Core.Bool.{Bool, true, false, ◌&&◌, true≢false}
use mathlib.Core.Option.{Option, none, some}
use mathlib.Core.List.{List, [], ◌∷◌, map}
use Prim.Native.Nat.{ℕ, ◌+◌, ◌-◌, ◌<◌, ◌≤◌, min}
use native.Mathlib.Omega.{arith}
use borrow.Author.Tests.{le-leb}
use lib.ListN.{length, get_or, take, drop, length-drop}
use lib.Seq.{slice, length-slice, take-take, drop-drop, length-take-le}
use lib.Dec.{T, ltb, leb, leb→le}
use Rattle.laws.proofs.Tests.{and_l, and_r, test_true, test_fails}
use Rattle.laws.proofs.Slices.{cut_part}
use Rattle.memory.specs.Map as memory
use Rattle.ocl.specs.Values.{Value, size}
use Rattle.sheet.specs.Text.{Bytes, bytes, fields_of}
use Rattle.sheet.specs.Lines.{Line, value_line, is, next, done, a_number, line_of}
use Rattle.sheet.specs.Spelling.{read_value}
use Rattle.sheet.specs.Texts.{on_text}
use Rattle.sheet.specs.Sheet.{Sheet}
use Rattle.sheet.specs.Limits.{value_within, within_limits, total_size}
use Rattle.text.specs.Numbers.{cut_num}
use Rattle.text.specs.Parts.{Cut}
use Rattle.text.specs.declared.parts.Fields.{Fields}
use Rattle.text.proofs.NumberLaws.{num_bad}
use Rattle.text.proofs.PartLaws.{counted_exact}
use Rattle.types.specs.Word.{type_in}
use Rattle.values.specs.Cells.{enc}
use Rattle.values.proofs.Encoding.{size_law, some_cells}
use Rattle.nodes.specs.Nodes.{tree_at}
use Rattle.tables.specs.declared.Counts.{Counts}
use Rattle.tables.specs.Layout.{tab, Holds, Fine, Kept, moved_refused}
use Rattle.tables.proofs.Tables.{kept_refl, kept_then}
use Rattle.tables.proofs.Steps.{step_bad, step_line_lem, over_limits}
use Rattle.tables.proofs.LineFields.{word_is, takes_none, takes_more, field_bad, field_some, fields_done, the, num_some, num_cut}
use Rattle.slots.specs.Machine.{may_be, ReadIs, read_bad, read_over, read_is}
use Rattle.slots.specs.Slots.{ReadInto, ValueAt, SlotTook, TookSlot}
use Rattle.slots.proofs.LimitLaws.{may_be_lem, within_fits}
use Rattle.std.specs.Prelude.{Some, None, Result, Ok, Err}
use Rattle.memory.specs.Refusals.{refusal_of}
use Rattle.memory.specs.declared.refusals.Misread.{Misread}
use Rattle.memory.specs.declared.refusals.Misread.TheVariants.{Malformed, OverLimit}
use Rattle.memory.specs.declared.refusals.Refusal.{Refusal}
use Rattle.memory.specs.declared.refusals.Refusal.TheVariants.{BadLine, OverMeasure}

-- ---- the fields

abbrev value_fields : List Bytes → Option Line
value_fields = next a_number (λ o. next a_number (λ a. next read_value (λ v. done (value_line o a v))))

value_fields_lem : (fs : List Bytes) → is (get_or fs 0 []) (bytes "V") ≡ true → line_of fs ≡ value_fields (drop 1 fs)
unfolding line_of is bytes
value_fields_lem [] h = absurd (true≢false (sym h))
value_fields_lem (w ∷ fs) h = rw (word_is w (bytes "V") h)

pub value_plain : (o a : ℕ) (v : Value) (test : Bytes → Bool) → on_text (value_line o a v) test ≡ true
unfolding on_text
value_plain o a v test = refl

module _ {line : Bytes} {f : Fields} (cut : Cut line f) (letter : is (get_or (fields_of line) 0 []) (bytes "V") ≡ true) where
  pub fields_count : (f.count ≡ 4 → ⊥) → line_of (fields_of line) ≡ none
  fields_count h =
      value_fields_lem (fields_of line) letter
      ∙ takes_more a_number _ 2 (λ o. takes_more a_number _ 1 (λ a. takes_more read_value _ 0 (λ v. takes_none (value_line o a v)))) (drop 1 (fields_of line))
      (λ e. h (omega (arith, cut.counted, length-drop 1 (fields_of line))))

  module _ (four : f.count ≡ 4) {x : Bytes} (at1 : x ≡ get_or (fields_of line) 1 []) where
    long : length (fields_of line) ≡ 4
    long = counted_exact cut (omega arith) ∙ four

    pub fields_object : None ≡ cut_num (a_number x) → line_of (fields_of line) ≡ none
    fields_object h = value_fields_lem (fields_of line) letter ∙ field_bad a_number _ (fields_of line) 1 (omega (arith, long)) (rw (← at1) (num_bad (a_number x) h))

    module _ {o : ℕ} (read1 : Some o ≡ cut_num (a_number x)) {y : Bytes} (at2 : y ≡ get_or (fields_of line) 2 []) where
      object : line_of (fields_of line) ≡ next a_number (λ a. next read_value (λ v. done (value_line (the (a_number x)) a v))) (drop 2 (fields_of line))
      object = value_fields_lem (fields_of line) letter ∙ field_some a_number _ (fields_of line) 1 (omega (arith, long)) (rw (← at1) (num_some (a_number x) read1))

      pub fields_row : None ≡ cut_num (a_number y) → line_of (fields_of line) ≡ none
      fields_row h = object ∙ field_bad a_number _ (fields_of line) 2 (omega (arith, long)) (rw (← at2) (num_bad (a_number y) h))

      module _ {a : ℕ} (read2 : Some a ≡ cut_num (a_number y)) {z : Bytes} (at3 : z ≡ get_or (fields_of line) 3 []) where
        row : line_of (fields_of line) ≡ next read_value (λ v. done (value_line (the (a_number x)) (the (a_number y)) v)) (drop 3 (fields_of line))
        row = object ∙ field_some a_number _ (fields_of line) 2 (omega (arith, long)) (rw (← at2) (num_some (a_number y) read2))

        pub fields_value : read_value z ≡ none → line_of (fields_of line) ≡ none
        fields_value h = row ∙ field_bad read_value _ (fields_of line) 3 (omega (arith, long)) (rw (← at3) h)

        pub fields_all : {v : Value} → read_value z ≡ some v → line_of (fields_of line) ≡ some (value_line (the (a_number x)) (the (a_number y)) v)
        fields_all {v} h =
            row ∙ field_some read_value _ (fields_of line) 3 (omega (arith, long)) (rw (← at3) h)
            ∙ fields_done (value_line (the (a_number x)) (the (a_number y)) v) (fields_of line) 4 (omega (arith, long))

        pub object_cut : o ≡ min (the (a_number x)) 1000000
        object_cut = num_cut (a_number x) read1

        pub row_cut : a ≡ min (the (a_number y)) 1000000
        row_cut = num_cut (a_number y) read2

-- ---- the words after the value is read

module _ (A B : List ℕ) (e : ℕ) (front : take e A ≡ take e B) (same : length A ≡ length B) (room : memory.cells_end ≤ length B) (low : e ≤ memory.cells_end) where
  tab_front : (off m : ℕ) → off + m ≤ e → tab off m A ≡ tab off m B
  tab_front off m h =
      sym (cut_part off m A (omega arith))
      ∙ ap (drop off) (sym (take-take (off + m) e A h) ∙ ap (take (off + m)) front ∙ take-take (off + m) e B h)
      ∙ cut_part off m B (omega arith)

tab_back : (A B : List ℕ) → drop memory.cells_end A ≡ drop memory.cells_end B → (off m : ℕ) → memory.cells_end ≤ off → tab off m A ≡ tab off m B
tab_back A B back off m h =
    let z : memory.cells_end + (off - memory.cells_end) ≡ off = omega arith in
    ap (take m) (ap (λ (i : ℕ). drop i A) (sym z) ∙ sym (drop-drop (off - memory.cells_end) memory.cells_end A) ∙ ap (drop (off - memory.cells_end)) back ∙ drop-drop (off - memory.cells_end) memory.cells_end B ∙ ap (λ (i : ℕ). drop i B) z)

-- what lies behind the first n cells is all that may differ
module _ {st : Counts} {n : ℕ} (A B : List ℕ) (front : take (memory.cells + n) A ≡ take (memory.cells + n) B) (back : drop memory.cells_end A ≡ drop memory.cells_end B) (count : n ≡ st.cells) (same : length A ≡ length B) (room : 8192 ≤ length B) (fine : Fine st) where
  low_tab : (off m : ℕ) → off + m ≤ memory.cells + n → tab off m A ≡ tab off m B
  low_tab = tab_front A B (memory.cells + n) front same (omega arith) (let c = fine.cells in omega arith)

  high_tab : (off m : ℕ) → memory.cells_end ≤ off → tab off m A ≡ tab off m B
  high_tab = tab_back A B back

  pub kept_behind : Kept B A
  kept_behind = record {
    size = same;
    rest = sym (drop-drop 3744 memory.cells_end A) ∙ ap (drop 3744) back ∙ drop-drop 3744 memory.cells_end B;
  }

  pub holds_behind : {w1 : List ℕ} {s : Sheet} → Holds st B w1 s → Holds st A w1 s
  holds_behind {w1} {s} h =
      let c = h.counted in
      record {
        counted = h.counted;
        tables = record {
          parents = low_tab memory.parents (length s.parents) (omega (arith, c.classes, fine.classes)) ∙ h.tables.parents;
          smaller = h.tables.smaller;
          owners = low_tab memory.owners (length s.rows) (omega (arith, c.rows, fine.rows)) ∙ h.tables.owners;
          names = low_tab memory.names (length s.rows) (omega (arith, c.rows, fine.rows)) ∙ h.tables.names;
          types = ap (map type_in) (low_tab memory.types (length s.rows) (omega (arith, c.rows, fine.rows))) ∙ h.tables.types;
          objects = low_tab memory.objects (length s.objects) (omega (arith, c.objects, fine.objects)) ∙ h.tables.objects;
          keys = low_tab memory.keys (length s.slots) (omega (arith, c.slots, fine.slots)) ∙ h.tables.keys;
          starts = low_tab memory.starts (length s.slots) (omega (arith, c.slots, fine.slots)) ∙ h.tables.starts;
          cells = low_tab memory.cells (total_size s.slots) (omega (arith, c.cells)) ∙ h.tables.cells;
          fits = h.tables.fits;
          contexts = high_tab memory.contexts (length s.rules) (omega arith) ∙ h.tables.contexts;
        };
        definitions = record {
          contexts = high_tab memory.definition_contexts (length s.definitions) (omega arith) ∙ h.definitions.contexts;
          classes = rw (high_tab memory.definition_contexts (length s.definitions) (omega arith)) h.definitions.classes;
          types = ap (map type_in) (high_tab memory.definition_types (length s.definitions) (omega arith)) ∙ h.definitions.types;
          bodies = ap (map (tree_at w1)) (high_tab memory.definition_roots (length s.definitions) (omega arith)) ∙ h.definitions.bodies;
          roots = rw (high_tab memory.definition_roots (length s.definitions) (omega arith)) h.definitions.roots;
          depths = rw (high_tab memory.definition_roots (length s.definitions) (omega arith)) h.definitions.depths;
        };
        rules = record {
          bodies = ap (map (tree_at w1)) (high_tab memory.roots (length s.rules) (omega arith)) ∙ h.rules.bodies;
          roots = rw (high_tab memory.roots (length s.rules) (omega arith)) h.rules.roots;
          lines = h.rules.lines;
        };
        current = h.current;
      }

module _ {st : Counts} {f : Bytes} {n : ℕ} {A B : List ℕ} {r : Result ℕ Misread} (got : ReadInto f n B A r) (count : n ≡ st.cells) (same : length A ≡ length B) (room : 8192 ≤ length B) (fine : Fine st) where
  pub kept_read : Kept B A
  kept_read = kept_behind A B got.front got.back count same room fine

  holds_read : {w1 : List ℕ} {s : Sheet} → Holds st B w1 s → Holds st A w1 s
  holds_read = holds_behind A B got.front got.back count same room fine

-- ---- the answers

wide : (A : List ℕ) (n : ℕ) → 8192 ≤ length A → n ≤ 2048 → length (slice (memory.cells + n) memory.cells_end A) ≡ 2048 - n
wide A n room h = length-slice (memory.cells + n) memory.cells_end A (omega arith) ∙ omega arith

bad_value : {f : Bytes} {A : List ℕ} → ReadIs f A (Err Malformed) → read_value f ≡ none
bad_value (read_bad e) = e

pub read_sizes : {st : Counts} {f : Bytes} {n i : ℕ} {A B : List ℕ} → n ≡ st.cells → length A ≡ length B → 8192 ≤ length B → Fine st → ReadInto f n B A (Ok i) → (0 < i) × (st.cells + i ≤ 2048)
read_sizes {st} {f} {n} {i} {A} {B} count same room fine got = go got.is
  where
    go : ReadIs f (slice (memory.cells + n) memory.cells_end A) (Ok i) → (0 < i) × (st.cells + i ≤ 2048)
    go (read_is v e m z t) =
        let y = may_be_lem (length (slice (memory.cells + n) memory.cells_end A)) v (rw m tt) in
        let l = y.fits in
        let c = fine.cells in
        (omega (arith, some_cells v, size_law v), omega (arith, wide A n (omega arith) (omega arith)))

module _ {st : Counts} {k : ℕ} {line : Bytes} (w1 : List ℕ) where
  pub unspelled : {w0 v0 : List ℕ} → Kept w0 v0 → line_of (fields_of line) ≡ none → TookSlot st k line (Err BadLine) w0 w1 v0 w1
  unspelled kept h = record { is = λ s g m. rw (step_bad s k (fields_of line) h) moved_refused; kept0 = kept; kept1 = kept_refl w1 }

  module _ (o a : ℕ) {f : Bytes} {n : ℕ} {A B : List ℕ} (spelled : (v : Value) → read_value f ≡ some v → line_of (fields_of line) ≡ some (value_line o a v)) (count : n ≡ st.cells) (same : length A ≡ length B) (room : 8192 ≤ length B) (fine : Fine st) where
    line_over : ReadInto f n B A (Err OverLimit) → TookSlot st k line (Err OverMeasure) B w1 A w1
    unfolding within_limits may_be
    line_over got = go got.is
      where
        clash : false ≡ true → ⊥
        clash e = true≢false (sym e)

        sure : (s : Sheet) (v : Value) → Holds st B w1 s → T (within_limits s (value_line o a v)) → may_be (length (slice (memory.cells + n) memory.cells_end A)) v ≡ true
        sure s v h t =
            let x = and_l (ltb o 96 && ltb a 64 && value_within v && ltb (length s.slots) 1024) (leb (total_size s.slots + size v) 2048) t in
            let y = and_l (ltb o 96 && ltb a 64 && value_within v) (ltb (length s.slots) 1024) x in
            let l = leb→le (total_size s.slots + size v) 2048 (and_r (ltb o 96 && ltb a 64 && value_within v && ltb (length s.slots) 1024) (leb (total_size s.slots + size v) 2048) t) in
            let z = h.counted.cells in
            rw (test_true (value_within v) (and_r (ltb o 96 && ltb a 64) (value_within v) y)) (le-leb (size v) (length (slice (memory.cells + n) memory.cells_end A)) (let c = fine.cells in omega (arith, wide A n (omega arith) (omega arith))))

        never : (s : Sheet) (v : Value) → Holds st B w1 s → may_be (length (slice (memory.cells + n) memory.cells_end A)) v ≡ false → within_limits s (value_line o a v) ≡ false
        never s v h m =
            test_fails (within_limits s (value_line o a v)) (λ t. clash (sym m ∙ sure s v h t))

        go : ReadIs f (slice (memory.cells + n) memory.cells_end A) (Err OverLimit) → TookSlot st k line (Err OverMeasure) B w1 A w1
        go (read_over v e m) = record {
          is = λ s h q. rw (step_line_lem s k (fields_of line) (value_plain o a v) (spelled v e), over_limits s k (value_line o a v) (never s v h m)) moved_refused;
          kept0 = kept_read got count same room fine;
          kept1 = kept_refl w1;
        }

    pub line_misread : {m : Misread} → (read_value f ≡ none → line_of (fields_of line) ≡ none) → ReadInto f n B A (Err m) → TookSlot st k line (Err (refusal_of m)) B w1 A w1
    line_misread {m = Malformed} off got = unspelled (kept_read got count same room fine) (off (bad_value got.is))
    line_misread {m = OverLimit} off got = line_over got

    pub line_put : {i p q : ℕ} {r : Result Counts Refusal} {C : List ℕ} → ReadInto f n B A (Ok i) → SlotTook st k p q i r A w1 C → p ≡ min o 1000000 → q ≡ min a 1000000 → TookSlot st k line r B w1 C w1
    unfolding may_be
    line_put {i} {p} {q} {r} {C} got took po qa = go got.is
      where
        within : (v : Value) → may_be (length (slice (memory.cells + n) memory.cells_end A)) v ≡ true → value_within v ≡ true
        within v m = test_true (value_within v) (and_l (value_within v) (leb (size v) (length (slice (memory.cells + n) memory.cells_end A))) (rw m tt))

        lies : (v : Value) → (0 < i) × (st.cells + i ≤ 2048) → take i (slice (memory.cells + n) memory.cells_end A) ≡ enc v → slice (memory.cells + st.cells) (memory.cells + st.cells + i) A ≡ enc v
        lies v d t =
            let l = d.1 in
            ap (drop (memory.cells + st.cells)) (sym (take-take (memory.cells + st.cells + i) memory.cells_end A (omega arith)))
            ∙ cut_part (memory.cells + st.cells) i (take memory.cells_end A) (omega (arith, length-take-le memory.cells_end A (omega arith)))
            ∙ ap (λ (j : ℕ). take i (slice (memory.cells + j) memory.cells_end A)) (sym count)
            ∙ t

        go : ReadIs f (slice (memory.cells + n) memory.cells_end A) (Ok i) → TookSlot st k line r B w1 C w1
        go (read_is v e m z t) =
            let y = may_be_lem (length (slice (memory.cells + n) memory.cells_end A)) v (rw m tt) in
            let d = read_sizes count same room fine got in
            let at : ValueAt st A i v = record { fits = within_fits v y.parts (let x = y.small in omega arith); lies = lies v d t } in
            record {
              is = λ s h x. rw (step_line_lem s k (fields_of line) (value_plain o a v) (spelled v e)) (took.is s o a v (holds_read got count same room fine h) x at z (within v m) po qa);
              kept0 = kept_then (kept_read got count same room fine) took.kept0;
              kept1 = kept_refl w1;
            }
