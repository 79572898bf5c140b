-- The row of a line that is spelled well: numbers and types over their limits, and each answer of `put_row`. Assumes nothing.
use mathlib.Core.Path.{◌≡◌, refl, sym, ap, ◌∙◌}
use mathlib.Core.Bool.{Bool, true, false, not, ◌&&◌, and-false, true≢false}
use mathlib.Core.List.{List}
use Prim.Native.Nat.{ℕ, ◌+◌, ◌≤◌, ◌<◌, min}
use native.Mathlib.Omega.{arith}
use borrow.Author.Rules.{rules}
use borrow.Author.Tests.{ltb-true, lt-ltb, le-ltb, eq-eqb, ne_eqb}
use lib.Dec.{ltb}
use lib.ListN.{length, get_or, set, length-set}
use lib.Seq.{get_or-set_same, get_or-set_other}
use Rattle.laws.proofs.Bounds.{cut_lt}
use Rattle.laws.proofs.Lists.{length_more}
use Rattle.memory.specs.Map as memory
use Rattle.ocl.specs.Types.{Ty}
use Rattle.ocl.specs.Model.{Row}
use Rattle.sheet.specs.Lines.{row_line}
use Rattle.sheet.specs.Sheet.{Sheet, added}
use Rattle.sheet.specs.Limits.{is_class, class_below, type_within, within_limits}
use Rattle.sheet.specs.Refusals.{declares, block_of, numbered, in_order, parts_known, calls_smaller, calls_known, suits, tree_holds}
use Rattle.types.specs.Word.{type_in}
use Rattle.tables.specs.declared.Counts.{Counts}
use Rattle.tables.specs.Layout.{tab, Holds, Fine, Kept}
use Rattle.tables.proofs.Tables.{kept_set, kept_then}
use Rattle.tables.proofs.Entries.{definitions_same, tab_more_of, tab_more_by, holds_kept, spare_owner, spare_name, spare_type, open_kept}
use Rattle.tables.proofs.Steps.{over_limits, steps_on}
use Rattle.declarations.specs.Fields.{named_in}
use Rattle.declarations.specs.Taken.{TookSpelled}
use Rattle.declarations.proofs.TakenLaws.{stopped, passed, past_block, order_by_number, misnumbered, unknown}
use Rattle.declarations.proofs.KnownLaws.{declares_rows}
use Rattle.std.specs.Prelude.{Ok, Err}
use Rattle.memory.specs.declared.refusals.Refusal.TheVariants.{OverMeasure, OutOfRow, UnknownPart}

-- ---- the limits

abbrev pub all_low : ℕ → ℕ → ℕ → Bool
all_low n c name = ltb n 64 && is_class c && ltb name 256

pub record AreLow (n c name : ℕ) : Type 0 where
  pub number : n < 64
  pub class : c < 64
  pub named : name < 256

pub are_low : (n c name : ℕ) → all_low n c name ≡ true → AreLow n c name
unfolding is_class
are_low n c name h = go (ltb n 64) refl (ltb c 64) refl (ltb name 256) refl h
  where
    go : (a : Bool) → a ≡ ltb n 64 → (b : Bool) → b ≡ ltb c 64 → (d : Bool) → d ≡ ltb name 256 → (a && b && d) ≡ true → AreLow n c name
    go true p true q true r h = record { number = ltb-true n 64 (sym p); class = ltb-true c 64 (sym q); named = ltb-true name 256 (sym r) }
    go true p true q false r h = absurd (true≢false (sym h))
    go true p false q d r h = absurd (true≢false (sym h))
    go false p b q d r h = absurd (true≢false (sym h))

module _ (st : Counts) (k : ℕ) (w0 w1 : List ℕ) (n c name : ℕ) (t : Ty) where
  -- by the numbers as they are read
  pub row_over : {m d e : ℕ} → m ≡ min n 1000000 → d ≡ min c 1000000 → e ≡ min name 1000000 → all_low m d e ≡ false
      → TookSpelled st k (row_line n c name t) (Err OverMeasure) w0 w1 w0 w1
  unfolding within_limits is_class
  row_over p q r h =
      stopped st k w0 w1 _ OverMeasure (λ s _.
      over_limits s k _
      (rw (rw (p, q, r, cut_lt n 1000000 64 (omega arith), cut_lt c 1000000 64 (omega arith), cut_lt name 1000000 256 (omega arith)) at h)))

pub row_over_type : (n c name : ℕ) (t : Ty) → type_within t ≡ false → (s : Sheet) → within_limits s (row_line n c name t) ≡ false
unfolding within_limits
row_over_type n c name t h s = rw (h, and-false)

-- ---- the entry

-- the counts with row n
abbrev pub row_counts : Counts → ℕ → Counts
row_counts st n = record {
  block = 1;
  classes = st.classes;
  rows = n + 1;
  objects = st.objects;
  slots = st.slots;
  cells = st.cells;
  nodes = st.nodes;
  definitions = st.definitions;
  rules = st.rules;
  «open» = st.open;
  context = st.context;
  result = st.result;
  first = st.first;
}

-- where the next words of the rows are the row's already
row_held : (st : Counts) (k n c name : ℕ) (t : Ty) (w0 w1 : List ℕ) (s : Sheet) → n ≡ st.rows → 192 + n < length w0
    → get_or w0 (memory.owners + n) 0 ≡ c → get_or w0 (memory.names + n) 0 ≡ name → type_in (get_or w0 (memory.types + n) 0) ≡ t
    → Holds st w0 w1 s → Holds (row_counts st n) w0 w1 (added s k (row_line n c name t))
unfolding added
row_held st k n c name t w0 w1 s e room at1 at2 at3 h =
    let long : length s.rows ≡ n = sym (e ∙ h.counted.rows) in
    let r : Row = record { owner = c; name = name; type = t } in
    record {
      counted = record {
        block = refl;
        classes = h.counted.classes;
        rows = omega (arith, length_more s.rows r);
        objects = h.counted.objects;
        slots = h.counted.slots;
        cells = h.counted.cells;
        nodes = h.counted.nodes;
        definitions = h.counted.definitions;
        rules = h.counted.rules;
      };
      tables = record {
        parents = h.tables.parents;
        smaller = h.tables.smaller;
        owners = tab_more_of (λ (x : Row). x.owner) 64 w0 s.rows r (omega arith) h.tables.owners (rw long at1);
        names = tab_more_of (λ (x : Row). x.name) 128 w0 s.rows r (omega arith) h.tables.names (rw long at2);
        types = tab_more_by type_in (λ (x : Row). x.type) 192 w0 s.rows r (omega arith) h.tables.types (rw long at3);
        objects = h.tables.objects;
        keys = h.tables.keys;
        starts = h.tables.starts;
        cells = h.tables.cells;
        fits = h.tables.fits;
        contexts = h.tables.contexts;
      };
      definitions = definitions_same refl refl h.definitions;
      rules = record { bodies = h.rules.bodies; roots = h.rules.roots; lines = h.rules.lines };
      current = open_kept refl refl refl refl h.current;
    }

-- the three words written
abbrev pub row_words : List ℕ → ℕ → ℕ → ℕ → ℕ → List ℕ
row_words w0 n c name p = set (set (set w0 (memory.owners + n) c) (memory.names + n) name) (memory.types + n) p

module _ (w0 : List ℕ) (n c name p : ℕ) (low : n < 64) (room : 8192 ≤ length w0) where
  words_long : length (row_words w0 n c name p) ≡ length w0
  words_long = simp length-set

  words_kept : Kept w0 (row_words w0 n c name p)
  words_kept = kept_then (kept_set w0 (memory.owners + n) c (omega arith)) (kept_then (kept_set (set w0 (memory.owners + n) c) (memory.names + n) name (omega arith)) (kept_set (set (set w0 (memory.owners + n) c) (memory.names + n) name) (memory.types + n) p (omega arith)))

  words_owner : get_or (row_words w0 n c name p) (memory.owners + n) 0 ≡ c
  words_owner =
      get_or-set_other (set (set w0 (memory.owners + n) c) (memory.names + n) name) (memory.types + n) (memory.owners + n) p 0 (λ e. omega arith)
      ∙ get_or-set_other (set w0 (memory.owners + n) c) (memory.names + n) (memory.owners + n) name 0 (λ e. omega arith)
      ∙ get_or-set_same w0 (memory.owners + n) c 0 (omega arith)

  words_name : get_or (row_words w0 n c name p) (memory.names + n) 0 ≡ name
  words_name =
      get_or-set_other (set (set w0 (memory.owners + n) c) (memory.names + n) name) (memory.types + n) (memory.names + n) p 0 (λ e. omega arith)
      ∙ get_or-set_same (set w0 (memory.owners + n) c) (memory.names + n) name 0 (rw length-set (omega arith))

  words_type : get_or (row_words w0 n c name p) (memory.types + n) 0 ≡ p
  words_type = get_or-set_same (set (set w0 (memory.owners + n) c) (memory.names + n) name) (memory.types + n) p 0 (rw (length-set, length-set) (omega arith))

module _ (st : Counts) (k : ℕ) (w0 w1 : List ℕ) (n c name : ℕ) (t : Ty) (low : all_low n c name ≡ true) (typed : type_within t ≡ true) where
  within : (s : Sheet) → within_limits s (row_line n c name t) ≡ true
  unfolding within_limits
  within s = rw (low, typed)

  pub row_block : 1 < st.block → TookSpelled st k (row_line n c name t) (Err OutOfRow) w0 w1 w0 w1
  unfolding block_of
  row_block = past_block st k w0 w1 (row_line n c name t) within

  module _ (in_block : st.block ≤ 1) where
    pub row_gap : (n ≡ st.rows → ⊥) → TookSpelled st k (row_line n c name t) (Err OutOfRow) w0 w1 w0 w1
    unfolding block_of numbered
    row_gap o =
        misnumbered st k w0 w1 (row_line n c name t) within in_block (λ s h. rw (ne_eqb n (length s.rows) (λ e. o (e ∙ sym h.counted.rows))))

    module _ (is_next : n ≡ st.rows) {d : Bool} (declared : d ≡ named_in (tab memory.owners n w0) (tab memory.names n w0) c name) where
      -- what the words say is what the rows say
      by_rows : (s : Sheet) → Holds st w0 w1 s → declares s.rows c name ≡ d
      by_rows s h =
          let long : n ≡ length s.rows = is_next ∙ h.counted.rows in
          sym (declares_rows s.rows c name) ∙ sym (declared ∙ rw (long, h.tables.owners, h.tables.names))

      its_number : (s : Sheet) → Holds st w0 w1 s → numbered s (row_line n c name t) ≡ not d
      unfolding numbered
      its_number s h = rw (eq-eqb n (length s.rows) (is_next ∙ h.counted.rows), by_rows s h)

      pub row_twice : d ≡ true → TookSpelled st k (row_line n c name t) (Err OutOfRow) w0 w1 w0 w1
      unfolding block_of
      row_twice y = misnumbered st k w0 w1 (row_line n c name t) within in_block (λ s h. its_number s h ∙ ap not y)

      module _ (once : d ≡ false) where
        new_number : (s : Sheet) → Holds st w0 w1 s → numbered s (row_line n c name t) ≡ true
        new_number s h = its_number s h ∙ ap not once

        in_order_lem : (s : Sheet) → Holds st w0 w1 s → in_order s (row_line n c name t) ≡ true
        unfolding block_of
        in_order_lem s h = order_by_number st k w0 w1 (row_line n c name t) within in_block s h.counted ∙ new_number s h

        pub row_unknown : st.classes ≤ c → TookSpelled st k (row_line n c name t) (Err UnknownPart) w0 w1 w0 w1
        unfolding block_of parts_known
        row_unknown u =
            unknown st k w0 w1 (row_line n c name t) within in_block new_number (λ s h. rw (le-ltb c (length s.parents) (omega (arith, h.counted.classes))))

        module _ (known : c < st.classes) {b : Bool} (told : b ≡ class_below st.classes t) where
          pub row_unknown_type : b ≡ false → TookSpelled st k (row_line n c name t) (Err UnknownPart) w0 w1 w0 w1
          unfolding block_of parts_known
          row_unknown_type u =
              unknown st k w0 w1 (row_line n c name t) within in_block new_number
              (λ s h. rw (lt-ltb c (length s.parents) (omega (arith, h.counted.classes)), ← h.counted.classes, ← told, u))

          pub row_put : (p : ℕ) → b ≡ true → type_in p ≡ t → Fine st → 8192 ≤ length w0
              → TookSpelled st k (row_line n c name t) (Ok (row_counts st n)) w0 w1 (row_words w0 n c name p) w1
          unfolding parts_known calls_smaller calls_known suits tree_holds
          row_put p y packed fine room =
              let small : n < 64 = (are_low n c name low).number in
              passed st k w0 w1 _ (row_counts st n) _ (words_kept w0 n c name p small room) (search rules) (λ s h. (
                steps_on s k (row_line n c name t) refl refl (within s) (in_order_lem s h)
                    (rw (lt-ltb c (length s.parents) (omega (arith, h.counted.classes)), ← h.counted.classes, ← told, y)) refl refl,
                row_held st k n c name t (row_words w0 n c name p) w1 s is_next
                    (rw (words_long w0 n c name p small room) (omega arith))
                    (words_owner w0 n c name p small room)
                    (words_name w0 n c name p small room)
                    (rw (words_type w0 n c name p small room) packed)
                    (holds_kept p (rw is_next (spare_type fine h.counted (omega arith)))
                    (holds_kept name (rw is_next (spare_name fine h.counted (omega arith)))
                    (holds_kept c (rw is_next (spare_owner fine h.counted (omega arith))) h))),
              ))
