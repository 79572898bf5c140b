-- The definition of a line that is spelled well: each answer of `open_definition` is one of these. Assumes nothing.
use mathlib.Core.Path.{◌≡◌, refl, sym, ◌∙◌}
use mathlib.Core.Bool.{Bool, true, false, not, and-false, true≢false}
use mathlib.Core.Option.{some, some-injective}
use mathlib.Core.List.{List, []}
use Prim.Native.Nat.{ℕ, ◌≤◌, ◌<◌, min}
use native.Mathlib.Omega.{arith}
use borrow.Author.Rules.{rules}
use borrow.Author.Tests.{lt-ltb, le-ltb, eq-eqb, ne_eqb, not-true, not-false}
use lib.ListN.{length}
use Rattle.laws.specs.Lists.{each_nil}
use Rattle.ocl.specs.Types.{Ty}
use Rattle.sheet.specs.Lines.{definition_line}
use Rattle.sheet.specs.Sheet.{Sheet, added}
use Rattle.sheet.specs.Limits.{is_class, is_definition, class_below, type_within, within_limits}
use Rattle.sheet.specs.Refusals.{block_of, numbered, parts_known, calls_smaller, calls_known, suits, tree_holds}
use Rattle.types.specs.Word.{type_in}
use Rattle.tables.specs.declared.Counts.{Counts}
use Rattle.tables.specs.Layout.{open_code, HoldsCurrent, opened, Holds, Fine}
use Rattle.tables.proofs.Tables.{kept_refl}
use Rattle.tables.proofs.Entries.{tables_same, definitions_same}
use Rattle.tables.proofs.Steps.{over_limits, steps_on}
use Rattle.declarations.specs.Taken.{TookSpelled, TookDefinition}
use Rattle.declarations.proofs.TakenLaws.{stopped, passed, past_block, order_by_number, misnumbered, unknown}
use Rattle.std.specs.Prelude.{Ok, Err}
use Rattle.memory.specs.declared.refusals.Refusal.TheVariants.{OverMeasure, OutOfRow, UnknownPart}

-- the counts with a definition of class c open, p being its type's word
abbrev pub definition_counts : Counts → ℕ → ℕ → Counts
definition_counts st c p = record {
  block = 4;
  classes = st.classes;
  rows = st.rows;
  objects = st.objects;
  slots = st.slots;
  cells = st.cells;
  nodes = st.nodes;
  definitions = st.definitions;
  rules = st.rules;
  «open» = 2;
  context = c;
  result = p;
  first = st.nodes;
}

-- one that has no node yet
definition_open : (st : Counts) (c p : ℕ) (t : Ty) (w1 : List ℕ) (m : ℕ) → type_in p ≡ t → st.nodes ≡ m
    → HoldsCurrent (definition_counts st c p) w1 m (record { context = c; result = some t; text = false; first = m; trees = []; used = [] })
unfolding open_code
definition_open st c p t w1 m packed e = record {
  is_open = refl;
  of_rule = λ e. absurd (true≢false (sym e));
  context = refl;
  result = λ u q. packed ∙ some-injective t u q;
  first = e;
  count = omega arith;
  trees = λ a l. absurd (omega arith);
  depths = λ a l. absurd (omega arith);
  used = each_nil;
}

definition_held : (st : Counts) (k n c p : ℕ) (t : Ty) (w0 w1 : List ℕ) (s : Sheet) → type_in p ≡ t → Holds st w0 w1 s
    → Holds (definition_counts st c p) w0 w1 (added s k (definition_line n c t))
unfolding added
definition_held st k n c p t w0 w1 s packed h = record {
  counted = record {
    block = refl;
    classes = h.counted.classes;
    rows = h.counted.rows;
    objects = h.counted.objects;
    slots = h.counted.slots;
    cells = h.counted.cells;
    nodes = h.counted.nodes;
    definitions = h.counted.definitions;
    rules = h.counted.rules;
  };
  tables = tables_same refl refl refl refl refl h.tables;
  definitions = definitions_same refl refl h.definitions;
  rules = record { bodies = h.rules.bodies; roots = h.rules.roots; lines = h.rules.lines };
  current = opened (definition_open st c p t w1 (length s.lines) packed h.counted.nodes);
}

-- ---- the limits

pub definition_over_type : (n c : ℕ) (t : Ty) → type_within t ≡ false → (s : Sheet) → within_limits s (definition_line n c t) ≡ false
unfolding within_limits
definition_over_type n c t h s = rw (h, and-false)

module _ {st : Counts} {n c : ℕ} {t : Ty} where
  pub definition_big : 32 ≤ n → TookDefinition st n c t (Err OverMeasure)
  unfolding within_limits is_definition
  definition_big h = record { is = λ w0 w1 k i j p q. stopped st k w0 w1 _ OverMeasure (λ s _. over_limits s k _ (rw (le-ltb i 32 (omega arith)))) }

  pub definition_class_big : 64 ≤ c → TookDefinition st n c t (Err OverMeasure)
  unfolding within_limits is_class
  definition_class_big h = record { is = λ w0 w1 k i j p q. stopped st k w0 w1 _ OverMeasure (λ s _. over_limits s k _ (rw (le-ltb j 64 (omega arith), and-false))) }

-- ---- the order, the parts, and the entry

same : {n i m : ℕ} → n ≡ min i 1000000 → n < m → m ≤ 64 → i ≡ n
same e h l = omega arith

module _ {st : Counts} {n c : ℕ} (t : Ty) (fine : Fine st) (typed : type_within t ≡ true) (low : n < 32) (class : c < 64) where
  -- by the numbers that are the line's own
  exactly : {r : _} → ((w0 w1 : List ℕ) (k : ℕ) → TookSpelled st k (definition_line n c t) r w0 w1 w0 w1) → TookDefinition st n c t r
  exactly all = record { is = λ w0 w1 k i j p q. rw (same p low (omega arith), same q class (omega arith)) (all w0 w1 k) }

  within : (s : Sheet) → within_limits s (definition_line n c t) ≡ true
  unfolding within_limits is_definition is_class
  within s = rw (lt-ltb n 32 low, lt-ltb c 64 class, typed)

  pub definition_block : 4 < st.block → TookDefinition st n c t (Err OutOfRow)
  unfolding block_of
  definition_block b = exactly (λ w0 w1 k. past_block st k w0 w1 (definition_line n c t) within b)

  module _ (in_block : st.block ≤ 4) where
    pub definition_gap : (n ≡ st.definitions → ⊥) → TookDefinition st n c t (Err OutOfRow)
    unfolding block_of numbered
    definition_gap o = exactly (λ w0 w1 k. misnumbered st k w0 w1 (definition_line n c t) within in_block (λ s h. ne_eqb n (length s.definitions) (λ e. o (e ∙ sym h.counted.definitions))))

    module _ (is_next : n ≡ st.definitions) where
      its_number : (w0 w1 : List ℕ) (s : Sheet) → Holds st w0 w1 s → numbered s (definition_line n c t) ≡ true
      unfolding numbered
      its_number w0 w1 s h = eq-eqb n (length s.definitions) (is_next ∙ h.counted.definitions)

      pub definition_unknown : st.classes ≤ c → TookDefinition st n c t (Err UnknownPart)
      unfolding block_of parts_known
      definition_unknown u =
          exactly (λ w0 w1 k. unknown st k w0 w1 (definition_line n c t) within in_block (its_number w0 w1) (λ s h. rw (le-ltb c (length s.parents) (omega (arith, h.counted.classes)))))

      module _ (known : c < st.classes) {b : Bool} (told : b ≡ class_below st.classes t) where
        pub definition_unknown_type : not b ≡ true → TookDefinition st n c t (Err UnknownPart)
        unfolding block_of parts_known
        definition_unknown_type u =
            exactly (λ w0 w1 k. unknown st k w0 w1 (definition_line n c t) within in_block (its_number w0 w1)
            (λ s h. rw (lt-ltb c (length s.parents) (omega (arith, h.counted.classes)), ← h.counted.classes, ← told, not-true b u)))

        pub definition_put : {p : ℕ} → not b ≡ false → type_in p ≡ t → TookDefinition st n c t (Ok (definition_counts st c p))
        unfolding block_of parts_known calls_smaller calls_known suits tree_holds
        definition_put {p} y packed =
            exactly (λ w0 w1 k. passed st k w0 w1 _ (definition_counts st c p) _ (kept_refl w0) (search rules) (λ s h. (
              steps_on s k (definition_line n c t) refl refl (within s)
                  (order_by_number st k w0 w1 (definition_line n c t) within in_block s h.counted ∙ its_number w0 w1 s h)
                  (rw (lt-ltb c (length s.parents) (omega (arith, h.counted.classes)), ← h.counted.classes, ← told, not-false b y)) refl refl,
              definition_held st k n c p t w0 w1 s packed h,
            )))
