-- The object of a line that is spelled well and within its limits: each answer of `put_object` is one of these. Assumes nothing.
use mathlib.Core.Path.{◌≡◌, refl, sym, ap, ◌∙◌}
use mathlib.Core.Bool.{true, ◌&&◌}
use mathlib.Core.List.{List, [], ◌∷◌, ◌++◌}
use Prim.Native.Nat.{ℕ, suc, ◌+◌, ◌≤◌, ◌<◌}
use native.Mathlib.Omega.{arith}
use borrow.Author.Rules.{rules}
use borrow.Author.Tests.{lt-ltb, le-ltb, eq-eqb, ne_eqb}
use lib.Dec.{ltb}
use lib.ListN.{length, get_or, set, length-set}
use lib.Seq.{get_or-set_same}
use Rattle.laws.proofs.Lists.{length_more}
use Rattle.memory.specs.Map as memory
use Rattle.sheet.specs.Lines.{object_line}
use Rattle.sheet.specs.Sheet.{Sheet, added}
use Rattle.sheet.specs.Limits.{is_class, within_limits}
use Rattle.sheet.specs.Refusals.{block_of, numbered, in_order, parts_known, calls_smaller, calls_known, suits, tree_holds}
use Rattle.tables.specs.declared.Counts.{Counts}
use Rattle.tables.specs.Layout.{Holds, Fine}
use Rattle.tables.proofs.Tables.{kept_set}
use Rattle.tables.proofs.Entries.{definitions_same, tab_next, holds_kept, spare_object, open_kept}
use Rattle.tables.proofs.Steps.{steps_on}
use Rattle.declarations.specs.Taken.{TookSpelled}
use Rattle.declarations.proofs.TakenLaws.{passed, past_block, order_by_number, misnumbered, unknown}
use Rattle.std.specs.Prelude.{Ok, Err}
use Rattle.memory.specs.declared.refusals.Refusal.TheVariants.{OutOfRow, UnknownPart}

-- the counts with object n
abbrev pub object_counts : Counts → ℕ → Counts
object_counts st n = record {
  block = 2;
  classes = st.classes;
  rows = st.rows;
  objects = n + 1;
  slots = st.slots;
  cells = st.cells;
  nodes = st.nodes;
  definitions = st.definitions;
  rules = st.rules;
  «open» = st.open;
  context = st.context;
  result = st.result;
  first = st.first;
}

-- where the next word of the objects is the class already
object_held : (st : Counts) (k n c : ℕ) (w0 w1 : List ℕ) (s : Sheet) → n ≡ st.objects → memory.objects + n < length w0 → get_or w0 (memory.objects + n) 0 ≡ c
    → Holds st w0 w1 s → Holds (object_counts st n) w0 w1 (added s k (object_line n c))
unfolding added
object_held st k n c w0 w1 s e room at h =
    let long : length s.objects ≡ n = sym (e ∙ h.counted.objects) in
    let more : length (s.objects ++ (c ∷ [])) ≡ suc n = length_more s.objects c ∙ ap suc long in
    record {
      counted = record {
        block = refl;
        classes = h.counted.classes;
        rows = h.counted.rows;
        objects = omega arith;
        slots = h.counted.slots;
        cells = h.counted.cells;
        nodes = h.counted.nodes;
        definitions = h.counted.definitions;
        rules = h.counted.rules;
      };
      tables = record {
        parents = h.tables.parents;
        smaller = h.tables.smaller;
        owners = h.tables.owners;
        names = h.tables.names;
        types = h.tables.types;
        objects = rw (more, tab_next memory.objects n w0 room, at) (ap (λ (l : List ℕ). l ++ (c ∷ [])) (rw long at h.tables.objects));
        keys = h.tables.keys;
        starts = h.tables.starts;
        cells = h.tables.cells;
        fits = h.tables.fits;
        contexts = h.tables.contexts;
      };
      definitions = definitions_same refl refl h.definitions;
      rules = record { bodies = h.rules.bodies; roots = h.rules.roots; lines = h.rules.lines };
      current = open_kept refl refl refl refl h.current;
    }

pub object_limits : (s : Sheet) (n c : ℕ) → within_limits s (object_line n c) ≡ (ltb n 96 && is_class c)
unfolding within_limits
object_limits s n c = refl

module _ (st : Counts) (k : ℕ) (w0 w1 : List ℕ) (n c : ℕ) (low : n < 96) (class : c < 64) where
  within : (s : Sheet) → within_limits s (object_line n c) ≡ true
  unfolding within_limits is_class
  within s = rw (lt-ltb n 96 low, lt-ltb c 64 class)

  pub object_block : 2 < st.block → TookSpelled st k (object_line n c) (Err OutOfRow) w0 w1 w0 w1
  unfolding block_of
  object_block = past_block st k w0 w1 (object_line n c) within

  module _ (in_block : st.block ≤ 2) where
    pub object_gap : (n ≡ st.objects → ⊥) → TookSpelled st k (object_line n c) (Err OutOfRow) w0 w1 w0 w1
    unfolding block_of numbered
    object_gap o = misnumbered st k w0 w1 (object_line n c) within in_block (λ s h. ne_eqb n (length s.objects) (λ e. o (e ∙ sym h.counted.objects)))

    module _ (is_next : n ≡ st.objects) where
      its_number : (s : Sheet) → Holds st w0 w1 s → numbered s (object_line n c) ≡ true
      unfolding numbered
      its_number s h = eq-eqb n (length s.objects) (is_next ∙ h.counted.objects)

      in_order_lem : (s : Sheet) → Holds st w0 w1 s → in_order s (object_line n c) ≡ true
      unfolding block_of
      in_order_lem s h = order_by_number st k w0 w1 (object_line n c) within in_block s h.counted ∙ its_number s h

      pub object_unknown : st.classes ≤ c → TookSpelled st k (object_line n c) (Err UnknownPart) w0 w1 w0 w1
      unfolding block_of parts_known
      object_unknown u =
          unknown st k w0 w1 (object_line n c) within in_block its_number (λ s h. le-ltb c (length s.parents) (omega (arith, h.counted.classes)))

      pub object_put : Fine st → 8192 ≤ length w0 → c < st.classes → TookSpelled st k (object_line n c) (Ok (object_counts st n)) w0 w1 (set w0 (memory.objects + n) c) w1
      unfolding parts_known calls_smaller calls_known suits tree_holds
      object_put fine room known =
          passed st k w0 w1 _ (object_counts st n) _ (kept_set w0 (memory.objects + n) c (omega arith)) (search rules) (λ s h. (
            steps_on s k (object_line n c) refl refl (within s) (in_order_lem s h) (lt-ltb c (length s.parents) (omega (arith, h.counted.classes))) refl refl,
            object_held st k n c (set w0 (memory.objects + n) c) w1 s is_next (rw length-set (omega arith)) (get_or-set_same w0 (memory.objects + n) c 0 (omega arith))
                (holds_kept c (rw is_next (spare_object fine h.counted (omega arith))) h),
          ))
