-- The rule of a line that is spelled well and within its limits: each answer of `open_rule` is one of these. Assumes nothing.
use mathlib.Core.Path.{◌≡◌, refl, sym, ◌∙◌}
use mathlib.Core.Bool.{true, false, ◌&&◌, true≢false}
use mathlib.Core.Option.{none, none-ne-some}
use mathlib.Core.List.{List, []}
use Prim.Native.Nat.{ℕ, ◌≤◌, ◌<◌}
use native.Mathlib.Omega.{arith}
use borrow.Author.Rules.{rules}
use borrow.Author.Tests.{lt-ltb, le-ltb, eq-eqb, ne_eqb}
use lib.Dec.{ltb}
use lib.ListN.{length}
use Rattle.laws.specs.Lists.{each_nil}
use Rattle.sheet.specs.Lines.{rule_line}
use Rattle.sheet.specs.Sheet.{Sheet, added}
use Rattle.sheet.specs.Limits.{is_class, within_limits}
use Rattle.sheet.specs.Refusals.{block_of, numbered, in_order, parts_known, calls_smaller, calls_known, suits, tree_holds}
use Rattle.tables.specs.declared.Counts.{Counts}
use Rattle.tables.specs.Layout.{open_code, HoldsCurrent, opened, Holds, Fine}
use Rattle.tables.proofs.Tables.{kept_refl}
use Rattle.tables.proofs.Entries.{definitions_same, tables_same}
use Rattle.tables.proofs.Steps.{steps_on}
use Rattle.declarations.specs.Taken.{TookSpelled}
use Rattle.declarations.proofs.TakenLaws.{passed, past_block, order_by_number, misnumbered, unknown}
use Rattle.std.specs.Prelude.{Ok, Err}
use Rattle.memory.specs.declared.refusals.Refusal.TheVariants.{OutOfRow, UnknownPart}

-- the counts with a rule of context c open
abbrev pub rule_counts : Counts → ℕ → Counts
rule_counts st c = record {
  block = 5;
  classes = st.classes;
  rows = st.rows;
  objects = st.objects;
  slots = st.slots;
  cells = st.cells;
  nodes = st.nodes;
  definitions = st.definitions;
  rules = st.rules;
  «open» = 1;
  context = c;
  result = st.result;
  first = st.nodes;
}

pub rule_limits : (s : Sheet) (n c : ℕ) → within_limits s (rule_line n c) ≡ (ltb n 64 && is_class c)
unfolding within_limits
rule_limits s n c = refl

-- a rule that has no node yet
rule_open : (st : Counts) (c : ℕ) (w1 : List ℕ) (m : ℕ) → st.nodes ≡ m → HoldsCurrent (rule_counts st c) w1 m (record { context = c; result = none; text = false; first = m; trees = []; used = [] })
unfolding open_code
rule_open st c w1 m e = record {
  is_open = refl;
  of_rule = λ e. absurd (true≢false (sym e));
  context = refl;
  result = λ t q. absurd (none-ne-some t q);
  first = e;
  count = omega arith;
  trees = λ a l. absurd (omega arith);
  depths = λ a l. absurd (omega arith);
  used = each_nil;
}

rule_held : (st : Counts) (k n c : ℕ) (w0 w1 : List ℕ) (s : Sheet) → Holds st w0 w1 s → Holds (rule_counts st c) w0 w1 (added s k (rule_line n c))
unfolding added
rule_held st k n c w0 w1 s h = record {
  counted = record {
    block = refl;
    classes = h.counted.classes;
    rows = h.counted.rows;
    objects = h.counted.objects;
    slots = h.counted.slots;
    cells = h.counted.cells;
    nodes = h.counted.nodes;
    definitions = h.counted.definitions;
    rules = h.counted.rules;
  };
  tables = tables_same refl refl refl refl refl h.tables;
  definitions = definitions_same refl refl h.definitions;
  rules = record { bodies = h.rules.bodies; roots = h.rules.roots; lines = h.rules.lines };
  current = opened (rule_open st c w1 (length s.lines) h.counted.nodes);
}

module _ (st : Counts) (k : ℕ) (w0 w1 : List ℕ) (n c : ℕ) (low : n < 64) (class : c < 64) where
  within : (s : Sheet) → within_limits s (rule_line n c) ≡ true
  unfolding is_class
  within s = rule_limits s n c ∙ rw (lt-ltb n 64 low, lt-ltb c 64 class)

  pub rule_block : 5 < st.block → TookSpelled st k (rule_line n c) (Err OutOfRow) w0 w1 w0 w1
  unfolding block_of
  rule_block = past_block st k w0 w1 (rule_line n c) within

  module _ (in_block : st.block ≤ 5) where
    pub rule_gap : (n ≡ st.rules → ⊥) → TookSpelled st k (rule_line n c) (Err OutOfRow) w0 w1 w0 w1
    unfolding block_of numbered
    rule_gap o = misnumbered st k w0 w1 (rule_line n c) within in_block (λ s h. ne_eqb n (length s.rules) (λ e. o (e ∙ sym h.counted.rules)))

    module _ (is_next : n ≡ st.rules) where
      its_number : (s : Sheet) → Holds st w0 w1 s → numbered s (rule_line n c) ≡ true
      unfolding numbered
      its_number s h = eq-eqb n (length s.rules) (is_next ∙ h.counted.rules)

      in_order_lem : (s : Sheet) → Holds st w0 w1 s → in_order s (rule_line n c) ≡ true
      unfolding block_of
      in_order_lem s h = order_by_number st k w0 w1 (rule_line n c) within in_block s h.counted ∙ its_number s h

      pub rule_unknown : st.classes ≤ c → TookSpelled st k (rule_line n c) (Err UnknownPart) w0 w1 w0 w1
      unfolding block_of parts_known
      rule_unknown u =
          unknown st k w0 w1 (rule_line n c) within in_block its_number (λ s h. le-ltb c (length s.parents) (omega (arith, h.counted.classes)))

      pub rule_put : Fine st → c < st.classes → TookSpelled st k (rule_line n c) (Ok (rule_counts st c)) w0 w1 w0 w1
      unfolding parts_known calls_smaller calls_known suits tree_holds
      rule_put fine known =
          passed st k w0 w1 _ (rule_counts st c) _ (kept_refl w0) (search rules) (λ s h. (
            steps_on s k (rule_line n c) refl refl (within s) (in_order_lem s h) (lt-ltb c (length s.parents) (omega (arith, h.counted.classes))) refl refl,
            rule_held st k n c w0 w1 s h,
          ))
