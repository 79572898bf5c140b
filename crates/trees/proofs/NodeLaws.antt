-- The tables with one node more. Assumes nothing.
use mathlib.Core.Path.{◌≡◌, refl, sym, ap, ◌∙◌}
use mathlib.Core.Bool.{true, false}
use mathlib.Core.Option.{Option, none, some}
use mathlib.Core.List.{List, [], ◌∷◌, ◌++◌}
use Prim.Native.Nat.{ℕ, zero, suc, ◌+◌, ◌*◌, ◌/◌, ◌<◌, ◌≤◌, max}
use native.Mathlib.Omega.{arith}
use native.Mathlib.Decide.{dec_lt}
use lib.ListN.{length, get_or, length-append, get_or-append}
use lib.Seq.{get_or_at}
use Rattle.laws.specs.Choice.{on_some}
use Rattle.laws.specs.Lists.{member, Each, each_nil, each-cons}
use Rattle.laws.proofs.Lists.{member_none, each_imp, each_append, map_each}
use Rattle.memory.specs.Map as memory
use Rattle.ocl.specs.Forms.{Expr, node, levels}
use Rattle.sheet.specs.Lines.{Shape, node_line}
use Rattle.sheet.specs.Sheet.{Current, Sheet, added, operands_of, grow, tree_of, definition_of, with_node as grow_rule}
use Rattle.sheet.specs.Limits.{form_within}
use Rattle.sheet.specs.Refusals.{call_below}
use Rattle.nodes.specs.Nodes.{CallSaid, word, shape_words, trees_below, tree_at}
use Rattle.nodes.proofs.Keep.{tree_keep, tree_depth}
use Rattle.nodes.proofs.Nodes.{below_law}
use Rattle.nodes.proofs.Shapes.{shape_tree}
use Rattle.tables.specs.Layout.{tab, lines_in, used_bit, HoldsCurrent, HoldsOpen, closed, opened, Holds, Fine}
use Rattle.tables.specs.declared.Counts.{Counts}
use Rattle.tables.proofs.Entries.{tables_same}
use Rattle.shapes.specs.declared.Parsed.{Parsed}
use Rattle.shapes.specs.Forms.{StandsFor}
use Rattle.shapes.specs.Calls.{called_by}
use Rattle.trees.specs.Calls.{called_at}
use Rattle.trees.specs.Rules.{node_counts}
use Rattle.trees.proofs.MarkLaws.{Depths, deepest_of}
use Rattle.trees.proofs.ShapeLaws.{body_levels, grow_same, grow_depth, shape_line}
use Rattle.trees.proofs.CallLaws.{call_said}

-- ---- the definition or rule that is open

pub record OpenRule (st : Counts) (w1 : List ℕ) (s : Sheet) : Type 0 where
  pub rule : Current
  pub is : s.current ≡ some rule
  pub holds : HoldsCurrent st w1 (length s.lines) rule

pub open_rule : {st : Counts} {w0 w1 : List ℕ} {s : Sheet} → Holds st w0 w1 s → (st.«open» ≡ 0 → ⊥) → OpenRule st w1 s
open_rule {st} {w0} {w1} {s} h e = go s.current refl h.current
  where
    go : (o : Option Current) → s.current ≡ o → HoldsOpen st w1 (length s.lines) o → OpenRule st w1 s
    go none q (closed z) = absurd (e z)
    go (some c) q (opened k) = record { rule = c; is = q; holds = k }

-- its nodes are no deeper than they are many
pub rule_depth : {st : Counts} {w1 : List ℕ} {m : ℕ} {c : Current} → HoldsCurrent st w1 m c → m ≤ 768 → (a : ℕ) → a < length c.trees → levels (tree_of c.trees a) ≤ 1000
rule_depth {st} {w1} {m} {c} k l a h = rw (k.trees a h) (let d = tree_depth w1 (c.first + a) in omega (arith, k.count))

pub rule_depths : {st : Counts} {w1 : List ℕ} {m : ℕ} {c : Current} → HoldsCurrent st w1 m c → Depths c.first (length c.trees) (λ a. levels (tree_of c.trees a)) c.used w1
rule_depths k = record { at = k.depths }

-- ---- lists

each_two : {A : Type 0} {P Q R : A → Type 0} {ns : List A} → ((n : A) → P n → Q n → R n) → Each P ns → Each Q ns → Each R ns
each_two f each_nil each_nil = each_nil
each_two f (each-cons p ps) (each-cons q qs) = each-cons (f _ p q) (each_two f ps qs)

lines_keep : (w v : List ℕ) (n : ℕ) → ((i : ℕ) → i < 8 * n → get_or v i 0 ≡ get_or w i 0) → lines_in v n ≡ lines_in w n
unfolding lines_in
lines_keep w v zero h = refl
lines_keep w v (suc n) h = rw (h (8 * n + 7) (omega arith), lines_keep w v n (λ i l. h i (omega arith)))

-- ---- the tables with one node more: node m, of rule c, with the words v1

module _ {st : Counts} {line : ℕ} {p : Parsed} {w0 w1 v1 : List ℕ} {s : Sheet} {x : Shape} (i : ℕ) (d : ℕ)
    (h : Holds st w0 w1 s) (fine : Fine st) (long : 8192 ≤ length w0) (o : OpenRule st w1 s) (z : StandsFor line x p) (within : form_within x ≡ true) (few : length (operands_of x) ≤ 4)
    (there : call_below (length s.definitions) x ≡ true)
    (smaller : Each (λ a. a < length o.rule.trees) (operands_of x))
    (deep : d ≡ max (deepest_of (λ a. levels (tree_of o.rule.trees a)) (operands_of x)) (body_levels (definition_of s.definitions) x))
    (low : (j : ℕ) → j < 8 * length s.lines → get_or v1 j 0 ≡ get_or w1 j 0)
    (half : (j : ℕ) → j < length s.lines → get_or v1 (memory.depths + j) 0 / 2 ≡ get_or w1 (memory.depths + j) 0 / 2)
    (words : (j : ℕ) → j < 8 → word v1 (length s.lines) j ≡ get_or (shape_words o.rule.first z.type (called_by (called_at w0) x) line x) j 0)
    (depth : get_or v1 (memory.depths + length s.lines) 0 ≡ 2 * (d + 1))
    (depths : Depths o.rule.first (length o.rule.trees) (λ a. levels (tree_of o.rule.trees a)) (o.rule.used ++ operands_of x) v1) where
  new : Expr
  new = node (o.rule.first + length o.rule.trees) (grow (tree_of o.rule.trees) (definition_of s.definitions) x)

  place : o.rule.first + length o.rule.trees ≡ length s.lines
  place = o.holds.count

  kept_tree : (a : ℕ) → a < length s.lines → tree_at w1 a ≡ tree_at v1 a
  kept_tree a l = tree_keep w1 v1 (length s.lines) (λ j k. sym (low j k)) a l

  old_tree : (a : ℕ) → a < length o.rule.trees → tree_of o.rule.trees a ≡ tree_at v1 (o.rule.first + a)
  old_tree a l = o.holds.trees a l ∙ kept_tree (o.rule.first + a) (omega (arith, place))

  said : CallSaid (trees_below v1 (o.rule.first + length o.rule.trees)) (definition_of s.definitions) (called_by (called_at w0) x) x
  said =
      call_said h.definitions long (omega (arith, h.counted.definitions, fine.definitions)) _ x there
      (λ r l. below_law v1 (o.rule.first + length o.rule.trees) r (omega (arith, place)) ∙ sym (kept_tree r l))

  new_tree : node (o.rule.first + length o.rule.trees) (grow (tree_of o.rule.trees) (definition_of s.definitions) x) ≡ tree_at v1 (o.rule.first + length o.rule.trees)
  new_tree =
      ap (node (o.rule.first + length o.rule.trees)) (grow_same (tree_of o.rule.trees) (λ a. tree_at v1 (o.rule.first + a)) (definition_of s.definitions) x (each_imp (λ a l. old_tree a l) smaller))
      ∙ sym (shape_tree v1 o.rule.first (length o.rule.trees) z.type (called_by (called_at w0) x) line (definition_of s.definitions) x within (z.said within) said smaller few (rw place words))

  more : length (o.rule.trees ++ (new ∷ [])) ≡ length o.rule.trees + 1
  more = length-append o.rule.trees (new ∷ [])

  tree_left : (a : ℕ) → a < length o.rule.trees → tree_of (o.rule.trees ++ (new ∷ [])) a ≡ tree_of o.rule.trees a
  unfolding tree_of
  tree_left a l = get_or-append o.rule.trees (new ∷ []) _ a l

  tree_last : (a : ℕ) → a ≡ length o.rule.trees → tree_of (o.rule.trees ++ (new ∷ [])) a ≡ new
  unfolding tree_of
  tree_last a e = get_or_at o.rule.trees new [] _ a (sym e)

  unused : member (length o.rule.trees) (o.rule.used ++ operands_of x) ≡ false
  unused = member_none (length o.rule.trees) (o.rule.used ++ operands_of x) (each_append o.holds.used smaller)

  new_depth : get_or v1 (memory.depths + length s.lines) 0 ≡ 2 * levels new + used_bit (member (length o.rule.trees) (o.rule.used ++ operands_of x))
  unfolding levels used_bit new
  new_depth = rw unused (depth ∙ (let e = grow_depth (tree_of o.rule.trees) (definition_of s.definitions) x in omega arith))

  more_current : HoldsCurrent (node_counts st) v1 (length (s.lines ++ (line ∷ []))) (grow_rule s.definitions o.rule x)
  unfolding node_counts grow_rule new
  more_current = record {
    is_open = o.holds.is_open;
    of_rule = o.holds.of_rule;
    context = o.holds.context;
    result = o.holds.result;
    first = o.holds.first;
    count = let e = length-append s.lines (line ∷ []) in omega (arith, more, place);
    trees = λ a l. trees a l (dec_lt a (length o.rule.trees));
    depths = λ a l. depths_at a l (dec_lt a (length o.rule.trees));
    used = each_append (each_imp (λ a l. omega (arith, more)) o.holds.used) (each_imp (λ a l. omega (arith, more)) smaller);
  }
    where
      trees : (a : ℕ) → a < length (o.rule.trees ++ (new ∷ [])) → Dec (a < length o.rule.trees) → tree_of (o.rule.trees ++ (new ∷ [])) a ≡ tree_at v1 (o.rule.first + a)
      trees a l (yes k) = tree_left a k ∙ old_tree a k
      trees a l (no k) = let e : a ≡ length o.rule.trees = omega (arith, more) in tree_last a e ∙ rw e new_tree

      depths_at : (a : ℕ) → a < length (o.rule.trees ++ (new ∷ [])) → Dec (a < length o.rule.trees)
          → get_or v1 (memory.depths + (o.rule.first + a)) 0 ≡ 2 * levels (tree_of (o.rule.trees ++ (new ∷ [])) a) + used_bit (member a (o.rule.used ++ operands_of x))
      depths_at a l (yes k) = depths.at a k ∙ rw (tree_left a k)
      depths_at a l (no k) = let e : a ≡ length o.rule.trees = omega (arith, more) in rw (tree_last a e, e) (ap (λ (j : ℕ). get_or v1 (memory.depths + j) 0) place ∙ new_depth)

  pub node_holds : Holds (node_counts st) w0 v1 (added s line (node_line i x))
  unfolding node_counts added on_some lines_in
  node_holds = record {
    counted = record {
      block = h.counted.block;
      classes = h.counted.classes;
      rows = h.counted.rows;
      objects = h.counted.objects;
      slots = h.counted.slots;
      cells = h.counted.cells;
      nodes = let e = length-append s.lines (line ∷ []) in omega (arith, h.counted.nodes);
      definitions = h.counted.definitions;
      rules = h.counted.rules;
    };
    tables = tables_same refl refl refl refl refl h.tables;
    definitions = record {
      contexts = h.definitions.contexts;
      classes = h.definitions.classes;
      types = h.definitions.types;
      bodies = sym (map_each (tree_at w1) (tree_at v1) (tab memory.definition_roots (length s.definitions) w0) (each_imp (λ a l. kept_tree a l) h.definitions.roots)) ∙ h.definitions.bodies;
      roots = each_imp (λ a l. let e = length-append s.lines (line ∷ []) in omega arith) h.definitions.roots;
      depths = each_two (λ a l e. half a l ∙ e ∙ ap levels (kept_tree a l)) h.definitions.roots h.definitions.depths;
    };
    rules = record {
      bodies = sym (map_each (tree_at w1) (tree_at v1) (tab memory.roots (length s.rules) w0) (each_imp (λ a l. kept_tree a l) h.rules.roots)) ∙ h.rules.bodies;
      roots = each_imp (λ a l. let e = length-append s.lines (line ∷ []) in omega arith) h.rules.roots;
      lines =
          let e : length (s.lines ++ (line ∷ [])) ≡ suc (length s.lines) = (let k = length-append s.lines (line ∷ []) in omega arith) in
          rw e (rw (lines_keep w1 v1 (length s.lines) low, h.rules.lines, words 7 (omega arith), shape_line o.rule.first z.type (called_by (called_at w0) x) line x));
    };
    current = rw o.is (opened more_current);
  }
