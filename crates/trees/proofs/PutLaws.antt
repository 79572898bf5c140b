-- A node that is taken, or refused for its operands. Assumes nothing.
use mathlib.Core.Path.{◌≡◌, refl, sym, ap, ◌∙◌, subst}
use mathlib.Core.Bool.{Bool, true, false, not, ◌||◌}
use mathlib.Core.Option.{Option}
use mathlib.Core.List.{List, ◌++◌}
use Prim.Native.Nat.{ℕ, ◌+◌, ◌*◌, ◌/◌, ◌<◌, ◌≤◌, max}
use native.Mathlib.Omega.{arith}
use borrow.Author.Tests.{le-leb}
use lib.ListN.{length, get_or, set}
use lib.Seq.{get_or-set_same, get_or-set_other}
use Rattle.memory.specs.Map as memory
use Rattle.ocl.specs.Forms.{levels}
use Rattle.sheet.specs.Lines.{Shape, node_line}
use Rattle.sheet.specs.Sheet.{Current, Sheet, added, operands_of, tree_of, definition_of}
use Rattle.sheet.specs.Limits.{form_within}
use Rattle.sheet.specs.Refusals.{fresh, parts_known, call_below, in_definition, calls_smaller, calls_known, suits, operands_fresh, tree_holds}
use Rattle.nodes.specs.Nodes.{word, shape_words}
use Rattle.tables.specs.Layout.{Holds, Fine, Kept, moved_next, moved_refused}
use Rattle.tables.specs.declared.Counts.{Counts}
use Rattle.tables.proofs.Tables.{kept_set, kept_then}
use Rattle.tables.proofs.Steps.{malformed_tree, steps_on}
use Rattle.shapes.specs.declared.Parsed.{Parsed}
use Rattle.shapes.specs.Fields.{cut}
use Rattle.shapes.specs.Forms.{operands_at, StandsFor}
use Rattle.trees.specs.Operands.{malformed, deepest, depth_at, marking, shifted, WroteWords}
use Rattle.shapes.specs.Calls.{called_by}
use Rattle.trees.specs.Calls.{calls_in, called_at, resolved_in, body_depth}
use Rattle.trees.specs.Rules.{node_limits, node_order, node_counts, Fit, Placed}
use Rattle.trees.proofs.MarkLaws.{words_of, depth_of, Framed, mark_frame, mark_small, mark_half, Depths, deepest_of, Marks, marks_law, fresh_low, malformed_fresh, deepest_fresh}
use Rattle.trees.proofs.ShapeLaws.{body_levels, shape_shifted}
use Rattle.trees.proofs.CallLaws.{depth_shape}
use Rattle.trees.proofs.PlaceLaws.{nodes_low, is_open, is_next, limits_same, form_within_lem, operands_are, order_same, known_same, calls_same, full_words, stopped}
use Rattle.trees.proofs.NodeLaws.{OpenRule, open_rule, rule_depth, rule_depths, node_holds}
use Rattle.std.specs.Prelude.{Ok, Err}
use Rattle.memory.specs.declared.refusals.Refusal.TheVariants.{BrokenTree}

pub place_room : (st : Counts) (n : ℕ) (p : Parsed) → Fine st → node_limits st n p ≡ true → node_order st n p ≡ true → st.first + n ≤ 768
place_room st n p fine ok ordered = omega (arith, is_next st n p ordered, nodes_low st n p ok, fine.first)

pub deepest_small : (first n d : ℕ) (es : List ℕ) (w v : List ℕ) → first + n ≤ 768 → deepest d v ≡ marking first n 0 es w → d ≤ 1000
unfolding depth_of
deepest_small first n d es w v room e = rw (ap depth_of e) (mark_small first n room es 0 w (omega arith))

module _ (st : Counts) (n : ℕ) (p : Parsed) (w0 w1 : List ℕ) (fine : Fine st) (long0 : 8192 ≤ length w0) (long : 8192 ≤ length w1) (fit : Fit st n p) where
  ok : node_limits st n p ≡ true
  ok = fit.limits

  ordered : node_order st n p ≡ true
  ordered = fit.order

  room : st.first + n ≤ 768
  room = place_room st n p fine ok ordered

  module _ {line : ℕ} {s : Sheet} {x : Shape} (i : ℕ) (u : n ≡ cut i) (z : StandsFor line x p) (h : Holds st w0 w1 s) (o : OpenRule st w1 s) where
    its_number : n ≡ length o.rule.trees
    its_number = omega (arith, is_next st n p ordered, o.holds.count, o.holds.first, h.counted.nodes)

    marking_same : marking st.first n 0 (operands_at p.words p.count) w1 ≡ marking o.rule.first (length o.rule.trees) 0 (operands_of x) w1
    marking_same =
        ap (λ (es : List ℕ). marking st.first n 0 es w1) (operands_are i u z h fine ok)
        ∙ ap (λ (m : ℕ). marking st.first m 0 (operands_of x) w1) its_number
        ∙ ap (λ (f : ℕ). marking f (length o.rule.trees) 0 (operands_of x) w1) o.holds.first

    marks : Marks o.rule.first (length o.rule.trees) (λ a. levels (tree_of o.rule.trees a)) 0 o.rule.used (operands_of x)
        (fresh (length o.rule.trees) o.rule.used (operands_of x)) (marking o.rule.first (length o.rule.trees) 0 (operands_of x) w1)
    marks =
        marks_law o.rule.first (length o.rule.trees) (λ a. levels (tree_of o.rule.trees a)) (rule_depth o.holds (omega (arith, h.counted.nodes, fine.nodes)))
        (operands_of x) 0 o.rule.used w1 (omega (arith, o.holds.count, h.counted.nodes, fine.nodes)) long (rule_depths o.holds)

    parts_known_lem : parts_known s (node_line i x) ≡ true
    parts_known_lem = sym (known_same i u z h fine ok) ∙ le-leb p.classes st.classes fit.classes

    called : call_below (length s.definitions) x ≡ true
    called = sym (calls_same i u z h fine ok) ∙ le-leb (calls_in p.words p.count) st.definitions fit.calls

    calls_smaller_lem : calls_smaller s (node_line i x) ≡ true
    unfolding calls_smaller
    calls_smaller_lem = rw called (go (not (in_definition s.current)))
      where
        go : (b : Bool) → (b || true) ≡ true
        go true = refl
        go false = refl

    calls_known_lem : calls_known s (node_line i x) ≡ true
    unfolding calls_known
    calls_known_lem = called

    tree_test : tree_holds s (node_line i x) ≡ fresh (length o.rule.trees) o.rule.used (operands_of x)
    unfolding tree_holds operands_fresh
    tree_test = ap (λ (c : Option Current). operands_fresh c x) o.is

  pub place_8 : {v1 : List ℕ} → malformed v1 ≡ marking st.first n 0 (operands_at p.words p.count) w1 → Placed st n p (Err BrokenTree) w0 w1 v1
  unfolding suits words_of
  place_8 {v1} e = record {
    is = λ line s i x u z h.
        let o = open_rule h (is_open st n p ordered) in
        rw (malformed_tree s line (node_line i x) (calls_smaller_lem i u z h o) (calls_known_lem i u z h o) (sym (limits_same i u z h) ∙ ok) (sym (order_same i u z h fine ok) ∙ ordered) (parts_known_lem i u z h o) refl
        (tree_test i u z h o ∙ malformed_fresh (marks i u z h o) (e ∙ marking_same i u z h o))) moved_refused;
    fine = stopped;
    kept = rw (ap words_of e) (mark_frame st.first n room (operands_at p.words p.count) 0 w1).kept;
  }

  module _ {d b : ℕ} {full u v : List ℕ} (fully : full ≡ resolved_in w0 p.words p.count) (deep : b ≡ body_depth w1 full p.count)
      (e : deepest d u ≡ marking st.first n 0 (operands_at p.words p.count) w1) (wrote : WroteWords (8 * st.nodes) 8 (shifted full p.count st.first) u v) where
    framed : Framed w1 u
    unfolding words_of
    framed = rw (ap words_of e) (mark_frame st.first n room (operands_at p.words p.count) 0 w1)

    low_room : st.nodes < 768
    low_room = nodes_low st n p ok

    low_after : (j : ℕ) → j < 8 * st.nodes → get_or (set v (memory.depths + st.nodes) (2 * (max d b + 1))) j 0 ≡ get_or w1 j 0
    low_after j l = get_or-set_other v (memory.depths + st.nodes) j (2 * (max d b + 1)) 0 (omega (arith, low_room)) ∙ wrote.low j l ∙ framed.low j (omega (arith, low_room))

    words_after : (j : ℕ) → j < 8 → get_or (set v (memory.depths + st.nodes) (2 * (max d b + 1))) (8 * st.nodes + j) 0 ≡ shifted full p.count st.first j
    words_after j l = get_or-set_other v (memory.depths + st.nodes) (8 * st.nodes + j) (2 * (max d b + 1)) 0 (omega (arith, low_room)) ∙ wrote.each j l

    depth_after : get_or (set v (memory.depths + st.nodes) (2 * (max d b + 1))) (memory.depths + st.nodes) 0 ≡ 2 * (max d b + 1)
    depth_after = get_or-set_same v (memory.depths + st.nodes) (2 * (max d b + 1)) 0 (omega (arith, wrote.kept.size, framed.kept.size, low_room))

    depths_after : (a : ℕ) → a < n → get_or (set v (memory.depths + st.nodes) (2 * (max d b + 1))) (depth_at st.first a) 0 ≡ get_or u (depth_at st.first a) 0
    depths_after a l =
        get_or-set_other v (memory.depths + st.nodes) (depth_at st.first a) (2 * (max d b + 1)) 0 (omega (arith, is_next st n p ordered, fine.first))
        ∙ wrote.high (depth_at st.first a) (omega (arith, low_room))

    kept_after : Kept w1 (set v (memory.depths + st.nodes) (2 * (max d b + 1)))
    kept_after = kept_then framed.kept (kept_then wrote.kept (kept_set v (memory.depths + st.nodes) (2 * (max d b + 1)) (omega (arith, low_room))))

    half_after : (j : ℕ) → j < st.nodes → get_or (set v (memory.depths + st.nodes) (2 * (max d b + 1))) (memory.depths + j) 0 / 2 ≡ get_or w1 (memory.depths + j) 0 / 2
    unfolding words_of
    half_after j l =
        ap (λ (x : ℕ). x / 2) (get_or-set_other v (memory.depths + st.nodes) (memory.depths + j) (2 * (max d b + 1)) 0 (omega arith) ∙ wrote.high (memory.depths + j) (omega (arith, low_room)))
        ∙ rw (ap words_of e) (mark_half st.first n room (operands_at p.words p.count) 0 w1 long (memory.depths + j))

    more_fine : Fine (node_counts st)
    unfolding node_counts
    more_fine = record {
      classes = fine.classes;
      rows = fine.rows;
      objects = fine.objects;
      slots = fine.slots;
      cells = fine.cells;
      nodes = omega (arith, low_room);
      definitions = fine.definitions;
      rules = fine.rules;
      first = omega (arith, fine.first);
      context = fine.context;
    }

    module _ {line : ℕ} {s : Sheet} {x : Shape} (i : ℕ) (few : p.count ≤ 4) (number : n ≡ cut i) (z : StandsFor line x p) (h : Holds st w0 w1 s) (o : OpenRule st w1 s) where
      told : (fresh (length o.rule.trees) o.rule.used (operands_of x) ≡ true) × (d ≡ max 0 (deepest_of (λ a. levels (tree_of o.rule.trees a)) (operands_of x)))
          × Depths o.rule.first (length o.rule.trees) (λ a. levels (tree_of o.rule.trees a)) (o.rule.used ++ operands_of x) u
      told = deepest_fresh (marks i number z h o) (e ∙ marking_same i number z h o)

      within : form_within x ≡ true
      within = form_within_lem i number z h fine ok

      table_words : full ≡ shape_words 0 z.type (called_by (called_at w0) x) line x
      table_words = fully ∙ full_words i number z h fine ok w0

      depth_told : max d b ≡ max (deepest_of (λ a. levels (tree_of o.rule.trees a)) (operands_of x)) (body_levels (definition_of s.definitions) x)
      depth_told =
          let q : b ≡ body_levels (definition_of s.definitions) x
          = deep ∙ rw (table_words, z.counted) (depth_shape h.definitions long0 (omega (arith, h.counted.definitions, fine.definitions)) z.type line x (omega (arith, h.counted.nodes, fine.nodes)) (called i number z h o)) in
          omega (arith, told.1)

      new_words : (j : ℕ) → j < 8 → word (set v (memory.depths + st.nodes) (2 * (max d b + 1))) (length s.lines) j ≡ get_or (shape_words o.rule.first z.type (called_by (called_at w0) x) line x) j 0
      new_words j l =
          ap (λ (m : ℕ). get_or (set v (memory.depths + st.nodes) (2 * (max d b + 1))) (8 * m + j) 0) (sym h.counted.nodes)
          ∙ words_after j l
          ∙ ap (λ (f : ℕ). shifted full p.count f j) o.holds.first
          ∙ ap (λ (ws : List ℕ). shifted ws p.count o.rule.first j) table_words
          ∙ ap (λ (m : ℕ). shifted (shape_words 0 z.type (called_by (called_at w0) x) line x) m o.rule.first j) z.counted
          ∙ shape_shifted o.rule.first z.type (called_by (called_at w0) x) line x (omega (arith, z.counted)) j l

      new_depths : Depths o.rule.first (length o.rule.trees) (λ a. levels (tree_of o.rule.trees a)) (o.rule.used ++ operands_of x) (set v (memory.depths + st.nodes) (2 * (max d b + 1)))
      new_depths = record {
        at = λ a l.
            ap (λ (f : ℕ). get_or (set v (memory.depths + st.nodes) (2 * (max d b + 1))) (depth_at f a) 0) (sym o.holds.first)
            ∙ depths_after a (omega (arith, its_number i number z h o))
            ∙ ap (λ (f : ℕ). get_or u (depth_at f a) 0) o.holds.first
            ∙ told.2.at a l;
      }

      next_holds : Holds (node_counts st) w0 (set v (memory.depths + st.nodes) (2 * (max d b + 1))) (added s line (node_line i x))
      next_holds =
          node_holds i (max d b) h fine long0 o z within (omega (arith, z.counted)) (called i number z h o) (fresh_low (length o.rule.trees) o.rule.used (operands_of x) told.0) depth_told
          (λ j l. low_after j (omega (arith, h.counted.nodes))) (λ j l. half_after j (omega (arith, h.counted.nodes))) new_words (ap (λ (m : ℕ). get_or (set v (memory.depths + st.nodes) (2 * (max d b + 1))) (memory.depths + m) 0) (sym h.counted.nodes) ∙ depth_after) new_depths

    pub place_on : {r : Counts} → p.count ≤ 4 → r ≡ node_counts st → Placed st n p (Ok r) w0 w1 (set v (memory.depths + st.nodes) (2 * (max d b + 1)))
    unfolding suits node_counts
    place_on few q = rw q (record {
      is = λ line s i x number z h.
          let o = open_rule h (is_open st n p ordered) in
          rw (steps_on s line (node_line i x) (calls_smaller_lem i number z h o) (calls_known_lem i number z h o) (sym (limits_same i number z h) ∙ ok) (sym (order_same i number z h fine ok) ∙ ordered) (parts_known_lem i number z h o) refl
          (tree_test i number z h o ∙ (told i few number z h o).0)) (moved_next more_fine (next_holds i few number z h o));
      fine = λ y f. let v : node_counts st ≡ y = cc in subst Fine v more_fine;
      kept = kept_after;
    })
