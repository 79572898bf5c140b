-- The tables with a definition or rule put down. Assumes nothing.
use mathlib.Core.Path.{◌≡◌, refl, sym, ap, ◌∙◌}
use mathlib.Core.Logic.{◌≢◌}
use mathlib.Core.Bool.{Bool, true, false}
use mathlib.Core.Option.{Option, none, some}
use mathlib.Core.List.{List, [], ◌∷◌, ◌++◌}
use Prim.Native.Nat.{ℕ, ◌+◌, ◌/◌, ◌<◌, ◌≤◌}
use native.Mathlib.Omega.{arith}
use lib.ListN.{length, get_or, set, length-set}
use lib.Seq.{get_or-set_same, get_or-set_other}
use Rattle.laws.specs.Lists.{each_nil, each-cons}
use Rattle.laws.proofs.Lists.{length_more, each_append}
use Rattle.memory.specs.Map as memory
use Rattle.ocl.specs.Types.{Ty}
use Rattle.ocl.specs.Forms.{Definition, levels}
use Rattle.sheet.specs.Sheet.{Current, Sheet, Rule, with_body}
use Rattle.types.specs.Word.{type_in}
use Rattle.nodes.specs.Nodes.{tree_at}
use Rattle.tables.specs.Layout.{tab, open_code, HoldsCurrent, HoldsOpen, closed, opened, Holds, Fine}
use Rattle.tables.specs.declared.Counts.{Counts}
use Rattle.tables.proofs.Tables.{kept_set, kept_then}
use Rattle.tables.proofs.Entries.{holds_kept, spare_context, spare_root, spare_class, spare_result, spare_body, tab_next, tab_more_of, tab_more_by, tables_same, definitions_same}
use Rattle.trees.specs.Rules.{RuleRoom, ended_counts, defined_counts, PutDown}

-- ---- a rule: its context and its root

module _ (st : Counts) (w0 : List ℕ) (long : 8192 ≤ length w0) (fine : Fine st) (low : st.rules < 64) (root : ℕ) where
  abbrev down : List ℕ
  down = set (set w0 (memory.contexts + st.rules) st.context) (memory.roots + st.rules) root

  down_long : length down ≡ length w0
  down_long = simp length-set

  context_there : get_or down (memory.contexts + st.rules) 0 ≡ st.context
  context_there =
      get_or-set_other (set w0 (memory.contexts + st.rules) st.context) (memory.roots + st.rules) (memory.contexts + st.rules) root 0 (λ e. omega arith)
      ∙ get_or-set_same w0 (memory.contexts + st.rules) st.context 0 (omega arith)

  root_there : get_or down (memory.roots + st.rules) 0 ≡ root
  root_there = get_or-set_same (set w0 (memory.contexts + st.rules) st.context) (memory.roots + st.rules) root 0 (rw length-set (omega arith))

  module _ {w1 : List ℕ} {s : Sheet} (h : Holds st w0 w1 s) (c : ℕ) (context : st.context ≡ c) (inside : root < length s.lines) where
    abbrev rule : Rule
    rule = record { context = c; body = tree_at w1 root }

    many_rules : st.rules ≡ length s.rules
    many_rules = h.counted.rules

    -- the sheet as it was, in the words as they are
    old : Holds st down w1 s
    old = holds_kept root (spare_root fine h.counted low) (holds_kept st.context (spare_context fine h.counted low) h)

    down_roots : tab memory.roots (length (s.rules ++ (rule ∷ []))) down ≡ tab memory.roots (length s.rules) down ++ (root ∷ [])
    down_roots =
        ap (λ (n : ℕ). tab memory.roots n down) (length_more s.rules rule)
        ∙ tab_next memory.roots (length s.rules) down (omega (arith, many_rules, down_long))
        ∙ ap (λ (x : ℕ). tab memory.roots (length s.rules) down ++ (x ∷ [])) (ap (λ (i : ℕ). get_or down (memory.roots + i) 0) (sym many_rules) ∙ root_there)

    down_holds : Holds (ended_counts st) down w1 (with_body s c none (tree_at w1 root))
    unfolding ended_counts with_body
    down_holds = record {
      counted = record {
        block = h.counted.block;
        classes = h.counted.classes;
        rows = h.counted.rows;
        objects = h.counted.objects;
        slots = h.counted.slots;
        cells = h.counted.cells;
        nodes = h.counted.nodes;
        definitions = h.counted.definitions;
        rules = omega (arith, length_more s.rules rule, many_rules);
      };
      tables = record {
        parents = old.tables.parents;
        smaller = old.tables.smaller;
        owners = old.tables.owners;
        names = old.tables.names;
        types = old.tables.types;
        objects = old.tables.objects;
        keys = old.tables.keys;
        starts = old.tables.starts;
        cells = old.tables.cells;
        fits = old.tables.fits;
        contexts =
            tab_more_of (λ (r : Rule). r.context) memory.contexts down s.rules rule (omega (arith, many_rules, down_long)) old.tables.contexts
            (ap (λ (i : ℕ). get_or down (memory.contexts + i) 0) (sym many_rules) ∙ context_there ∙ context);
      };
      definitions = definitions_same refl refl old.definitions;
      rules = record {
        bodies =
            tab_more_by (tree_at w1) (λ (r : Rule). r.body) memory.roots down s.rules rule (omega (arith, many_rules, down_long)) old.rules.bodies
            (ap (tree_at w1) (ap (λ (i : ℕ). get_or down (memory.roots + i) 0) (sym many_rules) ∙ root_there));
        roots = rw down_roots (each_append old.rules.roots (each-cons inside each_nil));
        lines = old.rules.lines;
      };
      current = closed refl;
    }

    down_fine : Fine (ended_counts st)
    unfolding ended_counts
    down_fine = record {
      classes = fine.classes;
      rows = fine.rows;
      objects = fine.objects;
      slots = fine.slots;
      cells = fine.cells;
      nodes = fine.nodes;
      definitions = fine.definitions;
      rules = omega arith;
      first = fine.first;
      context = fine.context;
    }

-- ---- a definition: its class, its type and its root

module _ (st : Counts) (w0 : List ℕ) (long : 8192 ≤ length w0) (fine : Fine st) (low : st.definitions < 32) (root : ℕ) where
  abbrev classed : List ℕ
  classed = set w0 (memory.definition_contexts + st.definitions) st.context

  abbrev typed : List ℕ
  typed = set classed (memory.definition_types + st.definitions) st.result

  abbrev defined : List ℕ
  defined = set typed (memory.definition_roots + st.definitions) root

  defined_long : length defined ≡ length w0
  defined_long = simp length-set

  class_there : get_or defined (memory.definition_contexts + st.definitions) 0 ≡ st.context
  class_there =
      get_or-set_other typed (memory.definition_roots + st.definitions) (memory.definition_contexts + st.definitions) root 0 (λ e. omega arith)
      ∙ get_or-set_other classed (memory.definition_types + st.definitions) (memory.definition_contexts + st.definitions) st.result 0 (λ e. omega arith)
      ∙ get_or-set_same w0 (memory.definition_contexts + st.definitions) st.context 0 (omega arith)

  type_there : get_or defined (memory.definition_types + st.definitions) 0 ≡ st.result
  type_there =
      get_or-set_other typed (memory.definition_roots + st.definitions) (memory.definition_types + st.definitions) root 0 (λ e. omega arith)
      ∙ get_or-set_same classed (memory.definition_types + st.definitions) st.result 0 (rw length-set (omega arith))

  body_there : get_or defined (memory.definition_roots + st.definitions) 0 ≡ root
  body_there = get_or-set_same typed (memory.definition_roots + st.definitions) root 0 (rw (length-set, length-set) (omega arith))

  module _ {w1 : List ℕ} {s : Sheet} (h : Holds st w0 w1 s) (c : ℕ) (t : Ty) (context : st.context ≡ c) (result : type_in st.result ≡ t)
      (inside : root < length s.lines) (depth : get_or w1 (memory.depths + root) 0 / 2 ≡ levels (tree_at w1 root)) where
    abbrev definition : Definition
    definition = record { context = c; type = t; body = tree_at w1 root }

    many : st.definitions ≡ length s.definitions
    many = h.counted.definitions

    -- the sheet as it was, in the words as they are
    as_it_was : Holds st defined w1 s
    as_it_was =
        holds_kept root (spare_body fine h.counted low)
        (holds_kept st.result (spare_result fine h.counted low) (holds_kept st.context (spare_class fine h.counted low) h))

    table_more : (off x : ℕ) → off ≤ memory.definition_roots → get_or defined (off + st.definitions) 0 ≡ x
        → tab off (length (s.definitions ++ (definition ∷ []))) defined ≡ tab off (length s.definitions) defined ++ (x ∷ [])
    table_more off x l e =
        ap (λ (n : ℕ). tab off n defined) (length_more s.definitions definition)
        ∙ tab_next off (length s.definitions) defined (omega (arith, many, defined_long))
        ∙ ap (λ (y : ℕ). tab off (length s.definitions) defined ++ (y ∷ [])) (ap (λ (i : ℕ). get_or defined (off + i) 0) (sym many) ∙ e)

    defined_holds : Holds (defined_counts st) defined w1 (with_body s c (some t) (tree_at w1 root))
    unfolding defined_counts with_body
    defined_holds = record {
      counted = record {
        block = h.counted.block;
        classes = h.counted.classes;
        rows = h.counted.rows;
        objects = h.counted.objects;
        slots = h.counted.slots;
        cells = h.counted.cells;
        nodes = h.counted.nodes;
        definitions = omega (arith, length_more s.definitions definition, many);
        rules = h.counted.rules;
      };
      tables = tables_same refl refl refl refl refl as_it_was.tables;
      definitions = record {
        contexts =
            tab_more_of (λ (d : Definition). d.context) memory.definition_contexts defined s.definitions definition (omega (arith, many, defined_long)) as_it_was.definitions.contexts
            (ap (λ (i : ℕ). get_or defined (memory.definition_contexts + i) 0) (sym many) ∙ class_there ∙ context);
        classes = rw (table_more memory.definition_contexts st.context (omega arith) class_there) (each_append as_it_was.definitions.classes (each-cons fine.context each_nil));
        types =
            tab_more_by type_in (λ (d : Definition). d.type) memory.definition_types defined s.definitions definition (omega (arith, many, defined_long)) as_it_was.definitions.types
            (ap type_in (ap (λ (i : ℕ). get_or defined (memory.definition_types + i) 0) (sym many) ∙ type_there) ∙ result);
        bodies =
            tab_more_by (tree_at w1) (λ (d : Definition). d.body) memory.definition_roots defined s.definitions definition (omega (arith, many, defined_long)) as_it_was.definitions.bodies
            (ap (tree_at w1) (ap (λ (i : ℕ). get_or defined (memory.definition_roots + i) 0) (sym many) ∙ body_there));
        roots = rw (table_more memory.definition_roots root (omega arith) body_there) (each_append as_it_was.definitions.roots (each-cons inside each_nil));
        depths = rw (table_more memory.definition_roots root (omega arith) body_there) (each_append as_it_was.definitions.depths (each-cons depth each_nil));
      };
      rules = record { bodies = as_it_was.rules.bodies; roots = as_it_was.rules.roots; lines = as_it_was.rules.lines };
      current = closed refl;
    }

  defined_fine : Fine (defined_counts st)
  unfolding defined_counts
  defined_fine = record {
    classes = fine.classes;
    rows = fine.rows;
    objects = fine.objects;
    slots = fine.slots;
    cells = fine.cells;
    nodes = fine.nodes;
    definitions = omega arith;
    rules = fine.rules;
    first = fine.first;
    context = fine.context;
  }

-- ---- the answers

module _ {st : Counts} {w1 : List ℕ} {n : ℕ} {c : Current} (k : HoldsCurrent st w1 n c) where
  -- what a definition has, and a rule has not
  its_type : st.«open» ≡ 2 → (t : Ty) × (c.result ≡ some t)
  unfolding open_code
  its_type e = go c.result c.text (sym k.is_open ∙ e)
    where
      go : (o : Option Ty) (b : Bool) → open_code o b ≡ 2 → (t : Ty) × (o ≡ some t)
      go none true q = absurd (omega arith)
      go none false q = absurd (omega arith)
      go (some t) b q = (t, refl)

  no_type : (st.«open» ≡ 2 → ⊥) → (c.result ≡ none) × (st.«open» ≢ 0)
  unfolding open_code
  no_type e = go c.result c.text k.is_open
    where
      go : (o : Option Ty) (b : Bool) → st.«open» ≡ open_code o b → (o ≡ none) × (st.«open» ≢ 0)
      go none true q = (refl, λ z. omega arith)
      go none false q = (refl, λ z. omega arith)
      go (some t) b q = absurd (e q)

holds_open : {st : Counts} {w0 w1 : List ℕ} {s : Sheet} {c : Current} → Holds st w0 w1 s → s.current ≡ some c → HoldsCurrent st w1 (length s.lines) c
holds_open {st} {w0} {w1} {s} {c} h e = go (rw e at h.current)
  where
    go : HoldsOpen st w1 (length s.lines) (some c) → HoldsCurrent st w1 (length s.lines) c
    go (opened k) = k

module _ (st : Counts) (w0 : List ℕ) (root : ℕ) (long : 8192 ≤ length w0) (fine : Fine st) (room : RuleRoom st) where
  pub put_definition : {r : Counts} → st.«open» ≡ 2 → r ≡ defined_counts st
      → PutDown st r root w0 (set (set (set w0 (memory.definition_contexts + st.definitions) st.context) (memory.definition_types + st.definitions) st.result) (memory.definition_roots + st.definitions) root)
  unfolding defined_counts
  put_definition e z = rw z (record {
    is = λ w1 s c q h inside depth.
        let k = holds_open h q in
        let t = its_type k e in
        rw t.1 (
          defined_fine st w0 long fine (room.space e) root,
          defined_holds st w0 long fine (room.space e) root h c.context t.0 k.context (k.result t.0 t.1) inside depth,
        );
    kept =
        kept_then (kept_set w0 (memory.definition_contexts + st.definitions) st.context (omega (arith, fine.definitions)))
        (kept_then (kept_set _ (memory.definition_types + st.definitions) st.result (omega (arith, fine.definitions))) (kept_set _ (memory.definition_roots + st.definitions) root (omega (arith, fine.definitions))));
  })

  pub put_rule : {r : Counts} → (st.«open» ≡ 2 → ⊥) → r ≡ ended_counts st → PutDown st r root w0 (set (set w0 (memory.contexts + st.rules) st.context) (memory.roots + st.rules) root)
  unfolding ended_counts
  put_rule e z = rw z (record {
    is = λ w1 s c q h inside depth.
        let k = holds_open h q in
        let n = no_type k e in
        rw n.0 (
          down_fine st w0 long fine (room.room n.1 e) root h c.context k.context inside,
          down_holds st w0 long fine (room.room n.1 e) root h c.context k.context inside,
        );
    kept = kept_then (kept_set w0 (memory.contexts + st.rules) st.context (omega (arith, fine.rules))) (kept_set _ (memory.roots + st.rules) root (omega (arith, fine.rules)));
  })
