-- What is found of a whole sheet is the line that the definition says. Assumes nothing.
use mathlib.Core.Path.{◌≡◌, refl, sym, ap, ◌∙◌, subst}
use mathlib.Core.Option.{none, some}
use mathlib.Core.List.{List, [], ◌∷◌, ◌++◌, map}
use Prim.Native.Nat.{ℕ, zero, suc, ◌+◌, ◌*◌, ◌<◌, ◌≤◌, min}
use native.Mathlib.Omega.{arith}
use native.Mathlib.Decide.{dec_lt}
use lib.ListN.{length, get_or, get_elem?, length-map}
use lib.Seq.{get_or-take}
use Rattle.laws.specs.Lists.{Each, each_nil, each-cons}
use Rattle.laws.proofs.Lists.{each_append, each_imp}
use Rattle.laws.proofs.Elements.{elem_some, each_elem}
use Rattle.memory.specs.Map as memory
use Rattle.ocl.specs.Model.{Schema}
use Rattle.ocl.specs.Profile.{outside_rule}
use Rattle.sheet.specs.Sheet.{Rule, Sheet, schema_in}
use Rattle.sheet.specs.Profile.{outside_rules, lowest_from, lowest, first_outside}
use Rattle.nodes.specs.Nodes.{word, tree_at}
use Rattle.nodes.proofs.Keep.{tree_keep}
use Rattle.tables.specs.declared.Counts.{Counts}
use Rattle.tables.specs.Layout.{tab}
use Rattle.tables.proofs.Tables.{tab_at}
use Rattle.rules.specs.Accepted.{InWords, Known}
use Rattle.rules.proofs.Ready.{ready}
use Rattle.rules.proofs.RulesIn.{node_line}
use Rattle.rules.proofs.Typings.{rule_low, rule_root}
use Rattle.numbering.specs.Lowest.{line_of, lower, lowest_with}
use Rattle.numbering.specs.Sheets.{SheetRoom, nodes_in, TellsCalls, RootsIn, rules_at, FindsRules, FindsOutside}
use Rattle.numbering.proofs.Lowest.{line_there, line_none}
use Rattle.numbering.proofs.Among.{tree_among}

-- ---- the lowest line of nodes whose lines are told by their words

module _ (t lines : List ℕ) where
  abbrev Lined : ℕ → Type 0
  Lined p = get_or lines p 0 ≡ word t p 7

  lowest_from_lem : (a : ℕ) (ps : List ℕ) → Each Lined ps → lowest_with t (some a) ps ≡ some (lowest_from a (map (λ p. get_or lines p 0) ps))
  unfolding lowest_with lowest_from lower
  lowest_from_lem a [] each_nil = refl
  lowest_from_lem a (p ∷ ps) (each-cons e es) = rw e (lowest_from_lem (min a (word t p 7)) ps es)

  lowest_is : (ps : List ℕ) → Each Lined ps → lowest_with t none ps ≡ lowest (map (λ p. get_or lines p 0) ps)
  unfolding lowest_with lowest lower
  lowest_is [] each_nil = refl
  lowest_is (p ∷ ps) (each-cons e es) = rw e (lowest_from_lem (word t p 7) ps es)

-- ---- the rules

module _ (k : Schema) (w0 t : List ℕ) where
  -- the rules xs stand from number i on
  rules_are : (xs : List Rule) (i : ℕ)
      → ((j : ℕ) (x : Rule) → get_elem? xs j ≡ some x → (get_or w0 (memory.contexts + (i + j)) 0 ≡ x.context) × (tree_at t (get_or w0 (memory.roots + (i + j)) 0) ≡ x.body))
      → rules_at k w0 t (length xs) i ≡ outside_rules k xs
  unfolding rules_at outside_rules
  rules_are [] i h = refl
  rules_are (x ∷ xs) i h =
      let z : i + 0 ≡ i = omega arith in
      let a : (get_or w0 (memory.contexts + i) 0 ≡ x.context) × (tree_at t (get_or w0 (memory.roots + i) 0) ≡ x.body) = subst (λ m. (get_or w0 (memory.contexts + m) 0 ≡ x.context) × (tree_at t (get_or w0 (memory.roots + m) 0) ≡ x.body)) z (h 0 x refl) in
      rw (a.0, a.1)
      (ap (λ l. outside_rule k x.context x.body ++ l) (rules_are xs (i + 1) (λ j y e. subst (λ m. (get_or w0 (memory.contexts + m) 0 ≡ y.context) × (tree_at t (get_or w0 (memory.roots + m) 0) ≡ y.body)) (let q : i + suc j ≡ i + 1 + j = omega arith in q) (h (suc j) y e))))

  rules_among : (b c i : ℕ) → ((j : ℕ) → j < c → get_or w0 (memory.roots + (i + j)) 0 < b) → Each (λ p. p < b) (rules_at k w0 t c i)
  unfolding rules_at outside_rule
  rules_among b zero i h = each_nil
  rules_among b (suc c) i h =
      each_append (tree_among b k t (get_or w0 (memory.roots + i) 0) (let q = h 0 (omega arith) in let z : i + 0 ≡ i = omega arith in rw z at q) _)
      (rules_among b c (i + 1) (λ j l. let q = h (suc j) (omega arith) in let z : i + suc j ≡ i + 1 + j = omega arith in rw z at q))

-- ---- the words

-- a line is in the node table
line_in : (w : List ℕ) (r : ℕ) → line_of w r ≡ line_of (nodes_in w) r
line_in w r = by (dec_lt r 768)
  where
    by : Dec (r < 768) → line_of w r ≡ line_of (nodes_in w) r
    by (yes h) = line_there w r h ∙ ap some (sym (get_or-take memory.nodes_end w (8 * r + 7) 0 (omega arith))) ∙ sym (line_there (nodes_in w) r h)
    by (no h) = line_none w r (omega arith) ∙ sym (line_none (nodes_in w) r (omega arith))

module _ {st : Counts} {w0 w1 : List ℕ} {s : Sheet} (a : InWords st w0 w1 s) where
  root_lined : (r : ℕ) → r < st.rules → get_or w0 (memory.roots + r) 0 < length s.lines
  root_lined r h =
      let holds = a.holds in
      let c = holds.counted.rules in
      let table = tab memory.roots (length s.rules) w0 in
      let n = sym (length-map table (tree_at w1)) ∙ ap length holds.rules.bodies ∙ length-map s.rules (λ (x : Rule). x.body) in
      let k = each_elem r holds.rules.roots (elem_some table r 0 (omega arith)) in
      let e = tab_at memory.roots (length s.rules) w0 r (omega arith) in
      omega arith

  tree_in : (n : ℕ) → n < 768 → tree_at (nodes_in w1) n ≡ tree_at w1 n
  tree_in = tree_keep (nodes_in w1) w1 768 (λ i l. get_or-take memory.nodes_end w1 i 0 (omega arith))

  rule_at : (j : ℕ) (x : Rule) → get_elem? s.rules j ≡ some x → (get_or w0 (memory.contexts + (0 + j)) 0 ≡ x.context) × (tree_at (nodes_in w1) (get_or w0 (memory.roots + (0 + j)) 0) ≡ x.body)
  rule_at j x e =
      let i = (ready a).rule j x e in
      let z : j ≡ 0 + j = omega arith in
      subst (λ m. (get_or w0 (memory.contexts + m) 0 ≡ x.context) × (tree_at (nodes_in w1) (get_or w0 (memory.roots + m) 0) ≡ x.body)) z (i.context, tree_in (get_or w0 (memory.roots + j) 0) i.root ∙ i.body)

  abbrev all_rules : List ℕ
  all_rules = rules_at (schema_in s) w0 (nodes_in w1) st.rules 0

  rules_said : all_rules ≡ outside_rules (schema_in s) s.rules
  rules_said = rw a.holds.counted.rules (rules_are (schema_in s) w0 (nodes_in w1) s.rules 0 rule_at)

  rules_lined : Each (λ p. get_or s.lines p 0 ≡ word (nodes_in w1) p 7) all_rules
  rules_lined = each_imp (λ (p : ℕ) (h : p < length s.lines). let l = node_line a.fine a.holds p h in l.1 ∙ sym (get_or-take memory.nodes_end w1 (8 * p + 7) 0 (let q = l.0 in omega arith)))
      (rules_among (schema_in s) w0 (nodes_in w1) (length s.lines) st.rules 0 (λ j l. let z : j ≡ 0 + j = omega arith in subst (λ m. get_or w0 (memory.roots + m) 0 < length s.lines) z (root_lined j l)))

  lowest_said : lowest_with (nodes_in w1) none all_rules ≡ first_outside s
  unfolding first_outside
  lowest_said = lowest_is (nodes_in w1) s.lines all_rules rules_lined ∙ ap (λ l. lowest (map (λ p. get_or s.lines p 0) l)) rules_said

-- ---- what the call asks and gets

module _ {st : Counts} {w0 w1 : List ℕ} (k : Known st w0 w1) where
  pub sheet_room : {a b c : ℕ} → 8192 ≤ a → 8192 ≤ b → 8192 ≤ c → SheetRoom st.classes st.rows a b c
  sheet_room l m n = record { in_classes = k.lies.fine.classes; in_rows = k.lies.fine.rows; all_tables = l; all_nodes = m; all_marks = n }

  pub few_rules : st.rules ≤ 64
  few_rules = k.lies.fine.rules

  pub roots_in : RootsIn st w0
  roots_in = record { root = λ r h. rule_root k h refl; context = λ r h. rule_low k h }

pub outside_found : {st : Counts} {w0 u1 v1 u2 x2 v2 : List ℕ} {r : ℕ} → TellsCalls st w0 u1 v1 u2 x2 → FindsRules st w0 v1 x2 v2 r → FindsOutside st w0 u1 v1 u2 v2 r
outside_found {st} {w0} {u1} {v1} {r = r} t f = record {
  is = λ s a.
      let k = schema_in s in
      let h = (ready a).classes in
      line_in v1 r ∙ f.found k h (t.told k h) ∙ ap (λ w. lowest_with w none (rules_at k w0 w st.rules 0)) t.nodes ∙ lowest_said a;
  kept1 = t.kept1;
  kept = record { rest = f.kept.rest ∙ t.kept.rest; size = f.kept.size ∙ t.kept.size };
}
