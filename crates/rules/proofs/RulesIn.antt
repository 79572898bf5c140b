-- The definitions and rules of an accepted sheet that lies in the words: contexts, roots and trees, the lines of nodes, and marks.
-- Assumes nothing.
use mathlib.Core.Path.{◌≡◌, refl, sym, ap, ◌∙◌}
use mathlib.Core.Option.{none, some}
use mathlib.Core.List.{List, [], ◌∷◌, ◌++◌, map}
use Prim.Native.Nat.{ℕ, zero, suc, ◌+◌, ◌≤◌, ◌<◌}
use native.Mathlib.Omega.{arith}
use native.Mathlib.Decide.{dec_lt}
use lib.ListN.{length, get_or, get_elem?, length-append, length-map, get_or-append}
use lib.Seq.{get_or_at}
use lib.Dec.{T, ltb→lt}
use Rattle.laws.specs.Lists.{Each}
use Rattle.laws.proofs.Elements.{elem_some, elem_none, elem_at, each_elem}
use Rattle.memory.specs.Map as memory
use Rattle.ocl.specs.Types.{void}
use Rattle.ocl.specs.Forms.{undef, node, Form, Expr, Definition}
use Rattle.nodes.specs.Marks.{mark_word, Marked}
use Rattle.nodes.proofs.Marks.{marked}
use Rattle.sheet.specs.Sheet.{Rule, Sheet}
use Rattle.sheet.specs.Limits.{is_class}
use Rattle.sheet.specs.Calls.{marks_of}
use Rattle.sheet.proofs.Good.{Good}
use Rattle.sheet.proofs.Marks.{mark_row, mark_kind}
use Rattle.types.specs.Word.{type_in}
use Rattle.nodes.specs.Nodes.{word, tree_at}
use Rattle.tables.specs.declared.Counts.{Counts}
use Rattle.tables.specs.Layout.{tab, lines_in, Holds, Fine}
use Rattle.tables.proofs.Tables.{tab_at, entry_of, entry_by}
use Rattle.rules.specs.Accepted.{DefinitionIn, RuleIn}

-- ---- a node's line

lines_length : (w1 : List ℕ) (n : ℕ) → length (lines_in w1 n) ≡ n
unfolding lines_in
lines_length w1 zero = refl
lines_length w1 (suc n) = length-append (lines_in w1 n) (word w1 n 7 ∷ []) ∙ (let e = lines_length w1 n in omega arith)

line_at : (w1 : List ℕ) (n p : ℕ) → p < n → get_or (lines_in w1 n) p 0 ≡ word w1 p 7
unfolding lines_in
line_at w1 zero p h = absurd (omega arith)
line_at w1 (suc n) p h = by (dec_lt p n) (line_at w1 n p)
  where
    by : Dec (p < n) → (p < n → get_or (lines_in w1 n) p 0 ≡ word w1 p 7) → get_or (lines_in w1 n ++ (word w1 n 7 ∷ [])) p 0 ≡ word w1 p 7
    by (yes l) k = get_or-append (lines_in w1 n) (word w1 n 7 ∷ []) 0 p (let e = lines_length w1 n in omega arith) ∙ k l
    by (no l) k =
        let z : n ≡ p = omega arith in
        get_or_at (lines_in w1 n) (word w1 n 7) [] 0 p (lines_length w1 n ∙ z) ∙ ap (λ (i : ℕ). word w1 i 7) z

low_class : (c : ℕ) → T (is_class c) → c < 64
unfolding is_class
low_class c h = ltb→lt c 64 h

module _ {st : Counts} {w0 w1 : List ℕ} {s : Sheet} (fine : Fine st) (holds : Holds st w0 w1 s) where
  pub node_line : (p : ℕ) → p < length s.lines → (p < 768) × (get_or s.lines p 0 ≡ word w1 p 7)
  node_line p h =
      let c = holds.counted.nodes in
      let f = fine.nodes in
      (omega arith, ap (λ (l : List ℕ). get_or l p 0) (sym holds.rules.lines) ∙ line_at w1 (length s.lines) p h)

  -- ---- a root of a definition or rule, by its number

  root_below : {A : Type 0} (f : A → Expr) (off : ℕ) (xs : List A) → map (tree_at w1) (tab off (length xs) w0) ≡ map f xs → Each (λ n. n < length s.lines) (tab off (length xs) w0)
      → (i : ℕ) → i < length xs → get_or w0 (off + i) 0 < 768
  root_below f off xs bodies roots i h =
      let table = tab off (length xs) w0 in
      let n = sym (length-map table (tree_at w1)) ∙ ap length bodies ∙ length-map xs f in
      let k = each_elem i roots (elem_some table i 0 (omega arith)) in
      let c = holds.counted.nodes in
      let l = fine.nodes in
      let e = tab_at off (length xs) w0 i h in
      omega arith

  -- ---- a definition by its number

  pub definition_in : Good s → (d : ℕ) (x : Definition) → get_elem? s.definitions d ≡ some x → DefinitionIn w0 w1 d x
  definition_in good d x e =
      let a = elem_at s.definitions d x e in
      let h = holds.definitions in
      record {
        context = entry_of (λ (y : Definition). y.context) memory.definition_contexts w0 s.definitions x h.contexts d a.0 ∙ ap (λ (y : Definition). y.context) a.1;
        type = entry_by type_in (λ (y : Definition). y.type) memory.definition_types w0 s.definitions x h.types d a.0 ∙ ap (λ (y : Definition). y.type) a.1;
        body = entry_by (tree_at w1) (λ (y : Definition). y.body) memory.definition_roots w0 s.definitions x h.bodies d a.0 ∙ ap (λ (y : Definition). y.body) a.1;
        root = root_below (λ (y : Definition). y.body) memory.definition_roots s.definitions h.bodies h.roots d a.0;
        low_context = low_class x.context (each_elem d good.definitions e).body.context;
      }

  pub definition_there : (d : ℕ) → d < st.definitions → (x : Definition) × (get_elem? s.definitions d ≡ some x)
  definition_there d h =
      let x : Definition = record { context = 0; type = void; body = node 0 (Form.leaf undef) } in
      (get_or s.definitions d x, elem_some s.definitions d x (let c = holds.counted.definitions in omega arith))

  -- ---- a rule by its number

  pub rule_in : Good s → (r : ℕ) (x : Rule) → get_elem? s.rules r ≡ some x → RuleIn w0 w1 r x
  rule_in good r x e =
      let a = elem_at s.rules r x e in
      record {
        context = entry_of (λ (y : Rule). y.context) memory.contexts w0 s.rules x holds.tables.contexts r a.0 ∙ ap (λ (y : Rule). y.context) a.1;
        body = entry_by (tree_at w1) (λ (y : Rule). y.body) memory.roots w0 s.rules x holds.rules.bodies r a.0 ∙ ap (λ (y : Rule). y.body) a.1;
        root = root_below (λ (y : Rule). y.body) memory.roots s.rules holds.rules.bodies holds.rules.roots r a.0;
        shallow = (each_elem r good.rules e).shallow;
        low_context = low_class x.context (each_elem r good.rules e).context;
      }

  pub rule_there : (r : ℕ) → r < st.rules → (x : Rule) × (get_elem? s.rules r ≡ some x)
  rule_there r h =
      let d : Rule = record { context = 0; body = node 0 (Form.leaf undef) } in
      (get_or s.rules r d, elem_some s.rules r d (let c = holds.counted.rules in omega arith))

  pub rule_past : (r : ℕ) → st.rules ≤ r → get_elem? s.rules r ≡ none
  rule_past r h = elem_none s.rules r (let c = holds.counted.rules in omega arith)

  -- ---- the marks of all nodes

  pub mark_told : (p : ℕ) → Marked (mark_word (marks_of s p)) (marks_of s p)
  mark_told p =
      let c = holds.counted.rows in
      let f = fine.rows in
      marked (marks_of s p) (mark_row s p (omega arith) (omega arith)) (mark_kind s p)
