-- The typing of a definition or a rule by its number, and where evaluation finds the rule. Assumes nothing.
use mathlib.Core.Path.{◌≡◌, ap, ◌∙◌}
use mathlib.Core.List.{List}
use Prim.Native.Nat.{ℕ, ◌+◌, ◌≤◌, ◌<◌}
use native.Mathlib.Omega.{arith}
use lib.ListN.{get_or, take}
use Rattle.memory.specs.Map as memory
use Rattle.ocl.specs.Forms.{Definition}
use Rattle.ocl.specs.Typing.{type_rule, type_definition, Typed}
use Rattle.sheet.specs.Sheet.{Rule, Sheet, schema_in}
use Rattle.sheet.specs.Calls.{typing_of}
use Rattle.nodes.specs.Nodes.{tree_at}
use Rattle.tables.specs.declared.Counts.{Counts}
use Rattle.judgements.specs.Replies.{write_marks}
use Rattle.typing.specs.Rules.{LentTables, TypesRule, definition_at, TypesDefinition}
use Rattle.rules.specs.Accepted.{Known, DefinitionIn, RuleIn}
use Rattle.rules.specs.Numbered.{TypesNumbered, DefinesNumbered}
use Rattle.rules.proofs.Ready.{ready}
use Rattle.std.specs.Prelude.{Result}
use Rattle.memory.specs.declared.refusals.Refused.{Refused}
use Rattle.types.specs.declared.FlatType.{FlatType}

-- what typing reads at the rule's place is the rule's
rule_typing : {w0 w1 : List ℕ} {r root : ℕ} (s : Sheet) (x : Rule) → RuleIn w0 w1 r x → root ≡ get_or w0 (memory.roots + r) 0
    → type_rule (schema_in s) (get_or w0 (memory.contexts + r) 0) (tree_at w1 root) ≡ typing_of s x
unfolding typing_of
rule_typing s x i e = rw (i.context, e, i.body)

-- what typing asks of the tables
pub tables_lent : {st : Counts} {w0 w1 : List ℕ} {classes rows n0 n1 n2 : ℕ} → Known st w0 w1 → classes ≡ st.classes → rows ≡ st.rows → 8192 ≤ n0 → 8192 ≤ n1 → 8192 ≤ n2
    → LentTables classes rows n0 n1 n2
tables_lent k c n l0 l1 l2 =
    let f = k.lies.fine in
    record { in_classes = omega (arith, f.classes); in_rows = omega (arith, f.rows); in_tables = omega arith; all_nodes = omega arith; all_marks = omega arith }

module _ {st : Counts} {w0 w1 : List ℕ} {r : ℕ} where
  -- some sheet is known, and rule r is one of its rules
  pub rule_known : Known st w0 w1 → r < st.rules → (x : Rule) × RuleIn w0 w1 r x
  rule_known k h =
      let a = ready k.lies in
      let x = a.some_rule r h in
      (x.0, a.rule r x.0 x.1)

  -- its class fits a byte
  pub rule_low : Known st w0 w1 → r < st.rules → get_or w0 (memory.contexts + r) 0 < 256
  rule_low k h = let x = (rule_known k h).1 in omega (arith, x.context, x.low_context)

  pub rule_root : {root : ℕ} → Known st w0 w1 → r < st.rules → root ≡ get_or w0 (memory.roots + r) 0 → root < 768
  rule_root k h e = omega (arith, (rule_known k h).1.root)

  pub types_numbered : {classes rows root : ℕ} {before after : List ℕ} {a : Result FlatType Refused} → classes ≡ st.classes → rows ≡ st.rows → root ≡ get_or w0 (memory.roots + r) 0
      → TypesRule w0 classes rows w1 (get_or w0 (memory.contexts + r) 0) root before after a → TypesNumbered st w0 w1 r before after a
  types_numbered {before = before} c n e t =
      record {
        is = λ s g x q. t.is (schema_in s) (rw (c, n) (ready g).classes) ∙ ap (λ (y : Typed). y.answer) (rule_typing s x ((ready g).rule r x q) e);
        marked = λ s g x q. t.marked (schema_in s) (rw (c, n) (ready g).classes) ∙ ap (λ (y : Typed). write_marks (take 768 before) y.marks) (rule_typing s x ((ready g).rule r x q) e);
        rest = t.rest;
        size = t.size;
      }

-- ---- a definition

definition_typing : {w0 w1 : List ℕ} {d root : ℕ} (s : Sheet) (x : Definition) → DefinitionIn w0 w1 d x → root ≡ get_or w0 (memory.definition_roots + d) 0
    → type_definition (schema_in s) (definition_at w1 (get_or w0 (memory.definition_contexts + d) 0) (get_or w0 (memory.definition_types + d) 0) root) ≡ type_definition (schema_in s) x
definition_typing s x i e = rw (i.context, i.type, e, i.body)

module _ {st : Counts} {w0 w1 : List ℕ} {d : ℕ} where
  definition_known : Known st w0 w1 → d < st.definitions → (x : Definition) × DefinitionIn w0 w1 d x
  definition_known k h =
      let a = ready k.lies in
      let x = a.some_definition d h in
      (x.0, a.definition d x.0 x.1)

  pub definition_low : Known st w0 w1 → d < st.definitions → get_or w0 (memory.definition_contexts + d) 0 < 256
  definition_low k h = let x = (definition_known k h).1 in omega (arith, x.context, x.low_context)

  pub definition_root : {root : ℕ} → Known st w0 w1 → d < st.definitions → root ≡ get_or w0 (memory.definition_roots + d) 0 → root < 768
  definition_root k h e = omega (arith, (definition_known k h).1.root)

  pub defines_numbered : {classes rows root : ℕ} {before after : List ℕ} {a : Result FlatType Refused} → classes ≡ st.classes → rows ≡ st.rows → root ≡ get_or w0 (memory.definition_roots + d) 0
      → TypesDefinition w0 classes rows w1 (get_or w0 (memory.definition_contexts + d) 0) (get_or w0 (memory.definition_types + d) 0) root before after a → DefinesNumbered st w0 w1 d before after a
  defines_numbered {before = before} c n e t =
      record {
        is = λ s g x q. t.is (schema_in s) (rw (c, n) (ready g).classes) ∙ ap (λ (y : Typed). y.answer) (definition_typing s x ((ready g).definition d x q) e);
        marked = λ s g x q. t.marked (schema_in s) (rw (c, n) (ready g).classes) ∙ ap (λ (y : Typed). write_marks (take 768 before) y.marks) (definition_typing s x ((ready g).definition d x q) e);
        rest = t.rest;
        size = t.size;
      }
