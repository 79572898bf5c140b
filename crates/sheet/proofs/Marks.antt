-- One table holds the marks of all definitions and rules: no node is in two of them, so evaluation reads each mark as typing made it; and each is of a
-- row and of no Set. Assumes nothing.
use mathlib.Core.Path.{◌≡◌}
use mathlib.Core.Option.{some}
use mathlib.Core.List.{List, [], ◌∷◌, ◌++◌, map}
use Prim.Native.Nat.{ℕ, ◌<◌, ◌≤◌}
use lib.ListN.{length, get_elem?}
use Rattle.laws.specs.Lists.{Each, each_nil, each-cons}
use Rattle.laws.proofs.Elements.{each_elem}
use Rattle.ocl.specs.Types.{set}
use Rattle.ocl.specs.Forms.{Definition}
use Rattle.ocl.specs.Laws.{EachMark, no_mark, Agree}
use Rattle.ocl.specs.Marks.{Mark, of_row, row_marked, kind_marked, Marks, mark_in}
use Rattle.ocl.specs.Typing.{type_definition}
use Rattle.ocl.proofs.Marks.{Part, part_nil, part-append, marked_rule, marked_definition, agree_marks, marks_left, marks_right}
use Rattle.ocl.proofs.Places.{each_mark_append}
use Rattle.ocl.proofs.MarksRead.{mark_below, rule_rows, definition_rows, mark_no_set, rule_no_set, definition_no_set}
use Rattle.sheet.specs.Sheet.{Rule, Sheet, schema_in}
use Rattle.sheet.specs.Calls.{typing_of, definition_marks, rule_marks, marks_of}
use Rattle.sheet.proofs.Bodies.{body_numbers}
use Rattle.sheet.proofs.Good.{Good, sheet_numbers}

module _ (s : Sheet) where
  rule_parts : (xs : List Rule) → Part (body_numbers (map (λ x. x.body) xs)) (rule_marks (schema_in s) xs)
  unfolding body_numbers rule_marks
  rule_parts [] = part_nil
  rule_parts (x ∷ xs) = part-append (marked_rule (schema_in s) x.context x.body).part (rule_parts xs)

  definition_parts : (ds : List Definition) → Part (body_numbers (map (λ d. d.body) ds)) (definition_marks (schema_in s) ds)
  unfolding body_numbers definition_marks
  definition_parts [] = part_nil
  definition_parts (d ∷ ds) = part-append (marked_definition (schema_in s) d).part (definition_parts ds)

  abbrev sheet_marks : Marks
  sheet_marks = definition_marks (schema_in s) s.definitions ++ rule_marks (schema_in s) s.rules

  marks_agree : Good s → Agree (marks_of s) sheet_marks
  unfolding marks_of mark_in sheet_numbers
  marks_agree g = agree_marks (λ p. of_row 0) (part-append (definition_parts s.definitions) (rule_parts s.rules)) g.distinct

  rules_agree : {mark : ℕ → Mark} (xs : List Rule) → Agree mark (rule_marks (schema_in s) xs) → Each (λ x. Agree mark (typing_of s x).marks) xs
  unfolding rule_marks typing_of
  rules_agree [] g = each_nil
  rules_agree (x ∷ xs) g = each-cons (marks_left (typing_of s x).marks _ g) (rules_agree xs (marks_right (typing_of s x).marks g))

  pub rule_agrees : Good s → (r : ℕ) (x : Rule) → get_elem? s.rules r ≡ some x → Agree (marks_of s) (typing_of s x).marks
  rule_agrees g r x e = each_elem r (rules_agree s.rules (marks_right (definition_marks (schema_in s) s.definitions) (marks_agree g))) e

  definitions_agree : {mark : ℕ → Mark} (ds : List Definition) → Agree mark (definition_marks (schema_in s) ds) → Each (λ d. Agree mark (type_definition (schema_in s) d).marks) ds
  unfolding definition_marks
  definitions_agree [] g = each_nil
  definitions_agree (d ∷ ds) g = each-cons (marks_left (type_definition (schema_in s) d).marks _ g) (definitions_agree ds (marks_right (type_definition (schema_in s) d).marks g))

  pub all_agree : Good s → Each (λ d. Agree (marks_of s) (type_definition (schema_in s) d).marks) s.definitions
  all_agree g = definitions_agree s.definitions (marks_left (definition_marks (schema_in s) s.definitions) _ (marks_agree g))

  rows_marked : {n : ℕ} (xs : List Rule) → 0 < n → length s.rows ≤ n → EachMark (λ p m. row_marked m < n) (rule_marks (schema_in s) xs)
  unfolding rule_marks
  rows_marked [] h l = no_mark
  rows_marked (x ∷ xs) h l = each_mark_append (rule_rows (schema_in s) x.context x.body h l) (rows_marked xs h l)

  definition_rows_marked : {n : ℕ} (ds : List Definition) → 0 < n → length s.rows ≤ n → EachMark (λ p m. row_marked m < n) (definition_marks (schema_in s) ds)
  unfolding definition_marks
  definition_rows_marked [] h l = no_mark
  definition_rows_marked (d ∷ ds) h l = each_mark_append (definition_rows (schema_in s) d h l) (definition_rows_marked ds h l)

  -- a node that is not marked counts as row 0
  pub mark_row : {n : ℕ} (p : ℕ) → 0 < n → length s.rows ≤ n → row_marked (marks_of s p) < n
  unfolding marks_of
  mark_row p h l = mark_below p h (each_mark_append (definition_rows_marked s.definitions h l) (rows_marked s.rules h l))

  no_set_marked : (xs : List Rule) → EachMark (λ p m. kind_marked m ≡ set → ⊥) (rule_marks (schema_in s) xs)
  unfolding rule_marks
  no_set_marked [] = no_mark
  no_set_marked (x ∷ xs) = each_mark_append (rule_no_set (schema_in s) x.context x.body) (no_set_marked xs)

  definition_no_set_marked : (ds : List Definition) → EachMark (λ p m. kind_marked m ≡ set → ⊥) (definition_marks (schema_in s) ds)
  unfolding definition_marks
  definition_no_set_marked [] = no_mark
  definition_no_set_marked (d ∷ ds) = each_mark_append (definition_no_set (schema_in s) d) (definition_no_set_marked ds)

  pub mark_kind : (p : ℕ) → kind_marked (marks_of s p) ≡ set → ⊥
  unfolding marks_of
  mark_kind p = mark_no_set p (each_mark_append (definition_no_set_marked s.definitions) (no_set_marked s.rules))
