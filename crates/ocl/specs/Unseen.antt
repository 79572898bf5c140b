-- Document 02, F-9: evaluation reads no value of a row that the rule does not see, over the language. sheet/specs/Unseen.antt states it
-- from the bytes.
use Rattle.std.specs.Prelude.{◌≡◌, List, [], ◌∷◌, ◌++◌, ℕ, T}
use Rattle.std.proofs.Math.Option.{Option}
use Rattle.laws.specs.Lists.{member, Each}
use Rattle.ocl.specs.Types.{Ty}
use Rattle.ocl.specs.Values.{Value}
use Rattle.ocl.specs.Model.{Model, schema_of}
use Rattle.ocl.specs.Forms.{Expr, node, Form, leaf, unary, binary, connective, is_undef, conditional, let_in, attribute, call, quantified, iterate, assemble, Operands, no_operand, operand, calls}
use Rattle.ocl.specs.Marks.{Mark, row_marked}
use Rattle.ocl.specs.Typing.{typed, type_rule}
use Rattle.ocl.specs.Evaluation.{evaluate_rule}
use Rattle.ocl.specs.Laws.{Agree}
use Rattle.ocl.specs.Rows.{resolved_rows}
use Rattle.ocl.specs.Soundness.{TypedDefinition}

-- the model with other values
unfoldable pub with_values : Model → (ℕ → ℕ → Option Value) → Model
with_values s values = record {
  parent = s.parent;
  row_count = s.row_count;
  row = s.row;
  object_count = s.object_count;
  class_of = s.class_of;
  value_of = values;
}

-- the same rows as the table of marks has them, node by node; a called body's nodes with it
unfoldable mutual
  pub tree_rows : (ℕ → Mark) → Expr → List ℕ
  tree_rows mark (node p f) = tree_rows_in mark p f

  pub tree_rows_in : (ℕ → Mark) → ℕ → Form → List ℕ
  tree_rows_in mark p (leaf l) = []
  tree_rows_in mark p (unary op a) = tree_rows mark a
  tree_rows_in mark p (binary op a b) = tree_rows mark a ++ tree_rows mark b
  tree_rows_in mark p (connective c a b) = tree_rows mark a ++ tree_rows mark b
  tree_rows_in mark p (is_undef a) = tree_rows mark a
  tree_rows_in mark p (conditional c a b) = tree_rows mark c ++ (tree_rows mark a ++ tree_rows mark b)
  tree_rows_in mark p (let_in i a b) = tree_rows mark a ++ tree_rows mark b
  tree_rows_in mark p (attribute x name a) = tree_rows mark a ++ (row_marked (mark p) ∷ [])
  tree_rows_in mark p (call c t a b) = tree_rows mark a ++ tree_rows mark b
  tree_rows_in mark p (quantified q i a b) = tree_rows mark a ++ tree_rows mark b
  tree_rows_in mark p (iterate i j t a e b) = tree_rows mark a ++ (tree_rows mark e ++ tree_rows mark b)
  tree_rows_in mark p (assemble k es) = tree_rows_of mark es

  pub tree_rows_of : (ℕ → Mark) → Operands → List ℕ
  tree_rows_of mark no_operand = []
  tree_rows_of mark (operand e es) = tree_rows mark e ++ tree_rows_of mark es

-- a rule that has a type, and a table that has its marks and those of the definitions that it reaches, which are typed
pub record Resolved (s : Model) (mark : ℕ → Mark) (c : ℕ) (e : Expr) : Type 0 where
  pub type : Ty
  pub typed_rule : (type_rule (schema_of s) c e).answer ≡ typed type
  pub marked : Agree mark (type_rule (schema_of s) c e).marks
  pub reached : Each (TypedDefinition s mark) (calls e)

-- the rule ends alike for every object, with the same steps, where the rows that it sees have the same values
abbrev pub Unseen : Type 0
Unseen =
    (s : Model) (values : ℕ → ℕ → Option Value) (mark : ℕ → Mark) (c : ℕ) (e : Expr) → Resolved s mark c e
    → ((o i : ℕ) → T (member i (resolved_rows (schema_of s) c e)) → values o i ≡ s.value_of o i)
    → (o : ℕ) → evaluate_rule (with_values s values) mark e o ≡ evaluate_rule s mark e o

-- the table has the same rows
abbrev pub RowsByMarks : Type 0
RowsByMarks =
    (s : Model) (mark : ℕ → Mark) (c : ℕ) (e : Expr) → Resolved s mark c e
    → (i : ℕ) → member i (tree_rows mark e) ≡ member i (resolved_rows (schema_of s) c e)
