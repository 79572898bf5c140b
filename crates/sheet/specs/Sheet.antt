-- Document 01, The sheet, and document 02, F-7: what the lines so far have put on it, and what a line adds.
use Rattle.std.specs.Prelude.{ℕ, zero, suc, ◌+◌, ◌-◌, Bool, true, false, ◌&&◌, List, [], ◌∷◌, ◌++◌, length, get_or, replicate, eqb, leb}
use Rattle.std.proofs.Math.Option.{Option, none, some}
use Rattle.std.proofs.Math.ListN.{get_elem?}
use Rattle.laws.specs.Choice.{on_some}
use Rattle.std.specs.Prelude.{if◌then◌else◌}
use Rattle.laws.specs.Lists.{member}
use Rattle.ocl.specs.Types.{Ty, void}
use Rattle.ocl.specs.Values.{Value}
use Rattle.ocl.specs.Model.{Row, Schema, Model}
use Rattle.ocl.specs.Forms.{undef, Expr, node, Form, Operands, no_operand, operand, Definition, levels}
use Rattle.sheet.specs.Lines.{Shape, leaf, unary, binary, connective, is_undef, conditional, let_in, attribute, call, quantified, iterate, assemble, Line, class_line, row_line, object_line, value_line, definition_line, rule_line, node_line, text_line}
use Rattle.sheet.specs.Texts.{nodes_of}

-- a V line: the value of a row for an object
pub record Slot : Type 0 where
  pub object : ℕ
  pub row : ℕ
  pub value : Value

-- a rule that has ended: its context class and its tree
pub record Rule : Type 0 where
  pub context : ℕ
  pub body : Expr

-- the definition or rule whose lines are being read: its class, a definition's type, whether an X line has given its nodes, the number of
-- its first node among all nodes of the sheet, the tree of each of its nodes, and the nodes that are operands already
pub record Current : Type 0 where
  pub context : ℕ
  pub result : Option Ty
  pub text : Bool
  pub first : ℕ
  pub trees : List Expr
  pub used : List ℕ

-- everything read so far
pub record Sheet : Type 0 where
  -- the last block begun: 0 to 5 for C, A, O, V, D, R
  pub block : ℕ
  -- each class's parent
  pub parents : List (Option ℕ)
  pub rows : List Row
  -- each object's class
  pub objects : List ℕ
  pub slots : List Slot
  -- the line of each node, through all definitions and rules
  pub lines : List ℕ
  pub definitions : List Definition
  pub rules : List Rule
  pub current : Option Current

unfoldable pub empty : Sheet
empty = record { block = 0; parents = []; rows = []; objects = []; slots = []; lines = []; definitions = []; rules = []; current = none }

-- ---- what typing and evaluation read of a sheet

-- "No line means `u`"
unfoldable pub lookup : List Slot → ℕ → ℕ → Option Value
lookup [] o i = none
lookup (x ∷ xs) o i = if eqb o x.object && eqb i x.row then some x.value else lookup xs o i

-- a row that is not there is never asked for
unfoldable pub no_row : Row
no_row = record { owner = 0; name = 0; type = void }

-- all that typing reads
abbrev pub schema_in : Sheet → Schema
schema_in s = record { parent = λ c. get_or s.parents c none; row_count = length s.rows; row = λ i. get_or s.rows i no_row }

unfoldable pub model_of : Sheet → Model
model_of s = record {
  parent = λ c. get_or s.parents c none;
  row_count = length s.rows;
  row = λ i. get_or s.rows i no_row;
  object_count = length s.objects;
  class_of = get_elem? s.objects;
  value_of = lookup s.slots;
}

-- ---- the nodes of a definition or rule

-- a node's operands, left to right
unfoldable pub operands_of : Shape → List ℕ
operands_of (leaf l) = []
operands_of (unary op a) = a ∷ []
operands_of (binary op a b) = a ∷ b ∷ []
operands_of (connective c a b) = a ∷ b ∷ []
operands_of (is_undef a) = a ∷ []
operands_of (conditional c a b) = c ∷ a ∷ b ∷ []
operands_of (let_in i a b) = a ∷ b ∷ []
operands_of (attribute x name a) = a ∷ []
operands_of (call a n) = a ∷ []
operands_of (quantified q i a b) = a ∷ b ∷ []
operands_of (iterate i j t a e b) = a ∷ e ∷ b ∷ []
operands_of (assemble k es) = es

-- operands by their trees
unfoldable pub grow_all : (ℕ → Expr) → List ℕ → Operands
grow_all f [] = no_operand
grow_all f (a ∷ es) = operand (f a) (grow_all f es)

-- a form over its operands' trees and the sheet's definitions
unfoldable pub grow : (ℕ → Expr) → (ℕ → Definition) → Shape → Form
grow f g (leaf l) = Form.leaf l
grow f g (unary op a) = Form.unary op (f a)
grow f g (binary op a b) = Form.binary op (f a) (f b)
grow f g (connective c a b) = Form.connective c (f a) (f b)
grow f g (is_undef a) = Form.is_undef (f a)
grow f g (conditional c a b) = Form.conditional (f c) (f a) (f b)
grow f g (let_in i a b) = Form.let_in i (f a) (f b)
grow f g (attribute x name a) = Form.attribute x name (f a)
grow f g (call a n) = Form.call (g n).context (g n).type (f a) (g n).body
grow f g (quantified q i a b) = Form.quantified q i (f a) (f b)
grow f g (iterate i j t a e b) = Form.iterate i j t (f a) (f e) (f b)
grow f g (assemble k es) = Form.assemble k (grow_all f es)

-- the tree of node a; an operand is a node before it, so that another is never asked for
unfoldable pub tree_of : List Expr → ℕ → Expr
tree_of trees a = get_or trees a (node 0 (Form.leaf undef))

-- definition n; a call is of one that is there, so that another is never asked for
unfoldable pub definition_of : List Definition → ℕ → Definition
definition_of ds n = get_or ds n (record { context = 0; type = void; body = node 0 (Form.leaf undef) })

-- the definition or rule with one node more
unfoldable pub with_node : List Definition → Current → Shape → Current
with_node ds c x = record {
  context = c.context;
  result = c.result;
  text = c.text;
  first = c.first;
  trees = c.trees ++ (node (c.first + length c.trees) (grow (tree_of c.trees) (definition_of ds) x) ∷ []);
  used = c.used ++ operands_of x;
}

-- with several more
unfoldable pub with_nodes : List Definition → Current → List Shape → Current
with_nodes ds c [] = c
with_nodes ds c (x ∷ xs) = with_nodes ds (with_node ds c x) xs

-- an X line has given its nodes
unfoldable pub as_text : Current → Current
as_text c = record { context = c.context; result = c.result; text = true; first = c.first; trees = c.trees; used = c.used }

-- ---- what an accepted line adds; k is its line number

unfoldable pub added : Sheet → ℕ → Line → Sheet
added s k (class_line n p) = record {
  block = 0;
  parents = s.parents ++ (p ∷ []);
  rows = s.rows;
  objects = s.objects;
  slots = s.slots;
  lines = s.lines;
  definitions = s.definitions;
  rules = s.rules;
  current = s.current;
}
added s k (row_line n c name t) = record {
  block = 1;
  parents = s.parents;
  rows = s.rows ++ (record { owner = c; name = name; type = t } ∷ []);
  objects = s.objects;
  slots = s.slots;
  lines = s.lines;
  definitions = s.definitions;
  rules = s.rules;
  current = s.current;
}
added s k (object_line n c) = record {
  block = 2;
  parents = s.parents;
  rows = s.rows;
  objects = s.objects ++ (c ∷ []);
  slots = s.slots;
  lines = s.lines;
  definitions = s.definitions;
  rules = s.rules;
  current = s.current;
}
added s k (value_line o a v) = record {
  block = 3;
  parents = s.parents;
  rows = s.rows;
  objects = s.objects;
  slots = s.slots ++ (record { object = o; row = a; value = v } ∷ []);
  lines = s.lines;
  definitions = s.definitions;
  rules = s.rules;
  current = s.current;
}
added s k (definition_line n c t) = record {
  block = 4;
  parents = s.parents;
  rows = s.rows;
  objects = s.objects;
  slots = s.slots;
  lines = s.lines;
  definitions = s.definitions;
  rules = s.rules;
  current = some (record { context = c; result = some t; text = false; first = length s.lines; trees = []; used = [] });
}
added s k (rule_line n c) = record {
  block = 5;
  parents = s.parents;
  rows = s.rows;
  objects = s.objects;
  slots = s.slots;
  lines = s.lines;
  definitions = s.definitions;
  rules = s.rules;
  current = some (record { context = c; result = none; text = false; first = length s.lines; trees = []; used = [] });
}
-- the block is that of the definition or rule that it stands in
added s k (node_line n x) = record {
  block = s.block;
  parents = s.parents;
  rows = s.rows;
  objects = s.objects;
  slots = s.slots;
  lines = s.lines ++ (k ∷ []);
  definitions = s.definitions;
  rules = s.rules;
  current = on_some s.current (λ c. some (with_node s.definitions c x));
}
-- what its node lines would add, each at the X line
added s k (text_line x) = record {
  block = s.block;
  parents = s.parents;
  rows = s.rows;
  objects = s.objects;
  slots = s.slots;
  lines = s.lines ++ replicate (length (nodes_of x)) k;
  definitions = s.definitions;
  rules = s.rules;
  current = on_some s.current (λ c. some (as_text (with_nodes s.definitions c (nodes_of x))));
}

-- ---- the end of a definition or rule

-- the last of the trees
unfoldable pub last_tree : List Expr → Option Expr
last_tree [] = none
last_tree (e ∷ []) = some e
last_tree (e ∷ f ∷ es) = last_tree (f ∷ es)

-- is each node below n an operand
unfoldable pub all_used : List ℕ → ℕ → Bool
all_used used zero = true
all_used used (suc n) = member n used && all_used used n

-- the sheet with the definition of a type added, or with the rule
unfoldable pub with_body : Sheet → ℕ → Option Ty → Expr → Sheet
with_body s c (some t) body = record {
  block = s.block;
  parents = s.parents;
  rows = s.rows;
  objects = s.objects;
  slots = s.slots;
  lines = s.lines;
  definitions = s.definitions ++ (record { context = c; type = t; body = body } ∷ []);
  rules = s.rules;
  current = none;
}
with_body s c none body = record {
  block = s.block;
  parents = s.parents;
  rows = s.rows;
  objects = s.objects;
  slots = s.slots;
  lines = s.lines;
  definitions = s.definitions;
  rules = s.rules ++ (record { context = c; body = body } ∷ []);
  current = none;
}

-- document 02, F-1: "The depth limit becomes 19"
abbrev pub most_levels : ℕ
most_levels = 19

-- the sheet with it, or none where it is 8, "at the rule's end no node, a node unused, too deep"
unfoldable pub end_of : Sheet → Current → Option Sheet
end_of s c = on_some (last_tree c.trees) (λ body.
    if all_used c.used (length c.trees - 1) && leb (levels body) most_levels then some (with_body s c.context c.result body) else none)

-- a sheet with none open stays as it is
unfoldable pub end_for : Sheet → Option Current → Option Sheet
end_for s none = some s
end_for s (some c) = end_of s c

unfoldable pub end_rule : Sheet → Option Sheet
end_rule s = end_for s s.current
