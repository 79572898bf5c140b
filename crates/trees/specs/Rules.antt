-- What the code promises of a node line, and of the end of a definition or rule.
use Rattle.std.specs.Prelude.{◌≡◌, ◌≢◌, Bool, true, not, ◌&&◌, List, ℕ, zero, suc, ◌+◌, ◌-◌, ◌/◌, ◌%◌, ◌≤◌, ◌<◌, length, get_or, eqb, leb, ltb, Result, Ok, Err}
use Rattle.std.proofs.Math.Option.{Option, none, some}
use Rattle.laws.specs.Lists.{all_of}
use Rattle.memory.specs.Map as memory
use Rattle.memory.specs.Lines as lines
use Rattle.ocl.specs.Forms.{levels}
use Rattle.sheet.specs.Sizes.{most_definitions, most_rules, most_nodes}
use Rattle.sheet.specs.Lines.{Shape, node_line}
use Rattle.sheet.specs.Sheet.{Current, Sheet, with_body, end_rule}
use Rattle.sheet.specs.Limits.{is_node}
use Rattle.sheet.specs.Reading.{step_line}
use Rattle.nodes.specs.Nodes.{tree_at}
use Rattle.tables.specs.Layout.{Holds, Fine, Kept, Moved}
use Rattle.tables.specs.declared.Counts.{Counts}
use Rattle.shapes.specs.declared.Parsed.{Parsed}
use Rattle.shapes.specs.Fields.{cut}
use Rattle.shapes.specs.Forms.{operands_at, StandsFor}
use Rattle.trees.specs.Operands.{depth_at}
use Rattle.trees.specs.Calls.{calls_in}
use Rattle.memory.specs.declared.refusals.Refusal.{Refusal}
use Rattle.memory.specs.declared.refusals.Refusal.TheVariants.{BrokenTree}

-- an open rule has a number below 64, and an open definition one below 32: an R line and a D line were held to that
pub record RuleRoom (st : Counts) : Type 0 where
  pub room : st.«open» ≢ lines.nothing_open → st.«open» ≢ lines.definition_open → st.rules < most_rules
  pub space : st.«open» ≡ lines.definition_open → st.definitions < most_definitions

-- ---- a node line

-- 4: node n of the form p, where there are nodes already
unfoldable pub node_limits : Counts → ℕ → Parsed → Bool
node_limits st n p = is_node n && p.within && all_of is_node (operands_at p.words p.count) && ltb st.nodes most_nodes

-- 5
unfoldable pub node_order : Counts → ℕ → Parsed → Bool
node_order st n p = leb st.block lines.rules && (not (eqb st.«open» lines.nothing_open) && not (eqb st.«open» lines.text_given) && eqb n (st.nodes - st.first) && p.apart)

-- neither 4 nor 5, 6, 23 or 24
pub record Fit (st : Counts) (n : ℕ) (p : Parsed) : Type 0 where
  pub limits : node_limits st n p ≡ true
  pub order : node_order st n p ≡ true
  pub classes : p.classes ≤ st.classes
  pub calls : calls_in p.words p.count ≤ st.definitions

-- the counts with one node more
unfoldable pub node_counts : Counts → Counts
node_counts st = record {
  block = st.block;
  classes = st.classes;
  rows = st.rows;
  objects = st.objects;
  slots = st.slots;
  cells = st.cells;
  nodes = st.nodes + 1;
  definitions = st.definitions;
  rules = st.rules;
  «open» = st.«open»;
  context = st.context;
  result = st.result;
  first = st.first;
}

-- a line that spells a node: the words were w0 and w1 and are w0 and v1
pub record Placed (st : Counts) (n : ℕ) (p : Parsed) (r : Result Counts Refusal) (w0 w1 v1 : List ℕ) : Type 0 where
  pub is : (line : ℕ) (s : Sheet) (i : ℕ) (x : Shape) → n ≡ cut i → StandsFor line x p → Holds st w0 w1 s → Moved w0 v1 r (step_line s line (node_line i x))
  pub fine : (u : Counts) → r ≡ Ok u → Fine u
  pub kept : Kept w1 v1

-- ---- the end of a definition or rule

-- is each of n nodes from `first` on an operand, by the tables
unfoldable pub used_in : List ℕ → ℕ → ℕ → Bool
used_in w first zero = true
used_in w first (suc n) = eqb (get_or w (depth_at first n) 0 % 2) 1 && used_in w first n

-- the counts with the rule stored
unfoldable pub ended_counts : Counts → Counts
ended_counts st = record {
  block = st.block;
  classes = st.classes;
  rows = st.rows;
  objects = st.objects;
  slots = st.slots;
  cells = st.cells;
  nodes = st.nodes;
  definitions = st.definitions;
  rules = st.rules + 1;
  «open» = lines.nothing_open;
  context = st.context;
  result = st.result;
  first = st.first;
}

-- the counts with the definition stored
unfoldable pub defined_counts : Counts → Counts
defined_counts st = record {
  block = st.block;
  classes = st.classes;
  rows = st.rows;
  objects = st.objects;
  slots = st.slots;
  cells = st.cells;
  nodes = st.nodes;
  definitions = st.definitions + 1;
  rules = st.rules;
  «open» = lines.nothing_open;
  context = st.context;
  result = st.result;
  first = st.first;
}

-- the definition or rule c that is open, put down with its root
pub record PutDown (st r : Counts) (root : ℕ) (w0 v0 : List ℕ) : Type 0 where
  pub is : (w1 : List ℕ) (s : Sheet) (c : Current) → s.current ≡ some c → Holds st w0 w1 s → root < length s.lines → get_or w1 (memory.depths + root) 0 / 2 ≡ levels (tree_at w1 root)
      → Fine r × Holds r v0 w1 (with_body s c.context c.result (tree_at w1 root))
  pub kept : Kept w0 v0

pub data EndMoved (w0 w1 : List ℕ) : Result Counts Refusal → Option Sheet → Type 0 where
  ended : {st : Counts} {s : Sheet} → Fine st → Holds st w0 w1 s → EndMoved w0 w1 (Ok st) (some s)
  refused : EndMoved w0 w1 (Err BrokenTree) none

pub record RuleEnded (st : Counts) (r : Result Counts Refusal) (w0 w1 v0 : List ℕ) : Type 0 where
  pub is : (s : Sheet) → Holds st w0 w1 s → EndMoved v0 w1 r (end_rule s)
  pub kept : Kept w0 v0
