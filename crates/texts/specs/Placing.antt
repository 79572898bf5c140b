-- What the code promises of a text's nodes that go into the node table.
use Rattle.std.specs.Prelude.{◌≡◌, true, List, ℕ, length, Result}
use Rattle.memory.specs.Lines as lines
use Rattle.sheet.specs.Text.{Bytes}
use Rattle.sheet.specs.Lines.{Shape, text_line}
use Rattle.sheet.specs.Texts.{nodes_of}
use Rattle.sheet.specs.Sheet.{Sheet, added}
use Rattle.sheet.specs.Limits.{within_limits}
use Rattle.sheet.specs.Refusals.{in_order, parts_known, calls_known}
use Rattle.sheet.specs.Reading.{taken}
use Rattle.tables.specs.declared.Counts.{Counts}
use Rattle.tables.specs.Layout.{Holds, Kept, Moved}
use Rattle.emission.specs.Nodes.{HoldsNodes}
use Rattle.memory.specs.declared.refusals.Refusal.{Refusal}

-- so many nodes wait, each of which stands for a form
pub record HeldNodes (line nodes : ℕ) (w2 : List ℕ) : Type 0 where
  pub forms : List Shape
  pub size : length forms ≡ nodes
  pub holds : HoldsNodes line forms w2

-- the counts with the open rule's nodes given by an X line
unfoldable pub text_counts : Counts → Counts
text_counts st = record {
  block = st.block;
  classes = st.classes;
  rows = st.rows;
  objects = st.objects;
  slots = st.slots;
  cells = st.cells;
  nodes = st.nodes;
  definitions = st.definitions;
  rules = st.rules;
  «open» = lines.text_given;
  context = st.context;
  result = st.result;
  first = st.first;
}

-- what a text has met when its nodes are added: 4, 5, 6 and 24
pub record Passed (s : Sheet) (x : Bytes) : Type 0 where
  pub limits : within_limits s (text_line x) ≡ true
  pub order : in_order s (text_line x) ≡ true
  pub parts : parts_known s (text_line x) ≡ true
  pub calls : calls_known s (text_line x) ≡ true

-- the nodes of such a text, which wait in w2, are added; the words were w0 and w1 and are w0 and v1
pub record TextPlaced (st : Counts) (line nodes : ℕ) (r : Result Counts Refusal) (w0 w1 w2 v1 : List ℕ) : Type 0 where
  pub is : (s : Sheet) (x : Bytes) → length (nodes_of x) ≡ nodes → HoldsNodes line (nodes_of x) w2 → Holds st w0 w1 s → Passed s x → Moved w0 v1 r (taken (added s line (text_line x)))
  pub kept : Kept w1 v1
