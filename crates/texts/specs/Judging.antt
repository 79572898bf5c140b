-- What the code promises of an X line.
use Rattle.std.specs.Prelude.{◌≡◌, Bool, ◌&&◌, List, ℕ, ◌+◌, ◌≤◌, length, eqb, leb, Result}
use Rattle.memory.specs.Lines as lines
use Rattle.sheet.specs.Sizes.{most_nodes}
use Rattle.sheet.specs.Text.{Bytes}
use Rattle.sheet.specs.Lines.{text_line}
use Rattle.sheet.specs.Texts.{nodes_of}
use Rattle.sheet.specs.Sheet.{Sheet}
use Rattle.sheet.specs.Reading.{step_line}
use Rattle.tables.specs.declared.Counts.{Counts}
use Rattle.tables.specs.Layout.{Holds, Kept, Moved, Took}
use Rattle.emission.specs.Nodes.{HoldsNodes}
use Rattle.texts.specs.declared.gathering.Gathered.{Gathered}
use Rattle.memory.specs.declared.refusals.Refusal.{Refusal}

-- 4: so many nodes, where there are nodes already
unfoldable pub text_limits : Counts → Gathered → ℕ → Bool
text_limits st g n = g.within && leb (st.nodes + n) most_nodes

-- 5
unfoldable pub text_order : Counts → Gathered → Bool
text_order st g = leb st.block lines.rules && (eqb st.«open» lines.rule_open && eqb st.first st.nodes && g.apart)

-- a text that is a sentence of so many nodes, which wait in w2 if they are not too many: the words were w0 and w1 and are w0 and v1
pub record Judged (st : Counts) (line nodes : ℕ) (r : Result Counts Refusal) (w0 w1 w2 v1 : List ℕ) : Type 0 where
  pub is : (s : Sheet) (x : Bytes) → length (nodes_of x) ≡ nodes → (nodes ≤ most_nodes → HoldsNodes line (nodes_of x) w2) → Holds st w0 w1 s → Moved w0 v1 r (step_line s line (text_line x))
  pub kept : Kept w1 v1

-- line k with these bytes; w2 was u2 and is v2
pub record TookText (st : Counts) (k : ℕ) (line : Bytes) (r : Result Counts Refusal) (w0 w1 u2 v1 v2 : List ℕ) : Type 0 where
  pub took : Took st k line r w0 w1 w0 v1
  pub kept2 : Kept u2 v2
