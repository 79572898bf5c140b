-- Where a sheet lies in the lent words, and what a line's code promises: if the words held the sheet, they hold the sheet with
-- the line, or the line is refused as the definition says.
use Rattle.std.specs.Prelude.{◌≡◌, Bool, true, false, List, [], ◌∷◌, ◌++◌, map, ℕ, zero, suc, ◌+◌, ◌*◌, ◌/◌, ◌≤◌, ◌<◌, length, get_or, take, drop, Result, Ok, Err}
use Rattle.std.proofs.Math.Option.{Option, none, some}
use Rattle.laws.specs.Lists.{member, concat, Each}
use Rattle.memory.specs.Map as memory
use Rattle.memory.specs.Lines as lines
use Rattle.ocl.specs.Laws.{Small}
use Rattle.ocl.specs.Values.{size}
use Rattle.ocl.specs.Model.{Row}
use Rattle.ocl.specs.Types.{Ty}
use Rattle.ocl.specs.Forms.{Definition, levels}
use Rattle.sheet.specs.Sizes.{most_classes, most_rows, most_objects, most_values, most_cells, most_definitions, most_rules, most_nodes, least_words}
use Rattle.sheet.specs.Text.{Bytes, fields_of}
use Rattle.sheet.specs.Sheet.{Slot, Rule, Current, Sheet, tree_of}
use Rattle.sheet.specs.Limits.{total_size}
use Rattle.sheet.specs.Reading.{Step, taken, refuse, step}
use Rattle.types.specs.Word.{type_in}
use Rattle.values.specs.Cells.{enc, Fits}
use Rattle.nodes.specs.Nodes.{word, tree_at}
use Rattle.tables.specs.declared.Counts.{Counts}
use Rattle.memory.specs.declared.refusals.Refusal.{Refusal}
use Rattle.memory.specs.Refusals.{number}

-- the first n words of the table at an offset
abbrev pub tab : ℕ → ℕ → List ℕ → List ℕ
tab off n w = take n (drop off w)

-- ---- w0: classes, rows, objects, values, rules

-- a parent and one, or 0 for none
unfoldable pub parent_code : Option ℕ → ℕ
parent_code none = 0
parent_code (some p) = suc p

-- an object and a row: slots ascend by this number
unfoldable pub slot_key : Slot → ℕ
slot_key x = x.object * most_rows + x.row

-- where each slot's cells start, the first at n
unfoldable pub starts_from : ℕ → List Slot → List ℕ
starts_from n [] = []
starts_from n (x ∷ xs) = n ∷ starts_from (n + size x.value) xs

unfoldable pub cells_of : List Slot → List ℕ
cells_of xs = concat (map (λ (x : Slot). enc x.value) xs)

pub record HoldsTables (w0 : List ℕ) (s : Sheet) : Type 0 where
  pub parents : tab memory.parents (length s.parents) w0 ≡ map parent_code s.parents
  -- document 01: "parent p is `-` or a smaller class"
  pub smaller : Small (λ c. get_or s.parents c none)
  pub owners : tab memory.owners (length s.rows) w0 ≡ map (λ (r : Row). r.owner) s.rows
  pub names : tab memory.names (length s.rows) w0 ≡ map (λ (r : Row). r.name) s.rows
  pub types : map type_in (tab memory.types (length s.rows) w0) ≡ map (λ (r : Row). r.type) s.rows
  pub objects : tab memory.objects (length s.objects) w0 ≡ s.objects
  pub keys : tab memory.keys (length s.slots) w0 ≡ map slot_key s.slots
  pub starts : tab memory.starts (length s.slots) w0 ≡ starts_from 0 s.slots
  pub cells : tab memory.cells (total_size s.slots) w0 ≡ cells_of s.slots
  pub fits : Each (λ (x : Slot). Fits x.value) s.slots
  pub contexts : tab memory.contexts (length s.rules) w0 ≡ map (λ (r : Rule). r.context) s.rules

-- ---- w1: nodes, and twice a node's depth, one more where it is an operand; the marks, between them, come later

-- the line of each of the first n nodes
unfoldable pub lines_in : List ℕ → ℕ → List ℕ
lines_in w1 zero = []
lines_in w1 (suc n) = lines_in w1 n ++ (word w1 n 7 ∷ [])

unfoldable pub used_bit : Bool → ℕ
used_bit true = 1
used_bit false = 0

-- the trees of the rules that have ended, by their roots
pub record HoldsRules (w0 w1 : List ℕ) (s : Sheet) : Type 0 where
  pub bodies : map (tree_at w1) (tab memory.roots (length s.rules) w0) ≡ map (λ (r : Rule). r.body) s.rules
  pub roots : Each (λ n. n < length s.lines) (tab memory.roots (length s.rules) w0)
  pub lines : lines_in w1 (length s.lines) ≡ s.lines

-- the definitions that have ended, and the depths of their bodies, which a call's depth counts
pub record HoldsDefinitions (w0 w1 : List ℕ) (s : Sheet) : Type 0 where
  pub contexts : tab memory.definition_contexts (length s.definitions) w0 ≡ map (λ (d : Definition). d.context) s.definitions
  pub classes : Each (λ n. n < most_classes) (tab memory.definition_contexts (length s.definitions) w0)
  pub types : map type_in (tab memory.definition_types (length s.definitions) w0) ≡ map (λ (d : Definition). d.type) s.definitions
  pub bodies : map (tree_at w1) (tab memory.definition_roots (length s.definitions) w0) ≡ map (λ (d : Definition). d.body) s.definitions
  pub roots : Each (λ n. n < length s.lines) (tab memory.definition_roots (length s.definitions) w0)
  pub depths : Each (λ n. get_or w1 (memory.depths + n) 0 / 2 ≡ levels (tree_at w1 n)) (tab memory.definition_roots (length s.definitions) w0)

-- what is open: a rule, one whose nodes an X line has given, or a definition, which has a type
unfoldable pub open_code : Option Ty → Bool → ℕ
open_code none false = lines.rule_open
open_code none true = lines.text_given
open_code (some t) text = lines.definition_open

-- the definition or rule that is open
pub record HoldsCurrent (st : Counts) (w1 : List ℕ) (n : ℕ) (c : Current) : Type 0 where
  pub is_open : st.open ≡ open_code c.result c.text
  -- an X line stands in a rule
  pub of_rule : c.text ≡ true → c.result ≡ none
  pub context : st.context ≡ c.context
  pub result : (t : Ty) → c.result ≡ some t → type_in st.result ≡ t
  pub first : st.first ≡ c.first
  pub count : c.first + length c.trees ≡ n
  pub trees : (a : ℕ) → a < length c.trees → tree_of c.trees a ≡ tree_at w1 (c.first + a)
  pub depths : (a : ℕ) → a < length c.trees
      → get_or w1 (memory.depths + (c.first + a)) 0 ≡ 2 * levels (tree_of c.trees a) + used_bit (member a c.used)
  -- an operand is a node of the same definition or rule
  pub used : Each (λ a. a < length c.trees) c.used

pub data HoldsOpen (st : Counts) (w1 : List ℕ) (n : ℕ) : Option Current → Type 0 where
  closed : st.open ≡ lines.nothing_open → HoldsOpen st w1 n none
  opened : {c : Current} → HoldsCurrent st w1 n c → HoldsOpen st w1 n (some c)

-- ---- the whole

abbrev pub no_counts : Counts
no_counts = record { block = lines.classes; classes = 0; rows = 0; objects = 0; slots = 0; cells = 0; nodes = 0; definitions = 0; rules = 0; «open» = lines.nothing_open; context = 0; result = 0; first = 0 }

-- the counts are the sheet's
pub record Counted (st : Counts) (s : Sheet) : Type 0 where
  pub block : st.block ≡ s.block
  pub classes : st.classes ≡ length s.parents
  pub rows : st.rows ≡ length s.rows
  pub objects : st.objects ≡ length s.objects
  pub slots : st.slots ≡ length s.slots
  pub cells : st.cells ≡ total_size s.slots
  pub nodes : st.nodes ≡ length s.lines
  pub definitions : st.definitions ≡ length s.definitions
  pub rules : st.rules ≡ length s.rules

pub record Holds (st : Counts) (w0 w1 : List ℕ) (s : Sheet) : Type 0 where
  pub counted : Counted st s
  pub tables : HoldsTables w0 s
  pub definitions : HoldsDefinitions w0 w1 s
  pub rules : HoldsRules w0 w1 s
  pub current : HoldsOpen st w1 (length s.lines) s.current

-- the counts are within document 01's limits
pub record Fine (st : Counts) : Type 0 where
  pub classes : st.classes ≤ most_classes
  pub rows : st.rows ≤ most_rows
  pub objects : st.objects ≤ most_objects
  pub slots : st.slots ≤ most_values
  pub cells : st.cells ≤ most_cells
  pub nodes : st.nodes ≤ most_nodes
  pub definitions : st.definitions ≤ most_definitions
  pub rules : st.rules ≤ most_rules
  pub first : st.first ≤ st.nodes
  pub context : st.context < most_classes

-- the words past those that must be lent are as they were
pub record Kept (before after : List ℕ) : Type 0 where
  pub size : length after ≡ length before
  pub rest : drop least_words after ≡ drop least_words before

-- a step of the code and a step of the definition
pub data Moved (w0 w1 : List ℕ) : Result Counts Refusal → Step → Type 0 where
  moved_next : {st : Counts} {s : Sheet} → Fine st → Holds st w0 w1 s → Moved w0 w1 (Ok st) (taken s)
  moved_refused : {e : Refusal} → Moved w0 w1 (Err e) (refuse (number e))

-- line k with these bytes, taken at st: the words were w0 and w1 and are v0 and v1
pub record Took (st : Counts) (k : ℕ) (line : Bytes) (r : Result Counts Refusal) (w0 w1 v0 v1 : List ℕ) : Type 0 where
  pub is : (s : Sheet) → Holds st w0 w1 s → Moved v0 v1 r (step s k (fields_of line))
  pub kept0 : Kept w0 v0
  pub kept1 : Kept w1 v1
