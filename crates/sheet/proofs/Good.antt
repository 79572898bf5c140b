-- What holds of a sheet after every line that is taken: parents that are smaller, slots that ascend, values that belong to their rows'
-- types and are formed, definitions and rules of at most 19 levels, which call definitions of the sheet, no node twice, a forest of the
-- nodes of what is open, room for it, and Integers and types within their limits. Assumes nothing.
use mathlib.Core.Path.{◌≡◌, refl}
use mathlib.Core.Option.{Option, none, some}
use mathlib.Core.List.{List, [], ◌++◌, map}
use Prim.Native.Nat.{ℕ, ◌+◌, ◌<◌, ◌≤◌}
use native.Mathlib.Omega.{arith}
use lib.ListN.{length, get_or, get_elem?}
use lib.Dec.{T}
use Rattle.laws.specs.Lists.{Each, each_nil, Distinct, distinct_nil}
use Rattle.laws.proofs.Tests.{All?}
use Rattle.ocl.specs.Types.{Ty}
use Rattle.ocl.specs.Values.{size}
use Rattle.ocl.specs.Model.{Row, Model, belongs}
use Rattle.ocl.specs.Forms.{Expr, Definition, levels, calls}
use Rattle.ocl.specs.Laws.{numbers_kept, Formed, numbers, literals}
use Rattle.sheet.specs.Sheet.{Slot, Rule, Current, Sheet, empty, no_row, most_levels}
use Rattle.sheet.specs.Limits.{is_class}
use Rattle.sheet.proofs.Ascending.{Ascending, ascending_nil}
use Rattle.sheet.proofs.NumbersKept.{AllKept}
use Rattle.sheet.proofs.TypeFits.{Fits, NamesFit}
use Rattle.sheet.proofs.Forest.{Forest}
use Rattle.sheet.proofs.Bodies.{body_numbers, Among}

-- the sheet without its values, of which belonging is asked
unfoldable pub plain : Sheet → Model
plain s = record {
  parent = λ c. get_or s.parents c none;
  row_count = length s.rows;
  row = λ i. get_or s.rows i no_row;
  object_count = length s.objects;
  class_of = get_elem? s.objects;
  value_of = λ o i. none;
}

pub record SlotOk (m : Model) (x : Slot) : Type 0 where
  pub belong : T (belongs m (m.row x.row).type x.value)
  pub small : size x.value ≤ 128
  pub numbers_kept_lem : T (numbers_kept x.value)
  pub formed : Formed x.value
  pub low_row : x.row < 64

-- the class and the body of an ended definition or rule, on a sheet with these definitions and n nodes
pub record BodyOk (ds : List Definition) (n : ℕ) (c : ℕ) (e : Expr) : Type 0 where
  pub context : T (is_class c)
  pub on_sheet : Each (λ p. p < n) (numbers e)
  pub shallow : levels e ≤ most_levels
  pub numbers_kept_lem : AllKept (literals e)
  pub names : NamesFit e
  pub called : Each (Among ds) (calls e)

abbrev pub RuleOk : List Definition → ℕ → Rule → Type 0
RuleOk ds n r = BodyOk ds n r.context r.body

pub record DefinitionOk (ds : List Definition) (n : ℕ) (d : Definition) : Type 0 where
  pub type : Fits 3 d.type
  pub body : BodyOk ds n d.context d.body

-- what is open
pub record CurrentOk (ds : List Definition) (n : ℕ) (c : Current) : Type 0 where
  pub context : T (is_class c.context)
  pub result : All? (Fits 3) c.result
  pub forest : Forest c.first c.trees c.used
  pub count : c.first + length c.trees ≡ n
  pub operands : Each (λ a. a < length c.trees) c.used
  pub numbers_kept_lem : Each (λ e. AllKept (literals e)) c.trees
  pub names : Each NamesFit c.trees
  pub called : Each (λ e. Each (Among ds) (calls e)) c.trees

pub data OpenOk (ds : List Definition) (n : ℕ) : Option Current → Type 0 where
  none_open : OpenOk ds n none
  one_open : {c : Current} → CurrentOk ds n c → OpenOk ds n (some c)

-- no rule stands on the sheet before its block; what is open is of the last block begun
pub record Blocks (block : ℕ) (rules : List Rule) (o : Option Current) : Type 0 where
  pub late : block < 5 → rules ≡ []
  pub in_rule : (c : Current) → o ≡ some c → c.result ≡ none → 5 ≤ block
  pub in_definition_lem : (c : Current) (t : Ty) → o ≡ some c → c.result ≡ some t → block < 5

-- there is room for what is open
pub record Room (ds : List Definition) (rules : List Rule) (c : Current) : Type 0 where
  pub for_rule : c.result ≡ none → length rules < 64
  pub for_definition : (t : Ty) → c.result ≡ some t → length ds < 32

-- the nodes of the definitions and rules that have ended
unfoldable pub sheet_numbers : Sheet → List ℕ
sheet_numbers s = body_numbers (map (λ d. d.body) s.definitions) ++ body_numbers (map (λ r. r.body) s.rules)

pub record Good (s : Sheet) : Type 0 where
  pub parents : (c p : ℕ) → get_or s.parents c none ≡ some p → p < c
  pub rows : Each (λ (x : Row). Fits 3 x.type) s.rows
  -- no value stands on the sheet before its block
  pub early : s.block < 3 → s.slots ≡ []
  pub slots : Each (SlotOk (plain s)) s.slots
  pub ascending : Ascending s.slots
  pub definitions : Each (DefinitionOk s.definitions (length s.lines)) s.definitions
  pub rules : Each (RuleOk s.definitions (length s.lines)) s.rules
  -- no node twice, and those of what is open come after the others
  pub distinct : Distinct (sheet_numbers s)
  pub earlier : (c : Current) → s.current ≡ some c → Each (λ p. p < c.first) (sheet_numbers s)
  pub few : length s.rules ≤ 64
  pub blocks : Blocks s.block s.rules s.current
  pub current : OpenOk s.definitions (length s.lines) s.current
  pub room : (c : Current) → s.current ≡ some c → Room s.definitions s.rules c

none-some : {A B : Type 0} {x : A} → none ≡ some x → B
none-some e = absurd (let z : ◌≡◌ {A = ℕ} 0 1 = cc in omega arith)

pub blocks_none : {block : ℕ} {rules : List Rule} → (block < 5 → rules ≡ []) → Blocks block rules none
blocks_none h = record { late = h; in_rule = λ c e. none-some e; in_definition_lem = λ c t e. none-some e }

pub good_empty : Good empty
unfolding empty sheet_numbers body_numbers
good_empty = record {
  parents = λ c p e. none-some e;
  rows = each_nil;
  early = λ h. refl;
  slots = each_nil;
  ascending = ascending_nil;
  definitions = each_nil;
  rules = each_nil;
  distinct = distinct_nil;
  earlier = λ c e. none-some e;
  few = omega arith;
  blocks = blocks_none (λ h. refl);
  current = none_open;
  room = λ c e. none-some e;
}
