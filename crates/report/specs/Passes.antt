-- The lines of an accepted sheet in the words, written one behind the other, or only counted: the report's, or those that say where
-- undefined came from.
use Rattle.std.specs.Prelude.{◌≡◌, ◌⊎◌, Bool, true, List, [], ℕ, ◌+◌, ◌≤◌, length, T}
use Rattle.std.proofs.Math.Option.{some}
use Rattle.std.proofs.Math.ListN.{get_elem?}
use Rattle.std.specs.Prelude.{if◌then◌else◌}
use Rattle.laws.specs.Lists.{Each}
use Rattle.ocl.specs.Types.{class, Ty}
use Rattle.ocl.specs.Model.{is_a}
use Rattle.ocl.specs.Typing.{typed}
use Rattle.sheet.specs.Sizes.{least_output}
use Rattle.sheet.specs.Text.{Bytes}
use Rattle.sheet.specs.Sheet.{Rule, Sheet, model_of}
use Rattle.sheet.specs.Calls.{typing_of, outcome_of}
use Rattle.sheet.specs.Laws.{Defined}
use Rattle.sheet.specs.Report.{report_line, object_lines, rule_lines}
use Rattle.sheet.specs.Origin.{trace_of, origin_line, object_origins, rule_origins}
use Rattle.text.specs.Written.{Puts, put_bytes}
use Rattle.tables.specs.declared.Counts.{Counts}
use Rattle.tables.specs.Layout.{Kept}
use Rattle.rules.specs.Accepted.{InWords, MarksIn, Accepted}
use Rattle.report.specs.Bound.{line_width, lines_bound, rules_bound}

-- b comes behind `total` bytes: it is put there where it is to be kept
pub record AddsBytes (keep : Bool) (total : ℕ) (b before after : Bytes) (r : ℕ) : Type 0 where
  pub end : r ≡ total + length b
  pub size : length after ≡ length before
  pub kept : keep ≡ true → after ≡ put_bytes total b before

-- where bytes are to be kept, their bound b or their number n fits behind `total`; where they are counted, one line fits; and the
-- numbers stay small
pub record HasRoom (keep : Bool) (total n b room : ℕ) : Type 0 where
  pub all : keep ≡ true → (total + b ≤ room) ⊎ (total + n ≤ room)
  pub line : least_output ≤ room
  pub few : total + b ≤ 14247936

-- ---- one rule

-- rule r of an accepted sheet is x, and has type t
pub record TypedRule (st : Counts) (w0 w1 : List ℕ) (r : ℕ) (s : Sheet) (x : Rule) (t : Ty) : Type 0 where
  pub lies : InWords st w0 w1 s
  pub defined : Each (Defined s) s.definitions
  pub marks : MarksIn w1 s
  pub rule : get_elem? s.rules r ≡ some x
  pub type : (typing_of s x).answer ≡ typed t

-- the line of a verdict, that of object o if it is of the rule's class or below, and those of the first n objects
unfoldable pub verdict_line : Bool → ℕ → ℕ → Sheet → Rule → Bytes
verdict_line origins r o s x = if origins then origin_line s r o (trace_of s x o) else report_line r o (outcome_of s x o)

unfoldable pub object_line : Bool → ℕ → ℕ → Sheet → Rule → Bytes
object_line origins r o s x = if is_a (model_of s) o (class x.context) then verdict_line origins r o s x else []

unfoldable pub lines_for : Bool → Sheet → ℕ → Rule → ℕ → Bytes
lines_for origins s r x n = if origins then object_origins s r x n else object_lines s r x n

abbrev pub all_objects : Bool → ℕ → Sheet → Rule → Bytes
all_objects origins r s x = lines_for origins s r x (length s.objects)

-- how many bytes they can take
unfoldable pub line_bound : Bool → ℕ → Sheet → Rule → Ty → ℕ
line_bound origins o s x t = if is_a (model_of s) o (class x.context) then line_width origins t else 0

abbrev pub all_bound : Bool → Sheet → Rule → Ty → ℕ
all_bound origins s x t = lines_bound origins s x t (length s.objects)

-- a sheet and its rule r, and object o of its class, with room for the line at a place
pub record RoomForLine (origins : Bool) (st : Counts) (w0 w1 : List ℕ) (r o at room : ℕ) : Type 0 where
  pub sheet : Sheet
  pub rule : Rule
  pub type : Ty
  pub typed : TypedRule st w0 w1 r sheet rule type
  pub of_class : T (is_a (model_of sheet) o (class rule.context))
  pub space : (at + line_width origins type ≤ room) ⊎ (at + length (verdict_line origins r o sheet rule) ≤ room)

-- the line is put there, and takes no more than its bound; w2 was `before`
pub record PutsVerdict (origins : Bool) (st : Counts) (w0 w1 : List ℕ) (r o at : ℕ) (before after : List ℕ) (out now : Bytes) (n : ℕ) : Type 0 where
  pub is : (s : Sheet) (x : Rule) (t : Ty) → TypedRule st w0 w1 r s x t → T (is_a (model_of s) o (class x.context))
      → Puts at (verdict_line origins r o s x) out now n
  pub bounded : (s : Sheet) (x : Rule) (t : Ty) → TypedRule st w0 w1 r s x t → T (is_a (model_of s) o (class x.context))
      → n ≤ at + line_width origins t
  pub size : length now ≡ length out
  pub kept : Kept before after

-- a sheet and its rule r, with room for f, which takes at most g
pub record RoomFor (f : Sheet → Rule → Bytes) (g : Sheet → Rule → Ty → ℕ) (st : Counts) (w0 w1 : List ℕ) (r : ℕ) (keep : Bool) (total room : ℕ) : Type 0 where
  pub sheet : Sheet
  pub rule : Rule
  pub type : Ty
  pub typed : TypedRule st w0 w1 r sheet rule type
  pub space : HasRoom keep total (length (f sheet rule)) (g sheet rule type) room

-- f is added; w2 was `before`
pub record AddsLines (f : Sheet → Rule → Bytes) (g : Sheet → Rule → Ty → ℕ) (st : Counts) (w0 w1 : List ℕ) (r : ℕ) (keep : Bool) (total : ℕ)
    (before after : List ℕ) (out now : Bytes) (n : ℕ) : Type 0 where
  pub is : (s : Sheet) (x : Rule) (t : Ty) → TypedRule st w0 w1 r s x t → AddsBytes keep total (f s x) out now n
  pub bounded : (s : Sheet) (x : Rule) (t : Ty) → TypedRule st w0 w1 r s x t → n ≤ total + g s x t
  pub size : length now ≡ length out
  pub kept : Kept before after

-- ---- all rules

-- the lines of the rules from number r on
unfoldable pub lines_from : Bool → Sheet → ℕ → List Rule → Bytes
lines_from origins s r xs = if origins then rule_origins s r xs else rule_lines s r xs

abbrev pub all_lines : Bool → Sheet → Bytes
all_lines origins s = lines_from origins s 0 s.rules

pub record RoomForAll (origins : Bool) (st : Counts) (w0 w1 : List ℕ) (keep : Bool) (room : ℕ) : Type 0 where
  pub sheet : Sheet
  pub types : List Ty
  pub accepted : Accepted st w0 w1 sheet types
  pub space : HasRoom keep 0 (length (all_lines origins sheet)) (rules_bound origins sheet sheet.rules types) room

-- they are added from the first byte on; w2 was `before`
pub record AddsAll (origins : Bool) (st : Counts) (w0 w1 before after : List ℕ) (keep : Bool) (out now : Bytes) (n : ℕ) : Type 0 where
  pub is : (s : Sheet) (ts : List Ty) → Accepted st w0 w1 s ts → AddsBytes keep 0 (all_lines origins s) out now n
  pub bounded : (s : Sheet) (ts : List Ty) → Accepted st w0 w1 s ts → n ≤ rules_bound origins s s.rules ts
  pub size : length now ≡ length out
  pub kept : Kept before after
