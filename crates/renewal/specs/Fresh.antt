-- The lines of the rules that are evaluated again, put into a buffer as far as it goes, and their steps.
use Rattle.std.specs.Prelude.{◌≡◌, Bool, List, [], ◌++◌, ℕ, ◌+◌, ◌≤◌, length, get_or, take}
use Rattle.std.specs.Prelude.{if◌then◌else◌}
use Rattle.ocl.specs.Types.{class, Ty}
use Rattle.ocl.specs.Model.{is_a}
use Rattle.ocl.specs.Operations.{steps_of}
use Rattle.sheet.specs.Sizes.{least_output}
use Rattle.sheet.specs.Text.{Bytes}
use Rattle.sheet.specs.Sheet.{Rule, Sheet, model_of}
use Rattle.sheet.specs.Calls.{outcome_of}
use Rattle.sheet.specs.Report.{report_line, object_lines}
use Rattle.text.specs.Written.{Puts}
use Rattle.board.specs.Board.{verdicts_from, object_steps, renewed_steps}
use Rattle.tables.specs.declared.Counts.{Counts}
use Rattle.tables.specs.Layout.{Kept}
use Rattle.rules.specs.Accepted.{Accepted}
use Rattle.report.specs.Passes.{TypedRule}
use Rattle.rows.specs.Bits.{bit}
use Rattle.moves.specs.Joined.{joined, arriving, EndsAt}
use Rattle.renewal.specs.declared.fresh.Sums.{Sums}
use Rattle.renewal.specs.Touched.{Touches}

-- w are the bytes so far. The buffer holds them but for its last 2,560 bytes, where lines go that have no room any more
pub record Buffers (buf w : Bytes) (end : ℕ) : Type 0 where
  pub long : end ≡ length w
  pub holds : (h : ℕ) → h + least_output ≤ length buf → h ≤ length w → take h buf ≡ take h w

-- some sheet is accepted
pub record KnownAccepted (st : Counts) (w0 w1 : List ℕ) : Type 0 where
  pub sheet : Sheet
  pub types : List Ty
  pub accepted : Accepted st w0 w1 sheet types

-- ---- one rule

-- rule r of some accepted sheet
pub record SomeRule (st : Counts) (w0 w1 : List ℕ) (r : ℕ) : Type 0 where
  pub sheet : Sheet
  pub rule : Rule
  pub type : Ty
  pub typed : TypedRule st w0 w1 r sheet rule type

-- the line and the steps for object o, if it is of the rule's class or below, and those for all objects
unfoldable pub line_for : ℕ → ℕ → Sheet → Rule → Bytes
line_for r o s x = if is_a (model_of s) o (class x.context) then report_line r o (outcome_of s x o) else []

abbrev pub all_lines : ℕ → Sheet → Rule → Bytes
all_lines r s x = object_lines s r x (length s.objects)

unfoldable pub object_step : ℕ → Sheet → Rule → ℕ
object_step o s x = if is_a (model_of s) o (class x.context) then steps_of (outcome_of s x o) else 0

abbrev pub all_steps : Sheet → Rule → ℕ
all_steps s x = object_steps s x (length s.objects)

-- f and g are added to what there was, at most so many bytes and steps; w2 was `before`, and the buffer `buf`
pub record AddsFresh (f : Sheet → Rule → Bytes) (g : Sheet → Rule → ℕ) (most limit : ℕ) (st : Counts) (w0 w1 : List ℕ) (r : ℕ) (was : Sums)
    (before after : List ℕ) (buf now : Bytes) (sums : Sums) : Type 0 where
  pub is : (s : Sheet) (x : Rule) (t : Ty) → TypedRule st w0 w1 r s x t → (w : Bytes) → Buffers buf w was.bytes → Buffers now (w ++ f s x) sums.bytes
  pub added : (s : Sheet) (x : Rule) (t : Ty) → TypedRule st w0 w1 r s x t → sums.steps ≡ was.steps + g s x
  pub few_bytes_lem : sums.bytes ≤ was.bytes + most
  pub few_steps : sums.steps ≤ was.steps + limit
  pub size : length now ≡ length buf
  pub kept : Kept before after

-- ---- put once more, at a place

-- some accepted sheet and its rule r, with room for f there
pub record RoomAgain (f : Sheet → Rule → Bytes) (st : Counts) (w0 w1 : List ℕ) (r at room : ℕ) : Type 0 where
  pub known : SomeRule st w0 w1 r
  pub enough : at + length (f known.sheet known.rule) ≤ room

pub record PutsAgain (f : Sheet → Rule → Bytes) (st : Counts) (w0 w1 : List ℕ) (r at : ℕ) (before after : List ℕ) (out now : Bytes) (n : ℕ) : Type 0 where
  pub is : (s : Sheet) (x : Rule) (t : Ty) → TypedRule st w0 w1 r s x t → Puts at (f s x) out now n
  pub size : length now ≡ length out
  pub kept : Kept before after

-- ---- the rules that t names

abbrev pub told_lines : (ℕ → Bool) → ℕ → Sheet → Rule → Bytes
told_lines t r s x = if t r then all_lines r s x else []

abbrev pub told_steps : (ℕ → Bool) → ℕ → Sheet → Rule → ℕ
told_steps t r s x = if t r then all_steps s x else 0

-- the lines of rule r
abbrev pub lines_at : Sheet → ℕ → Bytes
lines_at s r = get_or (verdicts_from s 0 s.rules) r []

-- of n rules
pub record FreshTo (n : ℕ) (st : Counts) (w0 w1 : List ℕ) (touched : ℕ) (steps : Sheet → ℕ → ℕ) (before after : List ℕ) (buf now : Bytes) (was ends : List ℕ) (sums : Sums) : Type 0 where
  pub is : (s : Sheet) (ts : List Ty) → Accepted st w0 w1 s ts → Buffers now (joined (arriving (bit touched) (lines_at s)) n) sums.bytes
  pub ended : (s : Sheet) (ts : List Ty) → Accepted st w0 w1 s ts → EndsAt ends (arriving (bit touched) (lines_at s)) n
  pub added : (s : Sheet) (ts : List Ty) → Accepted st w0 w1 s ts → (a : ℕ) → Touches touched s a → sums.steps ≡ steps s a
  pub size : length now ≡ length buf
  pub ends_size : length ends ≡ length was
  pub kept : Kept before after

-- of all
abbrev pub FreshAll : Counts → List ℕ → List ℕ → ℕ → List ℕ → List ℕ → Bytes → Bytes → List ℕ → List ℕ → Sums → Type 0
FreshAll st w0 w1 touched = FreshTo st.rules st w0 w1 touched (λ s a. renewed_steps s a s.rules)
