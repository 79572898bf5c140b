-- What the reader's code promises: where it goes on, the words hold what the definition has read; where it refuses, so does the
-- definition, with the same number and line.
use Rattle.std.specs.Prelude.{Bool, ◌||◌, List, [], ◌∷◌, ℕ, suc, eqb, Result, Ok, Err}
use Rattle.memory.specs.Lines as lines
use Rattle.sheet.specs.Text.{Bytes, lines_of, fields_of}
use Rattle.sheet.specs.Sheet.{Sheet, empty}
use Rattle.sheet.proofs.Good.{Good}
use Rattle.sheet.specs.Reading.{Reading, accepted, rejected, step, on_step, closing, read_lines}
use Rattle.tables.specs.declared.Counts.{Counts}
use Rattle.tables.specs.Layout.{Holds, Fine, Kept, Moved}
use Rattle.memory.specs.Refusals.{at, number}
use Rattle.memory.specs.declared.refusals.Refusal.{Refusal}
use Rattle.memory.specs.declared.refusals.Refused.{Refused}

-- the words hold a sheet, which is as lines leave it
pub record HeldSheet (st : Counts) (w0 w1 : List ℕ) : Type 0 where
  pub sheet : Sheet
  pub holds : Holds st w0 w1 sheet
  pub fine : Fine st
  pub good : Good sheet

-- the kinds of `N` and `X`
unfoldable pub body_kind : ℕ → Bool
body_kind k = eqb k lines.node_line || eqb k lines.text_line

-- a step with its line, where it refuses
abbrev pub placed_at : Result Counts Refusal → ℕ → Result Counts Refused
placed_at (Ok st) k = Ok st
placed_at (Err e) k = Err (at e k)

-- a line: it goes on with f, or refuses
pub data GoesOn (v0 v1 : List ℕ) (f : Sheet → Reading) : Result Counts Refused → Reading → Type 0 where
  goes_on : {st : Counts} {s : Sheet} → Fine st → Holds st v0 v1 s → Good s → GoesOn v0 v1 f (Ok st) (f s)
  refuses : {e : Refusal} {k : ℕ} → GoesOn v0 v1 f (Err (at e k)) (rejected (number e) k)

-- line k by itself
pub record TookLine (st : Counts) (k : ℕ) (line : Bytes) (r : Result Counts Refusal) (w0 w1 v0 v1 : List ℕ) : Type 0 where
  pub is : (s : Sheet) → Holds st w0 w1 s → Good s → Moved v0 v1 r (step s k (fields_of line))
  pub kept0 : Kept w0 v0
  pub kept1 : Kept w1 v1

-- the line after k others, and the end of an open definition or rule before it
pub record TookWhole (st : Counts) (k : ℕ) (line : Bytes) (r : Result Counts Refused) (w0 w1 w2 v0 v1 v2 : List ℕ) : Type 0 where
  pub is : (s : Sheet) → Holds st w0 w1 s → Good s → (f : Sheet → Reading)
      → GoesOn v0 v1 f r (closing s k (fields_of line) (λ t. on_step (step t (suc k) (fields_of line)) (suc k) f))
  pub kept0 : Kept w0 v0
  pub kept1 : Kept w1 v1
  pub kept2 : Kept w2 v2

-- a whole text: a sheet, or a refusal
pub data EndsAs (v0 v1 : List ℕ) : Result Counts Refused → Reading → Type 0 where
  a_sheet : {st : Counts} {s : Sheet} → Fine st → Holds st v0 v1 s → EndsAs v0 v1 (Ok st) (accepted s)
  a_refusal : {e : Refusal} {k : ℕ} → EndsAs v0 v1 (Err (at e k)) (rejected (number e) k)

-- the text's last part, after k lines
pub record TookLast (st : Counts) (k : ℕ) (part : Bytes) (r : Result Counts Refused) (w0 w1 v0 v1 : List ℕ) : Type 0 where
  pub is : (s : Sheet) → Holds st w0 w1 s → EndsAs v0 v1 r (read_lines s k (part ∷ []))
  pub kept0 : Kept w0 v0
  pub kept1 : Kept w1 v1

-- the text from its first line on
pub record ReadsTo (text : Bytes) (r : Result Counts Refused) (w0 w1 w2 v0 v1 v2 : List ℕ) : Type 0 where
  pub is : EndsAs v0 v1 r (read_lines empty 0 (lines_of text))
  pub kept0 : Kept w0 v0
  pub kept1 : Kept w1 v1
  pub kept2 : Kept w2 v2
