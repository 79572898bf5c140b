-- What a line's code asks for and promises, and the same for a line that is spelled well already.
use Rattle.std.specs.Prelude.{◌≡◌, true, List, [], ℕ, min, get_or, Result}
use Prim.Native.String.{String}
use Rattle.sheet.specs.Text.{Bytes, bytes, fields_of}
use Rattle.ocl.specs.Types.{Ty}
use Rattle.sheet.specs.Lines.{Line, definition_line, is}
use Rattle.sheet.specs.Sheet.{Sheet}
use Rattle.sheet.specs.Reading.{step_line}
use Rattle.text.specs.Parts.{Cut}
use Rattle.text.specs.declared.parts.Fields.{Fields}
use Rattle.tables.specs.declared.Counts.{Counts}
use Rattle.tables.specs.Layout.{Holds, Moved, Kept}
use Rattle.memory.specs.declared.refusals.Refusal.{Refusal}

-- the line was cut, and its first field is this letter
pub record Lettered (letter : String) (line : Bytes) (f : Fields) : Type 0 where
  pub cut : Cut line f
  pub is_letter : is (get_or (fields_of line) 0 []) (bytes letter) ≡ true

-- line k, which is spelled as l, taken at st: the words were w0 and w1 and are v0 and v1
pub record TookSpelled (st : Counts) (k : ℕ) (l : Line) (r : Result Counts Refusal) (w0 w1 v0 v1 : List ℕ) : Type 0 where
  pub is : (s : Sheet) → Holds st w0 w1 s → Moved v0 v1 r (step_line s k l)
  pub kept0 : Kept w0 v0
  pub kept1 : Kept w1 v1

-- a D line with these numbers, read as a million at most: no word changes
pub record TookDefinition (st : Counts) (n c : ℕ) (t : Ty) (r : Result Counts Refusal) : Type 0 where
  pub is : (w0 w1 : List ℕ) (k i j : ℕ) → n ≡ min i 1000000 → c ≡ min j 1000000 → TookSpelled st k (definition_line i j t) r w0 w1 w0 w1
