-- How long the lines of an accepted sheet can be, by its rules' types and the objects of their classes: the report's, or those that say where
-- undefined came from.
use Rattle.std.specs.Prelude.{◌≡◌, Bool, List, [], ◌∷◌, ℕ, zero, suc, ◌+◌, ◌*◌, ◌≤◌, length}
use Rattle.std.specs.Prelude.{if◌then◌else◌}
use Rattle.ocl.specs.Types.{class, Ty}
use Rattle.ocl.specs.Model.{Model, is_a}
use Rattle.sheet.specs.Sizes.{most_objects}
use Rattle.sheet.specs.Sheet.{Rule, Sheet, model_of}
use Rattle.tables.specs.declared.Counts.{Counts}
use Rattle.tables.specs.Stored.{HoldsModel}
use Rattle.rules.specs.Accepted.{Accepted, TypesIn}
use Rattle.rules.specs.Width.{width}

-- ---- objects of a class

-- how many of the first n objects are of class c or below
unfoldable pub objects_of : Model → ℕ → ℕ → ℕ
objects_of m c zero = 0
objects_of m c (suc n) = objects_of m c n + (if is_a m n (class c) then 1 else 0)

pub record CountsObjects (st : Counts) (w0 : List ℕ) (c n : ℕ) : Type 0 where
  pub is : (m : Model) → HoldsModel st w0 m → n ≡ objects_of m c st.objects
  pub few : n ≤ most_objects

-- ---- how many bytes lines can take (proofs/PassLaws.antt: they take no more)

-- two for the rule, two for the object, seven for the steps, four between and after them, and the outcome; or five for a line of the sheet
unfoldable pub line_width : Bool → Ty → ℕ
line_width origins t = if origins then 20 else 15 + width t

-- n is the bound of the lines of a rule with context c and type t
pub record BoundsLines (origins : Bool) (st : Counts) (w0 : List ℕ) (c : ℕ) (t : Ty) (n : ℕ) : Type 0 where
  pub is : (m : Model) → HoldsModel st w0 m → n ≡ objects_of m c st.objects * line_width origins t
  pub few : n ≤ 222624

-- the lines of a rule of type t for the first n objects
unfoldable pub lines_bound : Bool → Sheet → Rule → Ty → ℕ → ℕ
lines_bound origins s x t n = objects_of (model_of s) x.context n * line_width origins t

-- the lines of these rules, of these types
unfoldable pub rules_bound : Bool → Sheet → List Rule → List Ty → ℕ
rules_bound origins s [] ts = 0
rules_bound origins s (x ∷ xs) [] = 0
rules_bound origins s (x ∷ xs) (t ∷ ts) = lines_bound origins s x t (length s.objects) + rules_bound origins s xs ts

-- n is that bound of an accepted sheet: at most 64 rules for 96 objects with lines of 2,319 bytes
pub record BoundsAll (origins : Bool) (st : Counts) (w0 w2 : List ℕ) (n : ℕ) : Type 0 where
  pub is : (w1 : List ℕ) (s : Sheet) (ts : List Ty) → Accepted st w0 w1 s ts → TypesIn w2 ts → n ≡ rules_bound origins s s.rules ts
  pub few : n ≤ 14247936
