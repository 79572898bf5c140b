-- The types that wait in w2, written one a line.
use Rattle.std.specs.Prelude.{◌≡◌, List, ℕ, ◌≤◌, length}
use Rattle.ocl.specs.Types.{Ty}
use Rattle.sheet.specs.Sizes.{most_rules}
use Rattle.sheet.specs.Text.{Bytes}
use Rattle.sheet.specs.Sheet.{Sheet}
use Rattle.sheet.specs.Calls.{Verdict, answer, type_lines}
use Rattle.sheet.specs.Profile.{first_outside, on_profile}
use Rattle.text.specs.Written.{Puts}
use Rattle.rules.specs.Accepted.{TypesIn}

-- n types do, and their lines are short (`ReadLength`, sheet/specs/Laws.antt)
pub record Waiting (w2 : List ℕ) (n : ℕ) : Type 0 where
  pub types : List Ty
  pub waiting : TypesIn w2 types
  pub count : length types ≡ n
  pub few : n ≤ most_rules
  pub short : length (type_lines types) ≤ 896

-- whichever n types do, their lines are put at the front of the output, and end at r
pub record PutsTypes (w2 : List ℕ) (n : ℕ) (before after : Bytes) (r : ℕ) : Type 0 where
  pub is : (ts : List Ty) → TypesIn w2 ts → length ts ≡ n → Puts 0 (type_lines ts) before after r

-- the lines, for a sheet that is held to the free-numbering profile; else 22
abbrev pub profiled : Sheet → List Ty → Verdict
profiled s ts = on_profile (first_outside s) (answer (type_lines ts))
