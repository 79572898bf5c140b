-- Document 02, F-12: what is proved of a sheet with its objects numbered anew, from the bytes, over what the calls answer.
use Rattle.std.specs.Prelude.{◌≡◌, ◌≢◌, List, [], ℕ, ◌≤◌, length}
use Rattle.laws.specs.Choice.{map_some}
use Rattle.ocl.specs.Values.{Value}
use Rattle.ocl.specs.Operations.{Stop}
use Rattle.sheet.specs.Sizes.{most_bytes}
use Rattle.sheet.specs.Text.{Bytes, bytes}
use Rattle.sheet.specs.Spelling.{spell_value}
use Rattle.sheet.specs.Reading.{sheet_in}
use Rattle.sheet.specs.Calls.{Verdict, refusal_at, read_call, evaluate_call}
use Rattle.sheet.specs.Profile.{profile_call}
use Rattle.sheet.specs.ProfileLaws.{nodes_outside}
use Rattle.sheet.specs.Soundness.{Lent}
use Rattle.profile.specs.Renumbering.{Permutation, renumbered}
use Rattle.profile.specs.RenumberedLines.{lines_in, renumbered_lines}

-- the text spells the lines of another one with its objects numbered anew
abbrev pub Renumbers : (ℕ → ℕ) → (ℕ → ℕ) → Bytes → Bytes → Type 0
Renumbers to back text other = lines_in other ≡ map_some (renumbered_lines to back) (lines_in text)

-- ---- what evaluate answers

-- a value and its image, undefined twice, or one refusal (14, 15); the steps of answers may differ
pub data SameValue (to : ℕ → ℕ) : Verdict → Verdict → Type 0 where
  value_twice : {n m : ℕ} (v : Value) → SameValue to (record { number = 0; steps = n; place = 0; output = spell_value v })
      (record { number = 0; steps = m; place = 0; output = spell_value (renumbered to v) })
  undefined_twice : {n m : ℕ} → SameValue to (record { number = 0; steps = n; place = 0; output = bytes "u" })
      (record { number = 0; steps = m; place = 0; output = bytes "u" })
  refused_twice : (n k : ℕ) → SameValue to (refusal_at n k) (refusal_at n k)

-- the evaluation does not end in a stop
abbrev pub NoStop : Verdict → Type 0
NoStop v = (c : ℕ) → Stop c → v.number ≢ c

pub record FreeNumbering (text other : Bytes) (w0 w1 w2 : List ℕ) (out : Bytes) (v0 v1 v2 : List ℕ) (put : Bytes) (to : ℕ → ℕ) : Type 0 where
  -- "the new sheet is accepted too", with the same types, and as far as the first one it is in the profile
  pub accepted_too : read_call other v0 v1 v2 put ≡ read_call text w0 w1 w2 out
  pub profiled_too : profile_call other v0 v1 v2 put ≡ profile_call text w0 w1 w2 out
  -- "For a rule in the profile": where "neither evaluation ends in a stop, the values for an object and its image agree"
  pub same_values : (r : ℕ) → nodes_outside text r ≡ [] → (o : ℕ)
      → NoStop (evaluate_call text r o w0 w1 w2 out) → NoStop (evaluate_call other r (to o) v0 v1 v2 put)
      → SameValue to (evaluate_call text r o w0 w1 w2 out) (evaluate_call other r (to o) v0 v1 v2 put)

-- a text is accepted, and another one numbers its objects anew and "keeps the byte limit"; whatever each call is lent
abbrev pub FreeNumberingLaw : Type 0
FreeNumberingLaw =
    (text : Bytes) (w0 w1 w2 : List ℕ) (out : Bytes) → Lent w0 w1 w2 out → (read_call text w0 w1 w2 out).number ≡ 0
    → (p : Permutation (length (sheet_in text).objects))
    → (other : Bytes) (v0 v1 v2 : List ℕ) (put : Bytes) → Lent v0 v1 v2 put
    → Renumbers p.to p.back text other → length other ≤ most_bytes
    → FreeNumbering text other w0 w1 w2 out v0 v1 v2 put p.to

-- and such a text there is
abbrev pub NewTextLaw : Type 0
NewTextLaw =
    (text : Bytes) (w0 w1 w2 : List ℕ) (out : Bytes) → Lent w0 w1 w2 out → (read_call text w0 w1 w2 out).number ≡ 0
    → (to back : ℕ → ℕ) → (other : Bytes) × Renumbers to back text other
