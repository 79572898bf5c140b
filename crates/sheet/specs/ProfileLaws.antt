-- Document 02, F-12: what is proved of the call that holds a sheet to the free-numbering profile, the statements.
use Rattle.std.specs.Prelude.{◌≡◌, ◌≢◌, List, [], ℕ, ◌≤◌, length, get_or, T}
use Rattle.std.proofs.Math.Option.{Option, none, some}
use Rattle.std.proofs.Math.ListN.{get_elem?}
use Rattle.laws.specs.Lists.{member}
use Rattle.ocl.specs.Profile.{outside_rule}
use Rattle.sheet.specs.Text.{Bytes}
use Rattle.sheet.specs.Sheet.{Rule, Sheet, schema_in}
use Rattle.sheet.specs.Reading.{sheet_in}
use Rattle.sheet.specs.Calls.{refusal_at, read_call}
use Rattle.sheet.specs.Soundness.{Lent}
use Rattle.sheet.specs.Profile.{profile_call}

-- a rule's nodes outside the profile; where there is no such rule, none
unfoldable pub outside_on : Sheet → Option Rule → List ℕ
outside_on s none = []
outside_on s (some x) = outside_rule (schema_in s) x.context x.body

unfoldable pub nodes_outside : Bytes → ℕ → List ℕ
nodes_outside text r = outside_on (sheet_in text) (get_elem? (sheet_in text).rules r)

-- k is the line of a node outside
pub record OutsideAt (text : Bytes) (k : ℕ) : Type 0 where
  pub rule : ℕ
  pub node : ℕ
  pub outside : T (member node (nodes_outside text rule))
  pub line : get_or (sheet_in text).lines node 0 ≡ k

pub record ProfileCall (text : Bytes) (w0 w1 w2 : List ℕ) (out : Bytes) : Type 0 where
  -- what reading refuses comes first
  pub read_first : (read_call text w0 w1 w2 out).number ≢ 0 → profile_call text w0 w1 w2 out ≡ read_call text w0 w1 w2 out
  -- with no node outside the answer is reading's
  pub within : ((r : ℕ) → nodes_outside text r ≡ []) → profile_call text w0 w1 w2 out ≡ read_call text w0 w1 w2 out
  -- with one it is 22, at the line of such a node, and no other has a lower line
  pub outside : (read_call text w0 w1 w2 out).number ≡ 0 → (r q : ℕ) → T (member q (nodes_outside text r))
      → (profile_call text w0 w1 w2 out ≡ refusal_at 22 (profile_call text w0 w1 w2 out).place)
      × OutsideAt text (profile_call text w0 w1 w2 out).place
      × ((profile_call text w0 w1 w2 out).place ≤ get_or (sheet_in text).lines q 0)
  -- so an answer says that every rule is in the profile
  pub answered : (profile_call text w0 w1 w2 out).number ≡ 0 → (r : ℕ) → nodes_outside text r ≡ []

abbrev pub ProfileCallLaw : Type 0
ProfileCallLaw = (text : Bytes) (w0 w1 w2 : List ℕ) (out : Bytes) → Lent w0 w1 w2 out → ProfileCall text w0 w1 w2 out

-- what it writes is what reading writes, or nothing
abbrev pub ProfileLength : Type 0
ProfileLength = (text : Bytes) (w0 w1 w2 : List ℕ) (out : Bytes) → length (profile_call text w0 w1 w2 out).output ≤ 896
