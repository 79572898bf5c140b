-- The rules that were resolved to a row, as the bits of a word: "Exactly the rules that were resolved to the edited row are evaluated again".
use Rattle.std.specs.Prelude.{◌≡◌, Bool, ◌&&◌, ◌||◌, List, ℕ, eqb}
use Rattle.std.proofs.Math.Option.{some}
use Rattle.std.proofs.Math.ListN.{get_elem?}
use Rattle.laws.specs.Lists.{member}
use Rattle.ocl.specs.Types.{Ty}
use Rattle.sheet.specs.Sheet.{Rule, Sheet}
use Rattle.sheet.specs.Rows.{rows_seen}
use Rattle.tables.specs.declared.Counts.{Counts}
use Rattle.rules.specs.Accepted.{Accepted}
use Rattle.rows.specs.Bits.{bit}
use Rattle.rows.specs.Seen.{AllSeen}

pub record Touches (touched : ℕ) (s : Sheet) (a : ℕ) : Type 0 where
  pub at : (r : ℕ) (x : Rule) → get_elem? s.rules r ≡ some x → bit touched r ≡ member a (rows_seen s x)

-- the rows of each node are in w2
pub record TellsTouched (st : Counts) (w0 w2 : List ℕ) (a touched : ℕ) : Type 0 where
  pub is : (w1 : List ℕ) → AllSeen w1 w2 → (s : Sheet) (ts : List Ty) → Accepted st w0 w1 s ts → Touches touched s a

-- bit i is set where `on` is
pub record SetsBit (word i : ℕ) (on : Bool) (r : ℕ) : Type 0 where
  pub at : (k : ℕ) → bit r k ≡ bit word k || (on && eqb k i)
