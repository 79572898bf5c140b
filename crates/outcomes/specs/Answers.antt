-- An outcome of the definition and the code's answer for it: a value's cells lie at sp, above words that are as they were.
use Rattle.std.specs.Prelude.{◌≡◌, List, ℕ, ◌+◌, ◌≤◌, ◌<◌, take, Option as Optional, Some, None}
use Rattle.std.proofs.Math.Seq.{slice}
use Rattle.ocl.specs.Values.{Value, bool, num, obj, coll, size, sort, largest}
use Rattle.ocl.specs.Operations.{Outcome, value, undefined, stuck, stop}
use Rattle.values.specs.Cells.{bit, head, enc, Fits}
use Rattle.values.specs.Meanings.{Means}
use Rattle.values.specs.declared.Simple.{Simple}
use Rattle.outcomes.specs.declared.Ended.{Ended}
use Rattle.outcomes.specs.declared.Ended.TheVariants as ended

-- the value v is the len cells at p
pub record Lies (v : Value) (p len : ℕ) (S : List ℕ) : Type 0 where
  pub fits : Fits v
  pub long : len ≡ size v
  pub cells : slice p (p + len) S ≡ enc v

-- the answer for an outcome
pub data Ends (sp : ℕ) (A : List ℕ) : Outcome → Ended → Type 0 where
  ends_value : {v : Value} {len s : ℕ} → Lies v sp len A → len ≤ largest → Ends sp A (value v s) (ended.Value len s)
  ends_undefined : {s : ℕ} → Ends sp A (undefined s) (ended.Undef s)
  ends_stuck : Ends sp A stuck ended.Stuck
  ends_stop : {c s : ℕ} → Ends sp A (stop c s) (ended.Stop c s)

-- the words below sp are the same
pub record Under (sp : ℕ) (A B : List ℕ) : Type 0 where
  pub same : take sp A ≡ take sp B

-- the words were B and are A
pub record Ran (o : Outcome) (sp : ℕ) (B A : List ℕ) (r : Ended) : Type 0 where
  pub kept : Under sp A B
  pub ends : Ends sp A o r

-- whatever the words stand for, an answer has between 1 and 128 cells
abbrev pub SmallAnswer : Ended → Type 0
SmallAnswer (ended.Value len s) = (1 ≤ len) × (len ≤ largest)
SmallAnswer (ended.Undef s) = Unit {0}
SmallAnswer ended.Stuck = Unit {0}
SmallAnswer (ended.Stop c s) = Unit {0}

-- the cell of a simple value is put down
pub record GivesCell (c sp s : ℕ) (B A : List ℕ) (r : Ended) : Type 0 where
  pub small : SmallAnswer r
  pub is : (v : Value) → Fits v → sort v < 3 → c ≡ head v → Ran (value v s) sp B A r

-- a simple value is put down
pub record Gives (x : Simple) (sp s : ℕ) (B A : List ℕ) (r : Ended) : Type 0 where
  pub small : SmallAnswer r
  pub is : (v : Value) → Fits v → Means x v → Ran (value v s) sp B A r

-- what was formed, with the steps
abbrev pub formed_as : Optional ℕ → ℕ → Ended
formed_as (Some len) s = ended.Value len s
formed_as None s = ended.Stop 17 s

-- 0 for false, 1 for true, 2 for any other value
unfoldable pub truth_of : Value → ℕ
truth_of (bool b) = bit b
truth_of (num x) = 2
truth_of (obj o) = 2
truth_of (coll k vs) = 2

pub record Truth (cell r : ℕ) : Type 0 where
  pub is : (v : Value) → Fits v → cell ≡ head v → r ≡ truth_of v
