-- What the contracts of `collect` say: of every model that the words hold, and all members that lie there.
use Rattle.std.specs.Prelude.{◌≡◌, List, ℕ, ◌+◌, ◌≤◌, ◌<◌, max}
use Rattle.std.proofs.Math.Option.{Option, none, some}
use Rattle.std.proofs.Math.Seq.{slice}
use Rattle.std.specs.Prelude.{if◌then◌else◌}
use Rattle.ocl.specs.Values.{Value, Values, nil, cons, sizes}
use Rattle.ocl.specs.Model.{Model}
use Rattle.ocl.specs.Operations.{has_row, value_in_row, values_in_row}
use Rattle.ocl.specs.Forms.{most_members}
use Rattle.values.specs.Cells.{head, encs, Fits, AllFit}
use Rattle.tables.specs.declared.Counts.{Counts}
use Rattle.tables.specs.Stored.{HoldsModel}
use Rattle.outcomes.specs.declared.Ended.{Ended}
use Rattle.outcomes.specs.declared.Ended.TheVariants as ended
use Rattle.outcomes.specs.Answers.{Under}
use Rattle.outcomes.specs.Tables.{Plain}

unfoldable pub if_none : Option Value → ℕ
if_none none = 1
if_none (some v) = 0

-- how a value stands to row i: 0 if it has a value there, 1 if it has none, 2 if it is no object of the row's class or below
unfoldable pub standing : Model → ℕ → Value → ℕ
standing m i v = if has_row m i v then if_none (value_in_row m i v) else 2

-- the member that stands worst
unfoldable pub worst : Model → ℕ → Values → ℕ
worst m i nil = 0
worst m i (cons v vs) = max (standing m i v) (worst m i vs)

pub record StandingOf (st : Counts) (w0 : List ℕ) (i cell r : ℕ) : Type 0 where
  pub is : (m : Model) → HoldsModel st w0 m → Plain st m → (v : Value) → Fits v → cell ≡ head v → r ≡ standing m i v

pub record WorstOf (st : Counts) (w0 : List ℕ) (i from end : ℕ) (S : List ℕ) (r : ℕ) : Type 0 where
  pub is : (m : Model) → HoldsModel st w0 m → Plain st m → (vs : Values) → AllFit vs → slice from end S ≡ encs vs → r ≡ worst m i vs

-- the values stand from `end` on, or are too many for a collection
pub data Brought (end s : ℕ) (A : List ℕ) (ws : Values) : Ended → Type 0 where
  brought : {n : ℕ} → n ≡ sizes ws → AllFit ws → slice end (end + n) A ≡ encs ws → Brought end s A ws (ended.Value n s)
  too_many : most_members < sizes ws → Brought end s A ws (ended.Stop 17 s)

-- whatever the words stand for, the values have at most 127 cells together
abbrev pub FewCells : Ended → Type 0
FewCells (ended.Value n s) = n ≤ most_members
FewCells (ended.Undef s) = Unit {0}
FewCells ended.Stuck = Unit {0}
FewCells (ended.Stop c s) = Unit {0}

-- the values of row i for members that have one
pub record BringsAll (st : Counts) (w0 : List ℕ) (i from end s : ℕ) (B A : List ℕ) (r : Ended) : Type 0 where
  pub few : FewCells r
  pub is : (m : Model) → HoldsModel st w0 m → Plain st m → (vs ws : Values) → AllFit vs → slice from end B ≡ encs vs → worst m i vs ≡ 0
      → values_in_row m i vs ≡ some ws → Under end A B × Brought end s A ws r
