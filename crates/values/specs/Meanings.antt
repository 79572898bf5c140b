-- What the contracts say. A value lies from a to b if the cells there are its own. Each promise holds for every value that lies
-- there; what is formed lies at sp, and the cells below sp stay as they were.
use Rattle.std.specs.Prelude.{◌≡◌, Bool, true, false, List, ◌∷◌, ◌++◌, ℕ, suc, ◌+◌, ◌-◌, ◌<◌, ◌≤◌, length, get_or, take, drop, T, leb, ℤ, Float, Option as Optional, Some, None, Result, Ok, Err}
use Rattle.std.proofs.Math.Seq.{slice}
use Rattle.std.specs.Float.Ieee.Scale.{finite}
use Rattle.std.specs.Prelude.{if◌then◌else◌}
use Rattle.laws.specs.Integers.{stored_end}
use Rattle.ocl.specs.Types.{Kind, set, bag, kind_code}
use Rattle.ocl.specs.Values.{Value, bool, num, obj, coll, Values, nil, count, size, sort, same, has, insert, append, add, add_all, largest}
use Rattle.ocl.specs.Operations.{is_int}
use Rattle.reals.specs.Reals.{Real, int, real}
use Rattle.reals.specs.Floats.{f64_of}
use Rattle.values.specs.Cells.{bias, payload, head, enc, encs, Fits, AllFit, past, sort_span, cells_top}
use Rattle.values.specs.declared.Simple.{Simple}
use Rattle.values.specs.declared.Simple.TheVariants as simple

-- ---- single cells

-- the sort of the value with this first cell
pub record SortOf (cell r : ℕ) : Type 0 where
  pub is : (v : Value) → Fits v → cell ≡ head v → r ≡ sort v

-- its payload, where it is no number
pub record PayloadOf (cell r : ℕ) : Type 0 where
  pub small : r < sort_span
  pub is : (v : Value) → Fits v → (sort v ≡ 1 → ⊥) → cell ≡ head v → r ≡ payload v

-- is it an Integer
pub record IntegerTest (cell : ℕ) (r : Bool) : Type 0 where
  pub is : (v : Value) → Fits v → cell ≡ head v → r ≡ is_int v

-- which values a simple value of the code stands for; an Integer is held with its bias, a Real as the f64 with its bits
pub data Means : Simple → Value → Type 0 where
  means_bool : {b : Bool} → Means (simple.Bool b) (bool b)
  means_int : {n : ℕ} {z : ℤ} → n ≡ bias z → Means (simple.Integer n) (num (int z))
  means_real : {x : Float} {r : Real} → x ≡ f64_of r → Means (simple.Real x) (num (real r))
  means_obj : {n : ℕ} → Means (simple.Object n) (obj n)

-- it fits into a cell, whatever it stands for
abbrev pub Narrow : Simple → Type 0
Narrow (simple.Bool b) = Unit {0}
Narrow (simple.Integer n) = n < stored_end
Narrow (simple.Real x) = T (finite x)
Narrow (simple.Object n) = n < sort_span

-- the simple value with this cell
pub record SimpleOf (cell : ℕ) (r : Simple) : Type 0 where
  pub narrow : Narrow r
  pub is : (v : Value) → Fits v → sort v < 3 → cell ≡ head v → Means r v

-- and its cell
pub record CellOf (s : Simple) (r : ℕ) : Type 0 where
  pub is : (v : Value) → Fits v → Means s v → r ≡ head v

-- the simple value at sp
pub record Pushes (s : Simple) (sp : ℕ) (before after : List ℕ) : Type 0 where
  pub low : take sp after ≡ take sp before
  pub lies : (v : Value) → Fits v → Means s v → take (sp + 1) after ≡ take sp before ++ enc v

-- the first cell of an empty collection
pub record EmptyOf (kind r : ℕ) : Type 0 where
  pub is : (k : Kind) → kind ≡ kind_code k → r ≡ head (coll k nil)

-- ---- reading

-- r is the place after the value at p
pub record Skips (p limit : ℕ) (S : List ℕ) (r : ℕ) : Type 0 where
  pub is : r ≡ p + past (slice p limit S) 1
  pub within : r ≤ limit
  pub up : p < limit → p < r

-- are the values of n cells at p and of m cells at q the same
pub record SameAt (S : List ℕ) (p n q m : ℕ) (r : Bool) : Type 0 where
  pub is : (v w : Value) → Fits v → Fits w → slice p (p + n) S ≡ enc v → slice q (q + m) S ≡ enc w → r ≡ same v w

-- is the value of le cells at end among the members from `from` to end
pub record HasAt (S : List ℕ) (from end le : ℕ) (r : Bool) : Type 0 where
  pub is : (v : Value) (vs : Values) → Fits v → AllFit vs → slice from end S ≡ encs vs → slice end (end + le) S ≡ enc v → r ≡ has v vs

-- v goes in at the place `at`, among the members vs, which lie from `from` on
pub record Into (repeats : Bool) (v : Value) (vs : Values) (from at : ℕ) : Type 0 where
  pub x : List ℕ
  pub y : List ℕ
  pub cut : encs vs ≡ x ++ y
  pub place : at ≡ from + length x
  pub cells : encs (insert repeats v vs) ≡ x ++ (enc v ++ y)
  pub one : count (insert repeats v vs) ≡ suc (count vs)

-- at a member that is the same, or at a place where it is new
abbrev pub SpotIs : Value → Values → ℕ → Result ℕ ℕ → Type 0
SpotIs v vs from (Ok at) = Into true v vs from at × (insert false v vs ≡ vs)
SpotIs v vs from (Err at) = (repeats : Bool) → Into repeats v vs from at

abbrev pub place : Result ℕ ℕ → ℕ
place (Ok at) = at
place (Err at) = at

pub record Finds (S : List ℕ) (from end le : ℕ) (r : Result ℕ ℕ) : Type 0 where
  pub up : from ≤ place r
  pub within : place r ≤ end
  pub is : (v : Value) (vs : Values) → Fits v → AllFit vs → slice from end S ≡ encs vs → slice end (end + le) S ≡ enc v → SpotIs v vs from r

-- ---- forming

-- what was formed has between 1 and 128 cells
abbrev pub SmallForm : Optional ℕ → Type 0
SmallForm (Some n) = (1 ≤ n) × (n ≤ largest)
SmallForm None = Unit {0}

-- the value w is formed at sp: Over exactly when its size is over 128, else its cells lie there
pub record Forms (w : Value) (sp : ℕ) (low after : List ℕ) (r : Optional ℕ) : Type 0 where
  pub below : take sp after ≡ low
  pub is : r ≡ (if leb (size w) largest then Some (size w) else None)
  pub lies : size w ≤ largest → take (sp + size w) after ≡ low ++ enc w
  pub fits : size w ≤ largest → Fits w

-- the le cells at mid go in at `at`, and the first cell at sp counts one more
pub record PutsIn (sp at mid le : ℕ) (before after : List ℕ) (r : Optional ℕ) : Type 0 where
  pub small : SmallForm r
  pub low : take sp after ≡ take sp before
  pub over : largest < mid - sp + le → r ≡ None
  pub done : mid - sp + le ≤ largest → get_or before sp 0 < cells_top → r ≡ Some (mid - sp + le)
  pub lies : mid - sp + le ≤ largest → get_or before sp 0 < cells_top
      → take (sp + (mid - sp + le)) after
      ≡ take sp before ++ ((get_or before sp 0 + 1) ∷ (slice (sp + 1) at before ++ (slice mid (mid + le) before ++ slice at mid before)))

-- the value from mid on is added to the collection from sp to mid
pub record Adds (sp mid le : ℕ) (before after : List ℕ) (r : Optional ℕ) : Type 0 where
  pub small : SmallForm r
  pub low : take sp after ≡ take sp before
  pub is : (k : Kind) (vs : Values) (v : Value) → Fits (coll k vs) → Fits v
      → slice sp mid before ≡ enc (coll k vs) → slice mid (mid + le) before ≡ enc v
      → Forms (coll k (add k v vs)) sp (take sp before) after r

-- the simple value is put at the end of the collection from sp to mid, whatever its kind
pub record Appends (s : Simple) (sp mid : ℕ) (before after : List ℕ) (r : Optional ℕ) : Type 0 where
  pub small : SmallForm r
  pub low : take sp after ≡ take sp before
  pub is : (k : Kind) (vs : Values) (v : Value) → Fits (coll k vs) → Fits v → Means s v → slice sp mid before ≡ enc (coll k vs)
      → Forms (coll k (append v vs)) sp (take sp before) after r

-- the members from `from` to end are added to the collection of len cells at top
pub record Gathers (from end top len : ℕ) (before after : List ℕ) (r : Optional ℕ) : Type 0 where
  pub small : SmallForm r
  pub low : take top after ≡ take top before
  pub is : (k : Kind) (us vs : Values) → Fits (coll k us) → AllFit vs
      → slice top (top + len) before ≡ enc (coll k us) → slice from end before ≡ encs vs
      → Forms (coll k (add_all k vs us)) top (take top before) after r

-- what was formed at `from` is moved down to sp
pub record Moves (sp from : ℕ) (f : Optional ℕ) (before after : List ℕ) (r : Optional ℕ) : Type 0 where
  pub same : r ≡ f
  pub low : take sp after ≡ take sp before
  pub lies : (n : ℕ) → f ≡ Some n → take (sp + n) after ≡ take sp before ++ slice from (from + n) before

-- the kinds whose members ascend: by how much each is above the one before it, at least
pub data Apart : Kind → ℕ → Type 0 where
  apart_set : Apart set 1
  apart_bag : Apart bag 0

-- the cell `first` at top, then those from top + 1 to w and those from i to mid; nothing where r is 0
pub record Finishes (first i mid w top : ℕ) (before after : List ℕ) (r : ℕ) : Type 0 where
  pub small : r ≤ largest
  pub low : take top after ≡ take top before
  pub size_is : 0 < r → r ≡ w - top + (mid - i)
  pub lies : 0 < r → take (top + r) after ≡ take top before ++ (first ∷ (slice (top + 1) w before ++ slice i mid before))

-- the members from `start` to top are added to those from `from` to mid, whose collection has the first cell h; nothing is
-- said where r is 0
pub record Merges (h from mid start top : ℕ) (before after : List ℕ) (r : ℕ) : Type 0 where
  pub small : r ≤ largest
  pub low : take top after ≡ take top before
  pub is : 0 < r → (k : Kind) (us vs : Values) → h ≡ head (coll k us) → Fits (coll k us) → AllFit vs
      → slice from mid before ≡ encs us → slice start top before ≡ encs vs
      → Forms (coll k (add_all k vs us)) top (take top before) after (Some r)

-- the same for the kinds with this distance
pub record MergesBy (apart h from mid start top : ℕ) (before after : List ℕ) (r : ℕ) : Type 0 where
  pub small : r ≤ largest
  pub low : take top after ≡ take top before
  pub is : 0 < r → (k : Kind) (us vs : Values) → Apart k apart → h ≡ head (coll k us) → Fits (coll k us) → AllFit vs
      → slice from mid before ≡ encs us → slice start top before ≡ encs vs
      → Forms (coll k (add_all k vs us)) top (take top before) after (Some r)

-- the members from `from` to end, as a collection of the kind
pub record Assembles (kind sp from end : ℕ) (before after : List ℕ) (r : Optional ℕ) : Type 0 where
  pub small : SmallForm r
  pub low : take sp after ≡ take sp before
  pub is : (k : Kind) (vs : Values) → kind ≡ kind_code k → AllFit vs → slice from end before ≡ encs vs
      → Forms (coll k (add_all k vs nil)) sp (take sp before) after r

-- the collection from sp to mid, as one of the kind
pub record Converts (kind sp mid : ℕ) (before after : List ℕ) (r : Optional ℕ) : Type 0 where
  pub small : SmallForm r
  pub low : take sp after ≡ take sp before
  pub is : (j k : Kind) (vs : Values) → kind ≡ kind_code k → Fits (coll j vs) → slice sp mid before ≡ enc (coll j vs)
      → Forms (coll k (add_all k vs nil)) sp (take sp before) after r

-- the collections of one kind from sp to mid and from mid to end
pub record Unites (sp mid end : ℕ) (before after : List ℕ) (r : Optional ℕ) : Type 0 where
  pub small : SmallForm r
  pub low : take sp after ≡ take sp before
  pub is : (k : Kind) (us vs : Values) → Fits (coll k us) → Fits (coll k vs)
      → slice sp mid before ≡ enc (coll k us) → slice mid end before ≡ enc (coll k vs)
      → Forms (coll k (add_all k vs us)) sp (take sp before) after r

-- the len cells at `from`, copied to `to`; every other cell is as it was
pub record Slides (from to len : ℕ) (before after : List ℕ) : Type 0 where
  pub front : take (to + len) after ≡ take to before ++ take len (drop from before)
  pub behind : drop (to + len) after ≡ drop (to + len) before

-- the value at p, below sp, once more at sp
pub record Copies (p sp : ℕ) (before after : List ℕ) (r : Optional ℕ) : Type 0 where
  pub small : SmallForm r
  pub low : take sp after ≡ take sp before
  pub is : (v : Value) → Fits v → p + size v ≤ sp → slice p (p + size v) before ≡ enc v → Forms v sp (take sp before) after r

-- the value from a to e of other cells, at sp
pub record Brings (cells : List ℕ) (a e sp : ℕ) (before after : List ℕ) (r : Optional ℕ) : Type 0 where
  pub small : SmallForm r
  pub low : take sp after ≡ take sp before
  pub is : (v : Value) → Fits v → slice a e cells ≡ enc v → Forms v sp (take sp before) after r
