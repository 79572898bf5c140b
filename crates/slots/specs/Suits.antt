-- What the code of `suits` answers, for every model that the tables stand for.
use Rattle.std.specs.Prelude.{◌≡◌, Bool, false, List, ℕ}
use Rattle.std.proofs.Math.ListN.{get_elem?}
use Rattle.std.proofs.Math.Seq.{slice}
use Rattle.ocl.specs.Types.{class, Letter, exactly, letter_subtype}
use Rattle.ocl.specs.Values.{Value, bool, num, obj, coll}
use Rattle.ocl.specs.Model.{Model, is_a, belongs as belongs_to}
use Rattle.types.specs.declared.Base.{Base}
use Rattle.types.specs.declared.FlatType.{FlatType}
use Rattle.types.specs.Flat.{parents_in, base_type, letter_of, ty_of}
use Rattle.values.specs.Cells.{head, enc, Fits}

-- the words hold the classes' parents and the objects' classes of a model
pub record Seen (parents objects : List ℕ) (m : Model) : Type 0 where
  pub parent : m.parent ≡ parents_in parents
  pub class_of : m.class_of ≡ get_elem? objects

pub record ObjectSuits (parents objects : List ℕ) (o d : ℕ) (r : Bool) : Type 0 where
  pub is : (m : Model) → Seen parents objects m → r ≡ is_a m o (class d)

pub record ObjectIn (parents objects : List ℕ) (o : ℕ) (base : Base) (r : Bool) : Type 0 where
  pub is : (m : Model) → Seen parents objects m → r ≡ belongs_to m (base_type base) (obj o)

pub record BaseSuits (parents objects : List ℕ) (base : Base) (cell : ℕ) (r : Bool) : Type 0 where
  pub is : (m : Model) (v : Value) → Seen parents objects m → Fits v → cell ≡ head v → r ≡ belongs_to m (base_type base) v

-- a collection whose kind is below the letter
unfoldable pub kind_below : Letter → Value → Bool
kind_below l (bool b) = false
kind_below l (num x) = false
kind_below l (obj o) = false
kind_below l (coll k vs) = letter_subtype (exactly k) l

pub record LetterSuits (letter cell : ℕ) (r : Bool) : Type 0 where
  pub is : (v : Value) → Fits v → cell ≡ head v → r ≡ kind_below (letter_of letter) v

pub record BelongsAt (parents objects cells : List ℕ) (p end : ℕ) (t : FlatType) (r : Bool) : Type 0 where
  pub is : (m : Model) (v : Value) → Seen parents objects m → Fits v → slice p end cells ≡ enc v → r ≡ belongs_to m (ty_of t) v
