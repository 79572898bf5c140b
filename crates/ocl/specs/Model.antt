-- Document 01, The sheet: what typing and evaluation read of it. Values and types: which values belong to a type.
use Rattle.std.specs.Prelude.{Bool, true, false, ◌&&◌, ℕ, zero, suc, eqb}
use Rattle.std.proofs.Math.Option.{Option, none, some}
use Rattle.laws.specs.Choice.{or_else, on_some}
use Rattle.std.specs.Prelude.{if◌then◌else◌}
use Rattle.reals.specs.Reals.{Number, int, real}
use Rattle.ocl.specs.Types.{Simple, boolean, integer, class, exactly, Ty, void, simple, around, Parents, simple_subtype, letter_subtype}
use Rattle.ocl.specs.Values.{Value, bool, num, obj, coll, Values, nil, cons}

-- `A n c name T`: an attribute row, by the class that declares it, its name, its type
pub record Row : Type 0 where
  pub owner : ℕ
  pub name : ℕ
  pub type : Ty

-- classes and rows: all that typing reads
pub record Schema : Type 0 where
  pub parent : Parents
  pub row_count : ℕ
  pub row : ℕ → Row

-- classes, rows, objects and values
pub record Model : Type 0 where
  pub parent : Parents
  pub row_count : ℕ
  pub row : ℕ → Row
  pub object_count : ℕ
  pub class_of : ℕ → Option ℕ
  -- the value of a row for an object, row last: "No line means `u`"
  pub value_of : ℕ → ℕ → Option Value

abbrev pub schema_of : Model → Schema
schema_of s = record { parent = s.parent; row_count = s.row_count; row = s.row }

-- a class, if there is one, that is b or below it
unfoldable pub class_is_a : Parents → Option ℕ → Simple → Bool
class_is_a parent none b = false
class_is_a parent (some c) b = simple_subtype parent (class c) b

-- an object belongs "to its class, that class's ancestors and Any"
unfoldable pub is_a : Model → ℕ → Simple → Bool
is_a s o b = class_is_a s.parent (s.class_of o) b

-- does the test hold of each member
unfoldable pub every : (Value → Bool) → Values → Bool
every f nil = true
every f (cons v vs) = f v && every f vs

-- document 02, F-8: "An Integer belongs to Real, a Real to Real and Any", so each to this type and to those above
unfoldable pub number_type : Number → Simple
number_type (int z) = integer
number_type (real r) = Simple.real

-- does the value belong to the type? "a collection to its kind, or C, around each type that all members belong to"
unfoldable pub belongs : Model → Ty → Value → Bool
belongs s void v = false
belongs s (simple b) (bool c) = simple_subtype s.parent boolean b
belongs s (simple b) (num x) = simple_subtype s.parent (number_type x) b
belongs s (simple b) (obj o) = is_a s o b
belongs s (simple b) (coll k vs) = false
belongs s (around l t) (bool c) = false
belongs s (around l t) (num x) = false
belongs s (around l t) (obj o) = false
belongs s (around l t) (coll k vs) = letter_subtype (exactly k) l && every (belongs s t) vs

-- the row that class c itself declares with the name, among the first n rows
unfoldable pub declared : Schema → ℕ → ℕ → ℕ → Option ℕ
declared s c name zero = none
declared s c name (suc n) = if eqb (s.row n).owner c && eqb (s.row n).name name then some n else declared s c name n

-- "the nearest declaration upward from that static class", c, through at most n classes
unfoldable pub nearest : Schema → ℕ → ℕ → ℕ → Option ℕ
nearest s name zero c = none
nearest s name (suc n) c = or_else (declared s c name s.row_count) (on_some (s.parent c) (nearest s name n))

-- a class has at most as many ancestors as its number says, since parents are smaller
unfoldable pub row_read : Schema → ℕ → ℕ → Option ℕ
row_read s c name = nearest s name (suc c) c
