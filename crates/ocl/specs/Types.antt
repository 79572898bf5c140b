-- Document 01, Values and types: types, their subtyping and their common type.
use Rattle.std.specs.Prelude.{◌≡◌, Bool, true, false, ◌&&◌, ◌||◌, ℕ, zero, suc, eqb}
use Rattle.std.proofs.Math.Option.{Option, none, some}
use Rattle.std.specs.Prelude.{if◌then◌else◌}

-- "`Bool`, `Int`, `Any`, `#c` (class c)", and document 02, F-8: "the type `Real`"
pub data Simple : Type 0 where
  any boolean integer real : Simple
  class : ℕ → Simple

-- the kinds of a collection value: "a Set `S(..)`, Sequence `Q(..)`, Bag `B(..)`"
pub data Kind : Type 0 where
  set sequence bag : Kind

-- the letters of a collection type: "`S`, `Q`, `B` or `C` (Collection) around a type"
pub data Letter : Type 0 where
  collection : Letter
  exactly : Kind → Letter

-- Void, a simple type, or a letter around a type
pub data Ty : Type 0 where
  void : Ty
  simple : Simple → Ty
  around : Letter → Ty → Ty

-- spelled `Any`
abbrev pub Any : Ty
Any = simple any

-- spelled `Bool`
abbrev pub Boolean : Ty
Boolean = simple boolean

-- spelled `Int`
abbrev pub Integer : Ty
Integer = simple integer

-- spelled `Real`
abbrev pub Real : Ty
Real = simple real

-- spelled `#c`
abbrev pub Class : ℕ → Ty
Class c = simple (class c)

-- how many letters stand around the inmost type: "at most three such letters deep"
unfoldable pub depth : Ty → ℕ
depth void = 0
depth (simple a) = 0
depth (around l t) = suc (depth t)

-- each class's parent, if it has one: "parent p is `-` or a smaller class"
abbrev pub Parents : Type 0
Parents = ℕ → Option ℕ

-- the subtype relation: "the least reflexive, transitive relation with" these clauses
pub data Subtype (parent : Parents) : Ty → Ty → Type 0 where
  reflexive : {t : Ty} → Subtype parent t t
  transitive : {t u w : Ty} → Subtype parent t u → Subtype parent u w → Subtype parent t w
  -- "Void below everything"
  void_below : {t : Ty} → Subtype parent void t
  -- document 02, F-8: "Int below Real and Real below Any"
  integer_real : Subtype parent Integer Real
  real_any : Subtype parent Real Any
  -- "Bool, Int, classes below Any"; Int by way of Real
  boolean_any : Subtype parent Boolean Any
  class_any : {c : ℕ} → Subtype parent (Class c) Any
  -- "a class below its parent"
  class_parent : {c p : ℕ} → parent c ≡ some p → Subtype parent (Class c) (Class p)
  -- "S, Q, B of T below C of T"
  kind_collection : {k : Kind} {t : Ty} → Subtype parent (around (exactly k) t) (around collection t)
  -- "all four covariant"
  covariant : {l : Letter} {t u : Ty} → Subtype parent t u → Subtype parent (around l t) (around l u)

-- ---- the same as a test (proofs/Types.antt: they agree). A simple type other than Any has one step up, and all steps lead to Any.

-- a class's step up: to its parent, or to Any
unfoldable pub parent_or : Option ℕ → Simple
parent_or none = any
parent_or (some p) = class p

-- one step up
unfoldable pub up : Parents → Simple → Simple
up parent any = any
up parent boolean = any
up parent integer = real
up parent real = any
up parent (class c) = parent_or (parent c)

-- at most so many steps lead to Any, since a parent is a smaller class
unfoldable pub height : Simple → ℕ
height any = 0
height boolean = 1
height integer = 2
height real = 1
height (class c) = suc c

-- a number for each simple type
unfoldable pub simple_code : Simple → ℕ
simple_code any = 0
simple_code boolean = 1
simple_code integer = 2
simple_code real = 3
simple_code (class c) = suc (suc (suc (suc c)))

-- one and the same
unfoldable pub same_simple : Simple → Simple → Bool
same_simple a b = eqb (simple_code a) (simple_code b)

-- b is a, or at most n steps up from it
unfoldable pub climbs : Parents → ℕ → Simple → Simple → Bool
climbs parent zero a b = same_simple a b
climbs parent (suc n) a b = same_simple a b || climbs parent n (up parent a) b

-- b is a or up from it
unfoldable pub simple_subtype : Parents → Simple → Simple → Bool
simple_subtype parent a b = climbs parent (height a) a b

-- a number for each kind
unfoldable pub kind_code : Kind → ℕ
kind_code set = 0
kind_code sequence = 1
kind_code bag = 2

-- one and the same
unfoldable pub same_kind : Kind → Kind → Bool
same_kind k l = eqb (kind_code k) (kind_code l)

-- each letter is below itself, and all are below C
unfoldable pub letter_subtype : Letter → Letter → Bool
letter_subtype collection collection = true
letter_subtype collection (exactly l) = false
letter_subtype (exactly k) collection = true
letter_subtype (exactly k) (exactly l) = same_kind k l

-- is the one type below the other? "No collection is below Any", nor below any other simple type
unfoldable pub subtype : Parents → Ty → Ty → Bool
subtype parent void u = true
subtype parent (simple a) void = false
subtype parent (simple a) (simple b) = simple_subtype parent a b
subtype parent (simple a) (around l u) = false
subtype parent (around k t) void = false
subtype parent (around k t) (simple b) = false
subtype parent (around k t) (around l u) = letter_subtype k l && subtype parent t u

-- ---- "The common type of two is their least upper bound", where there is one

-- the first, from a upward, that b is below
unfoldable pub first_above : Parents → ℕ → Simple → Simple → Simple
first_above parent zero a b = any
first_above parent (suc n) a b = if simple_subtype parent b a then a else first_above parent n (up parent a) b

-- two simple types always have one
unfoldable pub simple_join : Parents → Simple → Simple → Simple
simple_join parent a b = first_above parent (height a) a b

-- the same letter, else C
unfoldable pub letter_join : Letter → Letter → Letter
letter_join collection l = collection
letter_join (exactly k) collection = collection
letter_join (exactly k) (exactly l) = if same_kind k l then exactly k else collection

-- a letter around a type, if there is a type
unfoldable pub around_some : Letter → Option Ty → Option Ty
around_some l none = none
around_some l (some t) = some (around l t)

-- "`S(Int)` and `Int` have none", nor have any other collection and simple type
unfoldable pub join : Parents → Ty → Ty → Option Ty
join parent void u = some u
join parent (simple a) void = some (simple a)
join parent (simple a) (simple b) = some (simple (simple_join parent a b))
join parent (simple a) (around l u) = none
join parent (around k t) void = some (around k t)
join parent (around k t) (simple b) = none
join parent (around k t) (around l u) = around_some (letter_join k l) (join parent t u)
