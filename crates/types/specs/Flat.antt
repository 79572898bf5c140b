-- What the code's types and class tables stand for. Document 01, Values and types.
use Rattle.std.specs.Prelude.{◌≡◌, Bool, false, ◌&&◌, List, ℕ, zero, suc, ◌<◌, get_or, leb, eqb, Option as Optional, Some, None}
use Rattle.std.proofs.Math.Option.{Option, none, some}
use Rattle.std.specs.Prelude.{if◌then◌else◌}
use Rattle.ocl.specs.Types.{any, boolean, integer, real, class, set, sequence, bag, Letter, collection, exactly, Ty, void, simple, around, Parents, letter_subtype, join}
use Rattle.types.specs.declared.Base.{Base}
use Rattle.types.specs.declared.Base.TheVariants as b
use Rattle.types.specs.declared.FlatType.{FlatType}

-- ---- the classes: word c of a table is 0, or one more than the parent of class c

-- a word that is over its class says no parent, so that in every table a parent is a smaller class
unfoldable pub parent_word : List ℕ → ℕ → ℕ
parent_word ps c = if leb (get_or ps c 0) c then get_or ps c 0 else 0

-- the parent that a word says
abbrev pub parent_of : ℕ → Option ℕ
parent_of zero = none
parent_of (suc p) = some p

unfoldable pub parents_in : List ℕ → Parents
parents_in ps c = parent_of (parent_word ps c)

-- ---- the types: a base, and three codes, the outermost first

abbrev pub base_type : Base → Ty
base_type b.Void = void
base_type b.Bool = simple boolean
base_type b.Int = simple integer
base_type b.Any = simple any
base_type b.Real = simple real
base_type (b.Class c) = simple (class c)

-- a number for each case of a base, and the class in it
abbrev pub base_tag : Base → ℕ
base_tag b.Void = 0
base_tag b.Bool = 1
base_tag b.Int = 2
base_tag b.Any = 3
base_tag b.Real = 4
base_tag (b.Class c) = 5

abbrev pub base_class : Base → ℕ
base_class b.Void = 0
base_class b.Bool = 0
base_class b.Int = 0
base_class b.Any = 0
base_class b.Real = 0
base_class (b.Class c) = c

-- 1 is C, 2 is S, 3 is Q, 4 is B; a code of no letter counts as C
unfoldable pub letter_of : ℕ → Letter
letter_of zero = collection
letter_of (suc zero) = collection
letter_of (suc (suc zero)) = exactly set
letter_of (suc (suc (suc zero))) = exactly sequence
letter_of (suc (suc (suc (suc zero)))) = exactly bag
letter_of (suc (suc (suc (suc (suc k))))) = collection

-- code 0 ends the type with its base; any other stands around what the codes after it say
unfoldable pub layer : ℕ → Ty → Ty → Ty
layer zero base under = base
layer (suc k) base under = around (letter_of (suc k)) under

abbrev pub ty_of : FlatType → Ty
ty_of t = layer t.outer (base_type t.base) (layer t.middle (base_type t.base) (layer t.inner (base_type t.base) (base_type t.base)))

-- what stands under the outermost code
abbrev pub under : FlatType → FlatType
under t = record { base = t.base; outer = t.middle; middle = t.inner; inner = 0 }

-- a type with no letter
abbrev pub bare : Base → FlatType
bare b = record { base = b; outer = 0; middle = 0; inner = 0 }

-- ---- the subtype test, code by code: `ends` where both types end, `more` where both go on; a base that ends is below a
-- collection exactly where it is Void

unfoldable pub level : ℕ → ℕ → ℕ → Bool → Bool → Bool
level tag zero zero ends more = ends
level tag zero (suc l) ends more = eqb tag 0
level tag (suc k) zero ends more = false
level tag (suc k) (suc l) ends more = letter_subtype (letter_of (suc k)) (letter_of (suc l)) && more

-- ---- the common type, code by code

-- the common type, if there is one
unfoldable pub joined_type : Optional FlatType → Option Ty
joined_type (Some t) = some (ty_of t)
joined_type None = none

-- what the first d codes say alone
unfoldable pub type_to : ℕ → FlatType → Ty
type_to zero t = base_type t.base
type_to (suc d) t = layer t.outer (base_type t.base) (type_to d (under t))

unfoldable pub joined_to : ℕ → Optional FlatType → Option Ty
joined_to d (Some t) = some (type_to d t)
joined_to d None = none

-- r is the common type of f and g to one code more than `inner` is that of what stands under theirs; e is the bases' own
pub record JoinsOneMore (parent : Parents) (e : Base) (f g : FlatType) (inner r : Optional FlatType) : Type 0 where
  pub step :
      some (base_type e) ≡ join parent (base_type f.base) (base_type g.base)
      → (d : ℕ) → d < 3
      → joined_to d inner ≡ join parent (type_to d (under f)) (type_to d (under g))
      → joined_to (suc d) r ≡ join parent (type_to (suc d) f) (type_to (suc d) g)
