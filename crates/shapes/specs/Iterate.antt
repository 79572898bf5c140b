-- The type in `iter`, as the code holds it.
use Rattle.std.specs.Prelude.{◌≡◌, true, false, ℕ, ◌+◌, ◌≤◌, leb, Result}
use Rattle.std.proofs.Math.Option.{Option, none, some}
use Rattle.ocl.specs.Types.{Ty}
use Rattle.sheet.specs.Sizes.{most_classes}
use Rattle.sheet.specs.Limits.{type_within, class_below}
use Rattle.types.specs.Word.{type_in}
use Rattle.types.specs.Reading.{type_field, held}
use Rattle.types.specs.declared.Base.{Base}
use Rattle.types.specs.declared.Base.TheVariants as b
use Rattle.shapes.specs.declared.iterate.TypeRead.{TypeRead}
use Rattle.memory.specs.declared.refusals.Misread.{Misread}
use Rattle.types.specs.declared.FlatType.{FlatType}

-- how many classes there must be for the one in a type
unfoldable pub classes_in : Base → ℕ
classes_in b.Void = 0
classes_in b.Bool = 0
classes_in b.Int = 0
classes_in b.Any = 0
classes_in b.Real = 0
classes_in (b.Class c) = c + 1

pub record HoldsType (t : Ty) (r : TypeRead) : Type 0 where
  pub within : r.within ≡ type_within t
  pub word : type_within t ≡ true → type_in r.word ≡ t
  pub known : type_within t ≡ true → (n : ℕ) → leb r.classes n ≡ class_below n t

-- a type that was read, or none that was
pub record Held (g : Result FlatType Misread) : Type 0 where
  pub type : Option Ty
  pub is : type_field g ≡ held type

pub data TypeSpelled : Option Ty → TypeRead → Type 0 where
  no_type : {r : TypeRead} → r.spelled ≡ false → TypeSpelled none r
  a_type : {t : Ty} {r : TypeRead} → r.spelled ≡ true → HoldsType t r → TypeSpelled (some t) r

-- of what was read
pub record TypeTold (g : Result FlatType Misread) (r : TypeRead) : Type 0 where
  pub is : (o : Option Ty) → type_field g ≡ held o → TypeSpelled o r
  pub low : r.classes ≤ most_classes + 1
