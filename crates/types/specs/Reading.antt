-- A spelled type, as the code takes it apart: letters with their brackets, a base, closing brackets. proofs/Spelled.antt: this
-- is what crates/sheet's `read_type` reads. Any nesting may be spelled; document 01's limits make a type too big.
use Rattle.std.specs.Prelude.{ℕ, zero, suc, ◌+◌, ◌≤◌, ◌≡◌, Bool, true, false, ◌&&◌, [], ◌∷◌, length, eqb, ltb, Option as Optional, Some, None, Result, Ok, Err}
use Rattle.std.proofs.Math.Option.{Option, none, some}
use Rattle.laws.specs.Choice.{on_some, map_some}
use Rattle.std.specs.Prelude.{if◌then◌else◌}
use Rattle.ocl.specs.Types.{Letter, Ty, void, around, Any, Boolean, Integer, Real, Class, depth}
use Rattle.sheet.specs.Sizes.{most_classes}
use Rattle.sheet.specs.Text.{Bytes, byte, Parser, literal, behind, ◌or◌, mapped, number_parser}
use Rattle.sheet.specs.Limits.{type_within}
use Rattle.types.specs.Flat.{letter_of, ty_of}
use Rattle.memory.specs.declared.refusals.Misread.{Misread}
use Rattle.memory.specs.declared.refusals.Misread.TheVariants.{Malformed, OverLimit}
use Rattle.types.specs.declared.FlatType.{FlatType}

-- ---- what a field that should spell a type is: badly spelled, over the limits, or a type

pub data TypeField : Type 0 where
  bad big : TypeField
  is : Ty → TypeField

unfoldable pub type_field : Result FlatType Misread → TypeField
type_field (Err Malformed) = bad
type_field (Err OverLimit) = big
type_field (Ok t) = is (ty_of t)

unfoldable pub held : Option Ty → TypeField
held none = bad
held (some t) = if type_within t then is t else big

-- ---- the parts

-- exactly d closing brackets
unfoldable pub closes : ℕ → Bytes → Bool
closes zero [] = true
closes zero (b ∷ s) = false
closes (suc d) [] = false
closes (suc d) (b ∷ s) = eqb b (byte ")") && closes d s

-- what was read, where d closing brackets follow it
unfoldable pub closed : {A : Type 0} → ℕ → A × Bytes → Option A
closed d x = if closes d x.1 then some x.0 else none

-- the word w, then d closing brackets
unfoldable pub spells : Bytes → ℕ → Bytes → Bool
spells [] d s = closes d s
spells (p ∷ ps) d [] = false
spells (p ∷ ps) d (b ∷ s) = eqb p b && spells ps d s

-- the base types
unfoldable pub base : Parser Ty
base = literal "Void" void or literal "Bool" Boolean or literal "Int" Integer or literal "Real" Real or literal "Any" Any or behind "#" (mapped Class number_parser)

unfoldable pub base_before : ℕ → Bytes → Option Ty
base_before d s = on_some (base s) (closed d)

-- a class, and its number, then d closing brackets
unfoldable pub hash_before : ℕ → Bytes → Option Ty
hash_before d s = on_some (behind "#" (mapped Class number_parser) s) (closed d)

unfoldable pub number_before : ℕ → Bytes → Option ℕ
number_before d s = on_some (number_parser s) (closed d)

-- the code of a letter, 0 for a byte that is none
unfoldable pub byte_code : ℕ → ℕ
byte_code b = if eqb b (byte "C") then 1 else if eqb b (byte "S") then 2 else if eqb b (byte "Q") then 3 else if eqb b (byte "B") then 4 else 0

abbrev pub code_letter : ℕ → Option Letter
code_letter zero = none
code_letter (suc k) = some (letter_of (suc k))

-- a letter's byte in front of a type
unfoldable pub lettered : ℕ → Option Ty → Option Ty
lettered b o = on_some (code_letter (byte_code b)) (λ l. map_some (around l) o)

-- the type that s spells before d closing brackets
unfoldable pub type_before : ℕ → Bytes → Option Ty
type_before d [] = none
type_before d (a ∷ []) = base_before d (a ∷ [])
type_before d (a ∷ b ∷ s) = if eqb b (byte "(") then lettered a (type_before (suc d) s) else base_before d (a ∷ b ∷ s)

-- how many times a byte and an opening bracket lead
unfoldable pub opens_of : Bytes → ℕ
opens_of [] = 0
opens_of (a ∷ []) = 0
opens_of (a ∷ b ∷ s) = if eqb b (byte "(") then suc (opens_of s) else 0

pub record Opens (s : Bytes) (r : ℕ) : Type 0 where
  pub is : r ≡ opens_of s
  pub within : r + r ≤ length s

-- ---- the parts as answers

-- a letter around what was read, three at most
unfoldable pub deeper : Letter → TypeField → TypeField
deeper l bad = bad
deeper l big = big
deeper l (is t) = if ltb (depth t) 3 then is (around l t) else big

unfoldable pub lettered_field : ℕ → TypeField → TypeField
lettered_field zero x = bad
lettered_field (suc k) x = deeper (letter_of (suc k)) x

-- a class by its number, as crates/text reads it
unfoldable pub class_field : Optional ℕ → TypeField
class_field None = bad
class_field (Some m) = if ltb m most_classes then is (Class m) else big
