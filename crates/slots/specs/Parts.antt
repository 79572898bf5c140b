-- What begins at a place of a field, as the code tells it: whatever is read there by crates/sheet's `value_parser`.
use Rattle.std.specs.Prelude.{◌≡◌, Bool, true, false, ℕ, suc, ◌+◌, ◌<◌, ◌≤◌, length, get_or, drop, Option as Optional, Some, None, Result, Ok, Err}
use Rattle.std.proofs.Math.Option.{none, some}
use Rattle.ocl.specs.Types.{Kind}
use Rattle.ocl.specs.Values.{Value, bool, num, obj, coll, nil}
use Rattle.reals.specs.Reals.{Number}
use Rattle.sheet.specs.Text.{Bytes, Parser, mapped, number_parser}
use Rattle.sheet.specs.Spelling.{value_parser, members_parser}
use Rattle.sheet.specs.Limits.{part_within}
use Rattle.values.specs.Cells.{head}
use Rattle.values.specs.Meanings.{EmptyOf}
use Rattle.slots.specs.declared.parts.Part.{Part}
use Rattle.slots.specs.declared.parts.Part.TheVariants as part
use Rattle.memory.specs.declared.refusals.Misread.{Misread}
use Rattle.memory.specs.declared.refusals.Misread.TheVariants.{Malformed, OverLimit}

-- a value that is no collection
pub data Alone : Value → Type 0 where
  alone_bool : {b : Bool} → Alone (bool b)
  alone_num : {x : Number} → Alone (num x)
  alone_obj : {o : ℕ} → Alone (obj o)

-- the place after a part that begins at `at`
pub record After (f : Bytes) (at end : ℕ) : Type 0 where
  pub up : at < end
  pub within : end ≤ length f

-- v ends at the part's end, within its limits or not
pub data Told (f : Bytes) (at : ℕ) (v : Value) : Optional Part → Type 0 where
  told_simple : {c e : ℕ} → After f at e → c ≡ head v → part_within v ≡ true → Told f at v (Some (part.Simple c e))
  told_wide : {e : ℕ} → After f at e → part_within v ≡ false → Told f at v (Some (part.Wide e))

abbrev pub part_end : Optional Part → ℕ
part_end None = 0
part_end (Some (part.Simple c e)) = e
part_end (Some (part.Wide e)) = e
part_end (Some (part.Opens c e)) = e

-- the object whose digits begin at `at`
pub data ObjectIs (f : Bytes) (at : ℕ) (r : Optional Part) : Type 0 where
  object_bad : r ≡ None → number_parser (drop at f) ≡ none → ObjectIs f at r
  object_is : (o : ℕ) → ((from : ℕ) → from < at → Told f from (obj o) r) → number_parser (drop at f) ≡ some (o, drop (part_end r) f) → ObjectIs f at r

-- a number, and the place after it
abbrev pub part_of : Result ℕ Misread → ℕ → Optional Part
part_of (Err Malformed) e = None
part_of (Err OverLimit) e = Some (part.Wide e)
part_of (Ok c) e = Some (part.Simple c e)

-- the number that begins at `at`: p reads Integers or Reals
pub data NumberIs {A : Type 0} (p : Parser A) (number : A → Number) (f : Bytes) (at : ℕ) (r : Optional Part) : Type 0 where
  number_bad : r ≡ None → p (drop at f) ≡ none → NumberIs p number f at r
  number_is : (x : A) → Told f at (num (number x)) r → p (drop at f) ≡ some (x, drop (part_end r) f) → NumberIs p number f at r

-- a bracket after the letter at `at`
pub data OpensIs (f : Bytes) (at kind : ℕ) (r : Optional Part) : Type 0 where
  opens_not : r ≡ None → (at + 1 < length f → get_or f (at + 1) 0 ≡ 40 → ⊥) → OpensIs f at kind r
  opens : (c : ℕ) → EmptyOf kind c → r ≡ Some (part.Opens c (at + 2)) → at + 1 < length f → get_or f (at + 1) 0 ≡ 40 → OpensIs f at kind r

-- what `value_parser` reads at `at`, however many parts it may have
pub data PartIs (f : Bytes) (at : ℕ) (r : Optional Part) : Type 0 where
  part_bad : r ≡ None → ((n : ℕ) → value_parser (suc n) (drop at f) ≡ none) → PartIs f at r
  part_alone : (v : Value) → Alone v → Told f at v r → ((n : ℕ) → value_parser (suc n) (drop at f) ≡ some (v, drop (part_end r) f)) → PartIs f at r
  part_opens : (k : Kind) → r ≡ Some (part.Opens (head (coll k nil)) (at + 2)) → at + 2 ≤ length f
      → ((n : ℕ) → value_parser (suc n) (drop at f) ≡ mapped (coll k) (members_parser n) (drop (at + 2) f)) → PartIs f at r
