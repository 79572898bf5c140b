-- A form by its code and its numbers, in the order of a node line's fields, by crates/text's `fields_by`.
use Rattle.std.specs.Prelude.{◌≡◌, true, List, [], ◌∷◌, map, ℕ, ◌+◌, ◌≤◌, length, get_or, ltb}
use Rattle.std.proofs.Math.Option.{Option, none, some}
use Rattle.std.specs.Prelude.{if◌then◌else◌}
use Rattle.ocl.specs.Types.{Kind, Ty}
use Rattle.ocl.specs.Forms.{undef}
use Rattle.sheet.specs.Sizes.{most_classes}
use Rattle.sheet.specs.Lines.{Shape, leaf, iterate, assemble, FormFields, no_field, one_number, two_numbers, three_numbers, other_fields}
use Rattle.text.specs.Forms.{fields_by}
use Rattle.nodes.specs.Nodes.{assemble_code}
use Rattle.shapes.specs.declared.Parsed.{Parsed}
use Rattle.shapes.specs.declared.iterate.TypeRead.{TypeRead}
use Rattle.shapes.specs.Fields.{cut, four}
use Rattle.shapes.specs.Forms.{StandsFor}
use Rattle.shapes.specs.Iterate.{HoldsType}

-- how many numbers a form's fields are; 9 for other fields, and for no form
unfoldable pub count_of : Option FormFields → ℕ
count_of none = 9
count_of (some (no_field shape)) = 0
count_of (some (one_number shape)) = 1
count_of (some (two_numbers shape)) = 2
count_of (some (three_numbers shape)) = 3
count_of (some (other_fields read)) = 9

-- the form of numbers a, b and c; other fields are never asked for
unfoldable pub form_with : Option FormFields → ℕ → ℕ → ℕ → Shape
form_with none a b c = leaf undef
form_with (some (no_field shape)) a b c = shape
form_with (some (one_number shape)) a b c = shape a
form_with (some (two_numbers shape)) a b c = shape a b
form_with (some (three_numbers shape)) a b c = shape a b c
form_with (some (other_fields read)) a b c = leaf undef

-- of the form with this code
abbrev pub numbers_of : ℕ → ℕ
numbers_of k = count_of (fields_by k)

abbrev pub shape_from : ℕ → ℕ → ℕ → ℕ → Shape
shape_from k = form_with (fields_by k)

abbrev pub shape_in : ℕ → List ℕ → Shape
shape_in k l = shape_from k (get_or l 0 0) (get_or l 1 0) (get_or l 2 0)

-- how many classes there must be for class c, which a sheet has below `most_classes`
unfoldable pub class_count : ℕ → ℕ
class_count c = if ltb c most_classes then c + 1 else most_classes + 1

-- a form that is spelled: few operands, eight words, few classes
pub record Whole (p : Parsed) : Type 0 where
  pub spelled : p.spelled ≡ true
  pub few : p.count ≤ 4
  pub size : length p.words ≡ 8
  pub classes : p.classes ≤ most_classes + 1

-- the form with this code, from its numbers
pub record Builds (code : ℕ) (at : List ℕ) (line : ℕ) (p : Parsed) : Type 0 where
  pub is : (l : List ℕ) → length l ≤ 4 → length l ≡ numbers_of code → at ≡ four (map cut l) → StandsFor line (shape_in code l) p
  pub fine : Whole p

-- a collection, from its m members
pub record Assembles (code : ℕ) (at : List ℕ) (m line : ℕ) (p : Parsed) : Type 0 where
  pub is : (k : Kind) (es : List ℕ) → code ≡ assemble_code k → length es ≡ m → at ≡ four (map cut es) → StandsFor line (assemble k es) p
  pub fine : Whole p

-- `iter`, from s, i and j in h, its type, and e and b in t
pub record Iterates (h : List ℕ) (y : TypeRead) (t : List ℕ) (line : ℕ) (p : Parsed) : Type 0 where
  pub is : (s i j e b : ℕ) (u : Ty) → h ≡ four (map cut (s ∷ i ∷ j ∷ [])) → t ≡ four (map cut (e ∷ b ∷ [])) → HoldsType u y → StandsFor line (iterate i j u s e b) p
  pub fine : Whole p
