-- A node line's form as the code holds it, and the form that the fields spell. proofs/FormLaws.antt goes from code to code.
use Rattle.std.specs.Prelude.{◌≡◌, true, false, List, map, ℕ, ◌+◌, ◌≤◌, ◌<◌, length, take, drop, eqb, leb}
use Rattle.std.proofs.Math.Option.{Option, none, some}
use Rattle.std.specs.Prelude.{if◌then◌else◌}
use Rattle.laws.specs.Lists.{all_of}
use Rattle.memory.specs.Codes as code
use Rattle.sheet.specs.Sizes.{most_classes}
use Rattle.sheet.specs.Text.{byte}
use Rattle.sheet.specs.Lines.{Shape}
use Rattle.sheet.specs.Sheet.{operands_of}
use Rattle.sheet.specs.Limits.{is_node, form_within}
use Rattle.sheet.specs.Refusals.{two_variables, form_known}
use Rattle.nodes.specs.Nodes.{TypeSaid, shape_words}
use Rattle.shapes.specs.declared.Parsed.{Parsed}
use Rattle.shapes.specs.Fields.{cut}
use Rattle.shapes.specs.Calls.{called_by, by_number}

-- words 1 to count
abbrev pub operands_at : List ℕ → ℕ → List ℕ
operands_at words count = take count (drop 1 words)

-- p is the form x of a line: what is asked of a form inside its limits is asked of p, and its words are those of x
pub record StandsFor (line : ℕ) (x : Shape) (p : Parsed) : Type 0 where
  pub within : p.within ≡ form_within x
  pub apart : form_within x ≡ true → p.apart ≡ two_variables x
  pub known : form_within x ≡ true → (n : ℕ) → n ≤ most_classes → leb p.classes n ≡ form_known n x
  pub counted : p.count ≡ length (operands_of x)
  pub operands : operands_at p.words p.count ≡ map cut (operands_of x)
  -- the word of the type that `iter` has
  pub type : ℕ
  pub said : form_within x ≡ true → TypeSaid type x
  pub words : form_within x ≡ true → all_of is_node (operands_of x) ≡ true → p.words ≡ shape_words 0 type (called_by by_number x) line x

pub data Spelled (line : ℕ) : Option Shape → Parsed → Type 0 where
  misspelled : {p : Parsed} → p.spelled ≡ false → Spelled line none p
  spelled : {x : Shape} {p : Parsed} → p.spelled ≡ true → StandsFor line x p → Spelled line (some x) p

pub record FormRead (line : ℕ) (o : Option Shape) (p : Parsed) : Type 0 where
  pub is : Spelled line o p
  pub few : p.count ≤ 4
  pub size : length p.words ≡ 8
  pub low : p.classes ≤ most_classes + 1

-- ---- the codes of forms that hold nothing but m operands

pub data PlainCode : ℕ → ℕ → Type 0 where
  constant : {k : ℕ} → k < code.number → PlainCode k 0
  itself : PlainCode code.self 0
  one : {k : ℕ} → code.negation ≤ k → k < code.cast_to → PlainCode k 1
  two : {k : ℕ} → code.equal ≤ k → k < code.for_all → PlainCode k 2
  undef_test : PlainCode code.is_undef 1
  conditional : PlainCode code.conditional 3
  quotient : PlainCode code.over 2

-- of `forAll` and `exists`
pub record QuantifierCode (k : ℕ) : Type 0 where
  pub low : code.for_all ≤ k
  pub high : k < code.set

-- of `attr` and `collect`
pub record AccessCode (k : ℕ) : Type 0 where
  pub low : code.of_object ≤ k
  pub high : k < code.iterate

-- of `coll` by the letter of its kind, 0 for another
unfoldable pub kind_byte_code : ℕ → ℕ
kind_byte_code b =
    if eqb b (byte "S") then code.set
    else if eqb b (byte "Q") then code.sequence
    else if eqb b (byte "B") then code.bag
    else 0
