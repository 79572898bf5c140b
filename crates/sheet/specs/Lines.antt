-- Document 01, The sheet and The forms, and the X line of document 02, F-7: a line's fields, as far as spelling, field count and words
-- go. What is not a line here is refused with 3.
use Rattle.std.specs.Prelude.{ℕ, Bool, true, false, ◌&&◌, ◌||◌, List, [], ◌∷◌, ℤ, length, eqb, leb}
use Prim.Native.String.{String}
use Rattle.std.proofs.Math.Option.{Option, none, some}
use Rattle.laws.specs.Choice.{on_some, map_some}
use Rattle.std.specs.Prelude.{if◌then◌else◌}
use Rattle.reals.specs.Reals.{Real, int, real}
use Rattle.ocl.specs.Types.{Kind, set, sequence, bag, Ty}
use Rattle.ocl.specs.Values.{Value}
use Rattle.ocl.specs.Forms.{plus, minus, times, div, modulo, Connective, and, or, Quantifier, for_all, exists, Access, of_object, of_members, Leaf, truth, undef, number, self, var, all, Unary, negation, size_of, convert, cast_to, Binary, equal, less, arith, divide, over, includes, including, union}
use Rattle.sheet.specs.Text.{Bytes, bytes, literal, whole, number_parser, integer_parser, real_parser, ◌or◌ as either}
use Rattle.sheet.specs.Spelling.{read_type, read_value}

-- a node line's form: as ocl's Form, with operands by their node numbers
pub data Shape : Type 0 where
  leaf : Leaf → Shape
  unary : Unary → ℕ → Shape
  binary : Binary → ℕ → ℕ → Shape
  connective : Connective → ℕ → ℕ → Shape
  is_undef : ℕ → Shape
  conditional : ℕ → ℕ → ℕ → Shape
  let_in : ℕ → ℕ → ℕ → Shape
  attribute : Access → ℕ → ℕ → Shape
  -- the operand, then the definition's number
  call : ℕ → ℕ → Shape
  quantified : Quantifier → ℕ → ℕ → ℕ → Shape
  iterate : ℕ → ℕ → Ty → ℕ → ℕ → ℕ → Shape
  assemble : Kind → List ℕ → Shape

-- a line's content; numbers are of any size
pub data Line : Type 0 where
  class_line : ℕ → Option ℕ → Line
  row_line : ℕ → ℕ → ℕ → Ty → Line
  object_line : ℕ → ℕ → Line
  value_line : ℕ → ℕ → Value → Line
  -- its number, class and type (document 02, F-13)
  definition_line : ℕ → ℕ → Ty → Line
  rule_line : ℕ → ℕ → Line
  node_line : ℕ → Shape → Line
  -- "one `X` line with a single text field", as it stands (document 02, F-7)
  text_line : Bytes → Line

-- is the field this word
unfoldable pub is : Bytes → Bytes → Bool
is [] [] = true
is [] (c ∷ t) = false
is (b ∷ s) [] = false
is (b ∷ s) (c ∷ t) = eqb b c && is s t

-- words, each with what it stands for
abbrev pub Table : Type 0 → Type 0
Table A = List (String × A)

unfoldable pub named : {A : Type 0} → Table A → Bytes → Option A
named [] w = none
named (x ∷ t) w = if is w (bytes x.0) then some x.1 else named t w

-- ---- fields from left to right

-- one field more
unfoldable pub next : {A B : Type 0} → (Bytes → Option A) → (A → List Bytes → Option B) → List Bytes → Option B
next read k [] = none
next read k (f ∷ fs) = on_some (read f) (λ x. k x fs)

-- no field more
unfoldable pub done : {A : Type 0} → A → List Bytes → Option A
done x [] = some x
done x (f ∷ fs) = none

-- all fields left
unfoldable pub each : {A : Type 0} → (Bytes → Option A) → List Bytes → Option (List A)
each read [] = some []
each read (f ∷ fs) = on_some (read f) (λ x. map_some (λ xs. x ∷ xs) (each read fs))

unfoldable pub a_number : Bytes → Option ℕ
a_number f = whole number_parser f

unfoldable pub an_integer : Bytes → Option ℤ
an_integer f = whole integer_parser f

unfoldable pub a_real : Bytes → Option Real
a_real f = whole real_parser f

-- "parent p is `-` or a smaller class"
unfoldable pub a_parent : Bytes → Option (Option ℕ)
a_parent f = if is f (bytes "-") then some none else map_some some (a_number f)

-- "k one of S Q B"
unfoldable pub a_kind : Bytes → Option Kind
a_kind f = whole (either (literal "S" set) (either (literal "Q" sequence) (literal "B" bag))) f

-- ---- the fields after a form's word

-- none, numbers alone, or others: what form they spell
pub data FormFields : Type 0 where
  no_field : Shape → FormFields
  one_number : (ℕ → Shape) → FormFields
  two_numbers : (ℕ → ℕ → Shape) → FormFields
  three_numbers : (ℕ → ℕ → ℕ → Shape) → FormFields
  other_fields : (List Bytes → Option Shape) → FormFields

unfoldable pub read_fields : FormFields → List Bytes → Option Shape
read_fields (no_field shape) = done shape
read_fields (one_number shape) = next a_number (λ a. done (shape a))
read_fields (two_numbers shape) = next a_number (λ a. next a_number (λ b. done (shape a b)))
read_fields (three_numbers shape) = next a_number (λ a. next a_number (λ b. next a_number (λ c. done (shape a b c))))
read_fields (other_fields read) = read

-- `s i j T e b`
unfoldable pub iterate_fields : List Bytes → Option Shape
iterate_fields =
    next a_number (λ s. next a_number (λ i. next a_number (λ j. next read_type (λ t.
    next a_number (λ e. next a_number (λ b. done (iterate i j t s e b)))))))

-- `k e..`, "none to four e (five is 3)"
unfoldable pub at_most_four : Kind → List ℕ → Option Shape
at_most_four k es = if leb (length es) 4 then some (assemble k es) else none

unfoldable pub assemble_fields : List Bytes → Option Shape
assemble_fields = next a_kind (λ k fs. on_some (each a_number fs) (at_most_four k))

-- each form's word and the fields after it
unfoldable pub forms : Table FormFields
forms =
    ("true", no_field (leaf (truth true)))
    ∷ ("false", no_field (leaf (truth false)))
    ∷ ("undef", no_field (leaf undef))
    ∷ ("int", other_fields (next an_integer (λ z. done (leaf (number (int z))))))
    ∷ ("real", other_fields (next a_real (λ r. done (leaf (number (real r))))))
    ∷ ("self", no_field (leaf self))
    ∷ ("var", one_number (λ i. leaf (var i)))
    ∷ ("coll", other_fields assemble_fields)
    ∷ ("let", three_numbers let_in)
    ∷ ("if", three_numbers conditional)
    ∷ ("and", two_numbers (connective and))
    ∷ ("or", two_numbers (connective or))
    ∷ ("not", one_number (unary negation))
    ∷ ("isUndef", one_number is_undef)
    ∷ ("eq", two_numbers (binary equal))
    ∷ ("less", two_numbers (binary less))
    ∷ ("plus", two_numbers (binary (arith plus)))
    ∷ ("minus", two_numbers (binary (arith minus)))
    ∷ ("times", two_numbers (binary (arith times)))
    ∷ ("div", two_numbers (binary (divide div)))
    ∷ ("mod", two_numbers (binary (divide modulo)))
    ∷ ("over", two_numbers (binary over))
    ∷ ("attr", two_numbers (λ e name. attribute of_object name e))
    ∷ ("collect", two_numbers (λ s name. attribute of_members name s))
    ∷ ("call", two_numbers call)
    ∷ ("all", one_number (λ c. leaf (all c)))
    ∷ ("as", two_numbers (λ e c. unary (cast_to c) e))
    ∷ ("size", one_number (unary size_of))
    ∷ ("includes", two_numbers (binary includes))
    ∷ ("asSet", one_number (unary (convert set)))
    ∷ ("asBag", one_number (unary (convert bag)))
    ∷ ("asSequence", one_number (unary (convert sequence)))
    ∷ ("including", two_numbers (binary including))
    ∷ ("union", two_numbers (binary union))
    ∷ ("iter", other_fields iterate_fields)
    ∷ ("forAll", three_numbers (λ s i b. quantified for_all i s b))
    ∷ ("exists", three_numbers (λ s i b. quantified exists i s b))
    ∷ []

unfoldable pub shape_of : Bytes → List Bytes → Option Shape
shape_of w fs = on_some (named forms w) (λ fields. read_fields fields fs)

-- any field, as it stands
unfoldable pub a_word : Bytes → Option Bytes
a_word f = some f

-- a line's letter and the fields after it; 3, "spelling, field count, unknown letter or form"
unfoldable pub line_of : List Bytes → Option Line
line_of [] = none
line_of (w ∷ fs) =
    if is w (bytes "C") then next a_number (λ n. next a_parent (λ p. done (class_line n p))) fs
    else if is w (bytes "A")
    then next a_number (λ n. next a_number (λ c. next a_number (λ name. next read_type (λ t. done (row_line n c name t))))) fs
    else if is w (bytes "O") then next a_number (λ n. next a_number (λ c. done (object_line n c))) fs
    else if is w (bytes "V") then next a_number (λ o. next a_number (λ a. next read_value (λ v. done (value_line o a v)))) fs
    else if is w (bytes "D") then next a_number (λ n. next a_number (λ c. next read_type (λ t. done (definition_line n c t)))) fs
    else if is w (bytes "R") then next a_number (λ n. next a_number (λ c. done (rule_line n c))) fs
    else if is w (bytes "N") then next a_number (λ n. next a_word (λ form fs. map_some (node_line n) (shape_of form fs))) fs
    else if is w (bytes "X") then next a_word (λ text. done (text_line text)) fs
    else none

-- does the line belong to an open definition or rule: it "ends .. before a line whose first field isn't `N`", or `X` (document 02, F-7)
unfoldable pub in_body : List Bytes → Bool
in_body [] = false
in_body (w ∷ fs) = is w (bytes "N") || is w (bytes "X")
