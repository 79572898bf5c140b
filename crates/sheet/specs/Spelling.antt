-- Document 01, Values and types: how types and values are spelled, read and written. Any nesting may be spelled; a limit is
-- a matter of Refusals.antt. proofs/Spelling.antt: what is written is read back.
use Rattle.std.specs.Prelude.{ℕ, zero, suc, Bool, true, false, ◌∷◌, ◌++◌, length}
use Prim.Native.String.{String}
use Rattle.std.proofs.Math.Option.{Option}
use Rattle.reals.specs.Reals.{Number, int, real}
use Rattle.reals.specs.Spelling.{spell_real}
use Rattle.ocl.specs.Types.{Simple, any, boolean, integer, class, Kind, set, sequence, bag, Letter, collection, exactly, Ty, void, simple, around, Any, Boolean, Integer, Real, Class}
use Rattle.ocl.specs.Values.{Value, bool, num, obj, coll, Values, nil, cons}
use Rattle.sheet.specs.Text.{Bytes, byte, bytes, Parser, nothing, literal, behind, ◌or◌, ◌then◌, mapped, whole, number_parser, integer_parser, real_parser, spell_number, spell_integer}

-- ---- "`Void`, `Bool`, `Int`, `Any`, `#c` (class c), and `S`, `Q`, `B` or `C` (Collection) around a type, as `S(#2)`"

-- a letter, a bracket, a type, a bracket
unfoldable pub collection_type : String → Letter → Parser Ty → Parser Ty
collection_type w l p = behind w (p then (λ t. literal ")" (around l t)))

-- a type with fewer than n letters around one another
unfoldable pub type_parser : ℕ → Parser Ty
type_parser zero = nothing
type_parser (suc n) =
    literal "Void" void
    or literal "Bool" Boolean
    or literal "Int" Integer
    or literal "Real" Real
    or literal "Any" Any
    or behind "#" (mapped Class number_parser)
    or collection_type "S(" (exactly set) (type_parser n)
    or collection_type "Q(" (exactly sequence) (type_parser n)
    or collection_type "B(" (exactly bag) (type_parser n)
    or collection_type "C(" collection (type_parser n)

-- a field that spells a type; it has fewer letters than bytes
unfoldable pub read_type : Bytes → Option Ty
read_type f = whole (type_parser (length f)) f

unfoldable pub letter_byte : Letter → ℕ
letter_byte collection = byte "C"
letter_byte (exactly set) = byte "S"
letter_byte (exactly sequence) = byte "Q"
letter_byte (exactly bag) = byte "B"

unfoldable pub spell_simple : Simple → Bytes
spell_simple any = bytes "Any"
spell_simple boolean = bytes "Bool"
spell_simple integer = bytes "Int"
spell_simple Simple.real = bytes "Real"
spell_simple (class c) = byte "#" ∷ spell_number c

unfoldable pub spell_type : Ty → Bytes
spell_type void = bytes "Void"
spell_type (simple a) = spell_simple a
spell_type (around l t) = letter_byte l ∷ byte "(" ∷ spell_type t ++ bytes ")"

-- ---- values, undefined left out: a V line's value "holds no `u` (else 3)", and "Undefined is never a member"

-- a value, a collection's members after its bracket, and those after a member, in at most n parts
unfoldable mutual
  pub value_parser : ℕ → Parser Value
  value_parser zero = nothing
  value_parser (suc n) =
      literal "t" (bool true)
      or literal "f" (bool false)
      or mapped (λ z. num (int z)) integer_parser
      or mapped (λ r. num (real r)) real_parser
      or behind "@" (mapped obj number_parser)
      or behind "S(" (mapped (coll set) (members_parser n))
      or behind "Q(" (mapped (coll sequence) (members_parser n))
      or behind "B(" (mapped (coll bag) (members_parser n))

  pub members_parser : ℕ → Parser Values
  members_parser zero = nothing
  members_parser (suc n) = literal ")" nil or (value_parser n then (λ v. mapped (cons v) (more_parser n)))

  pub more_parser : ℕ → Parser Values
  more_parser zero = nothing
  more_parser (suc n) = literal ")" nil or behind "," (value_parser n then (λ v. mapped (cons v) (more_parser n)))

-- a field that spells a value; it has no more parts than bytes
unfoldable pub read_value : Bytes → Option Value
read_value f = whole (value_parser (length f)) f

unfoldable pub kind_byte : Kind → ℕ
kind_byte k = letter_byte (exactly k)

unfoldable pub spell_bool : Bool → Bytes
spell_bool true = bytes "t"
spell_bool false = bytes "f"

unfoldable pub spell_num : Number → Bytes
spell_num (int z) = spell_integer z
spell_num (real r) = spell_real r

unfoldable mutual
  pub spell_value : Value → Bytes
  spell_value (bool b) = spell_bool b
  spell_value (num x) = spell_num x
  spell_value (obj o) = byte "@" ∷ spell_number o
  spell_value (coll k vs) = kind_byte k ∷ byte "(" ∷ spell_members vs

  -- the members, separated by commas, and the bracket after them
  pub spell_members : Values → Bytes
  spell_members nil = bytes ")"
  spell_members (cons v vs) = spell_value v ++ spell_more vs

  pub spell_more : Values → Bytes
  spell_more nil = bytes ")"
  spell_more (cons v vs) = byte "," ∷ spell_value v ++ spell_more vs
