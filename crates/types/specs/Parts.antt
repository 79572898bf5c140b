-- The parts of a type that typing asks for. Document 01, The forms and their typing.
use Rattle.std.specs.Prelude.{Bool, true, false, ℕ, Option as Optional, Some, None}
use Rattle.std.proofs.Math.Option.{Option, none, some}
use Rattle.ocl.specs.Types.{Simple, any, boolean, integer, real, class, set, sequence, bag, Letter, collection, exactly, Ty, void, simple, around}

-- a letter's code
unfoldable pub code_of : Letter → ℕ
code_of collection = 1
code_of (exactly set) = 2
code_of (exactly sequence) = 3
code_of (exactly bag) = 4

-- the code of the outermost letter, 0 where there is none
unfoldable pub outer_code : Ty → ℕ
outer_code void = 0
outer_code (simple a) = 0
outer_code (around l t) = code_of l

-- a collection's member type; any other type is left as it is
unfoldable pub member_type : Ty → Ty
member_type void = void
member_type (simple a) = simple a
member_type (around l t) = t

-- the class, where the type is one; Void is none
unfoldable pub simple_class : Simple → Option ℕ
simple_class any = none
simple_class boolean = none
simple_class integer = none
simple_class real = none
simple_class (class c) = some c

unfoldable pub class_of : Ty → Option ℕ
class_of void = none
class_of (simple a) = simple_class a
class_of (around l t) = none

unfoldable pub is_any : Ty → Bool
is_any void = false
is_any (simple any) = true
is_any (simple boolean) = false
is_any (simple integer) = false
is_any (simple real) = false
is_any (simple (class c)) = false
is_any (around l t) = false

-- what the code answers for a class
unfoldable pub class_number : Optional ℕ → Option ℕ
class_number (Some c) = some c
class_number None = none
