-- Document 01, Evaluation: how an evaluation may end, and what an operation gives once its operands have values.
use Rattle.std.specs.Prelude.{Bool, true, false, not, ℕ, zero, suc, ◌/◌, ◌%◌, ℤ, pos, negsuc, neg_ℤ, nat_abs, ◌+ℤ◌, ◌-ℤ◌, ◌*ℤ◌, leb}
use Rattle.std.proofs.Math.Option.{Option, none, some}
use Rattle.laws.specs.Choice.{on_some, map_some}
use Rattle.std.specs.Prelude.{if◌then◌else◌}
use Rattle.reals.specs.Reals.{Number, int, real, in_range, order_int, is_less, Operation, Result, result, no_result, over_range, calculated, lesser}
use Rattle.ocl.specs.Types.{class, Kind, same_kind}
use Rattle.ocl.specs.Values.{Value, bool, num, obj, coll, Values, nil, cons, count, size, largest, same, has, append, add, add_all}
use Rattle.ocl.specs.Model.{Model, is_a, every}
use Rattle.ocl.specs.Forms.{Arith, plus, minus, times, Division, div, modulo, Access, of_object, of_members, Unary, negation, size_of, convert, cast_to, Binary, equal, less, arith, divide, over, includes, including, union}
use Rattle.ocl.specs.Marks.{Scale, integers, reals, Mark, row_marked, kind_marked, scale_marked}

-- a value, or undefined, with the steps begun; stuck (document 01's word): an operand of a kind that the form does not take, or an
-- unbound variable; or a stop with its number and the steps begun
pub data Outcome : Type 0 where
  value : Value → ℕ → Outcome
  undefined : ℕ → Outcome
  stuck : Outcome
  stop : ℕ → ℕ → Outcome

-- a stop's number: the step stop, the size stop (document 01's words), and over the range (document 02, F-5)
pub data Stop : ℕ → Type 0 where
  step_stop : Stop 16
  size_stop : Stop 17
  range_stop : Stop 19

-- the steps that an outcome returns
unfoldable pub steps_of : Outcome → ℕ
steps_of (value v n) = n
steps_of (undefined n) = n
steps_of stuck = 0
steps_of (stop c n) = n

-- a collection is formed; 17 where "a value over 128 would be formed"
unfoldable pub form : Value → ℕ → Outcome
form v n = if leb (size v) largest then value v n else stop 17 n

-- a value, or undefined where there is none
abbrev pub given : Option Value → ℕ → Outcome
given none n = undefined n
given (some v) n = value v n

-- ---- "An operand of a kind they don't name .. ends the whole evaluation in the outcome *stuck*"

abbrev pub on_bool : Value → (Bool → Outcome) → Outcome
on_bool (bool b) k = k b
on_bool (num x) k = stuck
on_bool (obj o) k = stuck
on_bool (coll c vs) k = stuck

abbrev pub on_int : Value → (ℤ → Outcome) → Outcome
on_int (bool b) k = stuck
on_int (num (int z)) k = k z
on_int (num (real r)) k = stuck
on_int (obj o) k = stuck
on_int (coll c vs) k = stuck

-- Integers and Reals
abbrev pub on_num : Value → (Number → Outcome) → Outcome
on_num (bool b) k = stuck
on_num (num x) k = k x
on_num (obj o) k = stuck
on_num (coll c vs) k = stuck

abbrev pub on_obj : Value → (ℕ → Outcome) → Outcome
on_obj (bool b) k = stuck
on_obj (num x) k = stuck
on_obj (obj o) k = k o
on_obj (coll c vs) k = stuck

abbrev pub on_coll : Value → (Kind → Values → Outcome) → Outcome
on_coll (bool b) k = stuck
on_coll (num x) k = stuck
on_coll (obj o) k = stuck
on_coll (coll c vs) k = k c vs

-- document 02, F-8: two Integers where both operands were typed below Int, else two numbers of either kind
abbrev pub on_two : Scale → Value → Value → (ℤ → ℤ → Outcome) → (Number → Number → Outcome) → Outcome
on_two integers v w f g = on_int v (λ x. on_int w (λ y. f x y))
on_two reals v w f g = on_num v (λ x. on_num w (λ y. g x y))

-- ---- numbers

-- document 02, F-5: "outside the Integer range is now a stop ..; a zero divisor remains undefined"; F-8: "An infinite result is 19"
abbrev pub resulting : Result → ℕ → Outcome
resulting (result x) n = value (num x) n
resulting no_result n = undefined n
resulting over_range n = stop 19 n

unfoldable pub ranged : ℤ → Result
ranged z = if in_range z then result (int z) else over_range

unfoldable pub arithmetic : Arith → ℤ → ℤ → Result
arithmetic plus x y = ranged (x +ℤ y)
arithmetic minus x y = ranged (x -ℤ y)
arithmetic times x y = ranged (x *ℤ y)

unfoldable pub unless_zero : ℤ → Result → Result
unless_zero (pos zero) r = no_result
unless_zero (pos (suc n)) r = r
unless_zero (negsuc n) r = r

-- "`div` cuts toward zero"
unfoldable pub quotient : ℤ → ℤ → ℤ
quotient (pos a) (pos b) = pos (a / b)
quotient (pos a) (negsuc b) = neg_ℤ (pos (a / suc b))
quotient (negsuc a) (pos b) = neg_ℤ (pos (suc a / b))
quotient (negsuc a) (negsuc b) = pos (suc a / suc b)

-- "`mod` is the exact remainder with the dividend's sign"
unfoldable pub remainder : ℤ → ℤ → ℤ
remainder (pos a) y = pos (a % nat_abs y)
remainder (negsuc a) y = neg_ℤ (pos (suc a % nat_abs y))

unfoldable pub division : Division → ℤ → ℤ → Result
division div x y = unless_zero y (ranged (quotient x y))
division modulo x y = unless_zero y (ranged (remainder x y))

-- the binary64 operation of each form
unfoldable pub operation_of : Arith → Operation
operation_of plus = Operation.plus
operation_of minus = Operation.minus
operation_of times = Operation.times

-- ---- `all c`

-- "`all` is every object of c or below": those among the first n
unfoldable pub instances : Model → ℕ → ℕ → Values
instances s c zero = nil
instances s c (suc n) = if is_a s n (class c) then append (obj n) (instances s c n) else instances s c n

-- ---- one strict operand

-- "`as` takes any value but a collection and is undefined unless it is an object of c or below"
unfoldable pub cast : Model → ℕ → Value → ℕ → Outcome
cast s c (bool b) n = undefined n
cast s c (num x) n = undefined n
cast s c (obj o) n = if is_a s o (class c) then value (obj o) n else undefined n
cast s c (coll k vs) n = stuck

unfoldable pub unary_apply : Model → Unary → Value → ℕ → Outcome
unary_apply s negation v n = on_bool v (λ b. value (bool (not b)) n)
unary_apply s size_of v n = on_coll v (λ k vs. value (num (int (pos (count vs)))) n)
-- "`asSequence` keeps the stored order; `asSet` drops repeats": members are added one by one in their stored order
unary_apply s (convert k) v n = on_coll v (λ j vs. form (coll k (add_all k vs nil)) n)
unary_apply s (cast_to c) v n = cast s c v n

-- ---- two strict operands

abbrev pub is_int : Value → Bool
is_int (bool b) = false
is_int (num (int z)) = true
is_int (num (real r)) = false
is_int (obj o) = false
is_int (coll k vs) = false

abbrev pub is_num : Value → Bool
is_num (bool b) = false
is_num (num x) = true
is_num (obj o) = false
is_num (coll k vs) = false

abbrev pub is_coll : Value → Bool
is_coll (bool b) = false
is_coll (num x) = false
is_coll (obj o) = false
is_coll (coll k vs) = true

abbrev pub on_scale : Scale → Value → Bool
on_scale integers v = is_int v
on_scale reals v = is_num v

-- the left operand's kind, "seen as soon as it is defined": before the right one runs
unfoldable pub left_fits : Mark → Binary → Value → Bool
left_fits m equal v = true
left_fits m less v = on_scale (scale_marked m) v
left_fits m (arith o) v = on_scale (scale_marked m) v
left_fits m (divide o) v = is_int v
left_fits m over v = is_num v
left_fits m includes v = is_coll v
left_fits m including v = is_coll v
left_fits m union v = is_coll v

-- document 02, F-8: by Integers a node "goes as before (typing marks it), otherwise both are widened and one binary64 operation
-- decides"; `over` is always of Reals
unfoldable pub binary_apply : Mark → Binary → Value → Value → ℕ → Outcome
binary_apply m equal v w n = value (bool (same v w)) n
binary_apply m less v w n = on_two (scale_marked m) v w (λ x y. value (bool (is_less (order_int x y))) n) (λ x y. value (bool (lesser x y)) n)
binary_apply m (arith o) v w n =
    on_two (scale_marked m) v w (λ x y. resulting (arithmetic o x y) n) (λ x y. resulting (calculated (operation_of o) x y) n)
binary_apply m (divide o) v w n = on_int v (λ x. on_int w (λ y. resulting (division o x y) n))
binary_apply m over v w n = on_num v (λ x. on_num w (λ y. resulting (calculated Operation.over x y) n))
binary_apply m includes v w n = on_coll v (λ k vs. value (bool (has w vs)) n)
binary_apply m including v w n = on_coll v (λ k vs. form (coll k (add k w vs)) n)
-- "`union` joins, merges or adds up" two of one kind
binary_apply m union v w n = on_coll v (λ j vs. on_coll w (λ k ws. if same_kind j k then form (coll j (add_all j ws vs)) n else stuck))

-- ---- attributes

-- is the value "an object of the row's class or below"
unfoldable pub has_row : Model → ℕ → Value → Bool
has_row s i (bool b) = false
has_row s i (num x) = false
has_row s i (obj o) = is_a s o (class (s.row i).owner)
has_row s i (coll k vs) = false

-- its value in the row; `has_row` is asked first, so that only objects come here
unfoldable pub value_in_row : Model → ℕ → Value → Option Value
value_in_row s i (bool b) = none
value_in_row s i (num x) = none
value_in_row s i (obj o) = s.value_of o i
value_in_row s i (coll k vs) = none

-- each member's value in the row, in the stored order; none where one member's is undefined
unfoldable pub values_in_row : Model → ℕ → Values → Option Values
values_in_row s i nil = some nil
values_in_row s i (cons v vs) = on_some (value_in_row s i v) (λ w. map_some (cons w) (values_in_row s i vs))

-- document 02, F-4: "A member whose value is undefined makes the whole undefined, before 17. Nothing is flattened"
abbrev pub form_all : Kind → Option Values → ℕ → Outcome
form_all k none n = undefined n
form_all k (some ws) n = form (coll k (add_all k ws nil)) n

-- `attr` takes "an object of the row's class or below", `collect` "a collection of objects of the row's class or below"; a mark has the row
unfoldable pub access : Model → Access → Mark → Value → ℕ → Outcome
access s of_object m v n = if has_row s (row_marked m) v then given (value_in_row s (row_marked m) v) n else stuck
access s of_members m v n = on_coll v (λ k vs. if every (has_row s (row_marked m)) vs then form_all (kind_marked m) (values_in_row s (row_marked m) vs) n else stuck)
