-- Which operations may give undefined: `undef`, `as`, a division, `attr` and `collect`, and no other. Assumes nothing.
use mathlib.Core.Bool.{Bool, true, false}
use mathlib.Core.Option.{Option, none, some}
use Prim.Native.Nat.{ℕ}
use lib.IntN.{ℤ}
use lib.Dec.{leb}
use Rattle.std.specs.Prelude.{if◌then◌else◌}
use Rattle.reals.specs.Reals.{Real, Number, int, real, in_range, result, over_range, settled, operate, calculated}
use Rattle.ocl.specs.Types.{Kind, same_kind}
use Rattle.ocl.specs.Values.{Value, bool, num, obj, coll, Values, size}
use Rattle.ocl.specs.Model.{Model}
use Rattle.ocl.specs.Environment.{Env}
use Rattle.ocl.specs.Forms.{Arith, plus, minus, times, Leaf, truth, undef, number, self, var, all, Unary, negation, size_of, convert, cast_to, Binary, equal, less, arith, divide, over, includes, including, union, Expr, Form, leaf, unary, binary}
use Rattle.ocl.specs.Marks.{Scale, integers, reals, Mark, scale_marked}
use Rattle.ocl.specs.Operations.{Outcome, value, stuck, stop, form, on_bool, on_int, on_num, on_coll, on_two, resulting, ranged, arithmetic, operation_of, unary_apply, binary_apply}
use Rattle.ocl.specs.Evaluation.{bound, leaf_run}
use Rattle.ocl.specs.Origin.{Source, from_undef, from_cast, from_division, from_over}

-- not undefined
pub data Sure : Outcome → Type 0 where
  sure_value : {v : Value} {n : ℕ} → Sure (value v n)
  sure_stuck : Sure stuck
  sure_stop : {c n : ℕ} → Sure (stop c n)

-- what a form makes of defined operands: undefined only where the form may give it
pub data Gives (f : Form) (o : Outcome) : Type 0 where
  sure : Sure o → Gives f o
  source : Source f → Gives f o

sure_if : {x y : Outcome} (b : Bool) → Sure x → Sure y → Sure (if b then x else y)
sure_if true h k = h
sure_if false h k = k

pub sure_form : (v : Value) (n : ℕ) → Sure (form v n)
unfolding form
sure_form v n = sure_if (leb (size v) 128) sure_value sure_stop

sure_bound : (o : Option Value) (n : ℕ) → Sure (bound o n)
sure_bound none n = sure_stuck
sure_bound (some v) n = sure_value

sure_bool : {k : Bool → Outcome} (v : Value) → ((b : Bool) → Sure (k b)) → Sure (on_bool v k)
sure_bool (bool b) h = h b
sure_bool (num x) h = sure_stuck
sure_bool (obj o) h = sure_stuck
sure_bool (coll c vs) h = sure_stuck

sure_int : {k : ℤ → Outcome} (v : Value) → ((z : ℤ) → Sure (k z)) → Sure (on_int v k)
sure_int (bool b) h = sure_stuck
sure_int (num (int z)) h = h z
sure_int (num (real r)) h = sure_stuck
sure_int (obj o) h = sure_stuck
sure_int (coll c vs) h = sure_stuck

sure_num : {k : Number → Outcome} (v : Value) → ((x : Number) → Sure (k x)) → Sure (on_num v k)
sure_num (bool b) h = sure_stuck
sure_num (num x) h = h x
sure_num (obj o) h = sure_stuck
sure_num (coll c vs) h = sure_stuck

sure_coll : {k : Kind → Values → Outcome} (v : Value) → ((c : Kind) (vs : Values) → Sure (k c vs)) → Sure (on_coll v k)
sure_coll (bool b) h = sure_stuck
sure_coll (num x) h = sure_stuck
sure_coll (obj o) h = sure_stuck
sure_coll (coll c vs) h = h c vs

sure_two : {f : ℤ → ℤ → Outcome} {g : Number → Number → Outcome} (x : Scale) (v w : Value) → ((y z : ℤ) → Sure (f y z)) → ((y z : Number) → Sure (g y z)) → Sure (on_two x v w f g)
sure_two integers v w h k = sure_int v (λ y. sure_int w (λ z. h y z))
sure_two reals v w h k = sure_num v (λ y. sure_num w (λ z. k y z))

-- ---- over the range is a stop, so that arithmetic gives undefined only by a zero divisor

sure_ranged : (z : ℤ) (n : ℕ) → Sure (resulting (ranged z) n)
unfolding ranged
sure_ranged z n = by (in_range z)
  where
    by : (b : Bool) → Sure (resulting (if b then result (int z) else over_range) n)
    by true = sure_value
    by false = sure_stop

sure_arithmetic : (o : Arith) (x y : ℤ) (n : ℕ) → Sure (resulting (arithmetic o x y) n)
unfolding arithmetic
sure_arithmetic plus x y n = sure_ranged _ n
sure_arithmetic minus x y n = sure_ranged _ n
sure_arithmetic times x y n = sure_ranged _ n

sure_settled : (o : Option Real) (n : ℕ) → Sure (resulting (settled o) n)
unfolding settled
sure_settled none n = sure_stop
sure_settled (some r) n = sure_value

sure_calculated : (o : Arith) (x y : Number) (n : ℕ) → Sure (resulting (calculated (operation_of o) x y) n)
unfolding calculated operate operation_of
sure_calculated plus x y n = sure_settled _ n
sure_calculated minus x y n = sure_settled _ n
sure_calculated times x y n = sure_settled _ n

-- ---- the forms

module _ (s : Model) where
  pub leaf_gives : (x : Leaf) (ρ : Env Value) (n : ℕ) → Gives (leaf x) (leaf_run s x ρ n)
  unfolding leaf_run
  leaf_gives (truth b) ρ n = sure sure_value
  leaf_gives undef ρ n = source from_undef
  leaf_gives (number x) ρ n = sure sure_value
  leaf_gives self ρ n = sure (sure_bound (ρ 0) n)
  leaf_gives (var i) ρ n = sure (sure_bound (ρ i) n)
  leaf_gives (all c) ρ n = sure (sure_form _ n)

  pub unary_gives : (op : Unary) (a : Expr) (v : Value) (n : ℕ) → Gives (unary op a) (unary_apply s op v n)
  unfolding unary_apply
  unary_gives negation a v n = sure (sure_bool v (λ b. sure_value))
  unary_gives size_of a v n = sure (sure_coll v (λ k vs. sure_value))
  unary_gives (convert k) a v n = sure (sure_coll v (λ j vs. sure_form _ n))
  unary_gives (cast_to c) a v n = source from_cast

pub binary_gives : (m : Mark) (op : Binary) (a b : Expr) (v w : Value) (n : ℕ) → Gives (binary op a b) (binary_apply m op v w n)
unfolding binary_apply
binary_gives m equal a b v w n = sure sure_value
binary_gives m less a b v w n = sure (sure_two (scale_marked m) v w (λ x y. sure_value) (λ x y. sure_value))
binary_gives m (arith o) a b v w n = sure (sure_two (scale_marked m) v w (λ x y. sure_arithmetic o x y n) (λ x y. sure_calculated o x y n))
binary_gives m (divide o) a b v w n = source from_division
binary_gives m over a b v w n = source from_over
binary_gives m includes a b v w n = sure (sure_coll v (λ k vs. sure_value))
binary_gives m including a b v w n = sure (sure_coll v (λ k vs. sure_form _ n))
binary_gives m union a b v w n = sure (sure_coll v (λ j vs. sure_coll w (λ k ws. sure_if (same_kind j k) (sure_form _ n) sure_stuck)))
