-- Each form passes a stop upward; the ends of the range by computation. Assumes nothing.
use mathlib.Core.Path.{◌≡◌, refl}
use mathlib.Core.Bool.{not}
use Prim.Native.Nat.{ℕ, ◌≤◌}
use native.Mathlib.Omega.{arith}
use Rattle.reals.specs.Reals.{in_range}
use Rattle.ocl.specs.Environment.{Env}
use Rattle.ocl.specs.Values.{Value, bool}
use Rattle.ocl.specs.Forms.{Connective, and, or}
use Rattle.ocl.specs.Operations.{value, stop, Stop, step_stop, size_stop, range_stop, ranged, unless_zero, quotient, remainder, arithmetic, division}
use Rattle.ocl.specs.Evaluation.{Run, unary_run, binary_run, decides, connective_run, is_undef_run, conditional_run, let_run, attribute_run, call_run, seek, quantified_run, fold, iterate_run, operand_run}
use Rattle.ocl.specs.Stops.{Upward, least, greatest, RangeEnds}

pub upward : Upward
unfolding unary_run binary_run decides connective_run is_undef_run conditional_run let_run attribute_run call_run seek quantified_run fold iterate_run operand_run
upward = record {
  of_unary = λ s op f ρ n c m e. rw e;
  of_left = λ k op f g ρ n c m e. rw e;
  of_first_side = λ o f g ρ n c m e. rw e;
  of_is_undef = λ f ρ n c m e. rw e;
  of_condition = λ f g h ρ n c m e. rw e;
  of_bound = λ i f g ρ n c m e. rw e;
  of_attribute = λ s x k f ρ n c m e. rw e;
  of_called = λ s d f g ρ n c m e. rw e;
  of_source = λ q i f g ρ n c m e. rw e;
  of_iterated = λ i j f g h ρ n c m e. rw e;
  of_member = λ k vs f g ρ n c m e. rw e;
  of_right = λ k op f g ρ n p c m v d t e. rw (d, t, e);
  of_second_side = λ o f g ρ n p c m d e. second o f g ρ n p c m d e;
  after_undefined = λ o f g ρ n p c m d e. rw (d, e);
  of_then = λ f g h ρ n p c m d e. rw (d, e);
  of_else = λ f g h ρ n p c m d e. rw (d, e);
  of_let = λ i f g ρ n p c m v d e. rw (d, e);
  of_definition = λ s d f g ρ n p c m o e t h. rw (e, t, h);
  of_body = λ q body blank v vs n c m e. rw e;
  of_start = λ i j f g h ρ n p c m k vs d e. rw (d, e);
  of_turn = λ body v vs a n c m e. rw e;
}
  where
    second : (o : Connective) (f g : Run) (ρ : Env Value) (n p c m : ℕ) → f ρ n ≡ value (bool (not (decides o))) p → g ρ p ≡ stop c m → connective_run o f g ρ n ≡ stop c m
    second and f g ρ n p c m d e = rw (d, e)
    second or f g ρ n p c m d e = rw (d, e)

-- where the numbers of the stops lie
pub stop_within : {c : ℕ} → Stop c → (16 ≤ c) × (c ≤ 19)
stop_within step_stop = (omega arith, omega arith)
stop_within size_stop = (omega arith, omega arith)
stop_within range_stop = (omega arith, omega arith)

pub range_ends : RangeEnds
unfolding in_range ranged unless_zero quotient remainder arithmetic division least greatest
range_ends = record {
  plus_over = refl;
  plus_under = refl;
  minus_over = refl;
  minus_under = refl;
  times_over = refl;
  times_under = refl;
  div_over = refl;
  plus_greatest = refl;
  minus_least = refl;
  times_least = refl;
  div_least = refl;
  mod_least = refl;
  div-zero = refl;
  mod-zero = refl;
}
