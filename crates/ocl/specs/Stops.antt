-- Document 02, F-5: every form passes a stop upward, 19 as it does 16 and 17, and each operation at the ends of the range.
use Rattle.std.specs.Prelude.{◌≡◌, Bool, true, false, not, ℕ, ◌-◌, ℤ, pos, negsuc}
use Rattle.laws.specs.Integers.{integer_end}
use Rattle.reals.specs.Reals.{int, result, no_result, over_range}
use Rattle.ocl.specs.Types.{class, Kind}
use Rattle.ocl.specs.Values.{Value, bool, obj, coll, Values, cons}
use Rattle.ocl.specs.Model.{Model, is_a}
use Rattle.ocl.specs.Environment.{Env, extend, start}
use Rattle.ocl.specs.Forms.{plus, minus, times, div, modulo, Connective, Quantifier, Access, Unary, Binary}
use Rattle.ocl.specs.Marks.{Mark}
use Rattle.ocl.specs.Operations.{Outcome, value, undefined, stop, arithmetic, division, left_fits}
use Rattle.ocl.specs.Evaluation.{Run, unary_run, binary_run, decides, connective_run, is_undef_run, conditional_run, let_run, attribute_run, call_run, seek, quantified_run, fold, iterate_run, Gather, operand_run}

-- where f stops, so does g, with the same number and the same steps
abbrev pub Passes : Run → Run → Type 0
Passes f g = (ρ : Env Value) (n c m : ℕ) → f ρ n ≡ stop c m → g ρ n ≡ stop c m

pub record Upward : Type 0 where
  -- the operand that runs first, in each form that has one
  pub of_unary : (s : Model) (op : Unary) (f : Run) → Passes f (unary_run s op f)
  pub of_left : (k : Mark) (op : Binary) (f g : Run) → Passes f (binary_run k op f g)
  pub of_first_side : (c : Connective) (f g : Run) → Passes f (connective_run c f g)
  pub of_is_undef : (f : Run) → Passes f (is_undef_run f)
  pub of_condition : (f g h : Run) → Passes f (conditional_run f g h)
  pub of_bound : (i : ℕ) (f g : Run) → Passes f (let_run i f g)
  pub of_attribute : (s : Model) (x : Access) (k : Mark) (f : Run) → Passes f (attribute_run s x k f)
  pub of_called : (s : Model) (d : ℕ) (f g : Run) → Passes f (call_run s d f g)
  pub of_source : (q : Quantifier) (i : ℕ) (f g : Run) → Passes f (quantified_run q i f g)
  pub of_iterated : (i j : ℕ) (f g h : Run) → Passes f (iterate_run i j f g h)
  pub of_member : (k : Kind) (vs : Values) (f : Run) (g : Gather) → Passes f (operand_run f g k vs)
  -- an operand that runs later: the right side after a left one that does not decide, also an undefined one
  pub of_right : (k : Mark) (op : Binary) (f g : Run) (ρ : Env Value) (n p c m : ℕ) (v : Value) → f ρ n ≡ value v p → left_fits k op v ≡ true
      → g ρ p ≡ stop c m → binary_run k op f g ρ n ≡ stop c m
  pub of_second_side : (o : Connective) (f g : Run) (ρ : Env Value) (n p c m : ℕ) → f ρ n ≡ value (bool (not (decides o))) p
      → g ρ p ≡ stop c m → connective_run o f g ρ n ≡ stop c m
  pub after_undefined : (o : Connective) (f g : Run) (ρ : Env Value) (n p c m : ℕ) → f ρ n ≡ undefined p
      → g ρ p ≡ stop c m → connective_run o f g ρ n ≡ stop c m
  -- the branch that runs
  pub of_then : (f g h : Run) (ρ : Env Value) (n p c m : ℕ) → f ρ n ≡ value (bool true) p → g ρ p ≡ stop c m
      → conditional_run f g h ρ n ≡ stop c m
  pub of_else : (f g h : Run) (ρ : Env Value) (n p c m : ℕ) → f ρ n ≡ value (bool false) p → h ρ p ≡ stop c m
      → conditional_run f g h ρ n ≡ stop c m
  -- a body: of `let`, of a definition, of a quantifier whatever later members would say, of `iter`; and its start value
  pub of_let : (i : ℕ) (f g : Run) (ρ : Env Value) (n p c m : ℕ) (v : Value) → f ρ n ≡ value v p → g (extend ρ i v) p ≡ stop c m
      → let_run i f g ρ n ≡ stop c m
  pub of_definition : (s : Model) (d : ℕ) (f g : Run) (ρ : Env Value) (n p c m o : ℕ) → f ρ n ≡ value (obj o) p → is_a s o (class d) ≡ true
      → g (start (obj o)) p ≡ stop c m → call_run s d f g ρ n ≡ stop c m
  pub of_body : (q : Quantifier) (body : Value → ℕ → Outcome) (blank : Bool) (v : Value) (vs : Values) (n c m : ℕ) → body v n ≡ stop c m
      → seek q body blank (cons v vs) n ≡ stop c m
  pub of_start : (i j : ℕ) (f g h : Run) (ρ : Env Value) (n p c m : ℕ) (k : Kind) (vs : Values) → f ρ n ≡ value (coll k vs) p
      → g ρ p ≡ stop c m → iterate_run i j f g h ρ n ≡ stop c m
  pub of_turn : (body : Value → Value → ℕ → Outcome) (v : Value) (vs : Values) (a : Value) (n c m : ℕ) → body v a n ≡ stop c m
      → fold body (cons v vs) a n ≡ stop c m

unfoldable pub least : ℤ
least = negsuc (integer_end - 1)

unfoldable pub greatest : ℤ
greatest = pos (integer_end - 1)

pub record RangeEnds : Type 0 where
  pub plus_over : arithmetic plus greatest (pos 1) ≡ over_range
  pub plus_under : arithmetic plus least (negsuc 0) ≡ over_range
  pub minus_over : arithmetic minus greatest (negsuc 0) ≡ over_range
  pub minus_under : arithmetic minus least (pos 1) ≡ over_range
  pub times_over : arithmetic times least (negsuc 0) ≡ over_range
  pub times_under : arithmetic times least (pos 2) ≡ over_range
  pub div_over : division div least (negsuc 0) ≡ over_range
  -- the ends themselves are in range, and `mod` never leaves it
  pub plus_greatest : arithmetic plus greatest (pos 0) ≡ result (int greatest)
  pub minus_least : arithmetic minus (negsuc 0) greatest ≡ result (int least)
  pub times_least : arithmetic times least (pos 1) ≡ result (int least)
  pub div_least : division div least (pos 1) ≡ result (int least)
  pub mod_least : division modulo least (negsuc 0) ≡ result (int (pos 0))
  -- a zero divisor, whatever is divided
  pub div-zero : division div least (pos 0) ≡ no_result
  pub mod-zero : division modulo least (pos 0) ≡ no_result
