-- No run returns more than 1,000,000 steps, typed or not, nor fewer than had begun before it, and each stop is one of those that are
-- named: a law for each piece that evaluation is written in, and one induction over the forms. Assumes nothing.
use mathlib.Core.Bool.{Bool, true, false, beq}
use mathlib.Core.Option.{Option, none, some}
use Prim.Native.Nat.{ℕ, ◌+◌, ◌≤◌, ◌<◌}
use native.Mathlib.Omega.{arith as linear}
use lib.IntN.{ℤ}
use lib.Dec.{ltb, ltb→lt, leb}
use Rattle.std.specs.Prelude.{if◌then◌else◌}
use Rattle.laws.proofs.Tests.{by-if}
use Rattle.reals.specs.Reals.{Number, int, real, Operation, Result, result, no_result, over_range, calculated}
use Rattle.ocl.specs.Types.{class, Kind, same_kind}
use Rattle.ocl.specs.Values.{Value, bool, num, obj, coll, Values, nil, cons, size, add}
use Rattle.ocl.specs.Model.{Model, is_a, every}
use Rattle.ocl.specs.Environment.{Env, extend, start}
use Rattle.ocl.specs.Forms.{Connective, Quantifier, Access, of_object, of_members, Leaf, truth, undef, number, self, var, all, Unary, negation, size_of, convert, cast_to, Binary, equal, less, arith, includes, including, union, Expr, node, Form, leaf, unary, binary, connective, is_undef, conditional, let_in, attribute, call, quantified, iterate, assemble, Operands, no_operand, operand, divide, over}
use Rattle.ocl.specs.Marks.{Mark, row_marked, kind_marked, Scale, integers, reals, scale_marked}
use Rattle.ocl.specs.Operations.{Outcome, value, undefined, stuck, stop, Stop, step_stop, size_stop, range_stop, steps_of, form, given, on_bool, on_int, on_obj, on_coll, resulting, arithmetic, cast, unary_apply, left_fits, binary_apply, has_row, value_in_row, values_in_row, form_all, access, on_num, on_two, division, operation_of}
use Rattle.ocl.specs.Evaluation.{Run, resume, bind, tick, bound, leaf_run, unary_run, binary_run, decides, connective_run, is_undef_run, conditional_run, let_run, attribute_run, call_run, ends_at, seek, quantified_run, fold, iterate_run, Gather, no_operand_run, operand_run, assemble_run, evaluation, form_run, operands_run, evaluate_rule}

-- L of the steps
pub data Counted (L : ℕ → Type 0) : Outcome → Type 0 where
  limited_value : {v : Value} {n : ℕ} → L n → Counted L (value v n)
  limited_undefined : {n : ℕ} → L n → Counted L (undefined n)
  limited_stuck : Counted L stuck
  limited_stop : {c n : ℕ} → Stop c → L n → Counted L (stop c n)

abbrev pub Limited : Outcome → Type 0
Limited o = Counted (λ n. n ≤ 1000000) o

-- what follows a value, or undefined, has L of its steps if those so far have
abbrev pub After : (ℕ → Type 0) → (Value → ℕ → Outcome) → Type 0
After L f = (v : Value) (n : ℕ) → L n → Counted L (f v n)

-- ---- the pieces of evaluation

limited_resume : {L : ℕ → Type 0} {o : Outcome} {f : Value → ℕ → Outcome} {g : ℕ → Outcome} → Counted L o → After L f → ((n : ℕ) → L n → Counted L (g n)) → Counted L (resume o f g)
limited_resume (limited_value {v} {n} l) h k = h v n l
limited_resume (limited_undefined {n} l) h k = k n l
limited_resume limited_stuck h k = limited_stuck
limited_resume (limited_stop b l) h k = limited_stop b l

limited_bind : {L : ℕ → Type 0} {o : Outcome} {f : Value → ℕ → Outcome} → Counted L o → After L f → Counted L (bind o f)
limited_bind (limited_value {v} {n} l) h = h v n l
limited_bind (limited_undefined l) h = limited_undefined l
limited_bind limited_stuck h = limited_stuck
limited_bind (limited_stop b l) h = limited_stop b l

pub limited_if : {L : ℕ → Type 0} {x y : Outcome} (b : Bool) → Counted L x → Counted L y → Counted L (if b then x else y)
limited_if true h k = h
limited_if false h k = k

pub limited_form : {L : ℕ → Type 0} (v : Value) (n : ℕ) → L n → Counted L (form v n)
unfolding form
limited_form v n l = limited_if (leb (size v) 128) (limited_value l) (limited_stop size_stop l)

limited_given : {L : ℕ → Type 0} (o : Option Value) (n : ℕ) → L n → Counted L (given o n)
limited_given none n l = limited_undefined l
limited_given (some v) n l = limited_value l

limited_result : {L : ℕ → Type 0} (r : Result) (n : ℕ) → L n → Counted L (resulting r n)
limited_result (result v) n l = limited_value l
limited_result no_result n l = limited_undefined l
limited_result over_range n l = limited_stop range_stop l

limited_all : {L : ℕ → Type 0} (k : Kind) (o : Option Values) (n : ℕ) → L n → Counted L (form_all k o n)
limited_all k none n l = limited_undefined l
limited_all k (some ws) n l = limited_form _ n l

limited_bound : {L : ℕ → Type 0} (o : Option Value) (n : ℕ) → L n → Counted L (bound o n)
limited_bound none n l = limited_stuck
limited_bound (some v) n l = limited_value l

pub limited_bool : {L : ℕ → Type 0} {k : Bool → Outcome} (v : Value) → ((b : Bool) → Counted L (k b)) → Counted L (on_bool v k)
limited_bool (bool b) h = h b
limited_bool (num x) h = limited_stuck
limited_bool (obj o) h = limited_stuck
limited_bool (coll c vs) h = limited_stuck

limited_int : {L : ℕ → Type 0} {k : ℤ → Outcome} (v : Value) → ((z : ℤ) → Counted L (k z)) → Counted L (on_int v k)
limited_int (bool b) h = limited_stuck
limited_int (num (int z)) h = h z
limited_int (num (real r)) h = limited_stuck
limited_int (obj o) h = limited_stuck
limited_int (coll c vs) h = limited_stuck

limited_num : {L : ℕ → Type 0} {k : Number → Outcome} (v : Value) → ((x : Number) → Counted L (k x)) → Counted L (on_num v k)
limited_num (bool b) h = limited_stuck
limited_num (num x) h = h x
limited_num (obj o) h = limited_stuck
limited_num (coll c vs) h = limited_stuck

limited_two : {L : ℕ → Type 0} {f : ℤ → ℤ → Outcome} {g : Number → Number → Outcome} (x : Scale) (v w : Value)
    → ((y z : ℤ) → Counted L (f y z)) → ((y z : Number) → Counted L (g y z)) → Counted L (on_two x v w f g)
limited_two integers v w h k = limited_int v (λ y. limited_int w (λ z. h y z))
limited_two reals v w h k = limited_num v (λ y. limited_num w (λ z. k y z))

limited_obj : {L : ℕ → Type 0} {k : ℕ → Outcome} (v : Value) → ((o : ℕ) → Counted L (k o)) → Counted L (on_obj v k)
limited_obj (bool b) h = limited_stuck
limited_obj (num x) h = limited_stuck
limited_obj (obj o) h = h o
limited_obj (coll c vs) h = limited_stuck

pub limited_coll : {L : ℕ → Type 0} {k : Kind → Values → Outcome} (v : Value) → ((c : Kind) (vs : Values) → Counted L (k c vs)) → Counted L (on_coll v k)
limited_coll (bool b) h = limited_stuck
limited_coll (num x) h = limited_stuck
limited_coll (obj o) h = limited_stuck
limited_coll (coll c vs) h = h c vs

limited_seek : {L : ℕ → Type 0} (q : Quantifier) {body : Value → ℕ → Outcome} (blank : Bool) (vs : Values) (n : ℕ) → L n → After L body → Counted L (seek q body blank vs n)
unfolding seek
limited_seek q blank nil n l h = limited_if blank (limited_undefined l) (limited_value l)
limited_seek q blank (cons v vs) n l h =
    limited_resume (h v n l) (λ w m k. limited_bool w (λ b. limited_if (beq b (ends_at q)) (limited_value k) (limited_seek q blank vs m k h)))
    (λ m k. limited_seek q true vs m k h)

limited_fold : {L : ℕ → Type 0} {body : Value → Value → ℕ → Outcome} (vs : Values) (a : Value) (n : ℕ) → L n → ((v : Value) → After L (body v)) → Counted L (fold body vs a n)
unfolding fold
limited_fold nil a n l h = limited_value l
limited_fold (cons v vs) a n l h = limited_bind (h v a n l) (λ b m k. limited_fold vs b m k h)

-- ---- each form

record Stays (L : ℕ → Type 0) (f : Run) : Type 0 where
  run : (ρ : Env Value) (n : ℕ) → L n → Counted L (f ρ n)

record Gathers (L : ℕ → Type 0) (g : Gather) : Type 0 where
  runs : (k : Kind) (vs : Values) → Stays L (g k vs)

-- L of one step more, which begins only where fewer than the limit have begun
abbrev Next : (ℕ → Type 0) → Type 0
Next L = (n : ℕ) → n < 1000000 → L n → L (n + 1)

tick_stays : {L : ℕ → Type 0} {f : Run} → Next L → Stays L f → Stays L (tick f)
unfolding tick
tick_stays {L} {f} x h = record {
  run = λ ρ n l. by-if (Counted L) (ltb n 1000000) (f ρ (n + 1)) (stop 16 n) (λ t. h.run ρ (n + 1) (x n (ltb→lt n 1000000 t) l)) (λ t. limited_stop step_stop l);
}

module _ (s : Model) where
  pub leaf_limited : {L : ℕ → Type 0} (x : Leaf) (ρ : Env Value) (n : ℕ) → L n → Counted L (leaf_run s x ρ n)
  unfolding leaf_run
  leaf_limited (truth b) ρ n l = limited_value l
  leaf_limited undef ρ n l = limited_undefined l
  leaf_limited (number z) ρ n l = limited_value l
  leaf_limited self ρ n l = limited_bound (ρ 0) n l
  leaf_limited (var i) ρ n l = limited_bound (ρ i) n l
  leaf_limited (all c) ρ n l = limited_form _ n l

  leaf_stays : {L : ℕ → Type 0} (x : Leaf) → Stays L (leaf_run s x)
  leaf_stays x = record { run = λ ρ n l. leaf_limited x ρ n l }

  cast_limited : {L : ℕ → Type 0} (c : ℕ) (v : Value) (n : ℕ) → L n → Counted L (cast s c v n)
  unfolding cast
  cast_limited c (bool b) n l = limited_undefined l
  cast_limited c (num x) n l = limited_undefined l
  cast_limited c (obj o) n l = limited_if (is_a s o (class c)) (limited_value l) (limited_undefined l)
  cast_limited c (coll k vs) n l = limited_stuck

  pub unary_limited : {L : ℕ → Type 0} (op : Unary) → After L (unary_apply s op)
  unfolding unary_apply
  unary_limited negation v n l = limited_bool v (λ b. limited_value l)
  unary_limited size_of v n l = limited_coll v (λ k vs. limited_value l)
  unary_limited (convert k) v n l = limited_coll v (λ j vs. limited_form _ n l)
  unary_limited (cast_to c) v n l = cast_limited c v n l

  unary_stays : {L : ℕ → Type 0} (op : Unary) {f : Run} → Stays L f → Stays L (unary_run s op f)
  unfolding unary_run
  unary_stays op h = record { run = λ ρ n l. limited_bind (h.run ρ n l) (unary_limited op) }

  pub binary_limited : {L : ℕ → Type 0} (z : Mark) (op : Binary) (v : Value) → After L (binary_apply z op v)
  unfolding binary_apply
  binary_limited z equal v w n l = limited_value l
  binary_limited z less v w n l = limited_two (scale_marked z) v w (λ x y. limited_value l) (λ x y. limited_value l)
  binary_limited z (arith o) v w n l = limited_two (scale_marked z) v w (λ x y. limited_result (arithmetic o x y) n l) (λ x y. limited_result (calculated (operation_of o) x y) n l)
  binary_limited z (divide o) v w n l = limited_int v (λ x. limited_int w (λ y. limited_result (division o x y) n l))
  binary_limited z over v w n l = limited_num v (λ x. limited_num w (λ y. limited_result (calculated Operation.over x y) n l))
  binary_limited z includes v w n l = limited_coll v (λ k vs. limited_value l)
  binary_limited z including v w n l = limited_coll v (λ k vs. limited_form _ n l)
  binary_limited z union v w n l = limited_coll v (λ j vs. limited_coll w (λ k ws. limited_if (same_kind j k) (limited_form _ n l) limited_stuck))

  binary_stays : {L : ℕ → Type 0} (z : Mark) (op : Binary) {f g : Run} → Stays L f → Stays L g → Stays L (binary_run z op f g)
  unfolding binary_run
  binary_stays z op hf hg = record {
    run = λ ρ n l. limited_bind (hf.run ρ n l) (λ v m k. limited_if (left_fits z op v) (limited_bind (hg.run ρ m k) (binary_limited z op v)) limited_stuck);
  }

  connective_stays : {L : ℕ → Type 0} (c : Connective) {f g : Run} → Stays L f → Stays L g → Stays L (connective_run c f g)
  unfolding connective_run
  connective_stays c hf hg = record {
    run = λ ρ n l. limited_resume (hf.run ρ n l)
        (λ v m k. limited_bool v (λ a. limited_if (beq a (decides c)) (limited_value k) (limited_bind (hg.run ρ m k) (λ w i j. limited_bool w (λ b. limited_value j)))))
        (λ m k. limited_bind (hg.run ρ m k) (λ w i j. limited_bool w (λ b. limited_if (beq b (decides c)) (limited_value j) (limited_undefined j))));
  }

  is_undef_stays : {L : ℕ → Type 0} {f : Run} → Stays L f → Stays L (is_undef_run f)
  unfolding is_undef_run
  is_undef_stays h = record { run = λ ρ n l. limited_resume (h.run ρ n l) (λ v m k. limited_value k) (λ m k. limited_value k) }

  conditional_stays : {L : ℕ → Type 0} {f g h : Run} → Stays L f → Stays L g → Stays L h → Stays L (conditional_run f g h)
  unfolding conditional_run
  conditional_stays hf hg hh = record {
    run = λ ρ n l. limited_bind (hf.run ρ n l) (λ v m k. limited_bool v (λ b. limited_if b (hg.run ρ m k) (hh.run ρ m k)));
  }

  let_stays : {L : ℕ → Type 0} (i : ℕ) {f g : Run} → Stays L f → Stays L g → Stays L (let_run i f g)
  unfolding let_run
  let_stays i hf hg = record { run = λ ρ n l. limited_bind (hf.run ρ n l) (λ v m k. hg.run (extend ρ i v) m k) }

  pub access_limited : {L : ℕ → Type 0} (x : Access) (m : Mark) → After L (access s x m)
  unfolding access
  access_limited of_object m v n l = limited_if (has_row s (row_marked m) v) (limited_given (value_in_row s (row_marked m) v) n l) limited_stuck
  access_limited of_members m v n l = limited_coll v (λ k vs. limited_if (every (has_row s (row_marked m)) vs) (limited_all (kind_marked m) (values_in_row s (row_marked m) vs) n l) limited_stuck)

  attribute_stays : {L : ℕ → Type 0} (x : Access) (m : Mark) {f : Run} → Stays L f → Stays L (attribute_run s x m f)
  unfolding attribute_run
  attribute_stays x m h = record { run = λ ρ n l. limited_bind (h.run ρ n l) (access_limited x m) }

  call_stays : {L : ℕ → Type 0} (c : ℕ) {f g : Run} → Stays L f → Stays L g → Stays L (call_run s c f g)
  unfolding call_run
  call_stays c hf hg = record {
    run = λ ρ n l. limited_bind (hf.run ρ n l) (λ v m k. limited_obj v (λ o. limited_if (is_a s o (class c)) (hg.run (start (obj o)) m k) limited_stuck));
  }

  quantified_stays : {L : ℕ → Type 0} (q : Quantifier) (i : ℕ) {f g : Run} → Stays L f → Stays L g → Stays L (quantified_run q i f g)
  unfolding quantified_run
  quantified_stays q i hf hg = record {
    run = λ ρ n l. limited_bind (hf.run ρ n l) (λ v m k. limited_coll v (λ c vs. limited_seek q false vs m k (λ x. hg.run (extend ρ i x))));
  }

  iterate_stays : {L : ℕ → Type 0} (i j : ℕ) {f g h : Run} → Stays L f → Stays L g → Stays L h → Stays L (iterate_run i j f g h)
  unfolding iterate_run
  iterate_stays i j hf hg hh = record {
    run = λ ρ n l. limited_bind (hf.run ρ n l) (λ v m k. limited_coll v (λ c vs. limited_bind (hg.run ρ m k) (λ a p r.
        limited_fold vs a p r (λ x y. hh.run (extend (extend ρ i x) j y)))));
  }

  no_operand_gathers : {L : ℕ → Type 0} → Gathers L no_operand_run
  unfolding no_operand_run
  no_operand_gathers = record { runs = λ k vs. record { run = λ ρ n l. limited_form _ n l } }

  operand_gathers : {L : ℕ → Type 0} {f : Run} {g : Gather} → Stays L f → Gathers L g → Gathers L (operand_run f g)
  unfolding operand_run
  operand_gathers hf hg = record { runs = λ k vs. record { run = λ ρ n l. limited_bind (hf.run ρ n l) (λ v m i. (hg.runs k (add k v vs)).run ρ m i) } }

  assemble_stays : {L : ℕ → Type 0} (k : Kind) {g : Gather} → Gathers L g → Stays L (assemble_run k g)
  unfolding assemble_run
  assemble_stays k h = record { run = λ ρ n l. (h.runs k nil).run ρ n l }

  -- ---- the induction

  module _ (L : ℕ → Type 0) (x : Next L) (mark : ℕ → Mark) where
    mutual
      unfolding evaluation

      all_stay : (e : Expr) → Stays L (evaluation s mark e)
      all_stay (node p f) = tick_stays x (form_stays p f)

      form_stays : (p : ℕ) (f : Form) → Stays L (form_run s mark p f)
      form_stays p (leaf l) = leaf_stays l
      form_stays p (unary op a) = unary_stays op (all_stay a)
      form_stays p (binary op a b) = binary_stays (mark p) op (all_stay a) (all_stay b)
      form_stays p (connective c a b) = connective_stays c (all_stay a) (all_stay b)
      form_stays p (is_undef a) = is_undef_stays (all_stay a)
      form_stays p (conditional c a b) = conditional_stays (all_stay c) (all_stay a) (all_stay b)
      form_stays p (let_in i a b) = let_stays i (all_stay a) (all_stay b)
      form_stays p (attribute y name a) = attribute_stays y (mark p) (all_stay a)
      form_stays p (call c t a b) = call_stays c (all_stay a) (all_stay b)
      form_stays p (quantified q i a b) = quantified_stays q i (all_stay a) (all_stay b)
      form_stays p (iterate i j t a e b) = iterate_stays i j (all_stay a) (all_stay e) (all_stay b)
      form_stays p (assemble k es) = assemble_stays k (operands_gather es)

      operands_gather : (es : Operands) → Gathers L (operands_run s mark es)
      operands_gather no_operand = no_operand_gathers
      operands_gather (operand e es) = operand_gathers (all_stay e) (operands_gather es)

-- ---- what Limited says, in the statement's words

limited_steps : {o : Outcome} → Limited o → steps_of o ≤ 1000000
unfolding steps_of
limited_steps (limited_value l) = l
limited_steps (limited_undefined l) = l
limited_steps limited_stuck = omega linear
limited_steps (limited_stop b l) = l

pub run_limited : (s : Model) (mark : ℕ → Mark) (e : Expr) (ρ : Env Value) {n : ℕ} → n ≤ 1000000 → Limited (evaluation s mark e ρ n)
run_limited s mark e ρ {n} l = (all_stay s (λ m. m ≤ 1000000) (λ i h k. omega linear) mark e).run ρ n l

-- steps are never taken back
pub run_grows : (s : Model) (mark : ℕ → Mark) (e : Expr) (ρ : Env Value) (n : ℕ) → Counted (λ m. n ≤ m) (evaluation s mark e ρ n)
run_grows s mark e ρ n = (all_stay s (λ m. n ≤ m) (λ i h k. omega linear) mark e).run ρ n (omega linear)

pub steps_limited : (s : Model) (mark : ℕ → Mark) (e : Expr) (o : ℕ) → steps_of (evaluate_rule s mark e o) ≤ 1000000
unfolding evaluate_rule
steps_limited s mark e o = limited_steps (run_limited s mark e (start (obj o)) (omega linear))
