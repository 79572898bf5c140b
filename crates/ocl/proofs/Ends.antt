-- What holds of every value that a run may end in, whatever else it ends in: a law for each piece that evaluation is written in.
-- Assumes nothing.
use mathlib.Core.Path.{◌≡◌, refl, subst}
use mathlib.Core.Bool.{Bool, true, false, not, beq}
use mathlib.Core.Option.{Option}
use Prim.Native.Nat.{ℕ, zero, suc, ◌+◌, ◌≤◌}
use native.Mathlib.Omega.{arith}
use lib.IntN.{ℤ, pos, negsuc}
use lib.Dec.{T, leb, ltb, leb→le}
use Rattle.std.specs.Prelude.{if◌then◌else◌}
use Rattle.reals.specs.Reals.{Number, int, real, in_range, kept, Operation, Result, result, no_result, over_range, calculated}
use Rattle.reals.proofs.Keeping.{results_kept}
use Rattle.ocl.specs.Types.{Kind}
use Rattle.ocl.specs.Values.{Value, bool, num, obj, coll, Values, nil, add_all, size}
use Rattle.ocl.specs.Environment.{Env}
use Rattle.ocl.specs.Forms.{Arith, plus, minus, times, div, modulo, Quantifier, Division}
use Rattle.ocl.specs.Operations.{Outcome, value, undefined, stuck, stop, form, given, form_all, on_bool, on_int, on_obj, on_coll, resulting, ranged, unless_zero, arithmetic, on_num, on_two, division}
use Rattle.ocl.specs.Evaluation.{Run, resume, bind, tick, bound, ends_at, seek, fold}
use Rattle.ocl.specs.Marks.{Scale, integers, reals}
use Rattle.laws.proofs.Tests.{by-if, All?, all_none, all_some}
use Rattle.ocl.proofs.Values.{Every, every_nil, every_cons}

pub data Ends (P : Value → Type 0) : Outcome → Type 0 where
  ends_value : {v : Value} {n : ℕ} → P v → Ends P (value v n)
  ends_undefined : {n : ℕ} → Ends P (undefined n)
  ends_stuck : Ends P stuck
  ends_stop : {c n : ℕ} → Ends P (stop c n)

pub ends_at_lem : {P : Value → Type 0} {o : Outcome} {v : Value} {n : ℕ} → Ends P o → o ≡ value v n → P v
ends_at_lem {P} {v = w} (ends_value {v} p) e = let f : v ≡ w = cc in subst P f p
ends_at_lem ends_undefined e = absurd (let z : ◌≡◌ {A = ℕ} 0 1 = cc in omega arith)
ends_at_lem ends_stuck e = absurd (let z : ◌≡◌ {A = ℕ} 0 1 = cc in omega arith)
ends_at_lem ends_stop e = absurd (let z : ◌≡◌ {A = ℕ} 0 1 = cc in omega arith)

pub ends_resume : {P Q : Value → Type 0} {o : Outcome} {f : Value → ℕ → Outcome} {g : ℕ → Outcome} → Ends P o → ((v : Value) (n : ℕ) → P v → Ends Q (f v n))
    → ((n : ℕ) → Ends Q (g n)) → Ends Q (resume o f g)
ends_resume (ends_value {v} {n} p) h k = h v n p
ends_resume (ends_undefined {n}) h k = k n
ends_resume ends_stuck h k = ends_stuck
ends_resume ends_stop h k = ends_stop

pub ends_bind : {P Q : Value → Type 0} {o : Outcome} {f : Value → ℕ → Outcome} → Ends P o → ((v : Value) (n : ℕ) → P v → Ends Q (f v n)) → Ends Q (bind o f)
ends_bind (ends_value {v} {n} p) h = h v n p
ends_bind ends_undefined h = ends_undefined
ends_bind ends_stuck h = ends_stuck
ends_bind ends_stop h = ends_stop

pub ends_if : {P : Value → Type 0} {x y : Outcome} (b : Bool) → Ends P x → Ends P y → Ends P (if b then x else y)
ends_if true h k = h
ends_if false h k = k

pub ends_tick : {P : Value → Type 0} (f : Run) (ρ : Env Value) (n : ℕ) → ((m : ℕ) → Ends P (f ρ m)) → Ends P (tick f ρ n)
unfolding tick
ends_tick f ρ n h = ends_if (ltb n 1000000) (h (n + 1)) ends_stop

pub ends_form : {P : Value → Type 0} (v : Value) (n : ℕ) → (size v ≤ 128 → P v) → Ends P (form v n)
unfolding form
ends_form {P} v n p = by-if (Ends P) (leb (size v) 128) (value v n) (stop 17 n) (λ t. ends_value (p (leb→le (size v) 128 t))) (λ t. ends_stop)

pub ends_given : {P : Value → Type 0} {o : Option Value} (n : ℕ) → All? P o → Ends P (given o n)
ends_given n all_none = ends_undefined
ends_given n (all_some p) = ends_value p

pub ends_all : {P : Value → Type 0} {Q : Values → Type 0} (k : Kind) {o : Option Values} (n : ℕ) → All? Q o
    → ((ws : Values) → Q ws → size (coll k (add_all k ws nil)) ≤ 128 → P (coll k (add_all k ws nil))) → Ends P (form_all k o n)
ends_all k n all_none h = ends_undefined
ends_all k n (all_some {x = ws} q) h = ends_form (coll k (add_all k ws nil)) n (h ws q)

pub ends_bound : {P : Value → Type 0} {o : Option Value} (n : ℕ) → All? P o → Ends P (bound o n)
ends_bound n all_none = ends_stuck
ends_bound n (all_some p) = ends_value p

pub ends_bool : {P : Value → Type 0} {k : Bool → Outcome} (v : Value) → ((b : Bool) → Ends P (k b)) → Ends P (on_bool v k)
ends_bool (bool b) h = h b
ends_bool (num x) h = ends_stuck
ends_bool (obj o) h = ends_stuck
ends_bool (coll c vs) h = ends_stuck

pub ends_num : {P : Value → Type 0} {k : Number → Outcome} (v : Value) → ((x : Number) → Ends P (k x)) → Ends P (on_num v k)
ends_num (bool b) h = ends_stuck
ends_num (num x) h = h x
ends_num (obj o) h = ends_stuck
ends_num (coll c vs) h = ends_stuck

pub ends_int : {P : Value → Type 0} {k : ℤ → Outcome} (v : Value) → ((z : ℤ) → Ends P (k z)) → Ends P (on_int v k)
ends_int (bool b) h = ends_stuck
ends_int (num (int z)) h = h z
ends_int (num (real r)) h = ends_stuck
ends_int (obj o) h = ends_stuck
ends_int (coll c vs) h = ends_stuck

pub ends_two : {P : Value → Type 0} {f : ℤ → ℤ → Outcome} {g : Number → Number → Outcome} (x : Scale) (v w : Value)
    → ((y z : ℤ) → Ends P (f y z)) → ((y z : Number) → Ends P (g y z)) → Ends P (on_two x v w f g)
ends_two integers v w h k = ends_int v (λ y. ends_int w (λ z. h y z))
ends_two reals v w h k = ends_num v (λ y. ends_num w (λ z. k y z))

pub ends_obj : {P : Value → Type 0} {k : ℕ → Outcome} (v : Value) → ((o : ℕ) → Ends P (k o)) → Ends P (on_obj v k)
ends_obj (bool b) h = ends_stuck
ends_obj (num x) h = ends_stuck
ends_obj (obj o) h = h o
ends_obj (coll c vs) h = ends_stuck

-- what is known of the operand is known of the collection
pub ends_coll : (P : Value → Type 0) {Q : Value → Type 0} {k : Kind → Values → Outcome} (v : Value) → P v → ((c : Kind) (vs : Values) → P (coll c vs) → Ends Q (k c vs)) → Ends Q (on_coll v k)
ends_coll P (bool b) p h = ends_stuck
ends_coll P (num x) p h = ends_stuck
ends_coll P (obj o) p h = ends_stuck
ends_coll P (coll c vs) p h = h c vs p

pub ends_seek : {P Q R : Value → Type 0} {body : Value → ℕ → Outcome} (q : Quantifier) (blank : Bool) {vs : Values} (n : ℕ) → Every P vs → ((b : Bool) → Q (bool b))
    → ((v : Value) (m : ℕ) → P v → Ends R (body v m)) → Ends Q (seek q body blank vs n)
unfolding seek
ends_seek q blank n every_nil r g = ends_if blank ends_undefined (ends_value (r (not (ends_at q))))
ends_seek q blank n (every_cons {v} p h) r g =
    ends_resume (g v n p) (λ w m x. ends_bool w (λ b. ends_if (beq b (ends_at q)) (ends_value (r b)) (ends_seek q blank m h r g)))
    (λ m. ends_seek q true m h r g)

pub ends_fold : {P Q : Value → Type 0} {body : Value → Value → ℕ → Outcome} {vs : Values} (a : Value) (n : ℕ) → Every P vs → Q a
    → ((v a : Value) (m : ℕ) → P v → Q a → Ends Q (body v a m)) → Ends Q (fold body vs a n)
unfolding fold
ends_fold a n every_nil q g = ends_value q
ends_fold a n (every_cons {v} p h) q g = ends_bind (g v a n p q) (λ b m r. ends_fold b m h r g)

-- ---- numbers: what holds of those that are kept holds of what arithmetic gives

-- P of the number, if there is one
pub data Results (P : Value → Type 0) : Result → Type 0 where
  results : {x : Number} → P (num x) → Results P (result x)
  no_result_lem : Results P no_result
  over_range_lem : Results P over_range

pub ends_result : {P : Value → Type 0} {r : Result} (n : ℕ) → Results P r → Ends P (resulting r n)
ends_result n (results p) = ends_value p
ends_result n no_result_lem = ends_undefined
ends_result n over_range_lem = ends_stop

module _ (P : Value → Type 0) (h : (z : ℤ) → T (in_range z) → P (num (int z))) where
  ranged_all : (z : ℤ) → Results P (ranged z)
  unfolding ranged
  ranged_all z = by-if (Results P) (in_range z) (result (int z)) over_range (λ t. results (h z t)) (λ t. over_range_lem)

  unless_all : (y z : ℤ) → Results P (unless_zero y (ranged z))
  unfolding unless_zero
  unless_all (pos zero) z = no_result_lem
  unless_all (pos (suc n)) z = ranged_all z
  unless_all (negsuc n) z = ranged_all z

  pub arithmetic_all : (o : Arith) (x y : ℤ) → Results P (arithmetic o x y)
  unfolding arithmetic
  arithmetic_all plus x y = ranged_all _
  arithmetic_all minus x y = ranged_all _
  arithmetic_all times x y = ranged_all _

  pub division_all : (o : Division) (x y : ℤ) → Results P (division o x y)
  unfolding division
  division_all div x y = unless_all y _
  division_all modulo x y = unless_all y _

pub calculated_all : (P : Value → Type 0) → ((x : Number) → T (kept x) → P (num x)) → (op : Operation) (x y : Number) → Results P (calculated op x y)
calculated_all P h op x y = go (calculated op x y) (λ n e. results_kept op x y n e)
  where
    go : (r : Result) → ((n : Number) → r ≡ result n → T (kept n)) → Results P r
    go (result n) k = results (h n (k n refl))
    go no_result k = no_result_lem
    go over_range k = over_range_lem
