-- The pieces that evaluation is written in keep outcomes that go with one another: a value and its image, or undefined twice.
-- Assumes nothing.
use mathlib.Core.Path.{◌≡◌, refl, sym, ap, ◌∙◌, subst}
use mathlib.Core.Bool.{Bool, true, false}
use mathlib.Core.Option.{Option, none, some}
use Prim.Native.Nat.{ℕ, ◌+◌}
use lib.IntN.{ℤ}
use lib.Dec.{T, eqb, leb, ltb, leb→le}
use Rattle.laws.specs.Choice.{map_some}
use Rattle.std.specs.Prelude.{if◌then◌else◌}
use Rattle.laws.proofs.Tests.{All?, all_some}
use Rattle.reals.specs.Reals.{Number, int, real}
use Rattle.ocl.specs.Types.{Kind}
use Rattle.ocl.specs.Values.{Value, bool, num, obj, coll, Values, nil, size, add, add_all}
use Rattle.ocl.specs.Environment.{Env, extend}
use Rattle.ocl.specs.Marks.{Scale, integers, reals}
use Rattle.ocl.specs.Operations.{Outcome, value, undefined, stuck, stop, form, given, on_bool, on_int, on_num, on_two, on_obj, on_coll}
use Rattle.ocl.specs.Evaluation.{Run, resume, bind, tick, bound}
use Rattle.ocl.specs.Laws.{sorted_nil}
use Rattle.ocl.proofs.Values.{Every, every_nil, add_every, add_all_every}
use Rattle.ocl.proofs.Sorted.{Under, under, add_sorted, add_all_sorted}
use Rattle.profile.specs.Renumbering.{renumbered}
use Rattle.profile.proofs.Through.{each}
use Rattle.profile.proofs.Images.{Fit, FitAll, fit_bool, fit_obj, fit_coll, image_coll}
use Rattle.profile.proofs.Searches.{Over, Matches, match_values, match_undefined, left_over, right_over}

-- ---- fit members

pub fit_add : (k : Kind) (v : Value) {vs : Values} → Fit v → FitAll k vs → FitAll k (add k v vs)
fit_add k v {vs} p h = record { sorted = add_sorted k v vs h.sorted; each_fit = add_every k v p h.each_fit }

pub fit_add_all : (k : Kind) {us vs : Values} → Every Fit us → FitAll k vs → FitAll k (add_all k us vs)
fit_add_all k {us} {vs} e h = record { sorted = add_all_sorted k us vs h.sorted; each_fit = add_all_every k e h.each_fit }

pub fit_none : {k : Kind} → FitAll k nil
fit_none = record { sorted = sorted_nil; each_fit = every_nil }

pub under_fit : {n : ℕ} {v : Value} → Under n v → Fit v
under_fit (under h) = fit_obj

-- members of images, as their kind has them
abbrev pub Gathered : (ℕ → ℕ) → Kind → Values → Values → Type 0
Gathered to c vs ws = ws ≡ add_all c (each (renumbered to) vs) nil

-- ---- the pieces of evaluation

module _ {to : ℕ → ℕ} where
  pub match_bind : {x y : Outcome} {k l : Value → ℕ → Outcome} → Matches to x y → ((v w : Value) (n m : ℕ) → Fit v → w ≡ renumbered to v → Matches to (k v n) (l w m)) → Matches to (bind x k) (bind y l)
  match_bind (match_values {v} {w} {n} {m} h e) g = g v w n m h e
  match_bind match_undefined g = match_undefined
  match_bind {k} (left_over {x} o) g = left_over (by x o)
    where
      by : (x : Outcome) → Over x → Over (bind x k)
      by (value v n) h = absurd h
      by (undefined n) h = h
      by stuck h = tt
      by (stop c n) h = tt
  match_bind {l} (right_over {y} o) g = right_over (by y o)
    where
      by : (y : Outcome) → Over y → Over (bind y l)
      by (value v n) h = absurd h
      by (undefined n) h = h
      by stuck h = tt
      by (stop c n) h = tt

  pub match_resume : {x y : Outcome} {k l : Value → ℕ → Outcome} {i j : ℕ → Outcome} → Matches to x y → ((v w : Value) (n m : ℕ) → Fit v → w ≡ renumbered to v → Matches to (k v n) (l w m))
      → ((n m : ℕ) → Matches to (i n) (j m)) → Matches to (resume x k i) (resume y l j)
  match_resume (match_values {v} {w} {n} {m} h e) g u = g v w n m h e
  match_resume (match_undefined {n} {m}) g u = u n m
  match_resume {k} {i} (left_over {x} o) g u = left_over (by x o)
    where
      by : (x : Outcome) → Over x → Over (resume x k i)
      by (value v n) h = absurd h
      by (undefined n) h = absurd h
      by stuck h = tt
      by (stop c n) h = tt
  match_resume {l} {j} (right_over {y} o) g u = right_over (by y o)
    where
      by : (y : Outcome) → Over y → Over (resume y l j)
      by (value v n) h = absurd h
      by (undefined n) h = absurd h
      by stuck h = tt
      by (stop c n) h = tt

  pub match_if : {x y v w : Outcome} (b : Bool) → Matches to x y → Matches to v w → Matches to (if b then x else v) (if b then y else w)
  match_if true h g = h
  match_if false h g = g

  -- the steps so far, and the size, may stop the one and not the other
  pub match_tick : (f g : Run) (ρ σ : Env Value) (n m : ℕ) → ((i j : ℕ) → Matches to (f ρ i) (g σ j)) → Matches to (tick f ρ n) (tick g σ m)
  unfolding tick
  match_tick f g ρ σ n m h = by (ltb n 1000000) (ltb m 1000000)
    where
      by : (a b : Bool) → Matches to (if a then f ρ (n + 1) else stop 16 n) (if b then g σ (m + 1) else stop 16 m)
      by true true = h (n + 1) (m + 1)
      by true false = right_over tt
      by false b = left_over tt

  pub match_truth : {n m : ℕ} (a b : Bool) → b ≡ a → Matches to (value (bool a) n) (value (bool b) m)
  unfolding renumbered
  match_truth a b e = match_values fit_bool (ap bool e)

  -- kinds: an image is of the kind that the value is of
  pub match_bool : {k l : Bool → Outcome} (v w : Value) → w ≡ renumbered to v → ((b : Bool) → Matches to (k b) (l b)) → Matches to (on_bool v k) (on_bool w l)
  unfolding renumbered
  match_bool {k} {l} v w e h = subst (λ x. Matches to (on_bool v k) (on_bool x l)) (sym e) (by v)
    where
      by : (v : Value) → Matches to (on_bool v k) (on_bool (renumbered to v) l)
      by (bool b) = h b
      by (num x) = left_over tt
      by (obj o) = left_over tt
      by (coll c vs) = left_over tt

  pub match_int : {k l : ℤ → Outcome} (v w : Value) → w ≡ renumbered to v → ((z : ℤ) → Matches to (k z) (l z)) → Matches to (on_int v k) (on_int w l)
  unfolding renumbered
  match_int {k} {l} v w e h = subst (λ x. Matches to (on_int v k) (on_int x l)) (sym e) (by v)
    where
      by : (v : Value) → Matches to (on_int v k) (on_int (renumbered to v) l)
      by (bool b) = left_over tt
      by (num (int z)) = h z
      by (num (real r)) = left_over tt
      by (obj o) = left_over tt
      by (coll c vs) = left_over tt

  pub match_num : {k l : Number → Outcome} (v w : Value) → w ≡ renumbered to v → ((x : Number) → Matches to (k x) (l x)) → Matches to (on_num v k) (on_num w l)
  unfolding renumbered
  match_num {k} {l} v w e h = subst (λ x. Matches to (on_num v k) (on_num x l)) (sym e) (by v)
    where
      by : (v : Value) → Matches to (on_num v k) (on_num (renumbered to v) l)
      by (bool b) = left_over tt
      by (num x) = h x
      by (obj o) = left_over tt
      by (coll c vs) = left_over tt

  pub match_two : {f f' : ℤ → ℤ → Outcome} {g g' : Number → Number → Outcome} (x : Scale) (v v' w w' : Value) → v' ≡ renumbered to v → w' ≡ renumbered to w
      → ((y z : ℤ) → Matches to (f y z) (f' y z)) → ((y z : Number) → Matches to (g y z) (g' y z)) → Matches to (on_two x v w f g) (on_two x v' w' f' g')
  match_two integers v v' w w' e d h k = match_int v v' e (λ y. match_int w w' d (λ z. h y z))
  match_two reals v v' w w' e d h k = match_num v v' e (λ y. match_num w w' d (λ z. k y z))

  pub match_obj : {k l : ℕ → Outcome} (v w : Value) → w ≡ renumbered to v → ((o q : ℕ) → q ≡ to o → Matches to (k o) (l q)) → Matches to (on_obj v k) (on_obj w l)
  unfolding renumbered
  match_obj {k} {l} v w e h = subst (λ x. Matches to (on_obj v k) (on_obj x l)) (sym e) (by v)
    where
      by : (v : Value) → Matches to (on_obj v k) (on_obj (renumbered to v) l)
      by (bool b) = left_over tt
      by (num x) = left_over tt
      by (obj o) = h o (to o) refl
      by (coll c vs) = left_over tt

  pub match_coll : {k l : Kind → Values → Outcome} (v w : Value) → Fit v → w ≡ renumbered to v
      → ((c : Kind) (vs ws : Values) → Fit (coll c vs) → Gathered to c vs ws → Matches to (k c vs) (l c ws)) → Matches to (on_coll v k) (on_coll w l)
  match_coll {k} {l} v w f e h = by v f e
    where
      by : (v : Value) → Fit v → w ≡ renumbered to v → Matches to (on_coll v k) (on_coll w l)
      by (bool b) f e = left_over tt
      by (num x) f e = left_over tt
      by (obj o) f e = left_over tt
      by (coll c vs) f e = subst (λ x. Matches to (k c vs) (on_coll x l)) (sym (e ∙ image_coll to c vs)) (h c vs (add_all c (each (renumbered to) vs) nil) f refl)

  -- a collection is formed of members that are fit
  pub match_form : (k : Kind) (vs ws : Values) (n m : ℕ) → FitAll k vs → Gathered to k vs ws → Matches to (form (coll k vs) n) (form (coll k ws) m)
  unfolding form
  match_form k vs ws n m h e = by (leb (size (coll k vs)) 128) (leb (size (coll k ws)) 128) refl
    where
      by : (a b : Bool) → leb (size (coll k vs)) 128 ≡ a → Matches to (if a then value (coll k vs) n else stop 17 n) (if b then value (coll k ws) m else stop 17 m)
      by true true t = match_values (fit_coll h (leb→le (size (coll k vs)) 128 (subst T (sym t) tt))) (ap (coll k) e ∙ sym (image_coll to k vs))
      by true false t = right_over tt
      by false b t = left_over tt

-- ---- environments, and runs from one and from its images

pub record Related (to : ℕ → ℕ) (ρ σ : Env Value) : Type 0 where
  pub image : (i : ℕ) → σ i ≡ map_some (renumbered to) (ρ i)
  pub fit : (i : ℕ) → All? Fit (ρ i)

pub record Follows (to : ℕ → ℕ) (f g : Run) : Type 0 where
  pub run : (ρ σ : Env Value) → Related to ρ σ → (n m : ℕ) → Matches to (f ρ n) (g σ m)

module _ {to : ℕ → ℕ} where
  pub extend_related : {ρ σ : Env Value} (i : ℕ) (v w : Value) → Related to ρ σ → Fit v → w ≡ renumbered to v → Related to (extend ρ i v) (extend σ i w)
  unfolding extend
  extend_related {ρ} {σ} i v w r f e = record { image = λ j. at (eqb j i) j; fit = λ j. all (eqb j i) j }
    where
      at : (b : Bool) (j : ℕ) → (if b then some w else σ j) ≡ map_some (renumbered to) (if b then some v else ρ j)
      at true j = unfold map_some in ap some e
      at false j = r.image j

      all : (b : Bool) (j : ℕ) → All? Fit (if b then some v else ρ j)
      all true j = all_some f
      all false j = r.fit j

  pub match_bound : (o q : Option Value) (n m : ℕ) → q ≡ map_some (renumbered to) o → All? Fit o → Matches to (bound o n) (bound q m)
  unfolding map_some
  match_bound none q n m e h = left_over tt
  match_bound (some v) q n m e (all_some h) = subst (λ x. Matches to (value v n) (bound x m)) (sym e) (match_values h refl)

  pub match_given : (o q : Option Value) (n m : ℕ) → q ≡ map_some (renumbered to) o → All? Fit o → Matches to (given o n) (given q m)
  unfolding map_some
  match_given none q n m e h = subst (λ x. Matches to (undefined n) (given x m)) (sym e) match_undefined
  match_given (some v) q n m e (all_some h) = subst (λ x. Matches to (value v n) (given x m)) (sym e) (match_values h refl)
