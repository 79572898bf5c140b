-- How the outcomes of operands compose to the outcome of a form: environments over the stack, an operand that ends it, what follows a
-- value, and where undefined arises. Assumes nothing.
use mathlib.Core.Path.{◌≡◌, refl, ap, ◌∙◌}
use mathlib.Core.Bool.{Bool, true, false}
use mathlib.Core.Option.{Option, none, some}
use mathlib.Core.List.{List}
use Prim.Native.Nat.{ℕ, zero, suc, ◌+◌, ◌/◌, ◌%◌, ◌<◌, ◌≤◌}
use native.Mathlib.Omega.{arith}
use lib.ListN.{length, get_or, set, replicate, length-set}
use lib.Seq.{get_or-set_same, get_or-set_other}
use lib.Dec.{eqb}
use borrow.Author.Tests.{eqb-true, eqb-false, lt-ltb, le-ltb}
use Rattle.std.specs.Prelude.{if◌then◌else◌}
use Rattle.ocl.specs.Values.{Value}
use Rattle.ocl.specs.Environment.{Env, extend}
use Rattle.ocl.specs.Operations.{Outcome}
use Rattle.ocl.specs.Trace.{Traced, value_t, undefined_t, stuck_t, stop_t, untraced, at, resume_t, bind_t, tick_t}
use Rattle.outcomes.specs.declared.Ended.{Ended}
use Rattle.outcomes.specs.declared.Ended.TheVariants as ended
use Rattle.outcomes.specs.Answers as plain
use Rattle.outcomes.specs.Answers.{Lies, Under, Ran, SmallAnswer}
use Rattle.operations.specs.Runs.{World, Held, free, held, Rel}
use Rattle.outcomes.proofs.Words.{under_refl, under_then, under_down, lies_kept}
use Rattle.evaluation.specs.declared.Traced.{Traced as Answer}
use Rattle.evaluation.specs.declared.Traced.TheVariants as traced
use Rattle.evaluation.specs.Traces.{place_of, Names, Placed, EndsT, ends_value, ends_undefined, ends_stuck, ends_stop, RanT, SmallTraced, arisen, without_place, MeaningT, EvalsT}

-- ---- environments

held_kept : {S T : List ℕ} {sp mid at : ℕ} → sp ≤ mid → Under sp T S → (o : Option Value) → Held S sp at o → Held T mid at o
held_kept h u none (free e) = free e
held_kept h u (some v) (held p e l m k) = held p e (lies_kept k u l) m (omega arith)

-- over more words, the lower ones the same
pub rel_kept : {env S T : List ℕ} {sp mid : ℕ} {ρ : Env Value} → sp ≤ mid → Under sp T S → Rel env S sp ρ → Rel env T mid ρ
rel_kept {ρ = ρ} h u r = record { slots = r.slots; at = λ j. held_kept h u (ρ j) (r.at j) }

bound_slot : (env S : List ℕ) (sp : ℕ) (ρ : Env Value) (i at : ℕ) (v : Value) → i < length env → Held S sp at (some v) → Rel env S sp ρ
    → (j : ℕ) (b : Bool) → eqb j i ≡ b → Held S sp (get_or (set env i at) j 0) (if b then some v else ρ j)
bound_slot env S sp ρ i at v n h r j true e = rw (eqb-true j i e, get_or-set_same env i at 0 n) h
bound_slot env S sp ρ i at v n h r j false e = rw (get_or-set_other env i j at 0 (eqb-false j i e)) (r.at j)

-- with one more variable
pub rel_bind : {env S : List ℕ} {sp : ℕ} {ρ : Env Value} {i at : ℕ} (v : Value) → i < 16 → Held S sp at (some v) → Rel env S sp ρ → Rel (set env i at) S sp (extend ρ i v)
unfolding extend
rel_bind {env} {S} {sp} {ρ} {i} {at} v n h r = record {
  slots = length-set env i at ∙ r.slots;
  at = λ j. bound_slot env S sp ρ i at v (rw r.slots n) h r j (eqb j i) refl;
}

zero_at : (k j : ℕ) → ◌≡◌ {A = ℕ} (get_or {A = ℕ} (replicate {A = ℕ} k 0) j 0) 0
zero_at zero j = refl
zero_at (suc k) zero = refl
zero_at (suc k) (suc j) = zero_at k j

-- where nothing is bound
pub nothing_bound : (S : List ℕ) (sp : ℕ) → Rel (replicate 16 0) S sp (λ j. none)
nothing_bound S sp = record { slots = refl; at = λ j. free (zero_at 16 j) }

-- ---- which answer it is

-- no value
abbrev pub Other : Answer → Type 0
Other r = (len steps : ℕ) → r ≡ traced.Value len steps → ⊥

-- and not undefined
abbrev pub Fatal : Answer → Type 0
Fatal r = ((steps place : ℕ) → r ≡ traced.Undef steps place → ⊥) × Other r

pub bounds : {r : Answer} {la sa : ℕ} → SmallTraced r → r ≡ traced.Value la sa → (1 ≤ la) × (la ≤ 128)
bounds h q = rw q at h

pub its_place : {r : Answer} {s place : ℕ} → SmallTraced r → r ≡ traced.Undef s place → Placed place
its_place h q = rw q at h

-- ---- outcomes

pub record Valued (o : Traced) (sp : ℕ) (B A : List ℕ) (len s : ℕ) : Type 0 where
  pub v : Value
  pub is : o ≡ value_t v s
  pub lies : Lies v sp len A
  pub kept : Under sp A B

pub valued : {o : Traced} {sp len s : ℕ} {B A : List ℕ} {r : Answer} → RanT o sp B A r → r ≡ traced.Value len s → Valued o sp B A len s
valued {sp = sp} {len = len} {s = s} {B = B} {A = A} x q = by x.ends q
  where
    by : {o : Traced} {r : Answer} → EndsT sp A o r → r ≡ traced.Value len s → Valued o sp B A len s
    by (ends_value {v = v} {len = l} {s = n} a m) e =
        let i : l ≡ len = cc in let j : n ≡ s = cc in
        record { v = v; is = ap (value_t v) j; lies = rw i at a; kept = x.kept }
    by (ends_undefined a) e = absurd (let z : ◌≡◌ {A = ℕ} 0 1 = cc in omega arith)
    by ends_stuck e = absurd (let z : ◌≡◌ {A = ℕ} 0 1 = cc in omega arith)
    by ends_stop e = absurd (let z : ◌≡◌ {A = ℕ} 0 1 = cc in omega arith)

-- undefined at the place that the answer names
pub is_undefined : {o : Traced} {sp s place : ℕ} {B A : List ℕ} {r : Answer} → RanT o sp B A r → r ≡ traced.Undef s place → o ≡ undefined_t s (place % 1024) (place / 1024)
is_undefined {sp = sp} {s = s} {place = place} {A = A} x q = by x.ends q
  where
    by : {o : Traced} {r : Answer} → EndsT sp A o r → r ≡ traced.Undef s place → o ≡ undefined_t s (place % 1024) (place / 1024)
    by (ends_value a m) e = absurd (let z : ◌≡◌ {A = ℕ} 0 1 = cc in omega arith)
    by (ends_undefined {s = n} {place = w} a) e = let i : n ≡ s = cc in let j : w ≡ place = cc in rw (← a.node, ← a.step, i, j)
    by ends_stuck e = absurd (let z : ◌≡◌ {A = ℕ} 0 1 = cc in omega arith)
    by ends_stop e = absurd (let z : ◌≡◌ {A = ℕ} 0 1 = cc in omega arith)

pub is_stuck : {o : Traced} {sp : ℕ} {B A : List ℕ} {r : Answer} → RanT o sp B A r → r ≡ traced.Stuck → o ≡ stuck_t
is_stuck {sp = sp} {A = A} x q = by x.ends q
  where
    by : {o : Traced} {r : Answer} → EndsT sp A o r → r ≡ traced.Stuck → o ≡ stuck_t
    by (ends_value a m) e = absurd (let z : ◌≡◌ {A = ℕ} 0 1 = cc in omega arith)
    by (ends_undefined a) e = absurd (let z : ◌≡◌ {A = ℕ} 0 1 = cc in omega arith)
    by ends_stuck e = refl
    by ends_stop e = absurd (let z : ◌≡◌ {A = ℕ} 0 1 = cc in omega arith)

pub is_stop : {o : Traced} {sp n s : ℕ} {B A : List ℕ} {r : Answer} → RanT o sp B A r → r ≡ traced.Stop n s → o ≡ stop_t n s
is_stop {sp = sp} {n = n} {s = s} {A = A} x q = by x.ends q
  where
    by : {o : Traced} {r : Answer} → EndsT sp A o r → r ≡ traced.Stop n s → o ≡ stop_t n s
    by (ends_value a m) e = absurd (let z : ◌≡◌ {A = ℕ} 0 1 = cc in omega arith)
    by (ends_undefined a) e = absurd (let z : ◌≡◌ {A = ℕ} 0 1 = cc in omega arith)
    by ends_stuck e = absurd (let z : ◌≡◌ {A = ℕ} 0 1 = cc in omega arith)
    by (ends_stop {c = c} {s = m}) e = let i : c ≡ n = cc in let j : m ≡ s = cc in rw (i, j)

-- an operand at mid that is no value ends what is bound to it, at sp
pub falls : {sp mid : ℕ} {B C A : List ℕ} {r : Answer} (o : Traced) (k : Value → ℕ → Traced) → sp ≤ mid → Under sp C B → RanT o mid C A r → Other r → RanT (bind_t o k) sp B A r
falls {sp} {mid} {B} {C} {A} o k h u x z = record { kept = under_then (under_down h x.kept) u; ends = by x.ends z }
  where
    by : {o : Traced} {r : Answer} → EndsT mid A o r → Other r → EndsT sp A (bind_t o k) r
    by (ends_value a m) z = absurd (z _ _ refl)
    by (ends_undefined a) z = ends_undefined a
    by ends_stuck z = ends_stuck
    by ends_stop z = ends_stop

-- one that is neither a value nor undefined ends what goes on after both
pub breaks : {sp mid : ℕ} {B C A : List ℕ} {r : Answer} (o : Traced) (k : Value → ℕ → Traced) (u : ℕ → ℕ → ℕ → Traced) → sp ≤ mid → Under sp C B → RanT o mid C A r → Fatal r → RanT (resume_t o k u) sp B A r
breaks {sp} {mid} {B} {C} {A} o k u h under x z = record { kept = under_then (under_down h x.kept) under; ends = by x.ends z }
  where
    by : {o : Traced} {r : Answer} → EndsT mid A o r → Fatal r → EndsT sp A (resume_t o k u) r
    by (ends_value a m) z = absurd (z.1 _ _ refl)
    by (ends_undefined a) z = absurd (z.0 _ _ refl)
    by ends_stuck z = ends_stuck
    by ends_stop z = ends_stop

pub bind_value : (o : Traced) → bind_t o value_t ≡ o
bind_value (value_t v s) = refl
bind_value (undefined_t s p k) = refl
bind_value stuck_t = refl
bind_value (stop_t c s) = refl

-- ---- what an operation answered

pub arisen_small : (r : Ended) {place : ℕ} → SmallAnswer r → Placed place → SmallTraced (arisen r place)
arisen_small (ended.Value len s) m p = m
arisen_small (ended.Undef s) m p = p
arisen_small ended.Stuck m p = tt
arisen_small (ended.Stop c s) m p = tt

pub arisen_ran : {o : Outcome} {sp place p k : ℕ} {B A : List ℕ} {r : Ended} → Ran o sp B A r → Names place p k → RanT (at p k o) sp B A (arisen r place)
arisen_ran {sp = sp} {place = place} {p = p} {k = k} {A = A} x n = record { kept = x.kept; ends = by x.ends }
  where
    by : {o : Outcome} {r : Ended} → plain.Ends sp A o r → EndsT sp A (at p k o) (arisen r place)
    by (plain.ends_value l m) = ends_value l m
    by plain.ends_undefined = ends_undefined n
    by plain.ends_stuck = ends_stuck
    by plain.ends_stop = ends_stop

-- and an answer without the place
pub ends_alone : {sp : ℕ} {A : List ℕ} {o : Traced} {r : Answer} → EndsT sp A o r → plain.Ends sp A (untraced o) (without_place r)
ends_alone (ends_value l m) = plain.ends_value l m
ends_alone (ends_undefined n) = plain.ends_undefined
ends_alone ends_stuck = plain.ends_stuck
ends_alone ends_stop = plain.ends_stop

pub small_alone : (r : Answer) → SmallTraced r → SmallAnswer (without_place r)
small_alone (traced.Value len s) m = m
small_alone (traced.Undef s place) m = tt
small_alone traced.Stuck m = tt
small_alone (traced.Stop c s) m = tt

-- the place of a node that began at step k
module _ {n k place : ℕ} (e : place ≡ place_of n k) (h : n < 768) where
  pub named : Names place n k
  unfolding place_of
  named = record { node = omega arith; step = omega arith }

  pub placed : 1 ≤ k → k ≤ 1000000 → Placed place
  unfolding place_of
  placed l m = record { node = omega arith; step = omega arith; room = omega arith }

-- ---- meanings

module _ {Ok : World → Type 0} {f h : MeaningT} {env B A : List ℕ} {sp s : ℕ} {r : Answer} (k : World → Env Value → Value → ℕ → Traced)
    (e : (w : World) (ρ : Env Value) → h w ρ s ≡ bind_t (f w ρ s) (k w ρ)) (x : EvalsT Ok f env sp s B A r) where
  -- what ends in no value ends what is bound to it
  pub early : Other r → EvalsT Ok h env sp s B A r
  early o = record { small = x.small; ran = λ w ok ρ rel. rw (e w ρ) (falls (f w ρ s) (k w ρ) (omega arith) under_refl (x.ran w ok ρ rel) o) }

  -- a first operand has ended in a value: the rest is shown with the value's cells at sp
  pub after : {la sa : ℕ} {C : List ℕ} {r' : Answer} → r ≡ traced.Value la sa → SmallTraced r'
      → ((w : World) → Ok w → (ρ : Env Value) → Rel env B sp ρ → (v : Value) → Lies v sp la A → Under sp A B → RanT (k w ρ v sa) sp B C r') → EvalsT Ok h env sp s B C r'
  after q m y = record {
    small = m;
    ran = λ w ok ρ rel. let d = valued (x.ran w ok ρ rel) q in rw (e w ρ, d.is) (y w ok ρ rel d.v d.lies d.kept);
  }

-- what was shown from later words
pub ran_from : {o : Traced} {sp : ℕ} {B A C : List ℕ} {r : Answer} → Under sp A B → RanT o sp A C r → RanT o sp B C r
ran_from u x = record { kept = under_then x.kept u; ends = x.ends }

-- the value where it lies
pub ran_value : {v : Value} {sp len s : ℕ} {B A : List ℕ} → Lies v sp len A → Under sp A B → len ≤ 128 → RanT (value_t v s) sp B A (traced.Value len s)
ran_value l u m = record { kept = u; ends = ends_value l m }

pub ran_stuck_at : {sp : ℕ} {B A : List ℕ} → Under sp A B → RanT stuck_t sp B A traced.Stuck
ran_stuck_at u = record { kept = u; ends = ends_stuck }

pub ran_undefined_at : {sp s p k place : ℕ} {B A : List ℕ} → Under sp A B → Names place p k → RanT (undefined_t s p k) sp B A (traced.Undef s place)
ran_undefined_at u n = record { kept = u; ends = ends_undefined n }

-- undefined at a place that came from an operand
pub ran_undefined_from : {sp s place : ℕ} {B A : List ℕ} → Under sp A B → RanT (undefined_t s (place % 1024) (place / 1024)) sp B A (traced.Undef s place)
ran_undefined_from u = ran_undefined_at u (record { node = refl; step = refl })

-- ---- a node begins

module _ {Ok : World → Type 0} {h : MeaningT} {env B : List ℕ} {sp s : ℕ} (f : MeaningT) (e : (w : World) → h w ≡ tick_t (f w)) where
  pub tick_on : {A : List ℕ} {r : Answer} → s < 1000000 → EvalsT Ok f env sp (s + 1) B A r → EvalsT Ok h env sp s B A r
  unfolding tick_t
  tick_on l x = record { small = x.small; ran = λ w ok ρ rel. rw (e w, lt-ltb s 1000000 l) (x.ran w ok ρ rel) }

  pub tick_stop : 1000000 ≤ s → EvalsT Ok h env sp s B B (traced.Stop 16 s)
  unfolding tick_t
  tick_stop l = record { small = tt; ran = λ w ok ρ rel. rw (e w, le-ltb s 1000000 l) (record { kept = under_refl; ends = ends_stop }) }
