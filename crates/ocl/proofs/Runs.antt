-- Safe runs: within a number of steps, never stuck, stopped by the count only where that number is over the limit. A law for each piece
-- that evaluation is written in. Assumes nothing.
use mathlib.Core.Path.{◌≡◌, refl, subst}
use mathlib.Core.Bool.{Bool, true, false, not, beq}
use Prim.Native.Nat.{ℕ, suc, ◌+◌, ◌*◌, ◌≤◌, ◌<◌}
use native.Mathlib.Omega.{arith}
use lib.Dec.{T, leb, ltb, leb→le, nltb→le}
use Rattle.std.specs.Prelude.{if◌then◌else◌}
use Rattle.ocl.specs.Environment.{Env}
use Rattle.ocl.specs.Types.{Ty}
use Rattle.ocl.specs.Values.{Value, bool, num, obj, coll, Values, count, size}
use Rattle.ocl.specs.Model.{Model, belongs}
use Rattle.ocl.specs.Forms.{Quantifier}
use Rattle.ocl.specs.Operations.{Outcome, value, undefined, stuck, stop, Stop, step_stop, size_stop, range_stop, steps_of, form, on_bool}
use Rattle.ocl.specs.Evaluation.{Run, resume, bind, tick, ends_at, seek, fold}
use Rattle.ocl.specs.Laws.{Formed, numbers_kept}
use Rattle.ocl.specs.Soundness.{Sound}
use Rattle.laws.proofs.Tests.{by-if}
use Rattle.ocl.proofs.Values.{Every, every_nil, every_cons}

-- with P of a value, and at most b steps
unfoldable pub Fine : (Value → Type 0) → ℕ → Outcome → Type 0
Fine P b (value v n) = P v × (n ≤ b)
Fine P b (undefined n) = n ≤ b
Fine P b stuck = ⊥
Fine P b (stop c n) = (n ≤ b) × (c ≡ 16 → 1000000 < b) × Stop c

-- at most k steps more
pub record Safe (P : Value → Type 0) (k : ℕ) (m : ℕ → Outcome) : Type 0 where
  pub from : (n : ℕ) → Fine P (n + k) (m n)

fine_weak : (P Q : Value → Type 0) (b c : ℕ) (o : Outcome) → ((v : Value) → P v → Q v) → b ≤ c → Fine P b o → Fine Q c o
unfolding Fine
fine_weak P Q b c (value v n) f l h = (f v h.0, omega arith)
fine_weak P Q b c (undefined n) f l h = omega arith
fine_weak P Q b c stuck f l h = h
fine_weak P Q b c (stop x n) f l h = (omega arith, λ e. let q = h.1 e in omega arith, h.2)

pub safe_weak : {P Q : Value → Type 0} {j k : ℕ} {m : ℕ → Outcome} → ((v : Value) → P v → Q v) → j ≤ k → Safe P j m → Safe Q k m
safe_weak {P} {Q} {j} {k} {m} f l h = record { from = λ n. fine_weak P Q (n + j) (n + k) (m n) f (omega arith) (h.from n) }

pub safe_le : {P : Value → Type 0} {j k : ℕ} {m : ℕ → Outcome} → j ≤ k → Safe P j m → Safe P k m
safe_le l h = safe_weak (λ v p. p) l h

pub safe_value : {P : Value → Type 0} {k : ℕ} (v : Value) → P v → Safe P k (λ n. value v n)
unfolding Fine
safe_value v p = record { from = λ n. (p, omega arith) }

pub safe_undefined : {P : Value → Type 0} {k : ℕ} → Safe P k (λ n. undefined n)
unfolding Fine
safe_undefined = record { from = λ n. omega arith }

resume_fine : (P Q : Value → Type 0) (b j : ℕ) (o : Outcome) (f : Value → ℕ → Outcome) (g : ℕ → Outcome) → Fine P b o
    → ((v : Value) → P v → Safe Q j (f v)) → Safe Q j g → Fine Q (b + j) (resume o f g)
unfolding Fine
resume_fine P Q b j (value v n) f g h k l = fine_weak Q Q (n + j) (b + j) (f v n) (λ y q. q) (omega arith) ((k v h.0).from n)
resume_fine P Q b j (undefined n) f g h k l = fine_weak Q Q (n + j) (b + j) (g n) (λ y q. q) (omega arith) (l.from n)
resume_fine P Q b j stuck f g h k l = h
resume_fine P Q b j (stop c n) f g h k l = (omega arith, λ e. let q = h.1 e in omega arith, h.2)

pub safe_resume : {P Q : Value → Type 0} {k j : ℕ} {m : ℕ → Outcome} {f : Value → ℕ → Outcome} {g : ℕ → Outcome} → Safe P k m
    → ((v : Value) → P v → Safe Q j (f v)) → Safe Q j g → Safe Q (k + j) (λ n. resume (m n) f g)
safe_resume {P} {Q} {k} {j} {m} {f} {g} h l r = record {
  from = λ n.
      fine_weak Q Q (n + k + j) (n + (k + j)) (resume (m n) f g) (λ y q. q) (omega arith) (resume_fine P Q (n + k) j (m n) f g (h.from n) l r);
}

bind_resume : (o : Outcome) (f : Value → ℕ → Outcome) → resume o f undefined ≡ bind o f
bind_resume (value v n) f = refl
bind_resume (undefined n) f = refl
bind_resume stuck f = refl
bind_resume (stop c n) f = refl

-- a strict form ends undefined where its operand does
pub safe_bind : {P Q : Value → Type 0} {k j : ℕ} {m : ℕ → Outcome} {f : Value → ℕ → Outcome} → Safe P k m
    → ((v : Value) → P v → Safe Q j (f v)) → Safe Q (k + j) (λ n. bind (m n) f)
safe_bind {P} {Q} {k} {j} {m} {f} h g = record {
  from = λ n.
      subst (Fine Q (n + (k + j))) (bind_resume (m n) f) ((safe_resume {f = f} {g = undefined} h g safe_undefined).from n);
}

pub safe_tick : {P : Value → Type 0} {k : ℕ} (f : Run) (ρ : Env Value) → Safe P k (f ρ) → Safe P (suc k) (tick f ρ)
unfolding tick Fine
safe_tick {P} {k} f ρ h = record {
  from = λ n.
      by-if (Fine P (n + suc k)) (ltb n 1000000) (f ρ (n + 1)) (stop 16 n)
      (λ t. fine_weak P P (n + 1 + k) (n + suc k) (f ρ (n + 1)) (λ y q. q) (omega arith) (h.from (n + 1)))
      (λ t. (omega arith, λ e. omega (arith, nltb→le n 1000000 t), step_stop));
}

pub safe_form : {P : Value → Type 0} {k : ℕ} (v : Value) → (size v ≤ 128 → P v) → Safe P k (form v)
unfolding form Fine
safe_form {P} {k} v p = record {
  from = λ n.
      by-if (Fine P (n + k)) (leb (size v) 128) (value v n) (stop 17 n)
      (λ t. (p (leb→le (size v) 128 t), omega arith)) (λ t. (omega arith, λ e. absurd (omega arith), size_stop));
}

pub safe_over : {P : Value → Type 0} {k : ℕ} → Safe P k (λ n. stop 19 n)
unfolding Fine
safe_over = record { from = λ n. (omega arith, λ e. absurd (omega arith), range_stop) }

pub safe_if : {P : Value → Type 0} {k : ℕ} {f g : ℕ → Outcome} (b : Bool) → (T b → Safe P k f) → (T (not b) → Safe P k g) → Safe P k (λ n. if b then f n else g n)
safe_if true f g = f tt
safe_if false f g = g tt

pub safe_fold : {P Q : Value → Type 0} {j : ℕ} {body : Value → Value → ℕ → Outcome} {vs : Values} (a : Value) → Every P vs → Q a
    → ((v a : Value) → P v → Q a → Safe Q j (body v a)) → Safe Q (count vs * j) (fold body vs a)
unfolding fold count
safe_fold a every_nil q g = safe_value a q
safe_fold a (every_cons {v} p h) q g = safe_le (omega arith) (safe_bind (g v a p q) (λ b r. safe_fold b h r g))

unfoldable pub IsBool : Value → Type 0
IsBool (bool b) = Unit
IsBool (num x) = ⊥
IsBool (obj o) = ⊥
IsBool (coll k vs) = ⊥

pub safe_bool : {P : Value → Type 0} {k : ℕ} {f : Bool → ℕ → Outcome} (v : Value) → IsBool v → ((b : Bool) → Safe P k (f b)) → Safe P k (λ n. on_bool v (λ b. f b n))
unfolding IsBool
safe_bool (bool b) h g = g b
safe_bool (num x) h g = absurd h
safe_bool (obj o) h g = absurd h
safe_bool (coll c vs) h g = absurd h

pub safe_seek : {P Q : Value → Type 0} {j : ℕ} {body : Value → ℕ → Outcome} {vs : Values} (q : Quantifier) (blank : Bool) → Every P vs → ((b : Bool) → Q (bool b))
    → ((v : Value) → P v → Safe IsBool j (body v)) → Safe Q (count vs * j) (seek q body blank vs)
unfolding seek count
safe_seek q blank every_nil p g = safe_if blank (λ t. safe_undefined) (λ t. safe_value (bool (not (ends_at q))) (p (not (ends_at q))))
safe_seek {body} q blank (every_cons {v} {vs} r h) p g =
    safe_le (omega arith) (safe_resume (g v r) (λ w i. safe_bool {f = λ b n. (if beq b (ends_at q) then value (bool b) n else seek q body blank vs n)} w i
    (λ b. safe_if (beq b (ends_at q)) (λ t. safe_value (bool b) (p b)) (λ t. safe_seek q blank h p g))) (safe_seek q true h p g))

-- ---- what Fine says, in the statement's words

-- a value of type t and of an allowed size
pub record Fits (s : Model) (t : Ty) (v : Value) : Type 0 where
  pub belong : T (belongs s t v)
  pub small : size v ≤ 128

fine_steps : (P : Value → Type 0) (k : ℕ) (o : Outcome) → Fine P k o → steps_of o ≤ k
unfolding Fine steps_of
fine_steps P k (value v n) h = h.1
fine_steps P k (undefined n) h = h
fine_steps P k stuck h = absurd h
fine_steps P k (stop c n) h = h.0

pub fine_sound : (s : Model) (t : Ty) (k : ℕ) (o : Outcome) → Fine (Fits s t) k o → ((v : Value) (n : ℕ) → o ≡ value v n → T (numbers_kept v))
    → ((v : Value) (n : ℕ) → o ≡ value v n → Formed v) → Sound s t k o
unfolding Fine
fine_sound s t k o h r f = record {
  not_stuck = λ e. subst (Fine (Fits s t) k) e h;
  of_type = λ v n e. (subst (Fine (Fits s t) k) e h).0.belong;
  of_size = λ v n e. (subst (Fine (Fits s t) k) e h).0.small;
  numbers_kept_lem = r;
  formed = f;
  known_stop = λ c n e. (subst (Fine (Fits s t) k) e h).2;
  in_reach = fine_steps (Fits s t) k o h;
  no_step_stop = λ l n e. let q = (subst (Fine (Fits s t) k) e h).1 refl in omega arith;
}

-- from no step
pub safe_zero : {P : Value → Type 0} {k : ℕ} {m : ℕ → Outcome} → Safe P k m → Fine P k (m 0)
safe_zero {P} {k} {m} h = fine_weak P P (0 + k) k (m 0) (λ v p. p) (omega arith) (h.from 0)
