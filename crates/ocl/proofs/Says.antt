-- An outcome with and without the place where its undefined arose: a law for each piece that evaluation is written in. Assumes nothing.
use mathlib.Core.Path.{◌≡◌, refl, subst}
use mathlib.Core.Bool.{Bool, true, false}
use Prim.Native.Nat.{ℕ}
use native.Mathlib.Omega.{arith}
use Rattle.std.specs.Prelude.{if◌then◌else◌}
use Rattle.ocl.specs.Values.{Value, bool, num, obj, coll}
use Rattle.ocl.specs.Operations.{Outcome, value, undefined, stuck, stop, on_bool}
use Rattle.ocl.specs.Evaluation.{resume, bind}
use Rattle.ocl.specs.Trace.{Traced, value_t, undefined_t, stuck_t, stop_t, untraced, resume_t, bind_t, on_bool_t}

-- one outcome, and A of where its undefined arose
pub data Says (A : ℕ → ℕ → Type 0) : Traced → Outcome → Type 0 where
  says_value : {v : Value} {n : ℕ} → Says A (value_t v n) (value v n)
  says_undefined : {n p k : ℕ} → A p k → Says A (undefined_t n p k) (undefined n)
  says_stuck : Says A stuck_t stuck
  says_stop : {c n : ℕ} → Says A (stop_t c n) (stop c n)

pub says_map : {A B : ℕ → ℕ → Type 0} {x : Traced} {o : Outcome} → Says A x o → ((m p k : ℕ) → o ≡ undefined m → A p k → B p k) → Says B x o
says_map says_value f = says_value
says_map (says_undefined {n} {p} {k} a) f = says_undefined (f n p k refl a)
says_map says_stuck f = says_stuck
says_map says_stop f = says_stop

pub says_same : {A : ℕ → ℕ → Type 0} {x : Traced} {o : Outcome} → Says A x o → untraced x ≡ o
says_same says_value = refl
says_same (says_undefined a) = refl
says_same says_stuck = refl
says_same says_stop = refl

pub says_place : {A : ℕ → ℕ → Type 0} {x : Traced} {o : Outcome} {m p k : ℕ} → Says A x o → x ≡ undefined_t m p k → A p k
says_place says_value e = absurd (let z : ◌≡◌ {A = ℕ} 0 1 = cc in omega arith)
says_place {A} {p} {k} (says_undefined {p = q} {k = j} a) e = let y : q ≡ p = cc in let z : j ≡ k = cc in subst (A p) z (subst (λ w. A w j) y a)
says_place says_stuck e = absurd (let z : ◌≡◌ {A = ℕ} 0 1 = cc in omega arith)
says_place says_stop e = absurd (let z : ◌≡◌ {A = ℕ} 0 1 = cc in omega arith)

pub says_resume : {A C : ℕ → ℕ → Type 0} {x : Traced} {o : Outcome} {f : Value → ℕ → Traced} {g : Value → ℕ → Outcome} {u : ℕ → ℕ → ℕ → Traced} {w : ℕ → Outcome} → Says A x o
    → ((v : Value) (n : ℕ) → o ≡ value v n → Says C (f v n) (g v n)) → ((n p k : ℕ) → o ≡ undefined n → A p k → Says C (u n p k) (w n)) → Says C (resume_t x f u) (resume o g w)
says_resume (says_value {v} {n}) h i = h v n refl
says_resume (says_undefined {n} {p} {k} a) h i = i n p k refl a
says_resume says_stuck h i = says_stuck
says_resume says_stop h i = says_stop

pub says_bind : {A C : ℕ → ℕ → Type 0} {x : Traced} {o : Outcome} {f : Value → ℕ → Traced} {g : Value → ℕ → Outcome} → Says A x o
    → ((v : Value) (n : ℕ) → o ≡ value v n → Says C (f v n) (g v n)) → ((m p k : ℕ) → o ≡ undefined m → A p k → C p k) → Says C (bind_t x f) (bind o g)
says_bind (says_value {v} {n}) h i = h v n refl
says_bind (says_undefined {n} {p} {k} a) h i = says_undefined (i n p k refl a)
says_bind says_stuck h i = says_stuck
says_bind says_stop h i = says_stop

pub says_bool : {C : ℕ → ℕ → Type 0} {f : Bool → Traced} {g : Bool → Outcome} (v : Value) → ((b : Bool) → v ≡ bool b → Says C (f b) (g b)) → Says C (on_bool_t v f) (on_bool v g)
says_bool (bool b) h = h b refl
says_bool (num x) h = says_stuck
says_bool (obj o) h = says_stuck
says_bool (coll c vs) h = says_stuck

pub says_test : {C : ℕ → ℕ → Type 0} {x y : Traced} {o w : Outcome} (b : Bool) → (b ≡ true → Says C x o) → (b ≡ false → Says C y w) → Says C (if b then x else y) (if b then o else w)
says_test true h i = h refl
says_test false h i = i refl

-- what follows from the place
pub says_by : {A : ℕ → ℕ → Type 0} {x : Traced} {o : Outcome} {m : ℕ} {C : Type 0} → Says A x o → o ≡ undefined m → ((q j : ℕ) → A q j → C) → C
says_by says_value e f = absurd (let z : ◌≡◌ {A = ℕ} 0 1 = cc in omega arith)
says_by (says_undefined {p} {k} a) e f = f p k a
says_by says_stuck e f = absurd (let z : ◌≡◌ {A = ℕ} 0 1 = cc in omega arith)
says_by says_stop e f = absurd (let z : ◌≡◌ {A = ℕ} 0 1 = cc in omega arith)
