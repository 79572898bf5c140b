-- What `forAll` and `exists` find depends on the bodies of the members and not on their order: what a search that ends has found, and that
-- two searches over members which go with one another find the same. Assumes nothing.
use mathlib.Core.Path.{◌≡◌, refl, sym, ap, ◌∙◌, subst}
use mathlib.Core.Logic.{◌⊎◌, inl, inr}
use mathlib.Core.Bool.{Bool, true, false, not, beq, true≢false}
use Prim.Native.Nat.{ℕ}
use native.Mathlib.Omega.{arith}
use Rattle.std.specs.Prelude.{if◌then◌else◌}
use Rattle.ocl.specs.Values.{Value, bool, num, obj, coll, Values, nil, cons}
use Rattle.ocl.specs.Forms.{Quantifier}
use Rattle.ocl.specs.Operations.{Outcome, value, undefined, stuck, stop, on_bool}
use Rattle.ocl.specs.Evaluation.{resume, ends_at, seek}
use Rattle.ocl.specs.Laws.{Member, first, later}
use Rattle.profile.specs.Renumbering.{renumbered}
use Rattle.profile.proofs.Images.{Fit, fit_bool, no_member}

-- ---- two outcomes that go with one another

abbrev pub Over : Outcome → Type 0
Over (value v n) = ⊥
Over (undefined n) = ⊥
Over stuck = Unit
Over (stop c n) = Unit

-- a value that is fit and its image, or undefined twice; nothing is said where one is stuck or stopped
pub data Matches (f : ℕ → ℕ) : Outcome → Outcome → Type 0 where
  match_values : {v w : Value} {n m : ℕ} → Fit v → w ≡ renumbered f v → Matches f (value v n) (value w m)
  match_undefined : {n m : ℕ} → Matches f (undefined n) (undefined m)
  left_over : {x y : Outcome} → Over x → Matches f x y
  right_over : {x y : Outcome} → Over y → Matches f x y

value_undefined : {f : ℕ → ℕ} {x y : Outcome} {v : Value} {n m : ℕ} → Matches f x y → x ≡ value v n → y ≡ undefined m → ⊥
value_undefined (match_values p e) q r = let z : ◌≡◌ {A = ℕ} 0 1 = cc in omega arith
value_undefined match_undefined q r = let z : ◌≡◌ {A = ℕ} 0 1 = cc in omega arith
value_undefined (left_over o) q r = subst Over q o
value_undefined (right_over o) q r = subst Over r o

undefined_value : {f : ℕ → ℕ} {x y : Outcome} {v : Value} {n m : ℕ} → Matches f x y → x ≡ undefined n → y ≡ value v m → ⊥
undefined_value (match_values p e) q r = let z : ◌≡◌ {A = ℕ} 0 1 = cc in omega arith
undefined_value match_undefined q r = let z : ◌≡◌ {A = ℕ} 0 1 = cc in omega arith
undefined_value (left_over o) q r = subst Over q o
undefined_value (right_over o) q r = subst Over r o

value_value : {f : ℕ → ℕ} {x y : Outcome} {b c : Bool} {n m : ℕ} → Matches f x y → x ≡ value (bool b) n → y ≡ value (bool c) m → c ≡ b
unfolding renumbered
value_value {f} {b} {c} (match_values {v} {w} p e) q r = let i : v ≡ bool b = cc in let j : w ≡ bool c = cc in let k : bool c ≡ bool b = sym j ∙ e ∙ ap (renumbered f) i in cc
value_value match_undefined q r = absurd (let z : ◌≡◌ {A = ℕ} 0 1 = cc in omega arith)
value_value (left_over o) q r = absurd (subst Over q o)
value_value (right_over o) q r = absurd (subst Over r o)

-- ---- what a seek has found

-- the member's body does not end it
abbrev pub Passed : Quantifier → (Value → ℕ → Outcome) → Value → Type 0
Passed q body x = (m i : ℕ) × (body x m ≡ value (bool (not (ends_at q))) i)

-- the member's body ends it
abbrev pub Ending : Quantifier → (Value → ℕ → Outcome) → Value → Type 0
Ending q body x = (m i : ℕ) × (body x m ≡ value (bool (ends_at q)) i)

-- the member's body is undefined
abbrev pub Blank : (Value → ℕ → Outcome) → Value → Type 0
Blank body x = (m i : ℕ) × (body x m ≡ undefined i)

pub data Found (q : Quantifier) (body : Value → ℕ → Outcome) (blank : Bool) (vs : Values) : Outcome → Type 0 where
  at-end : {n : ℕ} (x : Value) → Member x vs → Ending q body x → Found q body blank vs (value (bool (ends_at q)) n)
  no_end : {n : ℕ} → blank ≡ false → ((x : Value) → Member x vs → Passed q body x) → Found q body blank vs (value (bool (not (ends_at q))) n)
  no_value : {n : ℕ} → ((x : Value) → Member x vs → Passed q body x ⊎ Blank body x) → (blank ≡ true) ⊎ ((x : Value) × Member x vs × Blank body x)
      → Found q body blank vs (undefined n)
  over : {o : Outcome} → Over o → Found q body blank vs o

module _ (q : Quantifier) (body : Value → ℕ → Outcome) where
  either : {P : Value → Type 0} (v : Value) (vs : Values) → P v → ((x : Value) → Member x vs → P x) → (x : Value) → Member x (cons v vs) → P x
  either v vs p h x first = p
  either v vs p h x (later m) = h x m

  pass_more : {blank : Bool} {vs : Values} {o : Outcome} (v : Value) → Passed q body v → Found q body blank vs o → Found q body blank (cons v vs) o
  pass_more {vs} v p (at-end x h e) = at-end x (later h) e
  pass_more {vs} v p (no_end b h) = no_end b (either v vs p h)
  pass_more {vs} v p (no_value h (inl b)) = no_value (either v vs (inl p) h) (inl b)
  pass_more {vs} v p (no_value h (inr c)) = no_value (either v vs (inl p) h) (inr (c.0, later c.1, c.2))
  pass_more v p (over o) = over o

  blank_more : {blank : Bool} {vs : Values} {o : Outcome} (v : Value) → Blank body v → Found q body true vs o → Found q body blank (cons v vs) o
  blank_more {vs} v p (at-end x h e) = at-end x (later h) e
  blank_more {vs} v p (no_end b h) = absurd (true≢false b)
  blank_more {vs} v p (no_value h c) = no_value (either v vs (inr p) h) (inr (v, first, p))
  blank_more v p (over o) = over o

  beq_same : (b c : Bool) → beq b c ≡ true → b ≡ c
  beq_same true true e = refl
  beq_same true false e = absurd (true≢false (sym e))
  beq_same false true e = absurd (true≢false (sym e))
  beq_same false false e = refl

  beq_not : (b c : Bool) → beq b c ≡ false → b ≡ not c
  beq_not true true e = absurd (true≢false e)
  beq_not true false e = refl
  beq_not false true e = refl
  beq_not false false e = absurd (true≢false e)

  pub searched : (blank : Bool) (vs : Values) (n : ℕ) → Found q body blank vs (seek q body blank vs n)
  unfolding seek
  searched true nil n = no_value (λ x h. absurd (no_member h)) (inl refl)
  searched false nil n = no_end refl (λ x h. absurd (no_member h))
  searched blank (cons v vs) n = by (body v n) refl (searched blank vs) (searched true vs)
    where
      on_test : (b : Bool) (m : ℕ) → body v n ≡ value (bool b) m → Found q body blank vs (seek q body blank vs m) → (c : Bool) → beq b (ends_at q) ≡ c
          → Found q body blank (cons v vs) (if c then value (bool b) m else seek q body blank vs m)
      on_test b m e h true z = let y = beq_same b (ends_at q) z in rw y (at-end v first (n, m, e ∙ ap (λ d. value (bool d) m) y))
      on_test b m e h false z = pass_more v (n, m, e ∙ ap (λ d. value (bool d) m) (beq_not b (ends_at q) z)) h

      on_value : (w : Value) (m : ℕ) → body v n ≡ value w m → Found q body blank vs (seek q body blank vs m)
          → Found q body blank (cons v vs) (on_bool w (λ b. if beq b (ends_at q) then value (bool b) m else seek q body blank vs m))
      on_value (bool b) m e h = on_test b m e h (beq b (ends_at q)) refl
      on_value (num x) m e h = over tt
      on_value (obj o) m e h = over tt
      on_value (coll k us) m e h = over tt

      by : (o : Outcome) → body v n ≡ o → ((m : ℕ) → Found q body blank vs (seek q body blank vs m)) → ((m : ℕ) → Found q body true vs (seek q body true vs m))
          → Found q body blank (cons v vs) (resume o (λ w m. on_bool w (λ b. if beq b (ends_at q) then value (bool b) m else seek q body blank vs m)) (λ m. seek q body true vs m))
      by (value w m) e g h = on_value w m e (g m)
      by (undefined m) e g h = blank_more v (n, m, e) (h m)
      by stuck e g h = over tt
      by (stop c m) e g h = over tt

-- ---- two searches, whose members go with one another

module _ (f : ℕ → ℕ) (q : Quantifier) (body : Value → ℕ → Outcome) (other : Value → ℕ → Outcome) (vs ws : Values)
    (alike : (x : Value) → Member x vs → (n m : ℕ) → Matches f (body x n) (other (renumbered f x) m))
    (there : (x : Value) → Member x vs → Member (renumbered f x) ws)
    (here : (y : Value) → Member y ws → (x : Value) × Member x vs × (y ≡ renumbered f x)) where
  not_same : (b : Bool) → not b ≡ b → ⊥
  not_same true e = true≢false (sym e)
  not_same false e = true≢false e

  end_pass : (x : Value) → Member x vs → Ending q body x → Passed q other (renumbered f x) → ⊥
  end_pass x h (a) b = not_same (ends_at q) (value_value (alike x h a.0 b.0) a.2 b.2)

  end_blank : (x : Value) → Member x vs → Ending q body x → Blank other (renumbered f x) → ⊥
  end_blank x h a b = value_undefined (alike x h a.0 b.0) a.2 b.2

  pass_end : (x : Value) → Member x vs → Passed q body x → Ending q other (renumbered f x) → ⊥
  pass_end x h a b = not_same (ends_at q) (sym (value_value (alike x h a.0 b.0) a.2 b.2))

  pass_blank : (x : Value) → Member x vs → Passed q body x → Blank other (renumbered f x) → ⊥
  pass_blank x h a b = value_undefined (alike x h a.0 b.0) a.2 b.2

  blank_end : (x : Value) → Member x vs → Blank body x → Ending q other (renumbered f x) → ⊥
  blank_end x h a b = undefined_value (alike x h a.0 b.0) a.2 b.2

  blank_pass : (x : Value) → Member x vs → Blank body x → Passed q other (renumbered f x) → ⊥
  blank_pass x h a b = undefined_value (alike x h a.0 b.0) a.2 b.2

  -- a member of the second, as the image of one of the first
  at_image : (P : Value → Type 0) (y : Value) → Member y ws → P y → (x : Value) × Member x vs × P (renumbered f x)
  at_image P y h p = let r = here y h in (r.0, r.1, subst P r.2 p)

  pub found_alike : {o p : Outcome} → Found q body false vs o → Found q other false ws p → Matches f o p
  unfolding renumbered
  found_alike (at-end x h e) (at-end y i d) = match_values fit_bool refl
  found_alike (at-end x h e) (no_end b g) = absurd (end_pass x h e (g (renumbered f x) (there x h)))
  found_alike (at-end x h e) (no_value g c) = absurd (by (g (renumbered f x) (there x h)))
    where
      by : Passed q other (renumbered f x) ⊎ Blank other (renumbered f x) → ⊥
      by (inl a) = end_pass x h e a
      by (inr a) = end_blank x h e a
  found_alike (no_end b g) (at-end y i d) = absurd (let r = at_image (Ending q other) y i d in pass_end r.0 r.1 (g r.0 r.1) r.2)
  found_alike (no_end b g) (no_end c k) = match_values fit_bool refl
  found_alike (no_end b g) (no_value k (inl c)) = absurd (true≢false (sym c))
  found_alike (no_end b g) (no_value k (inr c)) = absurd (let r = at_image (Blank other) c.0 c.1 c.2 in pass_blank r.0 r.1 (g r.0 r.1) r.2)
  found_alike (no_value g c) (at-end y i d) = absurd (let r = at_image (Ending q other) y i d in by r.0 r.1 r.2 (g r.0 r.1))
    where
      by : (x : Value) → Member x vs → Ending q other (renumbered f x) → Passed q body x ⊎ Blank body x → ⊥
      by x h e (inl a) = pass_end x h a e
      by x h e (inr a) = blank_end x h a e
  found_alike (no_value g (inl c)) (no_end b k) = absurd (true≢false (sym c))
  found_alike (no_value g (inr c)) (no_end b k) = absurd (blank_pass c.0 c.1 c.2 (k (renumbered f c.0) (there c.0 c.1)))
  found_alike (no_value g c) (no_value k d) = match_undefined
  found_alike (over o) h = left_over o
  found_alike (at-end x h e) (over o) = right_over o
  found_alike (no_end b g) (over o) = right_over o
  found_alike (no_value g c) (over o) = right_over o
