-- The steps of a node are its own beginning and then its operands' runs, one after the other: so a node that is named began within the
-- run's own steps. Assumes nothing.
use mathlib.Core.Path.{◌≡◌, refl, sym, subst}
use mathlib.Core.Bool.{Bool, true, false, beq}
use mathlib.Core.List.{List, [], ◌∷◌}
use Prim.Native.Nat.{ℕ, ◌+◌, ◌<◌, ◌≤◌}
use native.Mathlib.Omega.{arith}
use lib.Dec.{ltb}
use Rattle.std.specs.Prelude.{if◌then◌else◌}
use Rattle.ocl.specs.Types.{Kind, class}
use Rattle.ocl.specs.Values.{Value, bool, num, obj, coll, Values, nil, cons, add}
use Rattle.ocl.specs.Model.{Model, is_a}
use Rattle.ocl.specs.Environment.{Env, extend, start}
use Rattle.ocl.specs.Forms.{Quantifier, Expr, Form, leaf, unary, binary, connective, is_undef, conditional, let_in, attribute, call, quantified, iterate, assemble, Operands, no_operand, operand}
use Rattle.ocl.specs.Marks.{Mark}
use Rattle.ocl.specs.Operations.{Outcome, value, undefined, stuck, stop, on_bool, on_obj, on_coll, left_fits}
use Rattle.ocl.specs.Evaluation.{resume, bind, tick, decides, ends_at, unary_run, binary_run, connective_run, is_undef_run, conditional_run, let_run, attribute_run, call_run, seek, quantified_run, fold, iterate_run, no_operand_run, operand_run, assemble_run, evaluation, form_run, operands_run}
use Rattle.ocl.specs.Origin.{Begun, begun, outcome_from, after_value, unless_decided, branch_of, object_of, members_of, bodies, turns, member_runs, runs_of, FirstUndefined, this_one, after_it, Arose, here, below, After, value_after, undefined_after, InTurn, no_more, then_next, RunsLaw, OriginStep}
use Rattle.ocl.proofs.Steps.{Counted, limited_value, limited_undefined, limited_stuck, limited_if, limited_form, limited_bool, leaf_limited, unary_limited, binary_limited, access_limited, run_grows, limited_stop}

module _ (s : Model) (mark : ℕ → Mark) where
  -- if the outcome is a value or undefined, the runs are all that ran between n steps and its own
  record Fills (n : ℕ) (bs : List Begun) (o : Outcome) : Type 0 where
    turn : (m : ℕ) → After m o → InTurn s mark n bs m

  -- an operation begins no step
  still : {k m : ℕ} {o : Outcome} → Counted (λ i. i ≡ k) o → After m o → InTurn s mark k [] m
  still (limited_value e) value_after = subst (InTurn s mark _ []) (sym e) no_more
  still (limited_undefined e) undefined_after = subst (InTurn s mark _ []) (sym e) no_more
  still {k = k} {m = m} limited_stuck x3 = elim x3 [ ]
  still {k = k} {m = m} (limited_stop {c = c} {n = n} _ _) x8 = elim x8 [ ]

  fills_none : {n : ℕ} {o : Outcome} → Counted (λ i. i ≡ n) o → Fills n [] o
  fills_none h = record { turn = λ m a. still h a }

  -- an operand whose outcome is the form's
  fills_tail : (b : Begun) → Fills b.before (b ∷ []) (outcome_from s mark b)
  fills_tail b = record { turn = λ m a. then_next refl a no_more }

  -- an operand after which others may run
  fills_then : (b : Begun) {more : Value → ℕ → List Begun} {g : Value → ℕ → Outcome} → ((v : Value) (k : ℕ) → Fills k (more v k) (g v k))
      → Fills b.before (b ∷ after_value (outcome_from s mark b) more) (bind (outcome_from s mark b) g)
  fills_then b {more} {g} h = record { turn = by (outcome_from s mark b) refl }
    where
      by : (o : Outcome) → outcome_from s mark b ≡ o → (m : ℕ) → After m (bind o g) → InTurn s mark b.before (b ∷ after_value o more) m
      by (value v k) e m a = then_next refl (subst (After k) (sym e) value_after) ((h v k).turn m a)
      by (undefined k) e m a = then_next refl (subst (After m) (sym e) a) no_more
      by stuck e m a = elim a [ ]
      by (stop c k) e m a = elim a [ ]

  -- the last one
  fills_last : (b : Begun) {g : Value → ℕ → Outcome} {u : ℕ → Outcome} → ((v : Value) (k : ℕ) → Fills k [] (g v k)) → ((k : ℕ) → Fills k [] (u k))
      → Fills b.before (b ∷ []) (resume (outcome_from s mark b) g u)
  fills_last b {g} {u} h i = record { turn = by (outcome_from s mark b) refl }
    where
      by : (o : Outcome) → outcome_from s mark b ≡ o → (m : ℕ) → After m (resume o g u) → InTurn s mark b.before (b ∷ []) m
      by (value v k) e m a = then_next refl (subst (After k) (sym e) value_after) ((h v k).turn m a)
      by (undefined k) e m a = then_next refl (subst (After k) (sym e) undefined_after) ((i k).turn m a)
      by stuck e m a = elim a [ ]
      by (stop c k) e m a = elim a [ ]

  fills_strict : (b : Begun) {g : Value → ℕ → Outcome} → ((v : Value) (k : ℕ) → Fills k [] (g v k)) → Fills b.before (b ∷ []) (bind (outcome_from s mark b) g)
  fills_strict b {g} h = record { turn = by (outcome_from s mark b) refl }
    where
      by : (o : Outcome) → outcome_from s mark b ≡ o → (m : ℕ) → After m (bind o g) → InTurn s mark b.before (b ∷ []) m
      by (value v k) e m a = then_next refl (subst (After k) (sym e) value_after) ((h v k).turn m a)
      by (undefined k) e m a = then_next refl (subst (After m) (sym e) a) no_more
      by stuck e m a = elim a [ ]
      by (stop c k) e m a = elim a [ ]

  -- one that may decide, and what runs where it does not
  fills_unless : (d : Bool) (b : Begun) {more : ℕ → List Begun} {g u : ℕ → Outcome} → ((k : ℕ) → Fills k (more k) (g k)) → ((k : ℕ) → Fills k (more k) (u k))
      → Fills b.before (b ∷ unless_decided d (outcome_from s mark b) more) (resume (outcome_from s mark b) (λ v k. on_bool v (λ x. if beq x d then value (bool x) k else g k)) u)
  fills_unless d b {more} {g} {u} h i = record { turn = by (outcome_from s mark b) refl }
    where
      test : (t x : Bool) (k m : ℕ) → After m (if t then value (bool x) k else g k) → InTurn s mark k (if t then [] else more k) m
      test true x k m value_after = no_more
      test false x k m a = (h k).turn m a

      by : (o : Outcome) → outcome_from s mark b ≡ o → (m : ℕ) → After m (resume o (λ v k. on_bool v (λ x. if beq x d then value (bool x) k else g k)) u)
          → InTurn s mark b.before (b ∷ unless_decided d o more) m
      by (value (bool x) k) e m a = then_next refl (subst (After k) (sym e) value_after) (test (beq x d) x k m a)
      by (value (num x) k) e m a = elim a [ ]
      by (value (obj x) k) e m a = elim a [ ]
      by (value (coll c vs) k) e m a = elim a [ ]
      by (undefined k) e m a = then_next refl (subst (After k) (sym e) undefined_after) ((i k).turn m a)
      by stuck e m a = elim a [ ]
      by (stop c k) e m a = elim a [ ]

  fills_stuck : {n : ℕ} {bs : List Begun} → Fills n bs stuck
  fills_stuck = record { turn = λ m a. elim a [ ] }

  fills_if : {n : ℕ} {bs cs : List Begun} {o w : Outcome} (b : Bool) → Fills n bs o → Fills n cs w → Fills n (if b then bs else cs) (if b then o else w)
  fills_if true h i = h
  fills_if false h i = i

  fills_branch : {n : ℕ} {bs cs : List Begun} {o w : Outcome} (v : Value) → Fills n bs o → Fills n cs w → Fills n (branch_of v bs cs) (on_bool v (λ b. if b then o else w))
  fills_branch (bool b) h i = fills_if b h i
  fills_branch (num x) h i = fills_stuck
  fills_branch (obj o) h i = fills_stuck
  fills_branch (coll c vs) h i = fills_stuck

  fills_object : {n : ℕ} {f : ℕ → List Begun} {g : ℕ → Outcome} (v : Value) → ((o : ℕ) → Fills n (f o) (g o)) → Fills n (object_of v f) (on_obj v g)
  fills_object (bool b) h = fills_stuck
  fills_object (num x) h = fills_stuck
  fills_object (obj o) h = h o
  fills_object (coll c vs) h = fills_stuck

  fills_members : {n : ℕ} {f : Values → List Begun} {g : Kind → Values → Outcome} (v : Value) → ((c : Kind) (vs : Values) → Fills n (f vs) (g c vs)) → Fills n (members_of v f) (on_coll v g)
  fills_members (bool b) h = fills_stuck
  fills_members (num x) h = fills_stuck
  fills_members (obj o) h = fills_stuck
  fills_members (coll c vs) h = h c vs

  -- ---- bodies and members

  bodies_fill : (q : Quantifier) (i : ℕ) (b : Expr) (ρ : Env Value) (blank : Bool) (vs : Values) (n : ℕ)
      → Fills n (bodies s mark q i b ρ vs n) (seek q (λ x. evaluation s mark b (extend ρ i x)) blank vs n)
  unfolding bodies seek outcome_from
  bodies_fill q i b ρ blank nil n = fills_none (limited_if blank (limited_undefined refl) (limited_value refl))
  bodies_fill q i b ρ blank (cons v vs) n =
      fills_unless (ends_at q) (begun b (extend ρ i v) n) (λ k. bodies_fill q i b ρ blank vs k) (λ k. bodies_fill q i b ρ true vs k)

  turns_fill : (i j : ℕ) (b : Expr) (ρ : Env Value) (vs : Values) (a : Value) (n : ℕ)
      → Fills n (turns s mark i j b ρ vs a n) (fold (λ x y. evaluation s mark b (extend (extend ρ i x) j y)) vs a n)
  unfolding turns fold outcome_from
  turns_fill i j b ρ nil a n = fills_none (limited_value refl)
  turns_fill i j b ρ (cons v vs) a n = fills_then (begun b (extend (extend ρ i v) j a) n) (λ c k. turns_fill i j b ρ vs c k)

  members_fill : (es : Operands) (c : Kind) (vs : Values) (ρ : Env Value) (n : ℕ) → Fills n (member_runs s mark es ρ n) (operands_run s mark es c vs ρ n)
  unfolding member_runs evaluation no_operand_run operand_run outcome_from
  members_fill no_operand c vs ρ n = fills_none (limited_form (coll c vs) n refl)
  members_fill (operand e es) c vs ρ n = fills_then (begun e ρ n) (λ v k. members_fill es c (add c v vs) ρ k)

  -- ---- the forms

  form_fills : (p : ℕ) (f : Form) (ρ : Env Value) (n : ℕ) → Fills n (runs_of s mark p f ρ n) (form_run s mark p f ρ n)
  unfolding evaluation runs_of outcome_from unary_run binary_run connective_run is_undef_run conditional_run let_run attribute_run call_run quantified_run iterate_run assemble_run
  form_fills p (leaf l) ρ n = fills_none (leaf_limited s l ρ n refl)
  form_fills p (unary op a) ρ n = fills_strict (begun a ρ n) (λ v k. fills_none (unary_limited s op v k refl))
  form_fills p (binary op a b) ρ n = fills_then (begun a ρ n) (λ v k. fills_if (left_fits (mark p) op v)
      (fills_strict (begun b ρ k) (λ w i. fills_none (binary_limited s (mark p) op v w i refl))) (fills_none limited_stuck))
  form_fills p (connective c a b) ρ n = fills_unless (decides c) (begun a ρ n)
      (λ k. fills_strict (begun b ρ k) (λ w i. fills_none (limited_bool w (λ y. limited_value refl))))
      (λ k. fills_strict (begun b ρ k) (λ w i. fills_none (limited_bool w (λ y. limited_if (beq y (decides c)) (limited_value refl) (limited_undefined refl)))))
  form_fills p (is_undef a) ρ n = fills_last (begun a ρ n) (λ v k. fills_none (limited_value refl)) (λ k. fills_none (limited_value refl))
  form_fills p (conditional c a b) ρ n = fills_then (begun c ρ n) (λ v k. fills_branch v (fills_tail (begun a ρ k)) (fills_tail (begun b ρ k)))
  form_fills p (let_in i a b) ρ n = fills_then (begun a ρ n) (λ v k. fills_tail (begun b (extend ρ i v) k))
  form_fills p (attribute x name a) ρ n = fills_strict (begun a ρ n) (λ v k. fills_none (access_limited s x (mark p) v k refl))
  form_fills p (call c t a b) ρ n = fills_then (begun a ρ n) (λ v k. fills_object v (λ o. fills_if (is_a s o (class c)) (fills_tail (begun b (start (obj o)) k)) (fills_none limited_stuck)))
  form_fills p (quantified q i a b) ρ n = fills_then (begun a ρ n) (λ v k. fills_members v (λ c vs. bodies_fill q i b ρ false vs k))
  form_fills p (iterate i j t a e b) ρ n = fills_then (begun a ρ n) (λ v k. fills_members v (λ c vs. fills_then (begun e ρ k) (λ x l. turns_fill i j b ρ vs x l)))
  form_fills p (assemble c es) ρ n = members_fill es c nil ρ n

pub runs_law : RunsLaw
unfolding evaluation tick
runs_law s mark p f ρ n m a = by (ltb n 1000000) a
  where
    by : (b : Bool) → After m (if b then form_run s mark p f ρ (n + 1) else stop 16 n) → InTurn s mark (n + 1) (runs_of s mark p f ρ (n + 1)) m
    by true a = (form_fills s mark p f ρ (n + 1)).turn m a
    by false a = elim a [ ]

-- ---- within the run's own steps

grown : {n k : ℕ} {o : Outcome} → Counted (λ m. n ≤ m) o → After k o → n ≤ k
grown (limited_value l) value_after = l
grown (limited_undefined l) undefined_after = l
grown {n = n} {k = k} limited_stuck x3 = elim x3 [ ]
grown {n = n} {k = k} (limited_stop {c = c} _ _) x8 = elim x8 [ ]

module _ {s : Model} {mark : ℕ → Mark} where
  turns_grow : {n m : ℕ} {bs : List Begun} → InTurn s mark n bs m → n ≤ m
  unfolding outcome_from
  turns_grow no_more = omega arith
  turns_grow (then_next {b} e a h) = let k = grown (run_grows s mark b.root b.env b.before) a in let l = turns_grow h in omega arith

  -- a run among those, with its steps
  first_in_turn : {n m : ℕ} {b : Begun} {bs : List Begun} → InTurn s mark n bs m → FirstUndefined s mark b bs → (n ≤ b.before) × (k : ℕ) × (outcome_from s mark b ≡ undefined k) × (k ≤ m)
  unfolding outcome_from
  first_in_turn (then_next e a h) (this_one u) = (omega arith, u.steps, u.is, ended a u.is (turns_grow h))
    where
      ended : {k m i : ℕ} {o : Outcome} → After k o → o ≡ undefined i → k ≤ m → i ≤ m
      ended value_after q l = absurd (let z : ◌≡◌ {A = ℕ} 0 1 = cc in omega arith)
      ended {k} {i} undefined_after q l = let z : k ≡ i = cc in omega arith
  first_in_turn (then_next {b} e a h) (after_it d f) =
      let k = grown (run_grows s mark b.root b.env b.before) a in
      let i = first_in_turn h f in
      let l = i.0 in
      (omega arith, i.1, i.2, i.3)
  first_in_turn {b = b} (no_more {n = n}) x5 = elim x5 [ ]

  within : {e : Expr} {ρ : Env Value} {n q j : ℕ} → Arose s mark e ρ n q j → (m : ℕ) → evaluation s mark e ρ n ≡ undefined m → (n < j) × (j ≤ m)
  unfolding outcome_from
  within (here {p} {n} {f} {ρ} u h) m e = let l = turns_grow (runs_law s mark p f ρ n m (subst (After m) (sym e) undefined_after)) in (omega arith, omega arith)
  within (below {p} {n} {f} {ρ} b u g a) m e =
      let i = first_in_turn (runs_law s mark p f ρ n m (subst (After m) (sym e) undefined_after)) g in
      let l = i.0 in
      let w = within a i.1 i.2 in
      let x = w.0 in
      let y = w.1 in
      let z = i.3 in
      (omega arith, omega arith)

pub origin_step : OriginStep
origin_step s mark e ρ n m q j d a = within a m d
