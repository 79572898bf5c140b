-- The evaluation that says where undefined arose ends as evaluation does, and undefined arose where it says: a law for each piece that it
-- is written in, and one induction over the forms. Assumes nothing.
use mathlib.Core.Path.{◌≡◌, sym, ap, ◌∙◌, subst}
use mathlib.Core.Bool.{Bool, true, false, beq}
use mathlib.Core.Option.{none, some}
use mathlib.Core.List.{List, [], ◌∷◌}
use Prim.Native.Nat.{ℕ, ◌+◌}
use native.Mathlib.Omega.{arith as linear}
use lib.Dec.{ltb}
use Rattle.std.specs.Prelude.{if◌then◌else◌}
use Rattle.laws.specs.Lists.{Each, each_nil, each-cons}
use Rattle.ocl.specs.Types.{Kind, class}
use Rattle.ocl.specs.Values.{Value, bool, num, obj, coll, Values, nil, cons, add}
use Rattle.ocl.specs.Model.{Model, is_a}
use Rattle.ocl.specs.Environment.{Env, extend, start}
use Rattle.ocl.specs.Forms.{Connective, Quantifier, var, Expr, node, Form, leaf, unary, binary, connective, is_undef, conditional, let_in, attribute, call, quantified, iterate, assemble, Operands, no_operand, operand}
use Rattle.ocl.specs.Marks.{Mark}
use Rattle.ocl.specs.Operations.{Outcome, value, undefined, stuck, stop, on_bool, on_obj, on_coll, left_fits}
use Rattle.ocl.specs.Evaluation.{bind, tick, decides, ends_at, unary_run, binary_run, connective_run, is_undef_run, conditional_run, let_run, attribute_run, call_run, seek, quantified_run, fold, iterate_run, no_operand_run, operand_run, assemble_run, evaluation, form_run, operands_run}
use Rattle.ocl.specs.Trace.{Traced, value_t, undefined_t, stuck_t, at, resume_t, bind_t, on_bool_t, on_obj_t, on_coll_t, leaf_trace, unary_trace, binary_trace, connective_trace, is_undef_trace, conditional_trace, let_trace, attribute_trace, call_trace, seek_t, quantified_trace, fold_t, iterate_trace, no_operand_trace, operand_trace, assemble_trace, tick_t, trace, form_trace, operands_trace}
use Rattle.ocl.specs.Origin.{Begun, begun, outcome_from, after_value, unless_decided, branch_of, object_of, members_of, bodies, turns, member_runs, runs_of, Undefined, Defined, FirstUndefined, this_one, after_it, Arose, here, below, Source, from_attribute, OriginLaw, SourceLaw, Bound}
use Rattle.ocl.proofs.Says.{Says, says_value, says_undefined, says_stuck, says_stop, says_map, says_same, says_place, says_resume, says_bind, says_bool, says_test, says_by}
use Rattle.ocl.proofs.Sources.{Gives, sure, source, sure_form, leaf_gives, unary_gives, binary_gives}

-- ---- what a form's run says of its operands' runs

module _ (s : Model) (mark : ℕ → Mark) where
  abbrev AroseIn : Begun → ℕ → ℕ → Type 0
  AroseIn b q j = Arose s mark b.root b.env b.before q j

  -- node p of form f, begun at step k, names itself, all operands' runs being defined, or what the first undefined one names
  data Claim (f : Form) (p k : ℕ) (bs : List Begun) : ℕ → ℕ → Type 0 where
    own : Source f → Each (Defined s mark) bs → Claim f p k bs p k
    other : {q j : ℕ} (b : Begun) → FirstUndefined s mark b bs → AroseIn b q j → Claim f p k bs q j

  claim_first : {f : Form} {p k q j m : ℕ} {bs : List Begun} (b : Begun) → outcome_from s mark b ≡ undefined m → AroseIn b q j → Claim f p k (b ∷ bs) q j
  claim_first {m} b e a = other b (this_one (record { steps = m; is = e })) a

  claim_after : {f : Form} {p k q j m : ℕ} {v : Value} {bs : List Begun} (b : Begun) → outcome_from s mark b ≡ value v m → Claim f p k bs q j → Claim f p k (b ∷ bs) q j
  claim_after {m} {v} b e (own g h) = own g (each-cons (record { result = v; steps = m; is = e }) h)
  claim_after {m} {v} b e (other c h a) = other c (after_it (record { result = v; steps = m; is = e }) h) a

  after_law : (o : Outcome) (v : Value) (n : ℕ) (f : Value → ℕ → List Begun) → o ≡ value v n → f v n ≡ after_value o f
  after_law o v n f e = sym (ap (λ x. after_value x f) e)

  says_at : {f : Form} (p k : ℕ) (o : Outcome) → Gives f o → Says (Claim f p k []) (at p k o) o
  says_at p k (value v n) h = says_value
  says_at p k (undefined n) (sure h) = elim h [ ]
  says_at p k (undefined n) (source h) = says_undefined (own h each_nil)
  says_at p k stuck h = says_stuck
  says_at p k (stop c n) h = says_stop

  -- an operand that is the last one, one after which others may run, and one whose outcome is the form's
  last_operand : {f : Form} {p k : ℕ} {x : Traced} {t : Value → ℕ → Traced} {g : Value → ℕ → Outcome} (b : Begun) → Says (AroseIn b) x (outcome_from s mark b)
      → ((v : Value) (n : ℕ) → Says (Claim f p k []) (t v n) (g v n)) → Says (Claim f p k (b ∷ [])) (bind_t x t) (bind (outcome_from s mark b) g)
  last_operand b h i = says_bind h (λ v n e. says_map (i v n) (λ m q j d c. claim_after b e c)) (λ m q j e a. claim_first b e a)

  operand_then : {f : Form} {p k : ℕ} {x : Traced} {t : Value → ℕ → Traced} {g : Value → ℕ → Outcome} (b : Begun) (more : Value → ℕ → List Begun) → Says (AroseIn b) x (outcome_from s mark b)
      → ((v : Value) (n : ℕ) → Says (Claim f p k (more v n)) (t v n) (g v n)) → Says (Claim f p k (b ∷ after_value (outcome_from s mark b) more)) (bind_t x t) (bind (outcome_from s mark b) g)
  operand_then {f} {p} {k} b more h i =
      says_bind h (λ v n e. says_map (i v n) (λ m q j d c. claim_after b e (subst (λ bs. Claim f p k bs q j) (after_law (outcome_from s mark b) v n more e) c))) (λ m q j e a. claim_first b e a)

  tail_operand : {f : Form} {p k : ℕ} {x : Traced} (b : Begun) → Says (AroseIn b) x (outcome_from s mark b) → Says (Claim f p k (b ∷ [])) x (outcome_from s mark b)
  tail_operand b h = says_map h (λ m q j e a. claim_first b e a)

  -- ---- `and`, `or`

  decided_law : (d : Bool) (o : Outcome) (x : Bool) (n : ℕ) (f : ℕ → List Begun) → o ≡ value (bool x) n → beq x d ≡ false → f n ≡ unless_decided d o f
  decided_law d o x n f e q = sym (ap (λ y. unless_decided d y f) e ∙ ap (λ b. if b then [] else f n) q)

  -- undefined whatever follows names the same place
  still_undefined : {C A : ℕ → ℕ → Type 0} {x : Traced} {o : Outcome} (c : Connective) (q j : ℕ) → C q j → Says A x o
      → Says C (resume_t x (λ w n. on_bool_t w (λ y. if beq y (decides c) then value_t (bool y) n else undefined_t n q j)) (λ n q' j'. undefined_t n q j))
      (bind o (λ w n. on_bool w (λ y. if beq y (decides c) then value (bool y) n else undefined n)))
  still_undefined c q j a (says_value {v} {n}) = says_bool v (λ y e. says_test (beq y (decides c)) (λ t. says_value) (λ t. says_undefined a))
  still_undefined c q j a (says_undefined d) = says_undefined a
  still_undefined c q j a says_stuck = says_stuck
  still_undefined c q j a says_stop = says_stop

  -- ---- `forAll`, `exists`

  module _ (q : Quantifier) (i : ℕ) (b : Expr) (ρ : Env Value) (body-says : (v : Value) (n : ℕ) → Says (Arose s mark b (extend ρ i v) n) (trace s mark b (extend ρ i v) n) (evaluation s mark b (extend ρ i v) n)) where
    -- after an undefined body its place stays
    data Place (p k : ℕ) : ℕ → ℕ → Type 0 where
      place : Place p k p k

    blank_seek : (vs : Values) (n p k : ℕ) → Says (Place p k) (seek_t q (λ x. trace s mark b (extend ρ i x)) (some (p, k)) vs n) (seek q (λ x. evaluation s mark b (extend ρ i x)) true vs n)
    unfolding seek_t seek
    blank_seek nil n p k = says_undefined place
    blank_seek (cons v vs) n p k =
        says_resume (body-says v n) (λ w m e. says_bool w (λ x d. says_test (beq x (ends_at q)) (λ t. says_value) (λ t. blank_seek vs m p k))) (λ m q' j e a. blank_seek vs m p k)

    open_seek : (vs : Values) (n : ℕ) {f : Form} {p k : ℕ}
        → Says (Claim f p k (bodies s mark q i b ρ vs n)) (seek_t q (λ x. trace s mark b (extend ρ i x)) none vs n) (seek q (λ x. evaluation s mark b (extend ρ i x)) false vs n)
    unfolding seek_t seek bodies outcome_from
    open_seek nil n = says_value
    open_seek (cons v vs) n {f} {p} {k} = says_resume (body-says v n)
        (λ w m e. says_bool w (λ x d. says_test (beq x (ends_at q)) (λ t. says_value) (λ t.
        says_map (open_seek vs m {f = f} {p = p} {k = k}) (λ l q' j z c. claim_after (begun b (extend ρ i v) n) e
        (subst (λ bs. Claim f p k bs q' j) (decided_law (ends_at q) (evaluation s mark b (extend ρ i v) n) x m (λ l. bodies s mark q i b ρ vs l) (e ∙ ap (λ y. value y m) d) t) c)))))
        (λ m q' j e a. says_map (blank_seek vs m q' j) (λ l x y z c. first_place x y e a c))
      where
        first_place : {q' j m : ℕ} (x y : ℕ) → evaluation s mark b (extend ρ i v) n ≡ undefined m → Arose s mark b (extend ρ i v) n q' j → Place q' j x y
            → Claim f p k (begun b (extend ρ i v) n ∷ unless_decided (ends_at q) (evaluation s mark b (extend ρ i v) n) (λ m. bodies s mark q i b ρ vs m)) x y
        first_place x y e a place = claim_first (begun b (extend ρ i v) n) e a

  -- ---- `iter`

  fold_says : (i j : ℕ) (b : Expr) (ρ : Env Value) → ((v a : Value) (n : ℕ) → Says (Arose s mark b (extend (extend ρ i v) j a) n) (trace s mark b (extend (extend ρ i v) j a) n) (evaluation s mark b (extend (extend ρ i v) j a) n))
      → (vs : Values) (a : Value) (n : ℕ) {f : Form} {p k : ℕ}
      → Says (Claim f p k (turns s mark i j b ρ vs a n)) (fold_t (λ y z. trace s mark b (extend (extend ρ i y) j z)) vs a n) (fold (λ x y. evaluation s mark b (extend (extend ρ i x) j y)) vs a n)
  unfolding fold_t fold turns outcome_from
  fold_says i j b ρ h nil a n = says_value
  fold_says i j b ρ h (cons v vs) a n =
      operand_then (begun b (extend (extend ρ i v) j a) n) (λ c m. turns s mark i j b ρ vs c m) (h v a n) (λ c m. fold_says i j b ρ h vs c m)

  -- ---- parts of forms

  binary_right : {f : Form} (p k : ℕ) (t : Bool) (b : Begun) {x : Traced} {h : Value → ℕ → Traced} {g : Value → ℕ → Outcome} → ((v : Value) (n : ℕ) → Says (Claim f p k []) (h v n) (g v n)) → Says (AroseIn b) x (outcome_from s mark b)
      → Says (Claim f p k (if t then b ∷ [] else [])) (if t then bind_t x h else stuck_t) (if t then bind (outcome_from s mark b) g else stuck)
  binary_right p k true b h i = last_operand b i h
  binary_right p k false b h i = says_stuck

  branch_says : {f : Form} (p k : ℕ) (v : Value) (a b : Begun) {x y : Traced} → Says (AroseIn a) x (outcome_from s mark a) → Says (AroseIn b) y (outcome_from s mark b)
      → Says (Claim f p k (branch_of v (a ∷ []) (b ∷ []))) (on_bool_t v (λ t. if t then x else y)) (on_bool v (λ t. if t then outcome_from s mark a else outcome_from s mark b))
  branch_says p k (bool true) a b h i = tail_operand a h
  branch_says p k (bool false) a b h i = tail_operand b i
  branch_says p k (num x) a b h i = says_stuck
  branch_says p k (obj o) a b h i = says_stuck
  branch_says p k (coll c vs) a b h i = says_stuck

  members_say : {f : Form} (p k : ℕ) (v : Value) (r : Values → List Begun) {g : Values → Traced} {h : Kind → Values → Outcome} → ((c : Kind) (vs : Values) → Says (Claim f p k (r vs)) (g vs) (h c vs))
      → Says (Claim f p k (members_of v r)) (on_coll_t v g) (on_coll v h)
  members_say p k (bool b) r i = says_stuck
  members_say p k (num x) r i = says_stuck
  members_say p k (obj o) r i = says_stuck
  members_say p k (coll c vs) r i = i c vs

  called_says : {f : Form} (p k c : ℕ) (v : Value) (r : ℕ → Begun) {x : ℕ → Traced} → ((o : ℕ) → Says (AroseIn (r o)) (x o) (outcome_from s mark (r o)))
      → Says (Claim f p k (object_of v (λ o. if is_a s o (class c) then r o ∷ [] else []))) (on_obj_t v (λ o. if is_a s o (class c) then x o else stuck_t))
      (on_obj v (λ o. if is_a s o (class c) then outcome_from s mark (r o) else stuck))
  called_says p k c (bool b) r h = says_stuck
  called_says p k c (num x) r h = says_stuck
  called_says {f} p k c (obj o) r {x} h = by (is_a s o (class c))
    where
      by : (t : Bool) → Says (Claim f p k (if t then r o ∷ [] else [])) (if t then x o else stuck_t) (if t then outcome_from s mark (r o) else stuck)
      by true = tail_operand (r o) (h o)
      by false = says_stuck
  called_says p k c (coll d vs) r h = says_stuck

  -- ---- the induction

  tick_undefined : (p : ℕ) (f : Form) (ρ : Env Value) (n m : ℕ) → ltb n 1000000 ≡ true → form_run s mark p f ρ (n + 1) ≡ undefined m → evaluation s mark (node p f) ρ n ≡ undefined m
  unfolding evaluation tick
  tick_undefined p f ρ n m t e = rw t e

  claim_arose : {p n q j m : ℕ} {f : Form} {ρ : Env Value} → evaluation s mark (node p f) ρ n ≡ undefined m → Claim f p (n + 1) (runs_of s mark p f ρ (n + 1)) q j → Arose s mark (node p f) ρ n q j
  unfolding outcome_from
  claim_arose {m} e (own g h) = here (record { steps = m; is = e }) h
  claim_arose {m} e (other b h a) = below b (record { steps = m; is = e }) h a

  mutual
    unfolding trace tick_t evaluation tick leaf_trace unary_trace unary_run binary_trace binary_run connective_trace connective_run is_undef_trace is_undef_run conditional_trace conditional_run let_trace let_run attribute_trace attribute_run call_trace call_run quantified_trace quantified_run iterate_trace iterate_run no_operand_trace no_operand_run operand_trace operand_run assemble_trace assemble_run runs_of member_runs outcome_from

    all_say : (e : Expr) (ρ : Env Value) (n : ℕ) → Says (Arose s mark e ρ n) (trace s mark e ρ n) (evaluation s mark e ρ n)
    all_say (node p f) ρ n =
        says_test (ltb n 1000000) (λ t. says_map (form_says p f ρ (n + 1)) (λ m q j e c. claim_arose (tick_undefined p f ρ n m t e) c)) (λ t. says_stop)

    form_says : (p : ℕ) (f : Form) (ρ : Env Value) (n : ℕ) → Says (Claim f p n (runs_of s mark p f ρ n)) (form_trace s mark p f ρ n) (form_run s mark p f ρ n)
    form_says p (leaf l) ρ n = says_at p n _ (leaf_gives s l ρ n)
    form_says p (unary op a) ρ n = last_operand (begun a ρ n) (all_say a ρ n) (λ v m. says_at p n _ (unary_gives s op a v m))
    form_says p (binary op a b) ρ n =
        operand_then (begun a ρ n) (λ v m. if left_fits (mark p) op v then begun b ρ m ∷ [] else []) (all_say a ρ n)
        (λ v m. binary_right p n (left_fits (mark p) op v) (begun b ρ m) (λ w i. says_at p n _ (binary_gives (mark p) op a b v w i)) (all_say b ρ m))
    form_says p (connective c a b) ρ n = says_resume (all_say a ρ n)
        (λ v m e. says_bool v (λ x d. says_test (beq x (decides c)) (λ t. says_value) (λ t.
        says_map (last_operand {f = connective c a b} {p = p} {k = n} (begun b ρ m) (all_say b ρ m) (λ w i. says_bool w (λ y z. says_value)))
        (λ l q j z g. claim_after (begun a ρ n) e
        (subst (λ bs. Claim (connective c a b) p n bs q j) (decided_law (decides c) (evaluation s mark a ρ n) x m (λ l. begun b ρ l ∷ []) (e ∙ ap (λ y. value y m) d) t) g)))))
        (λ m q j e g. still_undefined c q j (claim_first (begun a ρ n) e g) (all_say b ρ m))
    form_says p (is_undef a) ρ n = says_resume (all_say a ρ n) (λ v m e. says_value) (λ m q j e g. says_value)
    form_says p (conditional c a b) ρ n =
        operand_then (begun c ρ n) (λ v m. branch_of v (begun a ρ m ∷ []) (begun b ρ m ∷ [])) (all_say c ρ n)
        (λ v m. branch_says p n v (begun a ρ m) (begun b ρ m) (all_say a ρ m) (all_say b ρ m))
    form_says p (let_in i a b) ρ n =
        operand_then (begun a ρ n) (λ v m. begun b (extend ρ i v) m ∷ []) (all_say a ρ n)
        (λ v m. tail_operand (begun b (extend ρ i v) m) (all_say b (extend ρ i v) m))
    form_says p (attribute x name a) ρ n = last_operand (begun a ρ n) (all_say a ρ n) (λ v m. says_at p n _ (source from_attribute))
    form_says p (call c t a b) ρ n =
        operand_then (begun a ρ n) (λ v m. object_of v (λ o. if is_a s o (class c) then begun b (start (obj o)) m ∷ [] else [])) (all_say a ρ n)
        (λ v m. called_says p n c v (λ o. begun b (start (obj o)) m) (λ o. all_say b (start (obj o)) m))
    form_says p (quantified q i a b) ρ n =
        operand_then (begun a ρ n) (λ v m. members_of v (λ vs. bodies s mark q i b ρ vs m)) (all_say a ρ n)
        (λ v m. members_say p n v (λ vs. bodies s mark q i b ρ vs m) (λ c vs. open_seek q i b ρ (λ x l. all_say b (extend ρ i x) l) vs m))
    form_says p (iterate i j t a e b) ρ n =
        operand_then (begun a ρ n) (λ v m. members_of v (λ vs. begun e ρ m ∷ after_value (evaluation s mark e ρ m) (λ x l. turns s mark i j b ρ vs x l))) (all_say a ρ n)
        (λ v m. members_say p n v (λ vs. begun e ρ m ∷ after_value (evaluation s mark e ρ m) (λ x l. turns s mark i j b ρ vs x l))
        (λ c vs. operand_then (begun e ρ m) (λ x l. turns s mark i j b ρ vs x l) (all_say e ρ m)
        (λ x l. fold_says i j b ρ (λ y z w. all_say b (extend (extend ρ i y) j z) w) vs x l)))
    form_says p (assemble l es) ρ n = gather_says es (assemble l es) p n l nil ρ n

    gather_says : (es : Operands) (f : Form) (p k : ℕ) (l : Kind) (vs : Values) (ρ : Env Value) (n : ℕ) → Says (Claim f p k (member_runs s mark es ρ n)) (operands_trace s mark es p k l vs ρ n) (operands_run s mark es l vs ρ n)
    gather_says no_operand f p k l vs ρ n = says_at p k _ (sure (sure_form (coll l vs) n))
    gather_says (operand e es) f p k l vs ρ n =
        operand_then (begun e ρ n) (λ v m. member_runs s mark es ρ m) (all_say e ρ n) (λ v m. gather_says es f p k l (add l v vs) ρ m)

pub origin : OriginLaw
origin s mark e ρ n = record {
  same_outcome = says_same (all_say s mark e ρ n);
  arose = λ m q j d. says_place (all_say s mark e ρ n) d;
}

-- ---- where undefined can arise

module _ {s : Model} {mark : ℕ → Mark} where
  pub not_both : {b : Begun} → Undefined s mark b → Defined s mark b → ⊥
  not_both u d = let z : undefined u.steps ≡ value d.result d.steps = sym u.is ∙ d.is in let w : ◌≡◌ {A = ℕ} 0 1 = cc in omega linear

  pub first_defined : {b : Begun} {bs : List Begun} → FirstUndefined s mark b bs → Each (Defined s mark) bs → ⊥
  first_defined (this_one u) (each-cons d h) = not_both u d
  first_defined (after_it c f) (each-cons d h) = first_defined f h

  own_source : {f : Form} {p k q j : ℕ} {bs : List Begun} → Each (Defined s mark) bs → Claim s mark f p k bs q j → Source f
  own_source h (own g d) = g
  own_source h (other b d a) = absurd (first_defined d h)

stop_undefined : {c n m : ℕ} {C : Type 0} → stop c n ≡ undefined m → C
stop_undefined e = absurd (let z : ◌≡◌ {A = ℕ} 0 1 = cc in omega linear)

pub source_law : SourceLaw
unfolding outcome_from evaluation tick
source_law s mark p f ρ n u h = by (ltb n 1000000) u.is
  where
    by : (b : Bool) → (if b then form_run s mark p f ρ (n + 1) else stop 16 n) ≡ undefined u.steps → Source f
    by true e = says_by (form_says s mark p f ρ (n + 1)) e (λ q j c. own_source h c)
    by false e = stop_undefined e

pub bound_law : (s : Model) (mark : ℕ → Mark) → Bound s mark
unfolding runs_of outcome_from
bound_law s mark = record {
  no_variable = λ p i n ρ u. no_source (source_law s mark p (leaf (var i)) ρ n u each_nil);
  no_body = λ p i n a b ρ u. ap (λ o. begun a ρ n ∷ after_value o (λ v m. begun b (extend ρ i v) m ∷ [])) u.is;
}
  where
    no_source : {i : ℕ} → Source (leaf (var i)) → ⊥
    no_source h = elim h [ ]
