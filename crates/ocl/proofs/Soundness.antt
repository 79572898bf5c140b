-- Demand 3: one induction over the forms, with a law for each piece that typing and evaluation are written in. Assumes nothing.
use mathlib.Core.Path.{◌≡◌, refl, sym, subst}
use mathlib.Core.Bool.{true, false, beq}
use mathlib.Core.Option.{Option}
use mathlib.Core.List.{List, ◌++◌}
use Prim.Native.Nat.{ℕ, ◌+◌, ◌*◌}
use native.Mathlib.Nat.{mul-le-mul_right}
use native.Mathlib.Omega.{arith as linear}
use lib.Dec.{T, T_not}
use Rattle.laws.specs.Choice.{on_some, map_some}
use Rattle.laws.specs.Lists.{Each}
use Rattle.reals.specs.Reals.{kept}
use Rattle.ocl.specs.Environment.{Env, extend, start}
use Rattle.ocl.specs.Types.{class, Kind, Letter, exactly, Ty, void, around, Boolean, Class, letter_subtype, subtype}
use Rattle.ocl.specs.Values.{Value, bool, num, obj, coll, Values, nil, cons, size, add}
use Rattle.ocl.specs.Model.{Model, schema_of, is_a, every}
use Rattle.ocl.specs.Forms.{Connective, Quantifier, Access, of_object, of_members, Expr, node, Form, leaf, unary, binary, connective, is_undef, conditional, let_in, attribute, call, quantified, iterate, assemble, Operands, no_operand, operand, Definition, reach, inside, reaches, calls, calls_in, calls_of}
use Rattle.ocl.specs.Laws.{literals, Agree}
use Rattle.ocl.specs.Marks.{Mark, of_row, of_rows, row_marked, kind_marked}
use Rattle.ocl.specs.Typing.{Answer, typed, wrap, collect_kind, both_below, conditional_type, row_type, attribute_type, leaf_typing, unary_typing, binary_typing, connective_typing, is_undef_typing, conditional_typing, let_typing, attribute_typing, call_type, call_typing, quantified_typing, iterate_typing, no_operand_typing, operand_typing, assemble_typing, typing, form_typing, operands_typing, type_rule, root, type_definition}
use Rattle.ocl.specs.Operations.{has_row, value_in_row, values_in_row, form_all, access}
use Rattle.ocl.specs.Evaluation.{Run, decides, connective_run, is_undef_run, conditional_run, let_run, attribute_run, call_run, quantified_run, iterate_run, Gather, no_operand_run, operand_run, assemble_run, evaluation, form_run, operands_run, evaluate_rule}
use Rattle.ocl.specs.Soundness.{AcceptedModel, Sound, TypedDefinition, Soundness}
use Rattle.laws.proofs.Tests.{All?, all_none, all_some, all_imp, all_self}
use Rattle.laws.proofs.Lists.{each_head, each_left, each_right}
use Rattle.ocl.proofs.SimpleTypes.{climb→simpleSubtype, boolean_not_class}
use Rattle.ocl.proofs.Types.{same_kind_refl}
use Rattle.ocl.proofs.Values.{Every, every_nil, every_test, all_each, add_every, add_all_every, Belongs, belongs_by, belongs_test, is_a_up, Above, row_read_above}
use Rattle.ocl.proofs.Runs.{Safe, safe_weak, safe_le, safe_undefined, safe_resume, safe_bind, safe_tick, safe_if, safe_fold, safe_seek, Fits, fine_sound, safe_zero}
use Rattle.ocl.proofs.Means.{Gives, no_type, gives, gives_type, Means, means_pure, means_then, means_imp, means_collection, means_class, means_if, gives_common, gives_class, gives_wrap}
use Rattle.ocl.proofs.ByType.{number_not_class, Ok, Below, Sem, EnvOk, SemAll, below_by, gives_below, joined, below_same, below_then, extend_ok, ok_up, is_bool, bool_sem, obj_sem, coll_of, coll_sem, bool_ok, give_bool, given_sem, form_sem, bels}
use Rattle.ocl.proofs.StrictForms.{leaf_sem, unary_sem, binary_sem}
use Rattle.ocl.proofs.NumbersKept.{ends_kept}
use Rattle.ocl.proofs.Formed.{formed_ends}
use Rattle.ocl.proofs.Marks.{marks_first}

module _ (s : Model) (ok : AcceptedModel s) (mark : ℕ → Mark) where
  connective_sem : {Γ : Env Ty} {k n : ℕ} {t u : Ty} {f g : Run} (c : Connective) → Below s t Boolean → Below s u Boolean → Sem s Γ k t f → Sem s Γ n u g → Sem s Γ (k + n) Boolean (connective_run c f g)
  unfolding connective_run
  connective_sem c l m hf hg = record {
    run = λ ρ r. safe_resume (hf.run ρ r)
        (λ v i. bool_sem v l i (λ a. safe_if (beq a (decides c)) (λ t. give_bool a)
        (λ t. safe_le (omega linear) (safe_bind {j = 0} (hg.run ρ r) (λ w j. bool_sem w m j (λ b. give_bool b))))))
        (safe_le (omega linear) (safe_bind {j = 0} (hg.run ρ r) (λ w j. bool_sem w m j (λ b. safe_if (beq b (decides c)) (λ t. give_bool b) (λ t. safe_undefined)))));
  }

  is_undef_sem : {Γ : Env Ty} {k : ℕ} {t : Ty} {f : Run} → Sem s Γ k t f → Sem s Γ k Boolean (is_undef_run f)
  unfolding is_undef_run
  is_undef_sem h = record { run = λ ρ r. safe_le (omega linear) (safe_resume {j = 0} (h.run ρ r) (λ v i. give_bool false) (give_bool true)) }

  conditional_sem : {Γ : Env Ty} {k m n : ℕ} {c t u w : Ty} {f g h : Run} → Below s c Boolean → Below s t w → Below s u w → Sem s Γ k c f → Sem s Γ m t g → Sem s Γ n u h → Sem s Γ (k + (m + n)) w (conditional_run f g h)
  unfolding conditional_run
  conditional_sem l p q hf hg hh = record {
    run = λ ρ r. safe_bind (hf.run ρ r) (λ v i. bool_sem v l i (λ b. safe_if b
        (λ z. safe_weak (λ v. ok_up p) (omega linear) (hg.run ρ r)) (λ z. safe_weak (λ v. ok_up q) (omega linear) (hh.run ρ r))));
  }

  let_sem : {Γ : Env Ty} {k n : ℕ} {t u : Ty} {f g : Run} (i : ℕ) → Sem s Γ k t f → Sem s (extend Γ i t) n u g → Sem s Γ (k + n) u (let_run i f g)
  unfolding let_run
  let_sem i hf hg = record { run = λ ρ r. safe_bind (hf.run ρ r) (λ v p. hg.run (extend ρ i v) (extend_ok i r p)) }

  -- row i, declared at c or above, read of an object of c or below
  value_ok : (o i : ℕ) → All? (Ok s (s.row i).type) (s.value_of o i)
  value_ok o i = all_imp (λ v e. record { bel = belongs_by s (s.row i).type v (ok.values_belong o i v e); fits = ok.values_small o i v e }) (all_self (s.value_of o i))

  -- an object of class c has the row
  has_row_lem : {c : ℕ} (i : ℕ) → Above (schema_of s) c i → (v : Value) → Ok s (Class c) v → T (has_row s i v)
  unfolding has_row Belongs
  has_row_lem {c} i a (bool b) h = absurd (boolean_not_class s.parent c h.bel)
  has_row_lem {c} i a (num x) h = absurd (number_not_class s.parent x c h.bel)
  has_row_lem {c} i a (obj o) h = is_a_up s ok.parents_smaller o (class c) (class (s.row i).owner) h.bel (climb→simpleSubtype s.parent ok.parents_smaller _ _ a.climb)
  has_row_lem i a (coll k vs) h = absurd h.bel

  in_row : (i : ℕ) (v : Value) → All? (Ok s (s.row i).type) (value_in_row s i v)
  unfolding value_in_row
  in_row i (bool b) = all_none
  in_row i (num x) = all_none
  in_row i (obj o) = value_ok o i
  in_row i (coll k vs) = all_none

  all_in_row : (i : ℕ) (vs : Values) → All? (Every (Ok s (s.row i).type)) (values_in_row s i vs)
  unfolding values_in_row on_some map_some
  all_in_row i nil = all_some every_nil
  all_in_row i (cons v vs) = all_each (in_row i v) (all_in_row i vs)

  all_sem : {k : ℕ} {t : Ty} {o : Option Values} (j : Kind) → All? (Every (Ok s t)) o → Safe (Ok s (around (exactly j) t)) k (form_all j o)
  unfolding letter_subtype
  all_sem j all_none = safe_undefined
  all_sem j (all_some h) = form_sem j _ (same_kind_refl j) (add_all_every j (bels below_same h) every_nil)

  object_sem : {Γ : Env Ty} {k c : ℕ} {f : Run} (i : ℕ) → Above (schema_of s) c i → Sem s Γ k (Class c) f → Sem s Γ k (s.row i).type (attribute_run s of_object (of_row i) f)
  unfolding attribute_run access row_marked
  object_sem i a h = record {
    run = λ ρ r. safe_le (omega linear) (safe_bind {j = 0} (h.run ρ r) (λ v j.
        safe_if (has_row s i v) (λ t. given_sem (in_row i v)) (λ t. absurd (T_not (has_row s i v) t (has_row_lem i a v j)))));
  }

  members_sem : {Γ : Env Ty} {k c : ℕ} {l : Letter} {f : Run} (j : Kind) (i : ℕ) → Above (schema_of s) c i → Sem s Γ k (around l (Class c)) f
      → Sem s Γ k (around (exactly j) (s.row i).type) (attribute_run s of_members (of_rows j i) f)
  unfolding attribute_run access row_marked kind_marked
  members_sem j i a h = record {
    run = λ ρ r. safe_le (omega linear) (safe_bind {j = 0} (h.run ρ r) (λ v o. coll_sem (coll_of v o) (λ k vs x e z.
        safe_if (every (has_row s i) vs) (λ t. all_sem j (all_in_row i vs)) (λ t. absurd (T_not (every (has_row s i) vs) t (every_test (has_row s i) (has_row_lem i a) e))))));
  }

  row_means : {Γ : Env Ty} {k c : ℕ} (f : Run) {o : Option ℕ} (p : ℕ) (x : Access) (m : ℕ → Mark) (ty : Ty → Ty) (g : Ty → Answer) → ((t : Ty) → Gives (λ u. u ≡ ty t) (g t)) → All? (Above (schema_of s) c) o
      → ((i : ℕ) → Above (schema_of s) c i → Sem s Γ k (ty (s.row i).type) (attribute_run s x (m i) f)) → Means mark (λ u. Sem s Γ k u (attribute_run s x (mark p) f)) (row_type (schema_of s) p m g o)
  unfolding row_type
  row_means f p x m ty g q all_none h = means_pure no_type
  row_means {Γ} {k} f p x m ty g q (all_some {x = i} a) h = record {
    means = λ t e z.
        let y : t ≡ ty (s.row i).type = gives_type (q (s.row i).type) e in
        subst (λ t. Sem s Γ k t (attribute_run s x (mark p) f)) (sym y) (subst (λ j. Sem s Γ k (ty (s.row i).type) (attribute_run s x j f)) (sym (marks_first z)) (h i a));
  }

  attribute_sem : {Γ : Env Ty} {k : ℕ} {f : Run} (p : ℕ) (x : Access) (name : ℕ) (t : Ty) → Sem s Γ k t f → Means mark (λ u. Sem s Γ k u (attribute_run s x (mark p) f)) (attribute_type (schema_of s) p x name t)
  unfolding attribute_type
  attribute_sem {Γ} {k} {f} p of_object name t h = means_class (λ t. Sem s Γ k t f) p t h (λ c h.
      row_means f p of_object of_row (λ t. t) typed (λ t. gives refl) (row_read_above (schema_of s) c name) (λ i a. object_sem i a h))
  attribute_sem {Γ} {k} {f} p of_members name t h = means_collection (λ t. Sem s Γ k t f) p t h (λ l m h. means_class (λ m. Sem s Γ k (around l m) f) p m h (λ c h.
      row_means f p of_members (of_rows (collect_kind l)) (around (exactly (collect_kind l))) (wrap p (exactly (collect_kind l))) (λ t. gives_wrap p _ t refl) (row_read_above (schema_of s) c name)
      (λ i a. members_sem (collect_kind l) i a h)))

  -- ---- a call

  start_ok : (c o : ℕ) → T (is_a s o (class c)) → EnvOk s (start (Class c)) (start (obj o))
  unfolding start Belongs size
  start_ok c o a = extend_ok 0 (record { vars = λ i. all_none }) (record { bel = a; fits = omega linear })

  sem_up : {Γ : Env Ty} {k : ℕ} {t u : Ty} {f : Run} → Below s t u → Sem s Γ k t f → Sem s Γ k u f
  sem_up l h = record { run = λ ρ r. safe_weak (λ v. ok_up l) (omega linear) (h.run ρ r) }

  call_sem : {Γ : Env Ty} {k n c d : ℕ} {t : Ty} {f g : Run} → Below s (Class d) (Class c) → Sem s Γ k (Class d) f → Sem s (start (Class c)) n t g → Sem s Γ (k + n) t (call_run s c f g)
  unfolding call_run
  call_sem {c} l hf hg = record {
    run = λ ρ r. safe_bind (hf.run ρ r) (λ v i. obj_sem v (ok_up l i) (λ o a.
        safe_if (is_a s o (class c)) (λ t. hg.run (start (obj o)) (start_ok c o a)) (λ t. absurd (T_not (is_a s o (class c)) t a))));
  }

  call_gives : {Γ : Env Ty} {k n : ℕ} {f g : Run} (p c : ℕ) (t u : Ty) → Sem s Γ k u f → Sem s (start (Class c)) n t g → Gives (λ w. Sem s Γ (k + n) w (call_run s c f g)) (call_type (schema_of s) p c t u)
  unfolding call_type
  call_gives {Γ} {k} {f = f} p c t u hf hg = gives_class (λ u. Sem s Γ k u f) p u hf (λ d hf. gives_below ok p (Class d) (Class c) (λ l. gives (call_sem l hf hg)))

  -- a definition's body is of the definition's type
  body_sem : {n : ℕ} {g : Run} (c : ℕ) (t : Ty) (b : Expr) → Means mark (λ u. Sem s (start (Class c)) n u g) (typing (schema_of s) b (start (Class c)))
      → TypedDefinition s mark (record { context = c; type = t; body = b }) → Sem s (start (Class c)) n t g
  unfolding type_definition type_rule
  body_sem {n} {g} c t b h d =
      (means_then {G = λ u. Sem s (start (Class c)) n u g} h (λ u hb. means_pure (gives_below ok (root b) u t (λ l. gives (sem_up l hb))))).means t d.typed_body d.marked

  -- ---- the other forms

  quantified_sem : {Γ : Env Ty} {k n : ℕ} {l : Letter} {m b : Ty} {f g : Run} (q : Quantifier) (i : ℕ) → Below s b Boolean → Sem s Γ k (around l m) f → Sem s (extend Γ i m) n b g → Sem s Γ (k + 127 * n) Boolean (quantified_run q i f g)
  unfolding quantified_run
  quantified_sem {n = n} q i p hf hg = record {
    run = λ ρ r. safe_bind (hf.run ρ r) (λ v j. coll_sem (coll_of v j) (λ k vs x h z.
        safe_le (mul-le-mul_right n z) (safe_seek q false h bool_ok (λ w y. safe_weak (λ v o. is_bool v p o) (omega linear) (hg.run (extend ρ i w) (extend_ok i r y))))));
  }

  iterate_sem : {Γ : Env Ty} {k m n : ℕ} {l : Letter} {a t e b : Ty} {f g h : Run} (i j : ℕ) → Below s e t → Below s b t → Sem s Γ k (around l a) f → Sem s Γ m e g → Sem s (extend (extend Γ i a) j t) n b h
      → Sem s Γ (k + (m + 127 * n)) t (iterate_run i j f g h)
  unfolding iterate_run
  iterate_sem {n = n} i j p q hf hg hh = record {
    run = λ ρ r. safe_bind (hf.run ρ r) (λ v x. coll_sem (coll_of v x) (λ k vs y d z.
        safe_bind (hg.run ρ r) (λ w o. safe_le (mul-le-mul_right n z) (safe_fold w d (ok_up p o)
        (λ x y c g. safe_weak (λ v. ok_up q) (omega linear) (hh.run (extend (extend ρ i x) j y) (extend_ok j (extend_ok i r c) g)))))));
  }

  no_operand_sem : {Γ : Env Ty} → SemAll s Γ 0 void no_operand_run
  unfolding no_operand_run letter_subtype
  no_operand_sem = record { runs = λ ρ r w h c acc a. form_sem c acc (same_kind_refl c) a }

  operand_sem : {Γ : Env Ty} {k n : ℕ} {t u x : Ty} {f : Run} {g : Gather} → Below s t x → Below s u x → Sem s Γ k t f → SemAll s Γ n u g → SemAll s Γ (k + n) x (operand_run f g)
  unfolding operand_run
  operand_sem p q hf hg = record {
    runs = λ ρ r w b c acc a.
        safe_bind (hf.run ρ r) (λ v i. hg.runs ρ r w (below_then q b) c (add c v acc) (add_every c v (ok_up b (ok_up p i)).bel a));
  }

  assemble_sem : {Γ : Env Ty} {n : ℕ} {t : Ty} {g : Gather} (c : Kind) → SemAll s Γ n t g → Sem s Γ n (around (exactly c) t) (assemble_run c g)
  unfolding assemble_run
  assemble_sem {t = t} c h = record { run = λ ρ r. h.runs ρ r t below_same c nil every_nil }

  -- ---- the induction

  abbrev Typed? : List Definition → Type 0
  Typed? ds = Each (TypedDefinition s mark) ds

  mutual
    unfolding reach evaluation typing calls both_below conditional_type leaf_typing unary_typing binary_typing connective_typing is_undef_typing conditional_typing let_typing attribute_typing call_typing quantified_typing iterate_typing no_operand_typing operand_typing assemble_typing

    sound : (e : Expr) → Typed? (calls e) → (Γ : Env Ty) → Means mark (λ t. Sem s Γ (reach e) t (evaluation s mark e)) (typing (schema_of s) e Γ)
    sound (node p f) d Γ = means_imp (λ t h. record { run = λ ρ r. safe_tick (form_run s mark p f) ρ (h.run ρ r) }) (sound_form f p d Γ)

    sound_form : (f : Form) (p : ℕ) → Typed? (calls_in f) → (Γ : Env Ty) → Means mark (λ t. Sem s Γ (inside f) t (form_run s mark p f)) (form_typing (schema_of s) p f Γ)
    sound_form (leaf l) p d Γ = means_pure (leaf_sem s ok p l)
    sound_form (unary op a) p d Γ = means_then (sound a d Γ) (λ t ha. means_pure (unary_sem s ok p op ha))
    sound_form (binary op a b) p d Γ = means_then (sound a (each_left (calls a) (calls b) d) Γ) (λ t ha. means_then (sound b (each_right (calls a) d) Γ) (λ u hb. binary_sem s ok mark p op ha hb))
    sound_form (connective c a b) p d Γ = means_then (sound a (each_left (calls a) (calls b) d) Γ) (λ t ha. means_then (sound b (each_right (calls a) d) Γ) (λ u hb.
        means_pure (gives_below ok p t Boolean (λ l. gives_below ok p u Boolean (λ m. gives (connective_sem c l m ha hb))))))
    sound_form (is_undef a) p d Γ = means_then (sound a d Γ) (λ t ha. means_pure (gives (is_undef_sem ha)))
    sound_form (conditional c a b) p d Γ = let r = each_right (calls c) d in
        means_then (sound c (each_left (calls c) (calls a ++ calls b) d) Γ) (λ t hc. means_then (sound a (each_left (calls a) (calls b) r) Γ) (λ u ha. means_then (sound b (each_right (calls a) r) Γ) (λ w hb.
        means_pure (gives_below ok p t Boolean (λ l. gives_common p (joined ok u w) (λ x q. gives (conditional_sem l q.0 q.1 hc ha hb)))))))
    sound_form (let_in i a b) p d Γ = means_then (sound a (each_left (calls a) (calls b) d) Γ) (λ t ha. means_imp (λ u hb. let_sem i ha hb) (sound b (each_right (calls a) d) (extend Γ i t)))
    sound_form (attribute x name a) p d Γ = means_then (sound a d Γ) (λ t ha. attribute_sem p x name t ha)
    -- the body by its definition's typing
    sound_form (call c t a b) p d Γ = let r = each_right (calls a) d in let x = each_head (each_right (calls b) r) in
        means_then (sound a (each_left (calls a) _ d) Γ) (λ u ha. means_pure (call_gives p c t u ha (body_sem c t b (sound b (each_left (calls b) _ r) (start (Class c))) x)))
    sound_form (quantified q i a b) p d Γ = means_then (sound a (each_left (calls a) (calls b) d) Γ) (λ t ha. means_collection (λ t. Sem s Γ (reach a) t (evaluation s mark a)) p t ha (λ l m ha.
        means_then (sound b (each_right (calls a) d) (extend Γ i m)) (λ u hb. means_pure (gives_below ok p u Boolean (λ x. gives (quantified_sem q i x ha hb))))))
    sound_form (iterate i j t a e b) p d Γ = let r = each_right (calls a) d in
        means_then (sound a (each_left (calls a) (calls e ++ calls b) d) Γ) (λ c ha. means_then (sound e (each_left (calls e) (calls b) r) Γ) (λ u he.
        means_collection (λ t. Sem s Γ (reach a) t (evaluation s mark a)) p c ha (λ l m ha. means_if (subtype s.parent u t) (λ x.
        means_then (sound b (each_right (calls e) r) (extend (extend Γ i m) j t)) (λ w hb. means_pure (gives_below ok p w t (λ y. gives (iterate_sem i j (below_by ok u t x) y ha he hb))))) (means_pure no_type))))
    sound_form (assemble k es) p d Γ = means_then (sound_all es p d Γ) (λ t h. means_pure (gives_wrap p (exactly k) t (assemble_sem k h)))

    sound_all : (es : Operands) (p : ℕ) → Typed? (calls_of es) → (Γ : Env Ty) → Means mark (λ t. SemAll s Γ (reaches es) t (operands_run s mark es)) (operands_typing (schema_of s) p es Γ)
    sound_all no_operand p d Γ = means_pure (gives no_operand_sem)
    sound_all (operand e es) p d Γ = means_then (sound e (each_left (calls e) (calls_of es) d) Γ) (λ t h. means_then (sound_all es p (each_right (calls e) d) Γ) (λ u hs.
        means_pure (gives_common p (joined ok t u) (λ w q. gives (operand_sem q.0 q.1 h hs)))))

  fits_of : {t : Ty} {v : Value} → Ok s t v → Fits s t v
  fits_of {t} {v} h = record { belong = belongs_test s t v h.bel; small = h.fits }

  sound_rule : (e : Expr) → Each (λ x. T (kept x)) (literals e) → Typed? (calls e) → (c o : ℕ) (t : Ty) → (type_rule (schema_of s) c e).answer ≡ typed t → Agree mark (type_rule (schema_of s) c e).marks → T (is_a s o (class c))
      → Sound s t (reach e) (evaluate_rule s mark e o)
  unfolding type_rule evaluate_rule
  sound_rule e l d c o t h g a = fine_sound s t _ _ (safe_zero (safe_weak (λ v. fits_of) (omega linear) (((sound e d (start (Class c))).means t h g).run _ (start_ok c o a))))
      (λ v n q. ends_kept s ok mark e l o n v q) (λ v n q. (formed_ends s (record { stored_formed = ok.values_formed }) mark e).of_rule o n v q)

pub soundness : Soundness
soundness s ok mark e l d c o t h g a = sound_rule s ok mark e l d c o t h g a
