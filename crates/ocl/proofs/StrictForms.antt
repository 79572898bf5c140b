-- Demand 3 for the forms without operands and with one or two strict ones: what they give is of their type. Assumes nothing.
use mathlib.Core.Path.{◌≡◌, refl, sym, ◌∙◌, subst}
use mathlib.Core.Bool.{not, ◌&&◌, ◌||◌}
use mathlib.Core.Option.{Option, none, some}
use Prim.Native.Nat.{ℕ, zero, suc, ◌+◌}
use native.Mathlib.Omega.{arith as linear}
use lib.IntN.{pos}
use lib.Dec.{T, T_not}
use Rattle.reals.specs.Reals.{order_int, is_less, Operation, lesser}
use Rattle.ocl.specs.Environment.{Env}
use Rattle.ocl.specs.Types.{Simple, any, boolean, integer, real, class, Kind, set, exactly, Ty, void, simple, around, Boolean, Integer, Real, Class, letter_subtype, same_kind, subtype}
use Rattle.ocl.specs.Values.{Value, bool, num, obj, coll, count, size, same, has}
use Rattle.ocl.specs.Model.{Model, schema_of, is_a}
use Rattle.ocl.specs.Forms.{Arith, Leaf, truth, undef, number, self, var, all, Unary, negation, size_of, convert, cast_to, Binary, equal, less, arith, divide, over, includes, including, union}
use Rattle.ocl.specs.Marks.{Scale, integers, reals, Mark, of_numbers, scale_marked}
use Rattle.ocl.specs.Typing.{scale_type, scaled, on_numbers, includes_type, including_type, union_type, bound_type, leaf_type, cast_type, unary_type, both_below, binary_type}
use Rattle.ocl.specs.Operations.{operation_of, instances, cast, unary_apply, left_fits, binary_apply}
use Rattle.ocl.specs.Evaluation.{Run, bound as bound_run, leaf_run, unary_run, binary_run}
use Rattle.ocl.specs.Soundness.{AcceptedModel}
use Rattle.laws.proofs.Tests.{and_l, and_r, by-if, All?, Any?, any_some, at_some}
use Rattle.ocl.proofs.Types.{sameKind→eq, same_kind_refl}
use Rattle.ocl.proofs.Values.{Every, every_nil, append_every, add_every, add_all_every, Belongs}
use Rattle.ocl.proofs.Runs.{Safe, safe_le, safe_value, safe_undefined, safe_bind, safe_if}
use Rattle.ocl.proofs.Means.{Gives, no_type, gives, gives_if, gives_common, gives_wrap, gives_collection, gives_kind, gives_type, Means, means_pure, means_if}
use Rattle.ocl.proofs.ByType.{Ok, Below, EnvOk, Sem, gives_below, joined, below_same, ok_up, bool_sem, int_of, int_sem, int_fits, num_of_lem, num_sem, num_fits, coll_of, coll_sem, coll_fits, int_ok, real_ok, below_by, give_bool, give_num, give_int, result_sem, form_sem, bels}
use Rattle.ocl.proofs.Ends.{arithmetic_all, division_all, calculated_all}
use Rattle.ocl.proofs.Marks.{marks_first}

module _ (s : Model) (ok : AcceptedModel s) where
  -- ---- forms with no operand

  bound_sem : {k : ℕ} {t : Ty} {x : Option Value} → Any? (Ok s t) x → Safe (Ok s t) k (λ n. bound_run x n)
  bound_sem (any_some {x} h) = safe_value x h

  bound_gives : {Γ : Env Ty} (p i : ℕ) {f : Run} → ((ρ : Env Value) (t : Ty) → Any? (Ok s t) (ρ i) → Safe (Ok s t) 0 (f ρ)) → Gives (λ t. Sem s Γ 0 t f) (bound_type p (Γ i))
  unfolding bound_type
  bound_gives {Γ} p i {f} g = go (Γ i) (λ ρ r. r.vars i)
    where
      go : (o : Option Ty) → ((ρ : Env Value) → EnvOk s Γ ρ → All? (λ t. Any? (Ok s t) (ρ i)) o) → Gives (λ t. Sem s Γ 0 t f) (bound_type p o)
      go none h = no_type
      go (some t) h = gives (record { run = λ ρ r. g ρ t (at_some (h ρ r)) })

  instances_sem : (c n : ℕ) → Every (Belongs s (Class c)) (instances s c n)
  unfolding instances Belongs
  instances_sem c zero = every_nil
  instances_sem c (suc n) = by-if (Every (Belongs s (Class c))) (is_a s n (class c)) _ _ (λ t. append_every (obj n) t (instances_sem c n)) (λ t. instances_sem c n)

  pub leaf_sem : {Γ : Env Ty} (p : ℕ) (l : Leaf) → Gives (λ t. Sem s Γ 0 t (leaf_run s l)) (leaf_type p l Γ)
  unfolding leaf_type leaf_run letter_subtype
  leaf_sem p (truth b) = gives (record { run = λ ρ r. give_bool b })
  leaf_sem p undef = gives (record { run = λ ρ r. safe_undefined })
  leaf_sem p (number x) = gives (record { run = λ ρ r. give_num x })
  leaf_sem p self = bound_gives p 0 (λ ρ t h. bound_sem h)
  leaf_sem p (var i) = bound_gives p i (λ ρ t h. bound_sem h)
  leaf_sem p (all c) = gives (record { run = λ ρ r. form_sem set _ (same_kind_refl set) (instances_sem c s.object_count) })

  -- ---- forms with one strict operand

  unary_run_lem : {Γ : Env Ty} {k : ℕ} {t u : Ty} {f : Run} (op : Unary) → Sem s Γ k t f → ((v : Value) → Ok s t v → Safe (Ok s u) 0 (unary_apply s op v)) → Sem s Γ k u (unary_run s op f)
  unfolding unary_run
  unary_run_lem op h g = record { run = λ ρ r. safe_le (omega linear) (safe_bind (h.run ρ r) g) }

  cast_safe : {k : ℕ} {a : Simple} (c : ℕ) (v : Value) → Ok s (simple a) v → Safe (Ok s (Class c)) k (cast s c v)
  unfolding cast Belongs size
  cast_safe c (bool b) p = safe_undefined
  cast_safe c (num x) p = safe_undefined
  cast_safe c (obj o) p = safe_if (is_a s o (class c)) (λ t. safe_value (obj o) (record { bel = t; fits = omega linear })) (λ t. safe_undefined)
  cast_safe c (coll k vs) p = absurd p.bel

  cast_sem : {Γ : Env Ty} {k : ℕ} {f : Run} (p c : ℕ) (t : Ty) → Sem s Γ k t f → Gives (λ u. Sem s Γ k u (unary_run s (cast_to c) f)) (cast_type (schema_of s) p c t)
  unfolding cast_type unary_apply
  cast_sem p c void h = no_type
  cast_sem p c (simple any) h = gives (unary_run_lem (cast_to c) h (λ v i. cast_safe c v i))
  cast_sem p c (simple boolean) h = no_type
  cast_sem p c (simple integer) h = no_type
  cast_sem p c (simple real) h = no_type
  cast_sem p c (simple (class d)) h = gives_if (subtype s.parent (Class d) (Class c) || subtype s.parent (Class c) (Class d)) (λ x. gives (unary_run_lem (cast_to c) h (λ v i. cast_safe c v i))) no_type
  cast_sem p c (around l t) h = no_type

  pub unary_sem : {Γ : Env Ty} {k : ℕ} {t : Ty} {f : Run} (p : ℕ) (op : Unary) → Sem s Γ k t f → Gives (λ u. Sem s Γ k u (unary_run s op f)) (unary_type (schema_of s) p op t)
  unfolding unary_type unary_apply letter_subtype
  unary_sem {t = t} p negation h = gives_below ok p t Boolean (λ l. gives (unary_run_lem negation h (λ v i. bool_sem v l i (λ b. give_bool (not b)))))
  unary_sem {Γ} {k} {t} {f} p size_of h = gives_collection (λ t. Sem s Γ k t f) p t h (λ l m h. gives (unary_run_lem size_of h (λ v i. coll_sem (coll_of v i) (λ k vs x y z. give_int (pos (count vs))))))
  unary_sem {Γ} {k} {t} {f} p (convert c) h = gives_collection (λ t. Sem s Γ k t f) p t h (λ l m h. gives_wrap p (exactly c) m
      (unary_run_lem (convert c) h (λ v i. coll_sem (coll_of v i) (λ j vs x y z. form_sem c _ (same_kind_refl c) (add_all_every c (bels below_same y) every_nil)))))
  unary_sem {t = t} p (cast_to c) h = cast_sem p c t h

  -- ---- forms with two strict operands

  binary_run_lem : {Γ : Env Ty} {k n : ℕ} {t u w : Ty} {f g : Run} (m : Mark) (op : Binary) → Sem s Γ k t f → Sem s Γ n u g → ((v : Value) → Ok s t v → T (left_fits m op v))
      → ((v x : Value) → Ok s t v → Ok s u x → Safe (Ok s w) 0 (binary_apply m op v x)) → Sem s Γ (k + n) w (binary_run m op f g)
  unfolding binary_run
  binary_run_lem m op hf hg fit ap = record {
    run = λ ρ r. safe_bind (hf.run ρ r) (λ v i. safe_if (left_fits m op v)
        (λ t. safe_le (omega linear) (safe_bind (hg.run ρ r) (λ x j. ap v x i j))) (λ t. absurd (T_not (left_fits m op v) t (fit v i))));
  }

  same_kind_lem : (j k c d : Kind) → T (same_kind j c) → T (same_kind c d) → T (same_kind k d) → T (same_kind j k)
  same_kind_lem j k c d p q r = subst (λ x. T (same_kind j x)) (sameKind→eq j c p ∙ sameKind→eq c d q ∙ sym (sameKind→eq k d r)) (same_kind_refl j)

  union_run : {Γ : Env Ty} {k n : ℕ} {m o w : Ty} {f g : Run} (z : Mark) (c d : Kind) → T (same_kind c d) → Below s m w → Below s o w → Sem s Γ k (around (exactly c) m) f → Sem s Γ n (around (exactly d) o) g
      → Sem s Γ (k + n) (around (exactly c) w) (binary_run z union f g)
  unfolding left_fits binary_apply letter_subtype
  union_run z c d e p q hf hg = binary_run_lem z union hf hg (λ v i. coll_fits (coll_of v i))
      (λ v x i j. coll_sem (coll_of v i) (λ a vs y h l. coll_sem (coll_of x j) (λ b ws y' h' l'. safe_if (same_kind a b)
      (λ tr. form_sem a _ y (add_all_every a (bels q h') (bels p h)))
      (λ fa. absurd (T_not (same_kind a b) fa (same_kind_lem a b c d y e y'))))))

  -- by Integers, or by Reals
  less_run : {Γ : Env Ty} {k n : ℕ} {t u : Ty} {f g : Run} (x : Scale) → Below s t (scale_type x) → Below s u (scale_type x) → Sem s Γ k t f → Sem s Γ n u g
      → Sem s Γ (k + n) Boolean (binary_run (of_numbers x) less f g)
  unfolding scale_type scale_marked left_fits binary_apply
  less_run integers a b hf hg = binary_run_lem (of_numbers integers) less hf hg (λ v i. int_fits (int_of v a i))
      (λ v x i j. int_sem (int_of v a i) (λ y. int_sem (int_of x b j) (λ z. give_bool (is_less (order_int y z)))))
  less_run reals a b hf hg = binary_run_lem (of_numbers reals) less hf hg (λ v i. num_fits (num_of_lem v a i))
      (λ v x i j. num_sem (num_of_lem v a i) (λ y. num_sem (num_of_lem x b j) (λ z. give_bool (lesser y z))))

  arith_run : {Γ : Env Ty} {k n : ℕ} {t u : Ty} {f g : Run} (o : Arith) (x : Scale) → Below s t (scale_type x) → Below s u (scale_type x) → Sem s Γ k t f → Sem s Γ n u g
      → Sem s Γ (k + n) (scale_type x) (binary_run (of_numbers x) (arith o) f g)
  unfolding scale_type scale_marked left_fits binary_apply
  arith_run o integers a b hf hg = binary_run_lem (of_numbers integers) (arith o) hf hg (λ v i. int_fits (int_of v a i))
      (λ v x i j. int_sem (int_of v a i) (λ y. int_sem (int_of x b j) (λ z. result_sem (arithmetic_all (Ok s Integer) (λ z h. int_ok z) o y z))))
  arith_run o reals a b hf hg = binary_run_lem (of_numbers reals) (arith o) hf hg (λ v i. num_fits (num_of_lem v a i))
      (λ v x i j. num_sem (num_of_lem v a i) (λ y. num_sem (num_of_lem x b j) (λ z. result_sem (calculated_all (Ok s Real) (λ z h. real_ok z) (operation_of o) y z))))

  -- the node goes by what it is marked with
  scaled_means : (mark : ℕ → Mark) {Γ : Env Ty} {k : ℕ} (op : Binary) (f g : Run) (p : ℕ) (type : Scale → Ty) (x : Scale) → Sem s Γ k (type x) (binary_run (of_numbers x) op f g)
      → Means mark (λ w. Sem s Γ k w (binary_run (mark p) op f g)) (scaled p type x)
  unfolding scaled
  scaled_means mark {Γ} {k} op f g p type x h = record {
    means = λ t e z.
        let y : t ≡ type x = gives_type {G = λ u. u ≡ type x} (gives refl) e in
        subst (λ t. Sem s Γ k t (binary_run (mark p) op f g)) (sym y) (subst (λ m. Sem s Γ k (type x) (binary_run m op f g)) (sym (marks_first z)) h);
  }

  numbers_means : (mark : ℕ → Mark) {Γ : Env Ty} {k : ℕ} (op : Binary) (f g : Run) (p : ℕ) (type : Scale → Ty) (t u : Ty)
      → ((x : Scale) → Below s t (scale_type x) → Below s u (scale_type x) → Sem s Γ k (type x) (binary_run (of_numbers x) op f g))
      → Means mark (λ w. Sem s Γ k w (binary_run (mark p) op f g)) (on_numbers (schema_of s) p type t u)
  unfolding on_numbers scale_type
  numbers_means mark op f g p type t u h =
      let a = subtype s.parent t Integer in
      let b = subtype s.parent t Real in
      means_if (a && subtype s.parent u Integer)
      (λ c. scaled_means mark op f g p type integers (h integers (below_by ok t Integer (and_l a _ c)) (below_by ok u Integer (and_r a _ c))))
      (means_if (b && subtype s.parent u Real)
      (λ c. scaled_means mark op f g p type reals (h reals (below_by ok t Real (and_l b _ c)) (below_by ok u Real (and_r b _ c)))) (means_pure no_type))

  pub binary_sem : (mark : ℕ → Mark) {Γ : Env Ty} {k n : ℕ} {t u : Ty} {f g : Run} (p : ℕ) (op : Binary) → Sem s Γ k t f → Sem s Γ n u g → Means mark (λ w. Sem s Γ (k + n) w (binary_run (mark p) op f g)) (binary_type (schema_of s) p op t u)
  unfolding binary_type both_below includes_type including_type union_type left_fits binary_apply letter_subtype
  binary_sem mark {t = t} {u = u} p equal hf hg = means_pure (gives_common p (joined ok t u) (λ w q. gives (binary_run_lem (mark p) equal hf hg (λ v i. tt) (λ v x i j. give_bool (same v x)))))
  binary_sem mark {t = t} {u = u} {f = f} {g = g} p less hf hg = numbers_means mark less f g p (λ x. Boolean) t u (λ x a b. less_run x a b hf hg)
  binary_sem mark {t = t} {u = u} {f = f} {g = g} p (arith o) hf hg = numbers_means mark (arith o) f g p scale_type t u (λ x a b. arith_run o x a b hf hg)
  binary_sem mark {t = t} {u = u} p (divide o) hf hg = means_pure (gives_below ok p t Integer (λ a. gives_below ok p u Integer (λ b. gives (binary_run_lem (mark p) (divide o) hf hg (λ v i. int_fits (int_of v a i))
      (λ v x i j. int_sem (int_of v a i) (λ y. int_sem (int_of x b j) (λ z. result_sem (division_all (Ok s Integer) (λ z h. int_ok z) o y z))))))))
  binary_sem mark {t = t} {u = u} p over hf hg = means_pure (gives_below ok p t Real (λ a. gives_below ok p u Real (λ b. gives (binary_run_lem (mark p) over hf hg (λ v i. num_fits (num_of_lem v a i))
      (λ v x i j. num_sem (num_of_lem v a i) (λ y. num_sem (num_of_lem x b j) (λ z. result_sem (calculated_all (Ok s Real) (λ z h. real_ok z) Operation.over y z))))))))
  binary_sem mark {Γ} {k} {t = t} {u = u} {f = f} p includes hf hg = means_pure (gives_collection (λ t. Sem s Γ k t f) p t hf (λ l m hf. gives_common p (joined ok m u) (λ w q.
      gives (binary_run_lem (mark p) includes hf hg (λ v i. coll_fits (coll_of v i)) (λ v x i j. coll_sem (coll_of v i) (λ c vs y h z. give_bool (has x vs)))))))
  binary_sem mark {Γ} {k} {t = t} {u = u} {f = f} p including hf hg = means_pure (gives_collection (λ t. Sem s Γ k t f) p t hf (λ l m hf. gives_kind (λ l. Sem s Γ k (around l m) f) p l hf (λ c hf.
      gives_common p (joined ok m u) (λ w q. gives_wrap p (exactly c) w (binary_run_lem (mark p) including hf hg (λ v i. coll_fits (coll_of v i))
      (λ v x i j. coll_sem (coll_of v i) (λ d vs y h z. form_sem d _ y (add_every d x (ok_up q.1 j).bel (bels q.0 h)))))))))
  binary_sem mark {Γ} {k} {n} {t} {u} {f} {g} p union hf hg = means_pure (gives_collection (λ t. Sem s Γ k t f) p t hf (λ l m hf. gives_kind (λ l. Sem s Γ k (around l m) f) p l hf (λ c hf.
      gives_collection (λ t. Sem s Γ n t g) p u hg (λ r o hg. gives_kind (λ l. Sem s Γ n (around l o) g) p r hg (λ d hg.
      gives_if (same_kind c d) (λ e. gives_common p (joined ok m o) (λ w q. gives_wrap p (exactly c) w (union_run (mark p) c d e q.0 q.1 hf hg))) no_type)))))
