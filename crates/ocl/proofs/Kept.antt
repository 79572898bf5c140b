-- What holds of every value that evaluation ends in: any property that each piece of evaluation keeps. One induction over the forms.
-- Assumes nothing.
use mathlib.Core.Path.{◌≡◌}
use mathlib.Core.Bool.{Bool, true, false, not, beq}
use mathlib.Core.Option.{Option, some}
use mathlib.Core.List.{◌++◌}
use Prim.Native.Nat.{ℕ, ◌≤◌}
use lib.IntN.{ℤ, pos}
use Rattle.laws.specs.Choice.{on_some, map_some}
use Rattle.std.specs.Prelude.{if◌then◌else◌}
use Rattle.laws.specs.Lists.{Each}
use Rattle.reals.specs.Reals.{Number, int, in_range, order_int, is_less, kept, Operation, lesser}
use Rattle.ocl.specs.Types.{class, Kind, set, same_kind}
use Rattle.ocl.specs.Values.{Value, bool, num, obj, coll, Values, nil, cons, count, size, same, has, add, add_all}
use Rattle.ocl.specs.Model.{Model, is_a, every}
use Rattle.ocl.specs.Environment.{Env, extend, start}
use Rattle.ocl.specs.Forms.{Connective, Quantifier, Access, of_object, of_members, Leaf, truth, undef, number, self, var, all, Unary, negation, size_of, convert, cast_to, Binary, equal, less, arith, divide, over, includes, including, union, Expr, node, Form, leaf, unary, binary, connective, is_undef, conditional, let_in, attribute, call, quantified, iterate, assemble, Operands, no_operand, operand}
use Rattle.ocl.specs.Laws.{leaf_literals, literals, literals_in, literals_of}
use Rattle.ocl.specs.Marks.{Mark, row_marked, kind_marked, scale_marked}
use Rattle.ocl.specs.Operations.{value, instances, cast, unary_apply, left_fits, binary_apply, has_row, value_in_row, values_in_row, access, operation_of}
use Rattle.ocl.specs.Evaluation.{Run, leaf_run, unary_run, binary_run, decides, connective_run, is_undef_run, conditional_run, let_run, attribute_run, call_run, quantified_run, iterate_run, Gather, no_operand_run, operand_run, assemble_run, evaluation, form_run, operands_run, evaluate_rule}
use Rattle.laws.proofs.Tests.{All?, all_none, all_some, all_imp, all_self}
use Rattle.laws.proofs.Lists.{each_head, each_left, each_right}
use Rattle.ocl.proofs.Values.{Every, every_nil, every_cons, all_each}
use Rattle.ocl.proofs.Ends.{Ends, ends_value, ends_undefined, ends_stuck, ends_at_lem, ends_resume, ends_bind, ends_if, ends_tick, ends_form, ends_given, ends_bound, ends_bool, ends_int, ends_obj, ends_coll, ends_seek, ends_fold, ends_all, ends_result, arithmetic_all, ends_num, ends_two, division_all, calculated_all}
use lib.Dec.{T, eqb}

-- P of a value, and Held of the members of a collection that is being gathered
pub record Keeps (s : Model) (P : Value → Type 0) (Held : Kind → Values → Type 0) : Type 0 where
  pub of_bool : (b : Bool) → P (bool b)
  pub of_object_lem : (o : ℕ) → P (obj o)
  pub of_number : (x : Number) → T (kept x) → P (num x)
  pub of_stored : (o i : ℕ) (v : Value) → s.value_of o i ≡ some v → P v
  -- a collection says so much of its members, and of how many there are
  pub of_count : {k : Kind} {vs : Values} → P (coll k vs) → P (num (int (pos (count vs))))
  pub of_members_lem : {k : Kind} {vs : Values} → P (coll k vs) → Every P vs
  pub held : {k : Kind} {vs : Values} → P (coll k vs) → Held k vs
  -- and is formed of as many as are allowed
  pub formed : {k : Kind} {vs : Values} → Held k vs → size (coll k vs) ≤ 128 → P (coll k vs)
  pub of_none : {k : Kind} → Held k nil
  pub of_added : {vs : Values} (k : Kind) (v : Value) → P v → Held k vs → Held k (add k v vs)
  pub of_instances : (c n : ℕ) → Held set (instances s c n)

-- each variable's value has it
pub record Bound (P : Value → Type 0) (ρ : Env Value) : Type 0 where
  pub variable : (i : ℕ) → All? P (ρ i)

module _ {s : Model} {P : Value → Type 0} {Held : Kind → Values → Type 0} (ok : Keeps s P Held) where
  -- a run that ends in such values, from an environment of such values
  record Kept (f : Run) : Type 0 where
    run : (ρ : Env Value) → Bound P ρ → (n : ℕ) → Ends P (f ρ n)

  -- the same of a collection's members, after those that are held
  record Gathers (g : Gather) : Type 0 where
    runs : (k : Kind) (vs : Values) → Held k vs → Kept (g k vs)

  extend_at : {x : Value} {o : Option Value} (b : Bool) → P x → All? P o → All? P (if b then some x else o)
  extend_at true p h = all_some p
  extend_at false p h = h

  extend_bound : {ρ : Env Value} (i : ℕ) {x : Value} → Bound P ρ → P x → Bound P (extend ρ i x)
  unfolding extend
  extend_bound i h p = record { variable = λ j. extend_at (eqb j i) p (h.variable j) }

  -- ---- pieces

  give_bool : {n : ℕ} (b : Bool) → Ends P (value (bool b) n)
  give_bool b = ends_value (ok.of_bool b)

  all_held : (k : Kind) {ws vs : Values} → Every P ws → Held k vs → Held k (add_all k ws vs)
  unfolding add_all
  all_held k every_nil h = h
  all_held k (every_cons {v} p e) h = all_held k e (ok.of_added k v p h)

  value_kept : (o i : ℕ) → All? P (s.value_of o i)
  value_kept o i = all_imp (λ v e. ok.of_stored o i v e) (all_self (s.value_of o i))

  -- ---- each form

  leaf_kept : (l : Leaf) → Each (λ x. P (num x)) (leaf_literals l) → Kept (leaf_run s l)
  unfolding leaf_run leaf_literals
  leaf_kept (truth b) h = record { run = λ ρ r n. give_bool b }
  leaf_kept undef h = record { run = λ ρ r n. ends_undefined }
  leaf_kept (number z) h = record { run = λ ρ r n. ends_value (each_head h) }
  leaf_kept self h = record { run = λ ρ r n. ends_bound n (r.variable 0) }
  leaf_kept (var i) h = record { run = λ ρ r n. ends_bound n (r.variable i) }
  leaf_kept (all c) h = record { run = λ ρ r n. ends_form _ n (ok.formed (ok.of_instances c s.object_count)) }

  cast_ends : (c n : ℕ) (v : Value) → Ends P (cast s c v n)
  unfolding cast
  cast_ends c n (bool b) = ends_undefined
  cast_ends c n (num x) = ends_undefined
  cast_ends c n (obj o) = ends_if (is_a s o (class c)) (ends_value (ok.of_object_lem o)) ends_undefined
  cast_ends c n (coll k vs) = ends_stuck

  unary_ends : (op : Unary) (v : Value) (n : ℕ) → P v → Ends P (unary_apply s op v n)
  unfolding unary_apply
  unary_ends negation v n p = ends_bool v (λ b. give_bool (not b))
  unary_ends size_of v n p = ends_coll P v p (λ k vs h. ends_value (ok.of_count h))
  unary_ends (convert k) v n p = ends_coll P v p (λ j vs h. ends_form _ n (ok.formed (all_held k (ok.of_members_lem h) ok.of_none)))
  unary_ends (cast_to c) v n p = cast_ends c n v

  unary_kept : (op : Unary) {f : Run} → Kept f → Kept (unary_run s op f)
  unfolding unary_run
  unary_kept op h = record { run = λ ρ r n. ends_bind (h.run ρ r n) (unary_ends op) }

  of_integer : (z : ℤ) → T (in_range z) → P (num (int z))
  unfolding kept
  of_integer z h = ok.of_number (int z) h

  binary_ends : (m : Mark) (op : Binary) (v w : Value) (n : ℕ) → P v → P w → Ends P (binary_apply m op v w n)
  unfolding binary_apply
  binary_ends m equal v w n p q = give_bool (same v w)
  binary_ends m less v w n p q = ends_two (scale_marked m) v w (λ x y. give_bool (is_less (order_int x y))) (λ x y. give_bool (lesser x y))
  binary_ends m (arith o) v w n p q =
      ends_two (scale_marked m) v w (λ x y. ends_result n (arithmetic_all P of_integer o x y)) (λ x y. ends_result n (calculated_all P ok.of_number (operation_of o) x y))
  binary_ends m (divide o) v w n p q = ends_int v (λ x. ends_int w (λ y. ends_result n (division_all P of_integer o x y)))
  binary_ends m over v w n p q = ends_num v (λ x. ends_num w (λ y. ends_result n (calculated_all P ok.of_number Operation.over x y)))
  binary_ends m includes v w n p q = ends_coll P v p (λ k vs h. give_bool (has w vs))
  binary_ends m including v w n p q = ends_coll P v p (λ k vs h. ends_form _ n (ok.formed (ok.of_added k w q (ok.held h))))
  binary_ends m union v w n p q = ends_coll P v p (λ j vs h. ends_coll P w q (λ k ws g. ends_if (same_kind j k) (ends_form _ n (ok.formed (all_held j (ok.of_members_lem g) (ok.held h)))) ends_stuck))

  binary_kept : (m : Mark) (op : Binary) {f g : Run} → Kept f → Kept g → Kept (binary_run m op f g)
  unfolding binary_run
  binary_kept m op hf hg = record {
    run = λ ρ r n. ends_bind (hf.run ρ r n) (λ v i p. ends_if (left_fits m op v) (ends_bind (hg.run ρ r i) (λ w l q. binary_ends m op v w l p q)) ends_stuck);
  }

  connective_kept : (c : Connective) {f g : Run} → Kept f → Kept g → Kept (connective_run c f g)
  unfolding connective_run
  connective_kept c hf hg = record {
    run = λ ρ r n. ends_resume (hf.run ρ r n)
        (λ v m p. ends_bool v (λ a. ends_if (beq a (decides c)) (give_bool a) (ends_bind (hg.run ρ r m) (λ w l q. ends_bool w (λ b. give_bool b)))))
        (λ m. ends_bind (hg.run ρ r m) (λ w l q. ends_bool w (λ b. ends_if (beq b (decides c)) (give_bool b) ends_undefined)));
  }

  is_undef_kept : {f : Run} → Kept f → Kept (is_undef_run f)
  unfolding is_undef_run
  is_undef_kept h = record { run = λ ρ r n. ends_resume (h.run ρ r n) (λ v m p. give_bool false) (λ m. give_bool true) }

  conditional_kept : {f g h : Run} → Kept f → Kept g → Kept h → Kept (conditional_run f g h)
  unfolding conditional_run
  conditional_kept hf hg hh = record {
    run = λ ρ r n. ends_bind (hf.run ρ r n) (λ v m p. ends_bool v (λ b. ends_if b (hg.run ρ r m) (hh.run ρ r m)));
  }

  let_kept : (i : ℕ) {f g : Run} → Kept f → Kept g → Kept (let_run i f g)
  unfolding let_run
  let_kept i hf hg = record { run = λ ρ r n. ends_bind (hf.run ρ r n) (λ v m p. hg.run (extend ρ i v) (extend_bound i r p) m) }

  row_kept : (i : ℕ) (v : Value) → All? P (value_in_row s i v)
  unfolding value_in_row
  row_kept i (bool b) = all_none
  row_kept i (num x) = all_none
  row_kept i (obj o) = value_kept o i
  row_kept i (coll k vs) = all_none

  rows_kept : (i : ℕ) (vs : Values) → All? (Every P) (values_in_row s i vs)
  unfolding values_in_row on_some map_some
  rows_kept i nil = all_some every_nil
  rows_kept i (cons v vs) = all_each (row_kept i v) (rows_kept i vs)

  access_ends : (x : Access) (m : Mark) (v : Value) (n : ℕ) → P v → Ends P (access s x m v n)
  unfolding access
  access_ends of_object m v n p = ends_if (has_row s (row_marked m) v) (ends_given n (row_kept (row_marked m) v)) ends_stuck
  access_ends of_members m v n p = ends_coll P v p (λ k vs h. ends_if (every (has_row s (row_marked m)) vs)
      (ends_all (kind_marked m) n (rows_kept (row_marked m) vs) (λ ws e. ok.formed (all_held (kind_marked m) e ok.of_none))) ends_stuck)

  attribute_kept : (x : Access) (m : Mark) {f : Run} → Kept f → Kept (attribute_run s x m f)
  unfolding attribute_run
  attribute_kept x m h = record { run = λ ρ r n. ends_bind (h.run ρ r n) (access_ends x m) }

  start_bound : (o : ℕ) → Bound P (start (obj o))
  unfolding start
  start_bound o = extend_bound 0 (record { variable = λ i. all_none }) (ok.of_object_lem o)

  call_kept : (c : ℕ) {f g : Run} → Kept f → Kept g → Kept (call_run s c f g)
  unfolding call_run
  call_kept c hf hg = record {
    run = λ ρ r n. ends_bind (hf.run ρ r n) (λ v m p. ends_obj v (λ o. ends_if (is_a s o (class c)) (hg.run (start (obj o)) (start_bound o) m) ends_stuck));
  }

  quantified_kept : (q : Quantifier) (i : ℕ) {f g : Run} → Kept f → Kept g → Kept (quantified_run q i f g)
  unfolding quantified_run
  quantified_kept q i hf hg = record {
    run = λ ρ r n. ends_bind (hf.run ρ r n) (λ v m p. ends_coll P v p (λ k vs h.
        ends_seek q false m (ok.of_members_lem h) ok.of_bool (λ x l y. hg.run (extend ρ i x) (extend_bound i r y) l)));
  }

  iterate_kept : (i j : ℕ) {f g h : Run} → Kept f → Kept g → Kept h → Kept (iterate_run i j f g h)
  unfolding iterate_run
  iterate_kept i j hf hg hh = record {
    run = λ ρ r n. ends_bind (hf.run ρ r n) (λ v m p. ends_coll P v p (λ k vs h. ends_bind (hg.run ρ r m) (λ a l q.
        ends_fold a l (ok.of_members_lem h) q (λ x y o c d. hh.run (extend (extend ρ i x) j y) (extend_bound j (extend_bound i r c) d) o))));
  }

  no_operand_gathers : Gathers no_operand_run
  unfolding no_operand_run
  no_operand_gathers = record { runs = λ k vs h. record { run = λ ρ r n. ends_form _ n (ok.formed h) } }

  operand_gathers : {f : Run} {g : Gather} → Kept f → Gathers g → Gathers (operand_run f g)
  unfolding operand_run
  operand_gathers hf hg = record {
    runs = λ k vs h. record { run = λ ρ r n. ends_bind (hf.run ρ r n) (λ v m p. (hg.runs k (add k v vs) (ok.of_added k v p h)).run ρ r m) };
  }

  assemble_kept : (k : Kind) {g : Gather} → Gathers g → Kept (assemble_run k g)
  unfolding assemble_run
  assemble_kept k h = record { run = λ ρ r n. (h.runs k nil ok.of_none).run ρ r n }

  -- ---- the induction

  module _ (mark : ℕ → Mark) where
    mutual
      unfolding evaluation literals

      all_kept_lem : (e : Expr) → Each (λ x. P (num x)) (literals e) → Kept (evaluation s mark e)
      all_kept_lem (node p f) h = record { run = λ ρ r n. ends_tick (form_run s mark p f) ρ n ((form_kept p f h).run ρ r) }

      form_kept : (p : ℕ) (f : Form) → Each (λ x. P (num x)) (literals_in f) → Kept (form_run s mark p f)
      form_kept p (leaf l) h = leaf_kept l h
      form_kept p (unary op a) h = unary_kept op (all_kept_lem a h)
      form_kept p (binary op a b) h = binary_kept (mark p) op (all_kept_lem a (each_left (literals a) (literals b) h)) (all_kept_lem b (each_right (literals a) h))
      form_kept p (connective c a b) h = connective_kept c (all_kept_lem a (each_left (literals a) (literals b) h)) (all_kept_lem b (each_right (literals a) h))
      form_kept p (is_undef a) h = is_undef_kept (all_kept_lem a h)
      form_kept p (conditional c a b) h = let l = each_right (literals c) h in
          conditional_kept (all_kept_lem c (each_left (literals c) (literals a ++ literals b) h)) (all_kept_lem a (each_left (literals a) (literals b) l)) (all_kept_lem b (each_right (literals a) l))
      form_kept p (let_in i a b) h = let_kept i (all_kept_lem a (each_left (literals a) (literals b) h)) (all_kept_lem b (each_right (literals a) h))
      form_kept p (attribute x name a) h = attribute_kept x (mark p) (all_kept_lem a h)
      form_kept p (call c t a b) h = call_kept c (all_kept_lem a (each_left (literals a) (literals b) h)) (all_kept_lem b (each_right (literals a) h))
      form_kept p (quantified q i a b) h = quantified_kept q i (all_kept_lem a (each_left (literals a) (literals b) h)) (all_kept_lem b (each_right (literals a) h))
      form_kept p (iterate i j t a e b) h = let l = each_right (literals a) h in
          iterate_kept i j (all_kept_lem a (each_left (literals a) (literals e ++ literals b) h)) (all_kept_lem e (each_left (literals e) (literals b) l)) (all_kept_lem b (each_right (literals e) l))
      form_kept p (assemble k es) h = assemble_kept k (operands_gather es h)

      operands_gather : (es : Operands) → Each (λ x. P (num x)) (literals_of es) → Gathers (operands_run s mark es)
      operands_gather no_operand h = no_operand_gathers
      operands_gather (operand e es) h = operand_gathers (all_kept_lem e (each_left (literals e) (literals_of es) h)) (operands_gather es (each_right (literals e) h))

    pub kept_ends : (e : Expr) → Each (λ x. P (num x)) (literals e) → (ρ : Env Value) → Bound P ρ → (n m : ℕ) (v : Value) → evaluation s mark e ρ n ≡ value v m → P v
    kept_ends e h ρ r n m v q = ends_at_lem ((all_kept_lem e h).run ρ r n) q

    pub kept_rule : (e : Expr) → Each (λ x. P (num x)) (literals e) → (o m : ℕ) (v : Value) → evaluate_rule s mark e o ≡ value v m → P v
    unfolding evaluate_rule
    kept_rule e h o m v q = kept_ends e h (start (obj o)) (start_bound o) 0 m v q
