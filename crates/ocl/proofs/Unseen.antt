-- Evaluation reads no value but those of the rows that its nodes were resolved to: one induction over the forms. Assumes nothing.
use mathlib.Core.Path.{◌≡◌, refl, ap, ◌∙◌, fun_ext}
use mathlib.Core.Option.{Option}
use mathlib.Core.List.{List}
use Prim.Native.Nat.{ℕ, zero, suc}
use Rattle.laws.specs.Lists.{Each}
use Rattle.laws.proofs.Lists.{each_imp, each_left, each_right, each_head, each_member}
use Rattle.ocl.specs.Environment.{start}
use Rattle.ocl.specs.Types.{set}
use Rattle.ocl.specs.Values.{Value, bool, num, obj, coll, Values, nil, cons}
use Rattle.ocl.specs.Model.{Model, schema_of, is_a}
use Rattle.ocl.specs.Forms.{Access, of_object, of_members, Leaf, truth, undef, number, self, var, all, Unary, negation, size_of, convert, cast_to, Expr, node, Form, leaf, unary, binary, connective, is_undef, conditional, let_in, attribute, call, quantified, iterate, assemble, Operands, no_operand, operand}
use Rattle.ocl.specs.Marks.{Mark, row_marked}
use Rattle.ocl.specs.Operations.{Outcome, form, instances, cast, unary_apply, has_row, value_in_row, values_in_row, access}
use Rattle.ocl.specs.Evaluation.{Run, bind, leaf_run, unary_run, attribute_run, call_run, evaluation, form_run, operands_run, evaluate_rule}
use Rattle.ocl.specs.Rows.{resolved_rows}
use Rattle.ocl.specs.Unseen.{with_values, tree_rows, tree_rows_in, tree_rows_of, Unseen}
use Rattle.ocl.proofs.Rows.{seen_tree}

module _ (s : Model) (values : ℕ → ℕ → Option Value) where
  abbrev other : Model
  other = with_values s values

  abbrev binding : Run → (Value → ℕ → Outcome) → Run
  binding f k ρ n = bind (f ρ n) k

  bind_same : {f g : Run} {k l : Value → ℕ → Outcome} → f ≡ g → ((x : Value) (n : ℕ) → k x n ≡ l x n) → binding f k ≡ binding g l
  bind_same {g = g} {k} e q = ap (λ (f : Run). binding f k) e ∙ ap (λ (k : Value → ℕ → Outcome). binding g k) (fun_ext (λ x. fun_ext (q x)))

  -- ---- what reads no value

  instances_same : (c n : ℕ) → instances other c n ≡ instances s c n
  unfolding instances is_a with_values
  instances_same c zero = refl
  instances_same c (suc n) = rw (instances_same c n)

  leaf_same : (l : Leaf) → leaf_run other l ≡ leaf_run s l
  unfolding leaf_run with_values
  leaf_same (truth b) = refl
  leaf_same undef = refl
  leaf_same (number x) = refl
  leaf_same self = refl
  leaf_same (var i) = refl
  leaf_same (all c) = fun_ext (λ ρ. fun_ext (λ n. ap (λ vs. form (coll set vs) n) (instances_same c s.object_count)))

  cast_same : (c : ℕ) (x : Value) (n : ℕ) → cast other c x n ≡ cast s c x n
  unfolding cast is_a with_values
  cast_same c (bool b) n = refl
  cast_same c (num x) n = refl
  cast_same c (obj o) n = refl
  cast_same c (coll k vs) n = refl

  unary_same : (op : Unary) {f g : Run} → f ≡ g → unary_run other op f ≡ unary_run s op g
  unfolding unary_run unary_apply
  unary_same negation e = rw e
  unary_same size_of e = rw e
  unary_same (convert k) e = rw e
  unary_same (cast_to c) e = bind_same e (cast_same c)

  call_same : (c : ℕ) {f g h k : Run} → f ≡ g → h ≡ k → call_run other c f h ≡ call_run s c g k
  unfolding call_run is_a with_values
  call_same c e q = rw (e, q)

  -- ---- a row with the same values

  abbrev Same : ℕ → Type 0
  Same i = (o : ℕ) → values o i ≡ s.value_of o i

  value_same : (i : ℕ) → Same i → (x : Value) → value_in_row other i x ≡ value_in_row s i x
  unfolding value_in_row with_values
  value_same i h (bool b) = refl
  value_same i h (num x) = refl
  value_same i h (obj o) = h o
  value_same i h (coll k vs) = refl

  values_same : (i : ℕ) → Same i → (vs : Values) → values_in_row other i vs ≡ values_in_row s i vs
  unfolding values_in_row
  values_same i h nil = refl
  values_same i h (cons x vs) = rw (value_same i h x, values_same i h vs)

  has_at : (i : ℕ) (x : Value) → has_row other i x ≡ has_row s i x
  unfolding has_row is_a with_values
  has_at i (bool b) = refl
  has_at i (num x) = refl
  has_at i (obj o) = refl
  has_at i (coll k vs) = refl

  has_same : (i : ℕ) → has_row other i ≡ has_row s i
  has_same i = fun_ext (has_at i)

  access_same : (x : Access) (m : Mark) → Same (row_marked m) → (y : Value) (n : ℕ) → access other x m y n ≡ access s x m y n
  unfolding access
  access_same of_object m h y n = rw (has_same (row_marked m), value_same (row_marked m) h y)
  access_same of_members m h (bool b) n = refl
  access_same of_members m h (num x) n = refl
  access_same of_members m h (obj o) n = refl
  access_same of_members m h (coll k vs) n = rw (has_same (row_marked m), values_same (row_marked m) h vs)

  attribute_same : (x : Access) (m : Mark) {f g : Run} → Same (row_marked m) → f ≡ g → attribute_run other x m f ≡ attribute_run s x m g
  unfolding attribute_run
  attribute_same x m h e = bind_same e (access_same x m h)

  -- ---- the induction

  module _ (mark : ℕ → Mark) where
    mutual
      unfolding tree_rows evaluation

      same : (e : Expr) → Each Same (tree_rows mark e) → evaluation other mark e ≡ evaluation s mark e
      same (node p f) h = rw (same_form f p h)

      same_form : (f : Form) (p : ℕ) → Each Same (tree_rows_in mark p f) → form_run other mark p f ≡ form_run s mark p f
      same_form (leaf l) p h = leaf_same l
      same_form (unary op a) p h = unary_same op (same a h)
      same_form (binary op a b) p h = rw (same a (each_left (tree_rows mark a) _ h), same b (each_right (tree_rows mark a) h))
      same_form (connective c a b) p h = rw (same a (each_left (tree_rows mark a) _ h), same b (each_right (tree_rows mark a) h))
      same_form (is_undef a) p h = rw (same a h)
      same_form (conditional c a b) p h = let r = each_right (tree_rows mark c) h in
          rw (same c (each_left (tree_rows mark c) _ h), same a (each_left (tree_rows mark a) _ r), same b (each_right (tree_rows mark a) r))
      same_form (let_in j a b) p h = rw (same a (each_left (tree_rows mark a) _ h), same b (each_right (tree_rows mark a) h))
      same_form (attribute x name a) p h = attribute_same x (mark p) (each_head (each_right (tree_rows mark a) h)) (same a (each_left (tree_rows mark a) _ h))
      same_form (call c t a b) p h = call_same c (same a (each_left (tree_rows mark a) _ h)) (same b (each_right (tree_rows mark a) h))
      same_form (quantified q j a b) p h = rw (same a (each_left (tree_rows mark a) _ h), same b (each_right (tree_rows mark a) h))
      same_form (iterate j k t a e b) p h = let r = each_right (tree_rows mark a) h in
          rw (same a (each_left (tree_rows mark a) _ h), same e (each_left (tree_rows mark e) _ r), same b (each_right (tree_rows mark e) r))
      same_form (assemble k es) p h = rw (same_operands es h)

      same_operands : (es : Operands) → Each Same (tree_rows_of mark es) → operands_run other mark es ≡ operands_run s mark es
      same_operands no_operand h = refl
      same_operands (operand e es) h = rw (same e (each_left (tree_rows mark e) _ h), same_operands es (each_right (tree_rows mark e) h))

pub unseen : Unseen
unfolding evaluate_rule
unseen s values mark c e x h o =
    let rows : List ℕ = resolved_rows (schema_of s) c e in
    let k = seen_tree (Same s values) mark s c e x (each_imp (λ i t p. h p i t) (each_member rows)) in
    ap (λ (f : Run). f (start (obj o)) 0) (same s values mark e k)
