-- The rows that a rule sees are those which the table of marks has at its nodes and at those of the bodies that it reaches: a law for each
-- piece that typing is written in, and inductions over the forms. Assumes nothing.
use mathlib.Core.Path.{◌≡◌, refl, sym, ap, ◌∙◌, subst}
use mathlib.Core.Bool.{Bool, true, false, ◌&&◌}
use mathlib.Core.Option.{Option, none, some}
use mathlib.Core.List.{List, [], ◌∷◌, ◌++◌, map, append-nil, append_assoc}
use Prim.Native.Nat.{ℕ, ◌<◌}
use native.Mathlib.Omega.{arith as linear}
use lib.Dec.{T}
use Rattle.std.specs.Prelude.{if◌then◌else◌}
use Rattle.laws.specs.Lists.{member, concat, Each, each_nil, each-cons}
use Rattle.laws.proofs.Tests.{test_same}
use Rattle.laws.proofs.Lists.{member_exact, each_append, each_left, each_right, each_head, each_at, each_member}
use Rattle.ocl.specs.Environment.{Env, extend, start}
use Rattle.ocl.specs.Types.{any, boolean, integer, real, class, Letter, Ty, void, simple, around, Integer, Real, Class, subtype}
use Rattle.ocl.specs.Model.{Schema, Model, schema_of, row_read}
use Rattle.ocl.specs.Forms.{Access, of_object, of_members, Binary, equal, less, arith, divide, over, includes, including, union, Expr, node, Form, leaf, unary, binary, connective, is_undef, conditional, let_in, attribute, call, quantified, iterate, assemble, Operands, no_operand, operand, Definition, calls, calls_in, calls_of}
use Rattle.ocl.specs.Marks.{Scale, Mark, row_marked, Marks}
use Rattle.ocl.specs.Typing.{Answer, typed, refused, Typed, pure, then_for, and_then, on_collection, on_class, scaled, on_numbers, binary_type, row_type, attribute_type, leaf_typing, unary_typing, binary_typing, connective_typing, is_undef_typing, conditional_typing, let_typing, attribute_typing, call_typing, quantified_typing, iterate_typing, no_operand_typing, operand_typing, assemble_typing, typing, form_typing, operands_typing, type_rule, type_definition}
use Rattle.ocl.specs.Laws.{EachMark, no_mark, mark_then, RowBelow, row_below, rows_below, no_row_lem, Agree}
use Rattle.ocl.specs.Soundness.{TypedDefinition}
use Rattle.ocl.specs.Rows.{row_in, rows_of, resolved_rows}
use Rattle.ocl.specs.Unseen.{tree_rows, tree_rows_in, tree_rows_of, Resolved, RowsByMarks}
use Rattle.ocl.proofs.Places.{each_mark_imp, typing_places, definition_marked}
use Rattle.ocl.proofs.Marks.{marks_left, marks_right, marks_first}

-- ---- the rows of a tree's own nodes

unfoldable mutual
  pub own_rows : (ℕ → Mark) → Expr → List ℕ
  own_rows mark (node p f) = own_rows_in mark p f

  own_rows_in : (ℕ → Mark) → ℕ → Form → List ℕ
  own_rows_in mark p (leaf l) = []
  own_rows_in mark p (unary op a) = own_rows mark a
  own_rows_in mark p (binary op a b) = own_rows mark a ++ own_rows mark b
  own_rows_in mark p (connective c a b) = own_rows mark a ++ own_rows mark b
  own_rows_in mark p (is_undef a) = own_rows mark a
  own_rows_in mark p (conditional c a b) = own_rows mark c ++ (own_rows mark a ++ own_rows mark b)
  own_rows_in mark p (let_in i a b) = own_rows mark a ++ own_rows mark b
  own_rows_in mark p (attribute x name a) = own_rows mark a ++ (row_marked (mark p) ∷ [])
  own_rows_in mark p (call c t a b) = own_rows mark a
  own_rows_in mark p (quantified q i a b) = own_rows mark a ++ own_rows mark b
  own_rows_in mark p (iterate i j t a e b) = own_rows mark a ++ (own_rows mark e ++ own_rows mark b)
  own_rows_in mark p (assemble k es) = own_rows_of mark es

  own_rows_of : (ℕ → Mark) → Operands → List ℕ
  own_rows_of mark no_operand = []
  own_rows_of mark (operand e es) = own_rows mark e ++ own_rows_of mark es

-- ---- a typing that gives a type has the rows of its nodes

rows_append : (m n : Marks) → rows_of (m ++ n) ≡ rows_of m ++ rows_of n
unfolding rows_of
rows_append [] n = refl
rows_append (x ∷ m) n = ap (λ l. row_in x.1 ++ l) (rows_append m n) ∙ sym (append_assoc (row_in x.1) (rows_of m) (rows_of n))

record Has (mark : ℕ → Mark) (rows : List ℕ) (x : Typed) : Type 0 where
  has : (t : Ty) → x.answer ≡ typed t → Agree mark x.marks → rows_of x.marks ≡ rows

no_type : {A : Type 0} {n p : ℕ} {t : Ty} → refused n p ≡ typed t → A
no_type e = absurd (let z : ◌≡◌ {A = ℕ} 0 1 = cc in omega linear)

has_none : {mark : ℕ → Mark} {a : Answer} → Has mark [] (pure a)
unfolding rows_of
has_none = record { has = λ t e g. refl }

has_refused : {mark : ℕ → Mark} {rows : List ℕ} {n p : ℕ} → Has mark rows (pure (refused n p))
has_refused = record { has = λ t e g. no_type e }

then_has : {mark : ℕ → Mark} {a b : List ℕ} {k : Ty → Typed} {m : Marks} (r : Answer) → ((t : Ty) → r ≡ typed t → Agree mark m → rows_of m ≡ a) → ((t : Ty) → Has mark b (k t)) → Has mark (a ++ b) (then_for r m k)
unfolding then_for
then_has {k = k} {m} (typed t) h g = record { has = λ u e z. rows_append m (k t).marks ∙ rw (h t refl (marks_left m (k t).marks z), (g t).has u e (marks_right m z)) }
then_has (refused n p) h g = record { has = λ u e z. no_type e }

has_then : {mark : ℕ → Mark} {a b : List ℕ} {x : Typed} {k : Ty → Typed} → Has mark a x → ((t : Ty) → Has mark b (k t)) → Has mark (a ++ b) (and_then x k)
unfolding and_then
has_then {x} h g = then_has x.answer h.has g

-- the last operand
has_last : {mark : ℕ → Mark} {a : List ℕ} {x : Typed} {k : Ty → Typed} → Has mark a x → ((t : Ty) → Has mark [] (k t)) → Has mark a (and_then x k)
has_last {mark} {a} {x} {k} h g = subst (λ l. Has mark l (and_then x k)) (append-nil a) (has_then h g)

has_collection : {mark : ℕ → Mark} {rows : List ℕ} {k : Letter → Ty → Typed} (p : ℕ) (t : Ty) → ((l : Letter) (m : Ty) → Has mark rows (k l m)) → Has mark rows (on_collection t (pure (refused 11 p)) k)
unfolding on_collection
has_collection p void h = has_refused
has_collection p (simple b) h = has_refused
has_collection p (around l m) h = h l m

has_class : {mark : ℕ → Mark} {rows : List ℕ} {k : ℕ → Typed} (p : ℕ) (t : Ty) → ((c : ℕ) → Has mark rows (k c)) → Has mark rows (on_class t (pure (refused 11 p)) k)
unfolding on_class
has_class p void h = has_refused
has_class p (simple any) h = has_refused
has_class p (simple boolean) h = has_refused
has_class p (simple integer) h = has_refused
has_class p (simple real) h = has_refused
has_class p (simple (class c)) h = h c
has_class p (around l m) h = has_refused

has_if : {mark : ℕ → Mark} {rows : List ℕ} {x y : Typed} (b : Bool) → Has mark rows x → Has mark rows y → Has mark rows (if b then x else y)
has_if true h k = h
has_if false h k = k

module _ (s : Schema) (mark : ℕ → Mark) where
  row_has : (p : ℕ) (make : ℕ → Mark) (k : Ty → Answer) (o : Option ℕ) → ((i : ℕ) → row_in (make i) ≡ row_marked (make i) ∷ []) → Has mark (row_marked (mark p) ∷ []) (row_type s p make k o)
  unfolding row_type rows_of
  row_has p make k none h = has_refused
  row_has p make k (some i) h = record { has = λ t e g. rw (marks_first g, h i) }

  attribute_has : (p : ℕ) (x : Access) (name : ℕ) (t : Ty) → Has mark (row_marked (mark p) ∷ []) (attribute_type s p x name t)
  unfolding attribute_type row_in row_marked
  attribute_has p of_object name t = has_class p t (λ c. row_has p _ _ (row_read s c name) (λ i. refl))
  attribute_has p of_members name t = has_collection p t (λ l m. has_class p m (λ c. row_has p _ _ (row_read s c name) (λ i. refl)))

  numbers_has : (p : ℕ) (type : Scale → Ty) (t u : Ty) → Has mark [] (on_numbers s p type t u)
  unfolding on_numbers scaled rows_of row_in
  numbers_has p type t u =
      has_if (subtype s.parent t Integer && subtype s.parent u Integer) (record { has = λ t e g. refl })
      (has_if (subtype s.parent t Real && subtype s.parent u Real) (record { has = λ t e g. refl }) has_none)

  binary_has : (p : ℕ) (op : Binary) (t u : Ty) → Has mark [] (binary_type s p op t u)
  unfolding binary_type
  binary_has p equal t u = has_none
  binary_has p less t u = numbers_has p _ t u
  binary_has p (arith o) t u = numbers_has p _ t u
  binary_has p (divide o) t u = has_none
  binary_has p over t u = has_none
  binary_has p includes t u = has_none
  binary_has p including t u = has_none
  binary_has p union t u = has_none

  mutual
    unfolding own_rows typing leaf_typing unary_typing binary_typing connective_typing is_undef_typing conditional_typing let_typing attribute_typing call_typing quantified_typing iterate_typing no_operand_typing operand_typing assemble_typing

    tree_has : (e : Expr) (Γ : Env Ty) → Has mark (own_rows mark e) (typing s e Γ)
    tree_has (node p f) Γ = form_has p f Γ

    form_has : (p : ℕ) (f : Form) (Γ : Env Ty) → Has mark (own_rows_in mark p f) (form_typing s p f Γ)
    form_has p (leaf l) Γ = has_none
    form_has p (unary op a) Γ = has_last (tree_has a Γ) (λ z. has_none)
    form_has p (binary op a b) Γ = has_then (tree_has a Γ) (λ t. has_last (tree_has b Γ) (λ u. binary_has p op t u))
    form_has p (connective c a b) Γ = has_then (tree_has a Γ) (λ t. has_last (tree_has b Γ) (λ z. has_none))
    form_has p (is_undef a) Γ = has_last (tree_has a Γ) (λ z. has_none)
    form_has p (conditional c a b) Γ = has_then (tree_has c Γ) (λ t. has_then (tree_has a Γ) (λ u. has_last (tree_has b Γ) (λ z. has_none)))
    form_has p (let_in i a b) Γ = has_then (tree_has a Γ) (λ t. tree_has b (extend Γ i t))
    form_has p (attribute x name a) Γ = has_then (tree_has a Γ) (attribute_has p x name)
    form_has p (call c t a b) Γ = has_last (tree_has a Γ) (λ z. has_none)
    form_has p (quantified q i a b) Γ = has_then (tree_has a Γ) (λ t. has_collection p t (λ l m. has_last (tree_has b (extend Γ i m)) (λ z. has_none)))
    form_has p (iterate i j t a e b) Γ =
        has_then (tree_has a Γ) (λ c. has_then (tree_has e Γ) (λ u. has_collection p c (λ l m.
        has_if (subtype s.parent u t) (has_last (tree_has b (extend (extend Γ i m) j t)) (λ z. has_none)) has_refused)))
    form_has p (assemble k es) Γ = has_last (operands_have p es Γ) (λ z. has_none)

    operands_have : (p : ℕ) (es : Operands) (Γ : Env Ty) → Has mark (own_rows_of mark es) (operands_typing s p es Γ)
    operands_have p no_operand Γ = has_none
    operands_have p (operand e es) Γ = has_then (tree_has e Γ) (λ t. has_last (operands_have p es Γ) (λ z. has_none))

  rule_has : (c : ℕ) (e : Expr) → Has mark (own_rows mark e) (type_rule s c e)
  unfolding type_rule
  rule_has c e = tree_has e (start (Class c))

  definition_has : (d : Definition) → Has mark (own_rows mark d.body) (type_definition s d)
  unfolding type_definition
  definition_has d = has_last (rule_has d.context d.body) (λ z. has_none)

-- ---- a tree's rows: those of its own nodes and of the definitions that it calls

module _ (P : ℕ → Type 0) (mark : ℕ → Mark) where
  abbrev Own : Definition → Type 0
  Own d = Each P (own_rows mark d.body)

  record Splits (rows own : List ℕ) (ds : List Definition) : Type 0 where
    joins : Each P own → Each Own ds → Each P rows
    owns : Each P rows → Each P own
    called : Each P rows → Each Own ds

  splits_none : Splits [] [] []
  splits_none = record { joins = λ h k. each_nil; owns = λ h. each_nil; called = λ h. each_nil }

  splits_append : {a b own other : List ℕ} {ds es : List Definition} → Splits a own ds → Splits b other es → Splits (a ++ b) (own ++ other) (ds ++ es)
  splits_append {a} {b} {own} {other} {ds} {es} x y = record {
    joins = λ h k. each_append (x.joins (each_left own other h) (each_left ds es k)) (y.joins (each_right own h) (each_right ds k));
    owns = λ h. each_append (x.owns (each_left a b h)) (y.owns (each_right a h));
    called = λ h. each_append (x.called (each_left a b h)) (y.called (each_right a h));
  }

  splits_row : {a own : List ℕ} {ds : List Definition} (i : ℕ) → Splits a own ds → Splits (a ++ (i ∷ [])) (own ++ (i ∷ [])) ds
  splits_row {a} {own} i x = record {
    joins = λ h k. each_append (x.joins (each_left own _ h) k) (each_right own h);
    owns = λ h. each_append (x.owns (each_left a _ h)) (each_right a h);
    called = λ h. x.called (each_left a _ h);
  }

  splits_call : {a b own : List ℕ} {ds es : List Definition} (d : Definition) → Splits a own ds → Splits b (own_rows mark d.body) es → Splits (a ++ b) own (ds ++ (es ++ (d ∷ [])))
  splits_call {a} {b} {own} {ds} {es} d x y = record {
    joins = λ h k. let r = each_right ds k in each_append (x.joins h (each_left ds _ k)) (y.joins (each_head (each_right es r)) (each_left es _ r));
    owns = λ h. x.owns (each_left a b h);
    called = λ h. let r = each_right a h in each_append (x.called (each_left a b h)) (each_append (y.called r) (each-cons {n = d} (y.owns r) each_nil));
  }

  mutual
    unfolding tree_rows own_rows calls

    splits : (e : Expr) → Splits (tree_rows mark e) (own_rows mark e) (calls e)
    splits (node p f) = splits_form p f

    splits_form : (p : ℕ) (f : Form) → Splits (tree_rows_in mark p f) (own_rows_in mark p f) (calls_in f)
    splits_form p (leaf l) = splits_none
    splits_form p (unary op a) = splits a
    splits_form p (binary op a b) = splits_append (splits a) (splits b)
    splits_form p (connective c a b) = splits_append (splits a) (splits b)
    splits_form p (is_undef a) = splits a
    splits_form p (conditional c a b) = splits_append (splits c) (splits_append (splits a) (splits b))
    splits_form p (let_in i a b) = splits_append (splits a) (splits b)
    splits_form p (attribute x name a) = splits_row (row_marked (mark p)) (splits a)
    splits_form p (call c t a b) = splits_call (record { context = c; type = t; body = b }) (splits a) (splits b)
    splits_form p (quantified q i a b) = splits_append (splits a) (splits b)
    splits_form p (iterate i j t a e b) = splits_append (splits a) (splits_append (splits e) (splits b))
    splits_form p (assemble k es) = splits_operands es

    splits_operands : (es : Operands) → Splits (tree_rows_of mark es) (own_rows_of mark es) (calls_of es)
    splits_operands no_operand = splits_none
    splits_operands (operand e es) = splits_append (splits e) (splits_operands es)

  -- ---- and so those that the rule sees

  module _ (s : Model) where
    called_rows : {ds : List Definition} → Each (TypedDefinition s mark) ds → Each P (concat (map (λ d. rows_of (type_definition (schema_of s) d).marks) ds)) → Each Own ds
    unfolding concat
    called_rows each_nil h = each_nil
    called_rows (each-cons {n = d} x k) h =
        let e = (definition_has (schema_of s) mark d).has d.type x.typed_body x.marked in
        each-cons (subst (Each P) e (each_left (rows_of (type_definition (schema_of s) d).marks) _ h)) (called_rows k (each_right (rows_of (type_definition (schema_of s) d).marks) h))

    rows_called : {ds : List Definition} → Each (TypedDefinition s mark) ds → Each Own ds → Each P (concat (map (λ d. rows_of (type_definition (schema_of s) d).marks) ds))
    unfolding concat
    rows_called each_nil each_nil = each_nil
    rows_called (each-cons {n = d} x k) (each-cons h g) =
        let e = (definition_has (schema_of s) mark d).has d.type x.typed_body x.marked in each_append (subst (Each P) (sym e) h) (rows_called k g)

    module _ (c : ℕ) (e : Expr) (x : Resolved s mark c e) where
      own_rows_lem : rows_of (type_rule (schema_of s) c e).marks ≡ own_rows mark e
      own_rows_lem = (rule_has (schema_of s) mark c e).has x.type x.typed_rule x.marked

      pub seen_tree : Each P (resolved_rows (schema_of s) c e) → Each P (tree_rows mark e)
      unfolding resolved_rows
      seen_tree h =
          let own = rows_of (type_rule (schema_of s) c e).marks in
          (splits e).joins (subst (Each P) own_rows_lem (each_left own _ h)) (called_rows x.reached (each_right own h))

      tree_seen : Each P (tree_rows mark e) → Each P (resolved_rows (schema_of s) c e)
      unfolding resolved_rows
      tree_seen h = each_append (subst (Each P) (sym own_rows_lem) ((splits e).owns h)) (rows_called x.reached ((splits e).called h))

-- what holds of each of the one holds of each of the other
among : (i : ℕ) (a b : List ℕ) → Each (λ n. T (member n b)) a → T (member i a) → T (member i b)
among i a b h t = each_at h ((member_exact i a).0 t)

pub rows_by_marks : RowsByMarks
rows_by_marks s mark c e x i =
    let a = tree_rows mark e in
    let b = resolved_rows (schema_of s) c e in
    test_same (member i a) (member i b) (among i a b (seen_tree (λ n. T (member n b)) mark s c e x (each_member b))) (among i b a (tree_seen (λ n. T (member n a)) mark s c e x (each_member a)))

-- ---- they are rows of the schema

marks_below : {n : ℕ} {m : Marks} → EachMark (λ p x. RowBelow n x) m → Each (λ i. i < n) (rows_of m)
unfolding rows_of row_in
marks_below no_mark = each_nil
marks_below (mark_then (row_below l) h) = each-cons l (marks_below h)
marks_below (mark_then (rows_below l) h) = each-cons l (marks_below h)
marks_below (mark_then no_row_lem h) = marks_below h

called_below : (s : Schema) (ds : List Definition) → Each (λ i. i < s.row_count) (concat (map (λ d. rows_of (type_definition s d).marks) ds))
unfolding concat
called_below s [] = each_nil
called_below s (d ∷ ds) = each_append (marks_below (each_mark_imp (λ p x k. k.is_row) (definition_marked s d))) (called_below s ds)

pub rows_below_count : (s : Schema) (c : ℕ) (e : Expr) → Each (λ i. i < s.row_count) (resolved_rows s c e)
unfolding resolved_rows type_rule
rows_below_count s c e = each_append (marks_below (each_mark_imp (λ p x k. k.is_row) (typing_places s e (start (Class c))).marked)) (called_below s (calls e))
