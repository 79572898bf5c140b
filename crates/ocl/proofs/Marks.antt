-- A rule's marks are made at nodes of its tree, so with distinct node numbers evaluation reads each as it was made. Assumes nothing.
use mathlib.Core.Path.{◌≡◌, refl, sym, ◌∙◌, subst}
use mathlib.Core.Logic.{◌≢◌}
use mathlib.Core.Bool.{Bool, true, false, ◌&&◌}
use mathlib.Core.Option.{Option, none, some}
use mathlib.Core.List.{List, [], ◌∷◌, ◌++◌, append-nil, append_assoc}
use Prim.Native.Nat.{ℕ}
use lib.Dec.{eqb}
use borrow.Author.Tests.{eq-eqb, ne_eqb}
use Rattle.std.specs.Prelude.{if◌then◌else◌}
use Rattle.ocl.specs.Environment.{Env, extend, start}
use Rattle.ocl.specs.Types.{any, boolean, integer, real, class, Letter, Ty, void, simple, around, Integer, Real, Class, subtype}
use Rattle.ocl.specs.Model.{Schema, row_read}
use Rattle.ocl.specs.Forms.{Access, of_object, of_members, Binary, equal, less, arith, divide, over, includes, including, union, Expr, node, Form, leaf, unary, binary, connective, is_undef, conditional, let_in, attribute, call, quantified, iterate, assemble, Operands, no_operand, operand, Definition}
use Rattle.ocl.specs.Laws.{numbers, numbers_in, numbers_of, EachMark, no_mark, mark_then, Agree}
use Rattle.ocl.specs.Marks.{Scale, Mark, Marks, mark_or}
use Rattle.ocl.specs.Typing.{Answer, typed, refused, scaled, on_numbers, binary_type, Typed, pure, then_for, and_then, on_collection, on_class, row_type, attribute_type, leaf_typing, unary_typing, binary_typing, connective_typing, is_undef_typing, conditional_typing, let_typing, attribute_typing, call_typing, quantified_typing, iterate_typing, no_operand_typing, operand_typing, assemble_typing, typing, form_typing, operands_typing, type_rule, type_definition}
use Rattle.laws.specs.Lists.{Each, each_nil, each-cons, Distinct, distinct_nil, distinct_cons}

pub marks_left : {P : ℕ → Mark → Type 0} (m n : Marks) → EachMark P (m ++ n) → EachMark P m
marks_left [] n g = no_mark
marks_left (x ∷ m) n (mark_then e g) = mark_then e (marks_left m n g)

pub marks_right : {P : ℕ → Mark → Type 0} (m : Marks) {n : Marks} → EachMark P (m ++ n) → EachMark P n
marks_right [] g = g
marks_right (x ∷ m) (mark_then e g) = marks_right m g

pub marks_first : {P : ℕ → Mark → Type 0} {p : ℕ} {x : Mark} {m : Marks} → EachMark P ((p, x) ∷ m) → P p x
marks_first (mark_then e g) = e

-- ---- marks at some of the nodes, in their order

pub data Part : List ℕ → Marks → Type 0 where
  part_nil : Part [] []
  part_skip : {n : ℕ} {ns : List ℕ} {m : Marks} → Part ns m → Part (n ∷ ns) m
  part_take : {n : ℕ} {x : Mark} {ns : List ℕ} {m : Marks} → Part ns m → Part (n ∷ ns) ((n, x) ∷ m)

part_none : (ns : List ℕ) → Part ns []
part_none [] = part_nil
part_none (n ∷ ns) = part_skip (part_none ns)

pub part-append : {a b : List ℕ} {m k : Marks} → Part a m → Part b k → Part (a ++ b) (m ++ k)
part-append part_nil q = q
part-append (part_skip p) q = part_skip (part-append p q)
part-append (part_take p) q = part_take (part-append p q)

part_left : {a : List ℕ} {m : Marks} (b : List ℕ) → Part a m → Part (a ++ b) m
part_left b part_nil = part_none b
part_left b (part_skip p) = part_skip (part_left b p)
part_left b (part_take p) = part_take (part_left b p)

pub record Marked (ns : List ℕ) (x : Typed) : Type 0 where
  pub part : Part ns x.marks

marked_pure : {ns : List ℕ} {a : Answer} → Marked ns (pure a)
marked_pure {ns} = record { part = part_none ns }

then_part : {a b : List ℕ} {m : Marks} {k : Ty → Typed} (r : Answer) → Part a m → ((t : Ty) → Marked b (k t)) → Marked (a ++ b) (then_for r m k)
unfolding then_for
then_part (typed t) p q = record { part = part-append p (q t).part }
then_part {b} (refused n l) p q = record { part = part_left b p }

marked_then : {a b : List ℕ} {x : Typed} {k : Ty → Typed} → Marked a x → ((t : Ty) → Marked b (k t)) → Marked (a ++ b) (and_then x k)
unfolding and_then
marked_then {x} p q = then_part x.answer p.part q

-- the last operand
marked_last : {a : List ℕ} {x : Typed} {k : Ty → Typed} → Marked a x → ((t : Ty) → Marked [] (k t)) → Marked a (and_then x k)
marked_last {a} {x} {k} p q = subst (λ ns. Marked ns (and_then x k)) (append-nil a) (marked_then p q)

marked_collection : {ns : List ℕ} {x : Typed} {k : Letter → Ty → Typed} (t : Ty) → Marked ns x → ((l : Letter) (m : Ty) → Marked ns (k l m)) → Marked ns (on_collection t x k)
unfolding on_collection
marked_collection void p h = p
marked_collection (simple b) p h = p
marked_collection (around l m) p h = h l m

marked_class : {ns : List ℕ} {x : Typed} {k : ℕ → Typed} (t : Ty) → Marked ns x → ((c : ℕ) → Marked ns (k c)) → Marked ns (on_class t x k)
unfolding on_class
marked_class void p h = p
marked_class (simple any) p h = p
marked_class (simple boolean) p h = p
marked_class (simple integer) p h = p
marked_class (simple real) p h = p
marked_class (simple (class c)) p h = h c
marked_class (around l m) p h = p

marked_if : {ns : List ℕ} {x y : Typed} (b : Bool) → Marked ns x → Marked ns y → Marked ns (if b then x else y)
marked_if true p q = p
marked_if false p q = q

module _ (s : Schema) where
  row_part : (p : ℕ) (mark : ℕ → Mark) (k : Ty → Answer) (o : Option ℕ) → Marked (p ∷ []) (row_type s p mark k o)
  unfolding row_type
  row_part p mark k none = marked_pure
  row_part p mark k (some i) = record { part = part_take part_nil }

  attribute_part : (p : ℕ) (x : Access) (name : ℕ) (t : Ty) → Marked (p ∷ []) (attribute_type s p x name t)
  unfolding attribute_type
  attribute_part p of_object name t = marked_class t marked_pure (λ c. row_part p _ _ (row_read s c name))
  attribute_part p of_members name t = marked_collection t marked_pure (λ l m. marked_class m marked_pure (λ c. row_part p _ _ (row_read s c name)))

  numbers_part : (p : ℕ) (type : Scale → Ty) (t u : Ty) → Marked (p ∷ []) (on_numbers s p type t u)
  unfolding on_numbers scaled
  numbers_part p type t u =
      marked_if (subtype s.parent t Integer && subtype s.parent u Integer) (record { part = part_take part_nil })
      (marked_if (subtype s.parent t Real && subtype s.parent u Real) (record { part = part_take part_nil }) marked_pure)

  binary_part : (p : ℕ) (op : Binary) (t u : Ty) → Marked (p ∷ []) (binary_type s p op t u)
  unfolding binary_type
  binary_part p equal t u = marked_pure
  binary_part p less t u = numbers_part p _ t u
  binary_part p (arith o) t u = numbers_part p _ t u
  binary_part p (divide o) t u = marked_pure
  binary_part p over t u = marked_pure
  binary_part p includes t u = marked_pure
  binary_part p including t u = marked_pure
  binary_part p union t u = marked_pure

  own : {ns : List ℕ} {x : Typed} (p : ℕ) → Marked ns x → Marked (ns ++ (p ∷ [])) x
  own p h = record { part = part_left (p ∷ []) h.part }

  mutual
    unfolding numbers typing leaf_typing unary_typing binary_typing connective_typing is_undef_typing conditional_typing let_typing attribute_typing call_typing quantified_typing iterate_typing no_operand_typing operand_typing assemble_typing

    pub marked : (e : Expr) (Γ : Env Ty) → Marked (numbers e) (typing s e Γ)
    marked (node p f) Γ = marked_form p f Γ

    marked_form : (p : ℕ) (f : Form) (Γ : Env Ty) → Marked (numbers_in f ++ (p ∷ [])) (form_typing s p f Γ)
    marked_form p (leaf l) Γ = marked_pure
    marked_form p (unary op a) Γ = own p (marked_last (marked a Γ) (λ z. marked_pure))
    marked_form p (binary op a b) Γ =
        subst (λ ns. Marked ns (form_typing s p (binary op a b) Γ)) (sym (append_assoc (numbers a) (numbers b) (p ∷ [])))
        (marked_then (marked a Γ) (λ t. marked_then (marked b Γ) (λ u. binary_part p op t u)))
    marked_form p (connective c a b) Γ = own p (marked_then (marked a Γ) (λ t. marked_last (marked b Γ) (λ z. marked_pure)))
    marked_form p (is_undef a) Γ = own p (marked_last (marked a Γ) (λ z. marked_pure))
    marked_form p (conditional c a b) Γ = own p (marked_then (marked c Γ) (λ t. marked_then (marked a Γ) (λ u. marked_last (marked b Γ) (λ z. marked_pure))))
    marked_form p (let_in i a b) Γ = own p (marked_then (marked a Γ) (λ t. marked b (extend Γ i t)))
    marked_form p (attribute x name a) Γ = marked_then (marked a Γ) (attribute_part p x name)
    marked_form p (call c t a b) Γ = own p (marked_last (marked a Γ) (λ z. marked_pure))
    marked_form p (quantified q i a b) Γ = own p (marked_then (marked a Γ) (λ t. marked_collection t marked_pure (λ l m. marked_last (marked b (extend Γ i m)) (λ z. marked_pure))))
    marked_form p (iterate i j t a e b) Γ =
        own p (marked_then (marked a Γ) (λ c. marked_then (marked e Γ) (λ u. marked_collection c marked_pure (λ l m.
        marked_if (subtype s.parent u t) (marked_last (marked b (extend (extend Γ i m) j t)) (λ z. marked_pure)) marked_pure))))
    marked_form p (assemble k es) Γ = own p (marked_last (marked_operands p es Γ) (λ z. marked_pure))

    marked_operands : (p : ℕ) (es : Operands) (Γ : Env Ty) → Marked (numbers_of es) (operands_typing s p es Γ)
    marked_operands p no_operand Γ = marked_pure
    marked_operands p (operand e es) Γ = marked_then (marked e Γ) (λ t. marked_last (marked_operands p es Γ) (λ z. marked_pure))

pub marked_rule : (s : Schema) (c : ℕ) (e : Expr) → Marked (numbers e) (type_rule s c e)
unfolding type_rule
marked_rule s c e = marked s e (start (Class c))

pub marked_definition : (s : Schema) (d : Definition) → Marked (numbers d.body) (type_definition s d)
unfolding type_definition
marked_definition s d = marked_last (marked_rule s d.context d.body) (λ z. marked_pure)

-- ---- no mark replaces another

keep : (d : Mark) {p : ℕ} {ns : List ℕ} {m : Marks} → Part ns m → Each (λ n. n ≢ p) ns → mark_or d m p ≡ d
unfolding mark_or
keep d part_nil each_nil = refl
keep d (part_skip q) (each-cons z h) = keep d q h
keep d {p} (part_take {n} {x} q) (each-cons z h) = keep (if eqb p n then x else d) q h ∙ rw (ne_eqb p n (λ e. z (sym e)))

-- whatever stood there before the marks were made
pub agree_marks : (d : ℕ → Mark) {ns : List ℕ} {m : Marks} → Part ns m → Distinct ns → Agree (λ p. mark_or (d p) m p) m
unfolding mark_or
agree_marks d part_nil distinct_nil = no_mark
agree_marks d (part_skip q) (distinct_cons z e) = agree_marks d q e
agree_marks d (part_take {n} {x} q) (distinct_cons z e) =
    mark_then {x = x} (keep (if eqb n n then x else d n) q z ∙ rw (eq-eqb n n refl)) (agree_marks (λ p. if eqb p n then x else d p) q e)
