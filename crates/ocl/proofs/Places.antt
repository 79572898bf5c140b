-- Where typing refuses and marks: one induction over the forms, with a law for each piece that typing is written in. Assumes nothing.
use mathlib.Core.Path.{◌≡◌, subst}
use mathlib.Core.Bool.{Bool, true, false, ◌&&◌, ◌||◌}
use mathlib.Core.Option.{Option, none, some}
use mathlib.Core.List.{List, [], ◌∷◌, ◌++◌}
use Prim.Native.Nat.{ℕ, ◌≤◌}
use native.Mathlib.Omega.{arith as linear}
use lib.Dec.{T, leb, leb→le}
use Rattle.std.specs.Prelude.{if◌then◌else◌}
use Rattle.laws.specs.Lists.{member, Each}
use Rattle.ocl.specs.Environment.{Env, extend, start}
use Rattle.ocl.specs.Types.{any, boolean, integer, class, Kind, set, sequence, bag, Letter, collection, exactly, Ty, void, simple, around, Class, Boolean, Integer, depth, same_kind, subtype, join, real, Real}
use Rattle.ocl.specs.Model.{Schema}
use Rattle.ocl.specs.Forms.{Access, of_object, of_members, Leaf, truth, undef, number, self, var, all, Unary, negation, size_of, convert, cast_to, Binary, equal, less, arith, includes, including, union, Expr, node, Form, leaf, unary, binary, connective, is_undef, conditional, let_in, attribute, call, quantified, iterate, assemble, Operands, no_operand, operand, Definition, divide, over}
use Rattle.ocl.specs.Marks.{Scale, Mark, of_row, of_rows, of_numbers, kind_marked, Marks}
use Rattle.ocl.specs.Typing.{Answer, typed, refused, Typed, pure, then_for, and_then, below, common, wrap, on_collection, on_class, on_kind, bound_type, leaf_type, cast_type, unary_type, both_below, binary_type, conditional_type, collect_kind, row_type, attribute_type, leaf_typing, unary_typing, binary_typing, connective_typing, is_undef_typing, conditional_typing, let_typing, attribute_typing, call_type, call_typing, quantified_typing, iterate_typing, no_operand_typing, operand_typing, assemble_typing, typing, form_typing, operands_typing, type_rule, root, type_definition, scaled, on_numbers, includes_type, including_type, union_type}
use Rattle.ocl.specs.Laws.{Refusal, MarkAt, EachMark, no_mark, mark_then, TypingPlacesLaw, numbers, numbers_in, numbers_of, RowBelow, row_below, rows_below, no_row_lem}
use Rattle.laws.proofs.Tests.{and_l, and_r, All?, all_none, all_some, all_imp}
use Rattle.laws.proofs.Lists.{each_left, each_right, each_head, each_member}
use Rattle.ocl.proofs.Values.{row_read_row}

pub each_mark_append : {P : ℕ → Mark → Type 0} {m n : Marks} → EachMark P m → EachMark P n → EachMark P (m ++ n)
each_mark_append no_mark k = k
each_mark_append (mark_then p h) k = mark_then p (each_mark_append h k)

pub each_mark_imp : {P Q : ℕ → Mark → Type 0} {m : Marks} → ((p : ℕ) (x : Mark) → P p x → Q p x) → EachMark P m → EachMark Q m
each_mark_imp f no_mark = no_mark
each_mark_imp f (mark_then {p} {x} h k) = mark_then (f p x h) (each_mark_imp f k)

-- P of the nodes that may be named
module _ (s : Schema) (P : ℕ → Type 0) where
  data Says : Answer → Type 0 where
    yes_type : {t : Ty} → Says (typed t)
    no_type : {n p : ℕ} → T (leb 9 n && leb n 13) → P p → Says (refused n p)

  record Plain (m : Mark) : Type 0 where
    row : RowBelow s.row_count m
    no_set : kind_marked m ≡ set → ⊥

  record Known (x : Typed) : Type 0 where
    says : Says x.answer
    marks : EachMark (λ p m. P p × Plain m) x.marks

  -- ---- the pieces of typing

  known_pure : {a : Answer} → Says a → Known (pure a)
  known_pure h = record { says = h; marks = no_mark }

  then_known : {k : Ty → Typed} {m : Marks} (a : Answer) → Says a → EachMark (λ p m. P p × Plain m) m → ((t : Ty) → Known (k t)) → Known (then_for a m k)
  unfolding then_for
  then_known (typed t) h e g = record { says = (g t).says; marks = each_mark_append e (g t).marks }
  then_known (refused n p) h e g = record { says = h; marks = e }

  known_then : {x : Typed} {k : Ty → Typed} → Known x → ((t : Ty) → Known (k t)) → Known (and_then x k)
  unfolding and_then
  known_then {x} h g = then_known x.answer h.says h.marks g

  -- the last operand, then what the node asks
  known_last : {x : Typed} {k : Ty → Answer} → Known x → ((t : Ty) → Says (k t)) → Known (and_then x (λ t. pure (k t)))
  known_last h g = known_then h (λ t. known_pure (g t))

  known_if : {x y : Typed} (b : Bool) → Known x → Known y → Known (if b then x else y)
  known_if true h k = h
  known_if false h k = k

  known_collection : {x : Typed} {k : Letter → Ty → Typed} (t : Ty) → Known x → ((l : Letter) (m : Ty) → Known (k l m)) → Known (on_collection t x k)
  unfolding on_collection
  known_collection void h g = h
  known_collection (simple b) h g = h
  known_collection (around l m) h g = g l m

  known_class : {x : Typed} {k : ℕ → Typed} (t : Ty) → Known x → ((c : ℕ) → Known (k c)) → Known (on_class t x k)
  unfolding on_class
  known_class void h g = h
  known_class (simple any) h g = h
  known_class (simple boolean) h g = h
  known_class (simple integer) h g = h
  known_class (simple real) h g = h
  known_class (simple (class c)) h g = g c
  known_class (around l m) h g = h

  says_if : {x y : Answer} (b : Bool) → Says x → Says y → Says (if b then x else y)
  says_if true h k = h
  says_if false h k = k

  says_below : {a : Answer} {p : ℕ} (t u : Ty) → P p → Says a → Says (below s p t u a)
  says_below t u q h = says_if (subtype s.parent t u) h (no_type tt q)

  says_common : {k : Ty → Answer} {p : ℕ} (o : Option Ty) → P p → ((w : Ty) → Says (k w)) → Says (common p o k)
  unfolding common
  says_common none q h = no_type tt q
  says_common (some w) q h = h w

  says_wrap : {p : ℕ} (l : Letter) (t : Ty) → P p → Says (wrap p l t)
  unfolding wrap
  says_wrap l t q = says_if (leb (depth t) 2) yes_type (no_type tt q)

  says_collection : {p : ℕ} {k : Letter → Ty → Answer} (t : Ty) → P p → ((l : Letter) (m : Ty) → Says (k l m)) → Says (on_collection t (refused 11 p) k)
  unfolding on_collection
  says_collection void q h = no_type tt q
  says_collection (simple b) q h = no_type tt q
  says_collection (around l m) q h = h l m

  says_kind : {p : ℕ} {k : Kind → Answer} (l : Letter) → P p → ((c : Kind) → Says (k c)) → Says (on_kind l (refused 11 p) k)
  unfolding on_kind
  says_kind collection q h = no_type tt q
  says_kind (exactly c) q h = h c

  says_bound : {p : ℕ} (o : Option Ty) → P p → Says (bound_type p o)
  unfolding bound_type
  says_bound none q = no_type tt q
  says_bound (some t) q = yes_type

  -- ---- what a node asks of its operands

  leaf_says : {p : ℕ} (l : Leaf) (Γ : Env Ty) → P p → Says (leaf_type p l Γ)
  unfolding leaf_type
  leaf_says (truth b) Γ q = yes_type
  leaf_says undef Γ q = yes_type
  leaf_says (number z) Γ q = yes_type
  leaf_says self Γ q = says_bound (Γ 0) q
  leaf_says (var i) Γ q = says_bound (Γ i) q
  leaf_says (all c) Γ q = yes_type

  cast_says : {p : ℕ} (c : ℕ) (t : Ty) → P p → Says (cast_type s p c t)
  unfolding cast_type
  cast_says c void q = no_type tt q
  cast_says c (simple any) q = yes_type
  cast_says c (simple boolean) q = no_type tt q
  cast_says c (simple integer) q = no_type tt q
  cast_says c (simple real) q = no_type tt q
  cast_says c (simple (class d)) q = says_if (subtype s.parent (Class d) (Class c) || subtype s.parent (Class c) (Class d)) yes_type (no_type tt q)
  cast_says c (around l t) q = no_type tt q

  unary_says : {p : ℕ} (op : Unary) (t : Ty) → P p → Says (unary_type s p op t)
  unfolding unary_type
  unary_says negation t q = says_below t Boolean q yes_type
  unary_says size_of t q = says_collection t q (λ l m. yes_type)
  unary_says (convert k) t q = says_collection t q (λ l m. says_wrap (exactly k) m q)
  unary_says (cast_to c) t q = cast_says c t q

  both_says : {p : ℕ} (w r t u : Ty) → P p → Says (both_below s p w r t u)
  unfolding both_below
  both_says w r t u q = says_below t w q (says_below u w q yes_type)

  number_plain : {x : Scale} → Plain (of_numbers x)
  unfolding kind_marked
  number_plain = record { row = no_row_lem; no_set = λ e. absurd (let z : ◌≡◌ {A = ℕ} 0 1 = cc in omega linear) }

  numbers_known : {p : ℕ} (type : Scale → Ty) (t u : Ty) → P p → Known (on_numbers s p type t u)
  unfolding on_numbers scaled
  numbers_known type t u q =
      known_if (subtype s.parent t Integer && subtype s.parent u Integer) (record { says = yes_type; marks = mark_then (q, number_plain) no_mark })
      (known_if (subtype s.parent t Real && subtype s.parent u Real) (record { says = yes_type; marks = mark_then (q, number_plain) no_mark }) (known_pure (no_type tt q)))

  binary_known : {p : ℕ} (op : Binary) (t u : Ty) → P p → Known (binary_type s p op t u)
  unfolding binary_type includes_type including_type union_type
  binary_known equal t u q = known_pure (says_common (join s.parent t u) q (λ w. yes_type))
  binary_known less t u q = numbers_known _ t u q
  binary_known (arith o) t u q = numbers_known _ t u q
  binary_known (divide o) t u q = known_pure (both_says Integer Integer t u q)
  binary_known over t u q = known_pure (both_says Real Real t u q)
  binary_known includes t u q = known_pure (says_collection t q (λ l m. says_common (join s.parent m u) q (λ w. yes_type)))
  binary_known including t u q = known_pure (says_collection t q (λ l m. says_kind l q (λ k. says_common (join s.parent m u) q (λ w. says_wrap (exactly k) w q))))
  binary_known union t u q = known_pure (says_collection t q (λ l m. says_kind l q (λ j. says_collection u q (λ r n. says_kind r q (λ k.
      says_if (same_kind j k) (says_common (join s.parent m n) q (λ w. says_wrap (exactly j) w q)) (no_type tt q))))))

  conditional_says : {p : ℕ} (c t u : Ty) → P p → Says (conditional_type s p c t u)
  unfolding conditional_type
  conditional_says c t u q = says_below c Boolean q (says_common (join s.parent t u) q (λ w. yes_type))

  says_class : {p : ℕ} {k : ℕ → Answer} (t : Ty) → P p → ((c : ℕ) → Says (k c)) → Says (on_class t (refused 11 p) k)
  unfolding on_class
  says_class void q h = no_type tt q
  says_class (simple any) q h = no_type tt q
  says_class (simple boolean) q h = no_type tt q
  says_class (simple integer) q h = no_type tt q
  says_class (simple real) q h = no_type tt q
  says_class (simple (class c)) q h = h c
  says_class (around l t) q h = no_type tt q

  call_says : {p : ℕ} (c : ℕ) (t u : Ty) → P p → Says (call_type s p c t u)
  unfolding call_type
  call_says c t u q = says_class u q (λ d. says_below (Class d) (Class c) q yes_type)

  row_known : {p : ℕ} (mark : ℕ → Mark) (k : Ty → Answer) {o : Option ℕ} → P p → ((t : Ty) → Says (k t)) → All? (λ i. Plain (mark i)) o → Known (row_type s p mark k o)
  unfolding row_type
  row_known mark k q g all_none = known_pure (no_type tt q)
  row_known mark k q g (all_some {x = i} h) = record { says = g (s.row i).type; marks = mark_then (q, h) no_mark }

  collect_no_set : (l : Letter) → collect_kind l ≡ set → ⊥
  unfolding collect_kind
  collect_no_set collection e = absurd (let z : ◌≡◌ {A = ℕ} 0 1 = cc in omega linear)
  collect_no_set (exactly set) e = absurd (let z : ◌≡◌ {A = ℕ} 0 1 = cc in omega linear)
  collect_no_set (exactly sequence) e = absurd (let z : ◌≡◌ {A = ℕ} 0 1 = cc in omega linear)
  collect_no_set (exactly bag) e = absurd (let z : ◌≡◌ {A = ℕ} 0 1 = cc in omega linear)

  attribute_known : {p : ℕ} (x : Access) (name : ℕ) (t : Ty) → P p → Known (attribute_type s p x name t)
  unfolding attribute_type kind_marked
  attribute_known of_object name t q = known_class t (known_pure (no_type tt q)) (λ c. row_known of_row typed q (λ t. yes_type)
      (all_imp (λ i l. record { row = row_below l; no_set = λ e. absurd (let z : ◌≡◌ {A = ℕ} 0 1 = cc in omega linear) }) (row_read_row s c name)))
  attribute_known {p} of_members name t q = known_collection t (known_pure (no_type tt q)) (λ l m. known_class m (known_pure (no_type tt q)) (λ c.
      row_known (of_rows (collect_kind l)) (wrap p (exactly (collect_kind l))) q (λ t. says_wrap (exactly (collect_kind l)) t q)
      (all_imp (λ i n. record { row = rows_below n; no_set = collect_no_set l }) (row_read_row s c name))))

  -- ---- the induction

  mutual
    unfolding numbers typing leaf_typing unary_typing binary_typing connective_typing is_undef_typing conditional_typing let_typing attribute_typing call_typing quantified_typing iterate_typing no_operand_typing operand_typing assemble_typing

    known : (e : Expr) → Each P (numbers e) → (Γ : Env Ty) → Known (typing s e Γ)
    known (node p f) h Γ = known_form f p (each_left (numbers_in f) _ h) (each_head (each_right (numbers_in f) h)) Γ

    known_form : (f : Form) (p : ℕ) → Each P (numbers_in f) → P p → (Γ : Env Ty) → Known (form_typing s p f Γ)
    known_form (leaf l) p h q Γ = known_pure (leaf_says l Γ q)
    known_form (unary op a) p h q Γ = known_last (known a h Γ) (λ t. unary_says op t q)
    known_form (binary op a b) p h q Γ = known_then (known a (each_left (numbers a) _ h) Γ) (λ t. known_then (known b (each_right (numbers a) h) Γ) (λ u. binary_known op t u q))
    known_form (connective c a b) p h q Γ =
        known_then (known a (each_left (numbers a) _ h) Γ) (λ t. known_last (known b (each_right (numbers a) h) Γ) (λ u. both_says Boolean Boolean t u q))
    known_form (is_undef a) p h q Γ = known_last (known a h Γ) (λ t. yes_type)
    known_form (conditional c a b) p h q Γ = let r = each_right (numbers c) h in
        known_then (known c (each_left (numbers c) _ h) Γ) (λ x. known_then (known a (each_left (numbers a) _ r) Γ) (λ t. known_last (known b (each_right (numbers a) r) Γ) (λ u. conditional_says x t u q)))
    known_form (let_in i a b) p h q Γ = known_then (known a (each_left (numbers a) _ h) Γ) (λ t. known b (each_right (numbers a) h) (extend Γ i t))
    known_form (attribute x name a) p h q Γ = known_then (known a h Γ) (λ t. attribute_known x name t q)
    known_form (call c u a b) p h q Γ = known_last (known a h Γ) (λ t. call_says c u t q)
    known_form (quantified z i a b) p h q Γ = known_then (known a (each_left (numbers a) _ h) Γ) (λ t. known_collection t (known_pure (no_type tt q))
        (λ l m. known_last (known b (each_right (numbers a) h) (extend Γ i m)) (λ u. says_below u Boolean q yes_type)))
    known_form (iterate i j t a e b) p h q Γ = let r = each_right (numbers a) h in
        known_then (known a (each_left (numbers a) _ h) Γ) (λ c. known_then (known e (each_left (numbers e) _ r) Γ) (λ u. known_collection c (known_pure (no_type tt q))
        (λ l m. known_if (subtype s.parent u t) (known_last (known b (each_right (numbers e) r) (extend (extend Γ i m) j t)) (λ w. says_below w t q yes_type)) (known_pure (no_type tt q)))))
    known_form (assemble k es) p h q Γ = known_last (known_operands es p h q Γ) (λ t. says_wrap (exactly k) t q)

    known_operands : (es : Operands) (p : ℕ) → Each P (numbers_of es) → P p → (Γ : Env Ty) → Known (operands_typing s p es Γ)
    known_operands no_operand p h q Γ = known_pure yes_type
    known_operands (operand e es) p h q Γ =
        known_then (known e (each_left (numbers e) _ h) Γ) (λ t. known_last (known_operands es p (each_right (numbers e) h) q Γ) (λ u. says_common (join s.parent t u) q (λ w. yes_type)))

-- ---- of the tree's own nodes

refusal_of : {s : Schema} {ns : List ℕ} {a : Answer} {n p : ℕ} → Says s (λ m. T (member m ns)) a → a ≡ refused n p → Refusal ns n p
refusal_of {ns} {n = k} {p = o} (no_type {n} {p} h q) e =
    let f : n ≡ k = cc in
    let g : p ≡ o = cc in
    record {
      low = subst (λ x. 9 ≤ x) f (leb→le 9 n (and_l (leb 9 n) (leb n 13) h));
      high = subst (λ x. x ≤ 13) f (leb→le n 13 (and_r (leb 9 n) (leb n 13) h));
      placed = subst (λ x. T (member x ns)) g q;
    }
refusal_of yes_type e = absurd (let z : ◌≡◌ {A = ℕ} 0 1 = cc in omega linear)

root_member : (e : Expr) → T (member (root e) (numbers e))
unfolding root numbers
root_member (node p f) = each_head (each_right (numbers_in f) (each_member (numbers_in f ++ (p ∷ []))))

marks_known : {s : Schema} {ns : List ℕ} {m : Marks} → EachMark (λ p x. T (member p ns) × Plain s (λ p. T (member p ns)) x) m → EachMark (MarkAt s ns) m
marks_known h = each_mark_imp (λ p i q. record { placed = q.0; is_row = q.1.row; no_set = q.1.no_set }) h

pub typing_places : TypingPlacesLaw
typing_places s e Γ =
    let h = known s (λ m. T (member m (numbers e))) e (each_member (numbers e)) Γ in
    record {
      refusals = λ n p r. refusal_of h.says r;
      marked = marks_known h.marks;
    }

-- a definition's, its root's too
definition_known : (s : Schema) (d : Definition) → Known s (λ m. T (member m (numbers d.body))) (type_definition s d)
unfolding type_definition type_rule
definition_known s d = known_last s (λ m. T (member m (numbers d.body))) (known s (λ m. T (member m (numbers d.body))) d.body (each_member (numbers d.body)) (start (Class d.context)))
    (λ t. says_below s _ t d.type (root_member d.body) yes_type)

pub definition_places : (s : Schema) (d : Definition) (n p : ℕ) → (type_definition s d).answer ≡ refused n p → Refusal (numbers d.body) n p
definition_places s d n p e = refusal_of (definition_known s d).says e

pub definition_marked : (s : Schema) (d : Definition) → EachMark (MarkAt s (numbers d.body)) (type_definition s d).marks
definition_marked s d = marks_known (definition_known s d).marks
