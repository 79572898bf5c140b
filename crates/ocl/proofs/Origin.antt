-- Undefined arose at one node and step alone, at a node of the tree or of a definition that it reaches. Assumes nothing.
use mathlib.Core.Path.{◌≡◌, refl, sym, subst}
use mathlib.Core.Bool.{Bool, true, false, beq}
use mathlib.Core.List.Memᴰ
use mathlib.Core.List.{List, [], ◌∷◌, ◌++◌, Memᴰ}
use Prim.Native.Nat.{ℕ, ◌+◌}
use lib.Dec.{T, eqb, eqb_refl}
use Rattle.std.specs.Prelude.{if◌then◌else◌}
use Rattle.laws.specs.Lists.{member, Each, each_nil, each-cons}
use Rattle.laws.proofs.Tests.{or_l, or_r}
use Rattle.laws.proofs.Lists.{member_append}
use Rattle.ocl.specs.Types.{class}
use Rattle.ocl.specs.Values.{Value, bool, num, obj, coll, Values, nil, cons}
use Rattle.ocl.specs.Model.{Model, is_a}
use Rattle.ocl.specs.Environment.{Env, extend}
use Rattle.ocl.specs.Forms.{Quantifier, Expr, Form, leaf, unary, binary, connective, is_undef, conditional, let_in, attribute, call, quantified, iterate, assemble, Operands, no_operand, operand, Definition, calls, calls_in, calls_of}
use Rattle.ocl.specs.Marks.{Mark}
use Rattle.ocl.specs.Operations.{Outcome, value, undefined, stuck, stop, left_fits}
use Rattle.ocl.specs.Evaluation.{decides, ends_at, evaluation}
use Rattle.ocl.specs.Laws.{numbers, numbers_in, numbers_of}
use Rattle.ocl.proofs.Trace.{not_both, first_defined}
use Rattle.ocl.specs.Origin.{Begun, after_value, unless_decided, branch_of, object_of, members_of, bodies, turns, member_runs, runs_of, FirstUndefined, this_one, after_it, Arose, here, below, OneOrigin, NodeOf, own_node, reached_node, OriginPlace}

-- ---- nowhere else

module _ {s : Model} {mark : ℕ → Mark} where
  first_one : {b c : Begun} {bs : List Begun} → FirstUndefined s mark b bs → FirstUndefined s mark c bs → b ≡ c
  first_one (this_one u) (this_one w) = refl
  first_one (this_one u) (after_it d g) = absurd (not_both u d)
  first_one (after_it d f) (this_one u) = absurd (not_both u d)
  first_one (after_it d f) (after_it e g) = first_one f g

  one : {e : Expr} {ρ : Env Value} {n q j q' j' : ℕ} → Arose s mark e ρ n q j → Arose s mark e ρ n q' j' → (q ≡ q') × (j ≡ j')
  one (here u h) (here w i) = (refl, refl)
  one (here u h) (below b w f a) = absurd (first_defined f h)
  one (below b u f a) (here w h) = absurd (first_defined f h)
  one {q'} {j'} (below b u f a) (below c w g d) = one a (subst (λ x. Arose s mark x.root x.env x.before q' j') (sym (first_one f g)) d)

pub one_origin : OneOrigin
one_origin s mark e ρ n q j q' j' a b = one a b

-- ---- at a node of the tree, or of a definition that it reaches

-- a node with one of these numbers, or of one of these definitions
data NodeIn (ns : List ℕ) (ds : List Definition) (q : ℕ) : Type 0 where
  own : T (member q ns) → NodeIn ns ds q
  reached : (d : Definition) → Memᴰ d ds → T (member q (numbers d.body)) → NodeIn ns ds q

in_left : {q : ℕ} {a : List ℕ} (b : List ℕ) {c : List Definition} (d : List Definition) → NodeIn a c q → NodeIn (a ++ b) (c ++ d) q
in_left {q} {a} b d (own h) = own (subst T (sym (member_append q a b)) (or_l (member q a) (member q b) h))
in_left b d (reached x m h) = reached x (Memᴰ.append_left d m) h

in_right : {q : ℕ} (a : List ℕ) {b : List ℕ} (c : List Definition) {d : List Definition} → NodeIn b d q → NodeIn (a ++ b) (c ++ d) q
in_right {q} a {b} c (own h) = own (subst T (sym (member_append q a b)) (or_r (member q a) (member q b) h))
in_right a c (reached x m h) = reached x (Memᴰ.append_right c m) h

-- the nodes of a tree, or of a run's, are among these
abbrev Inside : List ℕ → List Definition → Expr → Type 0
Inside ns ds e = (q : ℕ) → NodeIn (numbers e) (calls e) q → NodeIn ns ds q

record Among (ns : List ℕ) (ds : List Definition) (b : Begun) : Type 0 where
  all : Inside ns ds b.root

after_among : {P : Begun → Type 0} (o : Outcome) {f : Value → ℕ → List Begun} → ((v : Value) (n : ℕ) → Each P (f v n)) → Each P (after_value o f)
after_among (value v n) h = h v n
after_among (undefined n) h = each_nil
after_among stuck h = each_nil
after_among (stop c n) h = each_nil

test_among : {P : Begun → Type 0} (b : Bool) {x y : List Begun} → Each P x → Each P y → Each P (if b then x else y)
test_among true h i = h
test_among false h i = i

decided_among : {P : Begun → Type 0} (d : Bool) (o : Outcome) {f : ℕ → List Begun} → ((n : ℕ) → Each P (f n)) → Each P (unless_decided d o f)
decided_among d (value (bool x) n) h = test_among (beq x d) each_nil (h n)
decided_among d (value (num x) n) h = each_nil
decided_among d (value (obj o) n) h = each_nil
decided_among d (value (coll k vs) n) h = each_nil
decided_among d (undefined n) h = h n
decided_among d stuck h = each_nil
decided_among d (stop c n) h = each_nil

branch_among : {P : Begun → Type 0} (v : Value) {x y : List Begun} → Each P x → Each P y → Each P (branch_of v x y)
branch_among (bool b) h i = test_among b h i
branch_among (num x) h i = each_nil
branch_among (obj o) h i = each_nil
branch_among (coll k vs) h i = each_nil

object_among : {P : Begun → Type 0} (v : Value) {f : ℕ → List Begun} → ((o : ℕ) → Each P (f o)) → Each P (object_of v f)
object_among (bool b) h = each_nil
object_among (num x) h = each_nil
object_among (obj o) h = h o
object_among (coll k vs) h = each_nil

members_among : {P : Begun → Type 0} (v : Value) {f : Values → List Begun} → ((vs : Values) → Each P (f vs)) → Each P (members_of v f)
members_among (bool b) h = each_nil
members_among (num x) h = each_nil
members_among (obj o) h = each_nil
members_among (coll k vs) h = h vs

module _ (s : Model) (mark : ℕ → Mark) {ns : List ℕ} {ds : List Definition} where
  bodies_among : (q : Quantifier) (i : ℕ) (b : Expr) (ρ : Env Value) → Inside ns ds b → (vs : Values) (n : ℕ) → Each (Among ns ds) (bodies s mark q i b ρ vs n)
  unfolding bodies
  bodies_among q i b ρ h nil n = each_nil
  bodies_among q i b ρ h (cons v vs) n = each-cons (record { all = h }) (decided_among (ends_at q) (evaluation s mark b (extend ρ i v) n) (λ m. bodies_among q i b ρ h vs m))

  turns_among : (i j : ℕ) (b : Expr) (ρ : Env Value) → Inside ns ds b → (vs : Values) (a : Value) (n : ℕ) → Each (Among ns ds) (turns s mark i j b ρ vs a n)
  unfolding turns
  turns_among i j b ρ h nil a n = each_nil
  turns_among i j b ρ h (cons v vs) a n = each-cons (record { all = h }) (after_among (evaluation s mark b (extend (extend ρ i v) j a) n) (λ c m. turns_among i j b ρ h vs c m))

  member_among : (es : Operands) (ρ : Env Value) (n : ℕ) → ((q : ℕ) → NodeIn (numbers_of es) (calls_of es) q → NodeIn ns ds q) → Each (Among ns ds) (member_runs s mark es ρ n)
  unfolding member_runs numbers calls
  member_among no_operand ρ n h = each_nil
  member_among (operand e es) ρ n h =
      each-cons (record { all = λ q t. h q (in_left (numbers_of es) (calls_of es) t) })
      (after_among (evaluation s mark e ρ n) (λ v m. member_among es ρ m (λ q t. h q (in_right (numbers e) (calls e) t))))

-- a called body's own nodes are its definition's
in_body_lem : {q : ℕ} {ns : List ℕ} (c : List Definition) (d : Definition) → NodeIn (numbers d.body) (calls d.body) q → NodeIn ns (c ++ (calls d.body ++ (d ∷ []))) q
in_body_lem c d (own h) = reached d (Memᴰ.append_right c (Memᴰ.append_right (calls d.body) (Memᴰ.head refl))) h
in_body_lem c d (reached x m h) = reached x (Memᴰ.append_right c (Memᴰ.append_left (d ∷ []) m)) h

in_operand : {q : ℕ} {a : List ℕ} {c : List Definition} (d : List Definition) → NodeIn a c q → NodeIn a (c ++ d) q
in_operand d (own h) = own h
in_operand d (reached x m h) = reached x (Memᴰ.append_left d m) h

module _ (s : Model) (mark : ℕ → Mark) (ρ : Env Value) where
  -- an operand and what runs after it
  then_among : {ns : List ℕ} {ds : List Definition} {b : Begun} {bs : List Begun} → Inside ns ds b.root → Each (Among ns ds) bs → Each (Among ns ds) (b ∷ bs)
  then_among h k = each-cons (record { all = h }) k

  runs_among : (p : ℕ) (f : Form) (n : ℕ) → Each (Among (numbers_in f) (calls_in f)) (runs_of s mark p f ρ n)
  unfolding runs_of numbers calls
  runs_among p (leaf l) n = each_nil
  runs_among p (unary op a) n = then_among (λ q t. t) each_nil
  runs_among p (binary op a b) n =
      then_among (λ q t. in_left (numbers b) (calls b) t) (after_among (evaluation s mark a ρ n) (λ v m. test_among (left_fits (mark p) op v) (then_among (λ q t. in_right (numbers a) (calls a) t) each_nil) each_nil))
  runs_among p (connective c a b) n =
      then_among (λ q t. in_left (numbers b) (calls b) t) (decided_among (decides c) (evaluation s mark a ρ n) (λ m. then_among (λ q t. in_right (numbers a) (calls a) t) each_nil))
  runs_among p (is_undef a) n = then_among (λ q t. t) each_nil
  runs_among p (conditional c a b) n =
      then_among (λ q t. in_left (numbers a ++ numbers b) (calls a ++ calls b) t) (after_among (evaluation s mark c ρ n) (λ v m. branch_among v
      (then_among (λ q t. in_right (numbers c) (calls c) (in_left (numbers b) (calls b) t)) each_nil)
      (then_among (λ q t. in_right (numbers c) (calls c) (in_right (numbers a) (calls a) t)) each_nil)))
  runs_among p (let_in i a b) n =
      then_among (λ q t. in_left (numbers b) (calls b) t) (after_among (evaluation s mark a ρ n) (λ v m. then_among (λ q t. in_right (numbers a) (calls a) t) each_nil))
  runs_among p (attribute x name a) n = then_among (λ q t. t) each_nil
  runs_among p (call c u a b) n =
      let d : Definition = record { context = c; type = u; body = b } in
      then_among (λ q t. in_operand (calls b ++ (d ∷ [])) t) (after_among (evaluation s mark a ρ n) (λ v m. object_among v (λ o.
      test_among (is_a s o (class c)) (then_among (λ q t. in_body_lem (calls a) d t) each_nil) each_nil)))
  runs_among p (quantified q i a b) n =
      then_among (λ q t. in_left (numbers b) (calls b) t) (after_among (evaluation s mark a ρ n) (λ v m. members_among v (λ vs. bodies_among s mark q i b ρ (λ x t. in_right (numbers a) (calls a) t) vs m)))
  runs_among p (iterate i j u a e b) n =
      then_among (λ q t. in_left (numbers e ++ numbers b) (calls e ++ calls b) t) (after_among (evaluation s mark a ρ n) (λ v m. members_among v (λ vs.
      then_among (λ q t. in_right (numbers a) (calls a) (in_left (numbers b) (calls b) t))
      (after_among (evaluation s mark e ρ m) (λ w l. turns_among s mark i j b ρ (λ q t. in_right (numbers a) (calls a) (in_right (numbers e) (calls e) t)) vs w l)))))
  runs_among p (assemble k es) n = member_among s mark es ρ n (λ q t. t)

first_among : {s : Model} {mark : ℕ → Mark} {b : Begun} {bs : List Begun} {P : Begun → Type 0} → FirstUndefined s mark b bs → Each P bs → P b
first_among (this_one u) (each-cons p h) = p
first_among (after_it d f) (each-cons p h) = first_among f h

-- a form's nodes are its node's
in_node : {q : ℕ} (p : ℕ) {ns : List ℕ} {ds : List Definition} → NodeIn ns ds q → NodeIn (ns ++ (p ∷ [])) ds q
in_node {q} p {ns} (own h) = own (subst T (sym (member_append q ns (p ∷ []))) (or_l (member q ns) (member q (p ∷ [])) h))
in_node p (reached x m h) = reached x m h

in_tree : {s : Model} {mark : ℕ → Mark} {e : Expr} {ρ : Env Value} {n q j : ℕ} → Arose s mark e ρ n q j → NodeIn (numbers e) (calls e) q
unfolding numbers calls
in_tree (here {p} {f} u h) = own (subst T (sym (member_append p (numbers_in f) (p ∷ []))) (or_r (member p (numbers_in f)) (member p (p ∷ [])) (unfold member in or_l (eqb p p) false (eqb_refl p))))
in_tree {s} {mark} {q} (below {p} {n} {f} {ρ} b u i a) =
    in_node p ((first_among {P = Among (numbers_in f) (calls_in f)} i (runs_among s mark ρ p f (n + 1))).all q (in_tree a))

node_of : {e : Expr} {q : ℕ} → NodeIn (numbers e) (calls e) q → NodeOf e q
node_of (own h) = own_node h
node_of (reached d m h) = reached_node d m h

pub origin_place : OriginPlace
origin_place s mark e ρ n q j a = node_of (in_tree a)
