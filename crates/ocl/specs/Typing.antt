-- Document 01, The forms and their typing: a type, or the number and node of a refusal; and the marks made on the way.
use Rattle.std.specs.Prelude.{◌&&◌, ◌||◌, [], ◌∷◌, ◌++◌, ℕ, leb}
use Rattle.std.proofs.Math.Option.{Option, none, some}
use Rattle.std.specs.Prelude.{if◌then◌else◌}
use Rattle.ocl.specs.Types.{any, boolean, integer, real, class, Kind, set, sequence, bag, Letter, collection, exactly, Ty, void, simple, around, Boolean, Integer, Real, Class, depth, same_kind, subtype, join}
use Rattle.ocl.specs.Model.{Schema, number_type, row_read}
use Rattle.ocl.specs.Environment.{Env, extend, start}
use Rattle.ocl.specs.Forms.{Access, of_object, of_members, Leaf, truth, undef, number, self, var, all, Unary, negation, size_of, convert, cast_to, Binary, equal, less, arith, divide, over, includes, including, union, Expr, node, Form, leaf, unary, binary, connective, is_undef, conditional, let_in, attribute, call, quantified, iterate, assemble, Operands, no_operand, operand, Definition}
use Rattle.ocl.specs.Marks.{Scale, integers, reals, Mark, of_row, of_rows, of_numbers, Marks}

-- a type, or a refusal's number and its node
pub data Answer : Type 0 where
  typed : Ty → Answer
  refused : ℕ → ℕ → Answer

-- an answer, and the marks made before it, which a refusal has too
pub record Typed : Type 0 where
  pub answer : Answer
  pub marks : Marks

-- a node's typing, given its variables' types
abbrev pub Typing : Type 0
Typing = Env Ty → Typed

-- an answer that makes no mark
abbrev pub pure : Answer → Typed
pure a = record { answer = a; marks = [] }

-- a type goes on, a refusal ends
unfoldable pub then_for : Answer → Marks → (Ty → Typed) → Typed
then_for (typed t) m k = record { answer = (k t).answer; marks = m ++ (k t).marks }
then_for (refused n p) m k = record { answer = refused n p; marks = m }

-- "Typing goes operands first, left to right": the first refusal is the answer
unfoldable pub and_then : Typed → (Ty → Typed) → Typed
and_then x k = then_for x.answer x.marks k

-- ---- what the node p asks of its operands' types: "at a node 11 comes first, then 10, 12, 13"

-- t is below u, else 11, "operand type not admitted"
abbrev pub below : Schema → ℕ → Ty → Ty → Answer → Answer
below s p t u a = if subtype s.parent t u then a else refused 11 p

-- there is a common type, else 10, "no common type"
unfoldable pub common : ℕ → Option Ty → (Ty → Answer) → Answer
common p none k = refused 10 p
common p (some w) k = k w

-- a letter around t; 13, "type over three deep"
unfoldable pub wrap : ℕ → Letter → Ty → Answer
wrap p l t = if leb (depth t) 2 then typed (around l t) else refused 13 p

-- "A collection operand must have a collection type; Void is none"
unfoldable pub on_collection : {A : Type 0} → Ty → A → (Letter → Ty → A) → A
on_collection void no11 k = no11
on_collection (simple b) no11 k = no11
on_collection (around l t) no11 k = k l t

-- t is a class; "treating Void as a class" is one of the mistakes to shut out
unfoldable pub on_class : {A : Type 0} → Ty → A → (ℕ → A) → A
on_class void no11 k = no11
on_class (simple any) no11 k = no11
on_class (simple boolean) no11 k = no11
on_class (simple integer) no11 k = no11
on_class (simple real) no11 k = no11
on_class (simple (class c)) no11 k = k c
on_class (around l t) no11 k = no11

-- "kinds S, Q, B only"
unfoldable pub on_kind : Letter → Answer → (Kind → Answer) → Answer
on_kind collection no11 k = no11
on_kind (exactly c) no11 k = k c

-- the variable is bound, else 9, "unbound variable"
unfoldable pub bound_type : ℕ → Option Ty → Answer
bound_type p none = refused 9 p
bound_type p (some t) = typed t

-- ---- the type of each form, given its operands' types

-- "`true`, `false`: Bool. `undef`: Void. `int n`: Int. `self`: the context class. `var i`: its binding"; "`all c`: `S(#c)`"
unfoldable pub leaf_type : ℕ → Leaf → Env Ty → Answer
leaf_type p (truth b) Γ = typed Boolean
leaf_type p undef Γ = typed void
leaf_type p (number x) Γ = typed (simple (number_type x))
leaf_type p self Γ = bound_type p (Γ 0)
leaf_type p (var i) Γ = bound_type p (Γ i)
leaf_type p (all c) Γ = typed (around (exactly set) (Class c))

-- "e of type Any, of c, or of a class above or below c (another class is 10, any other type 11)"
unfoldable pub cast_type : Schema → ℕ → ℕ → Ty → Answer
cast_type s p c void = refused 11 p
cast_type s p c (simple any) = typed (Class c)
cast_type s p c (simple boolean) = refused 11 p
cast_type s p c (simple integer) = refused 11 p
cast_type s p c (simple real) = refused 11 p
cast_type s p c (simple (class d)) =
    if subtype s.parent (Class d) (Class c) || subtype s.parent (Class c) (Class d) then typed (Class c) else refused 10 p
cast_type s p c (around l t) = refused 11 p

-- forms with one strict operand, of type t
unfoldable pub unary_type : Schema → ℕ → Unary → Ty → Answer
unary_type s p negation t = below s p t Boolean (typed Boolean)
unary_type s p size_of t = on_collection t (refused 11 p) (λ l u. typed Integer)
-- "that kind around the member type"
unary_type s p (convert k) t = on_collection t (refused 11 p) (λ l u. wrap p (exactly k) u)
unary_type s p (cast_to c) t = cast_type s p c t

-- t and u are below w; the type is r
unfoldable pub both_below : Schema → ℕ → Ty → Ty → Ty → Ty → Answer
both_below s p w r t u = below s p t w (below s p u w (typed r))

-- document 02, F-8: "Such a node has type Real"
unfoldable pub scale_type : Scale → Ty
scale_type integers = Integer
scale_type reals = Real

unfoldable pub scaled : ℕ → (Scale → Ty) → Scale → Typed
scaled p type x = record { answer = typed (type x); marks = (p, of_numbers x) ∷ [] }

-- "a node whose operands are both typed below Int goes as before (typing marks it)", any other by Reals; both are below Real, else 11
unfoldable pub on_numbers : Schema → ℕ → (Scale → Ty) → Ty → Ty → Typed
on_numbers s p type t u =
    if subtype s.parent t Integer && subtype s.parent u Integer then scaled p type integers
    else if subtype s.parent t Real && subtype s.parent u Real then scaled p type reals
    else pure (refused 11 p)

-- "`includes s e` (common type with the member type exists): Bool"
unfoldable pub includes_type : Schema → ℕ → Ty → Ty → Answer
includes_type s p t u = on_collection t (refused 11 p) (λ l m. common p (join s.parent m u) (λ w. typed Boolean))

-- `including`: "kinds S, Q, B only ..; the kind around the common member type"
unfoldable pub including_type : Schema → ℕ → Ty → Ty → Answer
including_type s p t u =
    on_collection t (refused 11 p) (λ l m. on_kind l (refused 11 p) (λ k. common p (join s.parent m u) (wrap p (exactly k))))

-- `union`: "kinds S, Q, B only, equal for union; the kind around the common member type"
unfoldable pub union_type : Schema → ℕ → Ty → Ty → Answer
union_type s p t u =
    on_collection t (refused 11 p) (λ l m. on_kind l (refused 11 p) (λ j.
    on_collection u (refused 11 p) (λ r n. on_kind r (refused 11 p) (λ k.
    if same_kind j k then common p (join s.parent m n) (wrap p (exactly j)) else refused 11 p))))

-- forms with two strict operands, of types t and u
unfoldable pub binary_type : Schema → ℕ → Binary → Ty → Ty → Typed
-- "`eq e e`: common type exists; Bool"
binary_type s p equal t u = pure (common p (join s.parent t u) (λ w. typed Boolean))
binary_type s p less t u = on_numbers s p (λ x. Boolean) t u
binary_type s p (arith o) t u = on_numbers s p scale_type t u
binary_type s p (divide o) t u = pure (both_below s p Integer Integer t u)
binary_type s p over t u = pure (both_below s p Real Real t u)
binary_type s p includes t u = pure (includes_type s p t u)
binary_type s p including t u = pure (including_type s p t u)
binary_type s p union t u = pure (union_type s p t u)

-- "`if e b b`: e below Bool; the common type": 11, then 10
unfoldable pub conditional_type : Schema → ℕ → Ty → Ty → Ty → Answer
conditional_type s p c t u = below s p c Boolean (common p (join s.parent t u) typed)

-- the row found, which is marked; 12, "no attribute"
unfoldable pub row_type : Schema → ℕ → (ℕ → Mark) → (Ty → Answer) → Option ℕ → Typed
row_type s p mark k none = pure (refused 12 p)
row_type s p mark k (some i) = record { answer = k (s.row i).type; marks = (p, mark i) ∷ [] }

-- document 02, F-4: "a Sequence of the row's type if s is typed `Q(..)`, otherwise a Bag"
unfoldable pub collect_kind : Letter → Kind
collect_kind collection = bag
collect_kind (exactly set) = bag
collect_kind (exactly sequence) = sequence
collect_kind (exactly bag) = bag

-- `attr`: "e of class type; the nearest declaration upward from that static class is the row read"; `collect`: "s has a class as its
-- member type, and the row is found from that class". "Numbers 11, 12, 13 and 17 apply as they do for `attr` and `coll`"
unfoldable pub attribute_type : Schema → ℕ → Access → ℕ → Ty → Typed
attribute_type s p of_object name t = on_class t (pure (refused 11 p)) (λ c. row_type s p of_row typed (row_read s c name))
attribute_type s p of_members name t =
    on_collection t (pure (refused 11 p)) (λ l m. on_class m (pure (refused 11 p)) (λ c.
    row_type s p (of_rows (collect_kind l)) (wrap p (exactly (collect_kind l))) (row_read s c name)))

-- document 02, F-13: `call` "takes e of class c or below (else 11)", which Void is not, and "has type T"
unfoldable pub call_type : Schema → ℕ → ℕ → Ty → Ty → Answer
call_type s p c t u = on_class u (refused 11 p) (λ d. below s p (Class d) (Class c) (typed t))

-- ---- each form over its operands' typings

unfoldable pub leaf_typing : ℕ → Leaf → Typing
leaf_typing p l Γ = pure (leaf_type p l Γ)

unfoldable pub unary_typing : Schema → ℕ → Unary → Typing → Typing
unary_typing s p op f Γ = and_then (f Γ) (λ t. pure (unary_type s p op t))

unfoldable pub binary_typing : Schema → ℕ → Binary → Typing → Typing → Typing
binary_typing s p op f g Γ = and_then (f Γ) (λ t. and_then (g Γ) (λ u. binary_type s p op t u))

-- "`and`, `or`, `not`: operands below Bool; Bool"
unfoldable pub connective_typing : Schema → ℕ → Typing → Typing → Typing
connective_typing s p f g Γ = and_then (f Γ) (λ t. and_then (g Γ) (λ u. pure (both_below s p Boolean Boolean t u)))

unfoldable pub is_undef_typing : Typing → Typing
is_undef_typing f Γ = and_then (f Γ) (λ t. pure (typed Boolean))

unfoldable pub conditional_typing : Schema → ℕ → Typing → Typing → Typing → Typing
conditional_typing s p f g h Γ =
    and_then (f Γ) (λ c. and_then (g Γ) (λ t. and_then (h Γ) (λ u. pure (conditional_type s p c t u))))

-- "`let i e b`: i has e's type in b"
unfoldable pub let_typing : ℕ → Typing → Typing → Typing
let_typing i f g Γ = and_then (f Γ) (λ t. g (extend Γ i t))

unfoldable pub attribute_typing : Schema → ℕ → Access → ℕ → Typing → Typing
attribute_typing s p x name f Γ = and_then (f Γ) (attribute_type s p x name)

-- the body is typed with its definition, not here: definitions "are typed in order before the rules"
unfoldable pub call_typing : Schema → ℕ → ℕ → Ty → Typing → Typing
call_typing s p c t f Γ = and_then (f Γ) (λ u. pure (call_type s p c t u))

-- "a form that binds variables checks its other operands (11) before its body is typed"; "b below Bool; Bool"
unfoldable pub quantified_typing : Schema → ℕ → ℕ → Typing → Typing → Typing
quantified_typing s p i f g Γ =
    and_then (f Γ) (λ t. on_collection t (pure (refused 11 p)) (λ l m.
    and_then (g (extend Γ i m)) (λ b. pure (below s p b Boolean (typed Boolean)))))

-- `iter`: source and start are typed and checked (11) before the body is typed; "e and b below T; T"
unfoldable pub iterate_typing : Schema → ℕ → ℕ → ℕ → Ty → Typing → Typing → Typing → Typing
iterate_typing s p i j t f g h Γ =
    and_then (f Γ) (λ c. and_then (g Γ) (λ e. on_collection c (pure (refused 11 p)) (λ l m.
    if subtype s.parent e t
    then and_then (h (extend (extend Γ i m) j t)) (λ b. pure (below s p b t (typed t)))
    else pure (refused 11 p))))

-- `coll`: "k of the members' common type (Void if none)"
unfoldable pub no_operand_typing : Typing
no_operand_typing Γ = pure (typed void)

-- all members are typed before their common type is taken (10)
unfoldable pub operand_typing : Schema → ℕ → Typing → Typing → Typing
operand_typing s p f g Γ = and_then (f Γ) (λ t. and_then (g Γ) (λ u. pure (common p (join s.parent t u) typed)))

unfoldable pub assemble_typing : ℕ → Kind → Typing → Typing
assemble_typing p k f Γ = and_then (f Γ) (λ t. pure (wrap p (exactly k) t))

-- a node's refusals name that node
unfoldable mutual
  pub typing : Schema → Expr → Typing
  typing s (node p f) = form_typing s p f

  pub form_typing : Schema → ℕ → Form → Typing
  form_typing s p (leaf l) = leaf_typing p l
  form_typing s p (unary op a) = unary_typing s p op (typing s a)
  form_typing s p (binary op a b) = binary_typing s p op (typing s a) (typing s b)
  form_typing s p (connective c a b) = connective_typing s p (typing s a) (typing s b)
  form_typing s p (is_undef a) = is_undef_typing (typing s a)
  form_typing s p (conditional c a b) = conditional_typing s p (typing s c) (typing s a) (typing s b)
  form_typing s p (let_in i a b) = let_typing i (typing s a) (typing s b)
  form_typing s p (attribute x name a) = attribute_typing s p x name (typing s a)
  form_typing s p (call c t a b) = call_typing s p c t (typing s a)
  form_typing s p (quantified q i a b) = quantified_typing s p i (typing s a) (typing s b)
  form_typing s p (iterate i j t a e b) = iterate_typing s p i j t (typing s a) (typing s e) (typing s b)
  form_typing s p (assemble k es) = assemble_typing p k (operands_typing s p es)

  pub operands_typing : Schema → ℕ → Operands → Typing
  operands_typing s p no_operand = no_operand_typing
  operands_typing s p (operand e es) = operand_typing s p (typing s e) (operands_typing s p es)

-- a rule with context class c: "`self`: the context class"
unfoldable pub type_rule : Schema → ℕ → Expr → Typed
type_rule s c e = typing s e (start (Class c))

-- a tree's root
unfoldable pub root : Expr → ℕ
root (node p f) = p

-- document 02, F-13: "`self` has class c", no other variable is bound; "A body must be below T, else 11 at its root"
unfoldable pub type_definition : Schema → Definition → Typed
type_definition s d =
    and_then (type_rule s d.context d.body) (λ t. pure (below s (root d.body) t d.type (typed d.type)))
