-- What is proved of types, values, evaluation and typing, besides demand 3 (Soundness.antt): the statements. proofs/ has the proofs.
use Rattle.std.specs.Prelude.{◌≡◌, ◌↔◌, Bool, true, List, [], ◌∷◌, ◌++◌, T}
use Rattle.std.proofs.Math.Option.{none, some}
use Prim.Native.Nat.{ℕ, ◌≤◌, ◌<◌, Ordering}
use Rattle.laws.specs.Lists.{member}
use Rattle.laws.specs.Orders.{TotalOrder}
use Rattle.reals.specs.Reals.{Number, kept}
use Rattle.ocl.specs.Types.{Kind, set, sequence, bag, Ty, Parents, Subtype, subtype, join}
use Rattle.ocl.specs.Values.{Value, bool, num, obj, coll, Values, nil, cons, every_part, every_parts, order, same, has, add, add_all}
use Rattle.ocl.specs.Model.{Schema, Model, belongs}
use Rattle.ocl.specs.Environment.{Env}
use Rattle.ocl.specs.Forms.{Leaf, truth, undef, number, self, var, all, Expr, node, Form, leaf, unary, binary, connective, is_undef, conditional, let_in, attribute, call, quantified, iterate, assemble, Operands, no_operand, operand}
use Rattle.ocl.specs.Marks.{Scale, Mark, of_row, of_rows, of_numbers, kind_marked, Marks}
use Rattle.ocl.specs.Typing.{refused, typing}
use Rattle.ocl.specs.Operations.{value, instances}
use Rattle.ocl.specs.Evaluation.{evaluation, evaluate_rule}

-- ---- what the statements speak of: the nodes and literals of a tree, the numbers of a value

-- the numbers of a tree's own nodes, operands first; a called body's nodes are its definition's
unfoldable mutual
  pub numbers : Expr → List ℕ
  numbers (node n f) = numbers_in f ++ (n ∷ [])

  pub numbers_in : Form → List ℕ
  numbers_in (leaf l) = []
  numbers_in (unary op a) = numbers a
  numbers_in (binary op a b) = numbers a ++ numbers b
  numbers_in (connective c a b) = numbers a ++ numbers b
  numbers_in (is_undef a) = numbers a
  numbers_in (conditional c a b) = numbers c ++ (numbers a ++ numbers b)
  numbers_in (let_in i a b) = numbers a ++ numbers b
  numbers_in (attribute x name a) = numbers a
  numbers_in (call c t a b) = numbers a
  numbers_in (quantified q i a b) = numbers a ++ numbers b
  numbers_in (iterate i j t a e b) = numbers a ++ (numbers e ++ numbers b)
  numbers_in (assemble k es) = numbers_of es

  pub numbers_of : Operands → List ℕ
  numbers_of no_operand = []
  numbers_of (operand e es) = numbers e ++ numbers_of es

-- a tree's numbers that are written, operands from left to right, with those of called bodies
unfoldable pub leaf_literals : Leaf → List Number
leaf_literals (truth b) = []
leaf_literals undef = []
leaf_literals (number x) = x ∷ []
leaf_literals self = []
leaf_literals (var i) = []
leaf_literals (all c) = []

unfoldable mutual
  pub literals : Expr → List Number
  literals (node n f) = literals_in f

  pub literals_in : Form → List Number
  literals_in (leaf l) = leaf_literals l
  literals_in (unary op a) = literals a
  literals_in (binary op a b) = literals a ++ literals b
  literals_in (connective c a b) = literals a ++ literals b
  literals_in (is_undef a) = literals a
  literals_in (conditional c a b) = literals c ++ (literals a ++ literals b)
  literals_in (let_in i a b) = literals a ++ literals b
  literals_in (attribute x name a) = literals a
  literals_in (call c t a b) = literals a ++ literals b
  literals_in (quantified q i a b) = literals a ++ literals b
  literals_in (iterate i j t a e b) = literals a ++ (literals e ++ literals b)
  literals_in (assemble k es) = literals_of es

  pub literals_of : Operands → List Number
  literals_of no_operand = []
  literals_of (operand e es) = literals e ++ literals_of es

-- of a value that is no collection: an Integer in range, or a binary64 number that is no such Integer
unfoldable pub number_kept : Value → Bool
number_kept (bool b) = true
number_kept (num x) = kept x
number_kept (obj o) = true
number_kept (coll k vs) = true

-- every number in a value, at every depth
unfoldable pub numbers_kept : Value → Bool
numbers_kept v = every_part number_kept v

unfoldable pub all_kept : Values → Bool
all_kept vs = every_parts number_kept vs

-- ---- types, of any parents that are smaller classes, as reading makes sure

abbrev pub Small : Parents → Type 0
Small parent = (c p : ℕ) → parent c ≡ some p → p < c

pub record Subtyping (parent : Parents) : Type 0 where
  -- the test says yes exactly of what the relation holds of
  pub test_exact : (t u : Ty) → T (subtype parent t u) ↔ Subtype parent t u
  -- and the relation is a partial order
  pub same_below : (t : Ty) → Subtype parent t t
  pub goes_on : (t u w : Ty) → Subtype parent t u → Subtype parent u w → Subtype parent t w
  pub both_ways : (t u : Ty) → Subtype parent t u → Subtype parent u t → t ≡ u

abbrev pub SubtypingLaw : Type 0
SubtypingLaw = (parent : Parents) → Small parent → Subtyping parent

pub record CommonType (parent : Parents) (t u : Ty) : Type 0 where
  -- the common type is an upper bound, and below each upper bound
  pub upper : (w : Ty) → join parent t u ≡ some w → Subtype parent t w × Subtype parent u w
  pub least : (w x : Ty) → join parent t u ≡ some w → Subtype parent t x → Subtype parent u x → Subtype parent w x
  -- where there is an upper bound, there is a common type
  pub exists : (x : Ty) → Subtype parent t x → Subtype parent u x → (w : Ty) × (join parent t u ≡ some w)
  -- and none is there exactly where no type is above both
  pub none_exact : (join parent t u ≡ none) ↔ ((x : Ty) → Subtype parent t x → Subtype parent u x → ⊥)
  -- it does not matter which of the two comes first
  pub either_way : join parent t u ≡ join parent u t

abbrev pub CommonTypeLaw : Type 0
CommonTypeLaw = (parent : Parents) → Small parent → (t u : Ty) → CommonType parent t u

-- a value that belongs to a type belongs to every type above it
abbrev pub BelongsUpLaw : Type 0
BelongsUpLaw = (s : Model) → Small s.parent → (t u : Ty) (v : Value) → Subtype s.parent t u → T (belongs s t v) → T (belongs s u v)

-- ---- values: which are one, and their order

-- v is one of the members
pub data Member (v : Value) : Values → Type 0 where
  first : {vs : Values} → Member v (cons v vs)
  later : {w : Value} {vs : Values} → Member v vs → Member v (cons w vs)

-- the tests of `eq` and `includes` are exact, and of two different values one comes before the other, where numbers are kept, as they
-- are in every value that is read or that evaluation ends in (Soundness.antt, KeptEnds)
pub record ValueOrder : Type 0 where
  pub same_exact : (v w : Value) → T (numbers_kept v) → T (numbers_kept w) → T (same v w) ↔ (v ≡ w)
  pub has_exact : (v : Value) (vs : Values) → T (numbers_kept v) → T (all_kept vs) → T (has v vs) ↔ Member v vs
  pub total : TotalOrder (λ v. T (numbers_kept v)) order

-- ---- formed values: each Set in them strictly ascending, each Bag ascending, each Sequence as it comes

-- what a kind asks of a member and the next one, by how the order compares them
pub data InOrder : Kind → Ordering → Type 0 where
  ascends : {k : Kind} → InOrder k Ordering.lt
  repeats : InOrder bag Ordering.eq
  anyhow : {o : Ordering} → InOrder sequence o

-- each member and the next one are as the kind asks
pub data Sorted (k : Kind) : Values → Type 0 where
  sorted_nil : Sorted k nil
  sorted_one : {v : Value} → Sorted k (cons v nil)
  sorted_cons : {v w : Value} {ws : Values} → InOrder k (order v w) → Sorted k (cons w ws) → Sorted k (cons v (cons w ws))

mutual
  pub data Formed : Value → Type 0 where
    formed_bool : {b : Bool} → Formed (bool b)
    formed_num : {x : Number} → Formed (num x)
    formed_obj : {o : ℕ} → Formed (obj o)
    formed_coll : {k : Kind} {vs : Values} → Sorted k vs → FormedAll vs → Formed (coll k vs)

  pub data FormedAll : Values → Type 0 where
    formed_nil : FormedAll nil
    formed_cons : {v : Value} {vs : Values} → Formed v → FormedAll vs → FormedAll (cons v vs)

pub record Adding : Type 0 where
  -- members that are as their kind asks stay so, whatever is added
  pub add_sorted : (k : Kind) (v : Value) (vs : Values) → Sorted k vs → Sorted k (add k v vs)
  pub add_all_sorted : (k : Kind) (vs ws : Values) → Sorted k ws → Sorted k (add_all k vs ws)
  -- so a collection that is gathered from formed members is formed
  pub gathered : (k : Kind) (vs : Values) → FormedAll vs → Formed (coll k (add_all k vs nil))
  -- the instances of a class come in ascending order, each once
  pub instances_sorted : (s : Model) (c n : ℕ) → Sorted set (instances s c n)

-- each variable's value is formed
pub record FormedEnv (ρ : Env Value) : Type 0 where
  pub bound_formed : (i : ℕ) (v : Value) → ρ i ≡ some v → Formed v

-- each attribute's value is
pub record FormedModel (s : Model) : Type 0 where
  pub stored_formed : (o i : ℕ) (v : Value) → s.value_of o i ≡ some v → Formed v

-- every value that evaluation ends in is formed: typed or not, with any marks, from any number of steps
pub record FormedEnds (s : Model) (mark : ℕ → Mark) (e : Expr) : Type 0 where
  pub from : (ρ : Env Value) → FormedEnv ρ → (n m : ℕ) (v : Value) → evaluation s mark e ρ n ≡ value v m → Formed v
  -- so a rule's is
  pub of_rule : (o m : ℕ) (v : Value) → evaluate_rule s mark e o ≡ value v m → Formed v

abbrev pub FormedEndsLaw : Type 0
FormedEndsLaw = (s : Model) → FormedModel s → (mark : ℕ → Mark) (e : Expr) → FormedEnds s mark e

-- ---- typing: what it refuses, and what it marks

-- typing's refusals are numbered 9 to 13, and name a node
pub record Refusal (nodes : List ℕ) (n p : ℕ) : Type 0 where
  pub low : 9 ≤ n
  pub high : n ≤ 13
  pub placed : T (member p nodes)

-- a mark names no row, or one of the first n
pub data RowBelow (n : ℕ) : Mark → Type 0 where
  row_below : {i : ℕ} → i < n → RowBelow n (of_row i)
  rows_below : {k : Kind} {i : ℕ} → i < n → RowBelow n (of_rows k i)
  no_row_lem : {x : Scale} → RowBelow n (of_numbers x)

-- a mark is at a node, its row is one of the schema, and its kind is none that drops repeats
pub record MarkAt (s : Schema) (nodes : List ℕ) (p : ℕ) (m : Mark) : Type 0 where
  pub placed : T (member p nodes)
  pub is_row : RowBelow s.row_count m
  pub no_set : kind_marked m ≡ set → ⊥

-- of each mark, its node first
pub data EachMark (P : ℕ → Mark → Type 0) : Marks → Type 0 where
  no_mark : EachMark P []
  mark_then : {p : ℕ} {x : Mark} {m : Marks} → P p x → EachMark P m → EachMark P ((p, x) ∷ m)

-- a table of marks that has these
abbrev pub Agree : (ℕ → Mark) → Marks → Type 0
Agree mark m = EachMark (λ p x. mark p ≡ x) m

-- refusals and marks are at nodes of the tree that is typed; a refusal leaves the marks made before it
pub record TypingPlaces (s : Schema) (e : Expr) (Γ : Env Ty) : Type 0 where
  pub refusals : (n p : ℕ) → (typing s e Γ).answer ≡ refused n p → Refusal (numbers e) n p
  pub marked : EachMark (MarkAt s (numbers e)) (typing s e Γ).marks

abbrev pub TypingPlacesLaw : Type 0
TypingPlacesLaw = (s : Schema) (e : Expr) (Γ : Env Ty) → TypingPlaces s e Γ
