-- Document 02, F-11: what it means that undefined arose at a node and a step, apart from how it is found: the operands that a node ran,
-- in their order, and the first of them that came out undefined. The laws say that Trace.antt finds it, and that there is one alone.
use Rattle.std.specs.Prelude.{◌≡◌, Bool, ℕ, ◌+◌, ◌<◌, ◌≤◌, T}
use Rattle.std.specs.Bool.{beq}
use mathlib.Core.List.{List, [], ◌∷◌, Memᴰ}
use Rattle.std.specs.Prelude.{if◌then◌else◌}
use Rattle.laws.specs.Lists.{member, Each}
use Rattle.ocl.specs.Types.{class}
use Rattle.ocl.specs.Values.{Value, bool, num, obj, coll, Values, nil, cons}
use Rattle.ocl.specs.Model.{Model, is_a}
use Rattle.ocl.specs.Environment.{Env, extend, start}
use Rattle.ocl.specs.Forms.{Quantifier, undef, var, cast_to, divide, Division, over, Access, Expr, node, Form, leaf, unary, binary, connective, is_undef, conditional, let_in, attribute, call, quantified, iterate, assemble, Operands, no_operand, operand, Definition, calls}
use Rattle.ocl.specs.Marks.{Mark}
use Rattle.ocl.specs.Operations.{Outcome, value, undefined, stuck, stop, left_fits}
use Rattle.ocl.specs.Evaluation.{decides, ends_at, evaluation}
use Rattle.ocl.specs.Laws.{numbers}
use Rattle.ocl.specs.Trace.{undefined_t, untraced, trace}

-- ---- the runs of a node's operands

-- a run: the tree that is run, its variables, and the steps begun before it
pub record Begun : Type 0 where
  pub root : Expr
  pub env : Env Value
  pub before : ℕ

abbrev pub begun : Expr → Env Value → ℕ → Begun
begun e ρ n = record { root = e; env = ρ; before = n }

unfoldable pub outcome_from : Model → (ℕ → Mark) → Begun → Outcome
outcome_from s mark b = evaluation s mark b.root b.env b.before

-- what runs after a value
abbrev pub after_value : Outcome → (Value → ℕ → List Begun) → List Begun
after_value (value v n) f = f v n
after_value (undefined n) f = []
after_value stuck f = []
after_value (stop c n) f = []

-- what runs after a truth value, unless it is the one that decides, and after undefined
abbrev pub unless_decided : Bool → Outcome → (ℕ → List Begun) → List Begun
unless_decided d (value (bool x) n) f = if beq x d then [] else f n
unless_decided d (value (num x) n) f = []
unless_decided d (value (obj o) n) f = []
unless_decided d (value (coll k vs) n) f = []
unless_decided d (undefined n) f = f n
unless_decided d stuck f = []
unless_decided d (stop c n) f = []

-- what runs of two branches, with an object, and with members
abbrev pub branch_of : Value → List Begun → List Begun → List Begun
branch_of (bool b) x y = if b then x else y
branch_of (num z) x y = []
branch_of (obj o) x y = []
branch_of (coll k vs) x y = []

abbrev pub object_of : Value → (ℕ → List Begun) → List Begun
object_of (bool b) f = []
object_of (num x) f = []
object_of (obj o) f = f o
object_of (coll k vs) f = []

abbrev pub members_of : Value → (Values → List Begun) → List Begun
members_of (bool b) f = []
members_of (num x) f = []
members_of (obj o) f = []
members_of (coll k vs) f = f vs

-- the bodies of `forAll` and `exists`, up to the first that decides
unfoldable pub bodies : Model → (ℕ → Mark) → Quantifier → ℕ → Expr → Env Value → Values → ℕ → List Begun
bodies s mark q i b ρ nil n = []
bodies s mark q i b ρ (cons v vs) n = begun b (extend ρ i v) n
    ∷ unless_decided (ends_at q) (evaluation s mark b (extend ρ i v) n) (λ m. bodies s mark q i b ρ vs m)

-- those of `iter`, up to the first that is undefined
unfoldable pub turns : Model → (ℕ → Mark) → ℕ → ℕ → Expr → Env Value → Values → Value → ℕ → List Begun
turns s mark i j b ρ nil a n = []
turns s mark i j b ρ (cons v vs) a n = begun b (extend (extend ρ i v) j a) n
    ∷ after_value (evaluation s mark b (extend (extend ρ i v) j a) n) (λ c m. turns s mark i j b ρ vs c m)

unfoldable pub member_runs : Model → (ℕ → Mark) → Operands → Env Value → ℕ → List Begun
member_runs s mark no_operand ρ n = []
member_runs s mark (operand e es) ρ n = begun e ρ n ∷ after_value (evaluation s mark e ρ n) (λ v m. member_runs s mark es ρ m)

-- the operands that node p runs, in their order; n steps have begun, its own among them. "The body is the call's operand" (F-13)
unfoldable pub runs_of : Model → (ℕ → Mark) → ℕ → Form → Env Value → ℕ → List Begun
runs_of s mark p (leaf l) ρ n = []
runs_of s mark p (unary op a) ρ n = begun a ρ n ∷ []
runs_of s mark p (binary op a b) ρ n = begun a ρ n
    ∷ after_value (evaluation s mark a ρ n) (λ v m. if left_fits (mark p) op v then begun b ρ m ∷ [] else [])
runs_of s mark p (connective c a b) ρ n = begun a ρ n
    ∷ unless_decided (decides c) (evaluation s mark a ρ n) (λ m. begun b ρ m ∷ [])
runs_of s mark p (is_undef a) ρ n = begun a ρ n ∷ []
runs_of s mark p (conditional c a b) ρ n = begun c ρ n
    ∷ after_value (evaluation s mark c ρ n) (λ v m. branch_of v (begun a ρ m ∷ []) (begun b ρ m ∷ []))
runs_of s mark p (let_in i a b) ρ n = begun a ρ n
    ∷ after_value (evaluation s mark a ρ n) (λ v m. begun b (extend ρ i v) m ∷ [])
runs_of s mark p (attribute x name a) ρ n = begun a ρ n ∷ []
runs_of s mark p (call c t a b) ρ n = begun a ρ n
    ∷ after_value (evaluation s mark a ρ n) (λ v m. object_of v (λ o. if is_a s o (class c) then begun b (start (obj o)) m ∷ [] else []))
runs_of s mark p (quantified q i a b) ρ n = begun a ρ n
    ∷ after_value (evaluation s mark a ρ n) (λ v m. members_of v (λ vs. bodies s mark q i b ρ vs m))
runs_of s mark p (iterate i j t a e b) ρ n = begun a ρ n
    ∷ after_value (evaluation s mark a ρ n) (λ v m. members_of v (λ vs. begun e ρ m
    ∷ after_value (evaluation s mark e ρ m) (λ x l. turns s mark i j b ρ vs x l)))
runs_of s mark p (assemble k es) ρ n = member_runs s mark es ρ n

-- ---- undefined arose at node q, which began at step j

-- the run came out undefined, or defined
pub record Undefined (s : Model) (mark : ℕ → Mark) (b : Begun) : Type 0 where
  pub steps : ℕ
  pub is : outcome_from s mark b ≡ undefined steps

pub record Defined (s : Model) (mark : ℕ → Mark) (b : Begun) : Type 0 where
  pub result : Value
  pub steps : ℕ
  pub is : outcome_from s mark b ≡ value result steps

-- b is the first of the runs that came out undefined
pub data FirstUndefined (s : Model) (mark : ℕ → Mark) (b : Begun) : List Begun → Type 0 where
  this_one : {bs : List Begun} → Undefined s mark b → FirstUndefined s mark b (b ∷ bs)
  after_it : {c : Begun} {bs : List Begun} → Defined s mark c → FirstUndefined s mark b bs → FirstUndefined s mark b (c ∷ bs)

-- "The node named there began at that step, came out undefined, and had every operand it ran defined. From it to the root each node
-- came out undefined": a run that came out undefined names itself where every operand was defined, and else goes on from the first
-- that was not. `and` and `or` alone may run two of them, the left one first; of the bodies of `forAll` and `exists` the first one
-- counts; a `let` runs its body only where its e is defined
pub data Arose (s : Model) (mark : ℕ → Mark) : Expr → Env Value → ℕ → ℕ → ℕ → Type 0 where
  here : {p n : ℕ} {f : Form} {ρ : Env Value} → Undefined s mark (begun (node p f) ρ n)
      → Each (Defined s mark) (runs_of s mark p f ρ (n + 1)) → Arose s mark (node p f) ρ n p (n + 1)
  below : {p n q j : ℕ} {f : Form} {ρ : Env Value} (b : Begun) → Undefined s mark (begun (node p f) ρ n)
      → FirstUndefined s mark b (runs_of s mark p f ρ (n + 1)) → Arose s mark b.root b.env b.before q j → Arose s mark (node p f) ρ n q j

-- ---- the laws

pub record Origin (s : Model) (mark : ℕ → Mark) (e : Expr) (ρ : Env Value) (n : ℕ) : Type 0 where
  -- the outcome is evaluation's
  pub same_outcome : untraced (trace s mark e ρ n) ≡ evaluation s mark e ρ n
  -- and undefined arose where it says
  pub arose : (m q j : ℕ) → trace s mark e ρ n ≡ undefined_t m q j → Arose s mark e ρ n q j

abbrev pub OriginLaw : Type 0
OriginLaw = (s : Model) (mark : ℕ → Mark) (e : Expr) (ρ : Env Value) (n : ℕ) → Origin s mark e ρ n

-- and nowhere else
abbrev pub OneOrigin : Type 0
OneOrigin =
    (s : Model) (mark : ℕ → Mark) (e : Expr) (ρ : Env Value) (n q j q' j' : ℕ) → Arose s mark e ρ n q j → Arose s mark e ρ n q' j' → (q ≡ q') × (j ≡ j')

-- q is a node of the tree, or of a definition that it reaches (F-13)
pub data NodeOf (e : Expr) (q : ℕ) : Type 0 where
  own_node : T (member q (numbers e)) → NodeOf e q
  reached_node : (d : Definition) → Memᴰ d (calls e) → T (member q (numbers d.body)) → NodeOf e q

abbrev pub OriginPlace : Type 0
OriginPlace = (s : Model) (mark : ℕ → Mark) (e : Expr) (ρ : Env Value) (n q j : ℕ) → Arose s mark e ρ n q j → NodeOf e q

-- a value, or undefined, after so many steps
pub data After (n : ℕ) : Outcome → Type 0 where
  value_after : {v : Value} → After n (value v n)
  undefined_after : After n (undefined n)

-- runs one after the other, the first after n steps, each right after the one before it, and after the last one m steps
pub data InTurn (s : Model) (mark : ℕ → Mark) : ℕ → List Begun → ℕ → Type 0 where
  no_more : {n : ℕ} → InTurn s mark n [] n
  then_next : {n k m : ℕ} {b : Begun} {bs : List Begun} → b.before ≡ n → After k (outcome_from s mark b) → InTurn s mark k bs m
      → InTurn s mark n (b ∷ bs) m

-- the steps of a node that came out with a value or undefined are its own beginning and then its operands' runs, and nothing else: so no
-- operand that ran is left out, and each began where it is said to
abbrev pub RunsLaw : Type 0
RunsLaw =
    (s : Model) (mark : ℕ → Mark) (p : ℕ) (f : Form) (ρ : Env Value) (n m : ℕ) → After m (evaluation s mark (node p f) ρ n)
    → InTurn s mark (n + 1) (runs_of s mark p f ρ (n + 1)) m

-- so the node began within the run's own steps
abbrev pub OriginStep : Type 0
OriginStep =
    (s : Model) (mark : ℕ → Mark) (e : Expr) (ρ : Env Value) (n m q j : ℕ) → evaluation s mark e ρ n ≡ undefined m → Arose s mark e ρ n q j
    → (n < j) × (j ≤ m)

-- the forms at which undefined can arise: `undef`, `attr` and `collect` without a value, `as`, and a zero divisor
pub data Source : Form → Type 0 where
  from_undef : Source (leaf undef)
  from_attribute : {x : Access} {name : ℕ} {a : Expr} → Source (attribute x name a)
  from_cast : {c : ℕ} {a : Expr} → Source (unary (cast_to c) a)
  from_division : {o : Division} {a b : Expr} → Source (binary (divide o) a b)
  from_over : {a b : Expr} → Source (binary over a b)

abbrev pub SourceLaw : Type 0
SourceLaw =
    (s : Model) (mark : ℕ → Mark) (p : ℕ) (f : Form) (ρ : Env Value) (n : ℕ) → Undefined s mark (begun (node p f) ρ n)
    → Each (Defined s mark) (runs_of s mark p f ρ (n + 1)) → Source f

-- F-11 would go on "from a `var`" to "its `let`'s e". Since `let` is strict, no `var` comes out undefined, and where the e does no
-- body has run
pub record Bound (s : Model) (mark : ℕ → Mark) : Type 0 where
  pub no_variable : (p i n : ℕ) (ρ : Env Value) → Undefined s mark (begun (node p (leaf (var i))) ρ n) → ⊥
  pub no_body : (p i n : ℕ) (a b : Expr) (ρ : Env Value) → Undefined s mark (begun a ρ n) → runs_of s mark p (let_in i a b) ρ n ≡ begun a ρ n ∷ []
