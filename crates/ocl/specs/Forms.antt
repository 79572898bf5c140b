-- Document 01, The forms and their typing: a rule as a tree of nodes. Evaluation: its reach. Document 02, F-13: named definitions.
use Rattle.std.specs.Prelude.{Bool, List, [], ◌∷◌, ◌++◌, ℕ, suc, ◌+◌, ◌*◌, max}
use Rattle.reals.specs.Reals.{Number}
use Rattle.ocl.specs.Types.{Kind, Ty}

-- document 02, F-8: "`plus`, `minus`, `times` and `less` take both kinds", Integers and Reals
pub data Arith : Type 0 where
  plus minus times : Arith

-- `div`, `mod`, of Integers alone
pub data Division : Type 0 where
  div modulo : Division

-- `and`, `or`
pub data Connective : Type 0 where
  and or : Connective

-- `forAll`, `exists`
pub data Quantifier : Type 0 where
  for_all exists : Quantifier

-- an attribute of one object (`attr`), or of each member of a collection (`collect`: document 02, F-4)
pub data Access : Type 0 where
  of_object of_members : Access

-- forms with no operand: `true` and `false`, `undef`, `int n` and `real r`, `self`, `var i`, `all c`
pub data Leaf : Type 0 where
  truth : Bool → Leaf
  undef : Leaf
  number : Number → Leaf
  self : Leaf
  var : ℕ → Leaf
  all : ℕ → Leaf

-- forms with one strict operand: `not`, `size`, `asSet` `asSequence` `asBag`, `as e c`
pub data Unary : Type 0 where
  negation : Unary
  size_of : Unary
  convert : Kind → Unary
  cast_to : ℕ → Unary

-- forms with two strict operands: `eq`, `less`, arithmetic, `over` (F-8), `includes`, `including`, `union`
pub data Binary : Type 0 where
  equal : Binary
  less : Binary
  arith : Arith → Binary
  divide : Division → Binary
  over : Binary
  includes : Binary
  including : Binary
  union : Binary

mutual
  -- a node: its number, counted through all definitions and rules of a sheet, and its form
  pub data Expr : Type 0 where
    node : ℕ → Form → Expr

  pub data Form : Type 0 where
    leaf : Leaf → Form
    unary : Unary → Expr → Form
    binary : Binary → Expr → Expr → Form
    connective : Connective → Expr → Expr → Form
    is_undef : Expr → Form
    -- `if e b b`
    conditional : Expr → Expr → Expr → Form
    -- `let i e b`
    let_in : ℕ → Expr → Expr → Form
    -- `attr e name`, `collect s name`, name first
    attribute : Access → ℕ → Expr → Form
    -- `call e n`: definition n's class and type, then e and definition n's body (document 02, F-13)
    call : ℕ → Ty → Expr → Expr → Form
    -- `forAll s i b`, `exists s i b`, the variable first
    quantified : Quantifier → ℕ → Expr → Expr → Form
    -- `iter s i j T e b`: the member, the accumulator, its type, then s, e, b
    iterate : ℕ → ℕ → Ty → Expr → Expr → Expr → Form
    -- `coll k e..`
    assemble : Kind → Operands → Form

  pub data Operands : Type 0 where
    no_operand : Operands
    operand : Expr → Operands → Operands

-- `D n c T`: a named definition, by its class, its type and its body
pub record Definition : Type 0 where
  pub context : ℕ
  pub type : Ty
  pub body : Expr

-- a collection of size 128 has so many members at most: "a body counted 127 times"
abbrev pub most_members : ℕ
most_members = 127

-- "Reach: 1 plus the operands' reaches, a body counted 127 times (`let`'s once)"; document 02, F-13: "reach adds the body's reach". It is
-- an upper bound of the steps
unfoldable mutual
  pub reach : Expr → ℕ
  reach (node n f) = suc (inside f)

  pub inside : Form → ℕ
  inside (leaf l) = 0
  inside (unary op a) = reach a
  inside (binary op a b) = reach a + reach b
  inside (connective c a b) = reach a + reach b
  inside (is_undef a) = reach a
  inside (conditional c a b) = reach c + (reach a + reach b)
  inside (let_in i a b) = reach a + reach b
  inside (attribute x name a) = reach a
  inside (call c t a b) = reach a + reach b
  inside (quantified q i a b) = reach a + most_members * reach b
  inside (iterate i j t a e b) = reach a + (reach e + most_members * reach b)
  inside (assemble k es) = reaches es

  pub reaches : Operands → ℕ
  reaches no_operand = 0
  reaches (operand e es) = reach e + reaches es

-- the depth of a tree, "the root being depth 1"; document 02, F-13: "Depth counts a called body's depth below the call"
unfoldable mutual
  pub levels : Expr → ℕ
  levels (node n f) = suc (levels_in f)

  pub levels_in : Form → ℕ
  levels_in (leaf l) = 0
  levels_in (unary op a) = levels a
  levels_in (binary op a b) = max (levels a) (levels b)
  levels_in (connective c a b) = max (levels a) (levels b)
  levels_in (is_undef a) = levels a
  levels_in (conditional c a b) = max (levels c) (max (levels a) (levels b))
  levels_in (let_in i a b) = max (levels a) (levels b)
  levels_in (attribute x name a) = levels a
  levels_in (call c t a b) = max (levels a) (levels b)
  levels_in (quantified q i a b) = max (levels a) (levels b)
  levels_in (iterate i j t a e b) = max (levels a) (max (levels e) (levels b))
  levels_in (assemble k es) = levels_of es

  pub levels_of : Operands → ℕ
  levels_of no_operand = 0
  levels_of (operand e es) = max (levels e) (levels_of es)

-- document 02, F-13, "every definition it reaches": those that a tree calls, with those that their bodies call
unfoldable mutual
  pub calls : Expr → List Definition
  calls (node n f) = calls_in f

  pub calls_in : Form → List Definition
  calls_in (leaf l) = []
  calls_in (unary op a) = calls a
  calls_in (binary op a b) = calls a ++ calls b
  calls_in (connective c a b) = calls a ++ calls b
  calls_in (is_undef a) = calls a
  calls_in (conditional c a b) = calls c ++ (calls a ++ calls b)
  calls_in (let_in i a b) = calls a ++ calls b
  calls_in (attribute x name a) = calls a
  calls_in (call c t a b) = calls a ++ (calls b ++ (record { context = c; type = t; body = b } ∷ []))
  calls_in (quantified q i a b) = calls a ++ calls b
  calls_in (iterate i j t a e b) = calls a ++ (calls e ++ calls b)
  calls_in (assemble k es) = calls_of es

  pub calls_of : Operands → List Definition
  calls_of no_operand = []
  calls_of (operand e es) = calls e ++ calls_of es
