-- What the contracts of the recursion say: for every model that the lent words hold, the answer and the marks are those of the
-- definition in crates/ocl.
use Rattle.std.specs.Prelude.{◌≡◌, List, ℕ, ◌<◌, ◌≤◌, ltb, Result, Ok, Err}
use Rattle.std.specs.Prelude.{if◌then◌else◌}
use Rattle.memory.specs.Map as memory
use Rattle.ocl.specs.Types.{Ty}
use Rattle.ocl.specs.Environment.{extend}
use Rattle.ocl.specs.Forms.{undef}
use Rattle.ocl.specs.Model.{Schema}
use Rattle.ocl.specs.Typing.{typed, Typed, Typing, pure, and_then, below, typing, leaf_typing, binary_typing, connective_typing, conditional_typing, let_typing, quantified_typing, iterate_typing, assemble_typing, operands_typing}
use Rattle.sheet.specs.Sizes.{most_rows, most_nodes}
use Rattle.types.specs.Flat.{ty_of}
use Rattle.types.specs.Word.{type_in}
use Rattle.nodes.specs.Nodes.{word, variable, binary_of, kind_of, operands_in, trees_below, tree_at}
use Rattle.judgements.specs.declared.TypeEnv.{TypeEnv}
use Rattle.judgements.specs.Replies.{env_of, Tells, ReadsRows}
use Rattle.judgements.specs.Single.{single_type}
use Rattle.memory.specs.declared.refusals.Refused.{Refused}
use Rattle.types.specs.declared.FlatType.{FlatType}

-- node n and so many rows are within what is lent
pub record NodeRoom (n rows tables nodes marks : ℕ) : Type 0 where
  pub in_nodes : n < most_nodes
  pub in_rows : rows ≤ most_rows
  pub in_tables : memory.rows_end ≤ tables
  pub all_nodes : memory.nodes_end ≤ nodes
  pub all_marks : most_nodes ≤ marks

-- f and then g: two types, with which whatever follows them goes on; or the first refusal, which ends it
pub record TellsTwo (f g : Typed) (before after : List ℕ) (r : Result (FlatType × FlatType) Refused) : Type 0 where
  pub ends : {x : Refused} → r ≡ Err x → (k : Ty → Ty → Typed) → Tells (and_then f (λ t. and_then g (k t))) before after (Err x)
  pub goes : {t u : _} → r ≡ Ok (t, u) → (k : Ty → Ty → Typed) {last : List ℕ} {x : Result FlatType Refused}
      → Tells (k (ty_of t) (ty_of u)) after last x → Tells (and_then f (λ t. and_then g (k t))) before last x

abbrev pub Types : List ℕ → List ℕ → ℕ → (Schema → Typing) → TypeEnv → List ℕ → List ℕ → Result FlatType Refused → Type 0
Types parents tables rows f env before after r = (m : Schema) → ReadsRows parents tables rows m → Tells (f m (env_of env)) before after r

abbrev pub TypesTwo : List ℕ → List ℕ → ℕ → (Schema → Typing) → (Schema → Typing) → TypeEnv → List ℕ → List ℕ → Result (FlatType × FlatType) Refused → Type 0
TypesTwo parents tables rows f g env before after r =
    (m : Schema) → ReadsRows parents tables rows m → TellsTwo (f m (env_of env)) (g m (env_of env)) before after r

-- ---- the typing of node n of the table t, by what its form is

abbrev pub node_at : List ℕ → ℕ → Schema → Typing
node_at t n m = typing m (tree_at t n)

-- operand k of node n
unfoldable pub operand_at : List ℕ → ℕ → ℕ → Schema → Typing
operand_at t n k m = typing m (trees_below t n (word t n k))

-- c operands from word k on
unfoldable pub members_at : List ℕ → ℕ → ℕ → ℕ → Schema → Typing
members_at t n c k m = operands_typing m n (operands_in (trees_below t n) (word t n) c k)

-- a single operand: its type, and what that leads to
unfoldable pub single_at : List ℕ → ℕ → ℕ → Schema → Typing
single_at t n form m Γ = and_then (operand_at t n 1 m Γ) (single_type m n form (word t n))

abbrev pub binary_at : List ℕ → ℕ → ℕ → Schema → Typing
binary_at t n form m = binary_typing m n (binary_of form) (operand_at t n 1 m) (operand_at t n 2 m)

abbrev pub connective_at : List ℕ → ℕ → Schema → Typing
connective_at t n m = connective_typing m n (operand_at t n 1 m) (operand_at t n 2 m)

abbrev pub conditional_at : List ℕ → ℕ → Schema → Typing
conditional_at t n m = conditional_typing m n (operand_at t n 1 m) (operand_at t n 2 m) (operand_at t n 3 m)

abbrev pub let_at : List ℕ → ℕ → Schema → Typing
let_at t n m = let_typing (variable (word t n 3)) (operand_at t n 1 m) (operand_at t n 2 m)

abbrev pub quantified_at : List ℕ → ℕ → Schema → Typing
quantified_at t n m = quantified_typing m n (variable (word t n 3)) (operand_at t n 1 m) (operand_at t n 2 m)

abbrev pub iterate_at : List ℕ → ℕ → Schema → Typing
iterate_at t n m =
    iterate_typing m n (variable (word t n 4)) (variable (word t n 5)) (type_in (word t n 6)) (operand_at t n 1 m) (operand_at t n 2 m) (operand_at t n 3 m)

-- what follows in `iter` once its source and start are checked: the body, below t, in an environment that has the member
unfoldable pub body_at : List ℕ → ℕ → Ty → Schema → Typing
body_at t n w m Γ = and_then (operand_at t n 3 m (extend Γ (variable (word t n 5)) w)) (λ b. pure (below m n b w (typed w)))

-- over four operands, which no accepted sheet has, count as `undef`
unfoldable pub assemble_at : List ℕ → ℕ → ℕ → Schema → Typing
assemble_at t n form m =
    if ltb 4 (word t n 5) then leaf_typing n undef else assemble_typing n (kind_of form) (members_at t n (word t n 5) 1 m)
