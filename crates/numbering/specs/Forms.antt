-- What each node has outside the profile, by the code of its form: through the operands in its own environment, through its body or
-- the body that it calls, and itself (proofs/Parts.antt: these are the nodes that crates/ocl's `outside` has).
use Rattle.std.specs.Prelude.{Bool, true, false, List, [], ℕ, eqb, ltb}
use Rattle.std.specs.Prelude.{if◌then◌else◌}
use Rattle.memory.specs.Codes as code
use Rattle.ocl.specs.Types.{Ty, Class}
use Rattle.ocl.specs.Environment.{Env, extend, start}
use Rattle.ocl.specs.Model.{Schema}
use Rattle.ocl.specs.Typing.{Answer, typed, refused, on_collection, typing}
use Rattle.ocl.specs.Profile.{is_sequence, for_type, outside, outside_of}
use Rattle.types.specs.Parts.{member_type}
use Rattle.types.specs.Word.{type_in}
use Rattle.nodes.specs.Nodes.{word, variable, class_in, operands_in, trees_below}

-- ---- operands

-- more than four members count as none
unfoldable pub member_count : ℕ → ℕ
member_count c = if ltb 4 c then 0 else c

-- `if` has three, `iter` two beside its body, `over` two
unfoldable pub late_count : ℕ → ℕ
late_count form = if eqb form code.conditional then 3 else if eqb form code.iterate then 2 else if eqb form code.over then 2 else 1

-- how many stand in the node's own environment; c is what a `coll` says of its members
unfoldable pub operand_count : ℕ → ℕ → ℕ
operand_count form c =
    if ltb code.over form then 0
    else if ltb form code.negation then 0
    else if ltb form code.equal then 1
    else if ltb form code.for_all then 2
    else if ltb form code.set then 1
    else if ltb form code.is_undef then member_count c
    else late_count form

-- c operands from word i on
abbrev pub members_at : Schema → List ℕ → ℕ → ℕ → ℕ → Env Ty → List ℕ
members_at k t n c i Γ = outside_of k (operands_in (trees_below t n) (word t n) c i) Γ

-- operand i
abbrev pub operand_at : Schema → List ℕ → ℕ → ℕ → Env Ty → List ℕ
operand_at k t n i Γ = outside k (trees_below t n (word t n i)) Γ

-- what typing answers for the first operand
abbrev pub source_type : Schema → List ℕ → ℕ → Env Ty → Answer
source_type k t n Γ = (typing k (trees_below t n (word t n 1)) Γ).answer

-- ---- a body

-- `forAll`, `exists`, `let`, `iter`
unfoldable pub binds : ℕ → Bool
binds form = if eqb form code.let_in then true else if eqb form code.iterate then true else if ltb form code.for_all then false else ltb form code.set

unfoldable pub body_operand : ℕ → ℕ
body_operand form = if eqb form code.iterate then 3 else 2

-- whether there is one to enter: the first operand has type u
unfoldable pub enters : ℕ → Ty → Bool
enters form u = if eqb form code.let_in then true else on_collection u false (λ l m. true)

-- the types of the variables in it
unfoldable pub inner_env : (ℕ → ℕ) → ℕ → Env Ty → Ty → Env Ty
inner_env w form Γ u =
    if eqb form code.let_in then extend Γ (variable (w 3)) u
    else if eqb form code.iterate then extend (extend Γ (variable (w 4)) (member_type u)) (variable (w 5)) (type_in (w 6))
    else extend Γ (variable (w 3)) (member_type u)

unfoldable pub body_of : Schema → List ℕ → ℕ → ℕ → Env Ty → Ty → List ℕ
body_of k t n form Γ u = if enters form u then operand_at k t n (body_operand form) (inner_env (word t n) form Γ u) else []

abbrev pub body_at : Schema → List ℕ → ℕ → ℕ → Env Ty → List ℕ
body_at k t n form Γ = for_type (source_type k t n Γ) (body_of k t n form Γ)

-- of the body that is called
abbrev pub called_at : Schema → List ℕ → ℕ → List ℕ
called_at k t n = operand_at k t n 2 (start (Class (class_in (word t n 3))))

unfoldable pub scope_at : Schema → List ℕ → ℕ → ℕ → Env Ty → List ℕ
scope_at k t n form Γ =
    if eqb form code.call then called_at k t n
    else if binds form then body_at k t n form Γ
    else []

-- ---- the node itself

-- `including`, `union` and `collect` look at a type
unfoldable pub looks : ℕ → Bool
looks form = if eqb form code.of_members then true else if ltb form code.including then false else ltb form code.and

unfoldable pub on_sequence : Answer → Bool
on_sequence (typed u) = is_sequence u
on_sequence (refused n p) = false

unfoldable pub is_own : Schema → List ℕ → ℕ → ℕ → Env Ty → Bool
is_own k t n form Γ =
    if eqb form code.to_sequence then true
    else if eqb form code.iterate then true
    else if looks form then on_sequence (source_type k t n Γ)
    else false
