-- Document 01, Evaluation, on demand 3: stated over the language, for every model and tree that reading can give.
-- sheet/specs/Soundness.antt states it from the bytes.
use Rattle.std.specs.Prelude.{◌≡◌, ◌≢◌, ℕ, ◌≤◌, ◌<◌, T}
use Rattle.std.proofs.Math.Option.{some}
use Rattle.laws.specs.Lists.{Each}
use Rattle.reals.specs.Reals.{kept}
use Rattle.ocl.specs.Types.{class, Ty}
use Rattle.ocl.specs.Values.{Value, size, largest}
use Rattle.ocl.specs.Model.{Model, schema_of, is_a, belongs}
use Rattle.ocl.specs.Environment.{Env}
use Rattle.ocl.specs.Forms.{Expr, Definition, reach, calls}
use Rattle.ocl.specs.Marks.{Mark}
use Rattle.ocl.specs.Typing.{typed, type_rule, type_definition}
use Rattle.ocl.specs.Operations.{Outcome, value, stuck, stop, Stop, steps_of}
use Rattle.ocl.specs.Evaluation.{most_steps, evaluation, evaluate_rule}
use Rattle.ocl.specs.Laws.{numbers_kept, Formed, literals, Agree}

-- what reading makes sure of
pub record AcceptedModel (s : Model) : Type 0 where
  -- a parent is a smaller class
  pub parents_smaller : (c p : ℕ) → s.parent c ≡ some p → p < c
  -- a value belongs to its row's type
  pub values_belong : (o i : ℕ) (v : Value) → s.value_of o i ≡ some v → T (belongs s (s.row i).type v)
  -- is of an allowed size
  pub values_small : (o i : ℕ) (v : Value) → s.value_of o i ≡ some v → size v ≤ largest
  -- its numbers are kept: Integers in range, and binary64 numbers that are none
  pub values_kept : (o i : ℕ) (v : Value) → s.value_of o i ≡ some v → T (numbers_kept v)
  -- and it is formed: Sets strictly ascending, Bags ascending (5 refuses every other)
  pub values_formed : (o i : ℕ) (v : Value) → s.value_of o i ≡ some v → Formed v

-- how a rule of type t and reach k may end
pub record Sound (s : Model) (t : Ty) (k : ℕ) (o : Outcome) : Type 0 where
  pub not_stuck : o ≢ stuck
  -- a value belongs to the rule's type, is of an allowed size, its numbers are kept, and it is formed
  pub of_type : (v : Value) (n : ℕ) → o ≡ value v n → T (belongs s t v)
  pub of_size : (v : Value) (n : ℕ) → o ≡ value v n → size v ≤ largest
  pub numbers_kept_lem : (v : Value) (n : ℕ) → o ≡ value v n → T (numbers_kept v)
  pub formed : (v : Value) (n : ℕ) → o ≡ value v n → Formed v
  -- a stop is one of those that are named
  pub known_stop : (c n : ℕ) → o ≡ stop c n → Stop c
  -- the steps are within the reach
  pub in_reach : steps_of o ≤ k
  -- no step stop where the reach is within the limit
  pub no_step_stop : k ≤ most_steps → (n : ℕ) → o ≢ stop 16 n

-- a definition whose body gets its type, in a table that has its marks
pub record TypedDefinition (s : Model) (mark : ℕ → Mark) (d : Definition) : Type 0 where
  pub typed_body : (type_definition (schema_of s) d).answer ≡ typed d.type
  pub marked : Agree mark (type_definition (schema_of s) d).marks

-- a rule whose literals are kept and which gets type t, with any table that has its marks; and so for every definition that it
-- reaches (document 02, F-13)
abbrev pub Soundness : Type 0
Soundness =
    (s : Model) → AcceptedModel s → (mark : ℕ → Mark) (e : Expr) → Each (λ x. T (kept x)) (literals e) → Each (TypedDefinition s mark) (calls e)
    → (c o : ℕ) (t : Ty) → (type_rule (schema_of s) c e).answer ≡ typed t → Agree mark (type_rule (schema_of s) c e).marks → T (is_a s o (class c))
    → Sound s t (reach e) (evaluate_rule s mark e o)

-- ---- every value that evaluation ends in is kept, typed or not, with any marks: so `eq` and `includes` are exact wherever they
-- stand (Laws.antt, ValueOrder)

-- each variable's value is kept, and of an allowed size
pub record KeptEnv (ρ : Env Value) : Type 0 where
  pub bound_kept : (i : ℕ) (v : Value) → ρ i ≡ some v → T (numbers_kept v)
  pub bound_small : (i : ℕ) (v : Value) → ρ i ≡ some v → size v ≤ largest

abbrev pub KeptEnds : Type 0
KeptEnds =
    (s : Model) → AcceptedModel s → (mark : ℕ → Mark) (e : Expr) → Each (λ x. T (kept x)) (literals e)
    → (ρ : Env Value) → KeptEnv ρ → (n m : ℕ) (v : Value) → evaluation s mark e ρ n ≡ value v m → T (numbers_kept v)
