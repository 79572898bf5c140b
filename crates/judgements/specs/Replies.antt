-- What the code's answers, environments, marks and tables stand for. Document 01, The forms and their typing.
use Rattle.std.specs.Prelude.{◌≡◌, false, List, [], ◌∷◌, ℕ, get_or, set, take, drop, Result, Ok, Err}
use Rattle.std.proofs.Math.Option.{Option, none, some}
use Rattle.laws.specs.Choice.{on_some}
use Rattle.std.specs.Prelude.{if◌then◌else◌}
use Rattle.memory.specs.Map as memory
use Rattle.ocl.specs.Types.{Ty, Parents, join}
use Rattle.ocl.specs.Environment.{Env}
use Rattle.ocl.specs.Model.{Schema}
use Rattle.ocl.specs.Typing.{Answer, typed, refused, Typed}
use Rattle.ocl.specs.Marks.{Marks}
use Rattle.sheet.specs.Sizes.{most_rows}
use Rattle.types.specs.declared.Base.TheVariants as b
use Rattle.types.specs.Flat.{ty_of, bare}
use Rattle.nodes.specs.Classes.{HoldsClasses}
use Rattle.nodes.specs.Marks.{mark_word}
use Rattle.judgements.specs.declared.TypeEnv.{TypeEnv}
use Rattle.memory.specs.Refusals.{number}
use Rattle.memory.specs.declared.refusals.Refused.{Refused}
use Rattle.types.specs.declared.FlatType.{FlatType}

-- a type, or a refusal's number and node
abbrev pub meaning : Result FlatType Refused → Answer
meaning (Ok t) = typed (ty_of t)
meaning (Err r) = refused (number r.refusal) r.place

-- ---- the common type of so many types, if there is one, and one more

unfoldable pub join_more : Parents → Option Ty → Ty → Option Ty
join_more parent o t = on_some o (λ s. join parent s t)

-- ---- the environment: each variable that is bound has its type

unfoldable pub env_of : TypeEnv → Env Ty
env_of e j = if get_or e.bound j false then some (ty_of (get_or e.types j (bare b.Void))) else none

-- ---- the marks: word p of a table is that of node p's mark

-- in the order made
unfoldable pub write_marks : List ℕ → Marks → List ℕ
write_marks l [] = l
write_marks l (x ∷ m) = write_marks (set l x.0 (mark_word x.1)) m

-- the answer is the definition's, and so are the marks that were written
pub record Tells (x : Typed) (before after : List ℕ) (r : Result FlatType Refused) : Type 0 where
  pub is : meaning r ≡ x.answer
  pub wrote : after ≡ write_marks before x.marks

-- ---- the model

-- the model has these parents, and the rows of the tables: each row's owner, name and type, where memory/specs/Map.antt has them
pub record ReadsRows (parents tables : List ℕ) (rows : ℕ) (m : Schema) : Type 0 where
  pub classes : HoldsClasses parents (take most_rows (drop memory.owners tables)) (take most_rows (drop memory.names tables)) (take most_rows (drop memory.types tables)) m
  pub count : m.row_count ≡ rows
