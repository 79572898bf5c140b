-- What the code promises of a definition or a rule by its number: for every sheet that lies in the words.
use Rattle.std.specs.Prelude.{◌≡◌, List, ℕ, length, take, drop, Result}
use Rattle.std.proofs.Math.Option.{some}
use Rattle.std.proofs.Math.ListN.{get_elem?}
use Rattle.ocl.specs.Forms.{Definition}
use Rattle.ocl.specs.Typing.{type_definition}
use Rattle.sheet.specs.Sizes.{most_nodes}
use Rattle.sheet.specs.Sheet.{Rule, Sheet, schema_in}
use Rattle.sheet.specs.Calls.{typing_of, outcome_of}
use Rattle.sheet.specs.Origin.{trace_of}
use Rattle.tables.specs.declared.Counts.{Counts}
use Rattle.tables.specs.Layout.{Kept}
use Rattle.judgements.specs.Replies.{meaning, write_marks}
use Rattle.outcomes.specs.declared.Ended.{Ended}
use Rattle.outcomes.specs.Answers.{Ends, SmallAnswer}
use Rattle.evaluation.specs.declared.Traced.{Traced}
use Rattle.evaluation.specs.Traces.{EndsT, SmallTraced}
use Rattle.rules.specs.Accepted.{InWords, MarksIn}
use Rattle.memory.specs.declared.refusals.Refused.{Refused}
use Rattle.types.specs.declared.FlatType.{FlatType}

-- the typing of rule r: its marks are added to those in the first 768 words of w2, and the other words are as they were
pub record TypesNumbered (st : Counts) (w0 w1 : List ℕ) (r : ℕ) (before after : List ℕ) (reply : Result FlatType Refused) : Type 0 where
  pub is : (s : Sheet) → InWords st w0 w1 s → (x : Rule) → get_elem? s.rules r ≡ some x → meaning reply ≡ (typing_of s x).answer
  pub marked : (s : Sheet) → InWords st w0 w1 s → (x : Rule) → get_elem? s.rules r ≡ some x
      → take most_nodes after ≡ write_marks (take most_nodes before) (typing_of s x).marks
  pub rest : drop most_nodes after ≡ drop most_nodes before
  pub size : length after ≡ length before

-- the typing of definition d, in the same way
pub record DefinesNumbered (st : Counts) (w0 w1 : List ℕ) (d : ℕ) (before after : List ℕ) (reply : Result FlatType Refused) : Type 0 where
  pub is : (s : Sheet) → InWords st w0 w1 s → (x : Definition) → get_elem? s.definitions d ≡ some x → meaning reply ≡ (type_definition (schema_in s) x).answer
  pub marked : (s : Sheet) → InWords st w0 w1 s → (x : Definition) → get_elem? s.definitions d ≡ some x
      → take most_nodes after ≡ write_marks (take most_nodes before) (type_definition (schema_in s) x).marks
  pub rest : drop most_nodes after ≡ drop most_nodes before
  pub size : length after ≡ length before

-- the evaluation of rule r for object o, with where undefined arose: a value's cells lie in w2 from 1 on
pub record TracesNumbered (st : Counts) (w0 w1 : List ℕ) (r o : ℕ) (before after : List ℕ) (e : Traced) : Type 0 where
  pub small : SmallTraced e
  pub ends : (s : Sheet) → InWords st w0 w1 s → MarksIn w1 s → (x : Rule) → get_elem? s.rules r ≡ some x → EndsT 1 after (trace_of s x o) e
  pub kept : Kept before after

-- and without it
pub record EvaluatesNumbered (st : Counts) (w0 w1 : List ℕ) (r o : ℕ) (before after : List ℕ) (e : Ended) : Type 0 where
  pub small : SmallAnswer e
  pub ends : (s : Sheet) → InWords st w0 w1 s → MarksIn w1 s → (x : Rule) → get_elem? s.rules r ≡ some x → Ends 1 after (outcome_of s x o) e
  pub kept : Kept before after
