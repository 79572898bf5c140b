-- What follows the one operand of a form, by the form's code: the strict forms (`not` to `as`), `isUndef`, `attr`, `collect`.
use Rattle.std.specs.Prelude.{true, false, List, ℕ, ◌+◌, get_or, eqb, ltb}
use Rattle.std.specs.Prelude.{if◌then◌else◌}
use Rattle.memory.specs.Map as memory
use Rattle.memory.specs.Codes as code
use Rattle.ocl.specs.Values.{Value, bool}
use Rattle.ocl.specs.Model.{Model}
use Rattle.ocl.specs.Marks.{Mark}
use Rattle.ocl.specs.Operations.{Outcome, value, undefined, unary_apply, access}
use Rattle.nodes.specs.Nodes.{unary_of, access_of}
use Rattle.nodes.specs.Marks.{Marked}
use Rattle.tables.specs.declared.Counts.{Counts}
use Rattle.tables.specs.Stored.{HoldsModel}
use Rattle.outcomes.specs.declared.Ended.{Ended}
use Rattle.outcomes.specs.Answers.{Lies, Ran, SmallAnswer}
use Rattle.outcomes.specs.Tables.{Plain}

-- the word of node n's mark
abbrev pub mark_in : List ℕ → ℕ → ℕ
mark_in t n = get_or t (memory.marks + n) 0

-- what follows its value: w are the node's words, and x is its mark
unfoldable pub of_value : Model → ℕ → (ℕ → ℕ) → Mark → Value → ℕ → Outcome
of_value m k w x v s =
    if ltb k code.equal then unary_apply m (unary_of k w) v s
    else if eqb k code.is_undef then value (bool false) s
    else access m (access_of k) x v s

-- what follows where it is undefined
unfoldable pub of_undefined : ℕ → ℕ → Outcome
of_undefined k s = if eqb k code.is_undef then value (bool true) s else undefined s

pub record FromValue (st : Counts) (w0 : List ℕ) (k : ℕ) (w : ℕ → ℕ) (mark sp len s : ℕ) (B A : List ℕ) (r : Ended) : Type 0 where
  pub small : SmallAnswer r
  pub ran : (m : Model) → HoldsModel st w0 m → Plain st m → (x : Mark) → Marked mark x → (v : Value) → Lies v sp len B
      → Ran (of_value m k w x v s) sp B A r

pub record FromUndefined (k sp s : ℕ) (B A : List ℕ) (r : Ended) : Type 0 where
  pub small : SmallAnswer r
  pub ran : Ran (of_undefined k s) sp B A r
