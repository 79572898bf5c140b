-- Runs over the words: a model and marks, an environment whose values lie below sp, and that the answer is then the definition's
-- outcome. The forms with no operand.
use Rattle.std.specs.Prelude.{◌≡◌, List, ℕ, ◌+◌, ◌≤◌, length, get_or}
use Rattle.std.proofs.Math.Option.{Option, none, some}
use Rattle.ocl.specs.Values.{Value, largest}
use Rattle.ocl.specs.Environment.{Env}
use Rattle.ocl.specs.Model.{Model}
use Rattle.ocl.specs.Marks.{Mark}
use Rattle.ocl.specs.Evaluation.{Run, bound, leaf_run}
use Rattle.nodes.specs.Nodes.{leaf_of}
use Rattle.tables.specs.declared.Counts.{Counts}
use Rattle.tables.specs.Stored.{HoldsModel}
use Rattle.outcomes.specs.declared.Ended.{Ended}
use Rattle.outcomes.specs.Answers.{Lies, Ran, SmallAnswer}

-- ---- what is evaluated over

-- a model, and what each node is marked with
pub record World : Type 0 where
  pub model : Model
  pub mark : ℕ → Mark

pub record ModelIn (st : Counts) (w0 : List ℕ) (w : World) : Type 0 where
  pub holds : HoldsModel st w0 w.model

-- ---- environments: 0 for unbound, else one more than where the value's cells start, below sp

pub data Held (S : List ℕ) (sp at : ℕ) : Option Value → Type 0 where
  free : at ≡ 0 → Held S sp at none
  held : (p : ℕ) {v : Value} {len : ℕ} → at ≡ p + 1 → Lies v p len S → len ≤ largest → p + len ≤ sp → Held S sp at (some v)

pub record Rel (env S : List ℕ) (sp : ℕ) (ρ : Env Value) : Type 0 where
  pub slots : length env ≡ 16
  pub at : (j : ℕ) → Held S sp (get_or env j 0) (ρ j)

-- ---- what is evaluated

abbrev pub Meaning : Type 0
Meaning = World → Run

pub record Evals (Ok : World → Type 0) (f : Meaning) (env : List ℕ) (sp s : ℕ) (B A : List ℕ) (r : Ended) : Type 0 where
  pub small : SmallAnswer r
  pub ran : (w : World) → Ok w → (ρ : Env Value) → Rel env B sp ρ → Ran (f w ρ s) sp B A r

-- a variable's value once more
pub record Variable (i : ℕ) (env : List ℕ) (sp s : ℕ) (B A : List ℕ) (r : Ended) : Type 0 where
  pub small : SmallAnswer r
  pub ran : (ρ : Env Value) → Rel env B sp ρ → Ran (bound (ρ i) s) sp B A r

-- the form with no operand that has this code, and this literal, variable or class
unfoldable pub leaf_for : ℕ → ℕ → Meaning
leaf_for k x w = leaf_run w.model (leaf_of k (λ _. x))
