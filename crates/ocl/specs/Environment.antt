-- Document 01, The forms and their typing: what a variable is bound to.
use Rattle.std.proofs.Math.Option.{Option, none, some}
use Rattle.std.specs.Prelude.{ℕ, eqb}
use Rattle.std.specs.Prelude.{if◌then◌else◌}

-- what each variable stands for: "variables have numbers 1 to 15", and 0 is `self`
abbrev pub Env : Type 0 → Type 0
Env A = ℕ → Option A

-- "An inner binding hides the outer one until its body ends": the caller still has the environment without it
unfoldable pub extend : {A : Type 0} → Env A → ℕ → A → Env A
extend ρ i x j = if eqb j i then some x else ρ j

-- a rule starts with nothing bound but `self`
unfoldable pub start : {A : Type 0} → A → Env A
start x = extend (λ j. none) 0 x
