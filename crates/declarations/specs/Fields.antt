-- The fields after a line's letter, as the code has them. proofs/ tie them to the lines that crates/sheet reads.
use Rattle.std.specs.Prelude.{Bool, false, ◌&&◌, ◌||◌, List, [], ◌∷◌, ℕ, suc, min, eqb, ltb, Option as Optional, Some, None, Result, Ok, Err}
use Rattle.std.proofs.Math.Option.{Option, none, some}
use Rattle.std.specs.Prelude.{if◌then◌else◌}
use Rattle.sheet.specs.Text.{Bytes}
use Rattle.sheet.specs.Lines.{next, done, a_number}
use Rattle.sheet.specs.Limits.{is_class}
use Rattle.memory.specs.declared.refusals.Refusal.{Refusal}
use Rattle.memory.specs.declared.refusals.Refusal.TheVariants.{BadLine, OverMeasure}

-- ---- `n c`

unfoldable pub two_numbers : List Bytes → Option (ℕ × ℕ)
two_numbers = next a_number (λ n. next a_number (λ c. done (n, c)))

-- a number below a limit and a class, or the refusal of what is badly spelled or over its limit
unfoldable pub pair_of : ℕ → Option (ℕ × ℕ) → Result (ℕ × ℕ) Refusal
pair_of limit none = Err BadLine
pair_of limit (some p) = if ltb p.0 limit && is_class p.1 then Ok (p.0, p.1) else Err OverMeasure

-- ---- a parent

-- 0 for no parent, else one more than the parent, which is a million at most, like every number that is read
unfoldable pub parent_num : Option (Option ℕ) → Optional ℕ
parent_num none = None
parent_num (some none) = Some 0
parent_num (some (some p)) = Some (suc (min p 1000000))

-- ---- the rows so far

-- does class c declare the name, by each row's owner and name
unfoldable pub named_in : List ℕ → List ℕ → ℕ → ℕ → Bool
named_in [] names c name = false
named_in (o ∷ os) [] c name = false
named_in (o ∷ os) (m ∷ ms) c name = eqb o c && eqb m name || named_in os ms c name
