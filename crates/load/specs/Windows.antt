-- Document 02, F-14: runs of k neighbouring lengths, their sums, the largest sum and the earliest run that has it.
use Rattle.std.specs.Prelude.{ℕ, zero, suc, ◌+◌, ◌-◌, ◌≤◌, ◌<◌, ◌≡◌, ◌↔◌, List, [], ◌∷◌, length, take, drop, ltb}
use Rattle.std.proofs.Math.Option.{Option, none, some}
use Rattle.std.specs.Prelude.{if◌then◌else◌}

unfoldable pub sum : List ℕ → ℕ
sum [] = 0
sum (x ∷ xs) = x + sum xs

-- the sum of the run of k neighbours that stands behind the first i lengths
unfoldable pub run_sum : ℕ → List ℕ → ℕ → ℕ
run_sum k xs i = sum (take k (drop i xs))

-- a run by its sum and the number, from 1, of its first length
pub record Load : Type 0 where
  pub total : ℕ
  pub first : ℕ

unfoldable pub run_at : ℕ → List ℕ → ℕ → Load
run_at k xs i = record { total = run_sum k xs i; first = suc i }

-- "the earliest such window": a later run takes the place of an earlier one only where its sum is larger
unfoldable pub better : Load → Load → Load
better a b = if ltb a.total b.total then b else a

-- the best of the runs behind the first 0 to n lengths
unfoldable pub best_of : ℕ → List ℕ → ℕ → Load
best_of k xs zero = run_at k xs 0
best_of k xs (suc n) = better (best_of k xs n) (run_at k xs (suc n))

-- "the definition over all runs of k neighbours"; there is none where there are fewer than k lengths
unfoldable pub load : ℕ → List ℕ → Option Load
load k xs = if ltb (length xs) k then none else some (best_of k xs (length xs - k))

-- ---- what `load` is, without a way to find it; proofs/Largest.antt proves the laws

-- the run is one of the list, no run has a larger sum, and each earlier run has a smaller one
pub record Largest (k : ℕ) (xs : List ℕ) (l : Load) : Type 0 where
  pub place : ℕ
  pub numbered : l.first ≡ suc place
  pub within : place + k ≤ length xs
  pub has : run_sum k xs place ≡ l.total
  pub most : (i : ℕ) → i + k ≤ length xs → run_sum k xs i ≤ l.total
  pub earliest : (i : ℕ) → i < place → run_sum k xs i < l.total

pub record LoadLaws : Type 0 where
  -- `load` is that run, and no other run is
  pub found : (k : ℕ) (xs : List ℕ) (l : Load) → (load k xs ≡ some l) ↔ Largest k xs l
  -- there is none exactly where there are too few lengths
  pub too_few : (k : ℕ) (xs : List ℕ) → (load k xs ≡ none) ↔ (length xs < k)
