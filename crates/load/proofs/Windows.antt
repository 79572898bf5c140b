-- Sums of runs, and the best run when one length more stands at the end of a list. Assumes nothing.
use Prim.Native.Nat.{ℕ, zero, suc, ◌+◌, ◌-◌, ◌*◌, ◌<◌, ◌≤◌}
use mathlib.Core.Path.{◌≡◌, ap, ◌∙◌}
use mathlib.Core.Option.{none, some}
use mathlib.Core.List.{List, [], ◌∷◌, ◌++◌}
use native.Mathlib.Omega.{arith}
use borrow.Author.Tests.{lt-ltb, le-ltb}
use lib.Dec.{ltb}
use lib.ListN.{length, get_or, take, drop, length-drop, length-take}
use lib.Seq.{take_all, take-append-le, drop-append-le, drop-cons, take-nil}
use Rattle.laws.specs.Lists.{Each, each_nil, each-cons}
use Rattle.laws.proofs.Lists.{length_more}
use Rattle.laws.proofs.Tests.{by-if}
use Rattle.load.specs.Windows.{sum, run_sum, Load, run_at, better, best_of, load}

pub sum-append : (a b : List ℕ) → sum (a ++ b) ≡ sum a + sum b
unfolding sum
sum-append [] b = omega arith
sum-append (x ∷ a) b = omega (arith, sum-append a b)

pub no_run : (k i : ℕ) → run_sum k [] i ≡ 0
unfolding run_sum sum
no_run k zero = ap sum (take-nil k)
no_run k (suc i) = ap sum (take-nil k)

-- each length is at most 1,000
pub sum_small : (xs : List ℕ) → Each (λ x. x ≤ 1000) xs → sum xs ≤ 1000 * length xs
unfolding sum
sum_small [] each_nil = omega arith
sum_small (x ∷ xs) (each-cons h hs) = omega (arith, sum_small xs hs)

each_take : {P : ℕ → Type 0} (n : ℕ) (xs : List ℕ) → Each P xs → Each P (take n xs)
each_take zero xs h = each_nil
each_take (suc n) [] each_nil = each_nil
each_take (suc n) (x ∷ xs) (each-cons h hs) = each-cons h (each_take n xs hs)

each-drop : {P : ℕ → Type 0} (n : ℕ) (xs : List ℕ) → Each P xs → Each P (drop n xs)
each-drop zero xs h = h
each-drop (suc n) [] each_nil = each_nil
each-drop (suc n) (x ∷ xs) (each-cons h hs) = each-drop n xs hs

pub run_small : (k : ℕ) (xs : List ℕ) (i : ℕ) → Each (λ x. x ≤ 1000) xs → run_sum k xs i ≤ 1000 * k
unfolding run_sum
run_small k xs i h = omega (arith, sum_small (take k (drop i xs)) (each_take k (drop i xs) (each-drop i xs h)), length-take k (drop i xs))

pub best_numbered : (k : ℕ) (xs : List ℕ) (n : ℕ) → 1 ≤ (best_of k xs n).first
unfolding best_of run_at better
best_numbered k xs zero = omega arith
best_numbered k xs (suc n) = by-if (λ (l : Load). 1 ≤ l.first) (ltb (best_of k xs n).total (run_sum k xs (suc n))) _ _ (λ t. omega arith) (λ t. best_numbered k xs n)

-- ---- the run that ends with the list

pub last_run : (k : ℕ) (xs : List ℕ) → run_sum k xs (length xs - k) ≡ sum (drop (length xs - k) xs)
unfolding run_sum
last_run k xs = ap sum (take_all k (drop (length xs - k) xs) (simp length-drop (omega arith)))

module _ (k : ℕ) (xs : List ℕ) (x : ℕ) where
  sum_more : sum (xs ++ (x ∷ [])) ≡ sum xs + x
  unfolding sum
  sum_more = omega (arith, sum-append xs (x ∷ []))

  -- while the window is not full, nothing leaves it
  pub filling : length xs < k → run_sum k (xs ++ (x ∷ [])) (length (xs ++ (x ∷ [])) - k) ≡ run_sum k xs (length xs - k) + x
  filling h =
      let z : length xs - k ≡ 0 = omega arith in
      let s : length (xs ++ (x ∷ [])) - k ≡ 0 = omega (arith, length_more xs x) in
      last_run k (xs ++ (x ∷ [])) ∙ rw (last_run k xs, s, z) sum_more

  -- behind that, the oldest length does
  pub sliding : 1 ≤ k → k ≤ length xs → run_sum k (xs ++ (x ∷ [])) (length (xs ++ (x ∷ [])) - k) + get_or xs (length xs - k) 0 ≡ run_sum k xs (length xs - k) + x
  unfolding sum
  sliding l h =
      let n : length (xs ++ (x ∷ [])) - k ≡ suc (length xs - k) = omega (arith, length_more xs x) in
      let e : sum (drop (length xs - k) xs) ≡ get_or xs (length xs - k) 0 + sum (drop (suc (length xs - k)) xs) = ap sum (drop-cons xs (length xs - k) 0 (omega arith)) in
      let d : drop (suc (length xs - k)) (xs ++ (x ∷ [])) ≡ drop (suc (length xs - k)) xs ++ (x ∷ []) = drop-append-le (suc (length xs - k)) xs (x ∷ []) (omega arith) in
      rw (last_run k (xs ++ (x ∷ [])), last_run k xs, n, d, sum-append (drop (suc (length xs - k)) xs) (x ∷ []), e) (omega arith)

  pub oldest_within : 1 ≤ k → k ≤ length xs → get_or xs (length xs - k) 0 ≤ run_sum k xs (length xs - k)
  unfolding sum
  oldest_within l h = omega (arith, last_run k xs, ap sum (drop-cons xs (length xs - k) 0 (omega arith)))

  -- ---- the runs of the list are runs of the longer one

  run_same : (i : ℕ) → i + k ≤ length xs → run_sum k (xs ++ (x ∷ [])) i ≡ run_sum k xs i
  unfolding run_sum
  run_same i h = rw (drop-append-le i xs (x ∷ []) (omega arith), take-append-le k (drop i xs) (x ∷ []) (simp length-drop (omega arith)))

  best_same : (n : ℕ) → n + k ≤ length xs → best_of k (xs ++ (x ∷ [])) n ≡ best_of k xs n
  unfolding best_of run_at
  best_same zero h = rw (run_same 0 h)
  best_same (suc n) h = rw (best_same n (omega arith), run_same (suc n) h)

  pub load_none : length xs < k → load k xs ≡ none
  unfolding load
  load_none h = rw (lt-ltb (length xs) k h)

  pub load_some : k ≤ length xs → load k xs ≡ some (best_of k xs (length xs - k))
  unfolding load
  load_some h = rw (le-ltb (length xs) k h)

  pub more_none : length xs + 1 < k → load k (xs ++ (x ∷ [])) ≡ none
  unfolding load
  more_none h = rw (lt-ltb (length (xs ++ (x ∷ []))) k (omega (arith, length_more xs x)))

  -- the first run
  pub more_first : length xs + 1 ≡ k → load k (xs ++ (x ∷ [])) ≡ some (run_at k (xs ++ (x ∷ [])) (length (xs ++ (x ∷ [])) - k))
  unfolding load best_of
  more_first h =
      let z : length (xs ++ (x ∷ [])) - k ≡ 0 = omega (arith, length_more xs x) in
      rw (le-ltb (length (xs ++ (x ∷ []))) k (omega (arith, length_more xs x)), z)

  -- a further run
  pub more_better : k ≤ length xs → load k (xs ++ (x ∷ [])) ≡ some (better (best_of k xs (length xs - k)) (run_at k (xs ++ (x ∷ [])) (length (xs ++ (x ∷ [])) - k)))
  unfolding load best_of
  more_better h =
      let z : length (xs ++ (x ∷ [])) - k ≡ suc (length xs - k) = omega (arith, length_more xs x) in
      rw (le-ltb (length (xs ++ (x ∷ []))) k (omega (arith, length_more xs x)), z, best_same (length xs - k) (omega arith))
