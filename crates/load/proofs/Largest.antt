-- `load` is the earliest run with the largest sum. Assumes nothing.
use Prim.Native.Nat.{ℕ, zero, suc, ◌-◌, ◌<◌, ◌≤◌}
use mathlib.Core.Path.{◌≡◌, refl, sym, ap, ◌∙◌}
use mathlib.Core.Logic.{◌↔◌}
use mathlib.Core.Option.{none, some, none-ne-some, some-injective}
use mathlib.Core.List.{List}
use native.Mathlib.Omega.{arith}
use native.Mathlib.Decide.{dec_lt}
use borrow.Author.Tests.{lt-ltb, le-ltb}
use lib.ListN.{length}
use Rattle.load.specs.Windows.{run_sum, Load, run_at, better, best_of, load, Largest, LoadLaws}
use Rattle.load.proofs.Windows.{load_none, load_some}

-- among the runs behind the first 0 to n lengths
record Among (k : ℕ) (xs : List ℕ) (n : ℕ) (l : Load) : Type 0 where
  place : ℕ
  numbered : l.first ≡ suc place
  within : place ≤ n
  has : run_sum k xs place ≡ l.total
  most : (i : ℕ) → i ≤ n → run_sum k xs i ≤ l.total
  earliest : (i : ℕ) → i < place → run_sum k xs i < l.total

module _ (k : ℕ) (xs : List ℕ) where
  first_run : (i : ℕ) → i ≤ 0 → run_sum k xs i ≤ run_sum k xs 0
  first_run zero h = omega arith
  first_run (suc i) h = absurd (omega arith)

  up_to : (n i : ℕ) {m : ℕ} → ((j : ℕ) → j ≤ n → run_sum k xs j ≤ m) → run_sum k xs (suc n) ≤ m → i ≤ suc n → run_sum k xs i ≤ m
  up_to n i {m} most last h = go (dec_lt n i)
    where
      go : Dec (n < i) → run_sum k xs i ≤ m
      go (yes l) = let e : i ≡ suc n = omega arith in rw e last
      go (no l) = most i (omega arith)

  best_among : (n : ℕ) → Among k xs n (best_of k xs n)
  unfolding best_of run_at better
  best_among zero = record { place = 0; numbered = refl; within = omega arith; has = refl; most = first_run; earliest = λ i h. absurd (omega arith) }
  best_among (suc n) = go (best_among n) (dec_lt (best_of k xs n).total (run_sum k xs (suc n)))
    where
      go : Among k xs n (best_of k xs n) → Dec ((best_of k xs n).total < run_sum k xs (suc n)) → Among k xs (suc n) (better (best_of k xs n) (run_at k xs (suc n)))
      go a (yes h) = rw (lt-ltb (best_of k xs n).total (run_sum k xs (suc n)) h) (record {
        place = suc n;
        numbered = refl;
        within = omega arith;
        has = refl;
        most = λ i l. up_to n i (λ j b. omega (arith, a.most j b)) (omega arith) l;
        earliest = λ i l. omega (arith, a.most i (omega arith));
      })
      go a (no h) = rw (le-ltb (best_of k xs n).total (run_sum k xs (suc n)) (omega arith)) (record {
        place = a.place;
        numbered = a.numbered;
        within = omega (arith, a.within);
        has = a.has;
        most = λ i l. up_to n i a.most (omega arith) l;
        earliest = a.earliest;
      })

  best_largest : k ≤ length xs → Largest k xs (best_of k xs (length xs - k))
  best_largest h = let a = best_among (length xs - k) in record {
    place = a.place;
    numbered = a.numbered;
    within = omega (arith, a.within);
    has = a.has;
    most = λ i l. a.most i (omega arith);
    earliest = a.earliest;
  }

  one_place : {l m : Load} (a : Largest k xs l) (b : Largest k xs m) → a.place ≤ b.place
  one_place a b = go (dec_lt b.place a.place)
    where
      go : Dec (b.place < a.place) → a.place ≤ b.place
      go (yes h) = absurd (omega (arith, a.earliest b.place h, b.has, a.has, b.most a.place a.within))
      go (no h) = omega arith

  one_largest : (l m : Load) → Largest k xs l → Largest k xs m → l ≡ m
  one_largest l m a b =
      let p : a.place ≡ b.place = omega (arith, one_place a b, one_place b a) in
      let t : l.total ≡ m.total = sym a.has ∙ ap (run_sum k xs) p ∙ b.has in
      let f : l.first ≡ m.first = a.numbered ∙ ap suc p ∙ sym b.numbered in
      λ i. record { total = t i; first = f i }

  largest_long : {l : Load} → Largest k xs l → k ≤ length xs
  largest_long a = omega (arith, a.within)

  is_found : (l : Load) → (load k xs ≡ some l) ↔ Largest k xs l
  is_found l = (λ e. go e (dec_lt (length xs) k), λ a. load_some k xs 0 (largest_long a) ∙ ap some (one_largest (best_of k xs (length xs - k)) l (best_largest (largest_long a)) a))
    where
      go : load k xs ≡ some l → Dec (length xs < k) → Largest k xs l
      go e (yes h) = absurd (none-ne-some _ (sym (load_none k xs 0 h) ∙ e))
      go e (no h) = let s = some-injective _ _ (sym (load_some k xs 0 (omega arith)) ∙ e) in rw s at (best_largest (omega arith))

  is_none : (load k xs ≡ none) ↔ (length xs < k)
  is_none = (λ e. go e (dec_lt (length xs) k), load_none k xs 0)
    where
      go : load k xs ≡ none → Dec (length xs < k) → length xs < k
      go e (yes h) = h
      go e (no h) = absurd (none-ne-some _ (sym e ∙ load_some k xs 0 (omega arith)))

pub load_laws : LoadLaws
load_laws = record { found = is_found; too_few = is_none }
