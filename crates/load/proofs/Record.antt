-- The record's functions: a record that stands for a list, after one length more. Assumes nothing.
use Prim.Native.Nat.{ℕ, ◌+◌, ◌-◌, ◌%◌, ◌<◌, ◌≤◌}
use mathlib.Core.Path.{◌≡◌, refl, sym, ap, ◌∙◌}
use mathlib.Core.Logic.{◌⊎◌, inl, inr}
use mathlib.Core.Bool.{Bool, true, false, ◌&&◌}
use mathlib.Core.List.{List, [], ◌∷◌, ◌++◌}
use native.Mathlib.Numerals.{add-one}
use native.Mathlib.Omega.{arith}
use native.Mathlib.Decide.{dec_lt}
use borrow.Author.Tests.{lt-ltb, le-ltb, le-leb, lt-leb, eq-eqb, ne_eqb}
use lib.Dec.{leb, ltb}
use lib.ListN.{length, get_or}
use Rattle.laws.proofs.Lists.{length_more}
use Rattle.load.specs.Windows.{run_sum, run_at, better, best_of, load}
use Rattle.load.specs.Record.{written, ring_of, total_of, first_of, window_of, Lengths, empty_window, Fresh, oldest_in, best_kept, stored, pushed_of, pushed_by, Takes}
use Rattle.load.specs.declared.window.Window.{Window}
use Rattle.load.proofs.Windows.{no_run, run_small, filling, sliding, oldest_within, best_numbered, load_none, load_some, more_none, more_first, more_better}
use Rattle.load.proofs.Ring.{ring_more, ring_at}

empty_follows : (k : ℕ) → 1 ≤ k → empty_window k ≡ window_of k []
unfolding empty_window window_of ring_of written total_of first_of
empty_follows k h = rw (load_none k [] 0 (omega arith), no_run k (0 - k))

pub fresh : (k : ℕ) → Fresh k (empty_window k)
fresh k = record { is = refl; follows = empty_follows k }

-- ---- the leaves

module _ (w : Window) where
  pub oldest_none : w.count < w.width → 0 ≡ oldest_in w
  unfolding oldest_in
  oldest_none h = rw (lt-ltb w.count w.width h)

  pub oldest_some : {r : ℕ} → w.width ≤ w.count → r ≡ get_or w.recent ((w.count - w.width) % 64) 0 → r ≡ oldest_in w
  unfolding oldest_in
  oldest_some h e = rw (le-ltb w.count w.width h) e

  pub kept_none : w.count < w.width → w ≡ best_kept w
  unfolding best_kept
  kept_none h = rw (lt-ltb w.count w.width h)

  pub kept_old : w.width ≤ w.count → (w.first ≡ 0 → ⊥) → w.sum ≤ w.largest → w ≡ best_kept w
  unfolding best_kept
  kept_old h f l = rw (le-ltb w.count w.width h, ne_eqb w.first 0 f, le-ltb w.largest w.sum l)

  abbrev new_best : Window
  new_best = record { width = w.width; count = w.count; recent = w.recent; sum = w.sum; largest = w.sum; first = w.count - w.width + 1 }

  pub kept_first : w.width ≤ w.count → w.first ≡ 0 → new_best ≡ best_kept w
  unfolding best_kept
  kept_first h f = rw (le-ltb w.count w.width h, eq-eqb w.first 0 f)

  pub kept_larger : w.width ≤ w.count → (w.first ≡ 0 → ⊥) → w.largest < w.sum → new_best ≡ best_kept w
  unfolding best_kept
  kept_larger h f l = rw (le-ltb w.count w.width h, ne_eqb w.first 0 f, lt-ltb w.largest w.sum l)

-- ---- a record that stands for a list

module _ (w : Window) (k : ℕ) (xs : List ℕ) (fit : Lengths k xs) (is : w ≡ window_of k xs) where
  pub count_is : w.count ≡ length xs
  unfolding window_of
  count_is = ap (λ (v : Window). v.count) is

  sum_is : w.sum ≡ run_sum k xs (length xs - k)
  unfolding window_of
  sum_is = ap (λ (v : Window). v.sum) is

  pub sum_most : w.sum ≤ 64000
  sum_most = omega (arith, sum_is, run_small k xs (length xs - k) fit.short, fit.wide)

  oldest_filling : length xs < k → oldest_in w ≡ 0
  unfolding oldest_in window_of
  oldest_filling h = rw (is, lt-ltb (length xs) k h)

  oldest_full : k ≤ length xs → oldest_in w ≡ get_or xs (length xs - k) 0
  unfolding oldest_in window_of
  oldest_full h = rw (is, le-ltb (length xs) k h) (ring_at xs (length xs - k) (omega (arith, fit.narrow)) (omega (arith, fit.wide)))

  pub oldest_most : oldest_in w ≤ w.sum
  oldest_most = go (dec_lt (length xs) k)
    where
      go : Dec (length xs < k) → oldest_in w ≤ w.sum
      go (yes h) = omega (arith, oldest_filling h)
      go (no h) = omega (arith, oldest_full (omega arith), sum_is, oldest_within k xs 0 fit.narrow (omega arith))

  module _ (x : ℕ) where
    abbrev ys : List ℕ
    ys = xs ++ (x ∷ [])

    sum_next : w.sum - oldest_in w + x ≡ run_sum k ys (length ys - k)
    sum_next = go (dec_lt (length xs) k)
      where
        go : Dec (length xs < k) → w.sum - oldest_in w + x ≡ run_sum k ys (length ys - k)
        go (yes h) = omega (arith, oldest_filling h, sum_is, filling k xs x h)
        go (no h) = omega (arith, oldest_full (omega arith), sum_is, sliding k xs x fit.narrow (omega arith), oldest_within k xs 0 fit.narrow (omega arith))

    -- before the best run is looked at
    abbrev slid : Window
    slid = record { width = k; count = length ys; recent = ring_of ys; sum = run_sum k ys (length ys - k); largest = total_of (load k xs); first = first_of (load k xs) }

    stored_slid : stored w x ≡ slid
    unfolding window_of stored
    stored_slid =
        let n : length ys ≡ length xs + 1 = omega (arith, length_more xs x) in
        rw (sum_next, is, ring_more xs x, n)

    best_next : best_kept slid ≡ window_of k ys
    unfolding window_of total_of first_of better run_at
    best_next = go (dec_lt (length xs) k)
      where
        larger : k ≤ length xs → Dec ((best_of k xs (length xs - k)).total < run_sum k ys (length ys - k)) → best_kept slid ≡ window_of k ys
        larger h (yes l) = sym (kept_larger slid (omega (arith, length_more xs x)) (rw (load_some k xs 0 h) (λ e. omega (arith, best_numbered k xs (length xs - k)))) (rw (load_some k xs 0 h) l)) ∙ rw (more_better k xs x h, lt-ltb (best_of k xs (length xs - k)).total (run_sum k ys (length ys - k)) l) (rw (add-one (length ys - k)))
        larger h (no l) = sym (kept_old slid (omega (arith, length_more xs x)) (rw (load_some k xs 0 h) (λ e. omega (arith, best_numbered k xs (length xs - k)))) (rw (load_some k xs 0 h) (omega arith))) ∙ rw (load_some k xs 0 h, more_better k xs x h, le-ltb (best_of k xs (length xs - k)).total (run_sum k ys (length ys - k)) (omega arith))

        first : Dec (length xs + 1 < k) → length xs < k → best_kept slid ≡ window_of k ys
        first (yes h) l = sym (kept_none slid (omega (arith, length_more xs x))) ∙ rw (load_none k xs 0 l, more_none k xs x h)
        first (no h) l = sym (kept_first slid (omega (arith, length_more xs x)) (rw (load_none k xs 0 l))) ∙ rw (more_first k xs x (omega arith)) (rw (add-one (length ys - k)))

        go : Dec (length xs < k) → best_kept slid ≡ window_of k ys
        go (yes h) = first (dec_lt (length xs + 1) k) h
        go (no h) = larger (omega arith) (dec_lt (best_of k xs (length xs - k)).total (run_sum k ys (length ys - k)))

    pub pushed_window : best_kept (stored w x) ≡ window_of k ys
    pushed_window = ap best_kept stored_slid ∙ best_next

-- ---- what `push` answers

all_fail : (a b c d : Bool) → (a ≡ false) ⊎ ((b ≡ false) ⊎ ((c ≡ false) ⊎ (d ≡ false))) → (a && b && c && d) ≡ false
all_fail false b c d h = refl
all_fail true false c d h = refl
all_fail true true false d h = refl
all_fail true true true false h = refl
all_fail true true true true (inl e) = e
all_fail true true true true (inr (inl e)) = e
all_fail true true true true (inr (inr (inl e))) = e
all_fail true true true true (inr (inr (inr e))) = e

and-false : (b : Bool) → (b && false) ≡ false
and-false true = refl
and-false false = refl

-- a length that is not taken; a record that stands for a list refuses nothing else
abbrev Refuses : Window → ℕ → Type 0
Refuses w x = (1000 < x) ⊎ ((1000000 ≤ w.count) ⊎ ((64000 < w.sum) ⊎ (w.sum < oldest_in w)))

refuses_by : (w : Window) (x : ℕ) → Refuses w x → record { taken = false; window = w } ≡ pushed_by w x
unfolding pushed_by
refuses_by w x why = rw (all_fail (leb x 1000) (ltb w.count 1000000) (leb w.sum 64000) (leb (oldest_in w) w.sum) (go why))
  where
    go : Refuses w x → (leb x 1000 ≡ false) ⊎ ((ltb w.count 1000000 ≡ false) ⊎ ((leb w.sum 64000 ≡ false) ⊎ (leb (oldest_in w) w.sum ≡ false)))
    go (inl h) = inl (lt-leb x 1000 h)
    go (inr (inl h)) = inr (inl (le-ltb w.count 1000000 h))
    go (inr (inr (inl h))) = inr (inr (inl (lt-leb w.sum 64000 h)))
    go (inr (inr (inr h))) = inr (inr (inr (lt-leb (oldest_in w) w.sum h)))

pub not_taken : (w : Window) (x : ℕ) → Refuses w x → Takes w x (record { taken = false; window = w })
unfolding pushed_of
not_taken w x why = record { is = refuses_by w x why; follows = λ k xs fit is. rw (shut k xs fit is why) (ap (λ (v : Window). record { taken = false; window = v }) is) }
  where
    shut : (k : ℕ) (xs : List ℕ) → Lengths k xs → w ≡ window_of k xs → Refuses w x → (leb x 1000 && ltb (length xs) 1000000) ≡ false
    shut k xs fit is (inl h) = rw (lt-leb x 1000 h)
    shut k xs fit is (inr (inl h)) = rw (le-ltb (length xs) 1000000 (omega (arith, count_is w k xs fit is))) (and-false (leb x 1000))
    shut k xs fit is (inr (inr (inl h))) = absurd (omega (arith, sum_most w k xs fit is))
    shut k xs fit is (inr (inr (inr h))) = absurd (omega (arith, oldest_most w k xs fit is))

taken_by : (w : Window) (x : ℕ) → x ≤ 1000 → w.count < 1000000 → w.sum ≤ 64000 → oldest_in w ≤ w.sum → record { taken = true; window = best_kept (stored w x) } ≡ pushed_by w x
unfolding pushed_by
taken_by w x hx hc hs ho = rw (le-leb x 1000 hx, lt-ltb w.count 1000000 hc, le-leb w.sum 64000 hs, le-leb (oldest_in w) w.sum ho)

pub taken_window : (w : Window) (x : ℕ) {v : Window} → x ≤ 1000 → w.count < 1000000 → w.sum ≤ 64000 → oldest_in w ≤ w.sum → v ≡ best_kept (stored w x) → Takes w x (record { taken = true; window = v })
unfolding pushed_of
taken_window w x {v} hx hc hs ho e = record {
  is = ap (λ (u : Window). record { taken = true; window = u }) e ∙ taken_by w x hx hc hs ho;
  follows = λ k xs fit is.
      rw (le-leb x 1000 hx, lt-ltb (length xs) 1000000 (omega (arith, count_is w k xs fit is)))
      (ap (λ (u : Window). record { taken = true; window = u }) (e ∙ pushed_window w k xs fit is x));
}
