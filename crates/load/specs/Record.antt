-- Document 02, F-14: "The running record takes one length at a time". What it is after a list of lengths: each of its fields by the list.
use Rattle.std.specs.Prelude.{ℕ, suc, ◌+◌, ◌-◌, ◌%◌, ◌≤◌, ◌≡◌, Bool, true, false, ◌&&◌, ◌||◌, List, [], ◌∷◌, ◌++◌, length, get_or, set, replicate, eqb, leb, ltb}
use Rattle.std.proofs.Math.Option.{Option, none, some}
use Rattle.std.specs.Prelude.{Option as Maybe, None, Some}
use Rattle.std.specs.Prelude.{if◌then◌else◌}
use Rattle.laws.specs.Lists.{Each}
use Rattle.load.specs.Windows.{run_sum, Load, load}
use Rattle.load.specs.declared.window.Window.{Window}

-- the lengths in a ring of 64, the length behind the first i at i % 64
unfoldable pub written : ℕ → List ℕ → List ℕ → List ℕ
written i ring [] = ring
written i ring (x ∷ xs) = written (suc i) (set ring (i % 64) x) xs

unfoldable pub ring_of : List ℕ → List ℕ
ring_of xs = written 0 (replicate 64 0) xs

-- the best run so far, 0 and 0 where there is none
unfoldable pub total_of : Option Load → ℕ
total_of none = 0
total_of (some l) = l.total

unfoldable pub first_of : Option Load → ℕ
first_of none = 0
first_of (some l) = l.first

-- the sum is that of the last k lengths, of all where they are fewer
unfoldable pub window_of : ℕ → List ℕ → Window
window_of k xs = record {
  width = k;
  count = length xs;
  recent = ring_of xs;
  sum = run_sum k xs (length xs - k);
  largest = total_of (load k xs);
  first = first_of (load k xs);
}

-- "every list of at most 1,000,000 such lengths", of at most 1,000 each, and a window of 1 to 64
pub record Lengths (k : ℕ) (xs : List ℕ) : Type 0 where
  pub narrow : 1 ≤ k
  pub wide : k ≤ 64
  pub few : length xs ≤ 1000000
  pub short : Each (λ x. x ≤ 1000) xs

-- ---- what the record's functions give

-- a record that has taken nothing
unfoldable pub empty_window : ℕ → Window
empty_window k = record { width = k; count = 0; recent = replicate 64 0; sum = 0; largest = 0; first = 0 }

pub record Fresh (k : ℕ) (w : Window) : Type 0 where
  pub is : w ≡ empty_window k
  pub follows : 1 ≤ k → w ≡ window_of k []

-- a record that was handed a length, and whether it took it
pub record Pushed : Type 0 where
  pub taken : Bool
  pub window : Window

-- the record after one length more: none above 1,000 is taken, and none behind 1,000,000 others
unfoldable pub pushed_of : ℕ → List ℕ → ℕ → Pushed
pushed_of k xs x =
    if leb x 1000 && ltb (length xs) 1000000 then record { taken = true; window = window_of k (xs ++ (x ∷ [])) }
    else record { taken = false; window = window_of k xs }

-- ---- the same of any record, whether a list of lengths leads to it or not

-- the length that leaves a full window
unfoldable pub oldest_in : Window → ℕ
oldest_in w = if ltb w.count w.width then 0 else get_or w.recent ((w.count - w.width) % 64) 0

-- the length in the ring, and the sum of the new window
unfoldable pub stored : Window → ℕ → Window
stored w x = record {
  width = w.width;
  count = w.count + 1;
  recent = set w.recent (w.count % 64) x;
  sum = w.sum - oldest_in w + x;
  largest = w.largest;
  first = w.first;
}

-- the run that ends here takes the place of the best one where it is the first or its sum is larger
unfoldable pub best_kept : Window → Window
best_kept w =
    if ltb w.count w.width then w
    else if eqb w.first 0 || ltb w.largest w.sum then record {
      width = w.width;
      count = w.count;
      recent = w.recent;
      sum = w.sum;
      largest = w.sum;
      first = w.count - w.width + 1;
    }
    else w

-- any record after one length more; the last two tests fail only where no list of lengths leads to the record
unfoldable pub pushed_by : Window → ℕ → Pushed
pushed_by w x =
    if leb x 1000 && ltb w.count 1000000 && leb w.sum 64000 && leb (oldest_in w) w.sum
    then record { taken = true; window = best_kept (stored w x) }
    else record { taken = false; window = w }

-- for every record, and for the record after any list of lengths
pub record Takes (w : Window) (x : ℕ) (r : Pushed) : Type 0 where
  pub is : r ≡ pushed_by w x
  pub follows : (k : ℕ) (xs : List ℕ) → Lengths k xs → w ≡ window_of k xs → r ≡ pushed_of k xs x

-- the record with the length, or the old one where that was not taken
abbrev pub pushed : Window → Maybe Window → Pushed
pushed w (Some v) = record { taken = true; window = v }
pushed w None = record { taken = false; window = w }

-- the same of a record that is lent
abbrev pub Pushes : Window → ℕ → Bool → Window → Type 0
Pushes w x taken after = Takes w x (record { taken = taken; window = after })
