-- A number that is cut at a bound c: a test with a limit that is not above c does not see the cut. Assumes nothing.
use Prim.Native.Nat.{ℕ, ◌<◌, ◌≤◌, min}
use mathlib.Core.Path.{◌≡◌, sym, ◌∙◌}
use native.Mathlib.Omega.{arith}
use native.Mathlib.Decide.{dec_lt}
use borrow.Author.Tests.{lt-ltb, le-ltb}
use lib.Dec.{ltb}

module _ (n c k : ℕ) where
  pub cut_lt : k ≤ c → ltb (min n c) k ≡ ltb n k
  cut_lt h = go (dec_lt n k)
    where
      go : Dec (n < k) → ltb (min n c) k ≡ ltb n k
      go (yes l) = lt-ltb (min n c) k (omega arith) ∙ sym (lt-ltb n k l)
      go (no l) = le-ltb (min n c) k (omega arith) ∙ sym (le-ltb n k (omega arith))
