-- Cells copied one by one from other words. Assumes nothing.
use mathlib.Core.Path.{◌≡◌, ap, ◌∙◌}
use mathlib.Core.List.{List}
use Prim.Native.Nat.{ℕ, ◌+◌, ◌<◌, ◌≤◌}
use native.Mathlib.Omega.{arith}
use native.Mathlib.Numerals.{add-one}
use lib.ListN.{length, get_or, set}
use lib.Seq.{paste, paste-suc}

pub paste_more : (S : List ℕ) {T : List ℕ} (t : List ℕ) (to i : ℕ) → T ≡ paste S to t i → to + i < length S → i < length t → set T (to + i) (get_or t i 0) ≡ paste S to t (i + 1)
paste_more S t to i e h l = rw (e, add-one i) (paste-suc S to t i 0 h l)

pub paste_done : (S : List ℕ) {T : List ℕ} (t : List ℕ) (to i : ℕ) → T ≡ paste S to t i → length t ≤ i → i ≤ length t → T ≡ paste S to t (length t)
paste_done S t to i e h l = e ∙ ap (λ (k : ℕ). paste S to t k) (let z : i ≡ length t = omega arith in z)
