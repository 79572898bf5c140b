-- The ring: the last 64 lengths stand in it. Assumes nothing.
use Prim.Native.Nat.{ℕ, zero, suc, ◌+◌, ◌%◌, ◌<◌, ◌≤◌}
use mathlib.Core.Path.{◌≡◌, refl, ap, ◌∙◌}
use mathlib.Core.Logic.{◌≢◌}
use mathlib.Core.List.{List, [], ◌∷◌, ◌++◌}
use native.Mathlib.Omega.{arith}
use lib.ListN.{length, get_or, set, replicate, length-set}
use lib.Seq.{get_or-set_same, get_or-set_other}
use Rattle.load.specs.Record.{written, ring_of}

written_more : (i : ℕ) (ring xs : List ℕ) (x : ℕ) → written i ring (xs ++ (x ∷ [])) ≡ set (written i ring xs) ((i + length xs) % 64) x
unfolding written
written_more i ring [] x = let e : i + 0 ≡ i = omega arith in rw e
written_more i ring (y ∷ xs) x =
    let e : i + suc (length xs) ≡ suc i + length xs = omega arith in
    rw e (written_more (suc i) (set ring (i % 64) y) xs x)

-- a place is kept as long as none of the next lengths comes round to it
kept : (xs : List ℕ) (i : ℕ) (ring : List ℕ) (p : ℕ) → ((t : ℕ) → t < length xs → p ≢ (i + t) % 64) → get_or (written i ring xs) p 0 ≡ get_or ring p 0
unfolding written
kept [] i ring p h = refl
kept (x ∷ xs) i ring p h =
    kept xs (suc i) (set ring (i % 64) x) p (λ t l e. h (suc t) (omega arith) (let q : i + suc t ≡ suc i + t = omega arith in rw q e))
    ∙ get_or-set_other ring (i % 64) p x 0 (λ e. h 0 (omega arith) (let q : i + 0 ≡ i = omega arith in rw q e))

apart : (i t : ℕ) → t < 63 → i % 64 ≢ (suc i + t) % 64
apart i t h e = omega arith

written_at : (xs : List ℕ) (i : ℕ) (ring : List ℕ) (j : ℕ) → length ring ≡ 64 → j < length xs → length xs ≤ j + 64 → get_or (written i ring xs) ((i + j) % 64) 0 ≡ get_or xs j 0
unfolding written
written_at [] i ring j g h l = absurd (omega arith)
written_at (x ∷ xs) i ring zero g h l =
    let q : i + 0 ≡ i = omega arith in
    rw q (kept xs (suc i) (set ring (i % 64) x) (i % 64) (λ t b. apart i t (omega arith)) ∙ get_or-set_same ring (i % 64) x 0 (omega arith))
written_at (x ∷ xs) i ring (suc j) g h l =
    let q : i + suc j ≡ suc i + j = omega arith in
    rw q (written_at xs (suc i) (set ring (i % 64) x) j (length-set ring (i % 64) x ∙ g) (omega arith) (omega arith))

pub ring_more : (xs : List ℕ) (x : ℕ) → ring_of (xs ++ (x ∷ [])) ≡ set (ring_of xs) (length xs % 64) x
unfolding ring_of
ring_more xs x = written_more 0 (replicate 64 0) xs x ∙ ap (λ (i : ℕ). set (written 0 (replicate 64 0) xs) (i % 64) x) (omega arith)

pub ring_at : (xs : List ℕ) (j : ℕ) → j < length xs → length xs ≤ j + 64 → get_or (ring_of xs) (j % 64) 0 ≡ get_or xs j 0
unfolding ring_of
ring_at xs j h l = ap (λ (i : ℕ). get_or (written 0 (replicate 64 0) xs) (i % 64) 0) (omega arith) ∙ written_at xs 0 (replicate 64 0) j refl h l
