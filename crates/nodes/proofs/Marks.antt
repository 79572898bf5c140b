-- The word of a mark tells its row, its kind and its numbers. Assumes nothing.
use mathlib.Core.Path.{◌≡◌, refl, ◌∙◌}
use Prim.Native.Nat.{ℕ, ◌+◌, ◌%◌, ◌<◌}
use native.Mathlib.Omega.{arith}
use borrow.Author.Tests.{lt-ltb, le-ltb}
use Rattle.ocl.specs.Types.{set, sequence, bag, kind_code, same_kind}
use Rattle.ocl.specs.Marks.{integers, reals, Mark, of_row, of_rows, of_numbers, row_marked, kind_marked, scale_marked}
use Rattle.nodes.specs.Marks.{mark_word, kind_in, scale_in, Marked}

low : (m : Mark) (i : ℕ) → i < 64 → row_marked m ≡ i → kind_marked m ≡ bag → scale_marked m ≡ integers → Marked i m
unfolding kind_in scale_in
low m i h r k s =
    let whole : i % 128 ≡ i = omega arith in
    record { row = r ∙ omega arith; kind = rw (whole, lt-ltb i 64 h) k; scale = rw (lt-ltb i 128 (omega arith)) s }

high : (i : ℕ) → i < 64 → Marked (64 + i) (of_rows sequence i)
unfolding kind_in scale_in row_marked kind_marked scale_marked
high i h =
    let whole : (64 + i) % 128 ≡ 64 + i = omega arith in
    record { row = omega arith; kind = rw (whole, le-ltb (64 + i) 64 (omega arith)); scale = rw (lt-ltb (64 + i) 128 (omega arith)) }

pub marked : (m : Mark) → row_marked m < 64 → (kind_marked m ≡ set → ⊥) → Marked (mark_word m) m
unfolding mark_word kind_in scale_in row_marked kind_marked scale_marked same_kind kind_code
marked (of_row i) h n = low (of_row i) i h refl refl refl
marked (of_rows set i) h n = absurd (n refl)
marked (of_rows sequence i) h n = high i h
marked (of_rows bag i) h n = low (of_rows bag i) i h refl refl refl
marked (of_numbers integers) h n = low (of_numbers integers) 0 h refl refl refl
marked (of_numbers reals) h n = record { row = refl; kind = refl; scale = refl }
