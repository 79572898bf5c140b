-- Bytes moved within a slice are bytes that are put. Assumes nothing.
use mathlib.Core.Path.{◌≡◌, refl, ◌∙◌}
use Prim.Native.Nat.{ℕ, ◌+◌, ◌-◌, ◌≤◌}
use native.Mathlib.Omega.{arith}
use lib.ListN.{length, length-take, length-drop}
use Rattle.std.specs.List.{copy_within}
use Rattle.sheet.specs.Text.{Bytes}
use Rattle.text.specs.Written.{put_bytes}
use Rattle.moves.specs.Moves.{part}

part_length : (from n : ℕ) (out : Bytes) → from + n ≤ length out → length (part from n out) ≡ n
part_length from n out room = simp (length-take, length-drop) (omega arith)

pub moved_bytes : (from to n : ℕ) (out : Bytes) {now : Bytes} → from + n ≤ length out → now ≡ copy_within out from (from + n) to → now ≡ put_bytes to (part from n out) out
moved_bytes from to n out room e =
    let z : from + n - from ≡ n = omega arith in
    e ∙ rw (z, part_length from n out room) refl
