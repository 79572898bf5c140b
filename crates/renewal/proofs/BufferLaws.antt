-- A line put into the buffer, or over its last bytes. Assumes nothing.
use mathlib.Core.Path.{◌≡◌, refl, sym, ap, ◌∙◌}
use mathlib.Core.List.{[], ◌++◌}
use Prim.Native.Nat.{ℕ, ◌+◌, ◌-◌, ◌≤◌, ◌<◌, min}
use native.Mathlib.Omega.{arith}
use native.Mathlib.Decide.{dec_lt}
use lib.ListN.{length, take, drop, length-append}
use lib.Seq.{take-append-le, take-length}
use Rattle.sheet.specs.Text.{Bytes}
use Rattle.text.specs.Written.{Puts}
use Rattle.text.proofs.WrittenLaws.{puts_length}
use Rattle.moves.proofs.SpreadLaws.{take_put}
use Rattle.renewal.specs.Fresh.{Buffers}

pub buffers_none : (buf : Bytes) → Buffers buf [] 0
buffers_none buf = record { long = refl; holds = λ h p q. let z : h ≡ 0 = omega arith in rw z refl }

module _ {buf w line now : Bytes} {bytes at end : ℕ} (so : Buffers buf w bytes) (place : at ≡ min bytes (length buf - 2560)) (room : 2560 ≤ length buf)
    (short : length line ≤ 2319) (puts : Puts at line buf now end) where
  buffer_size : length now ≡ length buf
  buffer_size = puts_length puts (omega arith)

  pub buffers_line : Buffers now (w ++ line) (bytes + (end - at))
  buffers_line = record {
    long = simp length-append (omega (arith, so.long, puts.end));
    holds = λ h p q. by h (omega (arith, buffer_size)) (omega (arith, length-append w line)) (dec_lt (length buf - 2560) bytes);
  }
    where
      by : (h : ℕ) → h + 2560 ≤ length buf → h ≤ length w + length line → Dec (length buf - 2560 < bytes) → take h now ≡ take h (w ++ line)
      by h p q (yes l) =
          ap (take h) puts.is ∙ take_put at line buf (omega arith) h (omega arith)
          ∙ so.holds h p (omega (arith, so.long)) ∙ sym (take-append-le h w line (omega (arith, so.long)))
      by h p q (no l) =
          let z : at ≡ length w = omega (arith, so.long) in
          let front : take at buf ≡ w = so.holds at (omega arith) (omega arith) ∙ rw z (take-length w) in
          ap (take h) (puts.is ∙ rw front)
          ∙ take-append-le h (w ++ line) (drop (at + length line) buf) (omega (arith, length-append w line))
