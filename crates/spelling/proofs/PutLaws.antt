-- One thing written behind another, where the output is known to be as long as before: there was room for what was written.
-- Assumes nothing.
use Prim.Native.Nat.{ℕ, ◌+◌, ◌<◌, ◌≤◌}
use mathlib.Core.Path.{◌≡◌, ap}
use mathlib.Core.List.{◌++◌}
use native.Mathlib.Omega.{arith}
use lib.ListN.{length, take, drop, length-append, length-take, length-drop}
use Rattle.sheet.specs.Text.{Bytes}
use Rattle.text.specs.Written.{Puts, put_bytes}
use Rattle.text.proofs.WrittenLaws.{puts_then}

put_length : (at : ℕ) (w a : Bytes) → length (put_bytes at w a) ≡ length (take at a) + length w + length (drop (at + length w) a)
put_length at w a = simp length-append

pub puts_room : {at r : ℕ} {w a b : Bytes} → Puts at w a b r → length b ≡ length a → 0 < length w → at + length w ≤ length a
puts_room {at} {r} {w} {a} {b} p same some =
    omega (arith, ap length p.is, put_length at w a, length-take at a, length-drop (at + length w) a)

pub puts_behind : {at r q : ℕ} {v w a b c : Bytes} → Puts at v a b r → length b ≡ length a → Puts r w b c q → length c ≡ length b → 0 < length w → Puts at (v ++ w) a c q
puts_behind p same q kept some = puts_then p q (omega (arith, p.end, puts_room q kept some))
