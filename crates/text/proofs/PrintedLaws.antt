-- Two numbers on a line, part behind part, and a refusal's line. Assumes nothing.
use Prim.Native.Nat.{ℕ, ◌+◌, ◌<◌, ◌≤◌}
use mathlib.Core.Path.{◌≡◌}
use mathlib.Core.List.{[], ◌∷◌, ◌++◌}
use native.Mathlib.Omega.{arith}
use lib.ListN.{length, length-append}
use mir.Syntax.{w64}
use mir.Val.{Fits}
use borrow.Author.Tests.{ne_eqb}
use Rattle.sheet.specs.Text.{Bytes, bytes, spell_number}
use Rattle.sheet.proofs.Numbers.{digits_at_most}
use Rattle.sheet.specs.Calls.{refusal_at}
use Rattle.sheet.specs.Report.{printed}
use Rattle.text.specs.Written.{Puts}
use Rattle.text.proofs.WrittenLaws.{puts_length, puts_then}

-- a number of 64 bits has at most 20 digits
number_short : (n : ℕ) → Fits w64 n → length (spell_number n) ≤ 20
number_short n h = digits_at_most 20 n (omega arith) (omega arith)

module _ (at m n : ℕ) (a : Bytes) (pre : at + 42 ≤ length a) (fm : Fits w64 m) (fn : Fits w64 n) where
  pub room_first : at + length (spell_number m) ≤ length a
  room_first = omega (arith, number_short m fm)

  module _ {b : Bytes} {gap : ℕ} (p : Puts at (spell_number m) a b gap) where
    pub room_gap : gap < length b
    room_gap = omega (arith, p.end, puts_length p room_first, number_short m fm)

    module _ {c : Bytes} {behind : ℕ} (q : Puts gap (32 ∷ []) b c behind) where
      to_gap : Puts at (spell_number m ++ (32 ∷ [])) a c behind
      to_gap = puts_then p q (omega (arith, number_short m fm))

      gap_long : length (spell_number m ++ (32 ∷ [])) ≤ 21
      gap_long = simp length-append (omega (arith, number_short m fm))

      pub room_second : behind + length (spell_number n) ≤ length c
      room_second = omega (arith, to_gap.end, puts_length to_gap (omega (arith, gap_long)), gap_long, number_short n fn)

      module _ {d : Bytes} {end : ℕ} (s : Puts behind (spell_number n) c d end) where
        to_second : Puts at (spell_number m ++ (32 ∷ []) ++ spell_number n) a d end
        to_second = puts_then to_gap s (omega (arith, gap_long, number_short n fn))

        second_long : length (spell_number m ++ (32 ∷ []) ++ spell_number n) ≤ 41
        second_long = simp length-append (omega (arith, number_short m fm, number_short n fn))

        pub room_end : end < length d
        room_end = omega (arith, to_second.end, puts_length to_second (omega (arith, second_long)), second_long)

        pub pair_line : {e : Bytes} {r : ℕ} → Puts end (10 ∷ []) d e r → Puts at (spell_number m ++ (32 ∷ []) ++ spell_number n ++ (10 ∷ [])) a e r × (r ≤ length e)
        pair_line t = (puts_then to_second t (omega (arith, second_long)), omega (arith, t.end, puts_length t (omega (arith, room_end)), room_end))

-- two numbers of 64 bits on a line are at most 42 bytes
pair_short : (m n : ℕ) → Fits w64 m → Fits w64 n → length (spell_number m ++ (32 ∷ []) ++ spell_number n ++ (10 ∷ [])) ≤ 42
pair_short m n fm fn = simp length-append (omega (arith, number_short m fm, number_short n fn))

module _ (n k : ℕ) (a : Bytes) (pre : (0 < n) × (64 ≤ length a)) (fn : Fits w64 n) (fk : Fits w64 k) where
  refusal_bytes : printed (refusal_at n k) ≡ (33 ∷ 32 ∷ []) ++ (spell_number n ++ (32 ∷ []) ++ spell_number k ++ (10 ∷ []))
  unfolding printed refusal_at bytes
  refusal_bytes = rw (ne_eqb n 0 (λ e. omega arith))

  module _ {b : Bytes} {mark : ℕ} (p : Puts 0 (33 ∷ 32 ∷ []) a b mark) where
    pub refusal_line : {c : Bytes} {r : ℕ} → Puts mark (spell_number n ++ (32 ∷ []) ++ spell_number k ++ (10 ∷ [])) b c r → Puts 0 (printed (refusal_at n k)) a c r
    refusal_line q = rw refusal_bytes (puts_then p q (omega (arith, pair_short n k fn fk)))
