-- A Real is read back as it is written, and only so. Assumes nothing.
use mathlib.Core.Path.{◌≡◌, refl, sym, ap, ◌∙◌}
use mathlib.Core.Option.{Option, some, none-ne-some, some-injective}
use mathlib.Core.List.{[], ◌∷◌, ◌++◌}
use Prim.Native.Nat.{ℕ, zero, suc, ◌+◌, ◌*◌}
use native.Mathlib.Omega.{arith}
use lib.ListN.{length}
use lib.Dec.{T}
use Rattle.laws.specs.Choice.{on_some}
use Rattle.laws.proofs.Tests.{and_l, and_r, test_true}
use Rattle.laws.proofs.Options.{on_some_some, if_some}
use Rattle.reals.specs.Reals.{Real, is_binary64, real, held, is_real, kept}
use Rattle.reals.specs.Bits.{bits, from_bits}
use Rattle.reals.specs.Digits.{hex_digit, hex_digits, hex_number}
use Rattle.reals.specs.Spelling.{spell_real}
use Rattle.reals.proofs.Bits.{bits_below, bits_back, real_bits}
use Rattle.reals.proofs.Digits.{hex_length, digit_laws}
use Rattle.sheet.specs.Text.{Bytes, byte, bytes, ◌then◌, hex_parser, no_integer, real_parser}
use Rattle.sheet.proofs.Parsers.{Reads, behind_reads, Spells, behind_spells}

-- ---- digits in front

-- some digits, then the rest
pub front_read : (cs : Bytes) (k a b : ℕ) (rest : Bytes) → length cs ≡ k → hex_number a cs ≡ some b → hex_parser k a (cs ++ rest) ≡ some (b, rest)
unfolding hex_parser hex_number on_some
front_read [] zero a b rest l e = ap (λ (x : ℕ). some (x, rest)) (some-injective _ _ e)
front_read [] (suc k) a b rest l e = absurd (omega (arith, l))
front_read (c ∷ cs) zero a b rest l e = absurd (omega (arith, l))
front_read (c ∷ cs) (suc k) a b rest l e =
    let m = on_some_some (hex_digit c) (λ d. hex_number (a * 16 + d) cs) e in
    ap (λ (o : Option ℕ). on_some o (λ d. hex_parser k (a * 16 + d) (cs ++ rest))) m.1 ∙ step m.0 (front_read cs k (a * 16 + m.0) b rest (omega (arith, l)) m.2)
  where
    step : (d : ℕ) → hex_parser k (a * 16 + d) (cs ++ rest) ≡ some (b, rest) → on_some (some d) (λ d. hex_parser k (a * 16 + d) (cs ++ rest)) ≡ some (b, rest)
    step d h = h

-- what is read in front are digits
pub record Digits (k a b : ℕ) (s rest : Bytes) : Type 0 where
  pub those : Bytes
  pub long : length those ≡ k
  pub number : hex_number a those ≡ some b
  pub split : s ≡ those ++ rest

pub read_front : (k a b : ℕ) (s rest : Bytes) → hex_parser k a s ≡ some (b, rest) → Digits k a b s rest
unfolding hex_parser hex_number on_some
read_front zero a b s rest e = record {
  those = [];
  long = refl;
  number = none_yet;
  split = ap (λ (x : ℕ × Bytes). x.1) (some-injective _ _ e);
}
  where
    none_yet : hex_number a [] ≡ some b
    none_yet = ap (λ (x : ℕ × Bytes). some x.0) (some-injective _ _ e)
read_front (suc k) a b [] rest e = absurd (none-ne-some _ e)
read_front (suc k) a b (c ∷ s) rest e =
    let m = on_some_some (hex_digit c) (λ d. hex_parser k (a * 16 + d) s) e in
    let h = read_front k (a * 16 + m.0) b s rest m.2 in
    record {
      those = c ∷ h.those;
      long = ap suc h.long;
      number = next h.those m.0 m.1 h.number;
      split = ap (λ (x : Bytes). c ∷ x) h.split;
    }
  where
    next : (cs : Bytes) (d : ℕ) → hex_digit c ≡ some d → hex_number (a * 16 + d) cs ≡ some b → hex_number a (c ∷ cs) ≡ some b
    next cs d p q = ap (λ (o : Option ℕ). on_some o (λ d. hex_number (a * 16 + d) cs)) p ∙ q

-- ---- a Real

digits_read : (r : Real) → T (kept (real r)) → Reads (hex_parser 16 0 then (λ b. no_integer (from_bits b))) (hex_digits 16 (bits r)) r
unfolding ◌then◌ on_some no_integer kept
digits_read r h =
    let p = and_l (is_binary64 r) (is_real (held r)) h in
    record {
      read = λ rest st.
          rw
          (front_read (hex_digits 16 (bits r)) 16 0 (bits r) rest (hex_length 16 (bits r)) (digit_laws.back (bits r) (bits_below r p)), bits_back r p, test_true (is_real (held r)) (and_r (is_binary64 r) (is_real (held r)) h));
    }

pub real_reads : (r : Real) → T (kept (real r)) → Reads real_parser (spell_real r) r
unfolding real_parser spell_real bytes
real_reads r h = behind_reads "r" (digits_read r h)

digits_spell : Spells (bytes "r") (hex_parser 16 0 then (λ b. no_integer (from_bits b))) spell_real
unfolding ◌then◌ no_integer spell_real bytes
digits_spell = record { spelled = got }
  where
    got : (s : Bytes) (r : Real) (rest : Bytes) → (hex_parser 16 0 then (λ b. no_integer (from_bits b))) s ≡ some (r, rest) → byte "r" ∷ s ≡ byte "r" ∷ (hex_digits 16 (bits r) ++ rest)
    got s r rest e =
        let m = on_some_some (hex_parser 16 0 s) (λ (x : ℕ × Bytes). no_integer (from_bits x.0) x.1) e in
        let b = m.0.0 in
        let d = read_front 16 0 b s m.0.1 m.1 in
        let k = digit_laws.only d.those b d.long d.number in
        let n = if_some (is_real (held (from_bits b))) (from_bits b, m.0.1) m.2 in
        let same : from_bits b ≡ r = ap (λ (x : Real × Bytes). x.0) n.1 in
        let left : m.0.1 ≡ rest = ap (λ (x : Real × Bytes). x.1) n.1 in
        ap (λ (x : Bytes). byte "r" ∷ x)
        (d.split ∙ ap (λ (x : Bytes). x ++ m.0.1) (k.1 ∙ ap (hex_digits 16) (sym (real_bits b k.0) ∙ ap bits same)) ∙ ap (λ (x : Bytes). hex_digits 16 (bits r) ++ x) left)

pub real_spells : Spells [] real_parser spell_real
unfolding real_parser
real_spells = behind_spells "r" digits_spell
