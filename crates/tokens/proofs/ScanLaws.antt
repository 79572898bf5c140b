-- The turns of the code that counts brackets by bytes: what `open_by` answers, and `few_by_bytes`. Assumes nothing.
use mathlib.Core.Path.{◌≡◌, refl, sym, ap, ◌∙◌}
use mathlib.Core.Logic.{◌⊎◌, inl, inr}
use mathlib.Core.Bool.{Bool, true, false, ◌&&◌}
use Prim.Native.Nat.{ℕ, ◌+◌, ◌-◌, ◌<◌, ◌≤◌}
use native.Mathlib.Numerals.{add-one}
use native.Mathlib.Omega.{arith}
use borrow.Author.Tests.{ne_eqb, le-leb, lt-leb}
use lib.Dec.{eqb, leb}
use lib.ListN.{length, drop, get_or, drop_of_length-le}
use Rattle.laws.proofs.Parts.{at_next}
use Rattle.sheet.specs.Text.{Bytes}
use Rattle.tokens.specs.Meanings.{open_by, few_bytes, bytes_within}
use Rattle.tokens.proofs.BracketLaws.{less_one}

-- ---- what `open_by` answers

module _ (p : Bool) (b d : ℕ) where
  pub opening : (b ≡ 40) ⊎ (b ≡ 123) → d + 1 ≡ open_by p b d
  unfolding open_by
  opening (inl e) = rw (e, add-one)
  opening (inr e) = rw (e, add-one)

  pub closing : (b ≡ 41) ⊎ (b ≡ 125) → d - 1 ≡ open_by p b d
  unfolding open_by
  closing (inl e) = rw e (less_one d)
  closing (inr e) = rw e (less_one d)

  pub of_if : b ≡ 102 → p ≡ true → d + 1 ≡ open_by p b d
  unfolding open_by
  of_if e q = rw (e, q, add-one)

  pub of_f : b ≡ 102 → p ≡ false → d ≡ open_by p b d
  unfolding open_by
  of_f e q = rw (e, q)

  pub of_other : ((b ≡ 40) ⊎ (b ≡ 123) → ⊥) → ((b ≡ 41) ⊎ (b ≡ 125) → ⊥) → (b ≡ 102 → ⊥) → d ≡ open_by p b d
  unfolding open_by
  of_other x y z =
      simp (
        ne_eqb b 40 (λ e. x (inl e)),
        ne_eqb b 123 (λ e. x (inr e)),
        ne_eqb b 41 (λ e. y (inl e)),
        ne_eqb b 125 (λ e. y (inr e)),
        ne_eqb b 102 z,
      )

-- ---- the turns of `few_by_bytes`

pub record BytesLeft (s : Bytes) (p : Bool) (d i : ℕ) : Type 0 where
  pub within : i ≤ length s
  pub few : d ≤ 64
  pub rest : few_bytes p d (drop i s) ≡ bytes_within s

pub bytes_begin : (s : Bytes) → BytesLeft s false 0 0
unfolding bytes_within
bytes_begin s = record { within = omega arith; few = omega arith; rest = refl }

module _ {s : Bytes} {p : Bool} {d i : ℕ} (left : BytesLeft s p d i) where
  pub bytes_end : length s ≤ i → true ≡ bytes_within s
  unfolding few_bytes
  bytes_end h = sym (ap (few_bytes p d) (drop_of_length-le s h)) ∙ left.rest

  module _ (h : i < length s) {r : ℕ} (e : r ≡ open_by p (get_or s i 0) d) where
    here : few_bytes p d (drop i s) ≡ (leb r 64 && few_bytes (eqb (get_or s i 0) 105) r (drop (i + 1) s))
    unfolding few_bytes
    here = rw (at_next 0 s i h, e)

    pub bytes_over : 64 < r → false ≡ bytes_within s
    bytes_over l = sym (here ∙ rw (lt-leb r 64 l)) ∙ left.rest

    pub bytes_next : r ≤ 64 → {q : Bool} → q ≡ eqb (get_or s i 0) 105 → BytesLeft s q r (i + 1)
    bytes_next l k = record { within = omega arith; few = l; rest = ap (λ (x : Bool). few_bytes x r (drop (i + 1) s)) k ∙ sym (here ∙ rw (le-leb r 64 l)) ∙ left.rest }
