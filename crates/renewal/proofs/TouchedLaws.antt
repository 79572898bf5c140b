-- The bits of the rules, set one after the other. Assumes nothing.
use mathlib.Core.Path.{◌≡◌, refl, sym, ap, ◌∙◌}
use mathlib.Core.Bool.{Bool, true, false, ◌&&◌, ◌||◌}
use mathlib.Core.List.{List}
use Prim.Native.Nat.{ℕ, ◌+◌, ◌*◌, ◌%◌, ◌^◌, ◌≤◌, ◌<◌}
use native.Mathlib.Omega.{arith}
use native.Mathlib.Nat.{one-mul}
use native.Mathlib.Decide.{dec_lt}
use lib.Bits.{bit_or}
use lib.Pow.{shl_exact}
use lib.ListN.{get_or}
use borrow.Author.Tests.{eq-eqb, ne_eqb}
use Rattle.laws.proofs.Elements.{elem_at}
use Rattle.memory.specs.Map as memory
use Rattle.tables.specs.declared.Counts.{Counts}
use Rattle.rows.specs.Bits.{bit}
use Rattle.rows.proofs.BitLaws.{no_bit, one_bit, or_bit}
use Rattle.rows.proofs.RuleLaws.{rule_bits}
use Rattle.renewal.specs.Touched.{TellsTouched, SetsBit}

-- ---- one bit

pub bit_set : (word : ℕ) {i : ℕ} {on : Bool} → i < 64 → on ≡ true → SetsBit word i on (bit_or word (1 * 2 ^ i % 18446744073709551616))
bit_set word {i} h e =
    let one : 1 * 2 ^ i % 2 ^ 64 ≡ 2 ^ i = shl_exact 1 i 64 (omega arith) (omega arith) ∙ one-mul (2 ^ i) in
    record { at = λ k. rw (one, e) (or_bit word (2 ^ i) k ∙ rw (one_bit i k)) }

pub bit_left : (word i : ℕ) {on : Bool} → on ≡ false → SetsBit word i on word
bit_left word i e = record { at = λ k. rw e (sym (by (bit word k))) }
  where
    by : (b : Bool) → b || false ≡ b
    by true = refl
    by false = refl

-- ---- the bits of the first r rules

pub record TouchedTo (rules : ℕ) (w0 w2 : List ℕ) (a touched r : ℕ) : Type 0 where
  pub at : (i : ℕ) → i < r → bit touched i ≡ bit (get_or w2 (get_or w0 (memory.roots + i) 0) 0) a
  pub none : (i : ℕ) → r ≤ i → bit touched i ≡ false
  pub within : r ≤ rules

module _ {rules : ℕ} {w0 w2 : List ℕ} {a : ℕ} where
  pub touched_none : TouchedTo rules w0 w2 a 0 0
  touched_none = record { at = λ i h. absurd (omega arith); none = λ i h. no_bit i; within = omega arith }

  pub touched_next : {touched r root after : ℕ} {on : Bool} → TouchedTo rules w0 w2 a touched r → r < rules → root ≡ get_or w0 (memory.roots + r) 0
      → on ≡ bit (get_or w2 root 0) a → SetsBit touched r on after → TouchedTo rules w0 w2 a after (r + 1)
  touched_next {touched} {r} {root} {after} {on} so h e sees set = record {
    at = λ i l. by i (dec_lt i r) (omega arith);
    none = λ i l. set.at i ∙ rw (so.none i (omega arith), ne_eqb i r (λ q. omega arith)) (off on);
    within = omega arith;
  }
    where
      off : (b : Bool) → b && false ≡ false
      off true = refl
      off false = refl

      same : (b c : Bool) → b || (c && false) ≡ b
      same true c = refl
      same false c = off c

      whole : (c : Bool) → c && true ≡ c
      whole true = refl
      whole false = refl

      by : (i : ℕ) → Dec (i < r) → i ≤ r → bit after i ≡ bit (get_or w2 (get_or w0 (memory.roots + i) 0) 0) a
      by i (yes l) q = set.at i ∙ rw (ne_eqb i r (λ z. omega arith)) (same (bit touched i) on) ∙ so.at i l
      by i (no l) q =
          let z : i ≡ r = omega arith in
          rw z (set.at r ∙ rw (so.none r (omega arith), eq-eqb r r refl) (whole on) ∙ sees ∙ ap (λ (n : ℕ). bit (get_or w2 n 0) a) e)

  pub touched_all : {st : Counts} {touched r : ℕ} → TouchedTo rules w0 w2 a touched r → rules ≡ st.rules → rules ≤ r → TellsTouched st w0 w2 a touched
  touched_all {r = r} so count h = record {
    is = λ w1 seen s ts g. record {
      at = λ i x e.
          let l : i < r = omega (arith, (elem_at s.rules i x e).0, g.lies.holds.counted.rules) in
          so.at i l ∙ (rule_bits g seen i x e).is a;
    };
  }
