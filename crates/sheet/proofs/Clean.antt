-- Bytes in which `!` stands only before a space, or before 1 and another byte than 0; a value's spelling is such. Assumes nothing.
use mathlib.Core.Path.{◌≡◌, subst}
use mathlib.Core.Logic.{◌≢◌}
use mathlib.Core.Bool.{Bool, true, false, not}
use mathlib.Core.List.{[], ◌∷◌, ◌++◌}
use Prim.Native.Nat.{ℕ, zero, suc, ◌+◌, ◌/◌, ◌%◌}
use native.Mathlib.Omega.{arith}
use lib.IntN.{ℤ, pos, negsuc}
use lib.Dec.{T, T_not, eqb, eqb_refl, ltb}
use Rattle.laws.specs.Lists.{Each, each_nil, each-cons}
use Rattle.laws.proofs.Tests.{by-if}
use Rattle.reals.specs.Reals.{Number, int, real}
use Rattle.reals.specs.Bits.{bits}
use Rattle.reals.specs.Digits.{hex_byte, hex_digits}
use Rattle.reals.specs.Spelling.{spell_real}
use Rattle.ocl.specs.Types.{Kind, set, sequence, bag}
use Rattle.ocl.specs.Values.{Value, bool, num, obj, coll, Values, nil, cons}
use Rattle.sheet.specs.Text.{Bytes, bytes, is_digit, spell_number, spell_integer}
use Rattle.sheet.specs.Spelling.{letter_byte, kind_byte, spell_bool, spell_num, spell_value, spell_members, spell_more}
use Rattle.sheet.proofs.Numbers.{digit_from, spell_digits_lem}

pub data Clean : Bytes → Type 0 where
  clean_end : Clean []
  clean_other : {b : ℕ} {s : Bytes} → b ≢ 33 → Clean s → Clean (b ∷ s)
  clean_space : {s : Bytes} → Clean s → Clean (33 ∷ 32 ∷ s)
  clean_stop : {b : ℕ} {s : Bytes} → b ≢ 48 → Clean (b ∷ s) → Clean (33 ∷ 49 ∷ b ∷ s)

-- another byte
pub other : (b : ℕ) {s : Bytes} → T (not (eqb b 33)) → Clean s → Clean (b ∷ s)
other b t h = clean_other (λ q. T_not (eqb b 33) t (subst (λ (k : ℕ). T (eqb b k)) q (eqb_refl b))) h

infixl 40 ◌next◌
pub ◌next◌ : {a b : Bytes} → Clean a → Clean b → Clean (a ++ b)
◌next◌ clean_end h = h
◌next◌ (clean_other n g) h = clean_other n (g next h)
◌next◌ (clean_space g) h = clean_space (g next h)
◌next◌ (clean_stop n g) h = clean_stop n (g next h)

-- `!100` is not in them
pub clean_free : (a b : Bytes) {s : Bytes} → Clean s → s ≡ a ++ 33 ∷ 49 ∷ 48 ∷ 48 ∷ b → ⊥
clean_free [] b clean_end e = absurd (let z : ◌≡◌ {A = ℕ} 0 1 = cc in omega arith)
clean_free [] b (clean_other n g) e = n cc
clean_free [] b (clean_space g) e = absurd (let z : ◌≡◌ {A = ℕ} 32 49 = cc in omega arith)
clean_free [] b (clean_stop n g) e = n cc
clean_free (x ∷ a) b clean_end e = absurd (let z : ◌≡◌ {A = ℕ} 0 1 = cc in omega arith)
clean_free (x ∷ a) b (clean_other n g) e = clean_free a b g cc
clean_free (x ∷ a) b (clean_space {s} g) e = clean_free a b {s = 32 ∷ s} (other 32 tt g) cc
clean_free (x ∷ a) b (clean_stop {b = c} {s} n g) e = clean_free a b {s = 49 ∷ c ∷ s} (other 49 tt g) cc

-- ---- what is spelled has none, but for stops

clean_digits : {d : Bytes} → Each (λ b. T (is_digit b)) d → Clean d
clean_digits each_nil = clean_end
clean_digits (each-cons {n} t h) = clean_other (λ (q : n ≡ 33). let k = digit_from n t in omega arith) (clean_digits h)

pub clean_number : (n : ℕ) → Clean (spell_number n)
clean_number n = clean_digits (spell_digits_lem n)

clean_integer : (z : ℤ) → Clean (spell_integer z)
unfolding spell_integer
clean_integer (pos n) = clean_number n
clean_integer (negsuc n) = other 45 tt (clean_number (suc n))

clean_digit : (d : ℕ) → hex_byte d ≡ 33 → ⊥
unfolding hex_byte
clean_digit d = by-if (λ (b : ℕ). b ≡ 33 → ⊥) (ltb d 10) (48 + d) (87 + d) (λ t q. omega arith) (λ t q. omega arith)

clean_hex : (k n : ℕ) → Clean (hex_digits k n)
unfolding hex_digits
clean_hex zero n = clean_end
clean_hex (suc k) n = clean_hex k (n / 16) next clean_other (clean_digit (n % 16)) clean_end

clean_num : (x : Number) → Clean (spell_num x)
unfolding spell_num spell_real
clean_num (int z) = clean_integer z
clean_num (real r) = other 114 tt (clean_hex 16 (bits r))

clean_bool : (b : Bool) → Clean (spell_bool b)
unfolding spell_bool bytes
clean_bool true = other 116 tt clean_end
clean_bool false = other 102 tt clean_end

kind_other : (k : Kind) → kind_byte k ≢ 33
unfolding kind_byte letter_byte
kind_other set q = omega arith
kind_other sequence q = omega arith
kind_other bag q = omega arith

mutual
  unfolding spell_value bytes

  pub clean_value : (v : Value) → Clean (spell_value v)
  clean_value (bool b) = clean_bool b
  clean_value (num x) = clean_num x
  clean_value (obj o) = other 64 tt (clean_number o)
  clean_value (coll k vs) = clean_other (kind_other k) (other 40 tt (clean_members vs))

  clean_members : (vs : Values) → Clean (spell_members vs)
  clean_members nil = other 41 tt clean_end
  clean_members (cons v vs) = clean_value v next clean_more vs

  clean_more : (vs : Values) → Clean (spell_more vs)
  clean_more nil = other 41 tt clean_end
  clean_more (cons v vs) = other 44 tt (clean_value v next clean_more vs)

pub space : Clean (bytes " ")
unfolding bytes
space = other 32 tt clean_end

pub feed : Clean (bytes "\n")
unfolding bytes
feed = other 10 tt clean_end
