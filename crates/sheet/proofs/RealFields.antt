-- What the sheet reads of a field as a Real, and what it refuses, is what the crate `reals` says of it. Assumes nothing.
use mathlib.Core.Path.{◌≡◌, refl, sym, ap, ◌∙◌, subst}
use mathlib.Core.Bool.{Bool, true, false, not, ◌&&◌, true≢false}
use mathlib.Core.Option.{Option, none, some, none-ne-some}
use mathlib.Core.List.{[], ◌∷◌, ◌++◌, append-nil}
use Prim.Native.Nat.{ℕ, zero, suc, ◌+◌, ◌*◌, ◌/◌, ◌%◌, ◌^◌, ◌≤◌, ◌<◌}
use native.Mathlib.Nat.{le_trans, lt_of_not-le, mul-le-mul_left, mul-le-mul_right, le-div_iff_mul-le}
use native.Mathlib.Omega.{arith}
use lib.IntN.{ℤ}
use lib.Pow.{pow_pos, pow_mono}
use lib.Dec.{T, T_not, eqb, eqb→eq, leb, ltb→lt}
use lib.ListN.{length, length-append}
use Rattle.laws.specs.Choice.{on_some, map_some}
use Rattle.std.specs.Prelude.{if◌then◌else◌}
use Rattle.laws.proofs.Tests.{and_r, by-if}
use Rattle.reals.specs.Reals.{Real, binary, is_binary64, in_range, signed, held_as, held, is_real}
use Rattle.reals.specs.Bits.{from_fields, from_bits}
use Rattle.reals.specs.Digits.{hex_digit, hex_number}
use Rattle.reals.specs.Spelling.{reads, refused, held_as_real, finite_real, of_digits, read_real}
use Rattle.reals.proofs.Bits.{real_binary64}
use Rattle.sheet.specs.Text.{Bytes, bytes, after, behind, ◌then◌, at_end, whole, hex_parser, no_integer, real_parser}
use Rattle.sheet.specs.SpellingLaws.{reading_of}
use Rattle.sheet.proofs.RealSpelling.{front_read, read_front}

-- ---- what is no binary64 number is no Integer in range

out_of_range : (s : Bool) (n : ℕ) → 2 ^ 52 ≤ n → T (in_range (signed s n)) → ⊥
unfolding in_range signed
out_of_range false n h t = let l = ltb→lt n 2147483648 t in omega arith
out_of_range true zero h t = omega arith
out_of_range true (suc n) h t = let l = ltb→lt n 2147483648 t in omega arith

stays_real : (b : Bool) (z : ℤ) (r : Real) → (T b → ⊥) → T (is_real (held_as b z r))
unfolding is_real held_as
stays_real true z r h = absurd (h tt)
stays_real false z r h = tt

pub large_real : (s : Bool) (m e : ℕ) → 2 ^ 52 ≤ m → 1074 ≤ e → T (is_real (held (binary s m e)))
unfolding held
large_real s m e l h =
    let a : 2 ^ 52 * 2 ^ 1074 ≤ m * 2 ^ e = le_trans (mul-le-mul_right (2 ^ 1074) l) (mul-le-mul_left m (pow_mono {i = 1074} {j = e} h)) in
    let q : 2 ^ 52 ≤ m * 2 ^ e / 2 ^ 1074 = (le-div_iff_mul-le (pow_pos 1074)).1 a in
    stays_real (eqb (m * 2 ^ e % 2 ^ 1074) 0 && in_range (signed s (m * 2 ^ e / 2 ^ 1074))) (signed s (m * 2 ^ e / 2 ^ 1074)) (binary s m e)
    (λ t. out_of_range s (m * 2 ^ e / 2 ^ 1074) q (and_r (eqb (m * 2 ^ e % 2 ^ 1074) 0) (in_range (signed s (m * 2 ^ e / 2 ^ 1074))) t))

no_integer_lem : (b : ℕ) → T (not (is_binary64 (from_bits b))) → T (is_real (held (from_bits b)))
unfolding from_bits from_fields
no_integer_lem b h = go (b % 2 ^ 63 / 2 ^ 52) refl
  where
    low : b % 2 ^ 63 < 2047 * 2 ^ 52 → ⊥
    low l = T_not (is_binary64 (from_bits b)) h (real_binary64 b l)

    go : (x : ℕ) → b % 2 ^ 63 / 2 ^ 52 ≡ x → T (is_real (held (from_fields (leb (2 ^ 63) b) x (b % 2 ^ 52))))
    go zero e = absurd (low (omega (arith, e)))
    go (suc k) e = large_real (leb (2 ^ 63) b) (2 ^ 52 + b % 2 ^ 52) k (omega arith) (lt_of_not-le (λ (l : k ≤ 1073). low (omega (arith, e, l))))

-- ---- a field

-- both ask whether it is a binary64 number, and whether it is held as a Real
alike : (r : Real) → (T (not (is_binary64 r)) → T (is_real (held r))) → finite_real r ≡ reading_of (on_some (no_integer r []) (λ x. at_end x.0 x.1))
unfolding finite_real held_as_real reading_of no_integer at_end on_some
alike r h = go (is_binary64 r) (is_real (held r)) refl h
  where
    go : (a b : Bool) → is_binary64 r ≡ a → (T (not a) → T b)
        → (if a then if b then reads r else refused 3 else refused 4) ≡ reading_of (on_some {A = Real × Bytes} (if b then some (r, []) else none) (λ x. at_end x.0 x.1))
    go true true e k = ap (λ t. if t then reads r else refused 4) (sym e)
    go true false e k = refl
    go false true e k = ap (λ t. if t then reads r else refused 4) (sym e)
    go false false e k = absurd (k tt)

-- bytes that are left over make it no field
left_over : (r : Real) (x : ℕ) (s : Bytes) → refused 3 ≡ reading_of (on_some (no_integer r (x ∷ s)) (λ y. at_end y.0 y.1))
unfolding reading_of no_integer at_end on_some
left_over r x s = by-if (λ o. refused 3 ≡ reading_of (on_some o (λ y. at_end y.0 y.1))) (is_real (held r)) (some (r, x ∷ s)) none (λ t. refl) (λ t. refl)

digits_alike : (cs : Bytes) → (if eqb (length cs) 16 then of_digits (hex_number 0 cs) else refused 3)
    ≡ reading_of (on_some ((hex_parser 16 0 then (λ b. no_integer (from_bits b))) cs) (λ x. at_end x.0 x.1))
unfolding ◌then◌ of_digits reading_of on_some
digits_alike cs = go (hex_parser 16 0 cs) refl
  where
    no_digits : (o : Option ℕ) → hex_number 0 cs ≡ o → length cs ≡ 16 → hex_parser 16 0 cs ≡ none → of_digits o ≡ refused 3
    no_digits none e l n = refl
    no_digits (some b) e l n = absurd (none-ne-some _ (sym n ∙ ap (hex_parser 16 0) (sym (append-nil cs)) ∙ front_read cs 16 0 b [] l e))

    go : (o : Option (ℕ × Bytes)) → hex_parser 16 0 cs ≡ o → (if eqb (length cs) 16 then of_digits (hex_number 0 cs) else refused 3)
        ≡ reading_of (on_some (on_some o (λ x. no_integer (from_bits x.0) x.1)) (λ x. at_end x.0 x.1))
    go none e = by-if (λ x. x ≡ refused 3) (eqb (length cs) 16) _ _ (λ t. no_digits (hex_number 0 cs) refl (eqb→eq (length cs) 16 t) e) (λ t. refl)
    go (some (b, [])) e =
        let d = read_front 16 0 b cs [] e in
        let w : cs ≡ d.those = d.split ∙ append-nil d.those in
        ap (λ n. if eqb n 16 then of_digits (hex_number 0 cs) else refused 3) (ap length w ∙ d.long) ∙ ap (λ x. of_digits (hex_number 0 x)) w ∙ ap of_digits d.number ∙ alike (from_bits b) (no_integer_lem b)
    go (some (b, x ∷ s)) e =
        let d = read_front 16 0 b cs (x ∷ s) e in
        let l : length cs ≡ 17 + length s = ap length d.split ∙ length-append d.those (x ∷ s) ∙ ap (λ n. n + suc (length s)) d.long ∙ omega arith in
        by-if (λ y. y ≡ refused 3) (eqb (length cs) 16) _ _ (λ t. absurd (omega (arith, l, eqb→eq (length cs) 16 t))) (λ t. refl) ∙ left_over (from_bits b) x s

pub field_alike : (f : Bytes) → read_real f ≡ reading_of (whole real_parser f)
unfolding read_real whole real_parser behind after bytes reading_of on_some
field_alike [] = refl
field_alike (c ∷ cs) = go (eqb c 114) (eqb 114 c) refl refl
  where
    go : (a b : Bool) → eqb c 114 ≡ a → eqb 114 c ≡ b → (if a && eqb (length cs) 16 then of_digits (hex_number 0 cs) else refused 3)
        ≡ reading_of (on_some (on_some (if b then some cs else none) (hex_parser 16 0 then (λ b. no_integer (from_bits b)))) (λ x. at_end x.0 x.1))
    go true true p q = digits_alike cs
    go false false p q = refl
    go true false p q = absurd (let e = eqb→eq c 114 (subst T (sym p) tt) in true≢false (sym (ap (λ n. eqb 114 n) e) ∙ q))
    go false true p q = absurd (let e = eqb→eq 114 c (subst T (sym q) tt) in true≢false (ap (λ n. eqb n 114) e ∙ p))

-- ---- seventeen bytes in front, and fewer

digits_front : (cs : Bytes) (k a : ℕ) (rest : Bytes) → length cs ≡ k → hex_parser k a (cs ++ rest) ≡ map_some (λ b. (b, rest)) (hex_number a cs)
unfolding hex_parser hex_number on_some map_some
digits_front [] zero a rest l = refl
digits_front [] (suc k) a rest l = absurd (omega (arith, l))
digits_front (c ∷ cs) zero a rest l = absurd (omega (arith, l))
digits_front (c ∷ cs) (suc k) a rest l = go (hex_digit c) (λ d. digits_front cs k (a * 16 + d) rest (omega (arith, l)))
  where
    go : (o : Option ℕ) → ((d : ℕ) → hex_parser k (a * 16 + d) (cs ++ rest) ≡ map_some (λ b. (b, rest)) (hex_number (a * 16 + d) cs)) → on_some o (λ d. hex_parser k (a * 16 + d) (cs ++ rest)) ≡ map_some (λ b. (b, rest)) (on_some o (λ d. hex_number (a * 16 + d) cs))
    go none h = refl
    go (some d) h = h d

few_digits : (k a : ℕ) (s : Bytes) → length s < k → hex_parser k a s ≡ none
unfolding hex_parser on_some
few_digits zero a s l = absurd (omega (arith, l))
few_digits (suc k) a [] l = refl
few_digits (suc k) a (c ∷ s) l = go (hex_digit c) (λ d. few_digits k (a * 16 + d) s (omega (arith, l)))
  where
    go : (o : Option ℕ) → ((d : ℕ) → hex_parser k (a * 16 + d) s ≡ none) → on_some o (λ d. hex_parser k (a * 16 + d) s) ≡ none
    go none h = refl
    go (some d) h = h d

pub short_none : (s : Bytes) → length s < 17 → real_parser s ≡ none
unfolding real_parser behind after bytes ◌then◌ on_some
short_none [] l = refl
short_none (c ∷ s) l = by-if (λ (o : Option Bytes). on_some o (hex_parser 16 0 then (λ b. no_integer (from_bits b))) ≡ none) (eqb 114 c) (some s) none
    (λ t. ap (λ (o : Option (ℕ × Bytes)). on_some o (λ x. no_integer (from_bits x.0) x.1)) (few_digits 16 0 s (omega (arith, l)))) (λ t. refl)

-- what is read in front of other bytes is what is read of the field that they are
pub front_real : (cs rest : Bytes) → length cs ≡ 17 → real_parser (cs ++ rest) ≡ map_some (λ r. (r, rest)) (whole real_parser cs)
unfolding real_parser behind after bytes whole ◌then◌ on_some map_some no_integer at_end
front_real [] rest l = absurd (omega (arith, l))
front_real (c ∷ cs) rest l = go (eqb 114 c)
  where
    kept_front : (o : Option ℕ) → on_some (map_some (λ b. (b, rest)) o) (λ (x : ℕ × Bytes). no_integer (from_bits x.0) x.1)
        ≡ map_some (λ r. (r, rest)) (on_some (on_some (map_some (λ b. (b, [])) o) (λ (x : ℕ × Bytes). no_integer (from_bits x.0) x.1)) (λ x. at_end x.0 x.1))
    kept_front none = refl
    kept_front (some b) = go (is_real (held (from_bits b)))
      where
        go : (t : Bool) → ◌≡◌ {A = Option (Real × Bytes)} (if t then some (from_bits b, rest) else none)
            (map_some (λ r. (r, rest)) (on_some {A = Real × Bytes} (if t then some (from_bits b, []) else none) (λ x. at_end x.0 x.1)))
        go true = refl
        go false = refl

    sixteen : on_some (hex_parser 16 0 (cs ++ rest)) (λ x. no_integer (from_bits x.0) x.1)
        ≡ map_some (λ r. (r, rest)) (on_some (on_some (hex_parser 16 0 cs) (λ x. no_integer (from_bits x.0) x.1)) (λ x. at_end x.0 x.1))
    sixteen =
        let h : length cs ≡ 16 = omega (arith, l) in
        ap (λ (o : Option (ℕ × Bytes)). on_some o (λ x. no_integer (from_bits x.0) x.1)) (digits_front cs 16 0 rest h)
        ∙ kept_front (hex_number 0 cs)
        ∙ ap (λ (o : Option (ℕ × Bytes)). map_some (λ r. (r, rest)) (on_some (on_some o (λ x. no_integer (from_bits x.0) x.1)) (λ x. at_end x.0 x.1)))
        (sym (ap (hex_parser 16 0) (sym (append-nil cs)) ∙ digits_front cs 16 0 [] h))

    go : (t : Bool) → on_some (if t then some (cs ++ rest) else none) (hex_parser 16 0 then (λ b. no_integer (from_bits b)))
        ≡ map_some (λ r. (r, rest)) (on_some (on_some (if t then some cs else none) (hex_parser 16 0 then (λ b. no_integer (from_bits b)))) (λ x. at_end x.0 x.1))
    go true = sixteen
    go false = refl
