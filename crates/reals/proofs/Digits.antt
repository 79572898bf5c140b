-- Hexadecimal digits that are written are read back, and no others are read so. Assumes nothing.
use mathlib.Core.Path.{◌≡◌, refl, sym, ap, ◌∙◌}
use mathlib.Core.Bool.{Bool, true, false, ◌&&◌}
use mathlib.Core.Option.{Option, none, some, none-ne-some, some-injective}
use mathlib.Core.List.{List, [], ◌∷◌, ◌++◌, append-nil}
use Prim.Native.Nat.{ℕ, zero, suc, ◌+◌, ◌-◌, ◌*◌, ◌/◌, ◌%◌, ◌^◌, ◌≤◌, ◌<◌}
use native.Mathlib.Nat.{add-mul, mul_assoc, add_assoc, zero-add, mod-eq_of_lt, div-one}
use native.Mathlib.Omega.{arith}
use native.Mathlib.Numerals.{add-one}
use lib.Dec.{leb, ltb}
use lib.ListN.{length, length-append}
use lib.Pow.{pow-add, shr-shr, mod-pow-add}
use lib.Seq.{append_snoc}
use borrow.Author.Tests.{ltb-true, ltb-false, lt-ltb, le-ltb, le-leb, lt-leb}
use Rattle.laws.specs.Choice.{on_some}
use Rattle.std.specs.Prelude.{if◌then◌else◌}
use Rattle.reals.specs.Digits.{hex_byte, hex_digits, hex_digit, hex_number}
use Rattle.reals.specs.Laws.{DigitLaws}

-- ---- one digit

pub digit_decimal : (c : ℕ) → 48 ≤ c → c ≤ 57 → hex_digit c ≡ some (c - 48)
unfolding hex_digit
digit_decimal c a b =
    ap (λ t. if t && leb c 57 then some (c - 48) else if leb 97 c && leb c 102 then some (c - 87) else none) (le-leb 48 c a)
    ∙ ap (λ t. if t then some (c - 48) else if leb 97 c && leb c 102 then some (c - 87) else none) (le-leb c 57 b)

not_decimal : (c : ℕ) (t : Bool) {X : Option ℕ} → 57 < c → (if t && leb c 57 then some (c - 48) else X) ≡ X
not_decimal c true {X} h = ap (λ t. if t then some (c - 48) else X) (lt-leb c 57 h)
not_decimal c false h = refl

pub digit_letter : (c : ℕ) → 97 ≤ c → c ≤ 102 → hex_digit c ≡ some (c - 87)
unfolding hex_digit
digit_letter c a b =
    not_decimal c (leb 48 c) (omega (arith, a))
    ∙ ap (λ t. if t && leb c 102 then some (c - 87) else none) (le-leb 97 c a)
    ∙ ap (λ t. if t then some (c - 87) else none) (le-leb c 102 b)

pub digit_low : (c : ℕ) → c < 48 → hex_digit c ≡ none
unfolding hex_digit
digit_low c h =
    ap (λ t. if t && leb c 57 then some (c - 48) else if leb 97 c && leb c 102 then some (c - 87) else none) (lt-leb 48 c h)
    ∙ ap (λ t. if t && leb c 102 then some (c - 87) else none) (lt-leb 97 c (omega (arith, h)))

pub digit_between : (c : ℕ) → 57 < c → c < 97 → hex_digit c ≡ none
unfolding hex_digit
digit_between c a b =
    not_decimal c (leb 48 c) a
    ∙ ap (λ t. if t && leb c 102 then some (c - 87) else none) (lt-leb 97 c b)

pub digit_high : (c : ℕ) → 102 < c → hex_digit c ≡ none
unfolding hex_digit
digit_high c a =
    not_decimal c (leb 48 c) (omega (arith, a))
    ∙ ap (λ t. if t && leb c 102 then some (c - 87) else none) (le-leb 97 c (omega (arith, a)))
    ∙ ap (λ t. if t then some (c - 87) else none) (lt-leb c 102 a)

-- a digit is below 16
pub data Digit (c : ℕ) : Type 0 where
  is_digit_lem : (d : ℕ) → d < 16 → hex_digit c ≡ some d → Digit c
  no_digit : hex_digit c ≡ none → Digit c

pub a_digit : (c : ℕ) → Digit c
a_digit c = go (ltb c 48) (ltb 57 c) (ltb c 97) (ltb 102 c) refl refl refl refl
  where
    go : (p q r s : Bool) → ltb c 48 ≡ p → ltb 57 c ≡ q → ltb c 97 ≡ r → ltb 102 c ≡ s → Digit c
    go true q r s e f g h = no_digit (digit_low c (ltb-true c 48 e))
    go false false r s e f g h = let a = ltb-false c 48 e in let b = ltb-false 57 c f in is_digit_lem (c - 48) (omega (arith, b)) (digit_decimal c a b)
    go false true true s e f g h = no_digit (digit_between c (ltb-true 57 c f) (ltb-true c 97 g))
    go false true false true e f g h = no_digit (digit_high c (ltb-true 102 c h))
    go false true false false e f g h = let a = ltb-false c 97 g in let b = ltb-false 102 c h in is_digit_lem (c - 87) (omega (arith, b)) (digit_letter c a b)

-- ---- writing

pub byte_decimal : (d : ℕ) → d < 10 → 48 + d ≡ hex_byte d
unfolding hex_byte
byte_decimal d h = sym (ap (λ t. if t then 48 + d else 87 + d) (lt-ltb d 10 h))

pub byte_letter : (d : ℕ) → 10 ≤ d → 87 + d ≡ hex_byte d
unfolding hex_byte
byte_letter d h = sym (ap (λ t. if t then 48 + d else 87 + d) (le-ltb d 10 h))

pub hex_length : (k n : ℕ) → length (hex_digits k n) ≡ k
unfolding hex_digits
hex_length zero n = refl
hex_length (suc k) n = length-append (hex_digits k (n / 16)) (hex_byte (n % 16) ∷ []) ∙ ap (λ j. j + 1) (hex_length k (n / 16)) ∙ add-one k

-- ---- digits and bytes

byte_digit : (d : ℕ) → d < 16 → hex_digit (hex_byte d) ≡ some d
byte_digit d h = go (ltb d 10) refl
  where
    go : (t : Bool) → ltb d 10 ≡ t → hex_digit (hex_byte d) ≡ some d
    go true e =
        let l = ltb-true d 10 e in
        let k : 48 + d - 48 ≡ d = omega arith in
        ap hex_digit (sym (byte_decimal d l)) ∙ digit_decimal (48 + d) (omega arith) (omega (arith, l)) ∙ ap (λ j. some j) k
    go false e =
        let l = ltb-false d 10 e in
        let k : 87 + d - 87 ≡ d = omega arith in
        ap hex_digit (sym (byte_letter d l)) ∙ digit_letter (87 + d) (omega (arith, l)) (omega (arith, h)) ∙ ap (λ j. some j) k

some_same : (x y : ℕ) → ◌≡◌ {A = Option ℕ} (some x) (some y) → x ≡ y
some_same x y e = some-injective x y e

digit_byte : (c d : ℕ) → hex_digit c ≡ some d → (d < 16) × (c ≡ hex_byte d)
digit_byte c d e = go (ltb c 48) (ltb 57 c) (ltb c 97) (ltb 102 c) refl refl refl refl
  where
    no : hex_digit c ≡ none → (d < 16) × (c ≡ hex_byte d)
    no n = absurd (none-ne-some d (sym n ∙ e))

    go : (p q r s : Bool) → ltb c 48 ≡ p → ltb 57 c ≡ q → ltb c 97 ≡ r → ltb 102 c ≡ s → (d < 16) × (c ≡ hex_byte d)
    go true q r s x f g h = no (digit_low c (ltb-true c 48 x))
    go false false r s x f g h =
        let a = ltb-false c 48 x in
        let b = ltb-false 57 c f in
        let k : c - 48 ≡ d = some_same (c - 48) d (sym (digit_decimal c a b) ∙ e) in
        let w : c ≡ 48 + d = omega (arith, a, k) in
        (omega (arith, b, k), w ∙ byte_decimal d (omega (arith, b, k)))
    go false true true s x f g h = no (digit_between c (ltb-true 57 c f) (ltb-true c 97 g))
    go false true false true x f g h = no (digit_high c (ltb-true 102 c h))
    go false true false false x f g h =
        let a = ltb-false c 97 g in
        let b = ltb-false 102 c h in
        let k : c - 87 ≡ d = some_same (c - 87) d (sym (digit_letter c a b) ∙ e) in
        let w : c ≡ 87 + d = omega (arith, a, k) in
        (omega (arith, b, k), w ∙ byte_letter d (omega (arith, a, k)))

-- ---- what is written is read

pub number_of_digits : (k n a : ℕ) (rest : List ℕ) → hex_number a (hex_digits k n ++ rest) ≡ hex_number (a * 2 ^ (4 * k) + n % 2 ^ (4 * k)) rest
unfolding hex_digits hex_number on_some
number_of_digits zero n a rest = let e : a ≡ a * 1 + n % 1 = omega arith in ap (λ j. hex_number j rest) e
number_of_digits (suc k) n a rest =
    let c = hex_byte (n % 16) in
    let m = a * 2 ^ (4 * k) + n / 16 % 2 ^ (4 * k) in
    let r : n % 16 < 16 = omega arith in
    let p : 4 * suc k ≡ 4 * k + 4 = omega arith in
    let u : 2 ^ (4 * suc k) ≡ 2 ^ (4 * k) * 16 = ap (λ j. 2 ^ j) p ∙ pow-add 2 (4 * k) 4 in
    let v : n % 2 ^ (4 * suc k) ≡ n / 16 % 2 ^ (4 * k) * 16 + n % 16 = ap (λ j. n % 2 ^ j) p ∙ mod-pow-add n (4 * k) 4 in
    let w : m * 16 + n % 16 ≡ a * 2 ^ (4 * suc k) + n % 2 ^ (4 * suc k) =
    ap (λ j. j + n % 16) (add-mul (a * 2 ^ (4 * k)) (n / 16 % 2 ^ (4 * k)) 16 ∙ ap (λ j. j + n / 16 % 2 ^ (4 * k) * 16) (mul_assoc a (2 ^ (4 * k)) 16 ∙ ap (λ j. a * j) (sym u)))
    ∙ add_assoc (a * 2 ^ (4 * suc k)) (n / 16 % 2 ^ (4 * k) * 16) (n % 16)
    ∙ ap (λ j. a * 2 ^ (4 * suc k) + j) (sym v) in
    ap (hex_number a) (append_snoc (hex_digits k (n / 16)) c rest)
    ∙ number_of_digits k (n / 16) a (c ∷ rest)
    ∙ ap (λ o. on_some o (λ d. hex_number (m * 16 + d) rest)) (byte_digit (n % 16) r)
    ∙ ap (λ j. hex_number j rest) w

pub reads_digits : (b : ℕ) → b < 2 ^ 64 → hex_number 0 (hex_digits 16 b) ≡ some b
unfolding hex_number
reads_digits b h =
    ap (hex_number 0) (sym (append-nil (hex_digits 16 b)))
    ∙ number_of_digits 16 b 0 []
    ∙ ap (λ j. some j) (ap (λ j. 0 * 2 ^ 64 + j) (mod-eq_of_lt h) ∙ zero-add b)

-- ---- what is read is written

front : (k n : ℕ) → hex_digits (suc k) n ≡ hex_byte (n / 2 ^ (4 * k) % 16) ∷ hex_digits k n
unfolding hex_digits
front zero n = ap (λ j. hex_byte (j % 16) ∷ []) (sym (div-one n))
front (suc k) n =
    let p : 4 + 4 * k ≡ 4 * suc k = omega arith in
    ap (λ l. l ++ (hex_byte (n % 16) ∷ [])) (front k (n / 16))
    ∙ ap (λ j. hex_byte (j % 16) ∷ (hex_digits k (n / 16) ++ (hex_byte (n % 16) ∷ []))) (shr-shr n 4 (4 * k) ∙ ap (λ j. n / 2 ^ j) p)

digits_back : (cs : List ℕ) (k a b : ℕ) → length cs ≡ k → hex_number a cs ≡ some b → (b / 2 ^ (4 * k) ≡ a) × (hex_digits k b ≡ cs)
unfolding hex_number hex_digits on_some
digits_back [] zero a b l e = (div-one b ∙ sym (some_same a b e), refl)
digits_back [] (suc k) a b l e = absurd (omega (arith, l))
digits_back (c ∷ cs) zero a b l e = absurd (omega (arith, l))
digits_back (c ∷ cs) (suc k) a b l e = go (λ v i. digits_back cs k v b (omega (arith, l)) i) (a_digit c)
  where
    go : ((v : ℕ) → hex_number v cs ≡ some b → (b / 2 ^ (4 * k) ≡ v) × (hex_digits k b ≡ cs)) → Digit c → (b / 2 ^ (4 * suc k) ≡ a) × (hex_digits (suc k) b ≡ c ∷ cs)
    go rec (no_digit q) = absurd (none-ne-some b (sym (ap (λ o. on_some o (λ d. hex_number (a * 16 + d) cs)) q) ∙ e))
    go rec (is_digit_lem d h q) =
        let ih = rec (a * 16 + d) (sym (ap (λ o. on_some o (λ d. hex_number (a * 16 + d) cs)) q) ∙ e) in
        let p : 4 * k + 4 ≡ 4 * suc k = omega arith in
        let x : (a * 16 + d) / 16 ≡ a = omega (arith, h) in
        let y : (a * 16 + d) % 16 ≡ d = omega (arith, h) in (
          sym (ap (λ j. b / 2 ^ j) p) ∙ sym (shr-shr b (4 * k) 4) ∙ ap (λ j. j / 16) ih.0 ∙ x,
          front k b ∙ ap (λ j. hex_byte (j % 16) ∷ hex_digits k b) ih.0 ∙ ap (λ j. hex_byte j ∷ hex_digits k b) y ∙ ap (λ j. j ∷ hex_digits k b) (sym (digit_byte c d q).1) ∙ ap (λ j. c ∷ j) ih.1,
        )

pub digit_laws : DigitLaws
digit_laws = record {
  back = reads_digits;
  only = λ s b l e. let k = digits_back s 16 0 b l e in let z = k.0 in (omega (arith, z), sym k.1);
}
