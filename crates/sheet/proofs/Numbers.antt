-- Numbers: how their digits come about, that they are read back, and that no other digits are read so. Assumes nothing.
use mathlib.Core.Path.{◌≡◌, refl, sym, ap, ◌∙◌, subst}
use mathlib.Core.Logic.{◌≢◌}
use mathlib.Core.Bool.{Bool, true, false}
use mathlib.Core.Option.{some}
use mathlib.Core.List.{[], ◌∷◌, ◌++◌, append-nil, append_assoc}
use Prim.Native.Nat.{ℕ, zero, suc, ◌+◌, ◌*◌, ◌-◌, ◌/◌, ◌%◌, ◌^◌, ◌≤◌, ◌<◌}
use native.Mathlib.Omega.{arith}
use native.Mathlib.Nat.{pow-suc}
use lib.ListN.{length, length-append}
use lib.Dec.{T, eqb, leb, ltb, leb→le, le→leb, ltb→lt, nltb→le, eqb→eq, T_not, not_T}
use borrow.Author.Tests.{lt-ltb, le-ltb}
use Rattle.std.specs.Prelude.{if◌then◌else◌}
use Rattle.laws.specs.Lists.{Each, each_nil, each-cons}
use Rattle.laws.proofs.Tests.{and_i, and_l, and_r, by-if, test_true, test_false, by-test, same_choice}
use Rattle.laws.proofs.Options.{if_some}
use Rattle.laws.proofs.Lists.{each_append}
use Rattle.sheet.specs.Text.{Bytes, is_digit, digits, after_digits, plain, value_of_digits, number_parser, spell_digits, spell_number}
use Rattle.sheet.specs.SpellingLaws.{Stops, at-end, no_digit, Decimal}

-- ---- a number's digits: of its tenth part, and one more

-- more digits than are wanted change nothing
enough : (f g n : ℕ) → n < f → n < g → spell_digits f n ≡ spell_digits g n
unfolding spell_digits
enough zero g n p q = absurd (omega arith)
enough (suc f) zero n p q = absurd (omega arith)
enough (suc f) (suc g) n p q =
    same_choice (ltb n 10) (λ t. refl)
    (λ t. let h = nltb→le n 10 t in ap (λ (d : Bytes). d ++ ((48 + n % 10) ∷ [])) (enough f g (n / 10) (omega arith) (omega arith)))

pub spell_one : (n : ℕ) → n < 10 → spell_number n ≡ (48 + n) ∷ []
unfolding spell_number spell_digits
spell_one n h = rw (lt-ltb n 10 h)

pub spell_more : (n : ℕ) → 10 ≤ n → spell_number n ≡ spell_number (n / 10) ++ ((48 + n % 10) ∷ [])
unfolding spell_number spell_digits
spell_more n h = rw (le-ltb n 10 h, enough n (suc (n / 10)) (n / 10) (omega arith) (omega arith))

within : (P : ℕ → Type 0) → ((n : ℕ) → n < 10 → P n) → ((n : ℕ) → 10 ≤ n → P (n / 10) → P n) → (f n : ℕ) → n < f → P n
within P one more zero n h = absurd (omega arith)
within P one more (suc f) n h =
    by-test (ltb n 10) (λ t. one n (ltb→lt n 10 t)) (λ t. let l = nltb→le n 10 t in more n l (within P one more f (n / 10) (omega arith)))

-- what holds of one digit, and of a number where it holds of its tenth part, holds of every number
pub digit_induction : (P : ℕ → Type 0) → ((n : ℕ) → n < 10 → P n) → ((n : ℕ) → 10 ≤ n → P (n / 10) → P n) → (n : ℕ) → P n
digit_induction P one more n = within P one more (suc n) n (omega arith)

-- ---- they are plain digits

is_digit_lem : (k : ℕ) → k < 10 → T (is_digit (48 + k))
unfolding is_digit
is_digit_lem k h = and_i (leb 48 (48 + k)) (leb (48 + k) 57) (le→leb 48 (48 + k) (omega arith)) (le→leb (48 + k) 57 (omega arith))

pub digit_from : (b : ℕ) → T (is_digit b) → 48 ≤ b
unfolding is_digit
digit_from b t = leb→le 48 b (and_l (leb 48 b) _ t)

pub digit_to : (b : ℕ) → T (is_digit b) → b ≤ 57
unfolding is_digit
digit_to b t = leb→le b 57 (and_r (leb 48 b) _ t)

pub spell_digits_lem : (n : ℕ) → Each (λ b. T (is_digit b)) (spell_number n)
spell_digits_lem =
    digit_induction (λ n. Each (λ b. T (is_digit b)) (spell_number n))
    (λ n h. rw (spell_one n h) (each-cons (is_digit_lem n h) each_nil))
    (λ n h d. rw (spell_more n h) (each_append d (each-cons (is_digit_lem (n % 10) (omega arith)) each_nil)))

-- a byte over `0` leads
data Leads : Bytes → Type 0 where
  leads : {b : ℕ} {s : Bytes} → 48 < b → Leads (b ∷ s)

leads_append : {s : Bytes} (t : Bytes) → Leads s → Leads (s ++ t)
leads_append t (leads h) = leads h

leads_plain : {s : Bytes} → Leads s → T (plain s)
unfolding plain
leads_plain (leads {s = []} h) = tt
leads_plain (leads {b} {s = c ∷ s} h) = not_T (eqb b 48) (λ t. let e = eqb→eq b 48 t in omega arith)

spell_leads : (n : ℕ) → 0 < n → Leads (spell_number n)
spell_leads =
    digit_induction (λ n. 0 < n → Leads (spell_number n))
    (λ n h p. rw (spell_one n h) (leads {b = 48 + n} (omega arith)))
    (λ n h l p. rw (spell_more n h) (leads_append _ (l (omega arith))))

spell_plain : (n : ℕ) → T (plain (spell_number n))
unfolding plain
spell_plain n = by-test (ltb n 10) (λ t. rw (spell_one n (ltb→lt n 10 t)) tt) (λ t. let h = nltb→le n 10 t in leads_plain (spell_leads n (omega arith)))

pub decimal : (n : ℕ) → Decimal (spell_number n)
decimal n = record { all_digits = spell_digits_lem n; no_leading_zero = spell_plain n }

-- ---- they stand for the number

value_snoc : (m : ℕ) (s : Bytes) (b : ℕ) → value_of_digits m (s ++ (b ∷ [])) ≡ value_of_digits m s * 10 + (b - 48)
unfolding value_of_digits
value_snoc m [] b = refl
value_snoc m (c ∷ s) b = value_snoc (m * 10 + (c - 48)) s b

pub value_spell : (n : ℕ) → value_of_digits 0 (spell_number n) ≡ n
unfolding value_of_digits
value_spell =
    digit_induction (λ n. value_of_digits 0 (spell_number n) ≡ n)
    (λ n h. rw (spell_one n h) (omega arith))
    (λ n h e. rw (spell_more n h, value_snoc, e) (omega arith))

-- ---- digits in front, and what follows them

digits_front : {d rest : Bytes} → Each (λ b. T (is_digit b)) d → Stops rest → digits (d ++ rest) ≡ d
unfolding digits
digits_front each_nil at-end = refl
digits_front each_nil (no_digit {b} t) = rw (test_false (is_digit b) t)
digits_front (each-cons {n} p ps) st = rw (test_true (is_digit n) p, digits_front ps st)

after_front : {d rest : Bytes} → Each (λ b. T (is_digit b)) d → Stops rest → after_digits (d ++ rest) ≡ rest
unfolding after_digits
after_front each_nil at-end = refl
after_front each_nil (no_digit {b} t) = rw (test_false (is_digit b) t)
after_front (each-cons {n} p ps) st = rw (test_true (is_digit n) p) (after_front ps st)

pub number_back : (n : ℕ) (rest : Bytes) → Stops rest → number_parser (spell_number n ++ rest) ≡ some (n, rest)
unfolding number_parser
number_back n rest st =
    rw (digits_front (spell_digits_lem n) st, after_front (spell_digits_lem n) st, test_true (plain (spell_number n)) (spell_plain n), value_spell)

-- ---- no other digits are read so

spell_digit : (m b : ℕ) → 0 < m → T (is_digit b) → spell_number (m * 10 + (b - 48)) ≡ spell_number m ++ (b ∷ [])
spell_digit m b h t =
    let p = digit_from b t in
    let q = digit_to b t in
    let front : (m * 10 + (b - 48)) / 10 ≡ m = omega arith in
    let last : 48 + (m * 10 + (b - 48)) % 10 ≡ b = omega arith in
    rw (spell_more (m * 10 + (b - 48)) (omega arith), front, last)

spell_rest : (m : ℕ) {s : Bytes} → 0 < m → Each (λ b. T (is_digit b)) s → spell_number (value_of_digits m s) ≡ spell_number m ++ s
unfolding value_of_digits
spell_rest m h each_nil = sym (append-nil (spell_number m))
spell_rest m h (each-cons {n = b} {ns = s} t ts) =
    spell_rest (m * 10 + (b - 48)) (omega arith) ts ∙ ap (λ (d : Bytes). d ++ s) (spell_digit m b h t) ∙ append_assoc (spell_number m) (b ∷ []) s

spell_value : {d : Bytes} → Each (λ b. T (is_digit b)) d → T (plain d) → spell_number (value_of_digits 0 d) ≡ d
unfolding value_of_digits plain
spell_value each_nil z = absurd z
spell_value (each-cons {n = b} t each_nil) z =
    let p = digit_from b t in
    let q = digit_to b t in
    let e : 48 + (0 * 10 + (b - 48)) ≡ b = omega arith in
    rw (spell_one (0 * 10 + (b - 48)) (omega arith), e)
spell_value (each-cons {n = b} t (each-cons {n = c} {ns = s} u us)) z =
    let p = digit_from b t in
    let q = digit_to b t in
    let e : 48 + (0 * 10 + (b - 48)) ≡ b = omega arith in
    let l : 48 ≢ b = λ g. T_not (eqb b 48) z (subst (λ (k : ℕ). T (eqb k 48)) g tt) in
    spell_rest (0 * 10 + (b - 48)) (omega arith) (each-cons u us) ∙ rw (spell_one (0 * 10 + (b - 48)) (omega arith), e)

digits_all : (s : Bytes) → Each (λ b. T (is_digit b)) (digits s)
unfolding digits
digits_all [] = each_nil
digits_all (b ∷ s) = by-if (Each (λ c. T (is_digit c))) (is_digit b) (b ∷ digits s) [] (λ t. each-cons t (digits_all s)) (λ t. each_nil)

pub digits_split : (s : Bytes) → s ≡ digits s ++ after_digits s
unfolding digits after_digits
digits_split [] = refl
digits_split (b ∷ s) = step (is_digit b) (digits_split s)
  where
    step : (t : Bool) → s ≡ digits s ++ after_digits s → b ∷ s ≡ (if t then b ∷ digits s else []) ++ (if t then after_digits s else b ∷ s)
    step true e = ap (λ (r : Bytes). b ∷ r) e
    step false e = refl

pub number_only : (s : Bytes) (n : ℕ) (rest : Bytes) → number_parser s ≡ some (n, rest) → s ≡ spell_number n ++ rest
unfolding number_parser
number_only s n rest e =
    let got = if_some (plain (digits s)) (value_of_digits 0 (digits s), after_digits s) e in
    let value : spell_number n ≡ digits s = ap spell_number (sym (ap (λ (x : ℕ × Bytes). x.0) got.1)) ∙ spell_value (digits_all s) got.0 in
    let left : after_digits s ≡ rest = ap (λ (x : ℕ × Bytes). x.1) got.1 in
    digits_split s ∙ cc

-- ---- how many there are

digit_count : (k n : ℕ) → n < 10 ^ suc k → length (spell_number n) ≤ suc k
digit_count zero n h = rw (spell_one n h) (omega arith)
digit_count (suc k) n h =
    by-test (ltb n 10) (λ t. rw (spell_one n (ltb→lt n 10 t)) (omega arith))
    (λ t. let l = nltb→le n 10 t in
    let c = digit_count k (n / 10) (tenth k n h) in
    rw (spell_more n l) (omega (arith, length-append (spell_number (n / 10)) ((48 + n % 10) ∷ []))))
  where
    tenth : (k n : ℕ) → n < 10 ^ suc (suc k) → n / 10 < 10 ^ suc k
    tenth k n h = let g : n < 10 ^ suc k * 10 = rw (← (pow-suc 10 (suc k))) h in omega arith

-- a number below the k-th power of ten has at most k digits
pub digits_at_most : (k n : ℕ) → 1 ≤ k → n < 10 ^ k → length (spell_number n) ≤ k
digits_at_most zero n p h = absurd (omega arith)
digits_at_most (suc k) n p h = digit_count k n h

pub digits_some : (n : ℕ) → 1 ≤ length (spell_number n)
unfolding plain
digits_some n = some_plain (spell_number n) (spell_plain n)
  where
    some_plain : (s : Bytes) → T (plain s) → 1 ≤ length s
    some_plain [] z = absurd z
    some_plain (b ∷ s) z = omega arith
