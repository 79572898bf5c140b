-- Laws of numbers spelled digit by digit, the first one first: powers of ten, how many digits there are, and each digit in its turn. Assumes
-- nothing.
use Prim.Native.Nat.{ℕ, zero, suc, ◌+◌, ◌-◌, ◌*◌, ◌/◌, ◌%◌, ◌^◌, ◌<◌, ◌≤◌}
use mathlib.Core.Path.{◌≡◌, refl, sym, ap, ◌∙◌}
use mathlib.Core.Bool.{Bool, true, ◌&&◌}
use mathlib.Core.List.{List, [], ◌∷◌, ◌++◌, append_assoc, append-nil}
use native.Mathlib.Nat.{pow-suc, mul_assoc, mul_comm, suc-mul, lt_of_mul-lt-mul_right}
use native.Mathlib.Omega.{arith}
use lib.Dec.{T, eqb, ltb, eqb→eq, ltb→lt, nltb→le}
use lib.ListN.{length, get_or, length-append}
use Rattle.sheet.specs.Text.{Bytes, spell_number}
use Rattle.sheet.proofs.Numbers.{spell_one, spell_more, digit_induction, digits_some, digits_at_most}
use Rattle.laws.proofs.Cases.{AllBelow, all-below}
use Rattle.laws.proofs.Tests.{and_l, and_r, by-test}
use Rattle.text.specs.Written.{Puts, LeadOf}
use Rattle.text.specs.declared.spelling.Lead.{Lead}
use Rattle.text.proofs.WrittenLaws.{puts_length, puts_as, puts_nothing, puts_then}

-- ---- powers of ten

-- the table, as the code has it
unfoldable pub powers : List ℕ
powers =
    1 ∷ 10 ∷ 100 ∷ 1000 ∷ 10000 ∷ 100000 ∷ 1000000 ∷ 10000000 ∷ 100000000 ∷ 1000000000
    ∷ 10000000000 ∷ 100000000000 ∷ 1000000000000 ∷ 10000000000000 ∷ 100000000000000
    ∷ 1000000000000000 ∷ 10000000000000000 ∷ 100000000000000000 ∷ 1000000000000000000 ∷ 10000000000000000000 ∷ []

is_power : ℕ → Bool
is_power k = eqb (get_or powers k 0) (10 ^ k)

every : (ℕ → Bool) → ℕ → Bool
every f zero = true
every f (suc n) = every f n && f n

every_below : (f : ℕ → Bool) (n : ℕ) → T (every f n) → AllBelow (λ k. T (f k)) n
unfolding every AllBelow
every_below f zero t = tt
every_below f (suc n) t = (every_below f n (and_l (every f n) (f n) t), and_r (every f n) (f n) t)

-- the table's rule
pub record Powers (table : List ℕ) : Type 0 where
  pub at : (k : ℕ) → k < 20 → get_or table k 0 ≡ 10 ^ k

-- by one test of all its entries, which the checker computes
pub are_powers : Powers powers
unfolding is_power every powers
are_powers = record { at = λ k h. eqb→eq (get_or powers k 0) (10 ^ k) (all-below (λ j. T (is_power j)) 20 (every_below is_power 20 tt) k h) }

pow_some : (k : ℕ) → 1 ≤ 10 ^ k
pow_some zero = omega arith
pow_some (suc k) = rw (pow-suc 10 k) (omega (arith, pow_some k))

pow_pred : (k : ℕ) → 0 < k → 10 ^ k ≡ 10 ^ (k - 1) * 10
pow_pred k h = let z : suc (k - 1) ≡ k = omega arith in rw z at (pow-suc 10 (k - 1))

-- ---- digits

-- from the k-th power of ten on there are more than k digits
pub digits_at_least : (k n : ℕ) → 10 ^ k ≤ n → suc k ≤ length (spell_number n)
digits_at_least zero n h = digits_some n
digits_at_least (suc k) n h =
    let g : 10 ^ k * 10 ≤ n = rw (← (pow-suc 10 k)) h in
    let more = digits_at_least k (n / 10) (omega arith) in
    rw (spell_more n (omega (arith, pow_some k))) (omega (arith, length-append (spell_number (n / 10)) ((48 + n % 10) ∷ [])))

-- a number is below the power of ten that has one digit more
all_digits : (n : ℕ) → n < 10 ^ length (spell_number n)
all_digits n =
    by-test (ltb n (10 ^ length (spell_number n))) (λ t. ltb→lt n (10 ^ length (spell_number n)) t)
    (λ t. absurd (omega (arith, digits_at_least (length (spell_number n)) n (nltb→le n (10 ^ length (spell_number n)) t))))

-- the turns of `digit_count`, where k digits are there
module _ (n k : ℕ) {table : List ℕ} (rule : Powers table) (some : k ≤ length (spell_number n)) (inside : k < 20) where
  pub count_here : 1 ≤ k → n < get_or table k 0 → k ≡ length (spell_number n)
  count_here l h = omega (arith, digits_at_most k n l (rw (← (rule.at k inside)) h))

  pub count_next : get_or table k 0 ≤ n → k + 1 ≤ length (spell_number n)
  count_next h = omega (arith, digits_at_least k n (rw (← (rule.at k inside)) h))

pub count_last : (n k : ℕ) → n < 2 ^ 64 → k ≡ 20 → k ≤ length (spell_number n) → k ≡ length (spell_number n)
count_last n k h e l = omega (arith, digits_at_most 20 n (omega arith) (omega arith))

-- the last k digits of n, with zeros in front
pub last_digits : ℕ → ℕ → Bytes
last_digits zero n = []
last_digits (suc k) n = last_digits k (n / 10) ++ ((48 + n % 10) ∷ [])

last_digits_length : (k n : ℕ) → length (last_digits k n) ≡ k
unfolding last_digits
last_digits_length zero n = refl
last_digits_length (suc k) n = length-append (last_digits k (n / 10)) ((48 + n % 10) ∷ []) ∙ omega (arith, last_digits_length k (n / 10))

-- all of them spell the number
pub last_digits_all : (n : ℕ) → last_digits (length (spell_number n)) n ≡ spell_number n
unfolding last_digits
last_digits_all =
    digit_induction (λ n. last_digits (length (spell_number n)) n ≡ spell_number n)
    (λ n h. rw (spell_one n h) (ap (λ (d : ℕ). (48 + d) ∷ []) (omega arith)))
    (λ n h e.
    let long : length (spell_number n) ≡ suc (length (spell_number (n / 10))) = rw (spell_more n h) (length-append (spell_number (n / 10)) ((48 + n % 10) ∷ []) ∙ omega arith) in
    rw (long, e) (sym (spell_more n h)))

-- the first of them, and those behind it
pub last_digits_first : (k d r : ℕ) → d ≤ 9 → r < 10 ^ k → last_digits (suc k) (d * 10 ^ k + r) ≡ (48 + d) ∷ last_digits k r
unfolding last_digits
last_digits_first zero d r hd h = ap (λ (b : ℕ). b ∷ []) (omega arith)
last_digits_first (suc k) d r hd h =
    let more : d * 10 ^ suc k ≡ d * 10 ^ k * 10 = rw (pow-suc 10 k) (sym (mul_assoc d (10 ^ k) 10)) in
    let front : (d * 10 ^ suc k + r) / 10 ≡ d * 10 ^ k + r / 10 = rw more (omega arith) in
    let last : (d * 10 ^ suc k + r) % 10 ≡ r % 10 = rw more (omega arith) in
    let g : r < 10 ^ k * 10 = rw (← (pow-suc 10 k)) h in
    rw (last, front) (ap (λ (l : Bytes). l ++ ((48 + r % 10) ∷ [])) (last_digits_first k d (r / 10) hd (omega arith)))

-- the turns of `leading`: p was taken off n digit - 48 times
pub record LeadTo (n p digit rest : ℕ) : Type 0 where
  pub is : n ≡ (digit - 48) * p + rest
  pub from : 48 ≤ digit

module _ (n p : ℕ) (h : n < p * 10) where
  pub lead_none : LeadTo n p 48 n
  lead_none = record { is = omega arith; from = omega arith }

  times : (m rest : ℕ) → n ≡ m * p + rest → m ≤ 9
  times m rest e = let l : m * p < 10 * p = omega (arith, mul_comm p 10) in omega (arith, lt_of_mul-lt-mul_right p l)

  module _ {digit rest : ℕ} (so : LeadTo n p digit rest) where
    more : p ≤ rest → n ≡ (digit + 1 - 48) * p + (rest - p)
    more l =
        let next : digit + 1 - 48 ≡ suc (digit - 48) = omega (arith, so.from) in
        rw (next, suc-mul (digit - 48) p) (omega (arith, so.is))

    pub lead_next : p ≤ rest → LeadTo n p (digit + 1) (rest - p)
    lead_next l = record { is = more l; from = omega (arith, so.from) }

    pub lead_digit : p ≤ rest → digit < 57
    lead_digit l = omega (arith, times (digit + 1 - 48) (rest - p) (more l), so.from)

    pub lead_all : rest < p → LeadOf n p (record { digit = digit; rest = rest })
    lead_all l = record { is = so.is; digit = (so.from, omega (arith, times (digit - 48) rest so.is)); rest = l }

lead_first : (k : ℕ) {p rest : ℕ} {t : Lead} → p ≡ 10 ^ k → LeadOf rest p t → last_digits (suc k) rest ≡ t.digit ∷ last_digits k t.rest
lead_first k {p} {rest} {t} q lead =
    let byte : 48 + (t.digit - 48) ≡ t.digit = omega (arith, lead.digit.0) in
    ap (last_digits (suc k)) (lead.is ∙ ap (λ (x : ℕ). (t.digit - 48) * x + t.rest) q)
    ∙ last_digits_first k (t.digit - 48) t.rest (omega (arith, lead.digit.1)) (rw (← q) lead.rest)
    ∙ ap (λ (b : ℕ). b ∷ last_digits k t.rest) byte

-- the turns of `put_number`: all but the last k digits are written, and these stand for the rest
pub record NumberTo (n at : ℕ) (before now : Bytes) (k e rest : ℕ) : Type 0 where
  pub written : Bytes
  pub puts : Puts at written before now e
  pub is : written ++ last_digits k rest ≡ spell_number n
  pub left : rest < 10 ^ k
  pub places : k ≤ 20

module _ (n at : ℕ) (before : Bytes) (room : at + length (spell_number n) ≤ length before) where
  pub number_none : {k : ℕ} → n < 2 ^ 64 → k ≡ length (spell_number n) → NumberTo n at before before k at n
  number_none h e = record {
    written = [];
    puts = puts_nothing at before;
    is = rw e (last_digits_all n);
    left = rw e (all_digits n);
    places = rw e (digits_at_most 20 n (omega arith) (omega arith));
  }

  module _ {now : Bytes} {k e rest : ℕ} (so : NumberTo n at before now k e rest) where
    long : length so.written + k ≡ length (spell_number n)
    long = ap (λ (j : ℕ). length so.written + j) (sym (last_digits_length k rest)) ∙ sym (length-append so.written (last_digits k rest)) ∙ ap length so.is

    pub number_place : 0 < k → k - 1 < 20
    number_place h = omega (arith, so.places)

    pub number_lead : {table : List ℕ} → Powers table → 0 < k → rest < get_or table (k - 1) 0 * 10
    number_lead rule h = rw (rule.at (k - 1) (number_place h), ← (pow_pred k h)) so.left

    pub number_long : length now ≡ length before
    number_long = puts_length so.puts (omega (arith, long))

    pub number_room : 0 < k → e < length now
    number_room h = omega (arith, long, so.puts.end, number_long)

    pub number_next : {table : List ℕ} {r : ℕ} {t : Lead} {next : Bytes} → Powers table → 0 < k → LeadOf rest (get_or table (k - 1) 0) t → Puts e (t.digit ∷ []) now next r → NumberTo n at before next (k - 1) r t.rest
    number_next {t} rule h lead put =
        let q = rule.at (k - 1) (number_place h) in
        let z : k ≡ suc (k - 1) = omega arith in
        record {
          written = so.written ++ (t.digit ∷ []);
          puts = puts_then so.puts put (omega (arith, long));
          is = append_assoc so.written (t.digit ∷ []) (last_digits (k - 1) t.rest) ∙ ap (λ (l : Bytes). so.written ++ l) (sym (ap (λ (j : ℕ). last_digits j rest) z ∙ lead_first (k - 1) q lead)) ∙ so.is;
          left = rw (← q) lead.rest;
          places = omega (arith, so.places);
        }

    pub number_all : k ≤ 0 → Puts at (spell_number n) before now e
    unfolding last_digits
    number_all h =
        let none : 0 ≡ k = omega arith in
        puts_as so.puts (sym (append-nil so.written) ∙ ap (λ (j : ℕ). so.written ++ last_digits j rest) none ∙ so.is)
