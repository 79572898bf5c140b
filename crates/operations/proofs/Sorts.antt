-- What a value is, by the sort and payload that the code reads, and what the definition's tests of its kind then give. Assumes nothing.
use mathlib.Core.Path.{◌≡◌, refl, sym, ap, ◌∙◌}
use mathlib.Core.Bool.{Bool, true, false, not}
use mathlib.Core.List.{List}
use Prim.Native.Nat.{ℕ, ◌+◌, ◌<◌, ◌≤◌}
use native.Mathlib.Omega.{arith}
use lib.ListN.{get_or}
use lib.IntN.{ℤ}
use lib.Dec.{T, eqb, leb}
use borrow.Author.Tests.{eq-eqb, ne_eqb, le-leb, lt-leb}
use Rattle.ocl.specs.Types.{Kind, set, sequence, bag, kind_code}
use Rattle.ocl.specs.Values.{Value, bool, num, obj, coll, Values, count}
use Rattle.reals.specs.Reals.{Number, int, real, in_range, kept}
use Rattle.ocl.specs.Operations.{Outcome, stuck, on_bool, on_int, on_num, on_coll, is_int, is_num, is_coll}
use Rattle.floats.specs.Meanings.{IntegerIn}
use Rattle.values.specs.Cells.{bit, bias, payload, AllFit}
use Rattle.values.specs.Meanings.{SortOf, PayloadOf}
use Rattle.values.proofs.Heads.{shape, Shape, shape_bool, shape_num, shape_obj, shape_coll}
use Rattle.values.proofs.Scanning.{Integral, integral, no_integral, integral_of}
use Rattle.outcomes.specs.Answers.{Lies, truth_of}
use Rattle.outcomes.proofs.Words.{head_at_lem}
use Rattle.std.specs.Prelude.{Option as Optional, Some, None}

-- ---- truth values

pub bit_small : (b : Bool) → bit b ≤ 1
unfolding bit
bit_small true = omega arith
bit_small false = omega arith

pub no_bool : (v : Value) (k : Bool → Outcome) → 1 < truth_of v → on_bool v k ≡ stuck
unfolding truth_of
no_bool (bool b) k h = absurd (let z = bit_small b in omega arith)
no_bool (num x) k h = refl
no_bool (obj o) k h = refl
no_bool (coll c vs) k h = refl

pub record IsBool (v : Value) : Type 0 where
  pub b : Bool
  pub is : v ≡ bool b
  pub code : truth_of v ≡ bit b

pub is_bool : (v : Value) → truth_of v ≤ 1 → IsBool v
unfolding truth_of
is_bool (bool b) h = record { b = b; is = refl; code = refl }
is_bool (num x) h = absurd (omega arith)
is_bool (obj o) h = absurd (omega arith)
is_bool (coll c vs) h = absurd (omega arith)

-- false is 0, true is not
pub bit_zero : (b : Bool) → eqb (bit b) 0 ≡ not b
unfolding bit
bit_zero true = refl
bit_zero false = refl

pub bit_one : (b : Bool) → eqb (bit b) 1 ≡ b
unfolding bit
bit_one true = refl
bit_one false = refl

-- a second operand that is no Integer, or no number, whatever the first is
pub no_ints : (v w : Value) (k : ℤ → ℤ → Outcome) → ((f : ℤ → Outcome) → on_int w f ≡ stuck) → on_int v (λ x. on_int w (k x)) ≡ stuck
no_ints (bool b) w k h = refl
no_ints (num (int z)) w k h = h (k z)
no_ints (num (real r)) w k h = refl
no_ints (obj o) w k h = refl
no_ints (coll c vs) w k h = refl

pub no_nums : (v w : Value) (k : Number → Number → Outcome) → ((f : Number → Outcome) → on_num w f ≡ stuck) → on_num v (λ x. on_num w (k x)) ≡ stuck
no_nums (bool b) w k h = refl
no_nums (num x) w k h = h (k x)
no_nums (obj o) w k h = refl
no_nums (coll c vs) w k h = refl

-- ---- by sort

module _ {v : Value} {p len : ℕ} {S : List ℕ} {t : ℕ} (l : Lies v p len S) (s : SortOf (get_or S p 0) t) where
  pub sorted : Shape t (payload v) v
  sorted = shape l.fits (s.is v l.fits (head_at_lem l)) (λ n. refl)

  pub no_num : (t ≡ 1 → ⊥) → (k : Number → Outcome) → on_num v k ≡ stuck
  no_num n k = by sorted
    where
      by : {q : ℕ} {v : Value} → Shape t q v → on_num v k ≡ stuck
      by (shape_bool i j) = refl
      by (shape_num i j) = absurd (n i)
      by (shape_obj i j h) = refl
      by (shape_coll i j h) = refl

  pub no_coll : t < 3 → (k : Kind → Values → Outcome) → on_coll v k ≡ stuck
  no_coll n k = by sorted
    where
      by : {q : ℕ} {v : Value} → Shape t q v → on_coll v k ≡ stuck
      by (shape_bool i j) = refl
      by (shape_num i j) = refl
      by (shape_obj i j h) = refl
      by (shape_coll i j h) = absurd (omega arith)

  pub record IsColl : Type 0 where
    pub kind : Kind
    pub members : Values
    pub is : v ≡ coll kind members
    pub sort : t ≡ 3 + kind_code kind
    pub fits : AllFit members

  pub is_coll_lem : 3 ≤ t → IsColl
  is_coll_lem n = by sorted refl
    where
      by : {q : ℕ} {w : Value} → Shape t q w → v ≡ w → IsColl
      by (shape_bool i j) e = absurd (omega arith)
      by (shape_num i j) e = absurd (omega arith)
      by (shape_obj i j h) e = absurd (omega arith)
      by (shape_coll {k = k} {vs = vs} i j h) e = record { kind = k; members = vs; is = e; sort = i; fits = h }

  pub record IsNum : Type 0 where
    pub x : Number
    pub is : v ≡ num x
    pub held : T (kept x)

  pub is_num_lem : t ≡ 1 → IsNum
  is_num_lem n = by sorted refl
    where
      by : {q : ℕ} {w : Value} → Shape t q w → v ≡ w → IsNum
      by (shape_bool i j) e = absurd (omega arith)
      by (shape_num {x = x} i h) e = record { x = x; is = e; held = h }
      by (shape_obj i j h) e = absurd (omega arith)
      by (shape_coll i j h) e = absurd (omega arith)

  module _ {q : ℕ} (y : PayloadOf (get_or S p 0) q) where
    pub known : Shape t q v
    known = shape l.fits (s.is v l.fits (head_at_lem l)) (λ n. y.is v l.fits n (head_at_lem l))

    pub count_is : (k : Kind) (vs : Values) → v ≡ coll k vs → q ≡ count vs
    count_is k vs e = by known e
      where
        by : {w : Value} → Shape t q w → w ≡ coll k vs → q ≡ count vs
        by (shape_bool i j) f = absurd (let z : ◌≡◌ {A = ℕ} 0 1 = cc in omega arith)
        by (shape_num i j) f = absurd (let z : ◌≡◌ {A = ℕ} 0 1 = cc in omega arith)
        by (shape_obj i j h) f = absurd (let z : ◌≡◌ {A = ℕ} 0 1 = cc in omega arith)
        by (shape_coll {k = k'} {vs = vs'} i j h) f = let g : vs' ≡ vs = cc in j ∙ ap count g

pub num_test : {t p : ℕ} {v : Value} → Shape t p v → eqb t 1 ≡ is_num v
num_test {t} (shape_bool i j) = ne_eqb t 1 (λ e. omega arith)
num_test {t} (shape_num i h) = eq-eqb t 1 i
num_test {t} (shape_obj i j h) = ne_eqb t 1 (λ e. omega arith)
num_test {t} (shape_coll i j h) = ne_eqb t 1 (λ e. omega arith)

pub coll_test : {t p : ℕ} {v : Value} → Shape t p v → leb 3 t ≡ is_coll v
coll_test {t} (shape_bool i j) = lt-leb 3 t (omega arith)
coll_test {t} (shape_num i j) = lt-leb 3 t (omega arith)
coll_test {t} (shape_obj i j h) = lt-leb 3 t (omega arith)
coll_test {t} (shape_coll i j h) = le-leb 3 t (omega arith)

-- ---- kinds and counts

pub same_kind_lem : (j k : Kind) → kind_code j ≡ kind_code k → j ≡ k
unfolding kind_code
same_kind_lem set set e = refl
same_kind_lem set sequence e = absurd (omega arith)
same_kind_lem set bag e = absurd (omega arith)
same_kind_lem sequence set e = absurd (omega arith)
same_kind_lem sequence sequence e = refl
same_kind_lem sequence bag e = absurd (omega arith)
same_kind_lem bag set e = absurd (omega arith)
same_kind_lem bag sequence e = absurd (omega arith)
same_kind_lem bag bag e = refl

-- ---- numbers

pub int_stuck : (v : Value) → is_int v ≡ false → (k : ℤ → Outcome) → on_int v k ≡ stuck
int_stuck (bool b) e k = refl
int_stuck (num (int z)) e k = absurd (let z : ◌≡◌ {A = ℕ} 0 1 = cc in omega arith)
int_stuck (num (real r)) e k = refl
int_stuck (obj o) e k = refl
int_stuck (coll c vs) e k = refl

pub num_stuck : (v : Value) → is_num v ≡ false → (k : Number → Outcome) → on_num v k ≡ stuck
num_stuck (bool b) e k = refl
num_stuck (num x) e k = absurd (let z : ◌≡◌ {A = ℕ} 0 1 = cc in omega arith)
num_stuck (obj o) e k = refl
num_stuck (coll c vs) e k = refl

-- the value at p, by what was found in its first cell
module _ {v : Value} {p len : ℕ} {S : List ℕ} {t : Optional ℕ} (l : Lies v p len S) (I : IntegerIn (get_or S p 0) t) where
  pub no_int : t ≡ None → (k : ℤ → Outcome) → on_int v k ≡ stuck
  no_int q k = by (integral_of I l.fits (head_at_lem l))
    where
      by : {v : Value} → Integral t v → on_int v k ≡ stuck
      by (integral i h) = absurd (let e = sym q ∙ i in let z : ◌≡◌ {A = ℕ} 0 1 = cc in omega arith)
      by (no_integral {v} i h) = int_stuck v h k

  pub record IsInt (n : ℕ) : Type 0 where
    pub z : ℤ
    pub is : v ≡ num (int z)
    pub biased : n ≡ bias z
    pub ranged : T (in_range z)

  pub is_int_lem : {n : ℕ} → t ≡ Some n → IsInt n
  is_int_lem {n} q = by (integral_of I l.fits (head_at_lem l)) refl
    where
      by : {w : Value} → Integral t w → v ≡ w → IsInt n
      by (integral {z} i h) e = let f = sym q ∙ i in record { z = z; is = e; biased = cc; ranged = h }
      by (no_integral i h) e = absurd (let f = sym q ∙ i in let z : ◌≡◌ {A = ℕ} 0 1 = cc in omega arith)

pub truth_t : (b : Bool) → b ≡ true → T b
truth_t true e = tt
truth_t false e = absurd (let z : ◌≡◌ {A = ℕ} 0 1 = cc in omega arith)
