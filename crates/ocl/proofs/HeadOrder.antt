-- The order of values by sort and rank, before members are looked at. Assumes nothing.
use mathlib.Core.Path.{◌≡◌, refl, sym, ap, ◌∙◌}
use mathlib.Core.Bool.{true, false}
use Prim.Native.Nat.{ℕ, zero, suc, compare, Ordering}
use native.Mathlib.Omega.{arith}
use lib.IntN.{ℤ, pos, negsuc}
use lib.Dec.{T}
use Rattle.laws.specs.Orders.{reverse}
use Rattle.reals.specs.Reals.{Number, int, order_int}
use Rattle.reals.proofs.Words.{units_apart}
use Rattle.ocl.specs.Types.{set, sequence, bag}
use Rattle.ocl.specs.Values.{Value, bool, num, obj, coll, Values, count, every_part, then_order, sort, of_bool, rank, members, head_order}
use Rattle.ocl.specs.Laws.{number_kept, numbers_kept}
use Rattle.laws.proofs.Orders.{lt_not_eq, gt_not_eq, compare_same, compare_turned, Chain, left, right, twice, up_down, down_up, chain_swap, chain_lt, chain_gt, compare_chain}

-- ---- one comparison, then another

pub then_same : (p q : Ordering) → then_order p q ≡ Ordering.eq → (p ≡ Ordering.eq) × (q ≡ Ordering.eq)
unfolding then_order
then_same Ordering.lt q e = absurd (lt_not_eq e)
then_same Ordering.eq q e = (refl, e)
then_same Ordering.gt q e = absurd (gt_not_eq e)

pub then_eq : (p : Ordering) → then_order p Ordering.eq ≡ p
unfolding then_order
then_eq Ordering.lt = refl
then_eq Ordering.eq = refl
then_eq Ordering.gt = refl

-- the second matters only where the first says the same
pub then_turned : (p q r : Ordering) → (p ≡ Ordering.eq → r ≡ reverse q) → then_order (reverse p) r ≡ reverse (then_order p q)
unfolding then_order reverse
then_turned Ordering.lt q r h = refl
then_turned Ordering.eq q r h = h refl
then_turned Ordering.gt q r h = refl

pub then_chain : {p q r : Ordering} (a b c : Ordering) → Chain p q r → (p ≡ Ordering.eq → q ≡ Ordering.eq → Chain a b c)
    → Chain (then_order p a) (then_order q b) (then_order r c)
unfolding then_order
then_chain a b c (left {p = Ordering.lt}) h = chain_lt b
then_chain a b c (left {p = Ordering.eq}) h = h refl refl
then_chain a b c (left {p = Ordering.gt}) h = chain_gt b
then_chain a b c (right {p = Ordering.lt}) h = chain_swap (chain_lt a)
then_chain a b c (right {p = Ordering.eq}) h = h refl refl
then_chain a b c (right {p = Ordering.gt}) h = chain_swap (chain_gt a)
then_chain a b c (twice {p = Ordering.lt}) h = twice
then_chain a b c (twice {p = Ordering.eq}) h = h refl refl
then_chain a b c (twice {p = Ordering.gt}) h = twice
then_chain a b c up_down h = up_down
then_chain a b c down_up h = down_up

-- ---- Integers

int_same : (x y : ℤ) → order_int x y ≡ Ordering.eq → x ≡ y
unfolding order_int
int_same (pos a) (pos b) e = ap pos (compare_same a b e)
int_same (pos a) (negsuc b) e = absurd (gt_not_eq e)
int_same (negsuc a) (pos b) e = absurd (lt_not_eq e)
int_same (negsuc a) (negsuc b) e = ap negsuc (sym (compare_same b a e))

int_turned : (x y : ℤ) → order_int y x ≡ reverse (order_int x y)
unfolding order_int reverse
int_turned (pos a) (pos b) = compare_turned a b
int_turned (pos a) (negsuc b) = refl
int_turned (negsuc a) (pos b) = refl
int_turned (negsuc a) (negsuc b) = compare_turned b a

int_chain : (x y z : ℤ) → Chain (order_int x y) (order_int y z) (order_int x z)
unfolding order_int
int_chain (pos a) (pos b) (pos c) = compare_chain a b c
int_chain (pos a) (pos b) (negsuc c) = chain_swap (chain_gt (compare a b))
int_chain (pos a) (negsuc b) (pos c) = down_up
int_chain (pos a) (negsuc b) (negsuc c) = chain_gt (compare c b)
int_chain (negsuc a) (pos b) (pos c) = chain_lt (compare b c)
int_chain (negsuc a) (pos b) (negsuc c) = up_down
int_chain (negsuc a) (negsuc b) (pos c) = chain_swap (chain_lt (compare b a))
int_chain (negsuc a) (negsuc b) (negsuc c) = chain_swap (compare_chain c b a)

-- ---- sort and rank

head_same : (v w : Value) → head_order v w ≡ Ordering.eq → (sort v ≡ sort w) × (rank v ≡ rank w)
unfolding head_order
head_same v w e =
    let h = then_same (compare (sort v) (sort w)) (order_int (rank v) (rank w)) e in
    (compare_same (sort v) (sort w) h.0, int_same (rank v) (rank w) h.1)

pub head_turned : (v w : Value) → head_order w v ≡ reverse (head_order v w)
unfolding head_order
head_turned v w = rw (compare_turned (sort v) (sort w)) (then_turned (compare (sort v) (sort w)) _ _ (λ e. int_turned (rank v) (rank w)))

pub head_chain : (u v w : Value) → Chain (head_order u v) (head_order v w) (head_order u w)
unfolding head_order
head_chain u v w = then_chain _ _ _ (compare_chain (sort u) (sort v) (sort w)) (λ e f. int_chain (rank u) (rank v) (rank w))

-- a value is its sort, its rank, its number and its members
number_of : Value → Number
number_of (bool b) = int (pos 0)
number_of (num x) = x
number_of (obj o) = int (pos 0)
number_of (coll k vs) = int (pos 0)

make : ℕ → ℤ → Number → Values → Value
make zero (pos zero) x vs = bool false
make zero (pos (suc n)) x vs = bool true
make zero (negsuc n) x vs = bool true
make (suc zero) z x vs = num x
make (suc (suc zero)) (pos n) x vs = obj n
make (suc (suc zero)) (negsuc n) x vs = obj n
make (suc (suc (suc zero))) z x vs = coll set vs
make (suc (suc (suc (suc zero)))) z x vs = coll sequence vs
make (suc (suc (suc (suc (suc k))))) z x vs = coll bag vs

make_law : (v : Value) → make (sort v) (rank v) (number_of v) (members v) ≡ v
unfolding make sort rank of_bool number_of members
make_law (bool true) = refl
make_law (bool false) = refl
make_law (num x) = refl
make_law (obj o) = refl
make_law (coll set vs) = refl
make_law (coll sequence vs) = refl
make_law (coll bag vs) = refl

-- and of two kept numbers with one rank the numbers are one
data Numeric : Value → Type 0 where
  numeric : {x : Number} → Numeric (num x)
  no_number : {v : Value} → (sort v ≡ 1 → ⊥) → number_of v ≡ int (pos 0) → Numeric v

is_numeric : (v : Value) → Numeric v
unfolding sort number_of
is_numeric (bool b) = no_number {v = (bool b)} (λ e. omega (arith, e)) refl
is_numeric (num x) = numeric
is_numeric (obj o) = no_number {v = (obj o)} (λ e. omega (arith, e)) refl
is_numeric (coll set vs) = no_number {v = (coll set vs)} (λ e. omega (arith, e)) refl
is_numeric (coll sequence vs) = no_number {v = (coll sequence vs)} (λ e. omega (arith, e)) refl
is_numeric (coll bag vs) = no_number {v = (coll bag vs)} (λ e. omega (arith, e)) refl

one_number : {v w : Value} → Numeric v → Numeric w → T (numbers_kept v) → T (numbers_kept w) → sort v ≡ sort w → rank v ≡ rank w → number_of v ≡ number_of w
unfolding sort rank number_of numbers_kept every_part number_kept
one_number (numeric {x}) (numeric {x = y}) p q s r = units_apart x y p q r
one_number numeric (no_number n z) p q s r = absurd (n (sym s))
one_number (no_number n z) numeric p q s r = absurd (n s)
one_number (no_number n z) (no_number m y) p q s r = z ∙ sym y

-- so two values of one sort and rank, whose numbers are kept and whose members are one, are one
pub head_told : (v w : Value) → T (numbers_kept v) → T (numbers_kept w) → head_order v w ≡ Ordering.eq → members v ≡ members w → v ≡ w
head_told v w k l e m =
    let s = head_same v w e in
    let p = s.0 in
    let q = s.1 in
    let x = one_number (is_numeric v) (is_numeric w) k l p q in
    cc (make_law v, make_law w)

-- sort and rank say how many members there are
counted : ℕ → ℤ → ℕ
counted zero z = 0
counted (suc zero) z = 0
counted (suc (suc zero)) z = 0
counted (suc (suc (suc k))) (pos n) = n
counted (suc (suc (suc k))) (negsuc n) = 0

counted_law : (v : Value) → count (members v) ≡ counted (sort v) (rank v)
unfolding counted sort rank members count
counted_law (bool b) = refl
counted_law (num x) = refl
counted_law (obj o) = refl
counted_law (coll set vs) = refl
counted_law (coll sequence vs) = refl
counted_law (coll bag vs) = refl

pub head_count : (v w : Value) → head_order v w ≡ Ordering.eq → count (members v) ≡ count (members w)
head_count v w e = let h = head_same v w e in let s = h.0 in let r = h.1 in cc (counted_law v, counted_law w)
