-- Laws of lists: one element more, members, what holds of each, no number twice. Assumes nothing.
use mathlib.Core.Path.{◌≡◌, refl, ◌∙◌}
use mathlib.Core.Logic.{◌≢◌, ◌↔◌}
use mathlib.Core.Bool.{Bool, true, false, ◌||◌}
use mathlib.Core.List.{List, [], ◌∷◌, ◌++◌, map, Memᴰ}
use Prim.Native.Nat.{ℕ, suc, ◌<◌}
use native.Mathlib.Omega.{arith}
use lib.ListN.{length, length-append}
use borrow.Author.Tests.{ne_eqb}
use lib.Dec.{T, eqb, eqb→eq, eqb_refl}
use Rattle.laws.specs.Lists.{member, Each, each_nil, each-cons, Distinct, distinct_nil, distinct_cons}
use Rattle.laws.proofs.Tests.{or_l, or_r, or-e}

pub length_more : {A : Type 0} (xs : List A) (x : A) → length (xs ++ (x ∷ [])) ≡ suc (length xs)
length_more xs x = length-append xs (x ∷ []) ∙ omega arith

-- ---- members

member_in : (n : ℕ) (ns : List ℕ) → T (member n ns) → Memᴰ n ns
unfolding member
member_in n [] h = absurd h
member_in n (m ∷ ns) h = or-e (eqb n m) (member n ns) h (λ t. Memᴰ.head (eqb→eq n m t)) (λ t. Memᴰ.tail (member_in n ns t))

in_member : {n : ℕ} {ns : List ℕ} → Memᴰ n ns → T (member n ns)
unfolding member
in_member {n} (Memᴰ.head {x} {xs} e) = or_l (eqb n x) (member n xs) (rw (← e) (eqb_refl n))
in_member {n} (Memᴰ.tail {x} {xs} h) = or_r (eqb n x) (member n xs) (in_member h)

-- the test is membership
pub member_exact : (n : ℕ) (ns : List ℕ) → T (member n ns) ↔ Memᴰ n ns
member_exact n ns = (member_in n ns, in_member)

or_assoc : (a b c : Bool) → a || (b || c) ≡ (a || b) || c
or_assoc true b c = refl
or_assoc false b c = refl

pub member_append : (n : ℕ) (a b : List ℕ) → member n (a ++ b) ≡ member n a || member n b
unfolding member
member_append n [] b = refl
member_append n (m ∷ a) b = rw (member_append n a b) (or_assoc (eqb n m) (member n a) (member n b))

-- a number above all
pub member_none : (n : ℕ) (ns : List ℕ) → Each (λ m. m < n) ns → member n ns ≡ false
unfolding member
member_none n [] each_nil = refl
member_none n (m ∷ ns) (each-cons p h) = rw (ne_eqb n m (λ e. omega arith), member_none n ns h)

-- ---- each

pub each_imp : {A : Type 0} {P Q : A → Type 0} {ns : List A} → ((n : A) → P n → Q n) → Each P ns → Each Q ns
each_imp f each_nil = each_nil
each_imp f (each-cons {n} p h) = each-cons (f n p) (each_imp f h)

pub each_all : {A : Type 0} {P : A → Type 0} → ((n : A) → P n) → (ns : List A) → Each P ns
each_all f [] = each_nil
each_all f (n ∷ ns) = each-cons (f n) (each_all f ns)

pub each_append : {A : Type 0} {P : A → Type 0} {a b : List A} → Each P a → Each P b → Each P (a ++ b)
each_append each_nil k = k
each_append (each-cons p h) k = each-cons p (each_append h k)

pub each_left : {A : Type 0} {P : A → Type 0} (a b : List A) → Each P (a ++ b) → Each P a
each_left [] b h = each_nil
each_left (n ∷ a) b (each-cons p h) = each-cons p (each_left a b h)

pub each_right : {A : Type 0} {P : A → Type 0} (a : List A) {b : List A} → Each P (a ++ b) → Each P b
each_right [] h = h
each_right (n ∷ a) (each-cons p h) = each_right a h

pub each_head : {A : Type 0} {P : A → Type 0} {n : A} {ns : List A} → Each P (n ∷ ns) → P n
each_head (each-cons p h) = p

pub each_at : {A : Type 0} {P : A → Type 0} {n : A} {ns : List A} → Each P ns → Memᴰ n ns → P n
each_at (each-cons p h) (Memᴰ.head e) = rw e p
each_at (each-cons p h) (Memᴰ.tail m) = each_at h m
each_at {A = A} {P = P} {n = n} each_nil x3 = elim x3 [ ]

pub map_each : {A B : Type 0} (f g : A → B) (ns : List A) → Each (λ n. f n ≡ g n) ns → map f ns ≡ map g ns
map_each f g [] each_nil = refl
map_each f g (n ∷ ns) (each-cons p h) = rw (p, map_each f g ns h)

-- each is a member
pub each_member : (ns : List ℕ) → Each (λ n. T (member n ns)) ns
unfolding member
each_member [] = each_nil
each_member (m ∷ ns) = each-cons (or_l (eqb m m) (member m ns) (eqb_refl m)) (each_imp (λ n h. or_r (eqb n m) (member n ns) h) (each_member ns))

-- ---- no number twice: in neither part, and none of the one in the other

pub distinct_append : {a b : List ℕ} → Distinct a → Distinct b → Each (λ n. Each (λ m. m ≢ n) b) a → Distinct (a ++ b)
distinct_append distinct_nil k each_nil = k
distinct_append (distinct_cons z h) k (each-cons p e) = distinct_cons (each_append z p) (distinct_append h k e)
