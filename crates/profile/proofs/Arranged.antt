-- Two lists in order with the same members, each as often, are one, where the numbers in them are kept. Assumes nothing.
use mathlib.Core.Path.{◌≡◌, refl, sym, ap, ◌∙◌, subst}
use mathlib.Core.Bool.{Bool, true, false, ◌||◌}
use Prim.Native.Nat.{ℕ, suc, ◌+◌, Ordering}
use native.Mathlib.Omega.{arith}
use lib.Dec.{T, compare_is_eq}
use Rattle.laws.specs.Orders.{reverse}
use Rattle.laws.proofs.Tests.{test_true}
use Rattle.laws.proofs.Orders.{gt_not_eq, gt_not_lt, lt_not_eq, Chain, left, right, twice, up_down, down_up}
use Rattle.ocl.specs.Types.{Kind, set, bag}
use Rattle.ocl.specs.Values.{Value, Values, nil, cons, order, same, has, add, add_all}
use Rattle.ocl.specs.Laws.{InOrder, ascends, repeats, Sorted, sorted_nil, sorted_one, sorted_cons, anyhow}
use Rattle.ocl.proofs.Values.{Every, every_nil, every_cons, add_every, add_all_every}
use Rattle.ocl.proofs.Order.{order_same, order_turned, order_chain, eq_test, value_order, same_self as same-itself}
use Rattle.ocl.proofs.NumbersKept.{AllKept}
use Rattle.ocl.proofs.Sorted.{add_sorted, add_all_sorted, sorted_tail}

-- ---- two that the order does not tell apart: one, where their numbers are kept; alike to any other value in any case

pub told : (v w : Value) → AllKept v → AllKept w → order v w ≡ Ordering.eq → v ≡ w
unfolding AllKept
told v w p q e = order_same v w p q e

chain_last : {p q r : Ordering} → Chain p q r → q ≡ Ordering.eq → r ≡ p
chain_last left e = refl
chain_last right e = e
chain_last twice e = refl
chain_last up_down e = absurd (gt_not_eq e)
chain_last down_up e = absurd (lt_not_eq e)

chain_first : {p q r : Ordering} → Chain p q r → p ≡ Ordering.eq → r ≡ q
chain_first left e = e
chain_first right e = refl
chain_first twice e = refl
chain_first up_down e = absurd (lt_not_eq e)
chain_first down_up e = absurd (gt_not_eq e)

pub same_right : (x v w : Value) → order v w ≡ Ordering.eq → same x w ≡ same x v
unfolding same
same_right x v w e = ap compare_is_eq (chain_last (order_chain x v w) e)

same_left : (x y w : Value) → order x y ≡ Ordering.eq → same x w ≡ same y w
unfolding same
same_left x y w e = ap compare_is_eq (chain_first (order_chain x y w) e)

pub same_eq : (x v : Value) → same x v ≡ true → order x v ≡ Ordering.eq
unfolding same
same_eq x v e = eq_test (order x v) (subst T (sym e) tt)

-- ---- how often a value is a member

unfoldable pub once : Bool → ℕ
once true = 1
once false = 0

unfoldable pub times : Value → Values → ℕ
times x nil = 0
times x (cons v vs) = once (same x v) + times x vs

pub same_self : (v : Value) → same v v ≡ true
same_self v = test_true (same v v) (same-itself v)

pub times_left : (x y : Value) → order x y ≡ Ordering.eq → (vs : Values) → times x vs ≡ times y vs
unfolding times
times_left x y e nil = refl
times_left x y e (cons v vs) = rw (same_left x y v e, times_left x y e vs)

pub has_left : (x y : Value) → order x y ≡ Ordering.eq → (vs : Values) → has x vs ≡ has y vs
unfolding has
has_left x y e nil = refl
has_left x y e (cons v vs) = rw (same_left x y v e, has_left x y e vs)

-- ---- in order: each is before, or the same as, all that follow

less_trans : (u v w : Value) → order u v ≡ Ordering.lt → order v w ≡ Ordering.lt → order u w ≡ Ordering.lt
less_trans u v w p q = value_order.total.chained u v w p q

pub less_not_same : (v w : Value) → order v w ≡ Ordering.lt → same v w ≡ false
unfolding same
less_not_same v w p = ap compare_is_eq p

-- x comes before all of them
abbrev pub Under : Value → Values → Type 0
Under x vs = Every (λ w. order x w ≡ Ordering.lt) vs

under_none : (x : Value) (vs : Values) → Under x vs → times x vs ≡ 0
unfolding times once
under_none x nil every_nil = refl
under_none x (cons v vs) (every_cons p h) = rw (less_not_same x v p, under_none x vs h)

-- kinds that are in order
pub data InLine : Kind → Type 0 where
  line_set : InLine set
  line_bag : InLine bag

follows : {k : Kind} {o : Ordering} → InLine k → InOrder k o → (o ≡ Ordering.gt → ⊥)
follows l ascends e = gt_not_lt (sym e)
follows l repeats e = gt_not_eq (sym e)
follows {o = o} l anyhow e = elim l [ ]

less_follows : (x v w : Value) → order x v ≡ Ordering.lt → (order v w ≡ Ordering.gt → ⊥) → order x w ≡ Ordering.lt
less_follows x v w p h = by (order v w) refl
  where
    by : (o : Ordering) → order v w ≡ o → order x w ≡ Ordering.lt
    by Ordering.lt e = less_trans x v w p e
    by Ordering.eq e = chain_last (order_chain x v w) e ∙ p
    by Ordering.gt e = absurd (h e)

-- what comes before the first comes before all
under_sorted : {k : Kind} (x : Value) {v : Value} {vs : Values} → InLine k → order x v ≡ Ordering.lt → Sorted k (cons v vs) → Under x (cons v vs)
under_sorted x l p sorted_one = every_cons p every_nil
under_sorted x l p (sorted_cons {v} {w} q h) = every_cons p (under_sorted x l (less_follows x v w p (follows l q)) h)

once_more : (v : Value) (vs : Values) → times v (cons v vs) ≡ suc (times v vs)
unfolding times once
once_more v vs = rw (same_self v) (omega arith)

turned : (v w : Value) → order v w ≡ Ordering.gt → order w v ≡ Ordering.lt
unfolding reverse
turned v w e = order_turned v w ∙ ap reverse e

first_clash : {k : Kind} (v : Value) {w : Value} (vs : Values) {ws : Values} → InLine k → Sorted k (cons w ws) → order v w ≡ Ordering.lt → times v (cons v vs) ≡ times v (cons w ws) → ⊥
first_clash v {w} vs {ws} l h p e = let a = once_more v vs in let b = under_none v (cons w ws) (under_sorted v l p h) in omega arith

-- members as their kind asks, their numbers kept
pub record Tidy (k : Kind) (vs : Values) : Type 0 where
  pub sorted : Sorted k vs
  pub all_kept_lem : Every AllKept vs

pub tidy_nil : {k : Kind} → Tidy k nil
tidy_nil = record { sorted = sorted_nil; all_kept_lem = every_nil }

pub tidy_add : (k : Kind) (v : Value) {vs : Values} → AllKept v → Tidy k vs → Tidy k (add k v vs)
tidy_add k v {vs} p h = record { sorted = add_sorted k v vs h.sorted; all_kept_lem = add_every k v p h.all_kept_lem }

pub tidy_all : (k : Kind) {us vs : Values} → Every AllKept us → Tidy k vs → Tidy k (add_all k us vs)
tidy_all k {us} {vs} p h = record { sorted = add_all_sorted k us vs h.sorted; all_kept_lem = add_all_every k p h.all_kept_lem }

first-kept : {v : Value} {vs : Values} → Every AllKept (cons v vs) → AllKept v
first-kept (every_cons p h) = p

tidy_first : {k : Kind} {v : Value} {vs : Values} → Tidy k (cons v vs) → AllKept v
tidy_first h = first-kept h.all_kept_lem

tidy_tail : {k : Kind} {v : Value} {vs : Values} → Tidy k (cons v vs) → Tidy k vs
tidy_tail {k} {v} {vs} h = record { sorted = sorted_tail h.sorted; all_kept_lem = rest h.all_kept_lem }
  where
    rest : Every AllKept (cons v vs) → Every AllKept vs
    rest (every_cons p q) = q

pub unique : {k : Kind} → InLine k → (vs ws : Values) → Tidy k vs → Tidy k ws → ((x : Value) → AllKept x → times x vs ≡ times x ws) → vs ≡ ws
unfolding times
unique l nil nil h i e = refl
unique l nil (cons w ws) h i e = absurd (let a = once_more w ws in let b = e w (tidy_first i) in omega arith)
unique l (cons v vs) nil h i e = absurd (let a = once_more v vs in let b = e v (tidy_first h) in omega arith)
unique l (cons v vs) (cons w ws) h i e = by (order v w) refl (λ q. unique l vs ws (tidy_tail h) (tidy_tail i) (rest q))
  where
    rest : v ≡ w → (x : Value) → AllKept x → times x vs ≡ times x ws
    rest q x k = let a = rw (← q) at (e x k) in omega arith

    by : (o : Ordering) → order v w ≡ o → (v ≡ w → vs ≡ ws) → cons v vs ≡ cons w ws
    by Ordering.lt p g = absurd (first_clash v vs l i.sorted p (e v (tidy_first h)))
    by Ordering.eq p g = let q = told v w (tidy_first h) (tidy_first i) p in let r = g q in cc
    by Ordering.gt p g = absurd (first_clash w ws l h.sorted (turned v w p) (sym (e w (tidy_first i))))

-- ---- a Set has each member once

pub under_tail : {v : Value} {vs : Values} → Sorted set (cons v vs) → Under v vs
under_tail sorted_one = every_nil
under_tail (sorted_cons {v} {w} q h) = under_sorted v line_set (strict q) h
  where
    strict : {o : Ordering} → InOrder set o → o ≡ Ordering.lt
    strict ascends = refl

pub set_once : (x : Value) (vs : Values) → Sorted set vs → times x vs ≡ once (has x vs)
unfolding times has once
set_once x nil h = refl
set_once x (cons v vs) h = by (same x v) refl (set_once x vs (sorted_tail h))
  where
    by : (b : Bool) → same x v ≡ b → times x vs ≡ once (has x vs) → once b + times x vs ≡ once (b || has x vs)
    by true e z = let y : times x vs ≡ 0 = times_left x v (same_eq x v e) vs ∙ under_none v vs (under_tail h) in omega arith
    by false e z = omega arith

pub unique_set : (vs ws : Values) → Tidy set vs → Tidy set ws → ((x : Value) → AllKept x → has x vs ≡ has x ws) → vs ≡ ws
unique_set vs ws h i e = unique line_set vs ws h i (λ x k. set_once x vs h.sorted ∙ ap once (e x k) ∙ sym (set_once x ws i.sorted))
