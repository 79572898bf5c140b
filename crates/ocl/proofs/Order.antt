-- The order of values is total, and where numbers are kept it tells all values apart, so that the tests on members are exact. Assumes
-- nothing.
use mathlib.Core.Path.{◌≡◌, refl, sym, ◌∙◌, subst}
use mathlib.Core.Logic.{◌↔◌}
use Prim.Native.Nat.{Ordering}
use native.Mathlib.Omega.{arith}
use lib.Dec.{T, compare_is_eq}
use Rattle.laws.specs.Orders.{reverse}
use Rattle.ocl.specs.Values.{Value, bool, num, obj, coll, Values, nil, cons, count, every_part, every_parts, then_order, members, head_order, order, orders, same, has}
use Rattle.ocl.specs.Laws.{number_kept, numbers_kept, all_kept, Member, first, later, ValueOrder}
use Rattle.laws.proofs.Tests.{and_l, and_r, or_l, or_r, or-e}
use Rattle.laws.proofs.Orders.{reverse_same, Chain, twice, total_order}
use Rattle.ocl.proofs.HeadOrder.{then_same, then_eq, then_turned, then_chain, head_turned, head_chain, head_told, head_count}

-- ---- whole values: what holds of a value once it holds of its members holds of every value

pub order_is : (v w : Value) → order v w ≡ then_order (head_order v w) (orders (members v) (members w))
unfolding order members
order_is (bool b) w = sym (then_eq (head_order (bool b) w))
order_is (num x) w = sym (then_eq (head_order (num x) w))
order_is (obj o) w = sym (then_eq (head_order (obj o) w))
order_is (coll k vs) w = refl

module _ (P : Value → Type 0) (Q : Values → Type 0) (whole : (v : Value) → Q (members v) → P v) (none : Q nil) (more : (v : Value) (vs : Values) → P v → Q vs → Q (cons v vs)) where
  mutual
    unfolding members

    pub by_members : (v : Value) → P v
    by_members (bool b) = whole (bool b) none
    by_members (num x) = whole (num x) none
    by_members (obj o) = whole (obj o) none
    by_members (coll k vs) = whole (coll k vs) (by_each vs)

    by_each : (vs : Values) → Q vs
    by_each nil = none
    by_each (cons v vs) = more v vs (by_members v) (by_each vs)

-- ---- two that the order does not tell apart are one

abbrev Told : Value → Type 0
Told v = (w : Value) → T (numbers_kept v) → T (numbers_kept w) → order v w ≡ Ordering.eq → v ≡ w

abbrev ToldAll : Values → Type 0
ToldAll vs = (ws : Values) → T (all_kept vs) → T (all_kept ws) → count vs ≡ count ws → orders vs ws ≡ Ordering.eq → vs ≡ ws

members_kept : (v : Value) → T (numbers_kept v) → T (all_kept (members v))
unfolding numbers_kept all_kept every_part members
members_kept (bool b) h = tt
members_kept (num x) h = tt
members_kept (obj o) h = tt
members_kept (coll k vs) h = h

told_whole : (v : Value) → ToldAll (members v) → Told v
told_whole v h w k l e =
    let b = then_same (head_order v w) (orders (members v) (members w)) (sym (order_is v w) ∙ e) in
    head_told v w k l b.0 (h (members w) (members_kept v k) (members_kept w l) (head_count v w b.0) b.1)

told_none : ToldAll nil
unfolding count
told_none nil k l n e = refl
told_none (cons w ws) k l n e = absurd (omega arith)

pub kept_first : (v : Value) (vs : Values) → T (all_kept (cons v vs)) → T (numbers_kept v)
unfolding all_kept numbers_kept every_part
kept_first v vs h = and_l (every_part number_kept v) (every_parts number_kept vs) h

pub kept_others : (v : Value) (vs : Values) → T (all_kept (cons v vs)) → T (all_kept vs)
unfolding all_kept every_part
kept_others v vs h = and_r (every_part number_kept v) (every_parts number_kept vs) h

told_more : (v : Value) (vs : Values) → Told v → ToldAll vs → ToldAll (cons v vs)
unfolding count orders
told_more v vs p q nil k l n e = absurd (omega arith)
told_more v vs p q (cons w ws) k l n e =
    let b = then_same (order v w) (orders vs ws) e in
    let f = p w (kept_first v vs k) (kept_first w ws l) b.0 in
    let g = q ws (kept_others v vs k) (kept_others w ws l) (omega arith) b.1 in cc

pub order_same : (v w : Value) → T (numbers_kept v) → T (numbers_kept w) → order v w ≡ Ordering.eq → v ≡ w
order_same v = by_members Told ToldAll told_whole told_none told_more v

-- ---- the other way round

abbrev Turned : Value → Type 0
Turned v = (w : Value) → order w v ≡ reverse (order v w)

abbrev TurnedAll : Values → Type 0
TurnedAll vs = (ws : Values) → count vs ≡ count ws → orders ws vs ≡ reverse (orders vs ws)

turned_whole : (v : Value) → TurnedAll (members v) → Turned v
turned_whole v h w =
    rw (order_is v w, order_is w v, head_turned v w) (then_turned (head_order v w) _ _ (λ e. h (members w) (head_count v w e)))

turned_none : TurnedAll nil
unfolding count orders reverse
turned_none nil n = refl
turned_none (cons w ws) n = absurd (omega arith)

turned_more : (v : Value) (vs : Values) → Turned v → TurnedAll vs → TurnedAll (cons v vs)
unfolding count orders
turned_more v vs p q nil n = absurd (omega arith)
turned_more v vs p q (cons w ws) n = rw (p w) (then_turned (order v w) _ _ (λ e. q ws (omega arith)))

pub order_turned : (v w : Value) → order w v ≡ reverse (order v w)
order_turned v = by_members Turned TurnedAll turned_whole turned_none turned_more v

-- ---- chains

abbrev Chained : Value → Type 0
Chained u = (v w : Value) → Chain (order u v) (order v w) (order u w)

abbrev ChainedAll : Values → Type 0
ChainedAll us = (vs ws : Values) → count us ≡ count vs → count vs ≡ count ws → Chain (orders us vs) (orders vs ws) (orders us ws)

chained_whole : (u : Value) → ChainedAll (members u) → Chained u
chained_whole u h v w =
    rw (order_is u v, order_is v w, order_is u w)
    (then_chain _ _ _ (head_chain u v w) (λ e f. h (members v) (members w) (head_count u v e) (head_count v w f)))

chained_none : ChainedAll nil
unfolding count orders
chained_none nil nil m n = twice
chained_none nil (cons w ws) m n = absurd (omega arith)
chained_none (cons v vs) ws m n = absurd (omega arith)

chained_more : (u : Value) (us : Values) → Chained u → ChainedAll us → ChainedAll (cons u us)
unfolding count orders
chained_more u us p q nil ws m n = absurd (omega arith)
chained_more u us p q (cons v vs) nil m n = absurd (omega arith)
chained_more u us p q (cons v vs) (cons w ws) m n = then_chain _ _ _ (p v w) (λ e f. q vs ws (omega arith) (omega arith))

pub order_chain : (u v w : Value) → Chain (order u v) (order v w) (order u w)
order_chain u = by_members Chained ChainedAll chained_whole chained_none chained_more u

-- ---- one and the same

pub eq_test : (o : Ordering) → T (compare_is_eq o) → o ≡ Ordering.eq
eq_test Ordering.lt h = absurd h
eq_test Ordering.eq h = refl
eq_test Ordering.gt h = absurd h

order_self : (v : Value) → order v v ≡ Ordering.eq
order_self v = reverse_same (order v v) (order_turned v v)

pub same_is : (v w : Value) → T (numbers_kept v) → T (numbers_kept w) → T (same v w) ↔ (v ≡ w)
unfolding same
same_is v w k l =
    (λ h. order_same v w k l (eq_test (order v w) h), λ e. subst (λ x. T (compare_is_eq (order v x))) e (subst (λ o. T (compare_is_eq o)) (sym (order_self v)) tt))

-- ---- members

pub has_member : (v : Value) (vs : Values) → T (numbers_kept v) → T (all_kept vs) → T (has v vs) → Member v vs
unfolding has
has_member v nil k l h = absurd h
has_member v (cons w ws) k l h =
    or-e (same v w) (has v ws) h (λ t. subst (λ x. Member v (cons x ws)) ((same_is v w k (kept_first w ws l)).0 t) first)
    (λ t. later (has_member v ws k (kept_others w ws l) t))

pub same_self : (v : Value) → T (same v v)
unfolding same
same_self v = subst (λ o. T (compare_is_eq o)) (sym (order_self v)) tt

pub member_has : {v : Value} {vs : Values} → Member v vs → T (has v vs)
unfolding has
member_has {v} (first {vs}) = or_l (same v v) (has v vs) (same_self v)
member_has {v} (later {w} {vs} h) = or_r (same v w) (has v vs) (member_has h)

pub value_order : ValueOrder
value_order = record {
  same_exact = same_is;
  has_exact = λ v vs k l. (has_member v vs k l, member_has);
  total = total_order (λ v. T (numbers_kept v)) order order_same order_turned order_chain;
}
