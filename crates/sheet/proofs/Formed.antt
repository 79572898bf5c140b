-- A value whose members are in order is formed: each Set in it strictly ascending, each Bag ascending. Assumes nothing.
use Prim.Native.Nat.{Ordering}
use lib.Dec.{T}
use mathlib.Core.Bool.{◌&&◌}
use Rattle.laws.proofs.Tests.{and_l, and_r}
use Rattle.reals.specs.Reals.{is_less}
use Rattle.ocl.specs.Types.{Kind, set, sequence, bag}
use Rattle.ocl.specs.Values.{Value, bool, obj, coll, Values, nil, cons, order, num}
use Rattle.ocl.specs.Laws.{InOrder, ascends, repeats, anyhow, Sorted, sorted_nil, sorted_one, sorted_cons, Formed, formed_bool, formed_obj, formed_coll, FormedAll, formed_nil, formed_cons, formed_num}
use Rattle.sheet.specs.Refusals.{may_follow, followed, ordered, all_ordered}

follows : (k : Kind) (q : Ordering) → T (may_follow k q) → InOrder k q
unfolding may_follow is_less
follows set Ordering.lt h = ascends
follows set Ordering.eq h = absurd h
follows set Ordering.gt h = absurd h
follows sequence q h = anyhow
follows bag Ordering.lt h = ascends
follows bag Ordering.eq h = repeats
follows bag Ordering.gt h = absurd h

members_sorted : (k : Kind) (vs : Values) → T (all_ordered k vs) → Sorted k vs
unfolding ordered followed
members_sorted k nil h = sorted_nil
members_sorted k (cons v nil) h = sorted_one
members_sorted k (cons v (cons w ws)) h =
    let a = and_l (ordered v && may_follow k (order v w)) _ h in
    sorted_cons (follows k (order v w) (and_r (ordered v) _ a)) (members_sorted k (cons w ws) (and_r (ordered v && may_follow k (order v w)) _ h))

mutual
  unfolding ordered

  pub value_formed : (v : Value) → T (ordered v) → Formed v
  value_formed (bool b) h = formed_bool
  value_formed (num x) h = formed_num
  value_formed (obj o) h = formed_obj
  value_formed (coll k vs) h = formed_coll (members_sorted k vs h) (members_formed k vs h)

  members_formed : (k : Kind) (vs : Values) → T (all_ordered k vs) → FormedAll vs
  members_formed k nil h = formed_nil
  members_formed k (cons v vs) h =
      formed_cons (value_formed v (and_l (ordered v) _ (and_l (ordered v && followed k v vs) _ h))) (members_formed k vs (and_r (ordered v && followed k v vs) _ h))
