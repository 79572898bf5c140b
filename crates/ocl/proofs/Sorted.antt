-- Adding keeps members as their kind asks. Assumes nothing.
use mathlib.Core.Path.{◌≡◌, refl, sym, ap, ◌∙◌, subst}
use mathlib.Core.Bool.{Bool, true, false}
use Prim.Native.Nat.{ℕ, zero, suc, ◌<◌, Ordering}
use native.Mathlib.Omega.{arith}
use lib.Dec.{T}
use Rattle.laws.specs.Orders.{reverse}
use Rattle.reals.specs.Reals.{order_int}
use Rattle.ocl.specs.Types.{class, Kind, set, sequence, bag}
use Rattle.ocl.specs.Values.{Value, obj, Values, nil, cons, then_order, sort, rank, head_order, order, put, insert, append, add, add_all}
use Rattle.ocl.specs.Model.{Model, is_a}
use Rattle.ocl.specs.Operations.{instances}
use Rattle.ocl.specs.Laws.{InOrder, ascends, repeats, anyhow, Sorted, sorted_nil, sorted_one, sorted_cons}
use Rattle.laws.proofs.Tests.{by-if}
use Rattle.laws.proofs.Orders.{compare-lt}
use Rattle.ocl.proofs.Values.{Every, every_nil, every_cons, every_imp, append_every}
use Rattle.ocl.proofs.Order.{order_turned}

sorted_head : {k : Kind} {v w : Value} {ws : Values} → Sorted k (cons v (cons w ws)) → InOrder k (order v w)
sorted_head (sorted_cons p h) = p

pub sorted_tail : {k : Kind} {v : Value} {vs : Values} → Sorted k (cons v vs) → Sorted k vs
sorted_tail sorted_one = sorted_nil
sorted_tail (sorted_cons p h) = h

-- a Sequence's members always are
pub sequence_sorted : (vs : Values) → Sorted sequence vs
sequence_sorted nil = sorted_nil
sequence_sorted (cons v nil) = sorted_one
sequence_sorted (cons v (cons w ws)) = sorted_cons anyhow (sequence_sorted (cons w ws))

in_order_lem : {k : Kind} {o p : Ordering} → o ≡ p → InOrder k p → InOrder k o
in_order_lem {k} e h = subst (InOrder k) (sym e) h

-- ---- inserting, with repeats where the kind has them

module _ (k : Kind) (b : Bool) (twice : T b → InOrder k Ordering.eq) where
  turned : (v w : Value) → order v w ≡ Ordering.gt → InOrder k (order w v)
  unfolding reverse
  turned v w e = in_order_lem (order_turned v w ∙ ap reverse e) ascends

  -- v goes in after u
  put_after : (u v w : Value) (ws more : Values) (o : Ordering) (c : Bool) → b ≡ c → order v w ≡ o → InOrder k (order u v) → Sorted k (cons u (cons w ws))
      → (InOrder k (order w v) → Sorted k (cons w more)) → Sorted k (cons u (put c o v w ws more))
  unfolding put
  put_after u v w ws more Ordering.lt c f e p h g = sorted_cons p (sorted_cons (in_order_lem e ascends) (sorted_tail h))
  put_after u v w ws more Ordering.eq true f e p h g = sorted_cons p (sorted_cons (in_order_lem e (twice (subst T (sym f) tt))) (sorted_tail h))
  put_after u v w ws more Ordering.eq false f e p h g = h
  put_after u v w ws more Ordering.gt c f e p h g = sorted_cons (sorted_head h) (g (turned v w e))

  insert_after : (u v : Value) (vs : Values) → InOrder k (order u v) → Sorted k (cons u vs) → Sorted k (cons u (insert b v vs))
  unfolding insert
  insert_after u v nil p h = sorted_cons p sorted_one
  insert_after u v (cons w ws) p h =
      put_after u v w ws (insert b v ws) (order v w) b refl refl p h (λ q. insert_after w v ws q (sorted_tail h))

  -- or stands first
  put_first : (v w : Value) (ws more : Values) (o : Ordering) (c : Bool) → b ≡ c → order v w ≡ o → Sorted k (cons w ws)
      → (InOrder k (order w v) → Sorted k (cons w more)) → Sorted k (put c o v w ws more)
  unfolding put
  put_first v w ws more Ordering.lt c f e h g = sorted_cons (in_order_lem e ascends) h
  put_first v w ws more Ordering.eq true f e h g = sorted_cons (in_order_lem e (twice (subst T (sym f) tt))) h
  put_first v w ws more Ordering.eq false f e h g = h
  put_first v w ws more Ordering.gt c f e h g = g (turned v w e)

  insert_sorted : (v : Value) (vs : Values) → Sorted k vs → Sorted k (insert b v vs)
  unfolding insert
  insert_sorted v nil h = sorted_one
  insert_sorted v (cons w ws) h = put_first v w ws (insert b v ws) (order v w) b refl refl h (λ q. insert_after w v ws q h)

pub add_sorted : (k : Kind) (v : Value) (vs : Values) → Sorted k vs → Sorted k (add k v vs)
unfolding add
add_sorted set v vs h = insert_sorted set false (λ t. absurd t) v vs h
add_sorted sequence v vs h = sequence_sorted (append v vs)
add_sorted bag v vs h = insert_sorted bag true (λ t. repeats) v vs h

pub add_all_sorted : (k : Kind) (vs ws : Values) → Sorted k ws → Sorted k (add_all k vs ws)
unfolding add_all
add_all_sorted k nil ws h = h
add_all_sorted k (cons v vs) ws h = add_all_sorted k vs (add k v ws) (add_sorted k v ws h)

-- ---- the instances of a class: each new one comes after all before it

append_sorted : {k : Kind} (v : Value) {vs : Values} → Every (λ w. InOrder k (order w v)) vs → Sorted k vs → Sorted k (append v vs)
unfolding append
append_sorted v e sorted_nil = sorted_one
append_sorted v (every_cons p e) sorted_one = sorted_cons p sorted_one
append_sorted v (every_cons p e) (sorted_cons q h) = sorted_cons q (append_sorted v e h)

-- an object with a smaller number
pub data Under (n : ℕ) : Value → Type 0 where
  under : {m : ℕ} → m < n → Under n (obj m)

under_more : {n : ℕ} {v : Value} → Under n v → Under (suc n) v
under_more (under {m} h) = under {m = m} (omega arith)

under_order : {n : ℕ} {v : Value} → Under n v → InOrder set (order v (obj n))
unfolding order head_order then_order sort rank order_int
under_order {n} (under {m} h) = in_order_lem (compare-lt m n h) ascends

pub instances_under : (s : Model) (c n : ℕ) → Every (Under n) (instances s c n)
unfolding instances
instances_under s c zero = every_nil
instances_under s c (suc n) =
    let h : Every (Under (suc n)) (instances s c n) = every_imp (λ v. under_more) (instances_under s c n) in
    by-if (Every (Under (suc n))) (is_a s n (class c)) _ _ (λ t. append_every (obj n) (under (omega arith)) h) (λ t. h)

pub instances_sorted : (s : Model) (c n : ℕ) → Sorted set (instances s c n)
unfolding instances
instances_sorted s c zero = sorted_nil
instances_sorted s c (suc n) =
    by-if (Sorted set) (is_a s n (class c)) _ _
    (λ t. append_sorted (obj n) (every_imp (λ v. under_order) (instances_under s c n)) (instances_sorted s c n)) (λ t. instances_sorted s c n)
