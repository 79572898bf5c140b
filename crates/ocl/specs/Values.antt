-- Document 01, Values and types: values, their size and order; Evaluation: how a member is added.
use Rattle.std.specs.Prelude.{Bool, true, false, ◌&&◌, ◌||◌, ℤ, pos}
use Prim.Native.Nat.{ℕ, suc, ◌+◌, compare, Ordering}
use Rattle.std.proofs.Math.Dec.{compare_is_eq}
use Rattle.reals.specs.Reals.{Number, units, order_int}
use Rattle.ocl.specs.Types.{Kind, set, sequence, bag}

-- a value that is defined: true or false, an Integer or a Real, an object, a collection. "Undefined is never a member", so it stands apart
mutual
  pub data Value : Type 0 where
    bool : Bool → Value
    num : Number → Value
    obj : ℕ → Value
    coll : Kind → Values → Value

  pub data Values : Type 0 where
    nil : Values
    cons : Value → Values → Values

-- "`size` is the number of members"
unfoldable pub count : Values → ℕ
count nil = 0
count (cons v vs) = suc (count vs)

-- "Size: 1, plus the sizes of the members"
unfoldable mutual
  pub size : Value → ℕ
  size (bool b) = 1
  size (num x) = 1
  size (obj o) = 1
  size (coll k vs) = suc (sizes vs)

  pub sizes : Values → ℕ
  sizes nil = 0
  sizes (cons v vs) = size v + sizes vs

-- "at most 128"
abbrev pub largest : ℕ
largest = 128

-- does the test hold of each part of a value that is no collection, at every depth
unfoldable mutual
  pub every_part : (Value → Bool) → Value → Bool
  every_part f (bool b) = f (bool b)
  every_part f (num x) = f (num x)
  every_part f (obj o) = f (obj o)
  every_part f (coll k vs) = every_parts f vs

  pub every_parts : (Value → Bool) → Values → Bool
  every_parts f nil = true
  every_parts f (cons v vs) = every_part f v && every_parts f vs

-- ---- the order of values

-- the first that tells two apart
unfoldable pub then_order : Ordering → Ordering → Ordering
then_order Ordering.lt q = Ordering.lt
then_order Ordering.eq q = q
then_order Ordering.gt q = Ordering.gt

-- "Order of values: `f`, `t`, Integers, objects by number, Sets, Sequences, Bags", with Reals among the Integers
unfoldable pub sort : Value → ℕ
sort (bool b) = 0
sort (num x) = 1
sort (obj o) = 2
sort (coll set vs) = 3
sort (coll sequence vs) = 4
sort (coll bag vs) = 5

-- false before true
unfoldable pub of_bool : Bool → ℤ
of_bool false = pos 0
of_bool true = pos 1

-- within a sort: truth values and objects by number, a collection by how many members it has; document 02, F-8: "Integers and Reals
-- are ordered together by number"
unfoldable pub rank : Value → ℤ
rank (bool b) = of_bool b
rank (num x) = units x
rank (obj o) = pos o
rank (coll k vs) = pos (count vs)

-- a collection's members; of any other value none
unfoldable pub members : Value → Values
members (bool b) = nil
members (num x) = nil
members (obj o) = nil
members (coll k vs) = vs

-- by sort, then by rank
unfoldable pub head_order : Value → Value → Ordering
head_order v w = then_order (compare (sort v) (sort w)) (order_int (rank v) (rank w))

-- "within one collection kind fewer members first, then member by member"
unfoldable mutual
  pub order : Value → Value → Ordering
  order (bool b) w = head_order (bool b) w
  order (num x) w = head_order (num x) w
  order (obj o) w = head_order (obj o) w
  order (coll k vs) w = then_order (head_order (coll k vs) w) (orders vs (members w))

  pub orders : Values → Values → Ordering
  orders nil ws = Ordering.eq
  orders (cons v vs) nil = Ordering.gt
  orders (cons v vs) (cons w ws) = then_order (order v w) (orders vs ws)

-- "`eq` is true exactly when both values are the same": neither comes before the other (proofs/Order.antt: this is equality,
-- where numbers are kept)
unfoldable pub same : Value → Value → Bool
same v w = compare_is_eq (order v w)

-- "`includes` is true exactly when a member is the same value as e"
unfoldable pub has : Value → Values → Bool
has v nil = false
has v (cons w ws) = same v w || has v ws

-- ---- adding a member: "Sets are strictly ascending, Bags ascending with repeats, Sequences as given"

-- v before the member w, in its place (a second time, or not), or further on
unfoldable pub put : Bool → Ordering → Value → Value → Values → Values → Values
put repeats Ordering.lt v w ws further = cons v (cons w ws)
put true Ordering.eq v w ws further = cons v (cons w ws)
put false Ordering.eq v w ws further = cons w ws
put repeats Ordering.gt v w ws further = cons w further

-- into ascending members, with repeats or without
unfoldable pub insert : Bool → Value → Values → Values
insert repeats v nil = cons v nil
insert repeats v (cons w ws) = put repeats (order v w) v w ws (insert repeats v ws)

-- "in a Sequence at the end"
unfoldable pub append : Value → Values → Values
append v nil = cons v nil
append v (cons w ws) = cons w (append v ws)

-- as the kind has it
unfoldable pub add : Kind → Value → Values → Values
add set v vs = insert false v vs
add sequence v vs = append v vs
add bag v vs = insert true v vs

-- the first members, one by one, to the second
unfoldable pub add_all : Kind → Values → Values → Values
add_all k nil vs = vs
add_all k (cons w ws) vs = add_all k ws (add k w vs)
