-- It does not matter in which order members are added to a Set or a Bag; a Sequence takes them as they come. Assumes nothing.
use mathlib.Core.Path.{◌≡◌, refl, sym, ap, ◌∙◌}
use mathlib.Core.Bool.{Bool, true, false, ◌||◌}
use Prim.Native.Nat.{suc, ◌+◌, Ordering}
use native.Mathlib.Omega.{arith}
use Rattle.ocl.specs.Types.{Kind, set, sequence, bag}
use Rattle.ocl.specs.Values.{Value, Values, nil, cons, count, order, same, has, put, insert, append, add, add_all}
use Rattle.ocl.specs.Laws.{InOrder, ascends, Sorted, sorted_nil, sorted_one, sorted_cons}
use Rattle.ocl.proofs.Values.{Every, every_nil, every_cons}
use Rattle.ocl.proofs.NumbersKept.{AllKept}
use Rattle.ocl.proofs.Sorted.{add_all_sorted}
use Rattle.profile.proofs.Arranged.{same_right, same_eq, once, times, has_left, less_not_same, Under, InLine, Tidy, tidy_nil, tidy_add, tidy_all, unique, under_tail, set_once, unique_set, line_set, line_bag}

-- ---- what is added is a member, and the others are as they were

or_swap : (a b c : Bool) → a || (b || c) ≡ b || (a || c)
or_swap true true c = refl
or_swap true false c = refl
or_swap false b c = refl

or_twice : (a b : Bool) → a || (a || b) ≡ a || b
or_twice true b = refl
or_twice false b = refl

has-put : (x v w : Value) (ws more : Values) (b : Bool) (o : Ordering) → order v w ≡ o → has x more ≡ same x v || has x ws → has x (put b o v w ws more) ≡ same x v || (same x w || has x ws)
unfolding put has
has-put x v w ws more b Ordering.lt e h = refl
has-put x v w ws more true Ordering.eq e h = refl
has-put x v w ws more false Ordering.eq e h = sym (or_twice (same x w) (has x ws)) ∙ ap (λ b. b || (same x w || has x ws)) (same_right x v w e)
has-put x v w ws more b Ordering.gt e h = rw h (or_swap (same x w) (same x v) (has x ws))

has_insert : (x : Value) (b : Bool) (v : Value) (vs : Values) → has x (insert b v vs) ≡ same x v || has x vs
unfolding insert has
has_insert x b v nil = refl
has_insert x b v (cons w ws) = has-put x v w ws (insert b v ws) b (order v w) refl (has_insert x b v ws)

has_append : (x v : Value) (vs : Values) → has x (append v vs) ≡ same x v || has x vs
unfolding append has
has_append x v nil = refl
has_append x v (cons w ws) = rw (has_append x v ws) (or_swap (same x w) (same x v) (has x ws))

pub has_add : (x : Value) (k : Kind) (v : Value) (vs : Values) → has x (add k v vs) ≡ same x v || has x vs
unfolding add
has_add x set v vs = has_insert x false v vs
has_add x sequence v vs = has_append x v vs
has_add x bag v vs = has_insert x true v vs

pub has_add_all : (x : Value) (k : Kind) (us vs : Values) → has x (add_all k us vs) ≡ has x us || has x vs
unfolding add_all has
has_add_all x k nil vs = refl
has_add_all x k (cons u us) vs = has_add_all x k us (add k u vs) ∙ ap (λ b. has x us || b) (has_add x k u vs) ∙ or_turn (has x us) (same x u) (has x vs)
  where
    or_turn : (a b c : Bool) → a || (b || c) ≡ (b || a) || c
    or_turn true true c = refl
    or_turn true false c = refl
    or_turn false true c = refl
    or_turn false false c = refl

pub has_gathered : (x : Value) (k : Kind) (us : Values) → has x (add_all k us nil) ≡ has x us
unfolding has
has_gathered x k us = has_add_all x k us nil ∙ or-none (has x us)
  where
    or-none : (a : Bool) → a || false ≡ a
    or-none true = refl
    or-none false = refl

times_put : (x v w : Value) (ws more : Values) (o : Ordering) → times x more ≡ once (same x v) + times x ws → times x (put true o v w ws more) ≡ once (same x v) + (once (same x w) + times x ws)
unfolding put times
times_put x v w ws more Ordering.lt h = refl
times_put x v w ws more Ordering.eq h = refl
times_put x v w ws more Ordering.gt h = omega arith

times_insert : (x v : Value) (vs : Values) → times x (insert true v vs) ≡ once (same x v) + times x vs
unfolding insert times
times_insert x v nil = refl
times_insert x v (cons w ws) = times_put x v w ws (insert true v ws) (order v w) (times_insert x v ws)

times_add_all : (x : Value) (us vs : Values) → times x (add_all bag us vs) ≡ times x us + times x vs
unfolding add_all add times
times_add_all x nil vs = omega arith
times_add_all x (cons u us) vs = let a = times_add_all x us (insert true u vs) in let b = times_insert x u vs in omega arith

-- ---- Sets and Bags: in which order members are added does not matter, and a Set takes one twice as once

pub add_swap : {k : Kind} → InLine k → (v w : Value) (vs : Values) → AllKept v → AllKept w → Tidy k vs → add k v (add k w vs) ≡ add k w (add k v vs)
unfolding add
add_swap line_set v w vs p q h =
    unique_set (add set v (add set w vs)) (add set w (add set v vs)) (tidy_add set v p (tidy_add set w q h)) (tidy_add set w q (tidy_add set v p h))
    (λ x k. has_add x set v (add set w vs) ∙ ap (λ b. same x v || b) (has_add x set w vs) ∙ or_swap (same x v) (same x w) (has x vs)
    ∙ sym (has_add x set w (add set v vs) ∙ ap (λ b. same x w || b) (has_add x set v vs)))
add_swap line_bag v w vs p q h =
    unique line_bag (add bag v (add bag w vs)) (add bag w (add bag v vs)) (tidy_add bag v p (tidy_add bag w q h)) (tidy_add bag w q (tidy_add bag v p h))
    (λ x k. let a = times_insert x v (insert true w vs) in let b = times_insert x w vs in let c = times_insert x w (insert true v vs) in let d = times_insert x v vs in omega arith)

pub add_twice : (v : Value) (vs : Values) → AllKept v → Tidy set vs → add set v (add set v vs) ≡ add set v vs
add_twice v vs p h =
    unique_set (add set v (add set v vs)) (add set v vs) (tidy_add set v p (tidy_add set v p h)) (tidy_add set v p h)
    (λ x k. has_add x set v (add set v vs) ∙ ap (λ b. same x v || b) (has_add x set v vs) ∙ or_twice (same x v) (has x vs) ∙ sym (has_add x set v vs))

-- what is added first may be added last
pub add_last : {k : Kind} → InLine k → {us : Values} (v : Value) (vs : Values) → Every AllKept us → AllKept v → Tidy k vs → add_all k us (add k v vs) ≡ add k v (add_all k us vs)
unfolding add_all
add_last l v vs every_nil q h = refl
add_last {k} l v vs (every_cons {v = u} {vs = us} p a) q h = ap (add_all k us) (add_swap l u v vs p q h) ∙ add_last l v (add k u vs) a q (tidy_add k u p h)

-- ---- Sequences

unfoldable pub joined : Values → Values → Values
joined nil ws = ws
joined (cons v vs) ws = cons v (joined vs ws)

joined_append : (v : Value) (vs ws : Values) → joined (append v vs) ws ≡ joined vs (cons v ws)
unfolding joined append
joined_append v nil ws = refl
joined_append v (cons w vs) ws = rw (joined_append v vs ws)

joined_nil : (vs : Values) → joined vs nil ≡ vs
unfolding joined
joined_nil nil = refl
joined_nil (cons v vs) = rw (joined_nil vs)

pub sequence_joined : (us vs : Values) → add_all sequence us vs ≡ joined vs us
unfolding add_all add
sequence_joined nil vs = sym (joined_nil vs)
sequence_joined (cons u us) vs = sequence_joined us (append u vs) ∙ joined_append u vs us

-- a Sequence that is formAll is what it is formAll from
pub sequence_self : (us : Values) → add_all sequence us nil ≡ us
unfolding joined
sequence_self us = sequence_joined us nil

-- and so is what is in order already
pub gathered_self : (k : Kind) (vs : Values) → Tidy k vs → add_all k vs nil ≡ vs
unfolding times
gathered_self set vs h = unique_set (add_all set vs nil) vs (tidy_all set h.all_kept_lem tidy_nil) h (λ x k. has_gathered x set vs)
gathered_self sequence vs h = sequence_self vs
gathered_self bag vs h = unique line_bag (add_all bag vs nil) vs (tidy_all bag h.all_kept_lem tidy_nil) h (λ x k. let a = times_add_all x vs nil in omega arith)

-- ---- members that are all different make a Set as they make a Bag

pub data Apart : Values → Type 0 where
  apart_nil : Apart nil
  apart_cons : {v : Value} {vs : Values} → has v vs ≡ false → Apart vs → Apart (cons v vs)

apart_once : (x : Value) {vs : Values} → Apart vs → times x vs ≡ once (has x vs)
unfolding times has once
apart_once x apart_nil = refl
apart_once x (apart_cons {v} {vs} e h) = by (same x v) refl (apart_once x h)
  where
    by : (b : Bool) → same x v ≡ b → times x vs ≡ once (has x vs) → once b + times x vs ≡ once (b || has x vs)
    by true q z = let y : times x vs ≡ 0 = z ∙ ap once (has_left x v (same_eq x v q) vs ∙ e) in omega arith
    by false q z = omega arith

set_in_line : {vs : Values} → Sorted set vs → Sorted bag vs
set_in_line sorted_nil = sorted_nil
set_in_line sorted_one = sorted_one
set_in_line (sorted_cons q h) = sorted_cons (weak q) (set_in_line h)
  where
    weak : {o : Ordering} → InOrder set o → InOrder bag o
    weak ascends = ascends

pub apart_bag : (us : Values) → Every AllKept us → Apart us → add_all set us nil ≡ add_all bag us nil
unfolding times
apart_bag us p a =
    let h = tidy_all set p tidy_nil in
    unique line_bag (add_all set us nil) (add_all bag us nil) (record { sorted = set_in_line h.sorted; all_kept_lem = h.all_kept_lem }) (tidy_all bag p tidy_nil)
    (λ x k. set_once x (add_all set us nil) (add_all_sorted set us nil sorted_nil) ∙ ap once (has_gathered x set us) ∙ sym (apart_once x a) ∙ (let z = times_add_all x us nil in omega arith))

none_under : (x : Value) {vs : Values} → Under x vs → has x vs ≡ false
unfolding has
none_under x every_nil = refl
none_under x (every_cons {v} p h) = rw (less_not_same x v p, none_under x h)

pub sorted_apart : {vs : Values} → Sorted set vs → Apart vs
unfolding has
sorted_apart sorted_nil = apart_nil
sorted_apart (sorted_one {v}) = apart_cons refl apart_nil
sorted_apart (sorted_cons {v} q h) = apart_cons (none_under v (under_tail (sorted_cons q h))) (sorted_apart h)

-- ---- how many

count_put : (v w : Value) (ws more : Values) (o : Ordering) → count more ≡ suc (count ws) → count (put true o v w ws more) ≡ suc (suc (count ws))
unfolding put count
count_put v w ws more Ordering.lt h = refl
count_put v w ws more Ordering.eq h = refl
count_put v w ws more Ordering.gt h = omega arith

count_insert : (v : Value) (vs : Values) → count (insert true v vs) ≡ suc (count vs)
unfolding insert count
count_insert v nil = refl
count_insert v (cons w ws) = count_put v w ws (insert true v ws) (order v w) (count_insert v ws)

pub count_bag : (us vs : Values) → count (add_all bag us vs) ≡ count us + count vs
unfolding add_all add count
count_bag nil vs = omega arith
count_bag (cons u us) vs = let a = count_bag us (insert true u vs) in let b = count_insert u vs in omega arith
