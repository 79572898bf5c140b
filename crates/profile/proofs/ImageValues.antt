-- A value with its objects numbered anew keeps its size, its nesting and its order, and belongs to the types that the value belonged to.
-- Assumes nothing.
use mathlib.Core.Path.{◌≡◌, refl, sym, ap, ◌∙◌, subst}
use mathlib.Core.Bool.{Bool, true, ◌&&◌}
use Prim.Native.Nat.{ℕ, zero, suc, ◌+◌, ◌≤◌, max, Ordering}
use native.Mathlib.Omega.{arith}
use lib.Dec.{T}
use Rattle.laws.proofs.Tests.{and_i, and_l, and_r}
use Rattle.reals.specs.Reals.{Number, is_less}
use Rattle.ocl.specs.Types.{Simple, Kind, set, sequence, bag, Ty, void, simple, around}
use Rattle.ocl.specs.Values.{Value, bool, num, obj, coll, Values, nil, cons, size, sizes, every_part, every_parts, insert, add, add_all}
use Rattle.ocl.specs.Model.{Model, is_a, belongs}
use Rattle.ocl.specs.Laws.{InOrder, ascends, repeats, anyhow, Sorted, sorted_nil, sorted_cons, Formed, formed_bool, formed_num, formed_obj, formed_coll, FormedAll, formed_nil, formed_cons}
use Rattle.ocl.proofs.Values.{Every, every_nil, every_cons, every_imp, add_all_every, insert_sizes, Belongs, belongs_by, belongs_test}
use Rattle.ocl.proofs.Sorted.{add_all_sorted, sorted_tail}
use Rattle.ocl.proofs.Formed.{formed_of}
use Rattle.sheet.specs.Limits.{nesting, nestings}
use Rattle.sheet.specs.Refusals.{may_follow, followed, ordered, all_ordered}
use Rattle.profile.specs.Renumbering.{renumbered, renumbered_all}
use Rattle.profile.proofs.Adding.{sequence_self}
use Rattle.profile.proofs.Images.{Fit, FitAll, fit_members, image_all, set_as_bag}

-- what holds of each image holds of each member of the collection of images
all_every : {P : Value → Type 0} (f : ℕ → ℕ) {vs : Values} → Every (λ v. P (renumbered f v)) vs → Every P (renumbered_all f vs)
unfolding renumbered_all
all_every f every_nil = every_nil
all_every f (every_cons p h) = every_cons p (all_every f h)

gathered_every : {P : Value → Type 0} (f : ℕ → ℕ) (k : Kind) {vs : Values} → Every (λ v. P (renumbered f v)) vs → Every P (add_all k (renumbered_all f vs) nil)
gathered_every f k h = add_all_every k (all_every f h) every_nil

-- ---- formed

mutual
  unfolding renumbered

  pub image_formed : (f : ℕ → ℕ) {v : Value} → Formed v → Formed (renumbered f v)
  image_formed f formed_bool = formed_bool
  image_formed f formed_num = formed_num
  image_formed f formed_obj = formed_obj
  image_formed f (formed_coll {k} {vs} h e) = formed_of (add_all_sorted k (renumbered_all f vs) nil sorted_nil) (gathered_every f k (images_formed f e))

  images_formed : (f : ℕ → ℕ) {vs : Values} → FormedAll vs → Every (λ v. Formed (renumbered f v)) vs
  images_formed f formed_nil = every_nil
  images_formed f (formed_cons p h) = every_cons (image_formed f p) (images_formed f h)

-- ---- size

sizes_bag : (us vs : Values) → sizes (add_all bag us vs) ≡ sizes us + sizes vs
unfolding add_all add size
sizes_bag nil vs = omega arith
sizes_bag (cons u us) vs = let a = sizes_bag us (insert true u vs) in let b = insert_sizes u vs in omega arith

module _ (f g : ℕ → ℕ) (back : (o : ℕ) → g (f o) ≡ o) where
  sizes_gathered : (k : Kind) (vs : Values) → FitAll k vs → sizes (add_all k (renumbered_all f vs) nil) ≡ sizes (renumbered_all f vs)
  unfolding size
  sizes_gathered set vs h = ap (λ us. sizes (add_all set us nil)) (image_all f vs) ∙ ap sizes (set_as_bag f g back vs h) ∙ ap (λ us. sizes (add_all bag us nil)) (sym (image_all f vs)) ∙ (let a = sizes_bag (renumbered_all f vs) nil in omega arith)
  sizes_gathered sequence vs h = ap sizes (sequence_self (renumbered_all f vs))
  sizes_gathered bag vs h = let a = sizes_bag (renumbered_all f vs) nil in omega arith

  mutual
    unfolding renumbered size

    pub image_size : (v : Value) → Fit v → size (renumbered f v) ≡ size v
    image_size (bool b) h = refl
    image_size (num x) h = refl
    image_size (obj o) h = refl
    image_size (coll k vs) h = let m = fit_members h in let a = sizes_gathered k vs m in let b = images_sizes vs m.each_fit in omega arith

    images_sizes : (vs : Values) → Every Fit vs → sizes (renumbered_all f vs) ≡ sizes vs
    images_sizes nil every_nil = refl
    images_sizes (cons v vs) (every_cons p h) = let a = image_size v p in let b = images_sizes vs h in omega arith

-- ---- tests of every part

every_parts_lem : (P : Value → Bool) {vs : Values} → Every (λ v. T (every_part P v)) vs → T (every_parts P vs)
unfolding every_part
every_parts_lem P every_nil = tt
every_parts_lem P (every_cons {v} {vs} p h) = and_i (every_part P v) (every_parts P vs) p (every_parts_lem P h)

module _ (f : ℕ → ℕ) (P Q : Value → Bool) (on_bool : (b : Bool) → T (P (bool b)) → T (Q (bool b))) (on_num : (x : Number) → T (P (num x)) → T (Q (num x)))
    (on_obj : (o : ℕ) → T (P (obj o)) → T (Q (obj (f o)))) where
  mutual
    unfolding renumbered every_part

    pub image_parts : (v : Value) → T (every_part P v) → T (every_part Q (renumbered f v))
    image_parts (bool b) h = on_bool b h
    image_parts (num x) h = on_num x h
    image_parts (obj o) h = on_obj o h
    image_parts (coll k vs) h = every_parts_lem Q (gathered_every f k (images_parts vs h))

    images_parts : (vs : Values) → T (every_parts P vs) → Every (λ v. T (every_part Q (renumbered f v))) vs
    images_parts nil h = every_nil
    images_parts (cons v vs) h = every_cons (image_parts v (and_l (every_part P v) (every_parts P vs) h)) (images_parts vs (and_r (every_part P v) (every_parts P vs) h))

-- ---- nesting

nest_every : (m : ℕ) {vs : Values} → Every (λ v. nesting v ≤ m) vs → nestings vs ≤ m
unfolding nesting
nest_every m every_nil = omega arith
nest_every m (every_cons {v} {vs} p h) = let q = nest_every m h in max_both (nesting v) (nestings vs) m p q
  where
    max_both : (a b m : ℕ) → a ≤ m → b ≤ m → max a b ≤ m
    max_both a b m p q = omega arith

mutual
  unfolding renumbered nesting

  pub image_nesting : (f : ℕ → ℕ) (v : Value) (m : ℕ) → nesting v ≤ m → nesting (renumbered f v) ≤ m
  image_nesting f (bool b) m h = h
  image_nesting f (num x) m h = h
  image_nesting f (obj o) m h = h
  image_nesting f (coll k vs) zero h = absurd (omega arith)
  image_nesting f (coll k vs) (suc m) h = let a = nest_every m (gathered_every f k (images_nesting f vs m (omega arith))) in omega arith

  images_nesting : (f : ℕ → ℕ) (vs : Values) (m : ℕ) → nestings vs ≤ m → Every (λ v. nesting (renumbered f v) ≤ m) vs
  images_nesting f nil m h = every_nil
  images_nesting f (cons v vs) m h = every_cons (image_nesting f v m (omega arith)) (images_nesting f vs m (omega arith))

-- ---- a formed value's members are in order

may_follow_lem : {k : Kind} {o : Ordering} → InOrder k o → T (may_follow k o)
unfolding may_follow is_less
may_follow_lem {k = set} ascends = tt
may_follow_lem {k = sequence} ascends = tt
may_follow_lem {k = bag} ascends = tt
may_follow_lem repeats = tt
may_follow_lem anyhow = tt

sorted_followed : {k : Kind} (v : Value) (vs : Values) → Sorted k (cons v vs) → T (followed k v vs)
unfolding followed
sorted_followed v nil h = tt
sorted_followed v (cons w ws) (sorted_cons p h) = may_follow_lem p

mutual
  unfolding ordered

  pub formed_ordered : {v : Value} → Formed v → T (ordered v)
  formed_ordered formed_bool = tt
  formed_ordered formed_num = tt
  formed_ordered formed_obj = tt
  formed_ordered (formed_coll {k} h e) = all_ordered_lem k e h

  all_ordered_lem : (k : Kind) {vs : Values} → FormedAll vs → Sorted k vs → T (all_ordered k vs)
  all_ordered_lem k formed_nil s = tt
  all_ordered_lem k (formed_cons {v} {vs} p h) s =
      and_i (ordered v && followed k v vs) (all_ordered k vs) (and_i (ordered v) (followed k v vs) (formed_ordered p) (sorted_followed v vs s)) (all_ordered_lem k h (sorted_tail s))

-- ---- belonging

module _ (f : ℕ → ℕ) (m n : Model) (parents : m.parent ≡ n.parent) (objects : (o : ℕ) (b : Simple) → is_a n (f o) b ≡ is_a m o b) where
  image_of : (t : Ty) (v : Value) → Belongs m t v → Belongs n t (renumbered f v)
  unfolding Belongs renumbered
  image_of void v h = h
  image_of (simple b) (bool x) h = rw (← parents) h
  image_of (simple b) (num x) h = rw (← parents) h
  image_of (simple b) (obj o) h = subst T (sym (objects o b)) h
  image_of (simple b) (coll k vs) h = h
  image_of (around l t) (bool x) h = h
  image_of (around l t) (num x) h = h
  image_of (around l t) (obj o) h = h
  image_of (around l t) (coll k vs) h = (h.0, gathered_every f k (every_imp (λ v i. image_of t v i) h.1))

  pub image_belongs : (t : Ty) (v : Value) → T (belongs m t v) → T (belongs n t (renumbered f v))
  image_belongs t v h = belongs_test n t (renumbered f v) (image_of t v (belongs_by m t v h))
