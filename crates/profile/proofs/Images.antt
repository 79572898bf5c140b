-- Values with their objects numbered anew: fit values keep apart, members go to members, and what evaluation forms of images is the image
-- of what it forms. Assumes nothing.
use mathlib.Core.Path.{◌≡◌, refl, sym, ap, ◌∙◌, subst}
use mathlib.Core.Bool.{Bool}
use Prim.Native.Nat.{ℕ, ◌≤◌}
use native.Mathlib.Omega.{arith}
use lib.Dec.{T}
use Rattle.laws.proofs.Tests.{test_same}
use Rattle.reals.specs.Reals.{Number, kept}
use Rattle.ocl.specs.Types.{Kind, set, sequence, bag}
use Rattle.ocl.specs.Values.{Value, bool, num, obj, coll, Values, nil, cons, count, size, sizes, every_part, same, has, add_all}
use Rattle.ocl.specs.Laws.{number_kept, numbers_kept, all_kept, Member, first, later, Sorted, Formed, formed_bool, formed_num, formed_obj, formed_coll, FormedAll, formed_nil, formed_cons}
use Rattle.ocl.proofs.Values.{Every, every_nil, every_cons, every_imp, add_all_every}
use Rattle.ocl.proofs.Order.{same_is, has_member as has-is, member_has}
use Rattle.ocl.proofs.NumbersKept.{AllKept, each_kept, all_members}
use Rattle.ocl.proofs.Formed.{formed_of, members_sorted}
use Rattle.profile.specs.Renumbering.{renumbered, renumbered_all}
use Rattle.profile.proofs.Arranged.{InLine, Tidy, tidy_nil, line_set, line_bag}
use Rattle.profile.proofs.Adding.{has_gathered, sequence_self, gathered_self, Apart, apart_bag, sorted_apart, count_bag, apart_nil, apart_cons}
use Rattle.profile.proofs.Through.{each, changed_kept, through_self, all_through, each_self, gathered_through, each_add_all, through_sequence, through_bag, through_set}

-- ---- a value that evaluation may meet: formed, with its numbers kept, of an allowed size

pub record Fit (v : Value) : Type 0 where
  pub formed : Formed v
  pub numbers_kept_lem : AllKept v
  pub small : size v ≤ 128

-- members of a collection of kind k
pub record FitAll (k : Kind) (vs : Values) : Type 0 where
  pub sorted : Sorted k vs
  pub each_fit : Every Fit vs

pub fit_bool : {b : Bool} → Fit (bool b)
unfolding AllKept numbers_kept every_part number_kept size
fit_bool = record { formed = formed_bool; numbers_kept_lem = tt; small = omega arith }

pub fit_num : (x : Number) → T (kept x) → Fit (num x)
unfolding AllKept numbers_kept every_part number_kept size
fit_num x h = record { formed = formed_num; numbers_kept_lem = h; small = omega arith }

pub fit_obj : {o : ℕ} → Fit (obj o)
unfolding AllKept numbers_kept every_part number_kept size
fit_obj = record { formed = formed_obj; numbers_kept_lem = tt; small = omega arith }

-- the numbers of the members
coll_kept : (k : Kind) (vs : Values) → AllKept (coll k vs) → Every AllKept vs
unfolding AllKept numbers_kept every_part
coll_kept k vs h = each_kept vs h

kept_coll : (k : Kind) {vs : Values} → Every AllKept vs → AllKept (coll k vs)
unfolding AllKept numbers_kept every_part
kept_coll k h = all_members h

pub fit_members : {k : Kind} {vs : Values} → Fit (coll k vs) → FitAll k vs
unfolding size
fit_members {k} {vs} h = record { sorted = members_sorted h.formed; each_fit = go (all h.formed) (coll_kept k vs h.numbers_kept_lem) (omega (arith, h.small)) }
  where
    all : {k : Kind} {vs : Values} → Formed (coll k vs) → FormedAll vs
    all (formed_coll s e) = e

    go : {vs : Values} → FormedAll vs → Every AllKept vs → sizes vs ≤ 128 → Every Fit vs
    go formed_nil every_nil l = every_nil
    go (formed_cons p f) (every_cons q e) l = every_cons (record { formed = p; numbers_kept_lem = q; small = omega arith }) (go f e (omega arith))

pub fit_coll : {k : Kind} {vs : Values} → FitAll k vs → size (coll k vs) ≤ 128 → Fit (coll k vs)
fit_coll {k} h l = record {
  formed = formed_of h.sorted (every_imp (λ v p. p.formed) h.each_fit);
  numbers_kept_lem = kept_coll k (every_imp (λ v p. p.numbers_kept_lem) h.each_fit);
  small = l;
}

pub fit_kept : {vs : Values} → Every Fit vs → Every AllKept vs
fit_kept e = every_imp (λ v p. p.numbers_kept_lem) e

-- ---- images

pub image_all : (f : ℕ → ℕ) (vs : Values) → renumbered_all f vs ≡ each (renumbered f) vs
unfolding renumbered_all each
image_all f nil = refl
image_all f (cons v vs) = rw (image_all f vs)

-- a collection's image
pub image_coll : (f : ℕ → ℕ) (k : Kind) (vs : Values) → renumbered f (coll k vs) ≡ coll k (add_all k (each (renumbered f) vs) nil)
unfolding renumbered
image_coll f k vs = ap (λ us. coll k (add_all k us nil)) (image_all f vs)

each_each : (f g : Value → Value) {vs : Values} → Every (λ v. g (f v) ≡ v) vs → each g (each f vs) ≡ vs
unfolding each
each_each f g every_nil = refl
each_each f g (every_cons p h) = rw (p, each_each f g h)

mutual
  unfolding renumbered AllKept numbers_kept every_part number_kept

  pub image_kept : (f : ℕ → ℕ) (v : Value) → AllKept v → AllKept (renumbered f v)
  image_kept f (bool b) h = tt
  image_kept f (num x) h = h
  image_kept f (obj o) h = tt
  image_kept f (coll k vs) h = all_members (add_all_every k (images_kept f vs (each_kept vs h)) every_nil)

  images_kept : (f : ℕ → ℕ) (vs : Values) → Every AllKept vs → Every AllKept (renumbered_all f vs)
  images_kept f nil every_nil = every_nil
  images_kept f (cons v vs) (every_cons p h) = every_cons (image_kept f v p) (images_kept f vs h)

-- ---- members of images

pub member_to : (f : Value → Value) {x : Value} {vs : Values} → Member x vs → Member (f x) (each f vs)
unfolding each
member_to f first = first
member_to f (later h) = later (member_to f h)

pub member_from : (f : Value → Value) (y : Value) (vs : Values) → Member y (each f vs) → (x : Value) × Member x vs × (y ≡ f x)
unfolding each
member_from f y (cons v vs) first = (v, first, refl)
member_from f y (cons v vs) (later h) = let r = member_from f y vs h in (r.0, later r.1, r.2)
member_from f y nil x' = elim x' [ ]

pub every_member : {P : Value → Type 0} {x : Value} {vs : Values} → Every P vs → Member x vs → P x
every_member (every_cons p e) first = p
every_member (every_cons p e) (later h) = every_member e h
every_member {P = P} every_nil x4 = elim x4 [ ]

pub no_member : {y : Value} → Member y nil → ⊥
unfolding has
no_member {y} h = member_has h

-- where numbers are kept, the test is exact
pub has_member : (x : Value) (vs : Values) → AllKept x → Every AllKept vs → T (has x vs) → Member x vs
unfolding AllKept all_kept
has_member x vs k e h = has-is x vs k (all_members e) h

-- gathering keeps members
pub member_gathered : (k : Kind) {us : Values} → Every AllKept us → {y : Value} → Member y us → Member y (add_all k us nil)
member_gathered k {us} e {y} h =
    has_member y (add_all k us nil) (every_member e h) (add_all_every k e every_nil) (subst T (sym (has_gathered y k us)) (member_has h))

pub gathered_member : (k : Kind) {us : Values} → Every AllKept us → {y : Value} → Member y (add_all k us nil) → Member y us
gathered_member k {us} e {y} h =
    has_member y us (every_member (add_all_every k e every_nil) h) e (subst T (has_gathered y k us) (member_has h))

-- ---- the way back

module _ (f g : ℕ → ℕ) (back : (o : ℕ) → g (f o) ≡ o) where
  coll_back : (k : Kind) (vs : Values) → Tidy k vs → Every (λ v. renumbered g (renumbered f v) ≡ v) vs → renumbered g (renumbered f (coll k vs)) ≡ coll k vs
  unfolding each add_all
  coll_back k vs h e =
      ap (renumbered g) (image_coll f k vs) ∙ image_coll g k (add_all k (each (renumbered f) vs) nil)
      ∙ ap (coll k) (each_add_all (renumbered g) (image_kept g) k (each (renumbered f) vs) nil (changed_kept (renumbered f) (image_kept f) h.all_kept_lem) every_nil
      ∙ ap (λ us. add_all k (add_all k us nil) nil) (each_each (renumbered f) (renumbered g) e)
      ∙ ap (λ us. add_all k us nil) (gathered_self k vs h) ∙ gathered_self k vs h)

  mutual
    unfolding renumbered

    image_back : {v : Value} → Formed v → AllKept v → renumbered g (renumbered f v) ≡ v
    image_back formed_bool p = refl
    image_back formed_num p = refl
    image_back (formed_obj {o}) p = ap obj (back o)
    image_back (formed_coll {k} {vs} h e) p = coll_back k vs (record { sorted = h; all_kept_lem = coll_kept k vs p }) (images_back e (coll_kept k vs p))

    images_back : {vs : Values} → FormedAll vs → Every AllKept vs → Every (λ v. renumbered g (renumbered f v) ≡ v) vs
    images_back formed_nil every_nil = every_nil
    images_back (formed_cons p h) (every_cons q e) = every_cons (image_back p q) (images_back h e)

  -- so fit values keep apart
  pub image_one : {v w : Value} → Fit v → Fit w → renumbered f v ≡ renumbered f w → v ≡ w
  image_one p q e = sym (image_back p.formed p.numbers_kept_lem) ∙ ap (renumbered g) e ∙ image_back q.formed q.numbers_kept_lem

  pub image_same : {v w : Value} → Fit v → Fit w → same (renumbered f v) (renumbered f w) ≡ same v w
  unfolding AllKept
  image_same {v} {w} p q =
      let here = same_is v w p.numbers_kept_lem q.numbers_kept_lem in
      let there = same_is (renumbered f v) (renumbered f w) (image_kept f v p.numbers_kept_lem) (image_kept f w q.numbers_kept_lem) in
      test_same (same (renumbered f v) (renumbered f w)) (same v w) (λ t. here.1 (image_one p q (there.0 t))) (λ t. there.1 (ap (renumbered f) (here.0 t)))

  pub image_has : {x : Value} {vs : Values} → Fit x → Every Fit vs → has (renumbered f x) (each (renumbered f) vs) ≡ has x vs
  unfolding has each
  image_has p every_nil = refl
  image_has p (every_cons q h) = rw (image_same p q, image_has p h)

  image_apart : {vs : Values} → Every Fit vs → Apart vs → Apart (each (renumbered f) vs)
  unfolding each
  image_apart every_nil apart_nil = apart_nil
  image_apart (every_cons p h) (apart_cons e a) = apart_cons (image_has p h ∙ e) (image_apart h a)

  pub changed : {vs : Values} → Every Fit vs → Every AllKept (each (renumbered f) vs)
  changed h = changed_kept (renumbered f) (image_kept f) (fit_kept h)

  pub set_as_bag : (vs : Values) → FitAll set vs → add_all set (each (renumbered f) vs) nil ≡ add_all bag (each (renumbered f) vs) nil
  set_as_bag vs h = apart_bag (each (renumbered f) vs) (changed h.each_fit) (image_apart h.each_fit (sorted_apart h.sorted))

  -- ---- `size`

  count_each : (h : Value → Value) (vs : Values) → count (each h vs) ≡ count vs
  unfolding each count
  count_each h nil = refl
  count_each h (cons v vs) = rw (count_each h vs)

  count_as_bag : (vs : Values) → count (add_all bag (each (renumbered f) vs) nil) ≡ count vs
  unfolding count
  count_as_bag vs = count_bag (each (renumbered f) vs) nil ∙ (let e = count_each (renumbered f) vs in omega arith)

  pub image_count : (k : Kind) (vs : Values) → FitAll k vs → count (add_all k (each (renumbered f) vs) nil) ≡ count vs
  image_count set vs h = ap count (set_as_bag vs h) ∙ count_as_bag vs
  image_count sequence vs h = ap count (sequence_self (each (renumbered f) vs)) ∙ count_each (renumbered f) vs
  image_count bag vs h = count_as_bag vs

  -- ---- into a Set or a Bag

  -- changed members of an image, as if of the members' images
  pub image_gathered : (h : Value → Value) → ((v : Value) → AllKept v → AllKept (h v)) → (j : Kind) {k : Kind} → InLine k → (vs : Values) → FitAll j vs
      → add_all k (each h (add_all j (each (renumbered f) vs) nil)) nil ≡ add_all k (each h (each (renumbered f) vs)) nil
  unfolding each add_all
  image_gathered h keeps set line_set vs g = all_through h keeps line_set through_set nil (changed g.each_fit) every_nil tidy_nil
  image_gathered h keeps set line_bag vs g =
      ap (λ us. add_all bag (each h us) nil) (set_as_bag vs g) ∙ all_through h keeps line_bag through_bag nil (changed g.each_fit) every_nil tidy_nil
  image_gathered h keeps sequence l vs g = all_through h keeps l through_sequence nil (changed g.each_fit) every_nil tidy_nil
  image_gathered h keeps bag l vs g = all_through h keeps l through_bag nil (changed g.each_fit) every_nil tidy_nil

  -- a Set or a Bag, formAll and then changed
  pub line_image : {k : Kind} → InLine k → (vs : Values) → Every AllKept vs → add_all k (each (renumbered f) (add_all k vs nil)) nil ≡ add_all k (each (renumbered f) vs) nil
  unfolding each add_all
  line_image {k} l vs p =
      each_add_all (renumbered f) (image_kept f) k vs nil p every_nil
      ∙ gathered_through l (through_self l) (each (renumbered f) vs) nil (changed_kept (renumbered f) (image_kept f) p) tidy_nil

  -- `asSet`, `asBag`
  pub image_convert : (j : Kind) {k : Kind} → InLine k → (vs : Values) → FitAll j vs
      → add_all k (add_all j (each (renumbered f) vs) nil) nil ≡ add_all k (each (renumbered f) (add_all k vs nil)) nil
  image_convert j {k} l vs h =
      ap (λ us. add_all k us nil) (sym (each_self (add_all j (each (renumbered f) vs) nil))) ∙ image_gathered (λ v. v) (λ v p. p) j l vs h
      ∙ ap (λ us. add_all k us nil) (each_self (each (renumbered f) vs)) ∙ sym (line_image l vs (fit_kept h.each_fit))
