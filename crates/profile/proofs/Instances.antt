-- The instances of a class, numbered anew, are its instances. Assumes nothing.
use mathlib.Core.Path.{◌≡◌, refl, sym, ap, ◌∙◌, subst}
use mathlib.Core.Logic.{◌⊎◌, inl, inr}
use Prim.Native.Nat.{ℕ, zero, suc, ◌<◌}
use native.Mathlib.Omega.{arith}
use lib.Dec.{T}
use Rattle.std.specs.Prelude.{if◌then◌else◌}
use Rattle.laws.proofs.Tests.{by-if, test_true, test_same}
use Rattle.laws.proofs.Orders.{Three, less, same as equal, over, three}
use Rattle.ocl.specs.Types.{Simple, class, set}
use Rattle.ocl.specs.Values.{Value, obj, Values, nil, cons, has, append, add_all}
use Rattle.ocl.specs.Model.{Model, class_is_a, is_a}
use Rattle.ocl.specs.Operations.{instances}
use Rattle.ocl.specs.Laws.{Member, first, later}
use Rattle.ocl.proofs.Order.{member_has}
use Rattle.ocl.proofs.NumbersKept.{instances_kept}
use Rattle.ocl.proofs.Sorted.{instances_sorted}
use Rattle.profile.specs.Renumbering.{Permutation, renumbered, renumbered_model}
use Rattle.profile.proofs.Arranged.{tidy_nil, tidy_all, unique_set}
use Rattle.profile.proofs.Adding.{has_gathered}
use Rattle.profile.proofs.Through.{each, changed_kept}
use Rattle.profile.proofs.Images.{image_kept, member_to, member_from, no_member, has_member}

-- ---- the instances of a class

member_appended : (y v : Value) (vs : Values) → Member y (append v vs) → (y ≡ v) ⊎ Member y vs
unfolding append
member_appended y v nil first = inl refl
member_appended y v nil (later h) = inr h
member_appended y v (cons w ws) first = inr first
member_appended y v (cons w ws) (later h) = more (member_appended y v ws h)
  where
    more : (y ≡ v) ⊎ Member y ws → (y ≡ v) ⊎ Member y (cons w ws)
    more (inl e) = inl e
    more (inr m) = inr (later m)

appended_last : (v : Value) (vs : Values) → Member v (append v vs)
unfolding append
appended_last v nil = first
appended_last v (cons w ws) = later (appended_last v ws)

appended_more : {y : Value} {vs : Values} (v : Value) → Member y vs → Member y (append v vs)
unfolding append
appended_more v first = first
appended_more v (later h) = later (appended_more v h)

-- object o is one of them
record Instance (s : Model) (c n : ℕ) (y : Value) : Type 0 where
  number : ℕ
  is : y ≡ obj number
  inside : number < n
  of_class : T (is_a s number (class c))

instance_of : (s : Model) (c n : ℕ) (y : Value) → Member y (instances s c n) → Instance s c n y
unfolding instances
instance_of s c zero y h = absurd (no_member h)
instance_of s c (suc n) y h =
    by-if (λ vs. Member y vs → Instance s c (suc n) y) (is_a s n (class c)) (append (obj n) (instances s c n)) (instances s c n)
    (λ t k. either t (λ m. instance_of s c n y m) (member_appended y (obj n) (instances s c n) k)) (λ t k. more (instance_of s c n y k)) h
  where
    more : Instance s c n y → Instance s c (suc n) y
    more i = record { number = i.number; is = i.is; inside = (let l = i.inside in omega arith); of_class = i.of_class }

    either : T (is_a s n (class c)) → (Member y (instances s c n) → Instance s c n y) → (y ≡ obj n) ⊎ Member y (instances s c n) → Instance s c (suc n) y
    either t g (inl e) = record { number = n; is = e; inside = omega arith; of_class = t }
    either t g (inr m) = more (g m)

instance_there : (s : Model) (c n o : ℕ) → o < n → T (is_a s o (class c)) → Member (obj o) (instances s c n)
unfolding instances
instance_there s c zero o l h = absurd (omega arith)
instance_there s c (suc n) o l h = by (three o n) (λ k. instance_there s c n o k h)
  where
    keep : Member (obj o) (instances s c n) → Member (obj o) (if is_a s n (class c) then append (obj n) (instances s c n) else instances s c n)
    keep k = by-if (λ vs. Member (obj o) vs) (is_a s n (class c)) _ _ (λ t. appended_more (obj n) k) (λ t. k)

    by : Three o n → (o < n → Member (obj o) (instances s c n)) → Member (obj o) (if is_a s n (class c) then append (obj n) (instances s c n) else instances s c n)
    by (less k) g = keep (g k)
    by (equal e) g =
        rw (test_true (is_a s n (class c)) (subst (λ x. T (is_a s x (class c))) e h)) (subst (λ x. Member (obj x) (append (obj n) (instances s c n))) (sym e) (appended_last (obj n) (instances s c n)))
    by (over k) g = absurd (omega arith)

module _ (s : Model) (p : Permutation s.object_count) where
  pub is_a_image : (o : ℕ) (b : Simple) → is_a (renumbered_model s p) (p.to o) b ≡ is_a s o b
  unfolding is_a
  is_a_image o b = ap (λ x. class_is_a s.parent (s.class_of x) b) (p.back_to o)

  pub instances_image : (c : ℕ) → add_all set (each (renumbered p.to) (instances s c s.object_count)) nil ≡ instances (renumbered_model s p) c s.object_count
  unfolding renumbered
  instances_image c =
      let n = s.object_count in
      let k = changed_kept (renumbered p.to) (image_kept p.to) (instances_kept s c n) in
      let l = instances_kept (renumbered_model s p) c n in
      unique_set _ _ (tidy_all set k tidy_nil) (record { sorted = instances_sorted (renumbered_model s p) c n; all_kept_lem = l })
      (λ y q. has_gathered y set (each (renumbered p.to) (instances s c n))
      ∙ test_same (has y (each (renumbered p.to) (instances s c n))) (has y (instances (renumbered_model s p) c n))
      (λ h. member_has (there y (member_from (renumbered p.to) y (instances s c n) (has_member y _ q k h)))) (λ h. member_has (here y (has_member y _ q l h))))
    where
      there : (y : Value) → (x : Value) × Member x (instances s c s.object_count) × (y ≡ renumbered p.to x) → Member y (instances (renumbered_model s p) c s.object_count)
      there y r =
          let i = instance_of s c s.object_count r.0 r.1 in
          let e : y ≡ obj (p.to i.number) = r.2 ∙ ap (renumbered p.to) i.is in
          rw e (instance_there (renumbered_model s p) c s.object_count (p.to i.number) (p.to_inside i.number i.inside) (rw (is_a_image i.number (class c)) i.of_class))

      here : (y : Value) → Member y (instances (renumbered_model s p) c s.object_count) → Member y (each (renumbered p.to) (instances s c s.object_count))
      here y h =
          let i = instance_of (renumbered_model s p) c s.object_count y h in
          let o = p.back i.number in
          let e : y ≡ renumbered p.to (obj o) = i.is ∙ ap obj (sym (p.to_back i.number)) in
          rw e (member_to (renumbered p.to) (instance_there s c s.object_count o (p.back_inside i.number i.inside) (unfold is_a in i.of_class)))
