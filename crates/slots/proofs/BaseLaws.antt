-- Which objects and which simple values belong to a base. Assumes nothing.
use mathlib.Core.Path.{◌≡◌, refl, sym, ap, ◌∙◌}
use mathlib.Core.Bool.{Bool, true, false}
use mathlib.Core.Option.{Option, none, some}
use mathlib.Core.List.{List}
use Prim.Native.Nat.{ℕ, ◌<◌, ◌≤◌}
use native.Mathlib.Omega.{arith}
use native.Mathlib.Decide.{dec_lt}
use lib.ListN.{length, get_or, get_elem?}
use lib.Dec.{T, eqb, ltb}
use borrow.Author.Tests.{eq-eqb, ne_eqb, lt-ltb, le-ltb}
use Rattle.std.specs.Prelude.{if◌then◌else◌}
use Rattle.laws.proofs.Tests.{test_fails}
use Rattle.laws.proofs.Elements.{elem_some, elem_none}
use Rattle.reals.specs.Reals.{Number, int, real}
use Rattle.ocl.specs.Types.{Simple, any, boolean, integer, class, Ty, simple, Parents, up, height, simple_code, same_simple, climbs, simple_subtype, subtype}
use Rattle.ocl.specs.Values.{Value, bool, num, obj, coll, sort}
use Rattle.ocl.specs.Operations.{is_int}
use Rattle.ocl.specs.Model.{Model, class_is_a, is_a, number_type, belongs}
use Rattle.ocl.proofs.SimpleTypes.{class_not_boolean, class_not_integer, class_not_real, boolean_not_class, integer_not_class, real_not_class}
use Rattle.types.specs.declared.Base.{Base}
use Rattle.types.specs.declared.Base.TheVariants as base
use Rattle.types.specs.Flat.{parents_in, base_type, base_tag, base_class}
use Rattle.types.proofs.Cases.{by_base, is_any_lem, is_class}
use Rattle.types.proofs.Bases.{below_any}
use Rattle.values.specs.Cells.{payload}
use Rattle.values.specs.Meanings.{SortOf, PayloadOf, IntegerTest}
use Rattle.values.proofs.Heads.{sort_kind}
use Rattle.slots.specs.Suits.{Seen, ObjectSuits, ObjectIn, BaseSuits}

-- ---- an object

no_class : (parent : Parents) (b : Simple) → ((c : ℕ) → T (simple_subtype parent (class c) b) → ⊥) → (q : Option ℕ) → false ≡ class_is_a parent q b
unfolding class_is_a
no_class parent b h none = refl
no_class parent b h (some c) = sym (test_fails _ (h c))

-- it belongs to no base but Any and the classes
object_other : (b : Base) → (base_tag b ≡ 5 → ⊥) → (base_tag b ≡ 3 → ⊥) → (m : Model) (o : ℕ) → false ≡ belongs m (base_type b) (obj o)
unfolding belongs is_a
object_other base.Void c a m o = refl
object_other base.Bool c a m o = no_class m.parent boolean (class_not_boolean m.parent) (m.class_of o)
object_other base.Int c a m o = no_class m.parent integer (class_not_integer m.parent) (m.class_of o)
object_other base.Any c a m o = absurd (a refl)
object_other base.Real c a m o = no_class m.parent Simple.real (class_not_real m.parent) (m.class_of o)
object_other (base.Class d) c a m o = absurd (c refl)

-- each one belongs to Any
some_object : (parents objects : List ℕ) (at : ℕ) → Dec (at < length objects) → ltb at (length objects) ≡ class_is_a (parents_in parents) (get_elem? objects at) any
unfolding class_is_a subtype
some_object parents objects at (yes h) = rw (lt-ltb at (length objects) h, elem_some objects at 0 h) (below_any parents (base.Class (get_or objects at 0)) base.Any refl refl)
some_object parents objects at (no h) = rw (le-ltb at (length objects) (omega arith), elem_none objects at (omega arith))

module _ {parents objects : List ℕ} {o at : ℕ} (e : at ≡ o) where
  class_at : (m : Model) → Seen parents objects m → (b : Simple) → is_a m o b ≡ class_is_a (parents_in parents) (get_elem? objects at) b
  unfolding is_a
  class_at m sn b = rw (sn.parent, sn.class_of, e)

  pub object_there : (d : ℕ) {r : Bool} → at < length objects → r ≡ simple_subtype (parents_in parents) (class (get_or objects at 0)) (class d) → ObjectSuits parents objects o d r
  unfolding class_is_a
  object_there d h c = record { is = λ m sn. c ∙ sym (class_at m sn (class d) ∙ rw (elem_some objects at 0 h)) }

  pub object_gone : (d : ℕ) → length objects ≤ at → ObjectSuits parents objects o d (ltb at (length objects))
  unfolding class_is_a
  object_gone d h = record { is = λ m sn. le-ltb at (length objects) h ∙ sym (class_at m sn (class d) ∙ rw (elem_none objects at h)) }

  pub in_any : (b : Base) {y : ℕ} → y ≡ base_tag b → y ≡ 3 → ObjectIn parents objects o b (ltb at (length objects))
  unfolding belongs
  in_any b ye z = record { is = λ m sn. some_object parents objects at (dec_lt at (length objects)) ∙ sym (ap (λ (u : Ty). belongs m u (obj o)) (is_any_lem b (sym ye ∙ z)) ∙ class_at m sn any) }

module _ {parents objects : List ℕ} {o : ℕ} (b : Base) {y : ℕ} (ye : y ≡ base_tag b) where
  pub in_class : {d : ℕ} {r : Bool} → y ≡ 5 → d ≡ base_class b → ObjectSuits parents objects o d r → ObjectIn parents objects o b r
  unfolding belongs
  in_class z de ob = record { is = λ m sn. ob.is m sn ∙ rw (is_class b (sym ye ∙ z), de) }

  pub in_other : (y ≡ 5 → ⊥) → (y ≡ 3 → ⊥) → ObjectIn parents objects o b false
  in_other c a = record { is = λ m sn. object_other b (λ z. c (ye ∙ z)) (λ z. a (ye ∙ z)) m o }

-- ---- a simple value, by the sort of its cell

truth_other : (b : Base) → (base_tag b ≡ 3 → ⊥) → (m : Model) (x : Bool) → eqb (base_tag b) 1 ≡ belongs m (base_type b) (bool x)
unfolding belongs simple_subtype climbs height up same_simple simple_code
truth_other base.Void a m x = refl
truth_other base.Bool a m x = refl
truth_other base.Int a m x = refl
truth_other base.Any a m x = absurd (a refl)
truth_other base.Real a m x = refl
truth_other (base.Class c) a m x = sym (test_fails _ (boolean_not_class m.parent c))

-- the Integers are the values of Int
number_other : (b : Base) → (base_tag b ≡ 3 → ⊥) → (m : Model) (x : Number) → (if eqb (base_tag b) 2 then is_int (num x) else eqb (base_tag b) 4) ≡ belongs m (base_type b) (num x)
unfolding belongs number_type simple_subtype climbs height up same_simple simple_code
number_other base.Void a m x = refl
number_other base.Bool a m (int z) = refl
number_other base.Bool a m (real r) = refl
number_other base.Int a m (int z) = refl
number_other base.Int a m (real r) = refl
number_other base.Any a m x = absurd (a refl)
number_other base.Real a m (int z) = refl
number_other base.Real a m (real r) = refl
number_other (base.Class c) a m (int z) = sym (test_fails _ (integer_not_class m.parent c))
number_other (base.Class c) a m (real r) = sym (test_fails _ (real_not_class m.parent c))

by_number : (P : Value → Type 0) → ((x : Number) → P (num x)) → (v : Value) → sort v ≡ 1 → P v
unfolding sort
by_number P n (bool x) e = absurd (omega arith)
by_number P n (num x) e = n x
by_number P n (obj x) e = absurd (omega arith)
by_number P n (coll k vs) e = absurd (let q = sort_kind k vs in omega arith)

low_any : (m : Model) (v : Value) → sort v < 2 → true ≡ belongs m (simple any) v
unfolding belongs number_type sort simple_subtype climbs height up same_simple simple_code
low_any m (bool x) h = refl
low_any m (num (int z)) h = refl
low_any m (num (real r)) h = refl
low_any m (obj x) h = absurd (omega arith)
low_any m (coll k vs) h = absurd (let q = sort_kind k vs in omega arith)

module _ {parents objects : List ℕ} (b : Base) {cell t : ℕ} (so : SortOf cell t) where
  pub base_object : {o : ℕ} {r : Bool} → t ≡ 2 → PayloadOf cell o → ObjectIn parents objects o b r → BaseSuits parents objects b cell r
  unfolding sort payload
  base_object {o} {r} z po ob = record { is = λ m v sn f ce. go m sn v (sym (so.is v f ce) ∙ z) (po.is v f (λ e. let q = so.is v f ce in omega arith) ce) }
    where
      go : (m : Model) → Seen parents objects m → (v : Value) → sort v ≡ 2 → o ≡ payload v → r ≡ belongs m (base_type b) v
      go m sn (bool x) e p = absurd (omega arith)
      go m sn (num x) e p = absurd (omega arith)
      go m sn (obj x) e p = ob.is m sn ∙ rw p
      go m sn (coll k vs) e p = absurd (let q = sort_kind k vs in omega arith)

  pub base_high : 2 < t → BaseSuits parents objects b cell false
  unfolding belongs sort
  base_high z = record { is = λ m v sn f ce. go m v (let q = so.is v f ce in omega arith) }
    where
      go : (m : Model) (v : Value) → 2 < sort v → false ≡ belongs m (base_type b) v
      go m (bool x) e = absurd (omega arith)
      go m (num x) e = absurd (omega arith)
      go m (obj x) e = absurd (omega arith)
      go m (coll k vs) e = by_base (λ u. false ≡ belongs m u (coll k vs)) refl (λ a. refl) b

  module _ {y : ℕ} (ye : y ≡ base_tag b) where
    pub base_any : t < 2 → y ≡ 3 → BaseSuits parents objects b cell true
    base_any h z = record { is = λ m v sn f ce. low_any m v (let q = so.is v f ce in omega arith) ∙ ap (λ (u : Ty). belongs m u v) (sym (is_any_lem b (sym ye ∙ z))) }

    module _ (z : y ≡ 3 → ⊥) where
      pub base_truth : t ≡ 0 → BaseSuits parents objects b cell (eqb y 1)
      unfolding sort
      base_truth h = record { is = λ m v sn f ce. ap (λ (i : ℕ). eqb i 1) ye ∙ go m v (sym (so.is v f ce) ∙ h) }
        where
          go : (m : Model) (v : Value) → sort v ≡ 0 → eqb (base_tag b) 1 ≡ belongs m (base_type b) v
          go m (bool x) e = truth_other b (λ x. z (ye ∙ x)) m x
          go m (num x) e = absurd (omega arith)
          go m (obj x) e = absurd (omega arith)
          go m (coll k vs) e = absurd (let q = sort_kind k vs in omega arith)

      module _ (l : t < 2) (h : t ≡ 0 → ⊥) where
        pub base_integer : {r : Bool} → y ≡ 2 → IntegerTest cell r → BaseSuits parents objects b cell r
        base_integer e i = record {
          is = λ m v sn f ce.
              i.is v f ce
              ∙ by_number (λ w. is_int w ≡ belongs m (base_type b) w) (λ x. rw (eq-eqb (base_tag b) 2 (sym ye ∙ e)) at (number_other b (λ x. z (ye ∙ x)) m x)) v (let q = so.is v f ce in omega arith);
        }

        pub base_number : (y ≡ 2 → ⊥) → BaseSuits parents objects b cell (eqb y 4)
        base_number i = record {
          is = λ m v sn f ce.
              ap (λ (k : ℕ). eqb k 4) ye
              ∙ by_number (λ w. eqb (base_tag b) 4 ≡ belongs m (base_type b) w) (λ x. rw (ne_eqb (base_tag b) 2 (λ x. i (ye ∙ x))) at (number_other b (λ x. z (ye ∙ x)) m x)) v (let q = so.is v f ce in omega arith);
        }
