-- Laws of bases: the subtype test and the common type, by the tags of two bases. Assumes nothing.
use mathlib.Core.Path.{◌≡◌, refl, sym, ap, ◌∙◌}
use mathlib.Core.Bool.{Bool, true, false, ◌&&◌, ◌||◌}
use mathlib.Core.Option.{some}
use mathlib.Core.List.{List}
use Prim.Native.Nat.{ℕ}
use borrow.Author.Tests.{eq-eqb, ne_eqb}
use lib.Dec.{eqb}
use Rattle.std.specs.Prelude.{if◌then◌else◌}
use Rattle.laws.proofs.Tests.{test_true, test_fails}
use Rattle.ocl.specs.Types.{Simple, any, boolean, integer, real, class, void, simple, Parents, up, height, simple_code, same_simple, climbs, simple_subtype, subtype, first_above, simple_join, join}
use Rattle.ocl.proofs.SimpleTypes.{top, climb→simpleSubtype, class_not_boolean, class_not_integer, class_not_real, boolean_not_class, integer_not_class, real_not_class}
use Rattle.types.specs.declared.Base.{Base}
use Rattle.types.specs.declared.Base.TheVariants as b
use Rattle.types.specs.Flat.{parents_in, base_type, base_tag, base_class}
use Rattle.types.proofs.Cases.{by_base, is_void, is_any_lem, is_class}
use Rattle.types.proofs.Parents.{parents_small, any_not_class, class_join}

module _ (ps : List ℕ) where
  abbrev P : Parents
  P = parents_in ps

  -- ---- the subtype test

  simple_any : (a : Simple) → true ≡ simple_subtype P a any
  simple_any a = sym (test_true _ (climb→simpleSubtype P (parents_small ps) a any (top P (parents_small ps) a)))

  pub below_void : (a x : Base) {t : ℕ} → t ≡ base_tag a → t ≡ 0 → true ≡ subtype P (base_type a) (base_type x)
  unfolding subtype
  below_void a x e h = rw (is_void a (sym e ∙ h))

  base_any : (a : Base) → true ≡ subtype P (base_type a) (simple any)
  unfolding subtype
  base_any = by_base (λ t. true ≡ subtype P t (simple any)) refl simple_any

  pub below_any : (a x : Base) {u : ℕ} → u ≡ base_tag x → u ≡ 3 → true ≡ subtype P (base_type a) (base_type x)
  below_any a x e h = rw (is_any_lem x (sym e ∙ h)) (base_any a)

  class_off : (c : ℕ) (x : Base) → (base_tag x ≡ 3 → ⊥) → (base_tag x ≡ 5 → ⊥) → false ≡ subtype P (simple (class c)) (base_type x)
  unfolding subtype
  class_off c b.Void h k = refl
  class_off c b.Bool h k = sym (test_fails _ (class_not_boolean P c))
  class_off c b.Int h k = sym (test_fails _ (class_not_integer P c))
  class_off c b.Any h k = absurd (h refl)
  class_off c b.Real h k = sym (test_fails _ (class_not_real P c))
  class_off c (b.Class d) h k = absurd (k refl)

  -- a base that is neither Void nor a class, against one that is not Any
  rest_below : (a x : Base) → (base_tag a ≡ 0 → ⊥) → (base_tag a ≡ 5 → ⊥) → (base_tag x ≡ 3 → ⊥) → (eqb (base_tag a) 2 && eqb (base_tag x) 4) || eqb (base_tag a) (base_tag x) ≡ subtype P (base_type a) (base_type x)
  unfolding subtype simple_subtype climbs up height same_simple simple_code
  rest_below b.Void x h k l = absurd (h refl)
  rest_below (b.Class c) x h k l = absurd (k refl)
  rest_below b.Bool b.Any h k l = absurd (l refl)
  rest_below b.Int b.Any h k l = absurd (l refl)
  rest_below b.Any b.Any h k l = absurd (l refl)
  rest_below b.Real b.Any h k l = absurd (l refl)
  rest_below b.Bool b.Void h k l = refl
  rest_below b.Bool b.Bool h k l = refl
  rest_below b.Bool b.Int h k l = refl
  rest_below b.Bool b.Real h k l = refl
  rest_below b.Bool (b.Class d) h k l = sym (test_fails _ (boolean_not_class P d))
  rest_below b.Int b.Void h k l = refl
  rest_below b.Int b.Bool h k l = refl
  rest_below b.Int b.Int h k l = refl
  rest_below b.Int b.Real h k l = refl
  rest_below b.Int (b.Class d) h k l = sym (test_fails _ (integer_not_class P d))
  rest_below b.Any b.Void h k l = refl
  rest_below b.Any b.Bool h k l = refl
  rest_below b.Any b.Int h k l = refl
  rest_below b.Any b.Real h k l = refl
  rest_below b.Any (b.Class d) h k l = sym (any_not_class P d)
  rest_below b.Real b.Void h k l = refl
  rest_below b.Real b.Bool h k l = refl
  rest_below b.Real b.Int h k l = refl
  rest_below b.Real b.Real h k l = refl
  rest_below b.Real (b.Class d) h k l = sym (test_fails _ (real_not_class P d))

  -- ---- the common type

  pub joins_left : (a x : Base) {t : ℕ} → t ≡ base_tag a → t ≡ 0 → some (base_type x) ≡ join P (base_type a) (base_type x)
  unfolding join
  joins_left a x e h = rw (is_void a (sym e ∙ h))

  void_right : (a : Base) → some (base_type a) ≡ join P (base_type a) void
  unfolding join
  void_right = by_base (λ t. some t ≡ join P t void) refl (λ s. refl)

  pub joins_right : (a x : Base) {u : ℕ} → u ≡ base_tag x → u ≡ 0 → some (base_type a) ≡ join P (base_type a) (base_type x)
  joins_right a x e h = rw (is_void x (sym e ∙ h)) (void_right a)

  class_other : (c : ℕ) (x : Base) → (base_tag x ≡ 0 → ⊥) → (base_tag x ≡ 5 → ⊥) → some (simple any) ≡ join P (simple (class c)) (base_type x)
  unfolding join
  class_other c b.Void h k = absurd (h refl)
  class_other c b.Bool h k = ap (λ z. some (simple z)) (sym (class_join ps boolean (λ d. test_fails _ (boolean_not_class P d)) c))
  class_other c b.Int h k = ap (λ z. some (simple z)) (sym (class_join ps integer (λ d. test_fails _ (integer_not_class P d)) c))
  class_other c b.Any h k = ap (λ z. some (simple z)) (sym (class_join ps any (any_not_class P) c))
  class_other c b.Real h k = ap (λ z. some (simple z)) (sym (class_join ps real (λ d. test_fails _ (real_not_class P d)) c))
  class_other c (b.Class d) h k = absurd (k refl)

  boolean_class : (d : ℕ) → simple_join P boolean (class d) ≡ any
  unfolding simple_join first_above height
  boolean_class d = rw (test_fails (simple_subtype P (class d) boolean) (class_not_boolean P d))

  integer_class : (d : ℕ) → simple_join P integer (class d) ≡ any
  unfolding simple_join first_above height up
  integer_class d = rw (test_fails (simple_subtype P (class d) integer) (class_not_integer P d), test_fails (simple_subtype P (class d) real) (class_not_real P d))

  real_class : (d : ℕ) → simple_join P real (class d) ≡ any
  unfolding simple_join first_above height
  real_class d = rw (test_fails (simple_subtype P (class d) real) (class_not_real P d))

  -- two bases that are not Void, the first no class
  rest_joins : (a x : Base) → (base_tag a ≡ 0 → ⊥) → (base_tag a ≡ 5 → ⊥) → (base_tag x ≡ 0 → ⊥)
      → some (base_type (if eqb (base_tag a) 2 && eqb (base_tag x) 4 then x else if eqb (base_tag x) 2 && eqb (base_tag a) 4 then a else if eqb (base_tag a) (base_tag x) then a else b.Any)) ≡ join P (base_type a) (base_type x)
  unfolding join simple_join first_above simple_subtype climbs up height same_simple simple_code
  rest_joins b.Void x h k m = absurd (h refl)
  rest_joins (b.Class c) x h k m = absurd (k refl)
  rest_joins b.Bool b.Void h k m = absurd (m refl)
  rest_joins b.Bool b.Bool h k m = refl
  rest_joins b.Bool b.Int h k m = refl
  rest_joins b.Bool b.Any h k m = refl
  rest_joins b.Bool b.Real h k m = refl
  rest_joins b.Bool (b.Class d) h k m = ap (λ z. some (simple z)) (sym (boolean_class d))
  rest_joins b.Int b.Void h k m = absurd (m refl)
  rest_joins b.Int b.Bool h k m = refl
  rest_joins b.Int b.Int h k m = refl
  rest_joins b.Int b.Any h k m = refl
  rest_joins b.Int b.Real h k m = refl
  rest_joins b.Int (b.Class d) h k m = ap (λ z. some (simple z)) (sym (integer_class d))
  rest_joins b.Any b.Void h k m = absurd (m refl)
  rest_joins b.Any b.Bool h k m = refl
  rest_joins b.Any b.Int h k m = refl
  rest_joins b.Any b.Any h k m = refl
  rest_joins b.Any b.Real h k m = refl
  rest_joins b.Any (b.Class d) h k m = refl
  rest_joins b.Real b.Void h k m = absurd (m refl)
  rest_joins b.Real b.Bool h k m = refl
  rest_joins b.Real b.Int h k m = refl
  rest_joins b.Real b.Any h k m = refl
  rest_joins b.Real b.Real h k m = refl
  rest_joins b.Real (b.Class d) h k m = ap (λ z. some (simple z)) (sym (real_class d))

  -- ---- by the tags, as the code reads them

  module _ (a x : Base) {t u : ℕ} (ta : t ≡ base_tag a) (ux : u ≡ base_tag x) where
    pub below_class : {m n : ℕ} {r : Bool} → t ≡ 5 → u ≡ 5 → m ≡ base_class a → n ≡ base_class x → r ≡ simple_subtype P (class m) (class n) → r ≡ subtype P (base_type a) (base_type x)
    unfolding subtype
    below_class h k em en e = e ∙ rw (is_class a (sym ta ∙ h), is_class x (sym ux ∙ k), em, en)

    -- a class, against a base that is neither Any nor a class
    pub below_off : t ≡ 5 → (u ≡ 3 → ⊥) → (u ≡ 5 → ⊥) → false ≡ subtype P (base_type a) (base_type x)
    below_off h k l = rw (is_class a (sym ta ∙ h)) (class_off (base_class a) x (λ e. k (ux ∙ e)) (λ e. l (ux ∙ e)))

    pub joins_class : {m n : ℕ} (r : Base) → t ≡ 5 → u ≡ 5 → m ≡ base_class a → n ≡ base_class x → base_type r ≡ simple (simple_join P (class m) (class n)) → some (base_type r) ≡ join P (base_type a) (base_type x)
    unfolding join
    joins_class r h k em en e = rw (is_class a (sym ta ∙ h), is_class x (sym ux ∙ k)) (ap some (rw (em, en) at e))

    -- a class, and a base that is neither Void nor a class
    pub joins_off : t ≡ 5 → (u ≡ 0 → ⊥) → (u ≡ 5 → ⊥) → some (simple any) ≡ join P (base_type a) (base_type x)
    joins_off h k l = rw (is_class a (sym ta ∙ h)) (class_other (base_class a) x (λ e. k (ux ∙ e)) (λ e. l (ux ∙ e)))

    module _ {w : Bool} (void : t ≡ 0 → ⊥) (no_class : t ≡ 5 → ⊥) (wide : w ≡ (eqb t 2 && eqb u 4)) where
      by_tags : (u ≡ 3 → ⊥) → w || eqb t u ≡ subtype P (base_type a) (base_type x)
      by_tags k = rw (wide, ta, ux) (rest_below a x (λ e. void (ta ∙ e)) (λ e. no_class (ta ∙ e)) (λ e. k (ux ∙ e)))

      pub below_wide : (u ≡ 3 → ⊥) → w ≡ true → true ≡ subtype P (base_type a) (base_type x)
      below_wide k e = rw e at (by_tags k)

      pub below_same : (u ≡ 3 → ⊥) → w ≡ false → eqb t u ≡ subtype P (base_type a) (base_type x)
      below_same k e = rw e at (by_tags k)

      module _ (right : u ≡ 0 → ⊥) where
        join_tags : {v : Bool} → v ≡ (eqb u 2 && eqb t 4) → some (base_type (if w then x else if v then a else if eqb t u then a else b.Any)) ≡ join P (base_type a) (base_type x)
        join_tags e = rw (wide, e, ta, ux) (rest_joins a x (λ e. void (ta ∙ e)) (λ e. no_class (ta ∙ e)) (λ e. right (ux ∙ e)))

        pub joins_wide : w ≡ true → some (base_type x) ≡ join P (base_type a) (base_type x)
        joins_wide e = rw e at (join_tags refl)

        module _ {v : Bool} (back : v ≡ (eqb u 2 && eqb t 4)) (not_wide : w ≡ false) where
          pub joins_back : v ≡ true → some (base_type a) ≡ join P (base_type a) (base_type x)
          joins_back e = rw (not_wide, e) at (join_tags back)

          pub joins_same : v ≡ false → t ≡ u → some (base_type a) ≡ join P (base_type a) (base_type x)
          joins_same e q = rw (not_wide, e, eq-eqb t u q) at (join_tags back)

          pub joins_apart : v ≡ false → (t ≡ u → ⊥) → some (simple any) ≡ join P (base_type a) (base_type x)
          joins_apart e q = rw (not_wide, e, ne_eqb t u q) at (join_tags back)
