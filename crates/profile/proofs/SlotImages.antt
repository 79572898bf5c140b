-- A V line that is numbered anew meets what the line has met. Assumes nothing.
use mathlib.Core.Path.{◌≡◌, refl, sym, ap, ◌∙◌, subst}
use mathlib.Core.Bool.{Bool, true, ◌&&◌}
use mathlib.Core.List.{List}
use Prim.Native.Nat.{ℕ, zero, suc, ◌≤◌, ◌<◌}
use native.Mathlib.Omega.{arith}
use lib.ListN.{length, get_elem?}
use lib.Dec.{T, ltb, ltb→lt, leb, leb→le, lt→ltb, le→leb}
use Rattle.laws.specs.Lists.{Each, each_nil, each-cons}
use Rattle.laws.proofs.Tests.{and_i, and_l, and_r}
use Rattle.laws.proofs.Lists.{each_append}
use Rattle.laws.proofs.Elements.{elem_some, each_elem}
use Rattle.ocl.specs.Types.{Simple, class}
use Rattle.ocl.specs.Values.{Value, bool, num, obj, coll, Values, nil, cons, size, every_part, every_parts}
use Rattle.ocl.specs.Model.{class_is_a, is_a}
use Rattle.ocl.proofs.NumbersKept.{AllKept}
use Rattle.sheet.specs.Sheet.{Slot, Sheet}
use Rattle.sheet.specs.Refusals.{object_below, ordered}
use Rattle.sheet.specs.Limits.{part_within, nesting, value_within}
use Rattle.sheet.proofs.Formed.{value_formed}
use Rattle.sheet.proofs.NumbersKept.{value_kept}
use Rattle.sheet.proofs.Good.{plain}
use Rattle.profile.specs.Renumbering.{Permutation, renumbered}
use Rattle.profile.specs.RenumberedLines.{renumbered_slot, renumbered_objects}
use Rattle.profile.proofs.Images.{Fit}
use Rattle.profile.proofs.Objects.{with_objects}
use Rattle.profile.proofs.Slots.{SlotFact}
use Rattle.profile.proofs.ImageValues.{image_formed, image_size, image_parts, image_nesting, formed_ordered, image_belongs}
use Rattle.profile.proofs.NewObjects.{objects_count, class_image}

-- ---- a slot's facts

mutual
  unfolding every_part

  every_both : (P Q : Value → Bool) (v : Value) → T (every_part P v) → T (every_part Q v) → T (every_part (λ w. P w && Q w) v)
  every_both P Q (bool b) h k = and_i (P (bool b)) (Q (bool b)) h k
  every_both P Q (num x) h k = and_i (P (num x)) (Q (num x)) h k
  every_both P Q (obj o) h k = and_i (P (obj o)) (Q (obj o)) h k
  every_both P Q (coll c vs) h k = every_all P Q vs h k

  every_all : (P Q : Value → Bool) (vs : Values) → T (every_parts P vs) → T (every_parts Q vs) → T (every_parts (λ w. P w && Q w) vs)
  every_all P Q nil h k = tt
  every_all P Q (cons v vs) h k =
      and_i (every_part (λ w. P w && Q w) v) (every_parts (λ w. P w && Q w) vs) (every_both P Q v (and_l (every_part P v) (every_parts P vs) h) (and_l (every_part Q v) (every_parts Q vs) k))
      (every_all P Q vs (and_r (every_part P v) (every_parts P vs) h) (and_r (every_part Q v) (every_parts Q vs) k))

-- a value on a sheet
pub value_fit : (v : Value) → T (value_within v) → T (ordered v) → Fit v
unfolding value_within AllKept
value_fit v h o =
    let w = and_l (every_part part_within v && leb (size v) 128) (leb (nesting v) 3) h in
    record { formed = value_formed v o; numbers_kept_lem = value_kept v (and_l (every_part part_within v) _ w); small = leb→le (size v) 128 (and_r (every_part part_within v) _ w) }

pub each_object : {P : ℕ → Type 0} (back : ℕ → ℕ) (l : List ℕ) (n : ℕ) → Each P l → ((i : ℕ) → i < n → back i < length l) → Each P (renumbered_objects back l n)
unfolding renumbered_objects
each_object back l zero h k = each_nil
each_object back l (suc n) h k = each_append (each_object back l n h (λ i q. k i (omega arith))) (each-cons (each_elem (back n) h (elem_some l (back n) 0 (k n (omega arith)))) each_nil)

module _ (s : Sheet) (p : Permutation (length s.objects)) (b : ℕ) (few : length s.objects ≤ 96) where
  abbrev n : ℕ
  n = length s.objects

  abbrev s' : Sheet
  s' = with_objects s b (renumbered_objects p.back s.objects (length s.objects))

  count_same : length s'.objects ≡ n
  unfolding with_objects
  count_same = objects_count p.back s.objects n

  is_a_same : (o : ℕ) (c : Simple) → is_a (plain s') (p.to o) c ≡ is_a (plain s) o c
  unfolding is_a plain with_objects
  is_a_same o c = ap (λ d. class_is_a (plain s).parent d c) (class_image s.objects p (p.to o) ∙ ap (get_elem? s.objects) (p.back_to o))

  inside : (o : ℕ) → T (ltb o n) → T (ltb (p.to o) n)
  inside o h = lt→ltb (p.to o) n (p.to_inside o (ltb→lt o n h))

  below_image : (v : Value) → T (every_part (object_below n) v) → T (every_part (object_below n) (renumbered p.to v))
  unfolding object_below
  below_image v h = image_parts p.to (object_below n) (object_below n) (λ b h. tt) (λ x h. tt) inside v h

  within_image : (v : Value) → T (every_part part_within v) → T (every_part (object_below n) v) → T (every_part part_within (renumbered p.to v))
  unfolding object_below part_within
  within_image v h k =
      image_parts p.to (λ w. part_within w && object_below n w) part_within (λ b h. tt) (λ x h. and_l (part_within (num x)) true h)
      (λ o h. let l = ltb→lt o n (and_r (ltb o 96) (ltb o n) h) in lt→ltb (p.to o) 96 (let q = p.to_inside o l in omega arith)) v (every_both part_within (object_below n) v h k)

  pub fact_image : (x : Slot) → SlotFact s x → SlotFact s' (renumbered_slot p.to x)
  unfolding renumbered_slot value_within with_objects plain
  fact_image x f =
      let v = x.value in
      let g = value_fit v f.within f.in_order_lem in
      let w = and_l (every_part part_within v && leb (size v) 128) (leb (nesting v) 3) f.within in
      record {
        object_low = (let q = p.to_inside x.object f.object_known in omega arith);
        row_low = f.row_low;
        within =
            and_i (every_part part_within (renumbered p.to v) && leb (size (renumbered p.to v)) 128) (leb (nesting (renumbered p.to v)) 3)
            (and_i (every_part part_within (renumbered p.to v)) (leb (size (renumbered p.to v)) 128) (within_image v (and_l (every_part part_within v) _ w) f.parts_known_lem)
            (subst (λ i. T (leb i 128)) (sym (image_size p.to p.back p.back_to v g)) (and_r (every_part part_within v) _ w)))
            (le→leb (nesting (renumbered p.to v)) 3 (image_nesting p.to v 3 (leb→le (nesting v) 3 (and_r (every_part part_within v && leb (size v) 128) _ f.within))));
        object_known = (let q = p.to_inside x.object f.object_known in let r = count_same in omega arith);
        row_known = f.row_known;
        parts_known_lem = subst (λ i. T (every_part (object_below i) (renumbered p.to v))) (sym count_same) (below_image v f.parts_known_lem);
        suited = subst T (sym (is_a_same x.object (class ((plain s).row x.row).owner))) f.suited;
        belong = image_belongs p.to (plain s) (plain s') refl is_a_same ((plain s).row x.row).type v f.belong;
        in_order_lem = formed_ordered (image_formed p.to g.formed);
      }
