-- The subtype test is a partial order, and the common type its least upper bound. Assumes nothing.
use mathlib.Core.Path.{◌≡◌, refl, sym, ap, ◌∙◌, subst}
use mathlib.Core.Option.{Option}
use Prim.Native.Nat.{ℕ, zero, suc}
use native.Mathlib.Omega.{arith}
use lib.Dec.{T, eqb→eq, eqb_refl, T_not}
use Rattle.ocl.specs.Types.{Kind, set, sequence, bag, Letter, collection, exactly, Ty, void, simple, around, Parents, height, kind_code, same_kind, letter_subtype, subtype, simple_join, letter_join, around_some, join}
use Rattle.ocl.specs.Laws.{Small}
use Rattle.laws.proofs.Tests.{and_i, and_l, and_r, by-if, All?, all_none, all_some, Any?, any_some}
use Rattle.ocl.proofs.SimpleTypes.{here, climb_trans, simpleSubtype→climb, climb→simpleSubtype, climb_anti_at, above_left, above_right, above_least}

-- ---- kinds and letters

decode_kind : ℕ → Kind
decode_kind zero = set
decode_kind (suc zero) = sequence
decode_kind (suc (suc n)) = bag

decode_kind_lem : (a : Kind) → decode_kind (kind_code a) ≡ a
unfolding decode_kind kind_code
decode_kind_lem set = refl
decode_kind_lem sequence = refl
decode_kind_lem bag = refl

pub sameKind→eq : (a b : Kind) → T (same_kind a b) → a ≡ b
unfolding same_kind
sameKind→eq a b h = sym (decode_kind_lem a) ∙ ap decode_kind (eqb→eq _ _ h) ∙ decode_kind_lem b

pub same_kind_refl : (a : Kind) → T (same_kind a a)
unfolding same_kind
same_kind_refl a = eqb_refl (kind_code a)

pub letter_refl : (k : Letter) → T (letter_subtype k k)
unfolding letter_subtype
letter_refl collection = tt
letter_refl (exactly k) = same_kind_refl k

pub letter_trans : (k l m : Letter) → T (letter_subtype k l) → T (letter_subtype l m) → T (letter_subtype k m)
unfolding letter_subtype
letter_trans collection collection m p q = q
letter_trans collection (exactly l) m p q = absurd p
letter_trans (exactly k) collection collection p q = tt
letter_trans (exactly k) collection (exactly m) p q = absurd q
letter_trans (exactly k) (exactly l) collection p q = tt
letter_trans (exactly k) (exactly l) (exactly m) p q = subst (λ x. T (same_kind k x)) (sameKind→eq l m q) p

letter_anti : (k l : Letter) → T (letter_subtype k l) → T (letter_subtype l k) → k ≡ l
unfolding letter_subtype
letter_anti collection collection p q = refl
letter_anti collection (exactly l) p q = absurd p
letter_anti (exactly k) collection p q = absurd q
letter_anti (exactly k) (exactly l) p q = ap exactly (sameKind→eq k l p)

letter_join_upper : (k l : Letter) → T (letter_subtype k (letter_join k l)) × T (letter_subtype l (letter_join k l))
unfolding letter_subtype letter_join
letter_join_upper collection collection = (tt, tt)
letter_join_upper collection (exactly l) = (tt, tt)
letter_join_upper (exactly k) collection = (tt, tt)
letter_join_upper (exactly k) (exactly l) =
    by-if (λ x. T (letter_subtype (exactly k) x) × T (letter_subtype (exactly l) x)) (same_kind k l) (exactly k) collection
    (λ t. (same_kind_refl k, subst (λ x. T (same_kind x k)) (sameKind→eq k l t) (same_kind_refl k))) (λ t. (tt, tt))

letter_join_least : (k l m : Letter) → T (letter_subtype k m) → T (letter_subtype l m) → T (letter_subtype (letter_join k l) m)
unfolding letter_subtype letter_join
letter_join_least collection l m p q = p
letter_join_least (exactly k) collection m p q = q
letter_join_least (exactly k) (exactly l) collection p q = by-if (λ x. T (letter_subtype x collection)) (same_kind k l) (exactly k) collection (λ t. tt) (λ t. tt)
letter_join_least (exactly k) (exactly l) (exactly m) p q =
    by-if (λ x. T (letter_subtype x (exactly m))) (same_kind k l) (exactly k) collection (λ t. p)
    (λ t. T_not (same_kind k l) t (subst (λ x. T (same_kind k x)) (sameKind→eq k m p ∙ sym (sameKind→eq l m q)) (same_kind_refl k)))

-- ---- types

module _ (parent : Parents) (small : Small parent) where
  pub subtype_refl : (t : Ty) → T (subtype parent t t)
  unfolding subtype
  subtype_refl void = tt
  subtype_refl (simple a) = climb→simpleSubtype parent small a a here
  subtype_refl (around k t) = and_i (letter_subtype k k) (subtype parent t t) (letter_refl k) (subtype_refl t)

  pub subtype_trans : (t u w : Ty) → T (subtype parent t u) → T (subtype parent u w) → T (subtype parent t w)
  unfolding subtype
  subtype_trans void u w p q = tt
  subtype_trans (simple a) void w p q = absurd p
  subtype_trans (simple a) (simple b) void p q = q
  subtype_trans (simple a) (simple b) (simple c) p q = climb→simpleSubtype parent small a c (climb_trans (simpleSubtype→climb parent small a b p) (simpleSubtype→climb parent small b c q))
  subtype_trans (simple a) (simple b) (around m w) p q = q
  subtype_trans (simple a) (around l u) w p q = absurd p
  subtype_trans (around k t) void w p q = absurd p
  subtype_trans (around k t) (simple b) w p q = absurd p
  subtype_trans (around k t) (around l u) void p q = q
  subtype_trans (around k t) (around l u) (simple c) p q = q
  subtype_trans (around k t) (around l u) (around m w) p q =
      and_i (letter_subtype k m) (subtype parent t w) (letter_trans k l m (and_l (letter_subtype k l) _ p) (and_l (letter_subtype l m) _ q))
      (subtype_trans t u w (and_r (letter_subtype k l) _ p) (and_r (letter_subtype l m) _ q))

  pub subtype_anti : (t u : Ty) → T (subtype parent t u) → T (subtype parent u t) → t ≡ u
  unfolding subtype
  subtype_anti void void p q = refl
  subtype_anti void (simple b) p q = absurd q
  subtype_anti void (around l u) p q = absurd q
  subtype_anti (simple a) void p q = absurd p
  subtype_anti (simple a) (simple b) p q = ap simple (climb_anti_at parent small (height a) a b refl (simpleSubtype→climb parent small a b p) (simpleSubtype→climb parent small b a q))
  subtype_anti (simple a) (around l u) p q = absurd p
  subtype_anti (around k t) void p q = absurd p
  subtype_anti (around k t) (simple b) p q = absurd p
  subtype_anti (around k t) (around l u) p q =
      let e = letter_anti k l (and_l (letter_subtype k l) _ p) (and_l (letter_subtype l k) _ q) in
      let f = subtype_anti t u (and_r (letter_subtype k l) _ p) (and_r (letter_subtype l k) _ q) in cc

  around_upper : (k l : Letter) (t u : Ty) {o : Option Ty} → All? (λ w. T (subtype parent t w) × T (subtype parent u w)) o
      → All? (λ w. T (subtype parent (around k t) w) × T (subtype parent (around l u) w)) (around_some (letter_join k l) o)
  unfolding around_some subtype
  around_upper k l t u all_none = all_none
  around_upper k l t u (all_some {x = w} h) =
      all_some (
        and_i (letter_subtype k (letter_join k l)) (subtype parent t w) (letter_join_upper k l).0 h.0,
        and_i (letter_subtype l (letter_join k l)) (subtype parent u w) (letter_join_upper k l).1 h.1,
      )

  -- the common type is above both
  pub join_upper : (t u : Ty) → All? (λ w. T (subtype parent t w) × T (subtype parent u w)) (join parent t u)
  unfolding join simple_join subtype
  join_upper void u = all_some (tt, subtype_refl u)
  join_upper (simple a) void = all_some (subtype_refl (simple a), tt)
  join_upper (simple a) (simple b) = all_some (climb→simpleSubtype parent small a _ (above_left parent small (height a) a b), climb→simpleSubtype parent small b _ (above_right parent small (height a) a b))
  join_upper (simple a) (around l u) = all_none
  join_upper (around k t) void = all_some (subtype_refl (around k t), tt)
  join_upper (around k t) (simple b) = all_none
  join_upper (around k t) (around l u) = around_upper k l t u (join_upper t u)

  around_least : (k l m : Letter) (w : Ty) {o : Option Ty} → T (letter_subtype k m) → T (letter_subtype l m) → Any? (λ x. T (subtype parent x w)) o
      → Any? (λ x. T (subtype parent x (around m w))) (around_some (letter_join k l) o)
  unfolding around_some subtype
  around_least k l m w p q (any_some {x} h) = any_some (and_i (letter_subtype (letter_join k l) m) (subtype parent x w) (letter_join_least k l m p q) h)

  -- and below whatever is above both; where there is such a type, there is a common type
  pub join_least : (t u w : Ty) → T (subtype parent t w) → T (subtype parent u w) → Any? (λ x. T (subtype parent x w)) (join parent t u)
  unfolding join simple_join subtype
  join_least void u w p q = any_some q
  join_least (simple a) void w p q = any_some p
  join_least (simple a) (simple b) void p q = any_some p
  join_least (simple a) (simple b) (simple c) p q = any_some (climb→simpleSubtype parent small _ c (above_least parent small (height a) a b c (omega arith) (simpleSubtype→climb parent small a c p) (simpleSubtype→climb parent small b c q)))
  join_least (simple a) (simple b) (around m w) p q = any_some p
  join_least (simple a) (around l u) void p q = absurd p
  join_least (simple a) (around l u) (simple c) p q = absurd q
  join_least (simple a) (around l u) (around m w) p q = absurd p
  join_least (around k t) void w p q = any_some p
  join_least (around k t) (simple b) void p q = absurd p
  join_least (around k t) (simple b) (simple c) p q = absurd p
  join_least (around k t) (simple b) (around m w) p q = absurd q
  join_least (around k t) (around l u) void p q = absurd p
  join_least (around k t) (around l u) (simple c) p q = absurd p
  join_least (around k t) (around l u) (around m w) p q =
      around_least k l m w (and_l (letter_subtype k m) _ p) (and_l (letter_subtype l m) _ q)
      (join_least t u w (and_r (letter_subtype k m) _ p) (and_r (letter_subtype l m) _ q))
