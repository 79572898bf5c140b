-- The numbers of every value that evaluation ends in are kept: an instance of proofs/Kept.antt. A value's size goes along, since
-- `size` makes an Integer of a collection's count. Assumes nothing.
use mathlib.Core.Path.{◌≡◌}
use Prim.Native.Nat.{ℕ, zero, suc, ◌≤◌, ◌<◌}
use native.Mathlib.Omega.{arith}
use borrow.Author.Tests.{lt-ltb}
use lib.IntN.{pos}
use lib.Dec.{T}
use Rattle.laws.specs.Lists.{Each}
use Rattle.laws.proofs.Lists.{each_imp}
use Rattle.laws.proofs.Tests.{and_i, and_l, and_r, by-if, all_imp, all_self}
use Rattle.reals.specs.Reals.{int, in_range, kept}
use Rattle.ocl.specs.Types.{class, Kind}
use Rattle.ocl.specs.Values.{Value, num, obj, coll, Values, nil, cons, count, size, sizes, every_part, every_parts}
use Rattle.ocl.specs.Model.{Model, is_a}
use Rattle.ocl.specs.Forms.{Expr}
use Rattle.ocl.specs.Laws.{literals, number_kept, numbers_kept}
use Rattle.ocl.specs.Marks.{Mark}
use Rattle.ocl.specs.Operations.{value, instances}
use Rattle.ocl.specs.Evaluation.{evaluate_rule}
use Rattle.ocl.specs.Soundness.{AcceptedModel, KeptEnds}
use Rattle.ocl.proofs.Values.{Every, every_nil, every_cons, append_every, add_every, count_sizes}
use Rattle.ocl.proofs.Kept.{Keeps, Bound, kept_ends, kept_rule}

unfoldable pub AllKept : Value → Type 0
AllKept v = T (numbers_kept v)

record Allowed (v : Value) : Type 0 where
  kept_all : AllKept v
  small : size v ≤ 128

-- ---- members

pub each_kept : (vs : Values) → T (every_parts number_kept vs) → Every AllKept vs
unfolding every_part numbers_kept AllKept
each_kept nil h = every_nil
each_kept (cons v vs) h = every_cons (and_l (every_part number_kept v) _ h) (each_kept vs (and_r (every_part number_kept v) _ h))

pub all_members : {vs : Values} → Every AllKept vs → T (every_parts number_kept vs)
unfolding every_part numbers_kept AllKept
all_members every_nil = tt
all_members (every_cons {v} {vs} p h) = and_i (every_part number_kept v) (every_parts number_kept vs) p (all_members h)

members_allowed : {vs : Values} → sizes vs ≤ 128 → Every AllKept vs → Every Allowed vs
unfolding size
members_allowed l every_nil = every_nil
members_allowed l (every_cons p h) = every_cons (record { kept_all = p; small = omega arith }) (members_allowed (omega arith) h)

members_kept : {k : Kind} {vs : Values} → Allowed (coll k vs) → Every AllKept vs
unfolding numbers_kept every_part AllKept
members_kept {vs} h = each_kept vs h.kept_all

of_members_lem : {k : Kind} {vs : Values} → Allowed (coll k vs) → Every Allowed vs
unfolding size
of_members_lem h = members_allowed (omega (arith, h.small)) (members_kept h)

-- a count is at most the size
of_count : {k : Kind} {vs : Values} → Allowed (coll k vs) → Allowed (num (int (pos (count vs))))
unfolding numbers_kept every_part number_kept kept in_range size AllKept
of_count {vs} h =
    let l : count vs < 2147483648 = omega (arith, count_sizes vs, h.small) in record { kept_all = rw (lt-ltb (count vs) 2147483648 l) tt; small = omega arith }

pub instances_kept : (s : Model) (c n : ℕ) → Every AllKept (instances s c n)
unfolding instances numbers_kept every_part number_kept AllKept
instances_kept s c zero = every_nil
instances_kept s c (suc n) = by-if (Every AllKept) (is_a s n (class c)) _ _ (λ t. append_every (obj n) tt (instances_kept s c n)) (λ t. instances_kept s c n)

numbers_kept_lem : (s : Model) → AcceptedModel s → Keeps s Allowed (λ k vs. Every AllKept vs)
unfolding numbers_kept every_part number_kept size AllKept
numbers_kept_lem s ok = record {
  of_bool = λ b. record { kept_all = tt; small = omega arith };
  of_object_lem = λ o. record { kept_all = tt; small = omega arith };
  of_number = λ x h. record { kept_all = h; small = omega arith };
  of_stored = λ o i v e. record { kept_all = ok.values_kept o i v e; small = ok.values_small o i v e };
  of_count = of_count;
  of_members_lem = of_members_lem;
  held = members_kept;
  formed = λ h l. record { kept_all = all_members h; small = l };
  of_none = every_nil;
  of_added = λ k v p h. add_every k v p.kept_all h;
  of_instances = instances_kept s;
}

-- of whatever a rule ends in, typed or not, with any marks
pub ends_kept : (s : Model) → AcceptedModel s → (mark : ℕ → Mark) (e : Expr) → Each (λ x. T (kept x)) (literals e)
    → (o n : ℕ) (v : Value) → evaluate_rule s mark e o ≡ value v n → T (numbers_kept v)
unfolding AllKept
ends_kept s ok mark e h o n v q =
    let k = numbers_kept_lem s ok in (kept_rule k mark e (each_imp (λ x. k.of_number x) h) o n v q).kept_all

pub kept_everywhere : KeptEnds
unfolding AllKept
kept_everywhere s ok mark e h ρ r n m v q =
    let k = numbers_kept_lem s ok in
    let b : Bound Allowed ρ = record { variable = λ i. all_imp (λ v e. record { kept_all = r.bound_kept i v e; small = r.bound_small i v e }) (all_self (ρ i)) } in
    (kept_ends k mark e (each_imp (λ x. k.of_number x) h) ρ b n m v q).kept_all
