-- Every value that evaluation ends in is formed: an instance of proofs/Kept.antt. Assumes nothing.
use Prim.Native.Nat.{ℕ}
use Rattle.laws.proofs.Lists.{each_all}
use Rattle.laws.proofs.Tests.{all_imp, all_self}
use Rattle.ocl.specs.Types.{Kind}
use Rattle.ocl.specs.Values.{Value, coll, Values, nil, add}
use Rattle.ocl.specs.Model.{Model}
use Rattle.ocl.specs.Laws.{literals, Sorted, sorted_nil, Formed, formed_bool, formed_num, formed_obj, formed_coll, FormedAll, formed_nil, formed_cons, Adding, FormedModel, FormedEndsLaw}
use Rattle.ocl.proofs.Values.{Every, every_nil, every_cons, every_imp, add_every, add_all_every}
use Rattle.ocl.proofs.Sorted.{add_sorted, add_all_sorted, Under, under, instances_under, instances_sorted}
use Rattle.ocl.proofs.Kept.{Keeps, kept_ends, kept_rule}

-- ---- members

each_formed : {vs : Values} → FormedAll vs → Every Formed vs
each_formed formed_nil = every_nil
each_formed (formed_cons p h) = every_cons p (each_formed h)

all_formed : {vs : Values} → Every Formed vs → FormedAll vs
all_formed every_nil = formed_nil
all_formed (every_cons p h) = formed_cons p (all_formed h)

pub formed_of : {k : Kind} {vs : Values} → Sorted k vs → Every Formed vs → Formed (coll k vs)
formed_of h e = formed_coll h (all_formed e)

pub members_sorted : {k : Kind} {vs : Values} → Formed (coll k vs) → Sorted k vs
members_sorted (formed_coll h e) = h

members_formed : {k : Kind} {vs : Values} → Formed (coll k vs) → Every Formed vs
members_formed (formed_coll h e) = each_formed e

add_formed : {vs : Values} (k : Kind) (v : Value) → Formed v → Formed (coll k vs) → Formed (coll k (add k v vs))
add_formed {vs} k v p h = formed_of (add_sorted k v vs (members_sorted h)) (add_every k v p (members_formed h))

empty : {k : Kind} → Formed (coll k nil)
empty = formed_of sorted_nil every_nil

under_formed : {n : ℕ} {v : Value} → Under n v → Formed v
under_formed (under h) = formed_obj

formed_kept : (s : Model) → FormedModel s → Keeps s Formed (λ k vs. Formed (coll k vs))
formed_kept s ok = record {
  of_bool = λ b. formed_bool;
  of_object_lem = λ o. formed_obj;
  of_number = λ x h. formed_num;
  of_stored = ok.stored_formed;
  of_count = λ h. formed_num;
  of_members_lem = members_formed;
  held = λ h. h;
  formed = λ h l. h;
  of_none = empty;
  of_added = add_formed;
  of_instances = λ c n. formed_of (instances_sorted s c n) (every_imp (λ v. under_formed) (instances_under s c n));
}

pub adding : Adding
adding = record {
  add_sorted = add_sorted;
  add_all_sorted = add_all_sorted;
  gathered = λ k vs h. formed_of (add_all_sorted k vs nil sorted_nil) (add_all_every k (each_formed h) every_nil);
  instances_sorted = instances_sorted;
}

pub formed_ends : FormedEndsLaw
formed_ends s ok mark e = record {
  from = λ ρ r. kept_ends (formed_kept s ok) mark e (each_all (λ z. formed_num) (literals e)) ρ (record { variable = λ i. all_imp (λ v q. r.bound_formed i v q) (all_self (ρ i)) });
  of_rule = kept_rule (formed_kept s ok) mark e (each_all (λ z. formed_num) (literals e));
}
