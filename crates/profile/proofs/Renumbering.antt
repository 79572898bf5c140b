-- A typed rule with no node outside the profile ends alike, up to a renumbering, on a model and on the model numbered anew: one induction
-- over the forms. Assumes nothing.
use mathlib.Core.Path.{refl, sym, subst}
use mathlib.Core.Bool.{◌&&◌}
use mathlib.Core.List.{List, ◌++◌}
use Prim.Native.Nat.{ℕ}
use lib.Dec.{T}
use Rattle.laws.specs.Choice.{map_some}
use Rattle.std.specs.Prelude.{if◌then◌else◌}
use Rattle.laws.specs.Lists.{Each, each-cons}
use Rattle.laws.proofs.Lists.{each_left, each_right}
use Rattle.laws.proofs.Tests.{and_l, and_r, all_none}
use Rattle.reals.specs.Reals.{Number, kept}
use Rattle.ocl.specs.Types.{class, set}
use Rattle.ocl.specs.Values.{obj}
use Rattle.ocl.specs.Model.{Model, is_a}
use Rattle.ocl.specs.Environment.{start}
use Rattle.ocl.specs.Forms.{Leaf, truth, undef, number, self, var, all, Expr, node, Form, leaf, unary, binary, connective, is_undef, conditional, let_in, attribute, call, quantified, iterate, assemble, Operands, no_operand, operand}
use Rattle.ocl.specs.Marks.{Mark}
use Rattle.ocl.specs.Operations.{Outcome, value, undefined, stuck, stop, instances}
use Rattle.ocl.specs.Evaluation.{Run, leaf_run, call_run, evaluation, form_run, operands_run, evaluate_rule}
use Rattle.ocl.specs.Laws.{literals, literals_in, literals_of, leaf_literals}
use Rattle.ocl.specs.Soundness.{AcceptedModel}
use Rattle.ocl.proofs.Values.{every_imp}
use Rattle.ocl.proofs.Sorted.{instances_sorted, instances_under}
use Rattle.ocl.proofs.Profile.{orderless, access_free, free, free_in, free_of, profile_free}
use Rattle.profile.specs.Renumbering.{Permutation, renumbered, renumbered_model, goes_through, SameUpTo, both_values, both_undefined, Renumbering}
use Rattle.profile.proofs.Images.{fit_num, fit_obj}
use Rattle.profile.proofs.Instances.{is_a_image, instances_image}
use Rattle.profile.proofs.Searches.{Over, Matches, match_values, match_undefined, left_over, right_over}
use Rattle.profile.proofs.Matches.{under_fit, match_bind, match_if, match_tick, match_truth, match_obj, match_form, Related, Follows, extend_related, match_bound}
use Rattle.profile.proofs.Forms.{Gathers, connective_follows, is_undef_follows, conditional_follows, let_follows, quantified_follows, no_operand_gathers, operand_gathers, assemble_follows}
use Rattle.profile.proofs.StrictForms.{unary_follows, binary_follows}
use Rattle.profile.proofs.Accesses.{attribute_follows}

module _ (s : Model) (ok : AcceptedModel s) (p : Permutation s.object_count) where
  abbrev t : Model
  t = renumbered_model s p

  leaf_follows : (l : Leaf) → Each (λ x. T (kept x)) (leaf_literals l) → Follows p.to (leaf_run s l) (leaf_run t l)
  unfolding leaf_run renumbered leaf_literals
  leaf_follows (truth b) h = record { run = λ ρ σ r n m. match_truth b b refl }
  leaf_follows undef h = record { run = λ ρ σ r n m. match_undefined }
  leaf_follows (number x) (each-cons h i) = record { run = λ ρ σ r n m. match_values (fit_num x h) refl }
  leaf_follows self h = record { run = λ ρ σ r n m. match_bound (ρ 0) (σ 0) n m (r.image 0) (r.fit 0) }
  leaf_follows (var i) h = record { run = λ ρ σ r n m. match_bound (ρ i) (σ i) n m (r.image i) (r.fit i) }
  leaf_follows (all c) h = record {
    run = λ ρ σ r n m. match_form set (instances s c s.object_count) (instances t c s.object_count) n m
        (record { sorted = instances_sorted s c s.object_count; each_fit = every_imp (λ v. under_fit) (instances_under s c s.object_count) }) (sym (instances_image s p c));
  }

  start_related : (o : ℕ) → Related p.to (start (obj o)) (start (obj (p.to o)))
  unfolding start renumbered
  start_related o = extend_related 0 (obj o) (obj (p.to o)) (record { image = λ i. unfold map_some in refl; fit = λ i. all_none }) fit_obj refl

  call_follows : (c : ℕ) {f g f' g' : Run} → Follows p.to f f' → Follows p.to g g' → Follows p.to (call_run s c f g) (call_run t c f' g')
  unfolding call_run
  call_follows c {f} {g} {f'} {g'} hf hg = record {
    run = λ ρ σ r n m. match_bind (hf.run ρ σ r n m) (λ v w x y a e. match_obj v w e (λ o q d.
        subst (λ u. Matches p.to (if is_a s o (class c) then g (start (obj o)) x else stuck) (if is_a t u (class c) then g' (start (obj u)) y else stuck)) (sym d)
        (rw (is_a_image s p o (class c)) (match_if (is_a s o (class c)) (hg.run (start (obj o)) (start (obj (p.to o))) (start_related o) x y) (left_over tt)))));
  }

  -- ---- the induction

  module _ (mark : ℕ → Mark) where
    abbrev Known : List Number → Type 0
    Known xs = Each (λ x. T (kept x)) xs

    mutual
      unfolding evaluation free literals

      all_follow : (e : Expr) → Known (literals e) → T (free mark e) → Follows p.to (evaluation s mark e) (evaluation t mark e)
      all_follow (node q f) k h = record { run = λ ρ σ r n m. match_tick (form_run s mark q f) (form_run t mark q f) ρ σ n m ((form_follows q f k h).run ρ σ r) }

      form_follows : (q : ℕ) (f : Form) → Known (literals_in f) → T (free_in mark q f) → Follows p.to (form_run s mark q f) (form_run t mark q f)
      form_follows q (leaf l) k h = leaf_follows l k
      form_follows q (unary op a) k h = unary_follows s p op (and_l (orderless op) (free mark a) h) (all_follow a k (and_r (orderless op) (free mark a) h))
      form_follows q (binary op a b) k h =
          binary_follows s p (mark q) op (all_follow a (each_left (literals a) (literals b) k) (and_l (free mark a) (free mark b) h)) (all_follow b (each_right (literals a) k) (and_r (free mark a) (free mark b) h))
      form_follows q (connective c a b) k h =
          connective_follows c (all_follow a (each_left (literals a) (literals b) k) (and_l (free mark a) (free mark b) h)) (all_follow b (each_right (literals a) k) (and_r (free mark a) (free mark b) h))
      form_follows q (is_undef a) k h = is_undef_follows (all_follow a k h)
      form_follows q (conditional c a b) k h =
          let l = each_right (literals c) k in
          let i = and_r (free mark c) (free mark a && free mark b) h in
          conditional_follows (all_follow c (each_left (literals c) (literals a ++ literals b) k) (and_l (free mark c) (free mark a && free mark b) h))
          (all_follow a (each_left (literals a) (literals b) l) (and_l (free mark a) (free mark b) i)) (all_follow b (each_right (literals a) l) (and_r (free mark a) (free mark b) i))
      form_follows q (let_in i a b) k h =
          let_follows i (all_follow a (each_left (literals a) (literals b) k) (and_l (free mark a) (free mark b) h)) (all_follow b (each_right (literals a) k) (and_r (free mark a) (free mark b) h))
      form_follows q (attribute x name a) k h =
          attribute_follows s ok p x (mark q) (and_l (access_free x (mark q)) (free mark a) h) (all_follow a k (and_r (access_free x (mark q)) (free mark a) h))
      form_follows q (call c u a b) k h =
          call_follows c (all_follow a (each_left (literals a) (literals b) k) (and_l (free mark a) (free mark b) h)) (all_follow b (each_right (literals a) k) (and_r (free mark a) (free mark b) h))
      form_follows q (quantified c i a b) k h =
          quantified_follows c i (all_follow a (each_left (literals a) (literals b) k) (and_l (free mark a) (free mark b) h)) (all_follow b (each_right (literals a) k) (and_r (free mark a) (free mark b) h))
      form_follows q (iterate i j u a e b) k h = absurd h
      form_follows q (assemble c es) k h = assemble_follows c (operands_gather es k h)

      operands_gather : (es : Operands) → Known (literals_of es) → T (free_of mark es) → Gathers p.to (operands_run s mark es) (operands_run t mark es)
      operands_gather no_operand k h = no_operand_gathers
      operands_gather (operand e es) k h =
          operand_gathers (all_follow e (each_left (literals e) (literals_of es) k) (and_l (free mark e) (free_of mark es) h))
          (operands_gather es (each_right (literals e) k) (and_r (free mark e) (free_of mark es) h))

-- what goes with one another, where both go through
not_over : (x : Outcome) → Over x → T (goes_through x) → ⊥
unfolding goes_through
not_over (value v n) o h = o
not_over (undefined n) o h = o
not_over stuck o h = h
not_over (stop c n) o h = h

same_up_to : {f : ℕ → ℕ} (x y : Outcome) → Matches f x y → T (goes_through x) → T (goes_through y) → SameUpTo f x y
same_up_to x y (match_values {v} {n} {m} h e) a b = rw e both_values
same_up_to x y match_undefined a b = both_undefined
same_up_to x y (left_over o) a b = absurd (not_over x o a)
same_up_to x y (right_over o) a b = absurd (not_over y o b)

pub renumbering : Renumbering
unfolding evaluate_rule
renumbering s ok p mark e k d c t q g w o a b =
    same_up_to _ _ ((all_follow s ok p mark e k (profile_free s mark e d c t q g w)).run (start (obj o)) (start (obj (p.to o))) (start_related s ok p o) 0 0) a b
