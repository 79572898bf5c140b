-- `attr` and `collect` go with one another from their operand on, where `collect` makes no Sequence. Assumes nothing.
use mathlib.Core.Path.{◌≡◌, refl, sym, ap, ◌∙◌, subst}
use mathlib.Core.Bool.{Bool, false}
use mathlib.Core.Option.{Option, none, some, none-ne-some}
use Prim.Native.Nat.{ℕ}
use lib.Dec.{T}
use Rattle.laws.specs.Choice.{on_some, map_some}
use Rattle.std.specs.Prelude.{if◌then◌else◌}
use Rattle.laws.proofs.Tests.{test_same, All?, all_none, all_some, all_imp, all_self}
use Rattle.ocl.specs.Types.{class, Kind}
use Rattle.ocl.specs.Values.{Value, bool, num, obj, coll, Values, nil, cons, add_all}
use Rattle.ocl.specs.Model.{Model, every}
use Rattle.ocl.specs.Forms.{Access, of_object, of_members}
use Rattle.ocl.specs.Marks.{Mark, row_marked, kind_marked}
use Rattle.ocl.specs.Operations.{Outcome, stuck, has_row, value_in_row, values_in_row, form_all, access}
use Rattle.ocl.specs.Evaluation.{Run, attribute_run}
use Rattle.ocl.specs.Laws.{Member, first, later}
use Rattle.ocl.specs.Soundness.{AcceptedModel}
use Rattle.ocl.proofs.Values.{Every, every_nil, every_cons, every_by, every_test, all_each, add_all_every}
use Rattle.ocl.proofs.NumbersKept.{AllKept}
use Rattle.ocl.proofs.Profile.{access_free}
use Rattle.profile.specs.Renumbering.{Permutation, renumbered, renumbered_model}
use Rattle.profile.proofs.Arranged.{InLine}
use Rattle.profile.proofs.Through.{each}
use Rattle.profile.proofs.Images.{Fit, FitAll, fit_bool, fit_members, fit_kept, image_kept, member_to, member_from, every_member, member_gathered, gathered_member, changed, image_gathered, line_image}
use Rattle.profile.proofs.Instances.{is_a_image}
use Rattle.profile.proofs.Searches.{Matches, match_undefined, left_over}
use Rattle.profile.proofs.Matches.{fit_add_all, fit_none, Gathered, match_bind, match_if, match_coll, match_form, Follows, match_given}
use Rattle.profile.proofs.StrictForms.{in_line}

-- ---- values in a row

-- a value that is there
unfoldable held : Option Value → Value
held none = bool false
held (some v) = v

-- a member has no value in the row, or all have
data Rowed (s : Model) (i : ℕ) (vs : Values) : Option Values → Type 0 where
  lacks : (x : Value) → Member x vs → value_in_row s i x ≡ none → Rowed s i vs none
  all_there : Every (λ x. value_in_row s i x ≡ some (held (value_in_row s i x))) vs → Rowed s i vs (some (each (λ x. held (value_in_row s i x)) vs))

rowed : (s : Model) (i : ℕ) (vs : Values) → Rowed s i vs (values_in_row s i vs)
unfolding values_in_row on_some map_some each held
rowed s i nil = all_there every_nil
rowed s i (cons v vs) = by (value_in_row s i v) refl (rowed s i vs)
  where
    more : (w : Value) {o : Option Values} → value_in_row s i v ≡ some w → Rowed s i vs o → Rowed s i (cons v vs) (map_some (cons w) o)
    more w e (lacks x h q) = lacks x (later h) q
    more w e (all_there h) = subst (λ x. Rowed s i (cons v vs) (some (cons x (each (λ y. held (value_in_row s i y)) vs)))) (ap held e) (all_there (every_cons (e ∙ ap some (sym (ap held e))) h))

    by : (o : Option Value) → value_in_row s i v ≡ o → Rowed s i vs (values_in_row s i vs) → Rowed s i (cons v vs) (on_some o (λ w. map_some (cons w) (values_in_row s i vs)))
    by none e h = lacks v first e
    by (some w) e h = more w e h

missing : {o : Option Value} {v : Value} → o ≡ some v → o ≡ none → ⊥
missing e d = none-ne-some _ (sym d ∙ e)

from_none : (f : Value → Value) (o : Option Value) → map_some f o ≡ none → o ≡ none
unfolding map_some
from_none f none e = refl
from_none f (some v) e = absurd (none-ne-some _ (sym e))

-- a test of all members does not ask for their order
every_gathered : (f : Value → Bool) (k : Kind) (us : Values) → Every AllKept us → every f (add_all k us nil) ≡ every f us
every_gathered f k us e =
    test_same (every f (add_all k us nil)) (every f us)
    (λ h. every_test f (λ v g. g) (each_member us (λ x m. every_member (every_by f (add_all k us nil) (λ v g. g) h) (member_gathered k e m))))
    (λ h. every_test f (λ v g. g) (add_all_every k (every_by f us (λ v g. g) h) every_nil))
  where
    each_member : {P : Value → Type 0} (vs : Values) → ((x : Value) → Member x vs → P x) → Every P vs
    each_member nil h = every_nil
    each_member (cons v vs) h = every_cons (h v first) (each_member vs (λ x m. h x (later m)))

module _ (s : Model) (ok : AcceptedModel s) (p : Permutation s.object_count) where
  abbrev t : Model
  t = renumbered_model s p

  abbrev im : Value → Value
  im v = renumbered p.to v

  abbrev Match : Outcome → Outcome → Type 0
  Match x y = Matches p.to x y

  row_image : (i : ℕ) (v : Value) → value_in_row t i (im v) ≡ map_some im (value_in_row s i v)
  unfolding value_in_row renumbered map_some
  row_image i (bool b) = refl
  row_image i (num x) = refl
  row_image i (obj o) = ap (λ x. map_some im (s.value_of x i)) (p.back_to o)
  row_image i (coll k vs) = refl

  stored_kept : (o i : ℕ) (v : Value) → s.value_of o i ≡ some v → AllKept v
  unfolding AllKept
  stored_kept o i v e = ok.values_kept o i v e

  row_fit : (i : ℕ) (v : Value) → All? Fit (value_in_row s i v)
  unfolding value_in_row
  row_fit i (bool b) = all_none
  row_fit i (num x) = all_none
  row_fit i (obj o) = all_imp (λ z b. record { formed = ok.values_formed o i z b; numbers_kept_lem = stored_kept o i z b; small = ok.values_small o i z b }) (all_self (s.value_of o i))
  row_fit i (coll k vs) = all_none

  rows_fit : (i : ℕ) (us : Values) → All? (Every Fit) (values_in_row s i us)
  unfolding values_in_row on_some map_some
  rows_fit i nil = all_some every_nil
  rows_fit i (cons v us) = all_each (row_fit i v) (rows_fit i us)

  has_row_lem : (i : ℕ) (v : Value) → has_row t i (im v) ≡ has_row s i v
  unfolding has_row renumbered
  has_row_lem i (bool b) = refl
  has_row_lem i (num x) = refl
  has_row_lem i (obj o) = is_a_image s p o (class (s.row i).owner)
  has_row_lem i (coll k vs) = refl

  have_row : (i : ℕ) (vs : Values) → every (has_row t i) (each im vs) ≡ every (has_row s i) vs
  unfolding every each
  have_row i nil = refl
  have_row i (cons v vs) = rw (has_row_lem i v, have_row i vs)

  -- what stands in for a value that is not there is kept too
  held_kept : {o : Option Value} → All? AllKept o → AllKept (held o)
  unfolding held
  held_kept all_none = fit_bool.numbers_kept_lem
  held_kept (all_some h) = h

  row_kept : (i : ℕ) (v : Value) → AllKept (held (value_in_row t i v))
  row_kept i v = held_kept (by v)
    where
      image : {o : Option Value} → All? Fit o → All? AllKept (map_some im o)
      image all_none = unfold map_some in all_none
      image (all_some {x} h) = unfold map_some in all_some (image_kept p.to x h.numbers_kept_lem)

      by : (v : Value) → All? AllKept (value_in_row t i v)
      by (bool b) = unfold value_in_row in all_none
      by (num x) = unfold value_in_row in all_none
      by (obj o) = unfold value_in_row in image (row_fit i (obj (p.back o)))
      by (coll k vs) = unfold value_in_row in all_none

  -- a collection of the members' values, where each has one, goes with one of the images' values
  match_gathered : (k : Kind) → InLine k → (j : Kind) (i : ℕ) (vs ws : Values) (n m : ℕ) → FitAll j vs → Gathered p.to j vs ws
      → Match (form_all k (values_in_row s i vs) n) (form_all k (values_in_row t i ws) m)
  unfolding each held map_some
  match_gathered k l j i vs ws n m h e = by (rowed s i vs) (rowed t i ws) (rows_fit i vs)
    where
      there : {x : Value} → Member x vs → Member (im x) ws
      there {x} b = subst (λ us. Member (im x) us) (sym e) (member_gathered j (changed p.to p.back p.back_to h.each_fit) (member_to im b))

      no_value : (x : Value) → value_in_row t i (im x) ≡ none → value_in_row s i x ≡ none
      no_value x q = from_none im (value_in_row s i x) (sym (row_image i x) ∙ q)

      values_changed : {us : Values} → Every (λ x. value_in_row s i x ≡ some (held (value_in_row s i x))) us → each (λ x. held (value_in_row t i x)) (each im us) ≡ each im (each (λ x. held (value_in_row s i x)) us)
      values_changed every_nil = refl
      values_changed (every_cons {v} q g) = rw (row_image i v, q, values_changed g)

      by : {o q : Option Values} → Rowed s i vs o → Rowed t i ws q → All? (Every Fit) o → Match (form_all k o n) (form_all k q m)
      by (lacks x a z) (lacks y b d) f = match_undefined
      by (lacks x a z) (all_there g) f = absurd (missing (every_member g (there a)) (row_image i x ∙ unfold map_some in ap (map_some im) z))
      by (all_there g) (lacks y b d) f =
          let r = member_from im y vs (gathered_member j (changed p.to p.back p.back_to h.each_fit) (subst (λ us. Member y us) e b)) in
          absurd (missing (every_member g r.1) (no_value r.0 (ap (value_in_row t i) (sym r.2) ∙ d)))
      by (all_there g) (all_there h') (all_some f) =
          match_form k _ _ n m (fit_add_all k f fit_none)
          (ap (λ us. add_all k (each (λ x. held (value_in_row t i x)) us) nil) e ∙ image_gathered p.to p.back p.back_to (λ x. held (value_in_row t i x)) (λ v q. row_kept i v) j l vs h
          ∙ ap (λ us. add_all k us nil) (values_changed g) ∙ sym (line_image p.to p.back p.back_to l (each (λ x. held (value_in_row s i x)) vs) (fit_kept f)))

  access_follows : (x : Access) (a : Mark) → T (access_free x a) → (v w : Value) (n m : ℕ) → Fit v → w ≡ im v → Match (access s x a v n) (access t x a w m)
  unfolding access access_free
  access_follows of_object a o v w n m h e =
      subst (λ x. Match (access s of_object a v n) (access t of_object a x m)) (sym e)
      (rw (has_row_lem (row_marked a) v) (match_if (has_row s (row_marked a) v) (match_given (value_in_row s (row_marked a) v) (value_in_row t (row_marked a) (im v)) n m (row_image (row_marked a) v) (row_fit (row_marked a) v)) (left_over tt)))
  access_follows of_members a o v w n m h e =
      match_coll v w h e (λ j vs ws f g.
      let b = fit_members f in
      subst (λ b. Match (if every (has_row s (row_marked a)) vs then form_all (kind_marked a) (values_in_row s (row_marked a) vs) n else stuck) (if b then form_all (kind_marked a) (values_in_row t (row_marked a) ws) m else stuck))
      (sym (ap (every (has_row t (row_marked a))) g ∙ every_gathered (has_row t (row_marked a)) j (each im vs) (changed p.to p.back p.back_to b.each_fit) ∙ have_row (row_marked a) vs))
      (match_if (every (has_row s (row_marked a)) vs) (match_gathered (kind_marked a) (in_line (kind_marked a) o) j (row_marked a) vs ws n m b g) (left_over tt)))

  pub attribute_follows : (x : Access) (a : Mark) {f g : Run} → T (access_free x a) → Follows p.to f g → Follows p.to (attribute_run s x a f) (attribute_run t x a g)
  unfolding attribute_run
  attribute_follows x a o h = record { run = λ ρ σ r n m. match_bind (h.run ρ σ r n m) (λ v w i j f e. access_follows x a o v w i j f e) }
