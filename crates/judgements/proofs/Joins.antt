-- The common type of two types as the code found it, and of several: it does not matter which two are taken first. Assumes
-- nothing.
use mathlib.Core.Path.{◌≡◌, refl, ap, ◌∙◌, fun_ext}
use mathlib.Core.Option.{Option, none, some, none-ne-some, some-injective}
use Prim.Native.Nat.{ℕ}
use Rattle.laws.specs.Choice.{on_some}
use Rattle.laws.proofs.Options.{on_some_some, nowhere}
use Rattle.ocl.specs.Types.{Ty, void, simple, around, Parents, Subtype, transitive, join}
use Rattle.ocl.specs.Laws.{Small}
use Rattle.ocl.specs.Typing.{Answer, refused, common}
use Rattle.ocl.proofs.Subtyping.{subtyping, common_type}
use Rattle.types.specs.declared.FlatType.{FlatType}
use Rattle.types.specs.Flat.{ty_of, joined_type}
use Rattle.judgements.specs.Replies.{join_more}
use Rattle.std.specs.Prelude.{Option as Optional, Some, None}

-- ---- a common type that the code found, or found not to be there

module _ (n : ℕ) (k : Ty → Answer) (x : Optional FlatType) where
  pub joined_yes : {w : FlatType} {a : Answer} → x ≡ Some w → a ≡ k (ty_of w) → a ≡ common n (joined_type x) k
  unfolding common joined_type
  joined_yes q p = rw q p

  pub joined_no : x ≡ None → refused 10 n ≡ common n (joined_type x) k
  unfolding common joined_type
  joined_no q = rw q

-- ---- one more

module _ (parent : Parents) (x : Optional FlatType) (t : Ty) where
  pub more_none : x ≡ None → joined_type x ≡ join_more parent (joined_type x) t
  unfolding join_more joined_type on_some
  more_none q = rw q

  pub more_some : {s : FlatType} {o : Option Ty} → x ≡ Some s → o ≡ join parent (ty_of s) t → o ≡ join_more parent (joined_type x) t
  unfolding join_more joined_type on_some
  more_some q p = rw q p

-- Void adds nothing, first or last
pub void_first : (parent : Parents) (u : Ty) → join_more parent (some void) u ≡ some u
unfolding join_more on_some join
void_first parent u = refl

pub void_last : (parent : Parents) (o : Option Ty) → join_more parent o void ≡ o
unfolding join_more on_some join
void_last parent none = refl
void_last parent (some void) = refl
void_last parent (some (simple a)) = refl
void_last parent (some (around l t)) = refl

-- ---- three types

module _ (parent : Parents) (small : Small parent) where
  -- two least ones are the same
  same_least : (o p : Option Ty)
      → ((x : Ty) → o ≡ some x → (y : Ty) × (p ≡ some y) × Subtype parent y x)
      → ((y : Ty) → p ≡ some y → (x : Ty) × (o ≡ some x) × Subtype parent x y)
      → o ≡ p
  same_least none none f g = refl
  same_least none (some y) f g = absurd (none-ne-some _ (g y refl).1)
  same_least (some x) none f g = absurd (none-ne-some _ (f x refl).1)
  same_least (some x) (some y) f g =
      let p = f x refl in
      let q = g y refl in
      let a : y ≡ p.0 = some-injective _ _ p.1 in
      let b : x ≡ q.0 = some-injective _ _ q.1 in
      ap some ((subtyping parent small).both_ways x y (rw b q.2) (rw a p.2))

  record Above (a b c x : Ty) : Type 0 where
    first : Subtype parent a x
    second : Subtype parent b x
    third : Subtype parent c x

  three : Ty → Ty → Ty → Option Ty
  three a b c = on_some (join parent b c) (join parent a)

  three_above : (a b c x : Ty) → three a b c ≡ some x → Above a b c x
  unfolding three
  three_above a b c x e =
      let d = on_some_some (join parent b c) (join parent a) e in
      let low = (common_type parent small b c).upper d.0 d.1 in
      let high = (common_type parent small a d.0).upper x d.2 in
      record { first = high.0; second = transitive low.0 high.1; third = transitive low.1 high.1 }

  three_least : (a b c x : Ty) → Above a b c x → (y : Ty) × (three a b c ≡ some y) × Subtype parent y x
  unfolding three on_some
  three_least a b c x h =
      let d = (common_type parent small b c).exists x h.second h.third in
      let l = (common_type parent small b c).least d.0 x d.1 h.second h.third in
      let y = (common_type parent small a d.0).exists x h.first l in
      (y.0, ap (λ (o : Option Ty). on_some o (join parent a)) d.1 ∙ y.1, (common_type parent small a d.0).least y.0 x y.1 h.first l)

  turned : (a b c x : Ty) → Above a b c x → Above c a b x
  turned a b c x h = record { first = h.third; second = h.first; third = h.second }

  turned_back : (a b c x : Ty) → Above c a b x → Above a b c x
  turned_back a b c x h = record { first = h.second; second = h.third; third = h.first }

  three_turned : (a b c : Ty) → three a b c ≡ three c a b
  three_turned a b c =
      same_least (three a b c) (three c a b)
      (λ x e. three_least c a b x (turned a b c x (three_above a b c x e)))
      (λ y e. three_least a b c y (turned_back a b c y (three_above c a b y e)))

  pub join_assoc : (a b c : Ty) → on_some (join parent b c) (join parent a) ≡ on_some (join parent a b) (λ w. join parent w c)
  unfolding three
  join_assoc a b c = three_turned a b c ∙ ap (on_some (join parent a b)) (fun_ext (λ w. (common_type parent small c w).either_way))

  -- one more, and then another, or both at once
  pub more_two : (o : Option Ty) (t u : Ty) → on_some (join parent t u) (join_more parent o) ≡ join_more parent (join_more parent o t) u
  unfolding join_more on_some
  more_two none t u = nowhere (join parent t u) (λ w. none) (λ w. refl)
  more_two (some s) t u = join_assoc s t u
