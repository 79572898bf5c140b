-- Laws of `iterate_step`: one for each return. Assumes nothing.
use mathlib.Core.Path.{◌≡◌, refl}
use mathlib.Core.Option.{Option, none, some}
use Prim.Native.Nat.{ℕ}
use Prim.Native.String.{String}
use Rattle.laws.specs.Choice.{on_some, map_some}
use Rattle.ocl.specs.Types.{Ty}
use Rattle.sheet.specs.Text.{Bytes}
use Rattle.sheet.specs.Grammar.Tokens.{Tokens}
use Rattle.sheet.specs.Grammar.Trees.{iterate}
use Rattle.sheet.specs.Grammar.Words.{labelled, variable_word}
use Rattle.sheet.specs.Grammar.Parser.{after, taking, type_in, Next, iteration, or_broken, iterate_step}
use Rattle.tokens.specs.Codes.{after_code}
use Rattle.tokens.specs.Meanings.{onward}
use Rattle.tokens.specs.declared.Token.{Token}
use Rattle.tokens.proofs.WordCodes.{after_semicolon, after_colon, after_equals}
use Rattle.phrases.specs.Forms.{labelled_before}
use Rattle.phrases.specs.Meanings.{AfterIs, LabelledAs, labelled_one, TypeAs, type_one, StepAs, step_broken, step_iteration}
use Rattle.phrases.specs.declared.Postfix.TheVariants as step
use Rattle.phrases.proofs.WordLaws.{farther, gone, came, came_further, unlabelled}
use Rattle.phrases.proofs.TypeLaws.{untyped}
use Rattle.std.specs.Prelude.{Option as Optional, Some, None, Result}
use Rattle.memory.specs.declared.refusals.Misread.{Misread}
use Rattle.types.specs.declared.FlatType.{FlatType}

-- by the codes of the signs
unfoldable equals : ℕ → ℕ → Option (Ty × Tokens) → Option Next
equals i j o = on_some o (λ t. map_some (iteration (iterate i j t.0)) (after_code 13 t.1))

unfoldable results : ℕ → Option (ℕ × Tokens) → Option Next
results i o = on_some o (λ y. equals i y.0 (type_in y.1))

unfoldable members : Option (ℕ × Tokens) → Option Next
members o = on_some o (λ x. results x.0 (labelled_before 118 46 x.1))

before_on : (l k : ℕ) (w : String) (f g : ℕ → Tokens → Option Next) → ((s : Tokens) → after w s ≡ after_code k s) → ((n : ℕ) (s : Tokens) → f n s ≡ g n s) → (s : Tokens)
    → on_some (taking (labelled l) s) (λ x. on_some (after w x.1) (f x.0)) ≡ on_some (labelled_before l k s) (λ y. g y.0 y.1)
unfolding labelled_before on_some map_some
before_on l k w f g told same s = go (taking (labelled l) s)
  where
    both : (n : ℕ) (o : Option Tokens) → on_some o (f n) ≡ on_some (map_some {B = ℕ × Tokens} (λ r. (n, r)) o) (λ y. g y.0 y.1)
    both n none = refl
    both n (some r) = same n r

    go : (o : Option (ℕ × Tokens)) → on_some o (λ x. on_some (after w x.1) (f x.0)) ≡ on_some (on_some {B = ℕ × Tokens} o (λ x. map_some (λ r. (x.0, r)) (after_code k x.1))) (λ y. g y.0 y.1)
    go none = refl
    go (some x) = rw (told x.1) (both x.0 (after_code k x.1))

equals_told : (i j : ℕ) (s : Tokens) → on_some (type_in s) (λ t. map_some (iteration (iterate i j t.0)) (after "=" t.1)) ≡ equals i j (type_in s)
unfolding equals on_some
equals_told i j s = go (type_in s)
  where
    go : (o : Option (Ty × Tokens)) → on_some o (λ t. map_some (iteration (iterate i j t.0)) (after "=" t.1)) ≡ on_some o (λ t. map_some (iteration (iterate i j t.0)) (after_code 13 t.1))
    go none = refl
    go (some t) = rw (after_equals t.1)

iterate_told : (s : Tokens) → iterate_step s ≡ members (labelled_before 118 45 s)
unfolding iterate_step members results variable_word
iterate_told s = before_on 118 45 ";" _ (λ i r. results i (labelled_before 118 46 r)) after_semicolon (λ i r. before_on 118 46 ":" _ (λ j q. equals i j (type_in q)) after_colon (equals_told i) r) s

module _ {s : Bytes} {t : Token} {r : Optional (ℕ × Token)} (h : LabelledAs s t (labelled_before 118 45 (onward s t)) r) where
  pub no_first : r ≡ None → StepAs s t (or_broken (iterate_step (onward s t))) step.Broken
  unfolding members on_some or_broken
  no_first d = step_broken (rw (iterate_told (onward s t), unlabelled h d))

  module _ {x : ℕ} {u : Token} (d : r ≡ Some (x, u)) {r₂ : Optional (ℕ × Token)} (h₂ : LabelledAs s u (labelled_before 118 46 (onward s u)) r₂) where
    pub no_second : r₂ ≡ None → StepAs s t (or_broken (iterate_step (onward s t))) step.Broken
    unfolding members results on_some or_broken
    no_second d₂ = go (rw d at h)
      where
        go : LabelledAs s t (labelled_before 118 45 (onward s t)) (Some (x, u)) → StepAs s t (or_broken (iterate_step (onward s t))) step.Broken
        go (labelled_one i e c f) = step_broken (rw (iterate_told (onward s t), e, unlabelled h₂ d₂))

    module _ {y : ℕ} {v : Token} (d₂ : r₂ ≡ Some (y, v)) {r₃ : Optional (Result FlatType Misread × Token)} (h₃ : TypeAs s v (type_in (onward s v)) r₃) where
      pub no_type : r₃ ≡ None → StepAs s t (or_broken (iterate_step (onward s t))) step.Broken
      unfolding members results equals on_some or_broken
      no_type d₃ = go (rw d at h) (rw d₂ at h₂)
        where
          go : LabelledAs s t (labelled_before 118 45 (onward s t)) (Some (x, u)) → LabelledAs s u (labelled_before 118 46 (onward s u)) (Some (y, v)) → StepAs s t (or_broken (iterate_step (onward s t))) step.Broken
          go (labelled_one i e c f) (labelled_one j e₂ c₂ f₂) = step_broken (rw (iterate_told (onward s t), e, e₂, untyped h₃ d₃))

      module _ {g : Result FlatType Misread} {w : Token} (d₃ : r₃ ≡ Some (g, w)) {q : Optional Token} (k : AfterIs s w 13 q) where
        pub no_equals : q ≡ None → StepAs s t (or_broken (iterate_step (onward s t))) step.Broken
        unfolding members results equals on_some map_some or_broken
        no_equals z = go (rw d at h) (rw d₂ at h₂) (rw d₃ at h₃)
          where
            go : LabelledAs s t (labelled_before 118 45 (onward s t)) (Some (x, u)) → LabelledAs s u (labelled_before 118 46 (onward s u)) (Some (y, v)) → TypeAs s v (type_in (onward s v)) (Some (g, w)) → StepAs s t (or_broken (iterate_step (onward s t))) step.Broken
            go (labelled_one i e c f) (labelled_one j e₂ c₂ f₂) (type_one a e₃ c₃ f₃) = step_broken (rw (iterate_told (onward s t), e, e₂, e₃, gone k z))

        pub iterates : {n : Token} → q ≡ Some n → StepAs s t (or_broken (iterate_step (onward s t))) (step.Iteration x y g n)
        unfolding members results equals on_some map_some or_broken
        iterates {n} z = go (rw d at h) (rw d₂ at h₂) (rw d₃ at h₃)
          where
            go : LabelledAs s t (labelled_before 118 45 (onward s t)) (Some (x, u)) → LabelledAs s u (labelled_before 118 46 (onward s u)) (Some (y, v)) → TypeAs s v (type_in (onward s v)) (Some (g, w)) → StepAs s t (or_broken (iterate_step (onward s t))) (step.Iteration x y g n)
            go (labelled_one i e c f) (labelled_one j e₂ c₂ f₂) (type_one a e₃ c₃ f₃) =
                step_iteration {u = n} i j a (rw (iterate_told (onward s t), e, e₂, e₃, came k z)) c c₂ c₃ (farther f (farther f₂ (farther f₃ (came_further k z))))
