-- The forms with one or two strict operands go with one another from their operands on, but for `asSequence`. Assumes nothing.
use mathlib.Core.Path.{◌≡◌, refl, sym, ap, ◌∙◌, subst}
use mathlib.Core.Bool.{Bool, true, false, not}
use Prim.Native.Nat.{ℕ, ◌<◌}
use native.Mathlib.Omega.{arith as linear}
use borrow.Author.Tests.{lt-ltb}
use lib.IntN.{ℤ, pos}
use lib.Dec.{T}
use Rattle.std.specs.Prelude.{if◌then◌else◌}
use Rattle.reals.specs.Reals.{Number, int, real, in_range, kept, order_int, is_less, Operation, Result, lesser}
use Rattle.ocl.specs.Types.{class, Kind, set, sequence, bag, same_kind}
use Rattle.ocl.specs.Values.{Value, bool, num, obj, coll, Values, nil, count, size, same, has, add, add_all}
use Rattle.ocl.specs.Model.{Model, is_a}
use Rattle.ocl.specs.Forms.{Unary, negation, size_of, convert, cast_to, Binary, equal, less, arith, divide, over, includes, including, union}
use Rattle.ocl.specs.Marks.{Scale, integers, reals, Mark, scale_marked}
use Rattle.ocl.specs.Operations.{Outcome, value, undefined, stuck, form, on_coll, resulting, operation_of, cast, unary_apply, is_int, is_num, is_coll, on_scale, left_fits, binary_apply}
use Rattle.ocl.specs.Evaluation.{Run, bind, unary_run, binary_run}
use Rattle.ocl.proofs.Values.{count_sizes}
use Rattle.ocl.proofs.Types.{sameKind→eq}
use Rattle.ocl.proofs.Ends.{Results, results, no_result_lem, over_range_lem, arithmetic_all, division_all, calculated_all}
use Rattle.ocl.proofs.Profile.{no_sequence, orderless}
use Rattle.profile.specs.Renumbering.{Permutation, renumbered, renumbered_model}
use Rattle.profile.proofs.Arranged.{InLine, line_set, line_bag}
use Rattle.profile.proofs.Adding.{has_gathered}
use Rattle.profile.proofs.Through.{each, each_add, each_add_all}
use Rattle.profile.proofs.Images.{Fit, fit_num, fit_obj, fit_members, fit_kept, image_kept, image_same, image_has, image_count, image_convert}
use Rattle.profile.proofs.Instances.{is_a_image}
use Rattle.profile.proofs.Searches.{Matches, match_values, match_undefined, left_over}
use Rattle.profile.proofs.Matches.{fit_add, fit_add_all, fit_none, match_bind, match_if, match_truth, match_bool, match_int, match_num, match_two, match_coll, match_form, Follows}

pub in_line : (k : Kind) → T (no_sequence k) → InLine k
unfolding no_sequence
in_line set h = line_set
in_line sequence h = absurd h
in_line bag h = line_bag

module _ (s : Model) (p : Permutation s.object_count) where
  abbrev t : Model
  t = renumbered_model s p

  abbrev im : Value → Value
  im v = renumbered p.to v

  abbrev Match : Outcome → Outcome → Type 0
  Match x y = Matches p.to x y

  cast_follows : (c : ℕ) (v w : Value) (n m : ℕ) → w ≡ im v → Match (cast s c v n) (cast t c w m)
  unfolding cast renumbered
  cast_follows c v w n m e = subst (λ x. Match (cast s c v n) (cast t c x m)) (sym e) (by v)
    where
      by : (v : Value) → Match (cast s c v n) (cast t c (im v) m)
      by (bool b) = match_undefined
      by (num x) = match_undefined
      by (obj o) =
          subst (λ b. Match (if is_a s o (class c) then value (obj o) n else undefined n) (if b then value (obj (p.to o)) m else undefined m)) (sym (is_a_image s p o (class c)))
          (match_if (is_a s o (class c)) (match_values fit_obj refl) match_undefined)
      by (coll k vs) = left_over tt

  convert_follows : (k : Kind) → InLine k → (v w : Value) (n m : ℕ) → Fit v → w ≡ im v
      → Match (on_coll v (λ j vs. form (coll k (add_all k vs nil)) n)) (on_coll w (λ j vs. form (coll k (add_all k vs nil)) m))
  convert_follows k l v w n m h e =
      match_coll v w h e (λ j vs ws f g. let a = fit_members f in match_form k (add_all k vs nil) (add_all k ws nil) n m (fit_add_all k a.each_fit fit_none)
      (ap (λ us. add_all k us nil) g ∙ image_convert p.to p.back p.back_to j l vs a))

  -- a count is at most the size
  fit_count : {k : Kind} {vs : Values} → Fit (coll k vs) → Fit (num (int (pos (count vs))))
  unfolding kept in_range size
  fit_count {vs} h = let l : count vs < 2147483648 = omega (linear, count_sizes vs, h.small) in fit_num (int (pos (count vs))) (rw (lt-ltb (count vs) 2147483648 l) tt)

  unary_apply_lem : (op : Unary) → T (orderless op) → (v w : Value) (n m : ℕ) → Fit v → w ≡ im v → Match (unary_apply s op v n) (unary_apply t op w m)
  unfolding unary_apply orderless renumbered
  unary_apply_lem negation o v w n m h e = match_bool v w e (λ b. match_truth (not b) (not b) refl)
  unary_apply_lem size_of o v w n m h e =
      match_coll v w h e (λ k vs ws f g. match_values (fit_count f) (ap (λ x. num (int (pos x))) (ap count g ∙ image_count p.to p.back p.back_to k vs (fit_members f))))
  unary_apply_lem (convert k) o v w n m h e = convert_follows k (in_line k o) v w n m h e
  unary_apply_lem (cast_to c) o v w n m h e = cast_follows c v w n m e

  pub unary_follows : (op : Unary) {f g : Run} → T (orderless op) → Follows p.to f g → Follows p.to (unary_run s op f) (unary_run t op g)
  unfolding unary_run
  unary_follows op o h = record { run = λ ρ σ r n m. match_bind (h.run ρ σ r n m) (λ v w i j f e. unary_apply_lem op o v w i j f e) }

  int_fits : (v : Value) → is_int (im v) ≡ is_int v
  unfolding renumbered
  int_fits (bool b) = refl
  int_fits (num (int z)) = refl
  int_fits (num (real r)) = refl
  int_fits (obj o) = refl
  int_fits (coll k vs) = refl

  num_fits : (v : Value) → is_num (im v) ≡ is_num v
  unfolding renumbered
  num_fits (bool b) = refl
  num_fits (num x) = refl
  num_fits (obj o) = refl
  num_fits (coll k vs) = refl

  scale_fits : (x : Scale) (v : Value) → on_scale x (im v) ≡ on_scale x v
  scale_fits integers v = int_fits v
  scale_fits reals v = num_fits v

  coll_fits : (v : Value) → is_coll (im v) ≡ is_coll v
  unfolding renumbered
  coll_fits (bool b) = refl
  coll_fits (num x) = refl
  coll_fits (obj o) = refl
  coll_fits (coll k vs) = refl

  left_fits_lem : (a : Mark) (op : Binary) (v : Value) → left_fits a op (im v) ≡ left_fits a op v
  unfolding left_fits
  left_fits_lem a equal v = refl
  left_fits_lem a less v = scale_fits (scale_marked a) v
  left_fits_lem a (arith o) v = scale_fits (scale_marked a) v
  left_fits_lem a (divide o) v = int_fits v
  left_fits_lem a over v = num_fits v
  left_fits_lem a includes v = coll_fits v
  left_fits_lem a including v = coll_fits v
  left_fits_lem a union v = coll_fits v

  -- a number is its own image
  record Plain (v : Value) : Type 0 where
    fit : Fit v
    own : v ≡ im v

  match_number : {r : Result} (n m : ℕ) → Results Plain r → Match (resulting r n) (resulting r m)
  match_number n m (results h) = match_values h.fit h.own
  match_number n m no_result_lem = match_undefined
  match_number n m over_range_lem = left_over tt

  plain : (x : Number) → T (kept x) → Plain (num x)
  unfolding renumbered
  plain x h = record { fit = fit_num x h; own = refl }

  plain_int : (z : ℤ) → T (in_range z) → Plain (num (int z))
  unfolding kept
  plain_int z h = plain (int z) h

  match_test : {x y v w : Outcome} (b : Bool) → (T b → Match x y) → Match v w → Match (if b then x else v) (if b then y else w)
  match_test true h g = h tt
  match_test false h g = g

  binary_apply_lem : (a : Mark) (op : Binary) (v v' w w' : Value) (n m : ℕ) → Fit v → v' ≡ im v → Fit w → w' ≡ im w → Match (binary_apply a op v w n) (binary_apply a op v' w' m)
  unfolding binary_apply
  binary_apply_lem a equal v v' w w' n m f e g d =
      match_truth (same v w) (same v' w') (ap (λ x. same x w') e ∙ ap (same (im v)) d ∙ image_same p.to p.back p.back_to f g)
  binary_apply_lem a less v v' w w' n m f e g d =
      match_two (scale_marked a) v v' w w' e d (λ x y. match_truth (is_less (order_int x y)) (is_less (order_int x y)) refl) (λ x y. match_truth (lesser x y) (lesser x y) refl)
  binary_apply_lem a (arith o) v v' w w' n m f e g d =
      match_two (scale_marked a) v v' w w' e d (λ x y. match_number n m (arithmetic_all Plain plain_int o x y)) (λ x y. match_number n m (calculated_all Plain plain (operation_of o) x y))
  binary_apply_lem a (divide o) v v' w w' n m f e g d =
      match_int v v' e (λ x. match_int w w' d (λ y. match_number n m (division_all Plain plain_int o x y)))
  binary_apply_lem a over v v' w w' n m f e g d =
      match_num v v' e (λ x. match_num w w' d (λ y. match_number n m (calculated_all Plain plain Operation.over x y)))
  binary_apply_lem a includes v v' w w' n m f e g d =
      match_coll v v' f e (λ k vs ws h i. match_truth (has w vs) (has w' ws)
      (ap (λ x. has x ws) d ∙ ap (has (im w)) i ∙ has_gathered (im w) k (each im vs) ∙ image_has p.to p.back p.back_to g (fit_members h).each_fit))
  binary_apply_lem a including v v' w w' n m f e g d =
      match_coll v v' f e (λ k vs ws h i. let b = fit_members h in match_form k (add k w vs) (add k w' ws) n m (fit_add k w g b)
      (ap (λ x. add k x ws) d ∙ ap (add k (im w)) i ∙ sym (each_add im (image_kept p.to) k w g.numbers_kept_lem (fit_kept b.each_fit))))
  binary_apply_lem a union v v' w w' n m f e g d =
      match_coll v v' f e (λ j vs vs' h i. match_coll w w' g d (λ k ws ws' x b. match_test (same_kind j k)
      (λ c. let y = fit_members h in let z = fit_members x in match_form j (add_all j ws vs) (add_all j ws' vs') n m (fit_add_all j z.each_fit y)
      (ap (λ us. add_all j us vs') (b ∙ ap (λ l. add_all l (each im ws) nil) (sym (sameKind→eq j k c))) ∙ ap (add_all j (add_all j (each im ws) nil)) i
      ∙ sym (each_add_all im (image_kept p.to) j ws vs (fit_kept z.each_fit) (fit_kept y.each_fit)))) (left_over tt)))

  pub binary_follows : (a : Mark) (op : Binary) {f g f' g' : Run} → Follows p.to f f' → Follows p.to g g' → Follows p.to (binary_run a op f g) (binary_run a op f' g')
  unfolding binary_run
  binary_follows a op {f} {g} {f'} {g'} hf hg = record {
    run = λ ρ σ r n m. match_bind (hf.run ρ σ r n m) (λ v v' i j c e.
        subst (λ b. Match (if left_fits a op v then bind (g ρ i) (λ w x. binary_apply a op v w x) else stuck) (if b then bind (g' σ j) (λ w x. binary_apply a op v' w x) else stuck))
        (sym (ap (left_fits a op) e ∙ left_fits_lem a op v))
        (match_if (left_fits a op v) (match_bind (hg.run ρ σ r i j) (λ w w' x y b d. binary_apply_lem a op v v' w w' x y c e b d)) (left_over tt)));
  }
