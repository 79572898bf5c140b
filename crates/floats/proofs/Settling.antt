-- What an operation comes to, by the f64 that it gave. Assumes nothing.
use mathlib.Core.Path.{◌≡◌, refl, sym, ap, ◌∙◌, subst}
use mathlib.Core.Bool.{Bool, true, false, not}
use mathlib.Core.Option.{Option, none, some}
use Prim.Native.Nat.{ℕ, zero, suc}
use native.Mathlib.Omega.{arith}
use lib.Dec.{T}
use lib.Ieee as Ieee
use lib.Ieee.{Float, nan, inf, fin, binary64, to_bits, is_nan}
use lib.Ieee.Scale.{finite}
use Rattle.std.specs.Prelude.{if◌then◌else◌, Result, Ok, Err}
use Rattle.reals.specs.Reals.{Real, binary, is_binary64, Number, widen, kept, add, subtract, multiply, divide, is_zero, operate, settled, calculated, Operation, plus, minus, times, over, no_result}
use Rattle.reals.specs.Bits.{rank, bits}
use Rattle.reals.specs.Floats.{f64_of, Gives, gives, gives_none}
use Rattle.floats.specs.Meanings.{coded_of, computed_of, FloatOf, Holds, Settles, operation_of, Calculates}
use Rattle.floats.specs.declared.Number.{Number as Coded}
use Rattle.reals.proofs.Full.{binary64→full, binary64→low}
use Rattle.reals.proofs.Operators.{add_is, subtract_is, multiply_is, divide_is}
use Rattle.reals.proofs.Widening.{widen_binary64}
use Rattle.reals.proofs.Words.{rank_below}
use Rattle.reals.proofs.Bits.{bits_of_float}
use Rattle.floats.proofs.Operators.{add_number, sub_number, mul_number, div_number, nought, zero_is}
use Rattle.floats.specs.declared.NoNumber.{NoNumber}
use Rattle.floats.specs.declared.NoNumber.TheVariants.{OverRange, Undefined}

-- ---- settle

-- the bits of the two infinities
inf_bits : (s : Bool) → to_bits binary64 (inf s) ≡ (if s then 18442240474082181120 else 9218868437227405312)
unfolding to_bits
inf_bits true = refl
inf_bits false = refl

pub not_infinite : (x : Float) → T (not (is_nan x)) → (to_bits binary64 x ≡ 9218868437227405312 → ⊥) → (to_bits binary64 x ≡ 18442240474082181120 → ⊥) → T (finite x)
unfolding is_nan
not_infinite nan h p q = absurd h
not_infinite (inf true) h p q = absurd (q (inf_bits true))
not_infinite (inf false) h p q = absurd (p (inf_bits false))
not_infinite (fin s m e) h p q = tt

rank_plain : (r : Real) → T (is_binary64 r) → (bits r ≡ 9218868437227405312 → ⊥) × (bits r ≡ 18442240474082181120 → ⊥)
unfolding bits rank
rank_plain (binary true m e) p = let k = rank_below m e (binary64→full true m e p) (binary64→low true m e p) in (λ h. omega (arith, k, h), λ h. omega (arith, k, h))
rank_plain (binary false m e) p = let k = rank_below m e (binary64→full false m e p) (binary64→low false m e p) in (λ h. omega (arith, k, h), λ h. omega (arith, k, h))

over_at : (x : Float) → ((r : Real) → T (is_binary64 r) → x ≡ f64_of r → ⊥) → Settles x (Err OverRange)
unfolding settled computed_of
over_at x h = record { sound = tt; is = at }
  where
    at : (o : Option Real) → Gives x o → Err OverRange ≡ computed_of (settled o)
    at (some r) (gives p e) = absurd (h r p e)
    at none (gives_none e) = refl

pub over_plus : (x : Float) → to_bits binary64 x ≡ 9218868437227405312 → Settles x (Err OverRange)
over_plus x h = over_at x (λ r p e. (rank_plain r p).0 (sym (bits_of_float r p) ∙ ap (to_bits binary64) (sym e) ∙ h))

pub over_minus : (x : Float) → to_bits binary64 x ≡ 18442240474082181120 → Settles x (Err OverRange)
over_minus x h = over_at x (λ r p e. (rank_plain r p).1 (sym (bits_of_float r p) ∙ ap (to_bits binary64) (sym e) ∙ h))

settled_as : {x : Float} {s : Coded} → T (finite x) → Holds x s → Settles x (Ok s)
unfolding settled computed_of
settled_as {x} {s} t b = record { sound = b.sound; is = at }
  where
    at : (o : Option Real) → Gives x o → Ok s ≡ computed_of (settled o)
    at (some r) (gives p e) = ap Ok (b.is r p e)
    at none (gives_none e) = absurd (subst (λ y. T (finite y)) e t)

pub settled_finite : (x : Float) {s : Coded} → T (not (is_nan x)) → (to_bits binary64 x ≡ 9218868437227405312 → ⊥) → (to_bits binary64 x ≡ 18442240474082181120 → ⊥) → Holds x s → Settles x (Ok s)
settled_finite x h p q b = settled_as (not_infinite x h p q) b

-- ---- calculate

module _ {a b : Coded} {x y : Float} (A : FloatOf a x) (B : FloatOf b y) where
  pub plus_number : T (not (is_nan (Ieee.add binary64 x y)))
  plus_number = add_number x y A.sound B.sound

  pub minus_number : T (not (is_nan (Ieee.sub binary64 x y)))
  minus_number = sub_number x y A.sound B.sound

  pub times_number : T (not (is_nan (Ieee.mul binary64 x y)))
  times_number = mul_number x y A.sound B.sound

  pub over_number : Ieee.eq y nought ≡ false → T (not (is_nan (Ieee.div binary64 x y)))
  over_number z = div_number x y A.sound B.sound z

  abbrev Of : Operation → Float → Type 0
  Of op z = (u v : Number) → T (kept u) → T (kept v) → a ≡ coded_of u → b ≡ coded_of v → (o : Option Real) × Gives z o × (calculated op u v ≡ settled o)

  by : (op : Operation) {z : Float} {r : Result Coded NoNumber} → Of op z → Settles z r → Calculates op a b r
  by op {z} {r} g s = record { sound = s.sound; is = at }
    where
      at : (u v : Number) → T (kept u) → T (kept v) → a ≡ coded_of u → b ≡ coded_of v → r ≡ computed_of (calculated op u v)
      at u v k l m n = let d = g u v k l m n in s.is d.0 d.1 ∙ ap computed_of (sym d.2)

  -- the operator on the f64s of the two numbers
  on : (f : Float → Float → Float) (u v : Number) → T (kept u) → T (kept v) → a ≡ coded_of u → b ≡ coded_of v → f (f64_of (widen u)) (f64_of (widen v)) ≡ f x y
  on f u v k l m n = ap (λ w. f w (f64_of (widen v))) (sym (A.is u k m)) ∙ ap (f x) (sym (B.is v l n))

  pub does_plus : (op : ℕ) {r : Result Coded NoNumber} → op ≡ 0 → Settles (Ieee.add binary64 x y) r → Calculates (operation_of op) a b r
  unfolding operation_of calculated operate
  does_plus op {r} e s = subst (λ k. Calculates (operation_of k) a b r) (sym e) (by plus (λ u v k l m n. (add (widen u) (widen v), subst (λ w. Gives w (add (widen u) (widen v))) (on (Ieee.add binary64) u v k l m n) (add_is (widen u) (widen v) (widen_binary64 u k) (widen_binary64 v l)), refl)) s)

  pub does_minus : (op : ℕ) {r : Result Coded NoNumber} → op ≡ 1 → Settles (Ieee.sub binary64 x y) r → Calculates (operation_of op) a b r
  unfolding operation_of calculated operate
  does_minus op {r} e s = subst (λ k. Calculates (operation_of k) a b r) (sym e) (by minus (λ u v k l m n. (subtract (widen u) (widen v), subst (λ w. Gives w (subtract (widen u) (widen v))) (on (Ieee.sub binary64) u v k l m n) (subtract_is (widen u) (widen v) (widen_binary64 u k) (widen_binary64 v l)), refl)) s)

  pub does_times : (op : ℕ) {r : Result Coded NoNumber} → op ≡ 2 → Settles (Ieee.mul binary64 x y) r → Calculates (operation_of op) a b r
  unfolding operation_of calculated operate
  does_times op {r} e s = subst (λ k. Calculates (operation_of k) a b r) (sym e) (by times (λ u v k l m n. (multiply (widen u) (widen v), subst (λ w. Gives w (multiply (widen u) (widen v))) (on (Ieee.mul binary64) u v k l m n) (multiply_is (widen u) (widen v) (widen_binary64 u k) (widen_binary64 v l)), refl)) s)

  is_over : (op : ℕ) → (op ≡ 0 → ⊥) → (op ≡ 1 → ⊥) → (op ≡ 2 → ⊥) → operation_of op ≡ over
  unfolding operation_of
  is_over zero p q r = absurd (p refl)
  is_over (suc zero) p q r = absurd (q refl)
  is_over (suc (suc zero)) p q r = absurd (r refl)
  is_over (suc (suc (suc n))) p q r = refl

  zero_test : (v : Number) → T (kept v) → b ≡ coded_of v → Ieee.eq y nought ≡ is_zero (widen v)
  zero_test v l n = ap (λ w. Ieee.eq w nought) (B.is v l n) ∙ zero_is (widen v) (widen_binary64 v l)

  pub does_over : (op : ℕ) {r : Result Coded NoNumber} → (op ≡ 0 → ⊥) → (op ≡ 1 → ⊥) → (op ≡ 2 → ⊥) → Ieee.eq y nought ≡ false → Settles (Ieee.div binary64 x y) r → Calculates (operation_of op) a b r
  unfolding calculated operate
  does_over op {r} p q w z s =
      subst (λ k. Calculates k a b r) (sym (is_over op p q w))
      (by over
      (λ u v k l m n.
      let t : is_zero (widen v) ≡ false = sym (zero_test v l n) ∙ z in (
        divide (widen u) (widen v),
        subst (λ w. Gives w (divide (widen u) (widen v))) (on (Ieee.div binary64) u v k l m n) (divide_is (widen u) (widen v) (widen_binary64 u k) (widen_binary64 v l) (subst (λ j. T (not j)) (sym t) tt)),
        ap (λ j. if j then no_result else settled (divide (widen u) (widen v))) t,
      ))
      s)

  pub does_undefined : (op : ℕ) → (op ≡ 0 → ⊥) → (op ≡ 1 → ⊥) → (op ≡ 2 → ⊥) → Ieee.eq y nought ≡ true → Calculates (operation_of op) a b (Err Undefined)
  unfolding calculated operate computed_of
  does_undefined op p q w z =
      subst (λ k. Calculates k a b (Err Undefined)) (sym (is_over op p q w))
      (record { sound = tt; is = λ u v k l m n. ap (λ j. computed_of (if j then no_result else settled (divide (widen u) (widen v)))) (sym z ∙ zero_test v l n) })
