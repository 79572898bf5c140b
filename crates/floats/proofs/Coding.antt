-- Which number the code's number stands for. Assumes nothing.
use mathlib.Core.Path.{◌≡◌, refl, sym, ap, ◌∙◌}
use mathlib.Core.Bool.{Bool, true, false, true≢false}
use Prim.Native.Nat.{ℕ}
use lib.IntN.{ℤ}
use lib.Ieee.{Float}
use Rattle.laws.specs.Integers.{bias}
use Rattle.reals.specs.Reals.{Real, Number, int, real, is_real}
use Rattle.reals.specs.Floats.{f64_of}
use Rattle.floats.specs.Meanings.{coded_of}
use Rattle.floats.specs.declared.Number.{Number as Coded}
use Rattle.floats.specs.declared.Number.TheVariants as coded

abbrev biased_in : Coded → ℕ
biased_in (coded.Integer n) = n
biased_in (coded.Real x) = 0

abbrev float_in : Float → Coded → Float
float_in y (coded.Integer n) = y
float_in y (coded.Real x) = x

abbrev holds_real : Coded → Bool
holds_real (coded.Integer n) = false
holds_real (coded.Real x) = true

pub same_integer : {n : ℕ} (z : ℤ) → coded.Integer n ≡ coded_of (int z) → n ≡ bias z
unfolding coded_of
same_integer z e = ap biased_in e

pub same_float : {x : Float} (r : Real) → coded.Real x ≡ coded_of (real r) → x ≡ f64_of r
unfolding coded_of
same_float {x} r e = ap (float_in x) e

kind_of : (x : Number) → holds_real (coded_of x) ≡ is_real x
unfolding coded_of is_real
kind_of (int z) = refl
kind_of (real r) = refl

pub real_by : {s : Coded} (x : Number) {y : Float} → s ≡ coded_of x → s ≡ coded.Real y → is_real x ≡ true
real_by x e q = sym (kind_of x) ∙ ap holds_real (sym e ∙ q)

pub int_by : {s : Coded} (x : Number) {n : ℕ} → s ≡ coded_of x → s ≡ coded.Integer n → is_real x ≡ false
int_by x e q = sym (kind_of x) ∙ ap holds_real (sym e ∙ q)

pub no_integer_lem : {A : Type 0} {n : ℕ} (r : Real) → coded.Integer n ≡ coded_of (real r) → A
unfolding coded_of
no_integer_lem r e = absurd (true≢false (sym (ap holds_real e)))

pub no_float : {A : Type 0} {x : Float} (z : ℤ) → coded.Real x ≡ coded_of (int z) → A
unfolding coded_of
no_float z e = absurd (true≢false (ap holds_real e))
