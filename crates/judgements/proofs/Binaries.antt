-- The forms with two strict operands, by the form's code. Assumes nothing.
use mathlib.Core.Path.{◌≡◌}
use mathlib.Core.List.{List}
use Prim.Native.Nat.{ℕ, ◌≤◌}
use native.Mathlib.Omega.{arith}
use borrow.Author.Tests.{ne_eqb, lt-ltb, le-ltb}
use Rattle.ocl.specs.Types.{Ty, Boolean, Integer, Real, join}
use Rattle.ocl.specs.Model.{Schema}
use Rattle.ocl.specs.Typing.{typed, common, both_below, scale_type, on_numbers, includes_type, including_type, union_type, binary_type}
use Rattle.nodes.specs.Nodes.{binary_of}
use Rattle.judgements.specs.Replies.{meaning, Tells}
use Rattle.judgements.proofs.Composition.{done}
use Rattle.std.specs.Prelude.{Result}
use Rattle.memory.specs.declared.refusals.Refused.{Refused}
use Rattle.types.specs.declared.FlatType.{FlatType}

module _ (m : Schema) (n k : ℕ) (t u : Ty) {B : List ℕ} {r : Result FlatType Refused} where
  pub equal_binary : k ≡ 13 → meaning r ≡ common n (join m.parent t u) (λ w. typed Boolean) → Tells (binary_type m n (binary_of k) t u) B B r
  unfolding binary_type binary_of
  equal_binary q h = rw q (done h)

  pub less_binary : {A : List ℕ} → k ≡ 14 → Tells (on_numbers m n (λ x. Boolean) t u) B A r → Tells (binary_type m n (binary_of k) t u) B A r
  unfolding binary_type binary_of
  less_binary q d = rw q d

  pub arith_binary : {A : List ℕ} → 15 ≤ k → k ≤ 17 → Tells (on_numbers m n scale_type t u) B A r → Tells (binary_type m n (binary_of k) t u) B A r
  unfolding binary_type binary_of
  arith_binary l h d = rw (ne_eqb k 13 (λ p. omega arith), ne_eqb k 14 (λ p. omega arith), lt-ltb k 18 (omega arith)) d

  pub divide_binary : {x y : Ty} → 18 ≤ k → k ≤ 19 → x ≡ Integer → y ≡ Integer → meaning r ≡ both_below m n x y t u → Tells (binary_type m n (binary_of k) t u) B B r
  unfolding binary_type binary_of
  divide_binary l h v w d = rw (ne_eqb k 13 (λ p. omega arith), ne_eqb k 14 (λ p. omega arith), le-ltb k 18 l, lt-ltb k 20 (omega arith)) (done (rw (v, w) at d))

  pub over_binary : {x y : Ty} → k ≡ 37 → x ≡ Real → y ≡ Real → meaning r ≡ both_below m n x y t u → Tells (binary_type m n (binary_of k) t u) B B r
  unfolding binary_type binary_of
  over_binary q v w d = rw q (done (rw (v, w) at d))

  pub includes_binary : k ≡ 20 → meaning r ≡ includes_type m n t u → Tells (binary_type m n (binary_of k) t u) B B r
  unfolding binary_type binary_of
  includes_binary q h = rw q (done h)

  pub including_binary : k ≡ 21 → meaning r ≡ including_type m n t u → Tells (binary_type m n (binary_of k) t u) B B r
  unfolding binary_type binary_of
  including_binary q h = rw q (done h)

  pub union_binary : 22 ≤ k → (k ≡ 37 → ⊥) → meaning r ≡ union_type m n t u → Tells (binary_type m n (binary_of k) t u) B B r
  unfolding binary_type binary_of
  union_binary l o h =
      rw (ne_eqb k 13 (λ p. omega arith), ne_eqb k 14 (λ p. omega arith), le-ltb k 18 (omega arith), le-ltb k 20 (omega arith), ne_eqb k 20 (λ p. omega arith), ne_eqb k 21 (λ p. omega arith), ne_eqb k 37 o) (done h)
