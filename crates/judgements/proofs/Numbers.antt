-- Numbers: a literal's type, and an operation by Integers or by Reals. Assumes nothing.
use mathlib.Core.Path.{◌≡◌, refl, ap, ◌∙◌}
use mathlib.Core.Bool.{Bool, true, false, ◌&&◌}
use mathlib.Core.List.{List}
use Prim.Native.Nat.{ℕ}
use native.Mathlib.Omega.{arith}
use lib.Ieee.{Float}
use lib.ListN.{set}
use Rattle.reals.specs.Reals.{Number, int, real}
use Rattle.floats.specs.Meanings.{coded_of}
use Rattle.floats.specs.declared.Number.{Number as Coded}
use Rattle.floats.specs.declared.Number.TheVariants as coded
use Rattle.ocl.specs.Types.{Ty, simple, Integer, Real, subtype}
use Rattle.ocl.specs.Marks.{Scale, integers, reals}
use Rattle.ocl.specs.Model.{Schema, number_type}
use Rattle.ocl.specs.Typing.{typed, scaled, on_numbers}
use Rattle.types.specs.declared.FlatType.{FlatType}
use Rattle.types.specs.Flat.{parents_in, ty_of}
use Rattle.nodes.specs.Marks.{mark_word}
use Rattle.judgements.specs.Replies.{write_marks, Tells}
use Rattle.judgements.proofs.Composition.{done}
use Rattle.std.specs.Prelude.{Ok, Err}
use Rattle.memory.specs.Refusals.{at}
use Rattle.memory.specs.declared.refusals.Refusal.TheVariants.{WrongPiece}

-- ---- the type of a number

pub number_int : (x : Number) {c : Coded} {k : ℕ} {r : Ty} → c ≡ coded_of x → c ≡ coded.Integer k → r ≡ Integer → r ≡ simple (number_type x)
unfolding coded_of number_type
number_int (int z) h k e = e
number_int (real y) h k e = absurd (let z : ◌≡◌ {A = ℕ} 0 1 = cc in omega arith)

pub number_real : (x : Number) {c : Coded} {f : Float} {r : Ty} → c ≡ coded_of x → c ≡ coded.Real f → r ≡ Real → r ≡ simple (number_type x)
unfolding coded_of number_type
number_real (int z) h k e = absurd (let z : ◌≡◌ {A = ℕ} 0 1 = cc in omega arith)
number_real (real y) h k e = e

-- ---- by Integers, or by Reals

module _ (m : Schema) (ps : List ℕ) (e : m.parent ≡ parents_in ps) (n : ℕ) (type : Scale → Ty) (t u : Ty) {a : Bool} {v : Ty} (int : v ≡ Integer) (whole : a ≡ (subtype (parents_in ps) t v && subtype (parents_in ps) u v)) where
  under_int : a ≡ (subtype (parents_in ps) t Integer && subtype (parents_in ps) u Integer)
  under_int = rw int at whole

  pub by_integers : {B : List ℕ} {i : FlatType} {z : Ty} → a ≡ true → ty_of i ≡ z → z ≡ type integers → Tells (on_numbers m n type t u) B (set B n 0) (Ok i)
  unfolding on_numbers scaled write_marks mark_word
  by_integers k q g = rw (e, ← under_int, k) (record { is = ap typed (q ∙ g); wrote = refl })

  module _ {b : Bool} {w : Ty} (no : a ≡ false) (real : w ≡ Real) (wide : b ≡ (subtype (parents_in ps) t w && subtype (parents_in ps) u w)) where
    under_real : b ≡ (subtype (parents_in ps) t Real && subtype (parents_in ps) u Real)
    under_real = rw real at wide

    pub by_reals : {B : List ℕ} {x : FlatType} {z : Ty} → b ≡ true → ty_of x ≡ z → z ≡ type reals → Tells (on_numbers m n type t u) B (set B n 128) (Ok x)
    unfolding on_numbers scaled write_marks mark_word
    by_reals k q g = rw (e, ← under_int, no, ← under_real, k) (record { is = ap typed (q ∙ g); wrote = refl })

    pub no_numbers : {B : List ℕ} → b ≡ false → Tells (on_numbers m n type t u) B B (Err (at WrongPiece n))
    unfolding on_numbers
    no_numbers k = rw (e, ← under_int, no, ← under_real, k) (done refl)
