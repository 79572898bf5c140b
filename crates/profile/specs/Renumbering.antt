-- Document 02, F-12: "renumber the objects by any permutation", over the language. FreeNumbering.antt states it from the bytes.
use Rattle.std.specs.Prelude.{◌≡◌, Bool, true, false, [], ℕ, ◌<◌, T}
use Rattle.laws.specs.Choice.{map_some}
use Rattle.laws.specs.Lists.{Each}
use Rattle.reals.specs.Reals.{kept}
use Rattle.ocl.specs.Types.{Ty}
use Rattle.ocl.specs.Values.{Value, bool, num, obj, coll, Values, nil, cons, add_all}
use Rattle.ocl.specs.Model.{Model, schema_of}
use Rattle.ocl.specs.Forms.{Expr, calls}
use Rattle.ocl.specs.Marks.{Mark}
use Rattle.ocl.specs.Typing.{typed, type_rule}
use Rattle.ocl.specs.Operations.{Outcome, value, undefined, stuck, stop}
use Rattle.ocl.specs.Evaluation.{evaluate_rule}
use Rattle.ocl.specs.Laws.{literals, Agree}
use Rattle.ocl.specs.Soundness.{AcceptedModel, TypedDefinition}
use Rattle.ocl.specs.Profile.{outside_rule}

-- a permutation of the objects 0 to n - 1, and the way back; other numbers go to other numbers
pub record Permutation (n : ℕ) : Type 0 where
  pub to : ℕ → ℕ
  pub back : ℕ → ℕ
  pub to_back : (o : ℕ) → to (back o) ≡ o
  pub back_to : (o : ℕ) → back (to o) ≡ o
  pub to_inside : (o : ℕ) → o < n → to o < n
  pub back_inside : (o : ℕ) → o < n → back o < n

-- a permutation of these objects alone, whatever the two do with other numbers
pub record PermutesBelow (n : ℕ) (to back : ℕ → ℕ) : Type 0 where
  pub to_back : (o : ℕ) → o < n → to (back o) ≡ o
  pub back_to : (o : ℕ) → o < n → back (to o) ≡ o
  pub to_inside : (o : ℕ) → o < n → to o < n
  pub back_inside : (o : ℕ) → o < n → back o < n

-- so "any permutation" is one of the above
pub record Extends (n : ℕ) (to : ℕ → ℕ) : Type 0 where
  pub whole : Permutation n
  pub same : (o : ℕ) → o < n → whole.to o ≡ to o

abbrev pub AnyPermutation : Type 0
AnyPermutation = (n : ℕ) (to back : ℕ → ℕ) → PermutesBelow n to back → Extends n to

-- a value with its objects numbered anew, "members of Sets and Bags in their new order"; a Sequence keeps its order
unfoldable mutual
  pub renumbered : (ℕ → ℕ) → Value → Value
  renumbered f (bool b) = bool b
  renumbered f (num x) = num x
  renumbered f (obj o) = obj (f o)
  renumbered f (coll k vs) = coll k (add_all k (renumbered_all f vs) nil)

  pub renumbered_all : (ℕ → ℕ) → Values → Values
  renumbered_all f nil = nil
  renumbered_all f (cons v vs) = cons (renumbered f v) (renumbered_all f vs)

-- the model with its objects numbered anew: an object has the class and the values of the one that it was
abbrev pub renumbered_model : (s : Model) → Permutation s.object_count → Model
renumbered_model s p = record {
  parent = s.parent;
  row_count = s.row_count;
  row = s.row;
  object_count = s.object_count;
  class_of = λ o. s.class_of (p.back o);
  value_of = λ o i. map_some (renumbered p.to) (s.value_of (p.back o) i);
}

-- ---- the law

-- no stop, and not stuck, in which no typed rule ends
unfoldable pub goes_through : Outcome → Bool
goes_through (value v n) = true
goes_through (undefined n) = true
goes_through stuck = false
goes_through (stop c n) = false

-- a value and its image, or undefined twice; the steps may differ, since members are taken in another order
pub data SameUpTo (f : ℕ → ℕ) : Outcome → Outcome → Type 0 where
  both_values : {v : Value} {n m : ℕ} → SameUpTo f (value v n) (value (renumbered f v) m)
  both_undefined : {n m : ℕ} → SameUpTo f (undefined n) (undefined m)

-- a typed rule as demand 3 speaks of it, with no node outside the profile: "the values for an object and its image agree"
abbrev pub Renumbering : Type 0
Renumbering =
    (s : Model) → AcceptedModel s → (p : Permutation s.object_count) (mark : ℕ → Mark) (e : Expr)
    → Each (λ x. T (kept x)) (literals e) → Each (TypedDefinition s mark) (calls e) → (c : ℕ) (t : Ty)
    → (type_rule (schema_of s) c e).answer ≡ typed t → Agree mark (type_rule (schema_of s) c e).marks → outside_rule (schema_of s) c e ≡ []
    → (o : ℕ) → T (goes_through (evaluate_rule s mark e o)) → T (goes_through (evaluate_rule (renumbered_model s p) mark e (p.to o)))
    → SameUpTo p.to (evaluate_rule s mark e o) (evaluate_rule (renumbered_model s p) mark e (p.to o))
