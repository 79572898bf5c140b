-- What the contracts of the strict forms say: whatever values lie at these places, the outcome is the definition's.
use Rattle.std.specs.Prelude.{◌≡◌, Bool, true, false, List, ℕ, zero, suc, ◌+◌, ℤ, Result as Fallible}
use Rattle.ocl.specs.Types.{Kind, set, sequence, bag}
use Rattle.ocl.specs.Values.{Value}
use Rattle.ocl.specs.Model.{Model}
use Rattle.ocl.specs.Marks.{integers, reals, Mark, scale_marked}
use Rattle.ocl.specs.Forms.{Unary, Arith, Division}
use Rattle.ocl.specs.Operations.{Outcome, on_int, on_num, resulting, arithmetic, division, on_scale, left_fits}
use Rattle.reals.specs.Reals.{Number, Operation, Result, calculated}
use Rattle.floats.specs.Meanings.{computed_of}
use Rattle.floats.specs.declared.Number.{Number as Coded}
use Rattle.floats.specs.declared.NoNumber.{NoNumber}
use Rattle.values.specs.Cells.{head, Fits}
use Rattle.values.specs.Integers.{num_of}
use Rattle.nodes.specs.Nodes.{unary_of, binary_of}
use Rattle.nodes.specs.Marks.{Marked, scale_in}
use Rattle.outcomes.specs.declared.Ended.{Ended}
use Rattle.outcomes.specs.Answers.{Lies, Ran, SmallAnswer}

-- any model
pub record AnyModel (m : Model) : Type 0 where

-- over the value at sp
pub record OfOne (Ok : Model → Type 0) (op : Model → Value → ℕ → Outcome) (sp len s : ℕ) (B A : List ℕ) (r : Ended) : Type 0 where
  pub small : SmallAnswer r
  pub ran : (m : Model) → Ok m → (v : Value) → Lies v sp len B → Ran (op m v s) sp B A r

-- any mark
pub record AnyMark (k : Mark) : Type 0 where

-- over the value at sp and the value after it
pub record OfTwo (Ok : Mark → Type 0) (op : Mark → Value → Value → ℕ → Outcome) (sp la lb s : ℕ) (B A : List ℕ) (r : Ended) : Type 0 where
  pub small : SmallAnswer r
  pub ran : (k : Mark) → Ok k → (v w : Value) → Lies v sp la B → Lies w (sp + la) lb B → Ran (op k v w s) sp B A r

-- ---- numbers

-- two Integers, and two numbers, whatever the mark
unfoldable pub of_integers : (ℤ → ℤ → Result) → Mark → Value → Value → ℕ → Outcome
of_integers f k v w n = on_int v (λ x. on_int w (λ y. resulting (f x y) n))

unfoldable pub of_numbers : Operation → Mark → Value → Value → ℕ → Outcome
of_numbers o k v w n = on_num v (λ x. on_num w (λ y. resulting (calculated o x y) n))

-- what arithmetic on Integers came to, as an answer
pub record Calculated (c : Fallible ℕ NoNumber) (sp s : ℕ) (B A : List ℕ) (r : Ended) : Type 0 where
  pub small : SmallAnswer r
  pub arith : (o : Arith) (x y : ℤ) → c ≡ num_of (arithmetic o x y) → Ran (resulting (arithmetic o x y) s) sp B A r
  pub divide : (o : Division) (x y : ℤ) → c ≡ num_of (division o x y) → Ran (resulting (division o x y) s) sp B A r

-- and what a binary64 operation came to
pub record Settled (c : Fallible Coded NoNumber) (sp s : ℕ) (B A : List ℕ) (r : Ended) : Type 0 where
  pub small : SmallAnswer r
  pub is : (o : Operation) (x y : Number) → c ≡ computed_of (calculated o x y) → Ran (resulting (calculated o x y) s) sp B A r

-- do numbers go by Reals at a node with this mark
pub record GoesByReals (mark : ℕ) (r : Bool) : Type 0 where
  pub yes : r ≡ true → scale_in mark ≡ reals
  pub no : r ≡ false → scale_in mark ≡ integers

-- is the value with this first cell a number as the mark asks for
pub record FitsScale (mark cell : ℕ) (r : Bool) : Type 0 where
  pub is : (k : Mark) → Marked mark k → (v : Value) → Fits v → cell ≡ head v → r ≡ on_scale (scale_marked k) v

-- does the form take the value on its left
pub record FitsLeft (form mark cell : ℕ) (r : Bool) : Type 0 where
  pub is : (k : Mark) → Marked mark k → (v : Value) → Fits v → cell ≡ head v → r ≡ left_fits k (binary_of form) v

-- the kind with the number
unfoldable pub kind_for : ℕ → Kind
kind_for zero = set
kind_for (suc zero) = sequence
kind_for (suc (suc n)) = bag

-- the form with one operand that has this code, and this class
unfoldable pub unary_for : ℕ → ℕ → Unary
unary_for k c = unary_of k (λ _. c)
