-- Document 01, Worked and marked: P1 to P12, as one table; P8 as document 02, F-5, changes it.
use Rattle.std.specs.Prelude.{◌≡◌, true, false, ℕ, zero, suc, ℤ, pos, negsuc}
use Rattle.std.proofs.Math.Option.{none, some}
use Rattle.reals.specs.Reals.{int}
use Rattle.ocl.specs.Types.{set, sequence, collection, exactly, void, around, Any, Integer, Class, Parents, join}
use Rattle.ocl.specs.Values.{bool, num, coll, nil, cons}
use Rattle.ocl.specs.Model.{Model}
use Rattle.ocl.specs.Forms.{plus, div, modulo, and, for_all, truth, undef, number, Binary, arith, divide, Expr, node, leaf, binary, connective, is_undef, let_in, quantified, assemble, no_operand, operand}
use Rattle.ocl.specs.Marks.{of_row}
use Rattle.ocl.specs.Operations.{Outcome, value, undefined, stop}
use Rattle.ocl.specs.Evaluation.{evaluation}

-- class 1 below class 0, and nothing else
unfoldable pub parents : Parents
parents zero = none
parents (suc zero) = some 0
parents (suc (suc c)) = none

-- the cases read nothing else of it
unfoldable pub bare_model : Model
bare_model = record {
  parent = parents;
  row_count = 0;
  row = λ i. record { owner = 0; name = 0; type = void };
  object_count = 0;
  class_of = λ o. none;
  value_of = λ o i. none;
}

-- with no mark, no variable and no step so far
unfoldable pub outcome : Expr → Outcome
outcome e = evaluation bare_model (λ p. of_row 0) e (λ i. none) 0

unfoldable pub false₀ : ℕ → Expr
false₀ n = node n (leaf (truth false))

unfoldable pub undef₀ : ℕ → Expr
undef₀ n = node n (leaf undef)

unfoldable pub int₀ : ℕ → ℤ → Expr
int₀ n z = node n (leaf (number (int z)))

-- x o y
unfoldable pub integers₂ : Binary → ℤ → ℤ → Expr
integers₂ o x y = node 2 (binary o (int₀ 0 x) (int₀ 1 y))

pub record Worked : Type 0 where
  -- false and undef: f
  pub p1 : outcome (node 2 (connective and (false₀ 0) (undef₀ 1))) ≡ value (bool false) 2
  -- undef and false: f
  pub p2 : outcome (node 2 (connective and (undef₀ 0) (false₀ 1))) ≡ value (bool false) 3
  -- undef and true: u
  pub p3 : outcome (node 2 (connective and (undef₀ 0) (node 1 (leaf (truth true))))) ≡ undefined 3
  -- let of undef, in 3: u
  pub p4 : outcome (node 2 (let_in 1 (undef₀ 0) (int₀ 1 (pos 3)))) ≡ undefined 2
  -- isUndef of 1 div 0: t
  pub p5 : outcome (node 3 (is_undef (integers₂ (divide div) (pos 1) (pos 0)))) ≡ value (bool true) 4
  -- -7 div 2: -3
  pub p6 : outcome (integers₂ (divide div) (negsuc 6) (pos 2)) ≡ value (num (int (negsuc 2))) 3
  -- -7 mod 2: -1
  pub p7 : outcome (integers₂ (divide modulo) (negsuc 6) (pos 2)) ≡ value (num (int (negsuc 0))) 3
  -- 2147483647 plus 1: over the range, 19
  pub p8 : outcome (integers₂ (arith plus) (pos 2147483647) (pos 1)) ≡ stop 19 3
  -- the Set of 2, 1, 2: S(1,2)
  pub p9 : outcome (node 3 (assemble set (operand (int₀ 0 (pos 2)) (operand (int₀ 1 (pos 1)) (operand (int₀ 2 (pos 2)) no_operand)))))
      ≡ value (coll set (cons (num (int (pos 1))) (cons (num (int (pos 2))) nil))) 4
  -- #1 and Int: Any
  pub p10 : join bare_model.parent (Class 1) Integer ≡ some Any
  -- S(Int) and Q(Int): C(Int)
  pub p11 : join bare_model.parent (around (exactly set) Integer) (around (exactly sequence) Integer) ≡ some (around collection Integer)
  -- forAll over S(): t
  pub p12 : outcome (node 2 (quantified for_all 1 (node 0 (assemble set no_operand)) (false₀ 1))) ≡ value (bool true) 2
