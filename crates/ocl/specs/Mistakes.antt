-- Document 01, Worked and marked: the five mistakes to shut out, each as a case that a checker with it gets wrong. The weight of a verdict:
-- a loop that runs only its first body; and mistakes that no law of this crate would show.
use Rattle.std.specs.Prelude.{◌≡◌, Bool, true, false, [], ◌∷◌, ℕ, zero, suc, pos, negsuc}
use Rattle.std.proofs.Math.Option.{Option, none, some}
use Rattle.reals.specs.Reals.{int}
use Rattle.ocl.specs.Types.{Boolean, Integer, sequence}
use Rattle.ocl.specs.Values.{Value, bool, num, obj}
use Rattle.ocl.specs.Model.{Row, Model, schema_of}
use Rattle.ocl.specs.Forms.{plus, Quantifier, for_all, exists, of_object, truth, self, var, less, arith, size_of, cast_to, Expr, node, leaf, unary, binary, conditional, let_in, attribute, quantified, iterate, assemble, no_operand, operand}
use Rattle.ocl.specs.Marks.{of_row, mark_in}
use Rattle.ocl.specs.Typing.{typed, refused, Typed, type_rule}
use Rattle.ocl.specs.Environment.{start}
use Rattle.ocl.specs.Operations.{Outcome, value, undefined, stop}
use Rattle.ocl.specs.Evaluation.{evaluation, evaluate_rule}
use Rattle.ocl.specs.Worked.{parents, undef₀, int₀}

-- rows 0 and 1 have one name; class 1, below class 0, declares it again with another type
unfoldable pub redeclared : ℕ → Row
redeclared zero = record { owner = 0; name = 5; type = Integer }
redeclared (suc i) = record { owner = 1; name = 5; type = Boolean }

-- object 0 is of class 1
unfoldable pub only_object : ℕ → Option ℕ
only_object zero = some 1
only_object (suc o) = none

-- its values: 9 in row 0, true in row 1
unfoldable pub nine_and_true : ℕ → ℕ → Option Value
nine_and_true o zero = some (num (int (pos 9)))
nine_and_true o (suc i) = some (bool true)

unfoldable pub model : Model
model = record { parent = parents; row_count = 2; row = redeclared; object_count = 1; class_of = only_object; value_of = nine_and_true }

-- a rule of class 0, typed, and evaluated for the object
unfoldable pub rule_typing : Expr → Typed
rule_typing e = type_rule (schema_of model) 0 e

unfoldable pub outcome_in : Expr → Outcome
outcome_in e = evaluate_rule model (mark_in (rule_typing e).marks) e 0

-- `attr self 5`
unfoldable pub attribute₅ : Expr
attribute₅ = node 1 (attribute of_object 5 (node 0 (leaf self)))

-- let 1 = 2 in if (let 1 = true in var 1) then var 1 else 0
unfoldable pub hidden : Expr
hidden = node 7 (let_in 1 (int₀ 0 (pos 2)) (node 6 (conditional
    (node 3 (let_in 1 (node 1 (leaf (truth true))) (node 2 (leaf (var 1))))) (node 4 (leaf (var 1))) (int₀ 5 (pos 0)))))

-- if true then 1 else 1 plus 1
unfoldable pub one_branch : Expr
one_branch = node 5 (conditional (node 0 (leaf (truth true))) (int₀ 1 (pos 1)) (node 4 (binary (arith plus) (int₀ 2 (pos 1)) (int₀ 3 (pos 1)))))

-- Q(1,3)
unfoldable pub one_three : Expr
one_three = node 2 (assemble sequence (operand (int₀ 0 (pos 1)) (operand (int₀ 1 (pos 3)) no_operand)))

-- is each member of Q(1,3), or one of them, below n
unfoldable pub each_below : Quantifier → ℕ → Expr
each_below q n = node 6 (quantified q 1 one_three (node 5 (binary less (node 3 (leaf (var 1))) (int₀ 4 (pos n)))))

-- a quantifier over Q(1,3) whose body is undefined for 1, and b for 3
unfoldable pub blank_then : Quantifier → Bool → Expr
blank_then q b = node 9 (quantified q 1 one_three (node 8 (conditional
    (node 5 (binary less (node 3 (leaf (var 1))) (int₀ 4 (pos 2)))) (undef₀ 6) (node 7 (leaf (truth b))))))

-- the sum of Q(1,3)
unfoldable pub sum_of : Expr
sum_of = node 7 (iterate 1 2 Integer one_three (int₀ 3 (pos 0)) (node 6 (binary (arith plus) (node 4 (leaf (var 1))) (node 5 (leaf (var 2))))))

-- let 1 = 2 in let 2 = 3 in var 1
unfoldable pub outer_seen : Expr
outer_seen = node 4 (let_in 1 (int₀ 0 (pos 2)) (node 3 (let_in 2 (int₀ 1 (pos 3)) (node 2 (leaf (var 1))))))

-- `true`, where n steps have begun
unfoldable pub true_after : ℕ → Outcome
true_after n = evaluation model (λ p. of_row 0) (node 0 (leaf (truth true))) (start (obj 0)) n

pub record Mistakes : Type 0 where
  -- the attribute is found by the static class, not by the object's own
  pub static_type : rule_typing attribute₅ ≡ record { answer = typed Integer; marks = (1, of_row 0) ∷ [] }
  pub static_row : outcome_in attribute₅ ≡ value (num (int (pos 9))) 2
  -- `let` does not pass undefined on
  pub let_strict : outcome_in (node 2 (let_in 1 (undef₀ 0) (int₀ 1 (pos 3)))) ≡ undefined 2
  -- a hidden binding is there again after the body
  pub hidden_type : (rule_typing hidden).answer ≡ typed Integer
  pub hidden_value : outcome_in hidden ≡ value (num (int (pos 2))) 7
  -- a branch that is not run is not counted
  pub branch_steps : outcome_in one_branch ≡ value (num (int (pos 1))) 3
  -- Void is no class and no collection
  pub void_no_class : (rule_typing (node 1 (attribute of_object 5 (undef₀ 0)))).answer ≡ refused 11 1
  pub void_no_cast : (rule_typing (node 1 (unary (cast_to 0) (undef₀ 0)))).answer ≡ refused 11 1
  pub void_no_collection : (rule_typing (node 1 (unary size_of (undef₀ 0)))).answer ≡ refused 11 1
  -- a loop goes on after its first body
  pub all_bodies : outcome_in (each_below for_all 2) ≡ value (bool false) 10
  pub some_body : outcome_in (each_below exists 1) ≡ value (bool false) 10
  pub each_body : outcome_in sum_of ≡ value (num (int (pos 4))) 11
  -- an undefined body does not hide one that decides, and shows where none does
  pub blank_then_false : outcome_in (blank_then for_all false) ≡ value (bool false) 14
  pub blank_then_true : outcome_in (blank_then exists true) ≡ value (bool true) 14
  pub blank_for_all : outcome_in (blank_then for_all true) ≡ undefined 14
  pub blank_exists : outcome_in (blank_then exists false) ≡ undefined 14
  -- a binding leaves those of other variables
  pub outer_type : (rule_typing outer_seen).answer ≡ typed Integer
  pub outer_value : outcome_in outer_seen ≡ value (num (int (pos 2))) 5
  -- negative Integers ascend
  pub negative_less : outcome_in (node 2 (binary less (int₀ 0 (negsuc 1)) (int₀ 1 (negsuc 0)))) ≡ value (bool true) 3
  -- the 1,000,000th step is begun, the next one is not
  pub last_step : true_after 999999 ≡ value (bool true) 1000000
  pub step_stop : true_after 1000000 ≡ stop 16 1000000
