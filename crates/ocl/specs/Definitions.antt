-- Document 02, F-13: named definitions in cases, each of which a checker with a likely mistake gets wrong.
use Rattle.std.specs.Prelude.{◌≡◌, true, false, [], ◌∷◌, ◌++◌, ℕ, zero, suc, pos}
use Rattle.std.proofs.Math.Option.{Option, none, some}
use Rattle.reals.specs.Reals.{int}
use Rattle.ocl.specs.Types.{set, Any, Boolean, Integer, Class}
use Rattle.ocl.specs.Values.{Value, bool, num, obj}
use Rattle.ocl.specs.Model.{Row, Model, schema_of}
use Rattle.ocl.specs.Forms.{plus, for_all, of_object, truth, var, all, negation, equal, arith, Expr, node, leaf, unary, binary, is_undef, conditional, let_in, attribute, call, quantified, assemble, no_operand, operand, Definition, reach, levels}
use Rattle.ocl.specs.Marks.{of_row, mark_in}
use Rattle.ocl.specs.Typing.{Answer, typed, refused, type_rule, type_definition}
use Rattle.ocl.specs.Operations.{Outcome, value, undefined, stuck, stop}
use Rattle.ocl.specs.Evaluation.{evaluate_rule}
use Rattle.ocl.specs.Worked.{parents, undef₀, int₀}
use Rattle.ocl.specs.Collect.{self₀}

-- class 0 declares 5, an Integer, and 6, an object of class 0; class 1, below it, declares 5 again
unfoldable pub thread_rows : ℕ → Row
thread_rows zero = record { owner = 0; name = 5; type = Integer }
thread_rows (suc zero) = record { owner = 1; name = 5; type = Boolean }
thread_rows (suc (suc i)) = record { owner = 0; name = 6; type = Class 0 }

-- object 0 is of class 1, object 1 of class 0
unfoldable pub thread_classes : ℕ → Option ℕ
thread_classes zero = some 1
thread_classes (suc zero) = some 0
thread_classes (suc (suc o)) = none

-- object 0 has 9, true and object 1; object 1 has 4 in row 0, and no other value
unfoldable pub thread_values : ℕ → ℕ → Option Value
thread_values zero zero = some (num (int (pos 9)))
thread_values zero (suc zero) = some (bool true)
thread_values zero (suc (suc i)) = some (obj 1)
thread_values (suc o) zero = some (num (int (pos 4)))
thread_values (suc o) (suc i) = none

unfoldable pub threads : Model
threads = record { parent = parents; row_count = 3; row = thread_rows; object_count = 2; class_of = thread_classes; value_of = thread_values }

-- definitions, whose nodes come before the rule's: `self` of class c; `attr self 5` of class c; a body of class 0 and of type Any
unfoldable pub itself : ℕ → Definition
itself c = record { context = c; type = Class 0; body = self₀ 0 }

unfoldable pub five : ℕ → Definition
five c = record { context = c; type = Integer; body = node 1 (attribute of_object 5 (self₀ 0)) }

unfoldable pub anything : Expr → Definition
anything b = record { context = 0; type = Any; body = b }

-- `call e n` of a definition, at node p; `attr e 6` at node p
unfoldable pub call₀ : ℕ → Definition → Expr → Expr
call₀ p d e = node p (call d.context d.type e d.body)

unfoldable pub next₆ : ℕ → Expr → Expr
next₆ p e = node p (attribute of_object 6 e)

-- typing a rule of class c, and a definition; evaluating a rule of class c for object 0, with the definition's marks and its own
unfoldable pub call_answer : ℕ → Expr → Answer
call_answer c e = (type_rule (schema_of threads) c e).answer

unfoldable pub definition_answer : Definition → Answer
definition_answer d = (type_definition (schema_of threads) d).answer

unfoldable pub call_outcome : ℕ → Definition → Expr → Outcome
call_outcome c d e = evaluate_rule threads (mark_in ((type_definition (schema_of threads) d).marks ++ (type_rule (schema_of threads) c e).marks)) e 0

pub record Definitions : Type 0 where
  -- a definition has its own type where its body is below it, else 11 at the root; the root's own refusal comes first
  pub own_type : definition_answer (anything (int₀ 0 (pos 1))) ≡ typed Any
  pub body_not_below : definition_answer (record { context = 0; type = Boolean; body = node 2 (binary (arith plus) (int₀ 0 (pos 1)) (int₀ 1 (pos 1))) }) ≡ refused 11 2
  pub root_first : definition_answer (record { context = 0; type = Boolean; body = node 0 (leaf (var 1)) }) ≡ refused 9 0
  -- `self` has the definition's class, whose row is marked
  pub own_row_lem : type_definition (schema_of threads) (five 0) ≡ record { answer = typed Integer; marks = (1, of_row 0) ∷ [] }
  pub row_below : definition_answer (five 1) ≡ refused 11 1
  -- a call takes the class or one below, and has the definition's type, not the body's
  pub of_class : call_answer 0 (call₀ 2 (five 0) (self₀ 1)) ≡ typed Integer
  pub of_class_below : call_answer 1 (call₀ 2 (five 0) (self₀ 1)) ≡ typed Integer
  pub type_declared : call_answer 0 (call₀ 2 (anything (int₀ 0 (pos 1))) (self₀ 1)) ≡ typed Any
  -- 11: a class above, Any, Void, a collection; the operand's refusal comes first
  pub class_above : call_answer 0 (call₀ 2 (itself 1) (self₀ 1)) ≡ refused 11 2
  pub of_any : call_answer 0 (call₀ 5 (itself 0) (node 4 (conditional (node 1 (leaf (truth true))) (self₀ 2) (int₀ 3 (pos 1))))) ≡ refused 11 5
  pub of_void : call_answer 0 (call₀ 2 (itself 0) (undef₀ 1)) ≡ refused 11 2
  pub of_collection : call_answer 0 (call₀ 3 (itself 0) (node 2 (assemble set (operand (self₀ 1) no_operand)))) ≡ refused 11 3
  pub operand_first : call_answer 0 (call₀ 2 (itself 0) (node 1 (leaf (var 1)))) ≡ refused 9 1
  -- the operand is `self` in the body, and the caller's is there again afterwards
  pub operand_is_self : call_outcome 0 (itself 0) (call₀ 3 (itself 0) (next₆ 2 (self₀ 1))) ≡ value (obj 1) 4
  pub self_again : call_outcome 0 (itself 0) (node 5 (binary equal (call₀ 3 (itself 0) (next₆ 2 (self₀ 1))) (self₀ 4))) ≡ value (bool false) 6
  -- the caller's variables are hidden, and there again afterwards: let 1 = 7 in let 2 = (call of: let 1 = true in 3) in var 1
  pub hidden : call_outcome 0 (itself 0) (node 4 (let_in 1 (int₀ 1 (pos 7)) (call₀ 3 (anything (node 0 (leaf (var 1)))) (self₀ 2)))) ≡ stuck
  pub variable_again : call_outcome 0 (itself 0) (node 8 (let_in 1 (int₀ 3 (pos 7)) (node 7 (let_in 2
      (call₀ 5 (anything (node 2 (let_in 1 (node 0 (leaf (truth true))) (int₀ 1 (pos 3))))) (self₀ 4)) (node 6 (leaf (var 1))))))) ≡ value (num (int (pos 7))) 9
  -- the body reads the row of its own typing, although the caller's class declares the name again
  pub row_of_body : call_outcome 1 (five 0) (call₀ 3 (five 0) (self₀ 2)) ≡ value (num (int (pos 9))) 4
  -- an undefined operand: undefined, and the body is unrun; an undefined body
  pub undefined_operand : call_outcome 0 (anything (undef₀ 0)) (call₀ 4 (itself 0) (next₆ 3 (next₆ 2 (self₀ 1)))) ≡ undefined 4
  pub undefined_body : call_outcome 0 (anything (undef₀ 0)) (node 3 (is_undef (call₀ 2 (anything (undef₀ 0)) (self₀ 1)))) ≡ value (bool true) 4
  -- an object of another class, or none: stuck
  pub other_object : call_outcome 0 (itself 0) (call₀ 3 (itself 1) (next₆ 2 (self₀ 1))) ≡ stuck
  pub no_object : call_outcome 0 (itself 0) (call₀ 2 (itself 0) (int₀ 1 (pos 1))) ≡ stuck
  -- a stop in the body is the call's
  pub stop_in_body : call_outcome 0 (itself 0) (node 5 (is_undef
      (call₀ 4 (anything (node 2 (binary (arith plus) (int₀ 0 (pos 2147483647)) (int₀ 1 (pos 1))))) (self₀ 3)))) ≡ stop 19 6
  -- reach adds the body's; under `forAll` it counts as often as the call
  pub call_reach : reach (call₀ 3 (five 0) (self₀ 2)) ≡ 4
  pub iterated_reach : reach (node 5 (quantified for_all 1 (node 2 (leaf (all 0))) (call₀ 4 (five 0) (node 3 (leaf (var 1)))))) ≡ 510
  -- the body lies below the call, as the operand does
  pub body_deeper : levels (call₀ 4 (anything (node 2 (unary negation (node 1 (unary negation (node 0 (leaf (truth true)))))))) (self₀ 3)) ≡ 4
  pub operand_deeper : levels (call₀ 4 (itself 0) (next₆ 3 (next₆ 2 (self₀ 1)))) ≡ 4
