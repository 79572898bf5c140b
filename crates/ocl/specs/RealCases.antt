-- Document 02, F-8: Reals in cases, each of which a checker with a likely mistake gets wrong. The numbers themselves (rounding,
-- infinite results, bits) have theirs in reals/specs/Cases.antt.
use Rattle.std.specs.Prelude.{◌≡◌, true, false, [], ◌∷◌, ℕ, pos, negsuc}
use Rattle.std.proofs.Math.Option.{some}
use Prim.Native.Nat.{Ordering}
use Rattle.reals.specs.Reals.{Number, int}
use Rattle.reals.specs.Cases.{real₀, half, one_and_half, largest}
use Rattle.ocl.specs.Types.{set, exactly, void, around, Any, Boolean, Integer, Real, Class, subtype, join}
use Rattle.ocl.specs.Values.{bool, num, obj, coll, nil, cons, size, order}
use Rattle.ocl.specs.Model.{belongs}
use Rattle.ocl.specs.Forms.{Arith, plus, minus, times, div, modulo, of_object, truth, number, self, cast_to, Binary, equal, less, arith, divide, over, includes, Expr, node, leaf, unary, binary, is_undef, conditional, attribute, assemble, no_operand, operand}
use Rattle.ocl.specs.Marks.{integers, reals, Mark, of_numbers}
use Rattle.ocl.specs.Typing.{typed, refused}
use Rattle.ocl.specs.Operations.{Outcome, value, undefined, stuck, stop}
use Rattle.ocl.specs.Evaluation.{evaluate_rule}
use Rattle.ocl.specs.Worked.{parents, undef₀, int₀}
use Rattle.ocl.specs.Mistakes.{model, rule_typing, outcome_in}

-- `real` with 1.5; x o y at node 2
unfoldable pub one_and_half₀ : ℕ → Expr
one_and_half₀ n = node n (leaf (number one_and_half))

unfoldable pub two : Binary → Number → Number → Expr
two o x y = node 2 (binary o (node 0 (leaf (number x))) (node 1 (leaf (number y))))

-- 2147483647 o (2 over 2): the right side is 1, and of type Real
unfoldable pub beside : Arith → Expr
beside o = node 4 (binary (arith o) (int₀ 0 (pos 2147483647)) (node 3 (binary over (int₀ 1 (pos 2)) (int₀ 2 (pos 2)))))

-- if false then self else 1.5, which is of type Any
unfoldable pub any_half : Expr
any_half = node 3 (conditional (node 0 (leaf (truth false))) (node 1 (leaf self)) (one_and_half₀ 2))

-- a rule for object 0, with every node marked m
unfoldable pub marked : Mark → Expr → Outcome
marked m e = evaluate_rule model (λ p. m) e 0

-- left o `undef`, at node 2
unfoldable pub before_undef : Binary → Expr → Expr
before_undef o e = node 2 (binary o e (undef₀ 1))

-- "Int below Real and Real below Any"; "An Integer belongs to Real, a Real to Real and Any"
pub record RealTypes : Type 0 where
  pub int_below : subtype parents Integer Real ≡ true
  pub real_not_below : subtype parents Real Integer ≡ false
  pub real_below_any : subtype parents Real Any ≡ true
  pub bool_not_below : subtype parents Boolean Real ≡ false
  pub sets_below : subtype parents (around (exactly set) Integer) (around (exactly set) Real) ≡ true
  pub int_real : join parents Integer Real ≡ some Real
  pub real_void : join parents Real void ≡ some Real
  pub real_bool : join parents Real Boolean ≡ some Any
  pub class_real : join parents (Class 1) Real ≡ some Any
  pub int_in_real : belongs model Real (num (int (pos 2))) ≡ true
  pub real_in_real : belongs model Real (num half) ≡ true
  pub real_in_any : belongs model Any (num half) ≡ true
  pub real_in_int : belongs model Integer (num half) ≡ false
  pub real_in_class : belongs model (Class 0) (num half) ≡ false
  pub real_in_set : belongs model (around (exactly set) Real) (num half) ≡ false
  pub true_in_real : belongs model Real (bool true) ≡ false

-- "a node whose operands are both typed below Int goes as before (typing marks it)"; "Such a node has type Real (`less` Bool), as has `over`"
pub record RealTyping : Type 0 where
  pub literal : rule_typing (one_and_half₀ 0) ≡ record { answer = typed Real; marks = [] }
  pub both_int : rule_typing (two (arith plus) (int (pos 1)) (int (pos 2))) ≡ record { answer = typed Integer; marks = (2, of_numbers integers) ∷ [] }
  pub both_void : rule_typing (node 2 (binary (arith times) (undef₀ 0) (undef₀ 1))) ≡ record { answer = typed Integer; marks = (2, of_numbers integers) ∷ [] }
  pub int_then_real : rule_typing (two (arith plus) (int (pos 1)) half) ≡ record { answer = typed Real; marks = (2, of_numbers reals) ∷ [] }
  pub real_then_int : rule_typing (two (arith minus) half (int (pos 1))) ≡ record { answer = typed Real; marks = (2, of_numbers reals) ∷ [] }
  pub both_real : rule_typing (two (arith times) half half) ≡ record { answer = typed Real; marks = (2, of_numbers reals) ∷ [] }
  pub void_then_real : rule_typing (node 2 (binary (arith times) (undef₀ 0) (one_and_half₀ 1))) ≡ record { answer = typed Real; marks = (2, of_numbers reals) ∷ [] }
  pub less_ints : rule_typing (two less (int (pos 1)) (int (pos 2))) ≡ record { answer = typed Boolean; marks = (2, of_numbers integers) ∷ [] }
  pub less_reals_lem : rule_typing (two less half (int (pos 1))) ≡ record { answer = typed Boolean; marks = (2, of_numbers reals) ∷ [] }
  -- `over` of Integers, and of Voids, is Real too, and needs no mark; `div` and `mod` are as they were
  pub over_ints : rule_typing (two over (int (pos 1)) (int (pos 2))) ≡ record { answer = typed Real; marks = [] }
  pub over_reals : rule_typing (two over half (int (pos 2))) ≡ record { answer = typed Real; marks = [] }
  pub over_voids : rule_typing (node 2 (binary over (undef₀ 0) (undef₀ 1))) ≡ record { answer = typed Real; marks = [] }
  pub div_ints : rule_typing (two (divide div) (int (pos 1)) (int (pos 2))) ≡ record { answer = typed Integer; marks = [] }
  pub eq_both : rule_typing (two equal half (int (pos 1))) ≡ record { answer = typed Boolean; marks = [] }
  -- 11: no number on either side; Any; a Real in `div` or `mod`; a Real in `as`, or as an object
  pub bool_plus_real : (rule_typing (node 2 (binary (arith plus) (node 0 (leaf (truth true))) (one_and_half₀ 1)))).answer ≡ refused 11 2
  pub real_less_bool : (rule_typing (node 2 (binary less (one_and_half₀ 0) (node 1 (leaf (truth true)))))).answer ≡ refused 11 2
  pub bool_over : (rule_typing (node 2 (binary over (node 0 (leaf (truth true))) (one_and_half₀ 1)))).answer ≡ refused 11 2
  pub over_self : (rule_typing (node 2 (binary over (one_and_half₀ 0) (node 1 (leaf self))))).answer ≡ refused 11 2
  pub any_plus : (rule_typing (node 5 (binary (arith plus) any_half (int₀ 4 (pos 1))))).answer ≡ refused 11 5
  pub real_div : (rule_typing (two (divide div) half (int (pos 1)))).answer ≡ refused 11 2
  pub mod_real : (rule_typing (two (divide modulo) (int (pos 1)) half)).answer ≡ refused 11 2
  pub real_as : (rule_typing (node 1 (unary (cast_to 0) (one_and_half₀ 0)))).answer ≡ refused 11 1
  pub real_attr : (rule_typing (node 1 (attribute of_object 5 (one_and_half₀ 0)))).answer ≡ refused 11 1

pub record RealOutcomes : Type 0 where
  -- each operation, with one kind and with both
  pub add : outcome_in (two (arith plus) half (int (pos 1))) ≡ value (num one_and_half) 3
  pub subtract : outcome_in (two (arith minus) (int (pos 2)) half) ≡ value (num one_and_half) 3
  pub multiply : outcome_in (two (arith times) half (int (pos 3))) ≡ value (num one_and_half) 3
  pub divided : outcome_in (two over (int (pos 3)) (int (pos 2))) ≡ value (num one_and_half) 3
  pub compare_less : outcome_in (two less half (int (pos 1))) ≡ value (bool true) 3
  pub compare_not : outcome_in (two less (int (pos 2)) one_and_half) ≡ value (bool false) 3
  -- a whole result in range is an Integer, minus zero 0
  pub whole_again : outcome_in (two (arith plus) one_and_half half) ≡ value (num (int (pos 2))) 3
  pub whole_quotient : outcome_in (two over (int (pos 6)) (int (negsuc 2))) ≡ value (num (int (negsuc 1))) 3
  pub zero_again : outcome_in (two over (real₀ 0x8000_0000_0000_0001) (int (pos 2))) ≡ value (num (int (pos 0))) 3
  -- the mark decides and not the values: two Integers, one of type Real, leave the range without a stop
  pub past_range : outcome_in (beside plus) ≡ value (num (real₀ 0x41e0_0000_0000_0000)) 5
  pub by_integers : marked (of_numbers integers) (two (arith plus) (int (pos 2147483647)) (int (pos 1))) ≡ stop 19 3
  pub by_reals : marked (of_numbers reals) (two (arith plus) (int (pos 2147483647)) (int (pos 1))) ≡ value (num (real₀ 0x41e0_0000_0000_0000)) 3
  -- an infinite result is 19, and no form turns it into a value; a zero divisor is undefined
  pub infinite : outcome_in (node 3 (is_undef (two (arith plus) largest largest))) ≡ stop 19 4
  pub zero_divisor : outcome_in (node 3 (is_undef (two over half (int (pos 0))))) ≡ value (bool true) 4
  pub zero_by_zero : outcome_in (two over (int (pos 0)) (int (pos 0))) ≡ undefined 3
  -- a Real is no Integer: stuck by Integers and in `div`, on either side, and on the left before the right one runs
  pub real_left : marked (of_numbers integers) (before_undef (arith plus) (one_and_half₀ 0)) ≡ stuck
  pub real_right : marked (of_numbers integers) (two (arith times) (int (pos 1)) half) ≡ stuck
  pub less_left : marked (of_numbers integers) (before_undef less (one_and_half₀ 0)) ≡ stuck
  pub less_right : marked (of_numbers integers) (two less (int (pos 1)) half) ≡ stuck
  pub div_left : outcome_in (before_undef (divide div) (one_and_half₀ 0)) ≡ stuck
  pub div_right : outcome_in (two (divide modulo) (int (pos 1)) half) ≡ stuck
  -- a truth value is no number
  pub bool_left : marked (of_numbers reals) (before_undef (arith plus) (node 0 (leaf (truth true)))) ≡ stuck
  pub bool_less : marked (of_numbers reals) (before_undef less (node 0 (leaf (truth true)))) ≡ stuck
  pub bool_over : outcome_in (before_undef over (node 0 (leaf (truth true)))) ≡ stuck
  -- a strict form ends undefined at its undefined operand
  pub plus_undef : marked (of_numbers reals) (before_undef (arith plus) (one_and_half₀ 0)) ≡ undefined 3
  pub over_undef : outcome_in (before_undef over (one_and_half₀ 0)) ≡ undefined 3
  -- a Real under `as` is undefined
  pub as_real : outcome_in (node 4 (unary (cast_to 0) any_half)) ≡ undefined 4

-- "Integers and Reals are ordered together by number": between the truth values and the objects; a Real's size is 1
pub record RealOrder : Type 0 where
  pub after_true : order (bool true) (num (real₀ 0xbff8_0000_0000_0000)) ≡ Ordering.lt
  pub before_objects : order (num one_and_half) (obj 0) ≡ Ordering.lt
  pub above_one : order (num (int (pos 1))) (num one_and_half) ≡ Ordering.lt
  pub below_two : order (num (int (pos 2))) (num one_and_half) ≡ Ordering.gt
  pub below-zero : order (num (real₀ 0x8000_0000_0000_0001)) (num (int (pos 0))) ≡ Ordering.lt
  pub one_size : size (coll set (cons (num half) (cons (num one_and_half) nil))) ≡ 3
  -- so a Set of 2, 1.5, 1 and 3 over 2 has three members, and includes 1.5
  pub in_order_lem : outcome_in (node 6 (assemble set (operand (int₀ 0 (pos 2)) (operand (one_and_half₀ 1) (operand (int₀ 2 (pos 1)) (operand
      (node 5 (binary over (int₀ 3 (pos 3)) (int₀ 4 (pos 2)))) no_operand)))))) ≡ value (coll set (cons (num (int (pos 1))) (cons (num one_and_half) (cons (num (int (pos 2))) nil)))) 7
  pub included : outcome_in (node 5 (binary includes (node 1 (assemble set (operand (one_and_half₀ 0) no_operand))) (node 4 (binary over (int₀ 2 (pos 3)) (int₀ 3 (pos 2)))))) ≡ value (bool true) 6
  -- one number is one value, and two are two
  pub one_value : outcome_in (node 5 (binary equal (node 2 (binary over (int₀ 0 (pos 2)) (int₀ 1 (pos 2)))) (int₀ 3 (pos 1)))) ≡ value (bool true) 5
  pub two_values : outcome_in (two equal (int (pos 1)) one_and_half) ≡ value (bool false) 3
