-- Document 02, F-8: small sheets with Reals, and what the program prints for each, or a call answers.
use Rattle.std.specs.Prelude.{◌≡◌, List, [], ◌∷◌, ℕ, zero, suc, length, replicate}
use Prim.Native.String.{String}
use Rattle.reals.specs.Cases.{one_and_half}
use Rattle.ocl.specs.Types.{sequence}
use Rattle.ocl.specs.Values.{num, coll, Values, nil, cons}
use Rattle.sheet.specs.Text.{Bytes, bytes}
use Rattle.sheet.specs.Spelling.{spell_value}
use Rattle.sheet.specs.Calls.{answer, refusal, evaluate_call}
use Rattle.sheet.specs.Report.{report_call}
use Rattle.sheet.specs.Examples.{prints, words, reads_into}

-- a rule with these nodes, for the one object of its class; and one object's value of a row of that type
unfoldable pub rule : List String → Bytes
rule ns = prints ("C 0 -" ∷ "O 0 0" ∷ "R 0 0" ∷ ns)

unfoldable pub stored : String → String → Bytes
stored row v = prints ("C 0 -" ∷ row ∷ "O 0 0" ∷ v ∷ "R 0 0" ∷ "N 0 self" ∷ "N 1 attr 0 5" ∷ [])

-- 1.5, so often
unfoldable pub halves : ℕ → Values
halves zero = nil
halves (suc n) = cons (num one_and_half) (halves n)

pub record RealExamples : Type 0 where
  -- 0.1 plus 0.2; 1 over 3; 2 minus 1.5; 1.5 times 3; 1 less 1.5; the largest number below zero less 0
  pub sum : rule ("N 0 real r3fb999999999999a" ∷ "N 1 real r3fc999999999999a" ∷ "N 2 plus 0 1" ∷ []) ≡ bytes "0 0 r3fd3333333333334 3\n"
  pub third : rule ("N 0 int 1" ∷ "N 1 int 3" ∷ "N 2 over 0 1" ∷ []) ≡ bytes "0 0 r3fd5555555555555 3\n"
  pub difference : rule ("N 0 int 2" ∷ "N 1 real r3ff8000000000000" ∷ "N 2 minus 0 1" ∷ []) ≡ bytes "0 0 r3fe0000000000000 3\n"
  pub product : rule ("N 0 real r3ff8000000000000" ∷ "N 1 int 3" ∷ "N 2 times 0 1" ∷ []) ≡ bytes "0 0 r4012000000000000 3\n"
  pub less : rule ("N 0 int 1" ∷ "N 1 real r3ff8000000000000" ∷ "N 2 less 0 1" ∷ []) ≡ bytes "0 0 t 3\n"
  pub below-zero : rule ("N 0 real r8000000000000001" ∷ "N 1 int 0" ∷ "N 2 less 0 1" ∷ []) ≡ bytes "0 0 t 3\n"
  -- 3 over 2, times 2, is the Integer 3; 1.5 plus 0.5 is the value 2; the smallest number below zero, halved, is 0
  pub whole_again : rule ("N 0 int 3" ∷ "N 1 int 2" ∷ "N 2 over 0 1" ∷ "N 3 int 2" ∷ "N 4 times 2 3" ∷ []) ≡ bytes "0 0 3 5\n"
  pub same_value : rule ("N 0 real r3ff8000000000000" ∷ "N 1 real r3fe0000000000000" ∷ "N 2 plus 0 1" ∷ "N 3 int 2" ∷ "N 4 eq 2 3" ∷ []) ≡ bytes "0 0 t 5\n"
  pub minus_zero : rule ("N 0 real r8000000000000001" ∷ "N 1 int 2" ∷ "N 2 over 0 1" ∷ []) ≡ bytes "0 0 0 3\n"
  -- by Reals where one operand is typed Real, whatever the values: a row, a common type, a definition and an accumulator of type Real
  pub past_range : prints ("C 0 -" ∷ "A 0 0 5 Real" ∷ "O 0 0" ∷ "V 0 0 2147483647" ∷ "R 0 0" ∷ "N 0 self" ∷ "N 1 attr 0 5" ∷ "N 2 int 1" ∷ "N 3 plus 1 2" ∷ [])
      ≡ bytes "0 0 r41e0000000000000 4\n"
  pub common_type : rule ("N 0 true" ∷ "N 1 int 2147483647" ∷ "N 2 real r3ff8000000000000" ∷ "N 3 if 0 1 2" ∷ "N 4 int 1" ∷ "N 5 plus 3 4" ∷ [])
      ≡ bytes "0 0 r41e0000000000000 5\n"
  pub of_definition : prints ("C 0 -" ∷ "O 0 0" ∷ "D 0 0 Real" ∷ "N 0 int 1" ∷ "R 0 0" ∷ "N 0 int 2147483647" ∷ "N 1 self" ∷ "N 2 call 1 0" ∷ "N 3 plus 0 2" ∷ [])
      ≡ bytes "0 0 r41e0000000000000 5\n"
  pub accumulated : rule ("N 0 int 2" ∷ "N 1 real r3ff8000000000000" ∷ "N 2 coll Q 0 1" ∷ "N 3 int 0" ∷ "N 4 var 1" ∷ "N 5 var 2" ∷ "N 6 plus 4 5" ∷ "N 7 iter 2 1 2 Real 3 6" ∷ [])
      ≡ bytes "0 0 r400c000000000000 11\n"
  -- 19: an infinite result, which `isUndef` passes on, and which Integers alone have at their own range; a zero divisor is undefined
  pub infinite : rule ("N 0 real r7fefffffffffffff" ∷ "N 1 int 2" ∷ "N 2 times 0 1" ∷ "N 3 isUndef 2" ∷ []) ≡ bytes "0 0 !19 4\n"
  pub by_integers : rule ("N 0 int 2147483647" ∷ "N 1 int 1" ∷ "N 2 plus 0 1" ∷ []) ≡ bytes "0 0 !19 3\n"
  pub zero_divisor : rule ("N 0 int 1" ∷ "N 1 int 0" ∷ "N 2 over 0 1" ∷ []) ≡ bytes "0 0 u 3\n"
  pub zero_by_zero : rule ("N 0 int 0" ∷ "N 1 int 0" ∷ "N 2 over 0 1" ∷ "N 3 isUndef 2" ∷ []) ≡ bytes "0 0 t 4\n"
  -- reading writes `Real`, also for `over` of Integers, and `Int` where both are below Int
  pub types : reads_into 2560 ("C 0 -" ∷ "R 0 0" ∷ "N 0 real r3ff8000000000000" ∷ "N 1 coll S 0" ∷ "R 1 0" ∷ "N 0 int 1" ∷ "N 1 int 2" ∷ "N 2 over 0 1" ∷ "R 2 0" ∷ "N 0 undef" ∷ "N 1 int 2"
      ∷ "N 2 times 0 1" ∷ []) ≡ answer (bytes "S(Real)\nReal\nInt\n")
  -- 11: `div` of a Real; `over` of a truth value; `as` of a Real. A Real that is typed Any is no object
  pub div_real : rule ("N 0 real r3ff8000000000000" ∷ "N 1 int 2" ∷ "N 2 div 0 1" ∷ []) ≡ bytes "! 11 6\n"
  pub over_truth : rule ("N 0 int 1" ∷ "N 1 true" ∷ "N 2 over 0 1" ∷ []) ≡ bytes "! 11 6\n"
  pub cast_real : rule ("N 0 real r3ff8000000000000" ∷ "N 1 as 0 0" ∷ []) ≡ bytes "! 11 5\n"
  pub cast_any : rule ("N 0 real r3ff8000000000000" ∷ "N 1 self" ∷ "N 2 true" ∷ "N 3 if 2 0 1" ∷ "N 4 as 3 0" ∷ []) ≡ bytes "0 0 u 4\n"
  -- Integers and Reals in one order, by number; a Set has each once
  pub set : rule ("N 0 real r3ff8000000000000" ∷ "N 1 int 2" ∷ "N 2 int 1" ∷ "N 3 real r3ff8000000000000" ∷ "N 4 coll S 0 1 2 3" ∷ [])
      ≡ bytes "0 0 S(1,r3ff8000000000000,2) 5\n"
  pub bag : stored "A 0 0 5 B(Any)" "V 0 0 B(t,-1,rbfe0000000000000,r8000000000000001,0,r0000000000000001,@0)"
      ≡ bytes "0 0 B(t,-1,rbfe0000000000000,r8000000000000001,0,r0000000000000001,@0) 2\n"
  pub out_of_order : stored "A 0 0 5 S(Real)" "V 0 0 S(r3ff8000000000000,1)" ≡ bytes "! 5 4\n"
  pub twice : stored "A 0 0 5 S(Real)" "V 0 0 S(r3ff8000000000000,r3ff8000000000000)" ≡ bytes "! 5 4\n"
  -- a row of Reals takes both kinds, one of Any too; 7: a Real in a row of Integers, of truth values, of objects
  pub both_kinds : stored "A 0 0 5 S(Real)" "V 0 0 S(1,r3ff8000000000000)" ≡ bytes "0 0 S(1,r3ff8000000000000) 2\n"
  pub any : stored "A 0 0 5 Any" "V 0 0 r3ff8000000000000" ≡ bytes "0 0 r3ff8000000000000 2\n"
  pub in_integers : stored "A 0 0 5 Int" "V 0 0 r3ff8000000000000" ≡ bytes "! 7 4\n"
  pub in_truths : stored "A 0 0 5 Bool" "V 0 0 r3ff8000000000000" ≡ bytes "! 7 4\n"
  pub in_objects : stored "A 0 0 5 #0" "V 0 0 r3ff8000000000000" ≡ bytes "! 7 4\n"
  -- 3: the ends of the Integer range and both zeros; the whole numbers next to the range are Reals
  pub greatest : rule ("N 0 real r41dfffffffc00000" ∷ []) ≡ bytes "! 3 4\n"
  pub past_greatest : rule ("N 0 real r41e0000000000000" ∷ []) ≡ bytes "0 0 r41e0000000000000 1\n"
  pub least : stored "A 0 0 5 Real" "V 0 0 rc1e0000000000000" ≡ bytes "! 3 4\n"
  pub past_least : stored "A 0 0 5 Real" "V 0 0 rc1e0000000200000" ≡ bytes "0 0 rc1e0000000200000 2\n"
  pub zero_spelled : rule ("N 0 real r0000000000000000" ∷ []) ≡ bytes "! 3 4\n"
  pub minus_zero_spelled : stored "A 0 0 5 Real" "V 0 0 r8000000000000000" ≡ bytes "! 3 4\n"
  -- 3: a capital digit or letter; a digit too few, or too many; another letter; an Integer; no field, or two
  pub capital_digit : rule ("N 0 real r3FF8000000000000" ∷ []) ≡ bytes "! 3 4\n"
  pub capital_letter : rule ("N 0 real R3ff8000000000000" ∷ []) ≡ bytes "! 3 4\n"
  pub fifteen_digits : rule ("N 0 real r3ff800000000000" ∷ []) ≡ bytes "! 3 4\n"
  pub seventeen_digits : stored "A 0 0 5 S(Real)" "V 0 0 S(r3ff80000000000000)" ≡ bytes "! 3 4\n"
  pub other_letter : stored "A 0 0 5 Real" "V 0 0 r3fg8000000000000" ≡ bytes "! 3 4\n"
  pub integer_field : rule ("N 0 real 5" ∷ []) ≡ bytes "! 3 4\n"
  pub real_as_int : rule ("N 0 int r3ff8000000000000" ∷ []) ≡ bytes "! 3 4\n"
  pub no_field : rule ("N 0 real" ∷ []) ≡ bytes "! 3 4\n"
  pub two_fields : rule ("N 0 real r3ff8000000000000 0" ∷ []) ≡ bytes "! 3 4\n"
  -- 4: the infinities and a NaN, in a member too, before 5 and 7; with a fault of spelling besides, 3
  pub infinity : rule ("N 0 real r7ff0000000000000" ∷ []) ≡ bytes "! 4 4\n"
  pub minus_infinity : stored "A 0 0 5 Int" "V 0 0 rfff0000000000000" ≡ bytes "! 4 4\n"
  pub no_number : stored "A 0 0 5 S(Real)" "V 0 0 S(2,rfff8000000000001,1)" ≡ bytes "! 4 4\n"
  pub both_faults : stored "A 0 0 5 S(Real)" "V 0 0 S(r7ff0000000000000,r3ff0000000000000)" ≡ bytes "! 3 4\n"
  pub largest : stored "A 0 0 5 Real" "V 0 0 r7fefffffffffffff" ≡ bytes "0 0 r7fefffffffffffff 2\n"
  -- "The output's minimum becomes 2,560 bytes", of every call
  pub evaluate_short : evaluate_call [] 0 0 words words words (replicate 2559 0) ≡ refusal 1
  pub evaluate_enough : evaluate_call [] 0 0 words words words (replicate 2560 0) ≡ refusal 14
  pub report_short : report_call [] words words words (replicate 2559 0) ≡ refusal 1
  pub report_enough : report_call [] words words words (replicate 2560 0) ≡ answer []
  -- the longest value: `Q(..)` of 127 Reals
  pub longest : length (spell_value (coll sequence (halves 127))) ≡ 2288
