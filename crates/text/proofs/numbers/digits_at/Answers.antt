-- `digits_at` meets its contract. The digits from i on end where those from `at` on end, and after the number so far they stand for
-- the same number, both cut at the bound. Assumes nothing.
use mathlib.Core.Path.{◌≡◌, ◌∙◌}
use native.Mathlib.Omega.{arith}
use lib.ListN.{length}
use Rattle.text.proofs.NumberLaws.{no_digit, a_digit, end_none, end_here, end_next, value_none, value_here, value_next}
use Rattle.text.proofs.numbers.digits_at.Goals as goal

pub returns-then-byte_kind-ne-DIGIT : goal.returns-then-byte_kind-ne-DIGIT
returns-then-byte_kind-ne-DIGIT c =
    let none = no_digit _ c.byte_kind.ensures c.if-byte_kind-ne-DIGIT.true in
    record {
      ends = record { is = end_here _ _ c.loop-i.invariant.ends c.loop-i-test.true none; within = omega arith };
      value = value_here _ _ _ _ c.loop-i.invariant.value c.loop-i.invariant.small c.loop-i-test.true none;
    }

pub loop-i-preserved : goal.loop-i-preserved
loop-i-preserved c =
    let one = a_digit _ c.byte_kind.ensures c.if-byte_kind-ne-DIGIT.false in
    record {
      ends = end_next _ _ c.loop-i.invariant.ends c.loop-i-test.true one;
      small = omega arith;
      value = value_next _ _ _ _ c.loop-i.invariant.value c.loop-i-test.true one c.digit.ensures c.min-n.ensures;
    }

pub returns : goal.returns
returns c =
    let all : length c.args.s.now ≡ c.loop-i.i = omega arith in
    record {
      ends = record { is = all ∙ end_none _ _ c.loop-i.invariant.ends c.loop-i-test.false; within = omega arith };
      value = value_none _ _ _ _ c.loop-i.invariant.value c.loop-i.invariant.small c.loop-i-test.false;
    }
