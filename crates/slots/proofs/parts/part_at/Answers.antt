-- `slots::parts::part_at` meets its contract. Assumes nothing.
use mathlib.Core.Path.{refl, sym}
use Rattle.ocl.specs.Types.{set, sequence, bag, kind_code}
use Rattle.sheet.specs.Spelling.{letter_byte, kind_byte}
use Rattle.slots.proofs.PartLaws.{part_true, part_false, part_object, part_real, part_letter, part_whole}
use native.Mathlib.Omega.{arith}
use Rattle.slots.proofs.parts.part_at.Goals as goal

pub returns-in-116 : goal.returns-in-116
returns-in-116 c = part_true _ _ (omega arith) (omega arith)

pub returns-in-102 : goal.returns-in-102
returns-in-102 c = part_false _ _ (omega arith) (omega arith)

pub returns-in-64 : goal.returns-in-64
returns-in-64 c = part_object _ _ (omega arith) (omega arith) c.object_at.ensures

pub returns-in-114 : goal.returns-in-114
returns-in-114 c = part_real _ _ (omega arith) (omega arith) c.real_at.ensures

pub returns-in-83 : goal.returns-in-83
unfolding kind_byte letter_byte kind_code
returns-in-83 c = part_letter _ _ (omega arith) set (omega arith) (omega arith) c.opens_at.ensures

pub returns-in-81 : goal.returns-in-81
unfolding kind_byte letter_byte kind_code
returns-in-81 c = part_letter _ _ (omega arith) sequence (omega arith) (omega arith) c.opens_at-in-81.ensures

pub returns-in-66 : goal.returns-in-66
unfolding kind_byte letter_byte kind_code
returns-in-66 c = part_letter _ _ (omega arith) bag (omega arith) (omega arith) c.opens_at-in-66.ensures

pub returns-in_default : goal.returns-in_default
returns-in_default c = part_whole _ _ (omega arith) _ refl (λ e. c.in_default.in_default-own.rest.0.0.0.0.0.0.1 (sym e)) (λ e. c.in_default.in_default-own.rest.0.0.0.0.0.1 (sym e)) (λ e. c.in_default.in_default-own.rest.0.0.0.0.1 (sym e)) (λ e. c.in_default.in_default-own.rest.0.0.0.1 (sym e)) (λ e. c.in_default.in_default-own.rest.0.0.1 (sym e)) (λ e. c.in_default.in_default-own.rest.0.1 (sym e)) (λ e. c.in_default.in_default-own.rest.1 (sym e)) c.whole_at.ensures
