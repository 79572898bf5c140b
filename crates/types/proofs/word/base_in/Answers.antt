-- `base_in` meets its contract.
use native.Mathlib.Omega.{arith}
use mathlib.Core.Path.{sym, ap}
use Rattle.types.specs.Word.{base_in}
use Rattle.types.proofs.Words.{base_class_lem}
use Rattle.types.proofs.word.base_in.Goals as goal

pub returns-in-0 : goal.returns-in-0
unfolding base_in
returns-in-0 c = ap base_in (sym c.in-0.is)

pub returns-in-1 : goal.returns-in-1
unfolding base_in
returns-in-1 c = ap base_in (sym c.in-1.is)

pub returns-in-2 : goal.returns-in-2
unfolding base_in
returns-in-2 c = ap base_in (sym c.in-2.is)

pub returns-in-3 : goal.returns-in-3
unfolding base_in
returns-in-3 c = ap base_in (sym c.in-3.is)

pub returns-in-4 : goal.returns-in-4
unfolding base_in
returns-in-4 c = ap base_in (sym c.in-4.is)

pub returns-in_default : goal.returns-in_default
returns-in_default c = base_class_lem _ (omega arith)
