-- P1 to P12, by computation. Assumes nothing.
use mathlib.Core.Path.{refl}
use Rattle.reals.specs.Reals.{in_range, units, order_int}
use Rattle.ocl.specs.Types.{join, simple_join, first_above, simple_subtype, climbs, same_simple, simple_code, up, parent_or, height, letter_join, same_kind, kind_code, around_some}
use Rattle.ocl.specs.Values.{size, add, insert, put, order, head_order, then_order, sort, rank, members, count}
use Rattle.ocl.specs.Environment.{extend}
use Rattle.ocl.specs.Operations.{form, ranged, unless_zero, quotient, remainder, arithmetic, left_fits, binary_apply, division}
use Rattle.ocl.specs.Evaluation.{tick, leaf_run, binary_run, decides, connective_run, is_undef_run, let_run, ends_at, seek, quantified_run, no_operand_run, operand_run, assemble_run, evaluation}
use Rattle.ocl.specs.Worked.{parents, bare_model, outcome, false₀, undef₀, int₀, Worked, integers₂}
use Rattle.ocl.specs.Marks.{scale_marked}

pub worked : Worked
unfolding join simple_join first_above simple_subtype climbs same_simple simple_code up parent_or height letter_join same_kind kind_code around_some size add insert put order head_order then_order sort rank units order_int scale_marked members count extend tick form in_range ranged unless_zero quotient remainder arithmetic division leaf_run left_fits binary_apply binary_run decides connective_run is_undef_run let_run ends_at seek quantified_run no_operand_run operand_run assemble_run evaluation parents bare_model outcome false₀ undef₀ int₀ integers₂
worked = record { p1 = refl; p2 = refl; p3 = refl; p4 = refl; p5 = refl; p6 = refl; p7 = refl; p8 = refl; p9 = refl; p10 = refl; p11 = refl; p12 = refl }
