-- `named` meets its contract.
use native.Mathlib.Omega.{arith}
use Rattle.text.proofs.LiteralLaws.{whole_narrow}
use Rattle.importer.proofs.LeafLaws.{real_read, digit_read, variable_read, below_digits, above_digits}
use Rattle.importer.proofs.leaves.named.Goals as goal
use Rattle.importer.proofs.leaves.named.Goals.{in_default-via-then-this-lt48, in_default-via-else-this-lt48+else-this-lt58}

pub returns-in-114 : goal.returns-in-114
returns-in-114 c = real_read c.requires.0 c.requires.1 c.in-114.is (c.number_form.ensures _ c.real_literal.ensures)

pub integer_literal-requires : goal.integer_literal-requires
integer_literal-requires c = whole_narrow _ c.integer.ensures

pub returns-in-48-to-57 : goal.returns-in-48-to-57
returns-in-48-to-57 c = digit_read c.requires.0 c.requires.1 (omega arith) (omega arith) (c.number_form-in-48-to-57.ensures _ (c.integer_literal.ensures _ c.integer.ensures))

pub returns-in_default : goal.returns-in_default
returns-in_default c =
    elim c.in_default.branch [
      | in_default-via-then-this-lt48 w ↦ variable_read c.requires.0 c.requires.1 (λ e. omega (arith, e)) (below_digits _ (omega arith)) c.variable.ensures
      | in_default-via-else-this-lt48+else-this-lt58 w ↦ variable_read c.requires.0 c.requires.1 (λ e. omega (arith, e)) (above_digits _ (omega arith) (omega arith)) c.variable.ensures
    ]
