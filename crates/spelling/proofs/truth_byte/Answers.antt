-- `truth_byte` meets its contract. Assumes nothing.
use mathlib.Core.Path.{sym, ap}
use Rattle.sheet.specs.Text.{bytes}
use Rattle.sheet.specs.Spelling.{spell_bool}
use Rattle.spelling.proofs.truth_byte.Goals as goal

pub returns-then-b : goal.returns-then-b
unfolding spell_bool bytes
returns-then-b c = sym (ap spell_bool c.if-b.true)

pub returns-else-b : goal.returns-else-b
unfolding spell_bool bytes
returns-else-b c = sym (ap spell_bool c.if-b.false)
