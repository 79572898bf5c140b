-- `parent` meets its contract: one law for each answer.
use native.Mathlib.Omega.{arith}
use borrow.Author.Rules.{rules}
use mathlib.Core.Path.{◌≡◌, ◌∙◌}
use Rattle.std.specs.Prelude.{None}
use Rattle.tables.proofs.LineFields.{num_cut}
use Rattle.declarations.proofs.ParentLaws.{no_parent, bad_parent, some_parent}
use Rattle.declarations.proofs.classes.parent.Goals as goal

pub returns-then-letter-eq45 : goal.returns-then-letter-eq45
returns-then-letter-eq45 c = search no_parent

pub overflow_add-result : goal.overflow_add-result
overflow_add-result c = omega (arith, num_cut _ c.in_ok-p.ensures)

pub returns-in_err-p : goal.returns-in_err-p
returns-in_err-p c = let e : c.from_residual.result ≡ None = search rules in e ∙ bad_parent c.args.f.now c.letter.ensures c.if-letter-eq45.false c.in_err-p.ensures

pub returns : goal.returns
returns c = some_parent c.args.f.now c.letter.ensures c.if-letter-eq45.false c.in_ok-p.ensures
