-- `lettered` meets its contract.
use mathlib.Core.Path.{◌≡◌, ap, ◌∙◌}
use borrow.Author.Rules.{rules}
use Rattle.std.specs.Prelude.{Err}
use Rattle.types.specs.Reading.{type_field}
use Rattle.types.proofs.TypeFields.{lettered_none, lettered_misread, lettered_is}
use Rattle.types.proofs.reading.lettered.Goals as goal

pub returns-then-k-eq0 : goal.returns-then-k-eq0
returns-then-k-eq0 c = search lettered_none

pub returns-in_err-g : goal.returns-in_err-g
returns-in_err-g c = let e : c.from_residual.result ≡ Err c.in_err-g.field-0.0 = search rules in ap type_field e ∙ search (lettered_misread, c.in_err-g.was)

pub returns : goal.returns
returns c = search (lettered_is, c.in_ok-g.was)
