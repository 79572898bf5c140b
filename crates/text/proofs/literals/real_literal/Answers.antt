-- `real_literal` meets its contract. Assumes nothing.
use mathlib.Core.Path.{◌≡◌, ◌∙◌}
use borrow.Author.Rules.{rules}
use Rattle.std.specs.Prelude.{Err}
use Rattle.text.proofs.LiteralLaws.{real_sound, real_none, real_is}
use Rattle.text.proofs.literals.real_literal.Goals as goal

pub cell_of-requires : goal.cell_of-requires
cell_of-requires c = real_sound _ c.read_real.ensures c.in_ok-x.was

pub returns-in_err-x : goal.returns-in_err-x
returns-in_err-x c = let e : c.from_residual.result ≡ Err c.in_err-x.field-0.0 = search rules in e ∙ real_none _ c.read_real.ensures c.in_err-x.was

pub returns : goal.returns
returns c = real_is _ c.read_real.ensures c.in_ok-x.was c.cell_of.ensures
