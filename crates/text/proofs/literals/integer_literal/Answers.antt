-- `integer_literal` meets its contract. Assumes nothing.
use mathlib.Core.Path.{◌≡◌, ◌∙◌}
use borrow.Author.Rules.{rules}
use Rattle.std.specs.Prelude.{Err}
use Rattle.text.proofs.LiteralLaws.{integer_sound, integer_none, integer_is}
use Rattle.text.proofs.literals.integer_literal.Goals as goal

pub cell_of-requires : goal.cell_of-requires
cell_of-requires c = integer_sound c.requires c.in_ok-biased.was

pub returns-in_err-biased : goal.returns-in_err-biased
returns-in_err-biased c = λ o h. let e : c.from_residual.result ≡ Err c.in_err-biased.field-0.0 = search rules in e ∙ integer_none o h c.in_err-biased.was

pub returns : goal.returns
returns c = λ o h. integer_is o h c.in_ok-biased.was c.cell_of.ensures
