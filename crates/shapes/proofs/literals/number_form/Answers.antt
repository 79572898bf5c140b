-- `number_form` meets its contract.
use borrow.Author.Rules.{rules}
use mathlib.Core.Path.{◌≡◌, sym, ◌∙◌}
use Rattle.std.specs.Prelude.{Err}
use Rattle.memory.specs.declared.refusals.Misread.TheVariants.{Malformed, OverLimit}
use Rattle.shapes.proofs.LiteralLaws.{number_bad, number_over, number_is}
use Rattle.shapes.proofs.literals.number_form.Goals as goal

pub returns-in-Err-Malformed : goal.returns-in-Err-Malformed
returns-in-Err-Malformed c = let n : c.args.n ≡ Err Malformed = search rules in λ o e. rw (number_bad o (sym n ∙ e)) (c.misspelled.ensures _)

pub returns-in-Err-OverLimit : goal.returns-in-Err-OverLimit
returns-in-Err-OverLimit c = let n : c.args.n ≡ Err OverLimit = search rules in λ o e. number_over o (sym n ∙ e)

pub returns-in-Ok : goal.returns-in-Ok
returns-in-Ok c = λ o e. number_is o (sym c.in-Ok.is ∙ e)
