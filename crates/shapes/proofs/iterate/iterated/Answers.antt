-- `iterated` meets its contract.
use lib.ListN.{get_or}
use mathlib.Core.Path.{◌≡◌, ap, ◌∙◌}
use mathlib.Core.Bool.{Bool, ◌&&◌}
use Rattle.sheet.specs.Limits.{is_variable}
use Rattle.shapes.proofs.IterateLaws.{iterate_built}
use Rattle.shapes.proofs.iterate.iterated.Goals as goal
use Rattle.shapes.proofs.iterate.iterated.Goals.{then-is_variable, else-is_variable, then-is_variable-2, else-is_variable-2}

pub returns : goal.returns
returns c =
    let i = get_or c.args.h 1 0 in
    let j = get_or c.args.h 2 0 in
    let both : c.if-is_variable.value ≡ (is_variable i && is_variable j) = elim c.if-is_variable.branch [
      | then-is_variable w ↦ rw (← c.is_variable.ensures, w.if-is_variable.true) (w.value-is ∙ w.is_variable-then-is_variable.ensures)
      | else-is_variable w ↦ rw (← c.is_variable.ensures, w.if-is_variable.false) (w.value-is ∙ w.if-is_variable.false)
    ] in
    let all : c.if-is_variable-2.result ≡ (c.if-is_variable.value && c.args.of.within) = elim c.if-is_variable-2.branch [
      | then-is_variable-2 w ↦ rw w.if-is_variable-2.true w.result-is
      | else-is_variable-2 w ↦ rw w.if-is_variable-2.false (w.result-is ∙ w.if-is_variable-2.false)
    ] in
    let told = all ∙ ap (λ (b : Bool). b && c.args.of.within) both in
    search iterate_built
