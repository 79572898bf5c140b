use Rattle.std.proofs.Common.{arith, ap, ◌++◌, ◌∙◌}
use Rattle.std.proofs.lemmas.List.{length-take-le}
use Rattle.std.specs.Prelude.{drop, replicate}
use Rattle.sheet.specs.Calls.{wiped}
use Rattle.tables.proofs.wipe.Goals as goal

pub returns : goal.returns
unfolding wiped
returns c = let w = c.args.w.now in ap (λ l. l ++ drop 8192 w) (c.fill.ensures.after (λ y h. h) ∙ ap (λ n. replicate n 0) (length-take-le 8192 w (omega (arith, c.requires))))
