-- `clear_marks` meets its contract. Assumes nothing.
use Rattle.std.proofs.Common.{arith, ap, sym, ◌++◌, ◌∙◌}
use Rattle.std.proofs.lemmas.List.{length-take-le}
use Rattle.std.specs.Prelude.{drop, replicate}
use Rattle.rules.proofs.all.clear_marks.Goals as goal

pub slice_bounds-fill-end-2 : goal.slice_bounds-fill-end-2
slice_bounds-fill-end-2 c = sym (length-take-le _ c.args.w2.now (omega (arith, c.requires)))

pub returns : goal.returns
returns c = let w = c.args.w2.now in ap (λ l. l ++ drop 768 w) (c.fill.ensures.after (λ y h. h) ∙ ap (λ n. replicate n 0) (length-take-le 768 w (omega (arith, c.requires))))
