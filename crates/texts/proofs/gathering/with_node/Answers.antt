-- `with_node` meets its contract.
use mathlib.Core.Path.{◌≡◌, ◌∙◌}
use mathlib.Core.Bool.{◌&&◌}
use Rattle.texts.proofs.GatherLaws.{joined_is}
use Rattle.texts.proofs.gathering.with_node.Goals as goal
use Rattle.texts.proofs.gathering.with_node.Goals.{then-g, else-g, then-g-2, else-g-2}

pub returns : goal.returns
returns c =
    let within : c.if-g.result ≡ (c.args.g.within && c.args.p.within) = elim c.if-g.branch [
      | then-g w ↦ rw w.if-g.true w.result-is
      | else-g w ↦ rw w.if-g.false (w.result-is ∙ w.if-g.false)
    ] in
    let apart : c.if-g-2.result ≡ (c.args.g.apart && c.args.p.apart) = elim c.if-g-2.branch [
      | then-g-2 w ↦ rw w.if-g-2.true w.result-is
      | else-g-2 w ↦ rw w.if-g-2.false (w.result-is ∙ w.if-g-2.false)
    ] in
    joined_is _ _ within apart c.max.ensures c.called.ensures c.max-2.ensures
