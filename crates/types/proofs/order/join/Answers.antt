-- `join` meets its contract.
use Rattle.types.specs.Flat.{parents_in}
use Rattle.types.proofs.Levels.{join_law}
use Rattle.types.proofs.order.join.Goals as goal

pub returns : goal.returns
returns c =
    let parent = parents_in c.args.parents.now in
    join_law parent _ c.args.a c.args.b _ _ _ c.base_join-e.ensures (rw (c.under_outer.ensures, c.under_outer-2.ensures, c.under_outer-a2.ensures, c.under_outer-b2.ensures, c.no_letter.ensures) at (c.join_level-third.ensures parent)) (rw (c.under_outer-a2.ensures, c.under_outer-b2.ensures) at (c.join_level-second.ensures parent)) (c.join_level.ensures parent)
