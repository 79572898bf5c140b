-- `put_node` meets its contract.
use mathlib.Core.Path.{ap, sym, ◌∙◌}
use native.Mathlib.Omega.{arith}
use lib.ListN.{length-set}
use Rattle.trees.specs.Operands.{marked}
use Rattle.trees.proofs.CallLaws.{depth_small, resolved_operands}
use Rattle.trees.proofs.PlaceLaws.{nodes_low, operands_fine}
use Rattle.trees.proofs.PutLaws.{place_room, place_8, place_on, deepest_small}
use Rattle.trees.proofs.node.put_node.Goals as goal

pub mark-requires : goal.mark-requires
mark-requires c = search place_room

pub returns-in_default : goal.returns-in_default
unfolding marked
returns-in_default c = place_8 c.args.st c.args.n c.args.p c.args.w0.now _ c.requires.2 c.requires.0 c.requires.1 c.requires.5 (ap (λ r. marked r c.mark.new.w1) (sym c.in_default.is) ∙ c.mark.ensures)

pub put_words-requires : goal.put_words-requires
put_words-requires c = (omega (arith, c.mark.auto.w1, c.requires.1), nodes_low c.args.st c.args.n c.args.p c.requires.5.limits, omega (arith, c.requires.2.first, c.requires.2.nodes), rw (c.resolved-full.ensures, resolved_operands c.args.w0.now c.args.p.words c.args.p.count c.requires.3) (operands_fine c.args.st c.args.n c.args.p c.requires.5.limits))

pub overflow_add-w1 : goal.overflow_add-w1
unfolding marked
overflow_add-w1 c = omega (arith, deepest_small _ _ _ _ _ _ (place_room c.args.st c.args.n c.args.p c.requires.2 c.requires.5.limits c.requires.5.order) (ap (λ r. marked r c.mark.new.w1) (sym c.in-Some.is) ∙ c.mark.ensures), c.body_depth-body.ensures, depth_small c.args.w1.now c.resolved-full.result c.args.p.count, c.max.ensures)

pub overflow_mul-w1 : goal.overflow_mul-w1
unfolding marked
overflow_mul-w1 c = omega (arith, deepest_small _ _ _ _ _ _ (place_room c.args.st c.args.n c.args.p c.requires.2 c.requires.5.limits c.requires.5.order) (ap (λ r. marked r c.mark.new.w1) (sym c.in-Some.is) ∙ c.mark.ensures), c.body_depth-body.ensures, depth_small c.args.w1.now c.resolved-full.result c.args.p.count, c.max.ensures)

pub shape_of-w1 : goal.shape_of-w1
shape_of-w1 c = simp length-set (c.put_words.auto.w1 ∙ c.mark.auto.w1)

pub returns : goal.returns
unfolding marked
returns c = rw c.max.ensures (place_on c.args.st c.args.n c.args.p c.args.w0.now _ c.requires.2 c.requires.0 c.requires.1 c.requires.5 c.resolved-full.ensures c.body_depth-body.ensures (ap (λ r. marked r c.mark.new.w1) (sym c.in-Some.is) ∙ c.mark.ensures) c.put_words.ensures c.requires.4 c.with_node.ensures)
