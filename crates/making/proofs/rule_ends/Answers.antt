-- `making::rule_ends` meets its contract. Assumes nothing.
use native.Mathlib.Omega.{arith}
use borrow.Author.Rules.{rules}
use mathlib.Core.Path.{refl}
use lib.ListN.{length-set}
use Rattle.report.proofs.RuleLaws.{rules_none, rule_room, rules_next}
use Rattle.making.proofs.MadeLaws.{ends_none, ends_next, ends_all}
use Rattle.making.proofs.rule_ends.Goals as goal

pub loop-r-init : goal.loop-r-init
loop-r-init c = record { counted = rules_none _ _; ends = ends_none; size = refl }

pub object_lines-total-requires : goal.object_lines-total-requires
object_lines-total-requires c = search (rule_room, rules)

pub loop-r-preserved : goal.loop-r-preserved
loop-r-preserved c =
    let so = c.loop-r.invariant in
    let few = c.requires.room_for_all.1.rules in
    let room = rule_room c.wide-r-end.ensures so.counted c.loop-r-test.true c.requires.room_for_all.0 refl refl in
    let next = rules_next c.wide-r-end.ensures so.counted c.loop-r-test.true room refl c.object_lines-total.ensures in
    record {
      counted = next;
      ends = ends_next so.ends next (omega (arith, few, c.wide-r-end.ensures, so.size, c.requires.room_for_all.2));
      size = simp length-set so.size;
    }

pub returns : goal.returns
returns c =
    let so = c.loop-r.invariant in
    ends_all c.wide-r-end.ensures c.requires.room_for_all.1 (omega (arith, so.size, c.requires.room_for_all.2)) so.ends so.counted (omega arith)
