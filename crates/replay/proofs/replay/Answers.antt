-- `replay::replay` meets its contract. Assumes nothing.
use native.Mathlib.Omega.{arith}
use Prim.Native.Nat.{zero-le}
use mathlib.Core.List.{[]}
use Rattle.std.proofs.lemmas.Result.{err_from_is_err_and}
use Rattle.replay.proofs.TakingLaws.{after_low}
use Rattle.replay.proofs.ReplayLaws.{lying_slots, lying_own, replay_many, replay_first, replay_own, replay_last}
use Rattle.replay.proofs.replay.Goals as goal

pub returns-then-n-gt-MOST_SLOTS : goal.returns-then-n-gt-MOST_SLOTS
returns-then-n-gt-MOST_SLOTS c = search replay_many

pub take_slots-requires : goal.take_slots-requires
take_slots-requires c = search zero-le

pub returns-in_err-a : goal.returns-in_err-a
returns-in_err-a c = λ w1. let p = err_from_is_err_and c.from_residual.result c.from_residual.ensures.1 in rw (p.1, p.2) (replay_first c.wide-n.ensures c.if-n-gt-MOST_SLOTS.false c.slots_before-p.ensures c.take_slots.ensures c.in_err-a.was w1)

pub own_slot-requires : goal.own_slot-requires
own_slot-requires c = (c.requires.0, c.requires.1, (let k = (c.take_slots.ensures []).kept.size in omega arith), lying_slots c.requires.5 c.take_slots.ensures c.in_ok-a.was)

pub returns-in_err-b : goal.returns-in_err-b
returns-in_err-b c = λ w1. let p = err_from_is_err_and c.from_residual-in_err-b.result c.from_residual-in_err-b.ensures.1 in rw (p.1, p.2) (replay_own c.wide-n.ensures c.if-n-gt-MOST_SLOTS.false c.slots_before-p.ensures c.take_slots.ensures c.in_ok-a.was c.own_slot.ensures c.in_err-b.was w1)

pub slot_after-requires : goal.slot_after-requires
slot_after-requires c = (c.requires.3, c.slots_before-p.ensures.low, omega arith)

pub take_slots-requires-2 : goal.take_slots-requires-2
take_slots-requires-2 c = (c.requires.3, (let k = (c.take_slots.ensures []).kept.size in let l = (c.own_slot.ensures []).kept.size in omega (arith, c.requires.4)), lying_own (lying_slots c.requires.5 c.take_slots.ensures c.in_ok-a.was) c.requires.2 c.own_slot.ensures c.in_ok-b.was, after_low _ _ c.slots_before-p.ensures.low c.slot_after.ensures, omega arith, omega arith)

pub returns : goal.returns
returns c = replay_last c.wide-n.ensures c.if-n-gt-MOST_SLOTS.false c.slots_before-p.ensures c.take_slots.ensures c.in_ok-a.was c.own_slot.ensures c.in_ok-b.was c.slot_after.ensures c.take_slots-2.ensures
