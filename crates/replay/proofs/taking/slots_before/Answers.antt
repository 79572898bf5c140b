-- `replay::taking::slots_before` meets its contract. Assumes nothing.
use native.Mathlib.Omega.{arith}
use Prim.Native.Nat.{◌≤◌, ◌<◌}
use borrow.Author.Rules.{rules}
use borrow.Author.Tests.{tests}
use Rattle.std.proofs.lemmas.Iterator.{IsFirst-from_position, YieldsList-from_slice}
use Rattle.replay.proofs.TakingLaws.{first_is}
use Rattle.replay.proofs.taking.slots_before.Goals as goal

pub returns : goal.returns
returns c =
    let h = IsFirst-from_position _ _ _ (λ k. c.args.key ≤ k) (λ k. k < c.args.key) c.position.ensures.ran (YieldsList-from_slice _ c.iter.ensures.rest) (λ x q k. search (rules, tests)) (λ x q k. search (rules, tests)) in
    first_is c.args.words.now c.args.n c.args.key (omega arith) c.position.result h c.unwrap_or.ensures
