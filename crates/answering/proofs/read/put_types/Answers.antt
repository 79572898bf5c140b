-- `put_types` meets its contract. Assumes nothing.
use native.Mathlib.Omega.{arith}
use Prim.Native.Nat.{◌+◌, ◌<◌, ◌≤◌}
use lib.ListN.{length}
use Rattle.answering.proofs.ReadCalls.{words_long, word_type, lines_none, type_room, feed_room, lines_next, lines_all}
use Rattle.answering.proofs.read.put_types.Goals as goal

pub loop-ty-init : goal.loop-ty-init
loop-ty-init c = lines_none _ _ _

pub put_type-end-requires : goal.put_type-end-requires
put_type-end-requires c = search type_room

pub put_byte-at-requires : goal.put_byte-at-requires
put_byte-at-requires c =
    let room : 768 + c.args.rules ≤ length c.args.w2.now = omega (arith, c.requires.0, c.requires.2.few) in
    let h : c.loop-ty.ty-index < c.args.rules = omega (arith, words_long _ room, c.loop-ty-test.true) in
    feed_room c.requires.2 c.requires.1 c.loop-ty.invariant h (word_type _ room _ h c.unpack.ensures) c.put_type-end.ensures

pub loop-ty-preserved : goal.loop-ty-preserved
loop-ty-preserved c =
    let room : 768 + c.args.rules ≤ length c.args.w2.now = omega (arith, c.requires.0, c.requires.2.few) in
    let h : c.loop-ty.ty-index < c.args.rules = omega (arith, words_long _ room, c.loop-ty-test.true) in
    lines_next c.requires.2 c.requires.1 c.loop-ty.invariant h (word_type _ room _ h c.unpack.ensures) c.put_type-end.ensures c.put_byte-at.ensures

pub returns : goal.returns
returns c =
    let room : 768 + c.args.rules ≤ length c.args.w2.now = omega (arith, c.requires.0, c.requires.2.few) in
    lines_all c.loop-ty.invariant (omega (arith, words_long _ room, c.loop-ty-test.false))
