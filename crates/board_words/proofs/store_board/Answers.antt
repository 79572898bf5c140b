-- `board_words::store_board` meets its contract. Assumes nothing.
use native.Mathlib.Omega.{arith}
use Prim.Native.Nat.{zero-le}
use lib.ListN.{length-set}
use Rattle.board_words.proofs.StoringLaws.{part_long, written1, written2, written3, written4, written5, written6, board_stored}
use Rattle.memory.specs.Map as memory
use Rattle.board_words.proofs.store_board.Goals as goal

pub bounds-words-1 : goal.bounds-words-1
bounds-words-1 c = simp length-set (omega arith)

pub put_table-requires : goal.put_table-requires
put_table-requires c = (simp length-set (omega arith), zero-le)

pub put_table-requires-2 : goal.put_table-requires-2
put_table-requires-2 c = ((let s = (written1 c.args.st c.args.w0.now c.args.ends.now c.args.words.now c.requires.3 c.put_table.ensures).size in omega (arith, c.requires.3)), part_long c.args.w0.now memory.keys 1024 c.requires.0 (omega arith) (let f = c.requires.1.slots in let u = c.wide-slots.ensures in omega arith))

pub put_table-requires-3 : goal.put_table-requires-3
put_table-requires-3 c = ((let s = (written2 c.args.st c.args.w0.now c.args.ends.now c.args.words.now c.requires.3 c.put_table.ensures c.wide-slots.ensures c.put_table-2.ensures).size in omega (arith, c.requires.3)), part_long c.args.w0.now memory.starts 1024 c.requires.0 (omega arith) (let f = c.requires.1.slots in let u = c.wide-slots.ensures in omega arith))

pub put_table-requires-4 : goal.put_table-requires-4
put_table-requires-4 c = ((let s = (written3 c.args.st c.args.w0.now c.args.ends.now c.args.words.now c.requires.3 c.put_table.ensures c.wide-slots.ensures c.put_table-2.ensures c.put_table-3.ensures).size in omega (arith, c.requires.3)), part_long c.args.w0.now memory.cells 2048 c.requires.0 (omega arith) (let f = c.requires.1.cells in let u = c.wide.ensures in omega arith))

pub put_table-requires-5 : goal.put_table-requires-5
put_table-requires-5 c = ((let s = (written4 c.args.st c.args.w0.now c.args.ends.now c.args.words.now c.requires.3 c.put_table.ensures c.wide-slots.ensures c.put_table-2.ensures c.put_table-3.ensures c.wide.ensures c.put_table-4.ensures).size in omega (arith, c.requires.3)), (let f = c.requires.1.rules in let u = c.wide-2.ensures in let e = c.requires.2 in omega arith))

pub put_table-requires-6 : goal.put_table-requires-6
put_table-requires-6 c = ((let s = (written5 c.args.st c.args.w0.now c.args.ends.now c.args.words.now c.requires.3 c.put_table.ensures c.wide-slots.ensures c.put_table-2.ensures c.put_table-3.ensures c.wide.ensures c.put_table-4.ensures c.wide-2.ensures c.put_table-5.ensures).size in omega (arith, c.requires.3)), zero-le)

pub shape_of-words : goal.shape_of-words
shape_of-words c = (written6 c.args.st c.args.w0.now c.args.ends.now c.args.words.now c.requires.3 c.put_table.ensures c.wide-slots.ensures c.put_table-2.ensures c.put_table-3.ensures c.wide.ensures c.put_table-4.ensures c.wide-2.ensures c.put_table-5.ensures c.put_table-6.ensures).size

pub returns : goal.returns
returns c = λ w1. board_stored c.args.st c.args.w0.now c.args.ends.now c.args.words.now c.requires.3 c.put_table.ensures c.wide-slots.ensures c.put_table-2.ensures c.put_table-3.ensures c.wide.ensures c.put_table-4.ensures c.wide-2.ensures c.put_table-5.ensures c.put_table-6.ensures w1 c.requires.1
