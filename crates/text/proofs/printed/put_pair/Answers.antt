-- `put_pair` meets its contract: each part behind the last one. Assumes nothing.
use Rattle.text.proofs.PrintedLaws.{room_first, room_gap, room_second, room_end, pair_line}
use Rattle.text.proofs.printed.put_pair.Goals as goal

pub put_number-gap-requires : goal.put_number-gap-requires
put_number-gap-requires c = search room_first

pub put_byte-behind-requires : goal.put_byte-behind-requires
put_byte-behind-requires c = search room_gap

pub put_number-end-requires : goal.put_number-end-requires
put_number-end-requires c = search room_second

pub put_byte-requires : goal.put_byte-requires
put_byte-requires c = search room_end

pub returns : goal.returns
returns c = pair_line c.args.at c.args.a c.args.b c.args.out.now c.requires c.ranges.a c.ranges.b c.put_number-gap.ensures c.put_byte-behind.ensures c.put_number-end.ensures c.put_byte.ensures
