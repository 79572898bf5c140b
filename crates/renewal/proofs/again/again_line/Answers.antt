-- `again_line` meets its contract. Assumes nothing.
use lib.ListN.{length-replicate}
use Rattle.renewal.proofs.AgainLaws.{line_size, line_room, line_again}
use Rattle.renewal.proofs.again.again_line.Goals as goal

pub slice_bounds-put_bytes-end : goal.slice_bounds-put_bytes-end
slice_bounds-put_bytes-end c = search (line_size, length-replicate)

pub put_bytes-requires : goal.put_bytes-requires
put_bytes-requires c = search (line_room, length-replicate)

pub returns : goal.returns
returns c = search (line_again, length-replicate)
