-- `put_value` meets its contract. Assumes nothing.
use lib.Seq.{length-take-le}
use Rattle.spelling.proofs.CellLaws.{stands_last}
use Rattle.spelling.proofs.put_value.Goals as goal

pub slice_bounds-put_next-end : goal.slice_bounds-put_next-end
slice_bounds-put_next-end c = search length-take-le

pub put_next-requires : goal.put_next-requires
put_next-requires c = search stands_last

pub returns : goal.returns
returns c v f e = (c.put_next.ensures v f (stands_last e)).bytes
