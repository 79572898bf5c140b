-- `put_brackets` meets its contract.
use lib.Seq.{length-take-le}
use Rattle.types.specs.Written.{brackets}
use borrow.Author.Rules.{rules}
use Rattle.types.proofs.spelling.put_brackets.Goals as goal

pub slice_bounds-put_bytes-end : goal.slice_bounds-put_bytes-end
slice_bounds-put_bytes-end c = search length-take-le

pub put_bytes-requires : goal.put_bytes-requires
unfolding brackets
put_bytes-requires c = search rules

pub returns : goal.returns
unfolding brackets
returns c = search rules
