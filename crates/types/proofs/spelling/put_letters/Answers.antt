-- `put_letters` meets its contract: each code but 0 writes two bytes.
use Rattle.types.proofs.WrittenLaws.{puts_none, room_outer, puts_one, room_middle, puts_two, room_inner, puts_three}
use Rattle.types.proofs.spelling.put_letters.Goals as goal

pub returns-then-o-eq0 : goal.returns-then-o-eq0
returns-then-o-eq0 c = search puts_none

pub put_opening-a-requires : goal.put_opening-a-requires
put_opening-a-requires c = search room_outer

pub returns-then-m-eq0 : goal.returns-then-m-eq0
returns-then-m-eq0 c = search puts_one

pub put_opening-b-requires : goal.put_opening-b-requires
put_opening-b-requires c = search room_middle

pub returns-then-i-eq0 : goal.returns-then-i-eq0
returns-then-i-eq0 c = search puts_two

pub put_opening-requires : goal.put_opening-requires
put_opening-requires c = search room_inner

pub returns : goal.returns
returns c = search puts_three
