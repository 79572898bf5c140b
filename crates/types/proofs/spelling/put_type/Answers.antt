-- `put_type` meets its contract: letters, base and brackets, one behind the other.
use native.Mathlib.Omega.{arith}
use Rattle.types.proofs.Members.{depth_le}
use Rattle.types.proofs.WrittenLaws.{room_letters, room_base, room_brackets, puts_type}
use Rattle.types.proofs.spelling.put_type.Goals as goal

pub put_letters-a-requires : goal.put_letters-a-requires
put_letters-a-requires c = search room_letters

pub put_base-e-requires : goal.put_base-e-requires
put_base-e-requires c = search room_base

pub put_brackets-requires : goal.put_brackets-requires
put_brackets-requires c = record { d_bound = omega (arith, c.depth-d.ensures, depth_le c.args.t); d_in_bounds = room_brackets c.args.t _ c.args.out.now c.requires c.put_letters-a.ensures c.put_base-e.ensures.puts c.put_base-e.ensures.upper_bound _ }

pub returns : goal.returns
returns c = search puts_type
