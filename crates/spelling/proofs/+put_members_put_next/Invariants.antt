-- The measures of the cycle: twice the cells that are left, and one more for members.
use Prim.Native.Nat.{◌+◌, ◌*◌, ◌-◌}
use lib.ListN.{length}
use Rattle.spelling.proofs.+put_members_put_next.Given as goal

abbrev pub decreases-put_members : goal.decreases-put_members
decreases-put_members l = 2 * (length l.cells.now - l.from) + 1

abbrev pub decreases-put_next : goal.decreases-put_next
decreases-put_next l = 2 * (length l.cells.now - l.from)
