use Prim.Native.Nat.{◌-◌}
use lib.ListN.{length}
use Rattle.phrases.proofs.typed.+type_in.Given as goal

abbrev pub decreases-type_in : goal.decreases-type_in
decreases-type_in l = length l.s.now - l.t.start
