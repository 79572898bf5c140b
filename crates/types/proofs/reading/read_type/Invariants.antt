-- `read_type` meets its contract. The loop's invariant: what was read is the type inside the first j letters, before their brackets.
use Prim.Native.Nat.{◌+◌}
use mathlib.Core.Path.{◌≡◌}
use lib.ListN.{drop}
use Rattle.types.specs.Reading.{type_field, held, type_before}
use Rattle.types.proofs.reading.read_type.Given as goal

abbrev pub invariant-loop-j : goal.invariant-loop-j
invariant-loop-j l = type_field l.g ≡ held (type_before l.j (drop (l.j + l.j) l.f))
