-- `number_fields` meets its contract.
use Prim.Native.Nat.{◌≤◌}
use mathlib.Core.Path.{◌≡◌}
use lib.ListN.{length}
use Rattle.sheet.specs.Text.{fields_of}
use Rattle.shapes.proofs.FieldLaws.{ReadTo}
use Rattle.shapes.proofs.numbers.number_fields.Given as goal

abbrev pub invariant-loop-i : goal.invariant-loop-i
invariant-loop-i l = ReadTo (fields_of l.line) l.from l.to l.i l.at × (l.from ≤ l.i) × (l.i ≤ l.to) × (length l.at ≡ 4)
