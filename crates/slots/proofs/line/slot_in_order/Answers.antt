-- `slots::line::slot_in_order` meets its contract. Assumes nothing.
use borrow.Author.Tests.{lt-leb}
use Rattle.slots.proofs.SlotLaws.{part_is, order_block, order_slot, order_value}
use Rattle.slots.specs.Slots.{last_before}
use Rattle.std.proofs.lemmas.Bool.{both_ways}
use Prim.Native.Nat.{ℕ, ◌+◌, ◌*◌}
use mathlib.Core.Path.{ap, sym, ◌∙◌}
use native.Mathlib.Omega.{arith}
use Rattle.slots.proofs.line.slot_in_order.Goals as goal
use Rattle.slots.proofs.line.slot_in_order.Goals.{then-st-le-VALUES, else-st-le-VALUES}

pub returns-then-after_last : goal.returns-then-after_last
returns-then-after_last c = elim c.if-st-le-VALUES.branch [
  | then-st-le-VALUES w ↦ order_value c.requires.0 c.requires.1 c.requires.3 w.if-st-le-VALUES.true (w.after_last.ensures ∙ ap (λ (n : ℕ). last_before c.args.w0.now n (c.args.o * 64 + c.args.a)) w.wide.ensures) (sym w.value-is ∙ c.if-after_last.true) (omega arith) (part_is _ _ _ c.wide-from.ensures) c.in_order.ensures
  | else-st-le-VALUES w ↦ absurd (both_ways _ (w.value-is ∙ lt-leb _ _ w.if-st-le-VALUES.false) c.if-after_last.true)
]

pub returns-else-after_last : goal.returns-else-after_last
returns-else-after_last c = elim c.if-st-le-VALUES.branch [
  | then-st-le-VALUES w ↦ rw c.if-after_last.false (order_slot c.requires.0 c.requires.1 c.requires.3 w.if-st-le-VALUES.true (w.after_last.ensures ∙ ap (λ (n : ℕ). last_before c.args.w0.now n (c.args.o * 64 + c.args.a)) w.wide.ensures) (sym w.value-is ∙ c.if-after_last.false))
  | else-st-le-VALUES w ↦ rw c.if-after_last.false (order_block w.if-st-le-VALUES.false)
]
