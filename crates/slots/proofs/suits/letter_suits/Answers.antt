-- `slots::suits::letter_suits` meets its contract. Assumes nothing.
use Rattle.types.proofs.Cases.{other_letter}
use Rattle.slots.proofs.SuitLaws.{letter_none, letter_any, letter_kind}
use Rattle.std.proofs.lemmas.Bool.{ltb-true, ltb-false}
use mathlib.Core.Path.{sym, ◌∙◌}
use native.Mathlib.Omega.{arith}
use Rattle.slots.proofs.suits.letter_suits.Goals as goal
use Rattle.slots.proofs.suits.letter_suits.Goals.{then-letter-lt-SET, else-letter-lt-SET}

pub returns-then-any : goal.returns-then-any
returns-then-any c = rw c.if-any.true (elim c.if-letter-lt-SET.branch [
  | then-letter-lt-SET w ↦ letter_any c.sort_of-sort.ensures c.if-sort-ge-SET.true (other_letter _ (λ e. omega arith) (λ e. omega arith) (λ e. omega arith))
  | else-letter-lt-SET w ↦ let h = ltb-true 4 _ (sym w.any-is ∙ c.if-any.true) in letter_any c.sort_of-sort.ensures c.if-sort-ge-SET.true (other_letter _ (λ e. omega arith) (λ e. omega arith) (λ e. omega arith))
])

pub returns-else-any : goal.returns-else-any
returns-else-any c = elim c.if-letter-lt-SET.branch [
  | then-letter-lt-SET w ↦ let h = ltb-false _ 2 (sym w.any-is ∙ c.if-any.false) in absurd (omega arith)
  | else-letter-lt-SET w ↦ rw c.from.ensures (letter_kind c.sort_of-sort.ensures c.if-sort-ge-SET.true w.if-letter-lt-SET.false (ltb-false 4 _ (sym w.any-is ∙ c.if-any.false)))
]

pub returns-else-sort-ge-SET : goal.returns-else-sort-ge-SET
returns-else-sort-ge-SET c = search letter_none
