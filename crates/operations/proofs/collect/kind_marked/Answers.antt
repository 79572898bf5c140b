-- `kind_marked` meets its contract. Assumes nothing.
use Rattle.operations.proofs.CollectLaws.{kind_low, kind_high}
use Rattle.operations.proofs.collect.kind_marked.Goals as goal

pub returns-then-mark-lt-MARK_SEQUENCE : goal.returns-then-mark-lt-MARK_SEQUENCE
returns-then-mark-lt-MARK_SEQUENCE c = kind_low _ c.if-mark-lt-MARK_SEQUENCE.true

pub returns-else-mark-lt-MARK_SEQUENCE : goal.returns-else-mark-lt-MARK_SEQUENCE
returns-else-mark-lt-MARK_SEQUENCE c = kind_high _ c.if-mark-lt-MARK_SEQUENCE.false
