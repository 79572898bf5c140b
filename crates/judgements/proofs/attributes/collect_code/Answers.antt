-- `collect_code` meets its contract. Assumes nothing.
use Rattle.judgements.proofs.AttributeRows.{code_sequence, code_other}
use Rattle.judgements.proofs.attributes.collect_code.Goals as goal

pub returns-then-code-eq-SEQUENCE : goal.returns-then-code-eq-SEQUENCE
returns-then-code-eq-SEQUENCE c = code_sequence _ c.if-code-eq-SEQUENCE.true

pub returns-else-code-eq-SEQUENCE : goal.returns-else-code-eq-SEQUENCE
returns-else-code-eq-SEQUENCE c = code_other _ c.if-code-eq-SEQUENCE.false
