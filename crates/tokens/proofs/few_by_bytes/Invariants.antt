-- `few_by_bytes` meets its contract: what is left of the text tells what the whole does.
use Rattle.tokens.proofs.ScanLaws.{BytesLeft}
use Rattle.tokens.proofs.few_by_bytes.Given as goal

abbrev pub invariant-loop-b : goal.invariant-loop-b
invariant-loop-b l = BytesLeft l.s l.follows l.depth l.b-index
