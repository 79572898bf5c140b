-- `import` meets its contract.
use Rattle.descent.proofs.ImportLaws.{import_none, import_longer, import_all}
use Rattle.descent.proofs.import.Goals as goal

pub returns-in_err-next : goal.returns-in_err-next
returns-in_err-next c = rw c.from_residual.ensures (import_none c.next_token-t.ensures c.whole.ensures c.in_err-next.was)

pub returns-then-next-ne-END : goal.returns-then-next-ne-END
returns-then-next-ne-END c = import_longer c.next_token-t.ensures c.whole.ensures c.in_ok-next.was c.if-next-ne-END.true

pub returns : goal.returns
returns c = search (import_all, c.in_ok-next.was)
