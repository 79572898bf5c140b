-- `line_read` meets its contract. Assumes nothing.
use mathlib.Core.Path.{◌≡◌}
use borrow.Author.Rules.{rules}
use Rattle.std.specs.Prelude.{Err}
use Rattle.load.proofs.Steps.{read_bad, read_first, read_length}
use Rattle.load.proofs.reader.line_read.Goals as goal

pub returns-in_err-n : goal.returns-in_err-n
returns-in_err-n c = let why : c.from_residual.result ≡ Err c.in_err-n.field-0.0 = search rules in rw why (read_bad c.in_err-n.ensures)

pub returns-then-t-eq0 : goal.returns-then-t-eq0
returns-then-t-eq0 c = read_first c.in_ok-n.ensures c.first_line.result c.if-t-eq0.true c.first_line.ensures

pub returns-else-t-eq0 : goal.returns-else-t-eq0
returns-else-t-eq0 c = read_length c.in_ok-n.ensures c.if-t-eq0.false c.length_line.ensures
