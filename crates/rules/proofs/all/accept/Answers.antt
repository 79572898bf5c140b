-- `accept` meets its contract. Assumes nothing.
use mathlib.Core.Path.{◌≡◌}
use Rattle.std.specs.Prelude.{Err}
use borrow.Author.Rules.{rules}
use Rattle.rules.proofs.AllLaws.{accepts, accepts_none}
use Rattle.rules.proofs.all.accept.Goals as goal

pub returns-in_err-type_definitions : goal.returns-in_err-type_definitions
returns-in_err-type_definitions c =
    let e : c.from_residual.result ≡ Err c.in_err-type_definitions.field-0.0 = search rules in
    rw e (accepts_none (search rules) c.clear_marks.ensures c.type_definitions.ensures c.in_err-type_definitions.was)

pub returns : goal.returns
returns c = accepts _ c.keep_marks.ensures (search rules) c.clear_marks.ensures c.type_definitions.ensures c.in_ok-type_definitions.was c.type_all-typed.ensures
