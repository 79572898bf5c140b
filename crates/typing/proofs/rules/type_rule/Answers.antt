-- `type_rule` meets its contract. Assumes nothing.
use mathlib.Core.Path.{sym}
use native.Mathlib.Omega.{arith}
use lib.Seq.{length-take-le}
use Rattle.typing.proofs.RuleTypings.{rule_done}
use borrow.Author.Rules.{rules}
use Rattle.typing.proofs.rules.type_rule.Goals as goal

pub slice_bounds-parents-end : goal.slice_bounds-parents-end
slice_bounds-parents-end c = sym (length-take-le _ c.args.tables.now (omega arith))

pub slice_bounds-table-end-2 : goal.slice_bounds-table-end-2
slice_bounds-table-end-2 c = search length-take-le

pub root_type-requires : goal.root_type-requires
root_type-requires c = search (length-take-le, rules)

pub returns : goal.returns
returns c = search rule_done
