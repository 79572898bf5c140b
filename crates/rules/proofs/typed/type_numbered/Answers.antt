use Rattle.rules.proofs.Typings.{tables_lent, rule_low, rule_root, types_numbered}
use Rattle.rules.proofs.typed.type_numbered.Goals as goal

pub overflow_cast-context : goal.overflow_cast-context
overflow_cast-context c = search rule_low

pub type_rule-requires : goal.type_rule-requires
type_rule-requires c = record { root_lt_most_nodes = search rule_root; lent_tables = search tables_lent }

pub returns : goal.returns
returns c = search types_numbered
