-- `define_numbered` meets its contract. Assumes nothing.
use Rattle.rules.proofs.Typings.{tables_lent, definition_low, definition_root, defines_numbered}
use Rattle.rules.proofs.typed.define_numbered.Goals as goal

pub overflow_cast-context : goal.overflow_cast-context
overflow_cast-context c = search definition_low

pub type_definition-requires : goal.type_definition-requires
type_definition-requires c = record { root_lt_most_nodes = search definition_root; lent_tables = search tables_lent }

pub returns : goal.returns
returns c = search defines_numbered
