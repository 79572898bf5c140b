-- `lowest_outside` meets its contract. Assumes nothing.
use borrow.Author.Rules.{rules}
use Rattle.numbering.proofs.Sheets.{sheet_room, few_rules, roots_in, outside_found}
use Rattle.numbering.proofs.whole.lowest_outside.Goals as goal

pub tell_calls-requires : goal.tell_calls-requires
tell_calls-requires c = search sheet_room

pub rules_outside-requires : goal.rules_outside-requires
rules_outside-requires c = record { sheet_room = search (sheet_room, rules); rules_le_most_rules = (few_rules c.requires.known, roots_in c.requires.known) }

pub returns : goal.returns
returns c = search outside_found
