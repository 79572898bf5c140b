-- `make_board` meets its contract. Assumes nothing.
use mathlib.Core.Path.{◌≡◌}
use borrow.Author.Rules.{rules}
use Rattle.std.specs.Prelude.{None}
use Rattle.making.proofs.MadeLaws.{room_to_count, made_short, made_written}
use Rattle.making.proofs.make_board.Goals as goal

pub returns-in_err-n : goal.returns-in_err-n
returns-in_err-n c = let e : c.from_residual.result ≡ None = search rules in rw e (made_short c.report_sheet.ensures c.in_err-n.was)

pub rule_ends-requires : goal.rule_ends-requires
rule_ends-requires c = search (room_to_count, rules)

pub store_board-requires : goal.store_board-requires
store_board-requires c = (c.requires.least_words_in_bounds.0, c.requires.known_typed.0.accepted.lies.fine, search rules, c.requires.least_words_in_bounds.3)

pub returns : goal.returns
returns c = search (made_written, c.in_ok-n.was)
