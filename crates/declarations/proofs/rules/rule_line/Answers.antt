-- `rule_line` meets its contract: the fields' refusal, or what the line's numbers lead to.
use borrow.Author.Rules.{rules}
use mathlib.Core.Path.{◌≡◌}
use lib.ListN.{drop}
use Rattle.std.specs.Prelude.{Err}
use Rattle.sheet.specs.Text.{fields_of}
use Rattle.sheet.specs.Lines.{rule_line}
use Rattle.declarations.specs.Fields.{two_numbers}
use Rattle.declarations.proofs.TakenLaws.{rule_plain}
use Rattle.declarations.proofs.PairLaws.{rule_fields, pair_within, pair_stopped, pair_taken}
use Rattle.declarations.proofs.RuleLaws.{rule_limits}
use Rattle.declarations.proofs.rules.rule_line.Goals as goal

pub open_rule-requires : goal.open_rule-requires
open_rule-requires c = let p = pair_within 64 (two_numbers (drop 1 (fields_of c.args.line.now))) c.in_ok-n.ensures in (c.requires.1, p.low, p.class)

pub returns-in_err-n : goal.returns-in_err-n
returns-in_err-n c =
    let e : c.from_residual.result ≡ Err c.in_err-n.field-0.0 = search rules in
    rw e (λ w0 w1 k. pair_stopped c.args.st k w0 w1 c.args.line.now (two_numbers (drop 1 (fields_of c.args.line.now))) rule_line 64 (rule_fields _ c.requires.0.is_letter) rule_plain rule_limits c.in_err-n.ensures)

pub returns : goal.returns
returns c = λ w0 w1 k. pair_taken c.args.st k w0 w1 c.args.line.now (two_numbers (drop 1 (fields_of c.args.line.now))) rule_line 64 (rule_fields _ c.requires.0.is_letter) rule_plain rule_limits (pair_within 64 (two_numbers (drop 1 (fields_of c.args.line.now))) c.in_ok-n.ensures).are (c.open_rule.ensures w0 w1 k)
