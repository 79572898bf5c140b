-- `object_line` meets its contract: the fields' refusal, or what the line's numbers lead to.
use borrow.Author.Rules.{rules}
use mathlib.Core.Path.{◌≡◌}
use lib.ListN.{drop}
use Rattle.std.specs.Prelude.{Err}
use Rattle.sheet.specs.Text.{fields_of}
use Rattle.sheet.specs.Lines.{object_line}
use Rattle.declarations.specs.Fields.{two_numbers}
use Rattle.declarations.proofs.TakenLaws.{object_plain}
use Rattle.declarations.proofs.PairLaws.{object_fields, pair_within, pair_stopped, pair_taken}
use Rattle.declarations.proofs.ObjectLaws.{object_limits}
use Rattle.declarations.proofs.objects.object_line.Goals as goal

pub put_object-requires : goal.put_object-requires
put_object-requires c = let p = pair_within 96 (two_numbers (drop 1 (fields_of c.args.line.now))) c.in_ok-n.ensures in (c.requires.1, c.requires.2, p.low, p.class)

pub returns-in_err-n : goal.returns-in_err-n
returns-in_err-n c =
    let e : c.from_residual.result ≡ Err c.in_err-n.field-0.0 = search rules in
    rw e (λ w1 k. pair_stopped c.args.st k c.args.w0.now w1 c.args.line.now (two_numbers (drop 1 (fields_of c.args.line.now))) object_line 96 (object_fields _ c.requires.0.is_letter) object_plain object_limits c.in_err-n.ensures)

pub returns : goal.returns
returns c = λ w1 k. pair_taken c.args.st k c.args.w0.now w1 c.args.line.now (two_numbers (drop 1 (fields_of c.args.line.now))) object_line 96 (object_fields _ c.requires.0.is_letter) object_plain object_limits (pair_within 96 (two_numbers (drop 1 (fields_of c.args.line.now))) c.in_ok-n.ensures).are (c.put_object.ensures w1 k)
