-- `put_verdict` meets its contract. Assumes nothing.
use borrow.Author.Rules.{rules}
use Rattle.report.proofs.PassLaws.{verdict_known, verdict_rule, verdict_object}
use Rattle.report.proofs.VerdictLaws.{line_fits, puts_report, origin_fits, puts_origin}
use Rattle.report.proofs.passes.put_verdict.Goals as goal

pub trace_numbered-t-requires : goal.trace_numbered-t-requires
trace_numbered-t-requires c = search (verdict_known, verdict_rule, verdict_object, rules)

pub put_origin-requires : goal.put_origin-requires
put_origin-requires c = search (origin_fits, rules)

pub returns-then-origins : goal.returns-then-origins
returns-then-origins c = search puts_origin

pub evaluate_numbered-e-requires : goal.evaluate_numbered-e-requires
evaluate_numbered-e-requires c = search (verdict_known, verdict_rule, verdict_object, rules)

pub put_line-requires : goal.put_line-requires
put_line-requires c = search line_fits

pub returns : goal.returns
returns c = search puts_report
