-- `measured` meets its contract. Assumes nothing.
use Rattle.report.proofs.SheetLaws.{counted_room, measures}
use Rattle.report.proofs.measured.Goals as goal

pub rule_lines-requires : goal.rule_lines-requires
rule_lines-requires c = search counted_room

pub returns : goal.returns
returns c = search measures
