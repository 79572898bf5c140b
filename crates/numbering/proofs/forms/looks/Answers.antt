-- `looks` meets its contract. Assumes nothing.
use Rattle.numbering.proofs.Codes.{looks_collect, looks_between, looks_early, looks_late}
use Rattle.numbering.proofs.forms.looks.Goals as goal

pub returns-in-34 : goal.returns-in-34
returns-in-34 c = search looks_collect

pub returns-in-34-2 : goal.returns-in-34-2
returns-in-34-2 c = search looks_between

pub returns-in_default : goal.returns-in_default
returns-in_default c = search (looks_early, looks_late)

pub returns-in_default-2 : goal.returns-in_default-2
returns-in_default-2 c = search (looks_early, looks_late)
