-- `put_class` meets its contract: one law for each answer.
use Rattle.declarations.proofs.ClassLaws.{class_block, class_gap, class_unknown, class_put}
use Rattle.declarations.proofs.classes.put_class.Goals as goal

pub returns-then-st-gt-CLASSES : goal.returns-then-st-gt-CLASSES
returns-then-st-gt-CLASSES c = search class_block

pub returns-then-n-st : goal.returns-then-n-st
returns-then-n-st c = search class_gap

pub returns-then-n-p : goal.returns-then-n-p
returns-then-n-p c = search class_unknown

pub returns : goal.returns
returns c = search class_put
