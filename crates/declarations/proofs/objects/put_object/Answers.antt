-- `put_object` meets its contract: one law for each answer.
use Rattle.declarations.proofs.ObjectLaws.{object_block, object_gap, object_unknown, object_put}
use Rattle.declarations.proofs.objects.put_object.Goals as goal

pub returns-then-st-gt-OBJECTS : goal.returns-then-st-gt-OBJECTS
returns-then-st-gt-OBJECTS c = search object_block

pub returns-then-n-st : goal.returns-then-n-st
returns-then-n-st c = search object_gap

pub returns-then-st-c : goal.returns-then-st-c
returns-then-st-c c = search object_unknown

pub returns : goal.returns
returns c = search object_put
