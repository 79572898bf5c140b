-- `open_definition` meets its contract: one law for each answer.
use Rattle.declarations.proofs.DefinitionLaws.{definition_big, definition_class_big, definition_block, definition_gap, definition_unknown, definition_unknown_type, definition_put}
use Rattle.declarations.proofs.definitions.open_definition.Goals as goal

pub returns-then-n-ge-MOST_DEFINITIONS : goal.returns-then-n-ge-MOST_DEFINITIONS
returns-then-n-ge-MOST_DEFINITIONS c = search definition_big

pub returns-then-c-ge-MOST_CLASSES : goal.returns-then-c-ge-MOST_CLASSES
returns-then-c-ge-MOST_CLASSES c = search definition_class_big

pub returns-then-st-gt-DEFINITIONS : goal.returns-then-st-gt-DEFINITIONS
returns-then-st-gt-DEFINITIONS c = search definition_block

pub returns-then-n-st : goal.returns-then-n-st
returns-then-n-st c = search definition_gap

pub returns-then-st-c : goal.returns-then-st-c
returns-then-st-c c = search definition_unknown

pub returns-then-not-class_known : goal.returns-then-not-class_known
returns-then-not-class_known c = search definition_unknown_type

pub returns : goal.returns
returns c = search definition_put
