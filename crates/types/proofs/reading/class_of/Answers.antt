-- `class_of` meets its contract.
use mathlib.Core.Path.{sym, ap}
use Rattle.types.specs.Reading.{type_field, class_field}
use Rattle.types.proofs.TypeFields.{small_class, big_class}
use Rattle.types.proofs.reading.class_of.Goals as goal

pub returns-in-None : goal.returns-in-None
unfolding type_field class_field
returns-in-None c = ap class_field (sym c.in-None.is)

pub returns-then-c-lt-MOST_CLASSES : goal.returns-then-c-lt-MOST_CLASSES
returns-then-c-lt-MOST_CLASSES c = search small_class

pub returns-else-c-lt-MOST_CLASSES : goal.returns-else-c-lt-MOST_CLASSES
returns-else-c-lt-MOST_CLASSES c = search big_class
