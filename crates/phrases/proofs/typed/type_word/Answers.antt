-- `type_word` meets its contract. Assumes nothing.
use Rattle.ocl.specs.Types.{depth}
use Rattle.sheet.specs.Limits.{type_within, class_below, simple_class_below}
use Rattle.tokens.proofs.CodeLaws.{by_code}
use Rattle.phrases.proofs.TypeLaws.{simples, a_simple, a_class}
use Rattle.phrases.proofs.typed.type_word.Goals as goal

pub returns-in-54 : goal.returns-in-54
unfolding by_code simples type_within class_below simple_class_below depth
returns-in-54 c = search a_simple

pub returns-in-55 : goal.returns-in-55
unfolding by_code simples type_within class_below simple_class_below depth
returns-in-55 c = search a_simple

pub returns-in-56 : goal.returns-in-56
unfolding by_code simples type_within class_below simple_class_below depth
returns-in-56 c = search a_simple

pub returns-in-57 : goal.returns-in-57
unfolding by_code simples type_within class_below simple_class_below depth
returns-in-57 c = search a_simple

pub returns-in-58 : goal.returns-in-58
unfolding by_code simples type_within class_below simple_class_below depth
returns-in-58 c = search a_simple

pub returns-in_default : goal.returns-in_default
returns-in_default c = search a_class
