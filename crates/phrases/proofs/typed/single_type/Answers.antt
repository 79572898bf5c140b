-- `single_type` meets its contract. Assumes nothing.
use Rattle.phrases.proofs.TypeLaws.{no_type, bad_type, good_type}
use Rattle.phrases.proofs.typed.single_type.Goals as goal

pub returns-then-t-eq-END : goal.returns-then-t-eq-END
returns-then-t-eq-END c = search no_type

pub returns-then-is_bad : goal.returns-then-is_bad
returns-then-is_bad c = search bad_type

pub returns : goal.returns
returns c = search good_type
