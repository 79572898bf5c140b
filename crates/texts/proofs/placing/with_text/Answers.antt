-- `with_text` meets its contract.
use mathlib.Core.Path.{refl}
use Rattle.texts.specs.Placing.{text_counts}
use Rattle.texts.proofs.placing.with_text.Goals as goal

pub returns : goal.returns
unfolding text_counts
returns c = refl
