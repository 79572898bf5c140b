-- `binding` meets its contract. Assumes nothing.
use Rattle.phrases.proofs.WordLaws.{binding_told}
use Rattle.phrases.proofs.words.binding.Goals as goal

pub returns : goal.returns
returns c = rw (binding_told) c.labelled_before.ensures
