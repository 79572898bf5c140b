-- `operations::answers::truth` meets its contract. Assumes nothing.
use Rattle.outcomes.proofs.Words.{truth_bool, truth_other}
use Rattle.outcomes.proofs.answers.truth.Goals as goal

pub returns-then-sort_of-eq0 : goal.returns-then-sort_of-eq0
returns-then-sort_of-eq0 c = search truth_bool

pub returns-else-sort_of-eq0 : goal.returns-else-sort_of-eq0
returns-else-sort_of-eq0 c = search truth_other
