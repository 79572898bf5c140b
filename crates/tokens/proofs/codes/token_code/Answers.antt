-- `token_code` meets its contract. Assumes nothing.
use Rattle.tokens.proofs.CodeLaws.{other_code, some_code}
use Rattle.tokens.proofs.LengthLaws.{hash_begins, digit_begins}
use Rattle.tokens.proofs.codes.token_code.Goals as goal

pub returns-then-k-eq-NO_FORM : goal.returns-then-k-eq-NO_FORM
returns-then-k-eq-NO_FORM c = search other_code

pub returns-else-k-eq-NO_FORM : goal.returns-else-k-eq-NO_FORM
returns-else-k-eq-NO_FORM c = search some_code

pub returns-in-48-to-57 : goal.returns-in-48-to-57
returns-in-48-to-57 c = search hash_begins

pub returns-in-48-to-57-2 : goal.returns-in-48-to-57-2
returns-in-48-to-57-2 c = search digit_begins
