-- `sign` meets its contract. Assumes nothing.
use Rattle.phrases.proofs.SignLaws.{other_sign, this_sign}
use Rattle.phrases.proofs.words.sign.Goals as goal

pub returns-then-sign_level-level : goal.returns-then-sign_level-level
returns-then-sign_level-level c = search other_sign

pub returns : goal.returns
returns c = search this_sign
