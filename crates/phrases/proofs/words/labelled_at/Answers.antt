-- `labelled_at` meets its contract. Assumes nothing.
use Rattle.std.specs.Prelude.{◌≡◌, None}
use Rattle.std.proofs.Common.{rules}
use Rattle.phrases.proofs.WordLaws.{labelled_end, labelled_bad, labelled_is}
use Rattle.phrases.proofs.words.labelled_at.Goals as goal

pub returns-then-t-eq-END : goal.returns-then-t-eq-END
returns-then-t-eq-END c = search labelled_end

pub returns-in_err-n : goal.returns-in_err-n
returns-in_err-n c = let e : c.from_residual.result ≡ None = search rules in rw e (search (labelled_bad, c.in_err-n.was))

pub returns : goal.returns
returns c = search (labelled_is, c.in_ok-n.was)
