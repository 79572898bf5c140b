-- `numbers_form` meets its contract.
use Rattle.shapes.proofs.BuiltLaws.{numbers_bad, numbers_read}
use Rattle.shapes.proofs.forms.numbers_form.Goals as goal

pub returns-then-not-n : goal.returns-then-not-n
returns-then-not-n c = rw (numbers_bad _ _ c.requires.2 c.requires.3 c.exactly-n.ensures c.if-not-n.true) (c.misspelled.ensures _)

pub returns : goal.returns
returns c = search numbers_read
