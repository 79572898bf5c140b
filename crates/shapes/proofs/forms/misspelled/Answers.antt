-- `misspelled` meets its contract.
use Rattle.shapes.proofs.FormLaws as laws
use Rattle.shapes.proofs.forms.misspelled.Goals as goal

pub returns : goal.returns
returns c = λ n. laws.no_form n
