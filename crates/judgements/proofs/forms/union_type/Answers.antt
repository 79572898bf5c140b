-- `union_type` meets its contract. Assumes nothing.
use Rattle.judgements.proofs.FormTypes.{common_of, union_no, union_other, union_yes}
use Rattle.judgements.proofs.forms.union_type.Goals as goal
use Rattle.judgements.proofs.forms.union_type.Goals.{then-code-le-COLLECTION-via-then-code-le-COLLECTION, then-code-le-COLLECTION-via-else-code-le-COLLECTION+then-outer_code-code}

pub returns-then-code-le-COLLECTION : goal.returns-then-code-le-COLLECTION
returns-then-code-le-COLLECTION c =
    elim c.then-code-le-COLLECTION.branch [
      | then-code-le-COLLECTION-via-then-code-le-COLLECTION w ↦ search (union_no, c.at.ensures)
      | then-code-le-COLLECTION-via-else-code-le-COLLECTION+then-outer_code-code w ↦ search (union_other, c.at.ensures)
    ]

pub returns : goal.returns
returns c = search (union_yes, common_of)
