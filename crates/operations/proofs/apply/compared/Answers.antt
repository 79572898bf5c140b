-- `compared` meets its contract. Assumes nothing.
use Rattle.operations.proofs.NumberLaws.{less_no_left, less_no_right, less_done}
use Rattle.operations.proofs.apply.compared.Goals as goal
use Rattle.operations.proofs.apply.compared.Goals.{else-fits_scale-via-then-fits_scale+else-fits_scale-2, else-fits_scale-via-else-fits_scale}

pub returns-then-fits_scale-2 : goal.returns-then-fits_scale-2
returns-then-fits_scale-2 c = search less_done

pub returns-else-fits_scale : goal.returns-else-fits_scale
returns-else-fits_scale c =
    elim c.else-fits_scale.branch [
      | else-fits_scale-via-then-fits_scale+else-fits_scale-2 w ↦ less_no_right w.fits_scale-then-fits_scale.ensures w.if-fits_scale-2.false
      | else-fits_scale-via-else-fits_scale w ↦ search less_no_left
    ]
