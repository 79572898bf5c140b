-- `is_object` meets its contract. Assumes nothing.
use borrow.Author.Tests.{ne_eqb}
use Rattle.outcomes.proofs.Lookups.{object_other, object_of_lem}
use Rattle.outcomes.proofs.lookup.is_object.Goals as goal

pub returns-then-sort_of-eq-OBJECT : goal.returns-then-sort_of-eq-OBJECT
returns-then-sort_of-eq-OBJECT c = search object_of_lem

pub returns-else-sort_of-eq-OBJECT : goal.returns-else-sort_of-eq-OBJECT
returns-else-sort_of-eq-OBJECT c = rw (ne_eqb _ _ c.if-sort_of-eq-OBJECT.false) (object_other c.sort_of.ensures c.if-sort_of-eq-OBJECT.false)
