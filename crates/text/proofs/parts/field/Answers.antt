-- `field` meets its contract. The field lies between the end before it and its own. Assumes nothing.
use Rattle.text.proofs.PartLaws.{first_field, later_field}
use Rattle.text.proofs.parts.field.Goals.{then-k-eq0, else-k-eq0}
use Rattle.text.proofs.parts.field.Goals as goal

pub slice_bounds-result-count : goal.slice_bounds-result-count
slice_bounds-result-count c = elim c.if-k-eq0.branch [
  | then-k-eq0 w ↦ (first_field c.requires.0 c.requires.1 c.requires.2 w.if-k-eq0.true w.start-is).order
  | else-k-eq0 w ↦ (later_field c.requires.0 c.requires.1 c.requires.2 w.if-k-eq0.false w.start-is).order
]

pub slice_bounds-result-start : goal.slice_bounds-result-start
slice_bounds-result-start c = elim c.if-k-eq0.branch [
  | then-k-eq0 w ↦ (first_field c.requires.0 c.requires.1 c.requires.2 w.if-k-eq0.true w.start-is).order
  | else-k-eq0 w ↦ (later_field c.requires.0 c.requires.1 c.requires.2 w.if-k-eq0.false w.start-is).order
]

pub returns : goal.returns
returns c = elim c.if-k-eq0.branch [
  | then-k-eq0 w ↦ (first_field c.requires.0 c.requires.1 c.requires.2 w.if-k-eq0.true w.start-is).is
  | else-k-eq0 w ↦ (later_field c.requires.0 c.requires.1 c.requires.2 w.if-k-eq0.false w.start-is).is
]
