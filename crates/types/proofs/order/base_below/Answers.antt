-- `base_below` meets its contract: by the tags of the two bases.
use mathlib.Core.Logic.{⊎_elim}
use mathlib.Core.Path.{◌∙◌}
use Rattle.types.proofs.Bases.{below_void, below_any, below_class, below_off, below_wide, below_same}
use Rattle.types.proofs.order.base_below.Goals as goal

pub returns-then-x-eq0 : goal.returns-then-x-eq0
returns-then-x-eq0 c = ⊎_elim (λ h. below_void _ c.args.a c.args.b c.tag-x.ensures h) (λ h. below_any _ c.args.a c.args.b c.tag-y.ensures h.1) c.then-x-eq0.either

pub returns-then-y-eq5 : goal.returns-then-y-eq5
returns-then-y-eq5 c = search below_class

pub returns-then-x-eq5 : goal.returns-then-x-eq5
returns-then-x-eq5 c = search below_off

pub returns-then-widens : goal.returns-then-widens
returns-then-widens c = c.if-widens.true ∙ below_wide _ c.args.a c.args.b c.tag-x.ensures c.tag-y.ensures c.if-x-eq0.false c.if-x-eq5.false c.widens.ensures c.if-y-eq3.false c.if-widens.true

pub returns-else-widens : goal.returns-else-widens
returns-else-widens c = below_same _ c.args.a c.args.b c.tag-x.ensures c.tag-y.ensures c.if-x-eq0.false c.if-x-eq5.false c.widens.ensures c.if-y-eq3.false c.if-widens.false
