-- `converted` meets its contract. Assumes nothing.
use mathlib.Core.Path.{ap, ◌∙◌}
use Rattle.judgements.proofs.FormTypes.{no_members, on_members}
use Rattle.types.specs.Flat.{letter_of}
use Rattle.ocl.specs.Typing.{wrap}
use Rattle.judgements.proofs.forms.converted.Goals as goal

pub returns-then-outer_code-eq0 : goal.returns-then-outer_code-eq0
returns-then-outer_code-eq0 c = search (no_members, c.at.ensures)

pub returns : goal.returns
returns c = on_members _ (λ l u. wrap c.args.n (letter_of c.args.code) u) _ c.outer_code.ensures c.if-outer_code-eq0.false (c.wrapped.ensures ∙ ap (wrap c.args.n (letter_of c.args.code)) c.member_type.ensures)
