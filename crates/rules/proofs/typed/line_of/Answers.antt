use mathlib.Core.Path.{ap, ◌∙◌}
use Rattle.nodes.specs.Nodes.{word}
use Rattle.rules.proofs.typed.line_of.Goals as goal

pub returns : goal.returns
returns c = c.node_word.ensures ∙ ap (λ n. word c.args.w1.now n 7) c.wide.ensures
