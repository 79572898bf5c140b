-- `token_end` meets its contract.
use mathlib.Core.Path.{sym, ◌∙◌}
use Rattle.tokens.proofs.TokenLaws.{word_ends, arrow_ends, sign_ends}
use Rattle.tokens.proofs.cutting.token_end.Goals as goal

pub returns-then-in_word : goal.returns-then-in_word
returns-then-in_word c = word_ends _ _ _ c.requires.0 (sym c.in_word.ensures ∙ c.if-in_word.true) c.run_end.ensures

pub returns-then-is_arrow : goal.returns-then-is_arrow
returns-then-is_arrow c = arrow_ends _ _ c.requires.0 (sym c.is_arrow.ensures ∙ c.if-is_arrow.true)

pub returns : goal.returns
returns c = sign_ends _ _ c.requires.0 c.requires.1 (sym c.in_word.ensures ∙ c.if-in_word.false) (sym c.is_arrow.ensures ∙ c.if-is_arrow.false)
