-- `in_word` meets its contract.
use Rattle.tokens.proofs.TokenLaws.{letter_in, hash_in}
use Rattle.tokens.proofs.cutting.in_word.Goals as goal

pub returns-then-is_ascii_alphanumeric : goal.returns-then-is_ascii_alphanumeric
returns-then-is_ascii_alphanumeric c = letter_in _ c.is_ascii_alphanumeric.ensures.value c.if-is_ascii_alphanumeric.true

pub returns-else-is_ascii_alphanumeric : goal.returns-else-is_ascii_alphanumeric
returns-else-is_ascii_alphanumeric c = hash_in _ c.is_ascii_alphanumeric.ensures.value c.if-is_ascii_alphanumeric.false
