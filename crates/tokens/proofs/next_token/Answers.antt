-- `next_token` meets its contract. Assumes nothing.
use Rattle.tokens.proofs.TokenLaws.{next_none, next_one}
use Rattle.tokens.proofs.next_token.Goals as goal

pub token_end-end-requires : goal.token_end-end-requires
token_end-end-requires c = (c.if-start-s.true, c.skip-start.ensures.stops c.if-start-s.true)

pub returns-then-start-s : goal.returns-then-start-s
returns-then-start-s c = search next_one

pub returns : goal.returns
returns c = search next_none
