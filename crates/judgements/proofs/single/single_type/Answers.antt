-- `single_type` meets its contract. Assumes nothing.
use Rattle.judgements.proofs.Singles.{undef_single, attribute_single, collect_single, call_single, unary_single}
use Rattle.judgements.proofs.single.single_type.Goals as goal

pub returns-in-30 : goal.returns-in-30
returns-in-30 c = λ m h. search undef_single

pub returns-in-33 : goal.returns-in-33
returns-in-33 c = λ m h. attribute_single m _ _ _ _ c.in-33.is c.node_word.ensures (c.attribute_type.ensures m h)

pub returns-in-34 : goal.returns-in-34
returns-in-34 c = λ m h. collect_single m _ _ _ _ c.in-34.is c.node_word-in-34.ensures (c.collect_type.ensures m h)

pub returns-in-36 : goal.returns-in-36
returns-in-36 c = λ m h. call_single m _ _ _ _ c.in-36.is c.node_word-in-36.ensures c.node_word-in-36-2.ensures c.unpack.ensures (c.call_type.ensures m h.classes.parent)

pub returns-in_default : goal.returns-in_default
returns-in_default c = λ m h. unary_single m _ _ _ _ c.in_default.in_default-own.rest.0.0.0.1 c.in_default.in_default-own.rest.0.0.1 c.in_default.in_default-own.rest.0.1 c.in_default.in_default-own.rest.1 (c.unary_type.ensures m h.classes.parent)
