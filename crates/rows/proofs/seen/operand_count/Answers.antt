-- `operand_count` meets its contract. Assumes nothing.
use Rattle.rows.proofs.SeenLaws.{leaf_parts, none_parts, attribute_parts, is_undef_parts, unary_parts, two_parts, let_parts, call_parts, three_parts, member_parts}
use Rattle.rows.proofs.seen.operand_count.Goals as goal

pub returns-in-31 : goal.returns-in-31
returns-in-31 c = search three_parts

pub returns-in-0-to-6 : goal.returns-in-0-to-6
returns-in-0-to-6 c = search leaf_parts

pub returns-in-27-to-29 : goal.returns-in-27-to-29
returns-in-27-to-29 c = search member_parts

pub returns-in_default : goal.returns-in_default
returns-in_default c = search none_parts

pub returns-in-13-to-26 : goal.returns-in-13-to-26
returns-in-13-to-26 c = search let_parts

pub returns-in-13-to-26-2 : goal.returns-in-13-to-26-2
returns-in-13-to-26-2 c = search two_parts

pub returns-in-13-to-26-3 : goal.returns-in-13-to-26-3
returns-in-13-to-26-3 c = search call_parts

pub returns-in-7-to-12 : goal.returns-in-7-to-12
returns-in-7-to-12 c = search is_undef_parts

pub returns-in-7-to-12-2 : goal.returns-in-7-to-12-2
returns-in-7-to-12-2 c = search unary_parts

pub returns-in-7-to-12-3 : goal.returns-in-7-to-12-3
returns-in-7-to-12-3 c = search attribute_parts
