use mathlib.Core.Path.{refl, ◌∙◌}
use borrow.Author.Rules.{rules}
use native.Mathlib.Omega.{arith}
use Rattle.spelling.proofs.MemberLaws.{bracket_room, wrote_none, value_waits, cells_left, cells_passed, mark_room, more_wait, wrote_last, wrote_more}
use Rattle.spelling.proofs.CellLaws.{value_within}
use Rattle.spelling.proofs.ValueLaws.{simple_waits, wrote_simple, opening_room, members_wait, wrote_opened}
use Rattle.spelling.proofs.+put_members_put_next.Goals as goal

pub put_members-put_byte-requires : goal.put_members-put_byte-requires
put_members-put_byte-requires t c = search bracket_room

pub put_members-returns-then-n-eq0 : goal.put_members-returns-then-n-eq0
put_members-returns-then-n-eq0 t c = search wrote_none

pub put_members-put_next-one-requires : goal.put_members-put_next-one-requires
put_members-put_next-one-requires t c = search (value_waits, rules)

pub put_members-put_byte-requires-then-n-eq1 : goal.put_members-put_byte-requires-then-n-eq1
put_members-put_byte-requires-then-n-eq1 t c = omega (arith, c.put_next-one.auto.out, mark_room c.requires c.if-n-eq0.false c.put_next-one.ensures)

pub put_members-returns-then-n-eq1 : goal.put_members-returns-then-n-eq1
put_members-returns-then-n-eq1 t c = search wrote_last

pub put_members-put_byte-comma-requires : goal.put_members-put_byte-comma-requires
put_members-put_byte-comma-requires t c = omega (arith, c.put_next-one.auto.out, mark_room c.requires c.if-n-eq0.false c.put_next-one.ensures)

pub put_members-put_members-requires : goal.put_members-put_members-requires
put_members-put_members-requires t c = (omega (arith, c.decreases, cells_left c.requires c.if-n-eq0.false, cells_passed c.requires c.if-n-eq0.false c.put_next-one.ensures), more_wait c.requires c.if-n-eq0.false c.put_next-one.ensures c.put_byte-comma.ensures (c.put_byte-comma.auto.out ∙ c.put_next-one.auto.out) c.if-n-eq1.false refl)

pub put_members-returns : goal.put_members-returns
put_members-returns t c = wrote_more c.put_next-one.ensures c.put_next-one.auto.out c.if-n-eq0.false c.if-n-eq1.false refl c.put_byte-comma.ensures c.put_byte-comma.auto.out c.put_members.ensures c.put_members.auto.out

pub put_next-offset_bounds-cells-from : goal.put_next-offset_bounds-cells-from
put_next-offset_bounds-cells-from t c = omega (arith, value_within)

pub put_next-bounds-cells-from : goal.put_next-bounds-cells-from
put_next-bounds-cells-from t c = search value_within

pub put_next-put_simple-requires : goal.put_next-put_simple-requires
put_next-put_simple-requires t c = search simple_waits

pub put_next-overflow_add-result : goal.put_next-overflow_add-result
put_next-overflow_add-result t c = omega (arith, value_within)

pub put_next-returns-then-sort-lt3 : goal.put_next-returns-then-sort-lt3
put_next-returns-then-sort-lt3 t c = search wrote_simple

pub put_next-put_opening-inner-requires : goal.put_next-put_opening-inner-requires
put_next-put_opening-inner-requires t c = search opening_room

pub put_next-overflow_add-from : goal.put_next-overflow_add-from
put_next-overflow_add-from t c = omega (arith, value_within)

pub put_next-put_members-requires : goal.put_next-put_members-requires
put_next-put_members-requires t c = (omega (arith, c.decreases, value_within c.requires.v c.requires.stands), members_wait c.sort_of-sort.ensures c.if-sort-lt3.false c.put_opening-inner.ensures c.put_opening-inner.auto.out c.member_count.ensures.0 c.requires)

pub put_next-returns : goal.put_next-returns
put_next-returns t c = wrote_opened c.sort_of-sort.ensures c.if-sort-lt3.false c.put_opening-inner.ensures c.put_opening-inner.auto.out c.put_members.ensures c.put_members.auto.out c.member_count.ensures.0
