-- `collect_type` meets its contract. Assumes nothing.
use mathlib.Core.Path.{◌≡◌}
use native.Mathlib.Omega.{arith}
use Rattle.std.specs.Prelude.{Err}
use Rattle.ocl.specs.Typing.{collect_kind}
use Rattle.ocl.specs.Marks.{of_rows}
use Rattle.types.specs.Flat.{letter_of}
use Rattle.judgements.proofs.AttributeRows.{collect_not, collect_no_class, collect_early, collect_done, code_low, code_room, code_some, more_word}
use borrow.Author.Rules.{rules}
use Rattle.judgements.proofs.attributes.collect_type.Goals as goal

pub returns-then-code-eq0 : goal.returns-then-code-eq0
returns-then-code-eq0 c = search (collect_not, c.at.ensures)

pub returns-in_default : goal.returns-in_default
returns-in_default c = search (collect_no_class, c.at-in_default.ensures)

pub overflow_sub-kind : goal.overflow_sub-kind
overflow_sub-kind c = omega (arith, code_low _ c.collect_code-kind.ensures)

pub row_type-requires : goal.row_type-requires
row_type-requires c = search (code_room, rules)

pub returns-in_err-u : goal.returns-in_err-u
returns-in_err-u c =
    let e : c.from_residual.result ≡ Err c.in_err-u.field-0.0 = search rules in
    λ m h. rw e (collect_early m _ _ _ c.outer_code-code.ensures c.if-code-eq0.false _ c.member_type.ensures c.is_class.ensures _ c.in-Some.is (c.row_type.ensures m h (of_rows (collect_kind (letter_of c.outer_code-code.result))) (λ i. more_word _ i c.collect_code-kind.ensures)) c.in_err-u.was)

pub wrapped-requires : goal.wrapped-requires
wrapped-requires c = search (code_some, rules)

pub returns : goal.returns
returns c = λ m h. collect_done m _ _ _ c.outer_code-code.ensures c.if-code-eq0.false _ c.member_type.ensures c.is_class.ensures _ c.in-Some.is (c.row_type.ensures m h (of_rows (collect_kind (letter_of c.outer_code-code.result))) (λ i. more_word _ i c.collect_code-kind.ensures)) c.in_ok-u.was c.collect_code-kind.ensures c.wrapped.ensures
