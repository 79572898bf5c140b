use Rattle.descent.proofs.OperandLaws.{one_operand, room_closed, more_nodes, closed_small, argument_fails, argument_found, closed_further, test_fails, then_fails, else_fails, condition_found, iteration_fails, second_fails, iteration_found, operand_none, operand_open, operand_one}
use borrow.Author.Rules.{rules}
use native.Mathlib.Omega.{arith}
use Rattle.descent.proofs.MemberLaws.{gathering_start, room_gathering, too_many, member_fails, members_end, members_open, members_go}
use Rattle.descent.proofs.FoundLaws.{found_some, one_found, room_after, room_more, room_further, found_further, room_small}
use Rattle.importer.proofs.HeadLaws.{after_further}
use Rattle.phrases.specs.Forms.{level_of}
use Rattle.descent.proofs.LevelLaws.{sign_further, right_long, right_behind, comparison_none, comparison_alone, comparison_joined, joined_less, level_fails, level_ends, level_turn, nots_room, nots_small, prefix_none, prefix_one}
use Rattle.sheet.specs.Grammar.Parser.{tighter}
use Rattle.importer.proofs.AnswerLaws.{and_leans, or_leans, product_leans, sum_leans}
use Rattle.descent.proofs.GrowthLaws.{less_left, growing_start, room_growing, growing_some, growing_further, further_less}
use Rattle.descent.proofs.PostfixLaws.{steps_fail, steps_end, steps_break, plain_further, plain_turn, argument_further, argument_turn, argument_less, iteration_further, iteration_held, iteration_turn, iteration_less}
use Rattle.descent.proofs.BegunLaws.{primary_none, primary_one, done_further, bracket_further, room_bracket, primary_bracket, condition_further, room_condition, primary_condition, members_further, room_members, primary_members}
use native.Mathlib.Nat.{pos_of_ne-zero}
use Rattle.descent.proofs.LoopLaws.{room_inside, inside_fails, turn_kept, whole_ends, in_missing, body_next}
use mathlib.Core.Path.{ap, ◌∙◌}
use Rattle.std.specs.Prelude.{Some}
use Rattle.descent.proofs.WaitingLaws.{waiting_start, room_waiting, waiting_few, waiting_broken, head_further, waiting_head}
use Rattle.descent.proofs.+comparison_conjunction_disjunction_prefix_product_sum_argument_braces_condition_iteration_operand_postfix_primary_whole.Goals as goal

pub terms::argument-returns-in_err-next : goal.terms::argument-returns-in_err-next
terms::argument-returns-in_err-next t c = λ g z. rw c.from_residual.ensures (argument_fails c.operand.ensures c.in_err-next.was)

pub terms::argument-put_two-requires : goal.terms::argument-put_two-requires
terms::argument-put_two-requires t c = (search (room_closed, one_operand, rules), search (rules), more_nodes (one_operand c.operand.ensures c.in_ok-next.was))

pub terms::argument-overflow_add-result : goal.terms::argument-overflow_add-result
terms::argument-overflow_add-result t c = omega (arith, closed_small c.requires.0 (one_operand c.operand.ensures c.in_ok-next.was))

pub terms::argument-returns : goal.terms::argument-returns
terms::argument-returns t c = λ g z. argument_found c.operand.ensures c.in_ok-next.was (c.put_two.ensures g z)

pub terms::braces-loop-m-init : goal.terms::braces-loop-m-init
terms::braces-loop-m-init t c = search gathering_start

pub terms::braces-returns-in_err-next : goal.terms::braces-returns-in_err-next
terms::braces-returns-in_err-next t c = λ a z. rw c.from_residual.ensures (member_fails c.loop-m.invariant c.loop-m-test.true c.whole.ensures c.in_err-next.was)

pub terms::braces-overflow_sub-at : goal.terms::braces-overflow_sub-at
terms::braces-overflow_sub-at t c = omega (arith, found_some (one_found c.whole.ensures c.in_ok-next.was))

pub terms::braces-after-closed-requires : goal.terms::braces-after-closed-requires
terms::braces-after-closed-requires t c = ((one_found c.whole.ensures c.in_ok-next.was).ahead, λ e. omega arith)

pub terms::braces-overflow_add-result : goal.terms::braces-overflow_add-result
terms::braces-overflow_add-result t c = omega (arith, c.well_formed, room_more (room_after (room_gathering c.loop-m.invariant c.requires) (one_found c.whole.ensures c.in_ok-next.was)) (after_further c.after-closed.ensures c.in-Some.is))

pub terms::braces-returns-in-Some : goal.terms::braces-returns-in-Some
terms::braces-returns-in-Some t c = members_end c.loop-m.invariant c.loop-m-test.true c.whole.ensures c.in_ok-next.was c.after-closed.ensures c.in-Some.is c.assembled.ensures c.emit.ensures

pub terms::braces-after-requires : goal.terms::braces-after-requires
terms::braces-after-requires t c = ((one_found c.whole.ensures c.in_ok-next.was).ahead, λ e. omega arith)

pub terms::braces-returns-in_err-u : goal.terms::braces-returns-in_err-u
terms::braces-returns-in_err-u t c = λ a z. rw c.from_residual-in_err-u.ensures (members_open c.loop-m.invariant c.loop-m-test.true c.whole.ensures c.in_ok-next.was c.after-closed.ensures c.in_default.is c.after.ensures c.in_err-u.was)

pub terms::braces-loop-m-preserved : goal.terms::braces-loop-m-preserved
terms::braces-loop-m-preserved t c = members_go c.loop-m.invariant c.loop-m-test.true c.whole.ensures c.in_ok-next.was c.after-closed.ensures c.in_default.is c.after.ensures c.in_ok-u.was

pub terms::braces-returns : goal.terms::braces-returns
terms::braces-returns t c = search too_many

pub comparison-returns-in_err-u : goal.comparison-returns-in_err-u
comparison-returns-in_err-u t c = rw c.from_residual.ensures (comparison_none c.sum.ensures c.in_err-u.was)

pub comparison-sign-requires : goal.comparison-sign-requires
comparison-sign-requires t c = ((one_found c.sum.ensures c.in_ok-u.was).ahead, omega arith)

pub comparison-returns-in_default : goal.comparison-returns-in_default
unfolding level_of
comparison-returns-in_default t c = comparison_alone c.sum.ensures c.in_ok-u.was c.sign.ensures c.in_default.is

pub comparison-sum-right-requires : goal.comparison-sum-right-requires
comparison-sum-right-requires t c = (let a = found_further (one_found c.sum.ensures c.in_ok-u.was) in let b = (sign_further c.sign.ensures c.in-Some.is).from in omega arith, room_further (room_after c.requires (one_found c.sum.ensures c.in_ok-u.was)) (sign_further c.sign.ensures c.in-Some.is))

pub comparison-joined-requires : goal.comparison-joined-requires
comparison-joined-requires t c = (search (right_long, room_after, one_found, rules), omega (arith, found_some (one_found c.sum.ensures c.in_ok-u.was)), right_behind c.sum-right.ensures (room_after c.requires (one_found c.sum.ensures c.in_ok-u.was)) (sign_further c.sign.ensures c.in-Some.is) (omega (arith, c.well_formed)))

pub comparison-returns : goal.comparison-returns
unfolding level_of
comparison-returns t c = comparison_joined c.sum.ensures c.in_ok-u.was c.sign.ensures c.in-Some.is c.sum-right.ensures c.joined.ensures

pub terms::condition-returns-in_err-u : goal.terms::condition-returns-in_err-u
terms::condition-returns-in_err-u t c = rw c.from_residual.ensures (test_fails c.operand.ensures c.in_err-u.was)

pub terms::condition-operand-requires-2 : goal.terms::condition-operand-requires-2
terms::condition-operand-requires-2 t c = (let f = closed_further (one_operand c.operand.ensures c.in_ok-u.was) in omega arith, (room_closed c.requires (one_operand c.operand.ensures c.in_ok-u.was), λ e. omega arith))

pub terms::condition-returns-in_err-v : goal.terms::condition-returns-in_err-v
terms::condition-returns-in_err-v t c = rw c.from_residual-in_err-v.ensures (then_fails c.operand.ensures c.in_ok-u.was c.operand-2.ensures c.in_err-v.was)

pub terms::condition-operand-requires-3 : goal.terms::condition-operand-requires-3
terms::condition-operand-requires-3 t c = (let f = closed_further (one_operand c.operand.ensures c.in_ok-u.was) in let g = closed_further (one_operand c.operand-2.ensures c.in_ok-v.was) in omega arith, (room_closed (room_closed c.requires (one_operand c.operand.ensures c.in_ok-u.was)) (one_operand c.operand-2.ensures c.in_ok-v.was), λ e. omega arith))

pub terms::condition-returns-in_err-next : goal.terms::condition-returns-in_err-next
terms::condition-returns-in_err-next t c = rw c.from_residual-in_err-next.ensures (else_fails c.operand.ensures c.in_ok-u.was c.operand-2.ensures c.in_ok-v.was c.operand-3.ensures c.in_err-next.was)

pub terms::condition-put_condition-requires : goal.terms::condition-put_condition-requires
terms::condition-put_condition-requires t c = ((room_closed (room_closed (room_closed c.requires (one_operand c.operand.ensures c.in_ok-u.was)) (one_operand c.operand-2.ensures c.in_ok-v.was)) (one_operand c.operand-3.ensures c.in_ok-next.was)).long, omega (arith, more_nodes (one_operand c.operand.ensures c.in_ok-u.was)), more_nodes (one_operand c.operand-2.ensures c.in_ok-v.was), more_nodes (one_operand c.operand-3.ensures c.in_ok-next.was))

pub terms::condition-overflow_add-result : goal.terms::condition-overflow_add-result
terms::condition-overflow_add-result t c = omega (arith, c.well_formed, closed_small (room_closed (room_closed c.requires (one_operand c.operand.ensures c.in_ok-u.was)) (one_operand c.operand-2.ensures c.in_ok-v.was)) (one_operand c.operand-3.ensures c.in_ok-next.was))

pub terms::condition-returns : goal.terms::condition-returns
terms::condition-returns t c = condition_found c.operand.ensures c.in_ok-u.was c.operand-2.ensures c.in_ok-v.was c.operand-3.ensures c.in_ok-next.was c.put_condition.ensures

pub conjunction-loop-found-init : goal.conjunction-loop-found-init
conjunction-loop-found-init t c = search growing_start

pub conjunction-returns : goal.conjunction-returns
unfolding tighter
conjunction-returns t c = search (level_fails, and_leans)

pub conjunction-sign-requires : goal.conjunction-sign-requires
conjunction-sign-requires t c = ((room_growing c.loop-found.invariant c.comparison-found.ensures c.in-Some.is c.requires).ahead, omega arith)

pub conjunction-returns-in_default-sign : goal.conjunction-returns-in_default-sign
unfolding tighter level_of
conjunction-returns-in_default-sign t c = search (level_ends, and_leans)

pub conjunction-comparison-right-requires : goal.conjunction-comparison-right-requires
conjunction-comparison-right-requires t c = (let a = growing_further c.loop-found.invariant c.comparison-found.ensures c.in-Some.is in let b = (sign_further c.sign.ensures c.in-Some-sign.is).from in let o = (sign_further c.sign.ensures c.in-Some-sign.is).ahead.order in let i = (sign_further c.sign.ensures c.in-Some-sign.is).ahead.within in omega arith, room_further (room_growing c.loop-found.invariant c.comparison-found.ensures c.in-Some.is c.requires) (sign_further c.sign.ensures c.in-Some-sign.is))

pub conjunction-joined-found-requires : goal.conjunction-joined-found-requires
conjunction-joined-found-requires t c = (right_long c.comparison-right.ensures (room_growing c.loop-found.invariant c.comparison-found.ensures c.in-Some.is c.requires), search growing_some, right_behind c.comparison-right.ensures (room_growing c.loop-found.invariant c.comparison-found.ensures c.in-Some.is c.requires) (sign_further c.sign.ensures c.in-Some-sign.is) (omega (arith, c.well_formed)))

pub conjunction-loop-found-smaller : goal.conjunction-loop-found-smaller
conjunction-loop-found-smaller t c = search (less_left, joined_less, sign_further)

pub conjunction-loop-found-preserved : goal.conjunction-loop-found-preserved
unfolding tighter level_of
conjunction-loop-found-preserved t c = search level_turn

pub disjunction-loop-found-init : goal.disjunction-loop-found-init
disjunction-loop-found-init t c = search growing_start

pub disjunction-returns : goal.disjunction-returns
unfolding tighter
disjunction-returns t c = search (level_fails, or_leans)

pub disjunction-sign-requires : goal.disjunction-sign-requires
disjunction-sign-requires t c = ((room_growing c.loop-found.invariant c.conjunction-found.ensures c.in-Some.is c.requires).ahead, omega arith)

pub disjunction-returns-in_default-sign : goal.disjunction-returns-in_default-sign
unfolding tighter level_of
disjunction-returns-in_default-sign t c = search (level_ends, or_leans)

pub disjunction-conjunction-right-requires : goal.disjunction-conjunction-right-requires
disjunction-conjunction-right-requires t c = (let a = growing_further c.loop-found.invariant c.conjunction-found.ensures c.in-Some.is in let b = (sign_further c.sign.ensures c.in-Some-sign.is).from in let o = (sign_further c.sign.ensures c.in-Some-sign.is).ahead.order in let i = (sign_further c.sign.ensures c.in-Some-sign.is).ahead.within in omega arith, room_further (room_growing c.loop-found.invariant c.conjunction-found.ensures c.in-Some.is c.requires) (sign_further c.sign.ensures c.in-Some-sign.is))

pub disjunction-joined-found-requires : goal.disjunction-joined-found-requires
disjunction-joined-found-requires t c = (right_long c.conjunction-right.ensures (room_growing c.loop-found.invariant c.conjunction-found.ensures c.in-Some.is c.requires), search growing_some, right_behind c.conjunction-right.ensures (room_growing c.loop-found.invariant c.conjunction-found.ensures c.in-Some.is c.requires) (sign_further c.sign.ensures c.in-Some-sign.is) (omega (arith, c.well_formed)))

pub disjunction-loop-found-smaller : goal.disjunction-loop-found-smaller
disjunction-loop-found-smaller t c = search (less_left, joined_less, sign_further)

pub disjunction-loop-found-preserved : goal.disjunction-loop-found-preserved
unfolding tighter level_of
disjunction-loop-found-preserved t c = search level_turn

pub terms::iteration-returns-in_err-u : goal.terms::iteration-returns-in_err-u
terms::iteration-returns-in_err-u t c = λ x y a e q z. rw c.from_residual.ensures (iteration_fails c.operand.ensures c.in_err-u.was)

pub terms::iteration-operand-requires-2 : goal.terms::iteration-operand-requires-2
terms::iteration-operand-requires-2 t c = (let f = closed_further (one_operand c.operand.ensures c.in_ok-u.was) in omega arith, (room_closed c.requires.0 (one_operand c.operand.ensures c.in_ok-u.was), λ e. omega arith))

pub terms::iteration-returns-in_err-next : goal.terms::iteration-returns-in_err-next
terms::iteration-returns-in_err-next t c = λ x y a e q z. rw c.from_residual-in_err-next.ensures (second_fails c.operand.ensures c.in_ok-u.was c.operand-2.ensures c.in_err-next.was)

pub terms::iteration-put_iteration-requires : goal.terms::iteration-put_iteration-requires
terms::iteration-put_iteration-requires t c = (search (room_closed, one_operand, rules), search (rules), more_nodes (one_operand c.operand.ensures c.in_ok-u.was), more_nodes (one_operand c.operand-2.ensures c.in_ok-next.was), search (rules))

pub terms::iteration-overflow_add-result : goal.terms::iteration-overflow_add-result
terms::iteration-overflow_add-result t c = omega (arith, c.well_formed, closed_small (room_closed c.requires.0 (one_operand c.operand.ensures c.in_ok-u.was)) (one_operand c.operand-2.ensures c.in_ok-next.was))

pub terms::iteration-returns : goal.terms::iteration-returns
terms::iteration-returns t c = λ x y a e q z. iteration_found c.operand.ensures c.in_ok-u.was c.operand-2.ensures c.in_ok-next.was (c.put_iteration.ensures x y a e q z)

pub terms::operand-returns-in_err-next : goal.terms::operand-returns-in_err-next
terms::operand-returns-in_err-next t c = rw c.from_residual.ensures (operand_none c.whole.ensures c.in_err-next.was)

pub terms::operand-after-requires : goal.terms::operand-after-requires
terms::operand-after-requires t c = ((one_found c.whole.ensures c.in_ok-next.was).ahead, search (rules))

pub terms::operand-returns-in_err-u : goal.terms::operand-returns-in_err-u
terms::operand-returns-in_err-u t c = rw c.from_residual-in_err-u.ensures (operand_open c.whole.ensures c.in_ok-next.was c.after.ensures c.in_err-u.was)

pub terms::operand-returns : goal.terms::operand-returns
terms::operand-returns t c = operand_one c.whole.ensures c.in_ok-next.was c.after.ensures c.in_ok-u.was

pub terms::postfix-loop-found-init : goal.terms::postfix-loop-found-init
terms::postfix-loop-found-init t c = search growing_start

pub terms::postfix-returns : goal.terms::postfix-returns
terms::postfix-returns t c = search steps_fail

pub terms::postfix-step-what-requires : goal.terms::postfix-step-what-requires
terms::postfix-step-what-requires t c = (room_growing c.loop-found.invariant c.primary-found.ensures c.in-Some.is c.requires).ahead

pub terms::postfix-returns-in-Ends : goal.terms::postfix-returns-in-Ends
terms::postfix-returns-in-Ends t c = search steps_end

pub terms::postfix-returns-in-Broken : goal.terms::postfix-returns-in-Broken
terms::postfix-returns-in-Broken t c = search steps_break

pub terms::postfix-put_one-requires : goal.terms::postfix-put_one-requires
terms::postfix-put_one-requires t c = ((room_growing c.loop-found.invariant c.primary-found.ensures c.in-Some.is c.requires).long, search growing_some)

pub terms::postfix-overflow_add-found : goal.terms::postfix-overflow_add-found
terms::postfix-overflow_add-found t c = omega (arith, room_more (room_growing c.loop-found.invariant c.primary-found.ensures c.in-Some.is c.requires) (plain_further c.loop-found.invariant c.in-Some.is c.step-what.ensures c.in-Plain.is))

pub terms::postfix-loop-found-smaller-in-Plain : goal.terms::postfix-loop-found-smaller-in-Plain
terms::postfix-loop-found-smaller-in-Plain t c = search (less_left, further_less, plain_further)

pub terms::postfix-loop-found-preserved-in-Plain : goal.terms::postfix-loop-found-preserved-in-Plain
terms::postfix-loop-found-preserved-in-Plain t c = search plain_turn

pub terms::postfix-argument-found-requires : goal.terms::postfix-argument-found-requires
terms::postfix-argument-found-requires t c = (let a = growing_further c.loop-found.invariant c.primary-found.ensures c.in-Some.is in let b = (argument_further c.loop-found.invariant c.in-Some.is c.step-what.ensures c.in-Argument.is).from in let o = (argument_further c.loop-found.invariant c.in-Some.is c.step-what.ensures c.in-Argument.is).ahead.order in let i = (argument_further c.loop-found.invariant c.in-Some.is c.step-what.ensures c.in-Argument.is).ahead.within in omega arith, (room_further (room_growing c.loop-found.invariant c.primary-found.ensures c.in-Some.is c.requires) (argument_further c.loop-found.invariant c.in-Some.is c.step-what.ensures c.in-Argument.is), search growing_some))

pub terms::postfix-loop-found-smaller-in-Argument : goal.terms::postfix-loop-found-smaller-in-Argument
terms::postfix-loop-found-smaller-in-Argument t c = less_left _ _ c.in-Some.is (argument_less c.loop-found.invariant c.in-Some.is c.step-what.ensures c.in-Argument.is c.argument-found.ensures)

pub terms::postfix-loop-found-preserved-in-Argument : goal.terms::postfix-loop-found-preserved-in-Argument
terms::postfix-loop-found-preserved-in-Argument t c = search argument_turn

pub terms::postfix-iteration-found-requires : goal.terms::postfix-iteration-found-requires
terms::postfix-iteration-found-requires t c = (let a = growing_further c.loop-found.invariant c.primary-found.ensures c.in-Some.is in let b = (iteration_further c.loop-found.invariant c.in-Some.is c.step-what.ensures c.in-Iteration.is).from in let o = (iteration_further c.loop-found.invariant c.in-Some.is c.step-what.ensures c.in-Iteration.is).ahead.order in let i = (iteration_further c.loop-found.invariant c.in-Some.is c.step-what.ensures c.in-Iteration.is).ahead.within in omega arith, (room_further (room_growing c.loop-found.invariant c.primary-found.ensures c.in-Some.is c.requires) (iteration_further c.loop-found.invariant c.in-Some.is c.step-what.ensures c.in-Iteration.is), search growing_some, search iteration_held))

pub terms::postfix-loop-found-smaller : goal.terms::postfix-loop-found-smaller
terms::postfix-loop-found-smaller t c = less_left _ _ c.in-Some.is (iteration_less c.loop-found.invariant c.in-Some.is c.step-what.ensures c.in-Iteration.is c.iteration-found.ensures)

pub terms::postfix-loop-found-preserved : goal.terms::postfix-loop-found-preserved
terms::postfix-loop-found-preserved t c = search iteration_turn

pub prefix-postfix-requires : goal.prefix-postfix-requires
prefix-postfix-requires t c = search (nots_room, rules)

pub prefix-returns-in_err-next : goal.prefix-returns-in_err-next
prefix-returns-in_err-next t c = rw c.from_residual.ensures (prefix_none c.nots-run.ensures c.postfix.ensures c.in_err-next.was)

pub prefix-negate-requires : goal.prefix-negate-requires
prefix-negate-requires t c = (search (room_after, nots_room, one_found, rules), omega (arith, found_some (one_found c.postfix.ensures c.in_ok-next.was)), omega (arith, nots_small c.requires c.nots-run.ensures (one_found c.postfix.ensures c.in_ok-next.was)))

pub prefix-overflow_add-result : goal.prefix-overflow_add-result
prefix-overflow_add-result t c = omega (arith, nots_small c.requires c.nots-run.ensures (one_found c.postfix.ensures c.in_ok-next.was))

pub prefix-returns : goal.prefix-returns
prefix-returns t c = prefix_one c.nots-run.ensures c.postfix.ensures c.in_ok-next.was c.negate.ensures

pub terms::primary-overflow_add-result : goal.terms::primary-overflow_add-result
terms::primary-overflow_add-result t c = search (room_more, done_further, c.in_ok-begun.was, rules)

pub terms::primary-operand-requires : goal.terms::primary-operand-requires
terms::primary-operand-requires t c = (let a = (bracket_further c.begin.ensures c.in_ok-begun.was c.in-Bracket.is).from in let o = (bracket_further c.begin.ensures c.in_ok-begun.was c.in-Bracket.is).ahead.order in let i = (bracket_further c.begin.ensures c.in_ok-begun.was c.in-Bracket.is).ahead.within in omega arith, search (room_bracket, c.in_ok-begun.was, rules))

pub terms::primary-condition-requires : goal.terms::primary-condition-requires
terms::primary-condition-requires t c = (let a = (condition_further c.begin.ensures c.in_ok-begun.was c.in-Condition.is).from in let o = (condition_further c.begin.ensures c.in_ok-begun.was c.in-Condition.is).ahead.order in let i = (condition_further c.begin.ensures c.in_ok-begun.was c.in-Condition.is).ahead.within in omega arith, search (room_condition, c.in_ok-begun.was))

pub terms::primary-braces-requires : goal.terms::primary-braces-requires
terms::primary-braces-requires t c = (let a = (members_further c.begin.ensures c.in_ok-begun.was c.in-Members.is).from in let o = (members_further c.begin.ensures c.in_ok-begun.was c.in-Members.is).ahead.order in let i = (members_further c.begin.ensures c.in_ok-begun.was c.in-Members.is).ahead.within in omega arith, search (room_members, c.in_ok-begun.was))

pub terms::primary-returns-in_err-begun : goal.terms::primary-returns-in_err-begun
terms::primary-returns-in_err-begun t c = rw c.from_residual.ensures (primary_none c.begin.ensures c.in_err-begun.was)

pub terms::primary-returns-in-Done : goal.terms::primary-returns-in-Done
terms::primary-returns-in-Done t c = search (primary_one, c.in_ok-begun.was)

pub terms::primary-returns-in-Bracket : goal.terms::primary-returns-in-Bracket
terms::primary-returns-in-Bracket t c = search (primary_bracket, c.in_ok-begun.was)

pub terms::primary-returns-in-Condition : goal.terms::primary-returns-in-Condition
terms::primary-returns-in-Condition t c = search (primary_condition, c.in_ok-begun.was)

pub terms::primary-returns-in-Members : goal.terms::primary-returns-in-Members
terms::primary-returns-in-Members t c = search (primary_members, c.in_ok-begun.was)

pub product-loop-found-init : goal.product-loop-found-init
product-loop-found-init t c = search growing_start

pub product-returns : goal.product-returns
unfolding tighter
product-returns t c = search (level_fails, product_leans)

pub product-sign-requires : goal.product-sign-requires
product-sign-requires t c = ((room_growing c.loop-found.invariant c.prefix-found.ensures c.in-Some.is c.requires).ahead, omega arith)

pub product-returns-in_default-sign : goal.product-returns-in_default-sign
unfolding tighter level_of
product-returns-in_default-sign t c = search (level_ends, product_leans)

pub product-prefix-right-requires : goal.product-prefix-right-requires
product-prefix-right-requires t c = (let a = growing_further c.loop-found.invariant c.prefix-found.ensures c.in-Some.is in let b = (sign_further c.sign.ensures c.in-Some-sign.is).from in let o = (sign_further c.sign.ensures c.in-Some-sign.is).ahead.order in let i = (sign_further c.sign.ensures c.in-Some-sign.is).ahead.within in omega arith, room_further (room_growing c.loop-found.invariant c.prefix-found.ensures c.in-Some.is c.requires) (sign_further c.sign.ensures c.in-Some-sign.is))

pub product-joined-found-requires : goal.product-joined-found-requires
product-joined-found-requires t c = (right_long c.prefix-right.ensures (room_growing c.loop-found.invariant c.prefix-found.ensures c.in-Some.is c.requires), search growing_some, right_behind c.prefix-right.ensures (room_growing c.loop-found.invariant c.prefix-found.ensures c.in-Some.is c.requires) (sign_further c.sign.ensures c.in-Some-sign.is) (omega (arith, c.well_formed)))

pub product-loop-found-smaller : goal.product-loop-found-smaller
product-loop-found-smaller t c = search (less_left, joined_less, sign_further)

pub product-loop-found-preserved : goal.product-loop-found-preserved
unfolding tighter level_of
product-loop-found-preserved t c = search level_turn

pub sum-loop-found-init : goal.sum-loop-found-init
sum-loop-found-init t c = search growing_start

pub sum-returns : goal.sum-returns
unfolding tighter
sum-returns t c = search (level_fails, sum_leans)

pub sum-sign-requires : goal.sum-sign-requires
sum-sign-requires t c = ((room_growing c.loop-found.invariant c.product-found.ensures c.in-Some.is c.requires).ahead, omega arith)

pub sum-returns-in_default-sign : goal.sum-returns-in_default-sign
unfolding tighter level_of
sum-returns-in_default-sign t c = search (level_ends, sum_leans)

pub sum-product-right-requires : goal.sum-product-right-requires
sum-product-right-requires t c = (let a = growing_further c.loop-found.invariant c.product-found.ensures c.in-Some.is in let b = (sign_further c.sign.ensures c.in-Some-sign.is).from in let o = (sign_further c.sign.ensures c.in-Some-sign.is).ahead.order in let i = (sign_further c.sign.ensures c.in-Some-sign.is).ahead.within in omega arith, room_further (room_growing c.loop-found.invariant c.product-found.ensures c.in-Some.is c.requires) (sign_further c.sign.ensures c.in-Some-sign.is))

pub sum-joined-found-requires : goal.sum-joined-found-requires
sum-joined-found-requires t c = (right_long c.product-right.ensures (room_growing c.loop-found.invariant c.product-found.ensures c.in-Some.is c.requires), search growing_some, right_behind c.product-right.ensures (room_growing c.loop-found.invariant c.product-found.ensures c.in-Some.is c.requires) (sign_further c.sign.ensures c.in-Some-sign.is) (omega (arith, c.well_formed)))

pub sum-loop-found-smaller : goal.sum-loop-found-smaller
sum-loop-found-smaller t c = search (less_left, joined_less, sign_further)

pub sum-loop-found-preserved : goal.sum-loop-found-preserved
unfolding tighter level_of
sum-loop-found-preserved t c = search level_turn

pub whole-loop-head-init : goal.whole-loop-head-init
whole-loop-head-init t c = search waiting_start

pub whole-let_head-requires : goal.whole-let_head-requires
whole-let_head-requires t c = search (room_waiting, rules)

pub whole-returns-in_err-u-in-Some : goal.whole-returns-in_err-u-in-Some
whole-returns-in_err-u-in-Some t c = rw c.from_residual.ensures (waiting_broken c.loop-head.invariant c.let_head.ensures (c.in-Some.is ∙ ap Some c.in_err-u-in-Some.was))

pub whole-overflow_add-lets : goal.whole-overflow_add-lets
whole-overflow_add-lets t c = search (waiting_few, waiting_head, c.in-Some.is ∙ ap Some c.in_ok-u-in-Some.was, rules)

pub whole-overflow_add-unread : goal.whole-overflow_add-unread
whole-overflow_add-unread t c = search (waiting_few, waiting_head, c.in-Some.is ∙ ap Some c.in_ok-u-in-Some.was, rules)

pub whole-loop-head-smaller-in-Some : goal.whole-loop-head-smaller-in-Some
whole-loop-head-smaller-in-Some t c = let f = head_further c.loop-head.invariant c.let_head.ensures (c.in-Some.is ∙ ap Some c.in_ok-u-in-Some.was) in omega (arith, f.from, f.ahead.order, f.ahead.within)

pub whole-loop-head-preserved-in-Some : goal.whole-loop-head-preserved-in-Some
whole-loop-head-preserved-in-Some t c = waiting_head c.loop-head.invariant c.let_head.ensures (c.in-Some.is ∙ ap Some c.in_ok-u-in-Some.was)

pub whole-disjunction-requires : goal.whole-disjunction-requires
whole-disjunction-requires t c = (omega arith, room_inside c.loop-head.invariant c.let_head.ensures c.in-None.is c.requires)

pub whole-returns-in_err-next-in-None : goal.whole-returns-in_err-next-in-None
whole-returns-in_err-next-in-None t c = rw c.from_residual-in_err-next-in-None.ensures (inside_fails c.loop-head.invariant c.let_head.ensures c.in-None.is c.disjunction.ensures c.in_err-next-in-None.was)

pub whole-close_lets-closed-requires : goal.whole-close_lets-closed-requires
whole-close_lets-closed-requires t c = let r = room_after (room_inside c.loop-head.invariant c.let_head.ensures c.in-None.is c.requires) (one_found c.disjunction.ensures c.in_ok-next-in-None.was) in (r.long, omega (arith, c.loop-head.invariant.least), omega (arith, found_some (one_found c.disjunction.ensures c.in_ok-next-in-None.was)), omega (arith, c.well_formed, r.few, r.ahead.order, r.ahead.within))

pub whole-overflow_add-m : goal.whole-overflow_add-m
whole-overflow_add-m t c = omega (arith, room_small (room_after (room_inside c.loop-head.invariant c.let_head.ensures c.in-None.is c.requires) (one_found c.disjunction.ensures c.in_ok-next-in-None.was)))

pub whole-returns-then-unread-eq0 : goal.whole-returns-then-unread-eq0
whole-returns-then-unread-eq0 t c = whole_ends c.loop-head.invariant c.let_head.ensures c.in-None.is c.disjunction.ensures c.in_ok-next-in-None.was c.close_lets-closed.ensures c.if-unread-eq0.true

pub whole-after-requires : goal.whole-after-requires
whole-after-requires t c = ((one_found c.disjunction.ensures c.in_ok-next-in-None.was).ahead, λ e. omega arith)

pub whole-returns-in_err-u-in-None : goal.whole-returns-in_err-u-in-None
whole-returns-in_err-u-in-None t c = rw c.from_residual-in_err-u-in-None.ensures (in_missing c.loop-head.invariant c.let_head.ensures c.in-None.is c.disjunction.ensures c.in_ok-next-in-None.was c.close_lets-closed.ensures c.if-unread-eq0.false c.after.ensures c.in_err-u-in-None.was)

pub whole-end_value-requires : goal.whole-end_value-requires
whole-end_value-requires t c = omega (arith, c.requires.long, (turn_kept c.loop-head.invariant c.let_head.ensures c.in-None.is c.disjunction.ensures c.in_ok-next-in-None.was c.close_lets-closed.ensures).size)

pub whole-overflow_sub-unread : goal.whole-overflow_sub-unread
whole-overflow_sub-unread t c = search pos_of_ne-zero

pub whole-loop-head-smaller : goal.whole-loop-head-smaller
whole-loop-head-smaller t c = omega (arith, found_further (one_found c.disjunction.ensures c.in_ok-next-in-None.was), (after_further c.after.ensures c.in_ok-u-in-None.was).from, (after_further c.after.ensures c.in_ok-u-in-None.was).ahead.order, (after_further c.after.ensures c.in_ok-u-in-None.was).ahead.within)

pub whole-loop-head-preserved : goal.whole-loop-head-preserved
whole-loop-head-preserved t c = body_next c.loop-head.invariant c.let_head.ensures c.in-None.is c.disjunction.ensures c.in_ok-next-in-None.was c.close_lets-closed.ensures c.if-unread-eq0.false c.after.ensures c.in_ok-u-in-None.was c.end_value.ensures
