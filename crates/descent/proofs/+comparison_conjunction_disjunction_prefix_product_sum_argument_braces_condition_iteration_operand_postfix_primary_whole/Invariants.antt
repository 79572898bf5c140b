-- The measures of the cycle of calls: what is left of the text, and then the level.
use Prim.Native.Nat.{◌+◌, ◌*◌, ◌-◌}
use lib.ListN.{length}
use Rattle.descent.proofs.MemberLaws.{Gathering}
use Rattle.sheet.specs.Grammar.Sentences.{conjunction as conjunction_level, disjunction as disjunction_level, product as product_level, sum as sum_level}
use Rattle.importer.proofs.AnswerLaws.{Chained}
use Rattle.descent.proofs.GrowthLaws.{Growing, left_of}
use Rattle.importer.specs.Steps.{Stepped}
use Rattle.descent.proofs.WaitingLaws.{Waiting}
use Rattle.descent.proofs.+comparison_conjunction_disjunction_prefix_product_sum_argument_braces_condition_iteration_operand_postfix_primary_whole.Given as goal

abbrev pub decreases-terms::argument : goal.decreases-terms::argument
decreases-terms::argument l = 32 * (length l.s.now - l.t.start) + 17

abbrev pub decreases-terms::braces : goal.decreases-terms::braces
decreases-terms::braces l = 32 * (length l.s.now - l.t.start) + 16

abbrev pub decreases-comparison : goal.decreases-comparison
decreases-comparison l = 32 * (length l.s.now - l.t.start) + 10

abbrev pub decreases-terms::condition : goal.decreases-terms::condition
decreases-terms::condition l = 32 * (length l.s.now - l.t.start) + 17

abbrev pub decreases-conjunction : goal.decreases-conjunction
decreases-conjunction l = 32 * (length l.s.now - l.t.start) + 12

abbrev pub decreases-disjunction : goal.decreases-disjunction
decreases-disjunction l = 32 * (length l.s.now - l.t.start) + 14

abbrev pub decreases-terms::iteration : goal.decreases-terms::iteration
decreases-terms::iteration l = 32 * (length l.s.now - l.t.start) + 17

abbrev pub decreases-terms::operand : goal.decreases-terms::operand
decreases-terms::operand l = 32 * (length l.s.now - l.t.start) + 16

abbrev pub decreases-terms::postfix : goal.decreases-terms::postfix
decreases-terms::postfix l = 32 * (length l.s.now - l.t.start) + 3

abbrev pub decreases-prefix : goal.decreases-prefix
decreases-prefix l = 32 * (length l.s.now - l.t.start) + 4

abbrev pub decreases-terms::primary : goal.decreases-terms::primary
decreases-terms::primary l = 32 * (length l.s.now - l.t.start) + 2

abbrev pub decreases-product : goal.decreases-product
decreases-product l = 32 * (length l.s.now - l.t.start) + 6

abbrev pub decreases-sum : goal.decreases-sum
decreases-sum l = 32 * (length l.s.now - l.t.start) + 8

abbrev pub decreases-whole : goal.decreases-whole
decreases-whole l = 32 * (length l.s.now - l.t.start) + 15

abbrev pub invariant-terms::braces-loop-m : goal.invariant-terms::braces-loop-m
invariant-terms::braces-loop-m l = Gathering l.k l.s l.initial.u l.n l.d l.initial.w2 l.at l.m l.u l.nodes l.w2

abbrev pub invariant-conjunction-loop-found : goal.invariant-conjunction-loop-found
invariant-conjunction-loop-found l = Growing (Chained conjunction_level) l.k l.s l.d l.initial.found l.initial.w2 l.found l.w2

abbrev pub decreases-conjunction-loop-found : goal.decreases-conjunction-loop-found
decreases-conjunction-loop-found l = left_of l.s l.found

abbrev pub invariant-disjunction-loop-found : goal.invariant-disjunction-loop-found
invariant-disjunction-loop-found l = Growing (Chained disjunction_level) l.k l.s l.d l.initial.found l.initial.w2 l.found l.w2

abbrev pub decreases-disjunction-loop-found : goal.decreases-disjunction-loop-found
decreases-disjunction-loop-found l = left_of l.s l.found

abbrev pub invariant-terms::postfix-loop-found : goal.invariant-terms::postfix-loop-found
invariant-terms::postfix-loop-found l = Growing Stepped l.k l.s l.d l.initial.found l.initial.w2 l.found l.w2

abbrev pub decreases-terms::postfix-loop-found : goal.decreases-terms::postfix-loop-found
decreases-terms::postfix-loop-found l = left_of l.s l.found

abbrev pub invariant-product-loop-found : goal.invariant-product-loop-found
invariant-product-loop-found l = Growing (Chained product_level) l.k l.s l.d l.initial.found l.initial.w2 l.found l.w2

abbrev pub decreases-product-loop-found : goal.decreases-product-loop-found
decreases-product-loop-found l = left_of l.s l.found

abbrev pub invariant-sum-loop-found : goal.invariant-sum-loop-found
invariant-sum-loop-found l = Growing (Chained sum_level) l.k l.s l.d l.initial.found l.initial.w2 l.found l.w2

abbrev pub decreases-sum-loop-found : goal.decreases-sum-loop-found
decreases-sum-loop-found l = left_of l.s l.found

abbrev pub invariant-whole-loop-head : goal.invariant-whole-loop-head
invariant-whole-loop-head l = Waiting l.k l.s l.initial.u l.n l.d l.initial.w2 l.u l.nodes l.lets l.unread l.w2

abbrev pub decreases-whole-loop-head : goal.decreases-whole-loop-head
decreases-whole-loop-head l = length l.s - l.u.start
