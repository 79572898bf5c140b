-- `run_end` meets its contract.
use mathlib.Core.Path.{◌≡◌, sym, ◌∙◌}
use native.Mathlib.Omega.{arith}
use lib.ListN.{length}
use Rattle.tokens.proofs.TokenLaws.{run_here, run_next, run_none}
use Rattle.tokens.proofs.cutting.run_end.Goals as goal

pub returns-then-not-in_word : goal.returns-then-not-in_word
returns-then-not-in_word c = record { is = run_here _ _ c.loop-i.invariant c.loop-i-test.true (sym c.in_word.ensures ∙ c.if-not-in_word.true); within = omega arith }

pub loop-i-preserved : goal.loop-i-preserved
loop-i-preserved c = run_next _ _ c.loop-i.invariant c.loop-i-test.true (sym c.in_word.ensures ∙ c.if-not-in_word.false)

pub returns : goal.returns
returns c =
    let all : length c.args.s.now ≡ c.loop-i.i = omega arith in
    record { is = all ∙ run_none _ _ c.loop-i.invariant c.loop-i-test.false; within = omega arith }
