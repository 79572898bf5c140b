-- `evaluate_on` meets its contract. Assumes nothing.
use mathlib.Core.Logic.{⊎_elim}
use native.Mathlib.Omega.{arith}
use Rattle.tables.proofs.Tables.{kept_refl}
use Rattle.answering.proofs.EvaluateCalls.{no_rule, no_object, other_class}
use Rattle.answering.proofs.evaluate.evaluate_on.Goals as goal

pub returns-then-st-r : goal.returns-then-st-r
returns-then-st-r c =
    let e = rw c.at.ensures at c.from.ensures in
    (⊎_elim (λ h. no_rule _ _ _ h e) (λ h. no_object _ h.0 h.1 e) c.then-st-r.either, kept_refl _)

pub evaluate_typed-requires : goal.evaluate_typed-requires
evaluate_typed-requires c = record { lent = (c.requires.0, c.requires.1); r_lt_rules = (omega (arith, c.wide-i.ensures, c.if-st-r.false), c.if-st-o.false, rw c.if-is_a.true at c.is_a.ensures) }

pub returns-then-is_a : goal.returns-then-is_a
returns-then-is_a c = rw c.wide-i.ensures at c.evaluate_typed.ensures

pub returns : goal.returns
returns c = (other_class _ c.if-st-r.false c.if-st-o.false (rw (c.if-is_a.false, c.wide-i.ensures) at c.is_a.ensures) (rw c.at-2.ensures at c.from-2.ensures), kept_refl _)
