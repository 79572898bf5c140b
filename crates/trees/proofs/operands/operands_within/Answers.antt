-- `operands_within` meets its contract.
use borrow.Author.Rules.{rules}
use borrow.Author.Tests.{tests}
use native.Mathlib.Omega.{arith}
use Prim.Native.Nat.{ℕ}
use mathlib.Core.Path.{ap, ◌∙◌}
use lib.Dec.{ltb}
use lib.ListN.{take, drop}
use Rattle.std.proofs.lemmas.Iterator.{YieldsList-from_slice}
use Rattle.std.proofs.lemmas.Iterator.Search.{all_from_yields_List}
use Rattle.shapes.specs.Forms.{operands_at}
use Rattle.trees.proofs.OperandLaws.{all_within}
use Rattle.trees.proofs.operands.operands_within.Goals as goal

pub returns : goal.returns
returns c = all_within _ (all_from_yields_List (λ a. ltb a 768) _ _ _ c.all.ensures.ran (YieldsList-from_slice (operands_at c.args.words c.args.count) (c.iter.ensures.rest ∙ ap (λ (n : ℕ). take n (drop 1 c.args.words)) (omega arith))) (λ x b q k. search (rules, tests)))
