-- `leaf` meets its contract. Assumes nothing.
use native.Mathlib.Omega.{arith}
use mathlib.Core.Bool.{true, false}
use mathlib.Core.Path.{◌≡◌}
use Rattle.operations.proofs.LeafLaws.{leaf_truth, leaf_undef, leaf_number, leaf_self, leaf_var, leaf_all, code_0, code_1}
use Rattle.operations.proofs.leaves.leaf.Goals as goal

pub returns-in-0 : goal.returns-in-0
returns-in-0 c = leaf_truth _ _ false (code_0 _ _ c.in-0.is) c.put.ensures

pub returns-in-1 : goal.returns-in-1
returns-in-1 c = leaf_truth _ _ true (code_1 _ _ c.in-1.is) c.put-in-1.ensures

pub returns-in-2 : goal.returns-in-2
returns-in-2 c = leaf_undef _ _ c.in-2.is

pub returns-in-3 : goal.returns-in-3
returns-in-3 c = search leaf_number

pub returns-in-4 : goal.returns-in-4
returns-in-4 c = search leaf_self

pub returns-in-5 : goal.returns-in-5
returns-in-5 c = search leaf_var

pub returns-in_default : goal.returns-in_default
returns-in_default c = let e : c.args.form ≡ 6 = omega (arith, c.requires, c.in_default.in_default-own.rest) in leaf_all _ _ _ e (omega arith) c.instances.ensures c.formed.ensures
