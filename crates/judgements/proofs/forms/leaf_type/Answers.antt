-- `leaf_type` meets its contract. Assumes nothing.
use mathlib.Core.Path.{ap, ◌∙◌}
use native.Mathlib.Omega.{arith}
use Rattle.judgements.proofs.FormTypes.{leaf_truth, leaf_void, leaf_number, leaf_self, leaf_var, leaf_all}
use Rattle.ocl.specs.Typing.{bound_type}
use Rattle.ocl.specs.Types.{around, exactly, set, Class}
use Rattle.judgements.specs.Replies.{env_of}
use Prim.Native.Nat.{ℕ, ◌%◌}
use Rattle.nodes.specs.Nodes.{class_in}
use Rattle.judgements.proofs.forms.leaf_type.Goals as goal

pub returns-in-2 : goal.returns-in-2
returns-in-2 c = search leaf_void

pub returns-in-3 : goal.returns-in-3
returns-in-3 c = search leaf_number

pub returns-in-4 : goal.returns-in-4
returns-in-4 c = search leaf_self

pub returns-in-5 : goal.returns-in-5
returns-in-5 c = leaf_var _ _ _ _ c.in-5.is (c.bound-in-5.ensures ∙ ap (λ (i : ℕ). bound_type c.args.n (env_of c.args.env (i % 16))) (c.wide.ensures ∙ c.node_word-in-5.ensures))

pub returns-in-0-to-1 : goal.returns-in-0-to-1
returns-in-0-to-1 c = leaf_truth _ _ _ _ (omega arith) c.plain-in-0-to-1.ensures

pub returns-in_default : goal.returns-in_default
returns-in_default c = leaf_all _ _ _ _ (omega arith) (omega arith) (omega arith) (omega arith) (omega arith) (c.set_of_class.ensures ∙ ap (λ (i : ℕ). around (exactly set) (Class (class_in i))) c.node_word-in_default.ensures)
