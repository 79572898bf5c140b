-- `unary_type` meets its contract. Assumes nothing.
use mathlib.Core.Path.{ap, ◌∙◌}
use native.Mathlib.Omega.{arith}
use Rattle.judgements.proofs.FormTypes.{unary_not, unary_size, unary_convert, unary_cast}
use Prim.Native.Nat.{ℕ}
use Rattle.types.specs.Flat.{ty_of}
use Rattle.ocl.specs.Typing.{cast_type}
use Rattle.nodes.specs.Nodes.{class_in}
use Rattle.judgements.proofs.forms.unary_type.Goals as goal

pub returns-in-7 : goal.returns-in-7
returns-in-7 c = λ m e. unary_not m _ _ _ _ c.in-7.is (c.condition.ensures m e)

pub returns-in-8 : goal.returns-in-8
returns-in-8 c = search unary_size

pub returns-in-9-to-11 : goal.returns-in-9-to-11
returns-in-9-to-11 c = λ m e. unary_convert m _ _ _ _ (omega arith) (omega arith) c.converted.ensures

pub returns-in_default : goal.returns-in_default
returns-in_default c = λ m e. unary_cast m _ _ _ _ (omega arith) (omega arith) (λ l h. omega arith) (c.cast_type.ensures m e ∙ ap (λ (k : ℕ). cast_type m c.args.n (class_in k) (ty_of c.args.t)) c.node_word.ensures)
