-- The forms with a single operand: what the type of a node's operand leads to. Document 01, The forms and their typing;
-- document 02, F-13.
use Rattle.std.specs.Prelude.{ℕ, eqb}
use Rattle.std.specs.Prelude.{if◌then◌else◌}
use Rattle.memory.specs.Codes as code
use Rattle.ocl.specs.Types.{Ty, Boolean}
use Rattle.ocl.specs.Forms.{of_object, of_members}
use Rattle.ocl.specs.Model.{Schema}
use Rattle.ocl.specs.Typing.{typed, Typed, pure, unary_type, attribute_type, call_type}
use Rattle.types.specs.Word.{type_in}
use Rattle.nodes.specs.Nodes.{class_in, unary_of}

-- node n of code k with the words w: `isUndef`, `attr`, `collect`, `call`, or a strict form (`not` to `as`)
unfoldable pub single_type : Schema → ℕ → ℕ → (ℕ → ℕ) → Ty → Typed
single_type m n k w t =
    if eqb k code.is_undef then pure (typed Boolean)
    else if eqb k code.of_object then attribute_type m n of_object (w 2) t
    else if eqb k code.of_members then attribute_type m n of_members (w 2) t
    else if eqb k code.call then pure (call_type m n (class_in (w 3)) (type_in (w 4)) t)
    else pure (unary_type m n (unary_of k w) t)

-- the code of the letter that `collect` gives, by that of its operand
unfoldable pub collect_code : ℕ → ℕ
collect_code c = if eqb c 3 then 3 else 4
