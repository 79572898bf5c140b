-- Document 02, F-11: evaluation that also says where undefined arose. It ends as evaluation does, and undefined arose where it says
-- (Origin.antt, OriginLaw).
use Rattle.std.specs.Prelude.{Bool, true, false, not, ℕ, ◌+◌, ltb}
use Rattle.std.specs.Bool.{beq}
use Rattle.std.proofs.Math.Option.{Option, none, some}
use Rattle.std.specs.Prelude.{if◌then◌else◌}
use Rattle.ocl.specs.Types.{class, Kind}
use Rattle.ocl.specs.Values.{Value, bool, num, obj, coll, Values, nil, cons, add}
use Rattle.ocl.specs.Model.{Model, is_a}
use Rattle.ocl.specs.Environment.{Env, extend, start}
use Rattle.ocl.specs.Forms.{Connective, Quantifier, Access, Leaf, Unary, Binary, Expr, node, Form, leaf, unary, binary, connective, is_undef, conditional, let_in, attribute, call, quantified, iterate, assemble, Operands, no_operand, operand}
use Rattle.ocl.specs.Marks.{Mark}
use Rattle.ocl.specs.Operations.{Outcome, value, undefined, stuck, stop, form, unary_apply, left_fits, binary_apply, access}
use Rattle.ocl.specs.Evaluation.{most_steps, leaf_run, decides, ends_at}

-- an outcome, whose undefined also has the node at which it arose and the step at which that node began
pub data Traced : Type 0 where
  value_t : Value → ℕ → Traced
  undefined_t : ℕ → ℕ → ℕ → Traced
  stuck_t : Traced
  stop_t : ℕ → ℕ → Traced

-- the outcome alone
abbrev pub untraced : Traced → Outcome
untraced (value_t v n) = value v n
untraced (undefined_t n p k) = undefined n
untraced stuck_t = stuck
untraced (stop_t c n) = stop c n

-- what node p, which began at step k, makes of defined operands: its undefined arose there
abbrev pub at : ℕ → ℕ → Outcome → Traced
at p k (value v n) = value_t v n
at p k (undefined n) = undefined_t n p k
at p k stuck = stuck_t
at p k (stop c n) = stop_t c n

-- what follows a value, and what follows undefined
abbrev pub resume_t : Traced → (Value → ℕ → Traced) → (ℕ → ℕ → ℕ → Traced) → Traced
resume_t (value_t v n) f u = f v n
resume_t (undefined_t n p k) f u = u n p k
resume_t stuck_t f u = stuck_t
resume_t (stop_t c n) f u = stop_t c n

-- a strict form's undefined arose where its operand's did
abbrev pub bind_t : Traced → (Value → ℕ → Traced) → Traced
bind_t (value_t v n) f = f v n
bind_t (undefined_t n p k) f = undefined_t n p k
bind_t stuck_t f = stuck_t
bind_t (stop_t c n) f = stop_t c n

-- ---- the kinds that an operand may have

abbrev pub on_bool_t : Value → (Bool → Traced) → Traced
on_bool_t (bool b) f = f b
on_bool_t (num x) f = stuck_t
on_bool_t (obj o) f = stuck_t
on_bool_t (coll c vs) f = stuck_t

abbrev pub on_obj_t : Value → (ℕ → Traced) → Traced
on_obj_t (bool b) f = stuck_t
on_obj_t (num x) f = stuck_t
on_obj_t (obj o) f = f o
on_obj_t (coll c vs) f = stuck_t

abbrev pub on_coll_t : Value → (Values → Traced) → Traced
on_coll_t (bool b) f = stuck_t
on_coll_t (num x) f = stuck_t
on_coll_t (obj o) f = stuck_t
on_coll_t (coll c vs) f = f vs

-- ---- each form over its operands; p is its node, which began at step n

-- a node's evaluation
abbrev pub Trace : Type 0
Trace = Env Value → ℕ → Traced

unfoldable pub leaf_trace : Model → ℕ → Leaf → Trace
leaf_trace s p l ρ n = at p n (leaf_run s l ρ n)

unfoldable pub unary_trace : Model → ℕ → Unary → Trace → Trace
unary_trace s p op f ρ n = bind_t (f ρ n) (λ v m. at p n (unary_apply s op v m))

unfoldable pub binary_trace : ℕ → Mark → Binary → Trace → Trace → Trace
binary_trace p m op f g ρ n = bind_t (f ρ n) (λ v i. if left_fits m op v then bind_t (g ρ i) (λ w j. at p n (binary_apply m op v w j)) else stuck_t)

-- "where two operands were undefined, the left one is followed"
unfoldable pub connective_trace : Connective → Trace → Trace → Trace
connective_trace c f g ρ n = resume_t (f ρ n)
    (λ v n. on_bool_t v (λ a. if beq a (decides c) then value_t (bool a) n else bind_t (g ρ n) (λ w n. on_bool_t w (λ b. value_t (bool b) n))))
    (λ n q j. resume_t (g ρ n)
    (λ w n. on_bool_t w (λ b. if beq b (decides c) then value_t (bool b) n else undefined_t n q j)) (λ n q' j'. undefined_t n q j))

unfoldable pub is_undef_trace : Trace → Trace
is_undef_trace f ρ n = resume_t (f ρ n) (λ v n. value_t (bool false) n) (λ n q j. value_t (bool true) n)

unfoldable pub conditional_trace : Trace → Trace → Trace → Trace
conditional_trace f g h ρ n = bind_t (f ρ n) (λ v n. on_bool_t v (λ b. if b then g ρ n else h ρ n))

-- `let` is strict: its e is followed where that is undefined, and no body ran; else its body
unfoldable pub let_trace : ℕ → Trace → Trace → Trace
let_trace i f g ρ n = bind_t (f ρ n) (λ v n. g (extend ρ i v) n)

-- members are no nodes, so that a member without a value makes `collect` the node that is named
unfoldable pub attribute_trace : Model → ℕ → Access → Mark → Trace → Trace
attribute_trace s p x m f ρ n = bind_t (f ρ n) (λ v k. at p n (access s x m v k))

-- F-13: "in F-11 the body is the call's operand"
unfoldable pub call_trace : Model → ℕ → Trace → Trace → Trace
call_trace s c f g ρ n = bind_t (f ρ n) (λ v n. on_obj_t v (λ o. if is_a s o (class c) then g (start (obj o)) n else stuck_t))

-- a node and a step, unless there were some before
abbrev pub earlier : Option (ℕ × ℕ) → ℕ → ℕ → Option (ℕ × ℕ)
earlier none p k = some (p, k)
earlier (some x) p k = some x

-- no member is left, and no body has decided
abbrev pub undecided : Quantifier → Option (ℕ × ℕ) → ℕ → Traced
undecided q none n = value_t (bool (not (ends_at q))) n
undecided q (some x) n = undefined_t n x.0 x.1

-- "the first undefined body is followed": blank is where its undefined arose, if there was one before these members
unfoldable pub seek_t : Quantifier → (Value → ℕ → Traced) → Option (ℕ × ℕ) → Values → ℕ → Traced
seek_t q body blank nil n = undecided q blank n
seek_t q body blank (cons v vs) n = resume_t (body v n)
    (λ w n. on_bool_t w (λ b. if beq b (ends_at q) then value_t (bool b) n else seek_t q body blank vs n))
    (λ n p k. seek_t q body (earlier blank p k) vs n)

unfoldable pub quantified_trace : Quantifier → ℕ → Trace → Trace → Trace
quantified_trace q i f g ρ n = bind_t (f ρ n) (λ v n. on_coll_t v (λ vs. seek_t q (λ x. g (extend ρ i x)) none vs n))

unfoldable pub fold_t : (Value → Value → ℕ → Traced) → Values → Value → ℕ → Traced
fold_t body nil a n = value_t a n
fold_t body (cons v vs) a n = bind_t (body v a n) (λ b n. fold_t body vs b n)

unfoldable pub iterate_trace : ℕ → ℕ → Trace → Trace → Trace → Trace
iterate_trace i j f g h ρ n =
    bind_t (f ρ n) (λ v n. on_coll_t v (λ vs. bind_t (g ρ n) (λ a n. fold_t (λ x y. h (extend (extend ρ i x) j y)) vs a n)))

-- `coll` at node p, which began at step k: from the members so far
abbrev pub GatherT : Type 0
GatherT = ℕ → ℕ → Kind → Values → Trace

unfoldable pub no_operand_trace : GatherT
no_operand_trace p k c vs ρ n = at p k (form (coll c vs) n)

unfoldable pub operand_trace : Trace → GatherT → GatherT
operand_trace f g p k c vs ρ n = bind_t (f ρ n) (λ v n. g p k c (add c v vs) ρ n)

unfoldable pub assemble_trace : ℕ → Kind → GatherT → Trace
assemble_trace p c g ρ n = g p n c nil ρ n

-- ---- a node

-- its beginning is one step, so that the root, before which no step has begun, begins at step 1
unfoldable pub tick_t : Trace → Trace
tick_t f ρ n = if ltb n most_steps then f ρ (n + 1) else stop_t 16 n

unfoldable mutual
  pub trace : Model → (ℕ → Mark) → Expr → Trace
  trace s mark (node p f) = tick_t (form_trace s mark p f)

  pub form_trace : Model → (ℕ → Mark) → ℕ → Form → Trace
  form_trace s mark p (leaf l) = leaf_trace s p l
  form_trace s mark p (unary op a) = unary_trace s p op (trace s mark a)
  form_trace s mark p (binary op a b) = binary_trace p (mark p) op (trace s mark a) (trace s mark b)
  form_trace s mark p (connective c a b) = connective_trace c (trace s mark a) (trace s mark b)
  form_trace s mark p (is_undef a) = is_undef_trace (trace s mark a)
  form_trace s mark p (conditional c a b) = conditional_trace (trace s mark c) (trace s mark a) (trace s mark b)
  form_trace s mark p (let_in i a b) = let_trace i (trace s mark a) (trace s mark b)
  form_trace s mark p (attribute x name a) = attribute_trace s p x (mark p) (trace s mark a)
  form_trace s mark p (call c t a b) = call_trace s c (trace s mark a) (trace s mark b)
  form_trace s mark p (quantified q i a b) = quantified_trace q i (trace s mark a) (trace s mark b)
  form_trace s mark p (iterate i j t a e b) = iterate_trace i j (trace s mark a) (trace s mark e) (trace s mark b)
  form_trace s mark p (assemble k es) = assemble_trace p k (operands_trace s mark es)

  pub operands_trace : Model → (ℕ → Mark) → Operands → GatherT
  operands_trace s mark no_operand = no_operand_trace
  operands_trace s mark (operand e es) = operand_trace (trace s mark e) (operands_trace s mark es)

-- a rule for an object, which is `self`, from no step
unfoldable pub trace_rule : Model → (ℕ → Mark) → Expr → ℕ → Traced
trace_rule s mark e o = trace s mark e (start (obj o)) 0
