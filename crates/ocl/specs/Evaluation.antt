-- Document 01, Evaluation: from an environment and the steps so far to an outcome with the steps then begun.
use Rattle.std.specs.Prelude.{Bool, true, false, not, ℕ, ◌+◌, ltb}
use Rattle.std.specs.Bool.{beq}
use Rattle.std.proofs.Math.Option.{Option, none, some}
use Rattle.std.specs.Prelude.{if◌then◌else◌}
use Rattle.ocl.specs.Types.{class, Kind, set}
use Rattle.ocl.specs.Values.{Value, bool, num, obj, coll, Values, nil, cons, add}
use Rattle.ocl.specs.Model.{Model, is_a}
use Rattle.ocl.specs.Environment.{Env, extend, start}
use Rattle.ocl.specs.Marks.{Mark}
use Rattle.ocl.specs.Forms.{Connective, and, or, Quantifier, for_all, exists, Access, Leaf, truth, undef, number, self, var, all, Unary, Binary, Expr, node, Form, leaf, unary, binary, connective, is_undef, conditional, let_in, attribute, call, quantified, iterate, assemble, Operands, no_operand, operand}
use Rattle.ocl.specs.Operations.{Outcome, value, undefined, stuck, stop, form, on_bool, on_obj, on_coll, instances, unary_apply, left_fits, binary_apply, access}

-- a node's evaluation
abbrev pub Run : Type 0
Run = Env Value → ℕ → Outcome

-- what follows a value, and what follows undefined; stuck and stops end the whole: "no form turns" them "into a value or undefined"
abbrev pub resume : Outcome → (Value → ℕ → Outcome) → (ℕ → Outcome) → Outcome
resume (value v n) k u = k v n
resume (undefined n) k u = u n
resume stuck k u = stuck
resume (stop c n) k u = stop c n

-- "a strict form ends undefined at its first undefined operand"
abbrev pub bind : Outcome → (Value → ℕ → Outcome) → Outcome
bind (value v n) k = k v n
bind (undefined n) k = undefined n
bind stuck k = stuck
bind (stop c n) k = stop c n

-- so many steps may begin, before "a 1,000,001st step is due"
abbrev pub most_steps : ℕ
most_steps = 1000000

-- "One step is counted as a node begins"; "The step stop is 16"
unfoldable pub tick : Run → Run
tick f ρ n = if ltb n most_steps then f ρ (n + 1) else stop 16 n

-- ---- each form over its operands' evaluations

-- "an unbound variable, ends the whole evaluation in the outcome *stuck*"
abbrev pub bound : Option Value → ℕ → Outcome
bound none n = stuck
bound (some v) n = value v n

unfoldable pub leaf_run : Model → Leaf → Run
leaf_run s (truth b) ρ n = value (bool b) n
leaf_run s undef ρ n = undefined n
leaf_run s (number x) ρ n = value (num x) n
leaf_run s self ρ n = bound (ρ 0) n
leaf_run s (var i) ρ n = bound (ρ i) n
leaf_run s (all c) ρ n = form (coll set (instances s c s.object_count)) n

unfoldable pub unary_run : Model → Unary → Run → Run
unary_run s op f ρ n = bind (f ρ n) (λ v n. unary_apply s op v n)

unfoldable pub binary_run : Mark → Binary → Run → Run → Run
binary_run m op f g ρ n = bind (f ρ n) (λ v n. if left_fits m op v then bind (g ρ n) (λ w n. binary_apply m op v w n) else stuck)

-- the side that decides: `and`, where "false on either side gives false", and "`or` likewise with true"
unfoldable pub decides : Connective → Bool
decides and = false
decides or = true

-- "a false left side leaves the right unrun"; a side that does not decide: "else undefined on either side gives undefined"
unfoldable pub connective_run : Connective → Run → Run → Run
connective_run c f g ρ n = resume (f ρ n)
    (λ v n. on_bool v (λ a. if beq a (decides c) then value (bool a) n else bind (g ρ n) (λ w n. on_bool w (λ b. value (bool b) n))))
    (λ n. bind (g ρ n) (λ w n. on_bool w (λ b. if beq b (decides c) then value (bool b) n else undefined n)))

unfoldable pub is_undef_run : Run → Run
is_undef_run f ρ n = resume (f ρ n) (λ v n. value (bool false) n) (λ n. value (bool true) n)

-- "`if`, strict in its condition only and running one branch"
unfoldable pub conditional_run : Run → Run → Run → Run
conditional_run f g h ρ n = bind (f ρ n) (λ v n. on_bool v (λ b. if b then g ρ n else h ρ n))

-- `let` is strict; "letting `let` pass undefined on" is one of the mistakes to shut out
unfoldable pub let_run : ℕ → Run → Run → Run
let_run i f g ρ n = bind (f ρ n) (λ v n. g (extend ρ i v) n)

unfoldable pub attribute_run : Model → Access → Mark → Run → Run
attribute_run s x m f ρ n = bind (f ρ n) (λ v n. access s x m v n)

-- document 02, F-13: `call` "binds it as `self`, hides all other variables"; "Its kind is an object of c or below"
unfoldable pub call_run : Model → ℕ → Run → Run → Run
call_run s c f g ρ n = bind (f ρ n) (λ v n. on_obj v (λ o. if is_a s o (class c) then g (start (obj o)) n else stuck))

-- the body that ends it: false for `forAll`, true for `exists`
unfoldable pub ends_at : Quantifier → Bool
ends_at for_all = false
ends_at exists = true

-- document 02, F-2: "`forAll` runs members until one body is false and is then false; with none false it is undefined if any body was
-- undefined, else true. `exists` mirrors it with true". blank: a body before these members was undefined
unfoldable pub seek : Quantifier → (Value → ℕ → Outcome) → Bool → Values → ℕ → Outcome
seek q body blank nil n = if blank then undefined n else value (bool (not (ends_at q))) n
seek q body blank (cons v vs) n = resume (body v n)
    (λ w n. on_bool w (λ b. if beq b (ends_at q) then value (bool b) n else seek q body blank vs n))
    (λ n. seek q body true vs n)

unfoldable pub quantified_run : Quantifier → ℕ → Run → Run → Run
quantified_run q i f g ρ n = bind (f ρ n) (λ v n. on_coll v (λ k vs. seek q (λ x. g (extend ρ i x)) false vs n))

-- "`iter` goes through members in the stored order, ending undefined at the first undefined accumulator"
unfoldable pub fold : (Value → Value → ℕ → Outcome) → Values → Value → ℕ → Outcome
fold body nil a n = value a n
fold body (cons v vs) a n = bind (body v a n) (λ b n. fold body vs b n)

-- i is the member, j the accumulator, which starts as e's value
unfoldable pub iterate_run : ℕ → ℕ → Run → Run → Run → Run
iterate_run i j f g h ρ n =
    bind (f ρ n) (λ v n. on_coll v (λ k vs. bind (g ρ n) (λ a n. fold (λ x y. h (extend (extend ρ i x) j y)) vs a n)))

-- `coll`: from the members so far
abbrev pub Gather : Type 0
Gather = Kind → Values → Run

-- the collection is formed once its last member is there
unfoldable pub no_operand_run : Gather
no_operand_run k vs ρ n = form (coll k vs) n

unfoldable pub operand_run : Run → Gather → Gather
operand_run f g k vs ρ n = bind (f ρ n) (λ v n. g k (add k v vs) ρ n)

unfoldable pub assemble_run : Kind → Gather → Run
assemble_run k g ρ n = g k nil ρ n

-- evaluation reads marks and no types: of `attr` and `collect`, and of `plus`, `minus`, `times` and `less` (document 02, F-8)
unfoldable mutual
  pub evaluation : Model → (ℕ → Mark) → Expr → Run
  evaluation s mark (node p f) = tick (form_run s mark p f)

  pub form_run : Model → (ℕ → Mark) → ℕ → Form → Run
  form_run s mark p (leaf l) = leaf_run s l
  form_run s mark p (unary op a) = unary_run s op (evaluation s mark a)
  form_run s mark p (binary op a b) = binary_run (mark p) op (evaluation s mark a) (evaluation s mark b)
  form_run s mark p (connective c a b) = connective_run c (evaluation s mark a) (evaluation s mark b)
  form_run s mark p (is_undef a) = is_undef_run (evaluation s mark a)
  form_run s mark p (conditional c a b) = conditional_run (evaluation s mark c) (evaluation s mark a) (evaluation s mark b)
  form_run s mark p (let_in i a b) = let_run i (evaluation s mark a) (evaluation s mark b)
  form_run s mark p (attribute x name a) = attribute_run s x (mark p) (evaluation s mark a)
  form_run s mark p (call c t a b) = call_run s c (evaluation s mark a) (evaluation s mark b)
  form_run s mark p (quantified q i a b) = quantified_run q i (evaluation s mark a) (evaluation s mark b)
  form_run s mark p (iterate i j t a e b) = iterate_run i j (evaluation s mark a) (evaluation s mark e) (evaluation s mark b)
  form_run s mark p (assemble k es) = assemble_run k (operands_run s mark es)

  pub operands_run : Model → (ℕ → Mark) → Operands → Gather
  operands_run s mark no_operand = no_operand_run
  operands_run s mark (operand e es) = operand_run (evaluation s mark e) (operands_run s mark es)

-- a rule for an object, which is `self`, from no step
unfoldable pub evaluate_rule : Model → (ℕ → Mark) → Expr → ℕ → Outcome
evaluate_rule s mark e o = evaluation s mark e (start (obj o)) 0
