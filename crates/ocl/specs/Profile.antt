-- Document 02, F-12: "a profile without `iter` and `asSequence`, and with no `union`, `including` or `collect` on a type `Q(..)`". Which
-- nodes of a rule stand outside it; typing's answers are asked for again where that follows a type.
use Rattle.std.specs.Prelude.{Bool, true, false, ◌&&◌, List, [], ◌∷◌, ◌++◌, ℕ}
use Rattle.std.specs.Prelude.{if◌then◌else◌}
use Rattle.ocl.specs.Types.{sequence, Letter, collection, exactly, Ty, Class, same_kind}
use Rattle.ocl.specs.Model.{Schema}
use Rattle.ocl.specs.Environment.{Env, extend, start}
use Rattle.ocl.specs.Forms.{Access, of_object, of_members, Unary, negation, size_of, convert, cast_to, Binary, equal, less, arith, divide, over, includes, including, union, Expr, node, Form, leaf, unary, binary, connective, is_undef, conditional, let_in, attribute, call, quantified, iterate, assemble, Operands, no_operand, operand}
use Rattle.ocl.specs.Typing.{Answer, typed, refused, on_collection, typing}

-- the letter is Q, which C is not
unfoldable pub is_q : Letter → Bool
is_q collection = false
is_q (exactly k) = same_kind k sequence

-- "on a type `Q(..)`"
unfoldable pub is_sequence : Ty → Bool
is_sequence t = on_collection t false (λ l m. is_q l)

-- `asSequence`
unfoldable pub makes_sequence : Unary → Bool
makes_sequence negation = false
makes_sequence size_of = false
makes_sequence (convert k) = same_kind k sequence
makes_sequence (cast_to c) = false

-- `union`, `including`
unfoldable pub joins : Binary → Bool
joins equal = false
joins less = false
joins (arith o) = false
joins (divide o) = false
joins over = false
joins includes = false
joins including = true
joins union = true

-- `collect`
unfoldable pub collects : Access → Bool
collects of_object = false
collects of_members = true

-- the node, where the test holds
unfoldable pub node_if : ℕ → Bool → List ℕ
node_if p b = if b then p ∷ [] else []

-- what follows for a type; a sheet with a refusal is never held to the profile
unfoldable pub for_type : Answer → (Ty → List ℕ) → List ℕ
for_type (typed t) f = f t
for_type (refused n q) f = []

-- the nodes outside, run or not; by F-13 with those of called bodies
unfoldable mutual
  pub outside : Schema → Expr → Env Ty → List ℕ
  outside s (node p f) Γ = outside_in s p f Γ

  pub outside_in : Schema → ℕ → Form → Env Ty → List ℕ
  outside_in s p (leaf l) Γ = []
  outside_in s p (unary op a) Γ = outside s a Γ ++ node_if p (makes_sequence op)
  outside_in s p (binary op a b) Γ = outside s a Γ ++ (outside s b Γ ++ for_type (typing s a Γ).answer (λ t. node_if p (joins op && is_sequence t)))
  outside_in s p (connective c a b) Γ = outside s a Γ ++ outside s b Γ
  outside_in s p (is_undef a) Γ = outside s a Γ
  outside_in s p (conditional c a b) Γ = outside s c Γ ++ (outside s a Γ ++ outside s b Γ)
  outside_in s p (let_in i a b) Γ = outside s a Γ ++ for_type (typing s a Γ).answer (λ t. outside s b (extend Γ i t))
  outside_in s p (attribute x name a) Γ = outside s a Γ ++ for_type (typing s a Γ).answer (λ t. node_if p (collects x && is_sequence t))
  outside_in s p (call c t a b) Γ = outside s a Γ ++ outside s b (start (Class c))
  outside_in s p (quantified q i a b) Γ =
      outside s a Γ ++ for_type (typing s a Γ).answer (λ t. on_collection t [] (λ l m. outside s b (extend Γ i m)))
  outside_in s p (iterate i j t a e b) Γ =
      outside s a Γ ++ (outside s e Γ ++ (for_type (typing s a Γ).answer (λ u. on_collection u [] (λ l m. outside s b (extend (extend Γ i m) j t)))
      ++ (p ∷ [])))
  outside_in s p (assemble k es) Γ = outside_of s es Γ

  pub outside_of : Schema → Operands → Env Ty → List ℕ
  outside_of s no_operand Γ = []
  outside_of s (operand e es) Γ = outside s e Γ ++ outside_of s es Γ

-- of a rule with context class c
unfoldable pub outside_rule : Schema → ℕ → Expr → List ℕ
outside_rule s c e = outside s e (start (Class c))
