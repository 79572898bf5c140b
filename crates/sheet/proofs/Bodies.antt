-- The bodies of definitions and rules: their nodes, one body after the other, and the definitions that they call, which are those of the
-- sheet. Assumes nothing.
use mathlib.Core.Path.{◌≡◌, sym, ap, ◌∙◌}
use mathlib.Core.Option.{some, none-ne-some}
use mathlib.Core.List.{List, [], ◌∷◌, ◌++◌, map, append-nil, append_assoc}
use Prim.Native.Nat.{ℕ, zero, suc, ◌<◌}
use lib.ListN.{length, get_elem?}
use lib.Dec.{T, ltb→lt}
use Rattle.laws.specs.Lists.{Each, each_nil, each-cons}
use Rattle.laws.proofs.Lists.{each_imp, each_append}
use Rattle.laws.proofs.Elements.{each_elem, elem_some}
use Rattle.ocl.specs.Forms.{Expr, Definition, calls, calls_in, calls_of}
use Rattle.ocl.specs.Laws.{numbers}
use Rattle.sheet.specs.Lines.{Shape, leaf, unary, binary, connective, is_undef, conditional, let_in, attribute, call, quantified, iterate, assemble}
use Rattle.sheet.specs.Sheet.{grow_all, grow, tree_of, definition_of}
use Rattle.sheet.specs.Limits.{held_by}
use Rattle.sheet.specs.Refusals.{call_below}

-- ---- nodes

unfoldable pub body_numbers : List Expr → List ℕ
body_numbers [] = []
body_numbers (e ∷ es) = numbers e ++ body_numbers es

-- the bodies of a list of definitions or rules
pub bodies_below : {A : Type 0} {n : ℕ} (f : A → Expr) {xs : List A} → Each (λ x. Each (λ p. p < n) (numbers (f x))) xs → Each (λ p. p < n) (body_numbers (map f xs))
unfolding body_numbers
bodies_below f each_nil = each_nil
bodies_below f (each-cons p h) = each_append p (bodies_below f h)

pub bodies_more : {A : Type 0} (f : A → Expr) (xs : List A) (x : A) → body_numbers (map f (xs ++ (x ∷ []))) ≡ body_numbers (map f xs) ++ numbers (f x)
unfolding body_numbers
bodies_more f [] x = append-nil (numbers (f x))
bodies_more f (y ∷ xs) x = ap (λ l. numbers (f y) ++ l) (bodies_more f xs x) ∙ sym (append_assoc (numbers (f y)) (body_numbers (map f xs)) (numbers (f x)))

-- ---- definitions that are called

-- d is one of the definitions
pub record Among (ds : List Definition) (d : Definition) : Type 0 where
  pub index : ℕ
  pub there : get_elem? ds index ≡ some d

elem_left : {A : Type 0} (l m : List A) (i : ℕ) {x : A} → get_elem? l i ≡ some x → get_elem? (l ++ m) i ≡ some x
elem_left [] m i e = absurd (none-ne-some _ e)
elem_left (a ∷ l) m zero e = e
elem_left (a ∷ l) m (suc i) e = elem_left l m i e

pub among_more : {ds : List Definition} (d : Definition) {es : List Definition} → Each (Among ds) es → Each (Among (ds ++ (d ∷ []))) es
among_more {ds} d h = each_imp (λ x a. record { index = a.index; there = elem_left ds (d ∷ []) a.index a.there }) h

-- an operand that is not there calls nothing
pub tree_called : {P : Definition → Type 0} {trees : List Expr} → Each (λ e. Each P (calls e)) trees → (a : ℕ) → Each P (calls (tree_of trees a))
unfolding tree_of calls
tree_called each_nil a = each_nil
tree_called (each-cons p h) zero = p
tree_called (each-cons p h) (suc a) = tree_called h a

-- a node calls what its operands call, and a definition with what that calls
module _ {ds : List Definition} (f : ℕ → Expr) (h : (a : ℕ) → Each (Among ds) (calls (f a))) (k : Each (λ d. Each (Among ds) (calls d.body)) ds) where
  all_called : (es : List ℕ) → Each (Among ds) (calls_of (grow_all f es))
  unfolding grow_all calls
  all_called [] = each_nil
  all_called (a ∷ es) = each_append (h a) (all_called es)

  definition_there : (d : ℕ) → d < length ds → Among ds (definition_of ds d)
  unfolding definition_of
  definition_there d l = record { index = d; there = elem_some ds d _ l }

  pub grown_called : (x : Shape) → T (call_below (length ds) x) → Each (Among ds) (calls_in (grow f (definition_of ds) x))
  unfolding grow calls held_by call_below
  grown_called (leaf l) t = each_nil
  grown_called (unary op a) t = h a
  grown_called (binary op a b) t = each_append (h a) (h b)
  grown_called (connective c a b) t = each_append (h a) (h b)
  grown_called (is_undef a) t = h a
  grown_called (conditional c a b) t = each_append (h c) (each_append (h a) (h b))
  grown_called (let_in i a b) t = each_append (h a) (h b)
  grown_called (attribute x name a) t = h a
  grown_called (call a d) t = let i = definition_there d (ltb→lt d (length ds) t) in each_append (h a) (each_append (each_elem i.index k i.there) (each-cons i each_nil))
  grown_called (quantified q i a b) t = each_append (h a) (h b)
  grown_called (iterate i j u a e b) t = each_append (h a) (each_append (h e) (h b))
  grown_called (assemble c es) t = all_called es
