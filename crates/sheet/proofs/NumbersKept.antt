-- Numbers that reading takes are kept: those in a value within its limits, and the literals of a tree whose nodes are within
-- theirs. Assumes nothing.
use mathlib.Core.List.{List, [], ◌∷◌}
use Prim.Native.Nat.{ℕ, zero, suc}
use lib.Dec.{T}
use Rattle.laws.specs.Lists.{Each, each_nil, each-cons}
use Rattle.laws.proofs.Tests.{and_i, and_l, and_r}
use Rattle.laws.proofs.Lists.{each_append}
use Rattle.reals.specs.Reals.{Number, kept}
use Rattle.ocl.specs.Values.{Value, bool, num, obj, coll, Values, nil, cons, every_part, every_parts}
use Rattle.ocl.specs.Forms.{Leaf, truth, undef, number, self, var, all, Expr, Definition}
use Rattle.ocl.specs.Laws.{leaf_literals, literals, literals_in, literals_of, number_kept, numbers_kept}
use Rattle.sheet.specs.Lines.{Shape, leaf, unary, binary, connective, is_undef, conditional, let_in, attribute, call, quantified, iterate, assemble}
use Rattle.sheet.specs.Sheet.{grow_all, grow, tree_of, definition_of}
use Rattle.sheet.specs.Limits.{part_within, leaf_held, held_by, form_within}

-- ---- a value

mutual
  unfolding every_part part_within number_kept

  parts_kept : (v : Value) → T (every_part part_within v) → T (every_part number_kept v)
  parts_kept (bool b) h = tt
  parts_kept (num x) h = h
  parts_kept (obj o) h = tt
  parts_kept (coll k vs) h = members_kept vs h

  members_kept : (vs : Values) → T (every_parts part_within vs) → T (every_parts number_kept vs)
  members_kept nil h = tt
  members_kept (cons v vs) h =
      and_i (every_part number_kept v) (every_parts number_kept vs) (parts_kept v (and_l (every_part part_within v) _ h)) (members_kept vs (and_r (every_part part_within v) _ h))

pub value_kept : (v : Value) → T (every_part part_within v) → T (numbers_kept v)
unfolding numbers_kept
value_kept v h = parts_kept v h

-- ---- a tree

abbrev pub AllKept : List Number → Type 0
AllKept = Each (λ x. T (kept x))

leaf_kept : (l : Leaf) → T (leaf_held l).within → AllKept (leaf_literals l)
unfolding leaf_literals leaf_held
leaf_kept (truth b) h = each_nil
leaf_kept undef h = each_nil
leaf_kept (number x) h = each-cons h each_nil
leaf_kept self h = each_nil
leaf_kept (var i) h = each_nil
leaf_kept (all c) h = each_nil

-- an operand that is not there is no literal
pub tree_kept : {trees : List Expr} → Each (λ e. AllKept (literals e)) trees → (a : ℕ) → AllKept (literals (tree_of trees a))
unfolding tree_of literals leaf_literals
tree_kept each_nil a = each_nil
tree_kept (each-cons p h) zero = p
tree_kept (each-cons p h) (suc a) = tree_kept h a

pub definition_kept : {ds : List Definition} → Each (λ d. AllKept (literals d.body)) ds → (n : ℕ) → AllKept (literals (definition_of ds n).body)
unfolding definition_of literals leaf_literals
definition_kept each_nil n = each_nil
definition_kept (each-cons p h) zero = p
definition_kept (each-cons p h) (suc n) = definition_kept h n

module _ (f : ℕ → Expr) (h : (a : ℕ) → AllKept (literals (f a))) (g : ℕ → Definition) (k : (n : ℕ) → AllKept (literals (g n).body)) where
  all_grown : (es : List ℕ) → AllKept (literals_of (grow_all f es))
  unfolding grow_all literals
  all_grown [] = each_nil
  all_grown (a ∷ es) = each_append (h a) (all_grown es)

  pub grown_kept : (x : Shape) → T (form_within x) → AllKept (literals_in (grow f g x))
  unfolding grow literals held_by form_within
  grown_kept (leaf l) t = leaf_kept l t
  grown_kept (unary op a) t = h a
  grown_kept (binary op a b) t = each_append (h a) (h b)
  grown_kept (connective c a b) t = each_append (h a) (h b)
  grown_kept (is_undef a) t = h a
  grown_kept (conditional c a b) t = each_append (h c) (each_append (h a) (h b))
  grown_kept (let_in i a b) t = each_append (h a) (h b)
  grown_kept (attribute x name a) t = h a
  grown_kept (call a n) t = each_append (h a) (k n)
  grown_kept (quantified q i a b) t = each_append (h a) (h b)
  grown_kept (iterate i j u a e b) t = each_append (h a) (each_append (h e) (h b))
  grown_kept (assemble k es) t = all_grown es
