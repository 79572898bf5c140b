-- Types within document 01's limits, which typing keeps: those that reading takes are, and so is every type that typing answers with.
-- Assumes nothing.
use mathlib.Core.Path.{◌≡◌, refl}
use mathlib.Core.Bool.{◌&&◌}
use mathlib.Core.Option.{Option, none, some}
use mathlib.Core.List.{List, [], ◌∷◌}
use Prim.Native.Nat.{ℕ, zero, suc, ◌<◌, ◌≤◌}
use native.Mathlib.Omega.{arith}
use lib.Dec.{T, ltb→lt, lt→ltb, leb, leb→le}
use Rattle.laws.specs.Lists.{Each, each_nil, each-cons}
use Rattle.laws.proofs.Tests.{and_l, and_r, by-if, All?, all_none, all_some}
use Rattle.ocl.specs.Types.{Simple, any, boolean, integer, real, class, Letter, Ty, void, simple, around, Class, Parents, depth, up, parent_or, height, simple_subtype, first_above, simple_join, letter_join, around_some, join}
use Rattle.ocl.specs.Model.{Schema}
use Rattle.ocl.specs.Forms.{Leaf, truth, undef, number, self, var, all, Unary, negation, size_of, convert, cast_to, Expr, Definition}
use Rattle.ocl.proofs.Answered.{leaf_names, unary_names, Named, NamedIn, NamedOf, Closed}
use Rattle.sheet.specs.Lines.{Shape, leaf, unary, binary, connective, is_undef, conditional, let_in, attribute, call, quantified, iterate, assemble}
use Rattle.sheet.specs.Sheet.{grow_all, grow, tree_of, definition_of}
use Rattle.sheet.specs.Limits.{simple_class_below, class_below, is_class, is_variable, type_within, leaf_held, unary_held, held_by, form_within}

-- at most n letters deep, and a class in it is below 64
pub record Fits (n : ℕ) (t : Ty) : Type 0 where
  pub deep : depth t ≤ n
  pub below : T (class_below 64 t)

pub within_fits : (t : Ty) → T (type_within t) → Fits 3 t
unfolding type_within
within_fits t h = record { deep = leb→le (depth t) 3 (and_l (leb (depth t) 3) _ h); below = and_r (leb (depth t) 3) _ h }

pub class_fits : (n c : ℕ) → T (is_class c) → Fits n (Class c)
unfolding depth class_below simple_class_below is_class
class_fits n c h = record { deep = omega arith; below = h }

-- ---- what typing makes of types

module _ (parent : Parents) (small : (c p : ℕ) → parent c ≡ some p → p < c) where
  parent_below : (c : ℕ) (o : Option ℕ) → parent c ≡ o → c < 64 → T (simple_class_below 64 (parent_or o))
  unfolding parent_or simple_class_below
  parent_below c none e l = tt
  parent_below c (some p) e l = lt→ltb p 64 (let h = small c p e in omega arith)

  up_below : (a : Simple) → T (simple_class_below 64 a) → T (simple_class_below 64 (up parent a))
  unfolding up simple_class_below
  up_below any h = tt
  up_below boolean h = tt
  up_below integer h = tt
  up_below real h = tt
  up_below (class c) h = parent_below c (parent c) refl (ltb→lt c 64 h)

  above_below : (f : ℕ) (a b : Simple) → T (simple_class_below 64 a) → T (simple_class_below 64 (first_above parent f a b))
  unfolding first_above simple_class_below
  above_below zero a b h = tt
  above_below (suc f) a b h = by-if (λ x. T (simple_class_below 64 x)) (simple_subtype parent b a) a _ (λ t. h) (λ t. above_below f (up parent a) b (up_below a h))

  around_fits : {n : ℕ} (l : Letter) {o : Option Ty} → All? (Fits n) o → All? (Fits (suc n)) (around_some l o)
  unfolding around_some depth class_below
  around_fits l all_none = all_none
  around_fits l (all_some {x = t} h) = all_some {x = around l t} (record { deep = let d = h.deep in omega arith; below = h.below })

  inner_fits : {n : ℕ} {l : Letter} {t : Ty} → Fits (suc n) (around l t) → Fits n t
  unfolding depth class_below
  inner_fits h = record { deep = let d = h.deep in omega arith; below = h.below }

  join_fits : (n : ℕ) (t u : Ty) → Fits n t → Fits n u → All? (Fits n) (join parent t u)
  unfolding join simple_join depth class_below
  join_fits n void u p q = all_some q
  join_fits n (simple a) void p q = all_some p
  join_fits n (simple a) (simple b) p q = all_some {x = simple (first_above parent (height a) a b)} (record { deep = omega arith; below = above_below (height a) a b p.below })
  join_fits n (simple a) (around l u) p q = all_none
  join_fits n (around k t) void p q = all_some p
  join_fits n (around k t) (simple b) p q = all_none
  join_fits zero (around k t) (around l u) p q = absurd (let d = p.deep in omega arith)
  join_fits (suc n) (around k t) (around l u) p q = around_fits (letter_join k l) (join_fits n t u (inner_fits p) (inner_fits q))

pub fits_closed : (m : Schema) → ((c p : ℕ) → m.parent c ≡ some p → p < c) → ((i : ℕ) → Fits 3 (m.row i).type) → Closed m (Fits 3)
unfolding depth class_below simple_class_below
fits_closed m small rows = record {
  of_void = record { deep = omega arith; below = tt };
  of_boolean = record { deep = omega arith; below = tt };
  of_integer = record { deep = omega arith; below = tt };
  of_real = record { deep = omega arith; below = tt };
  inside = λ l t h. record { deep = let d = h.deep in omega arith; below = h.below };
  outside = λ l t d h. record { deep = let e = leb→le (depth t) 2 d in omega arith; below = h.below };
  joined = join_fits m.parent small 3;
  of_row_lem = rows;
}

-- ---- a tree

abbrev pub NamesFit : Expr → Type 0
NamesFit = Named (Fits 3)

leaf_names_lem : (l : Leaf) → T (leaf_held l).within → All? (Fits 3) (leaf_names l)
unfolding leaf_names leaf_held
leaf_names_lem (truth b) h = all_none
leaf_names_lem undef h = all_none
leaf_names_lem (number x) h = all_none
leaf_names_lem self h = all_none
leaf_names_lem (var i) h = all_none
leaf_names_lem (all c) h = all_some (class_fits 3 c h)

unary_names_lem : (op : Unary) → T (unary_held op).within → All? (Fits 3) (unary_names op)
unfolding unary_names unary_held
unary_names_lem negation h = all_none
unary_names_lem size_of h = all_none
unary_names_lem (convert k) h = all_none
unary_names_lem (cast_to c) h = all_some (class_fits 3 c h)

-- an operand that is not there names no type
pub tree_names : {trees : List Expr} → Each NamesFit trees → (a : ℕ) → NamesFit (tree_of trees a)
unfolding tree_of Named leaf_names
tree_names each_nil a = all_none
tree_names (each-cons p h) zero = p
tree_names (each-cons p h) (suc a) = tree_names h a

-- a definition that is not there has type Void
pub definition_fits : {ds : List Definition} → Each (λ d. Fits 3 d.type) ds → (n : ℕ) → Fits 3 (definition_of ds n).type
unfolding definition_of depth class_below
definition_fits each_nil n = record { deep = omega arith; below = tt }
definition_fits (each-cons p h) zero = p
definition_fits (each-cons p h) (suc n) = definition_fits h n

module _ (f : ℕ → Expr) (h : (a : ℕ) → NamesFit (f a)) (g : ℕ → Definition) (k : (n : ℕ) → Fits 3 (g n).type) where
  all_names : (es : List ℕ) → NamedOf (Fits 3) (grow_all f es)
  unfolding grow_all Named
  all_names [] = tt
  all_names (a ∷ es) = (h a, all_names es)

  pub grown_names : (x : Shape) → T (form_within x) → NamedIn (Fits 3) (grow f g x)
  unfolding grow Named held_by form_within
  grown_names (leaf l) t = leaf_names_lem l t
  grown_names (unary op a) t = (unary_names_lem op t, h a)
  grown_names (binary op a b) t = (h a, h b)
  grown_names (connective c a b) t = (h a, h b)
  grown_names (is_undef a) t = h a
  grown_names (conditional c a b) t = (h c, h a, h b)
  grown_names (let_in i a b) t = (h a, h b)
  grown_names (attribute x name a) t = h a
  grown_names (call a n) t = (k n, h a)
  grown_names (quantified q i a b) t = (h a, h b)
  grown_names (iterate i j u a e b) t = (within_fits u (and_r (is_variable i && is_variable j) _ t), h a, h e, h b)
  grown_names (assemble k es) t = all_names es
