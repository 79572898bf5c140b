-- The trees of a rule's nodes: each node is an operand at most once, so that a tree has no node twice and the trees of two nodes
-- that are no operands share none. Assumes nothing.
use mathlib.Core.Path.{◌≡◌, refl, sym, ap, ◌∙◌, subst}
use mathlib.Core.Logic.{◌≢◌}
use mathlib.Core.Bool.{Bool, true, false, not, ◌&&◌, ◌||◌}
use mathlib.Core.List.{List, [], ◌∷◌, ◌++◌, append-nil}
use Prim.Native.Nat.{ℕ, suc, ◌+◌, ◌<◌, ◌≤◌}
use native.Mathlib.Omega.{arith}
use lib.ListN.{length, get_or-append}
use lib.Seq.{get_or_at}
use borrow.Author.Tests.{ltb-true, ltb-false}
use lib.Dec.{T, T_not, not_T, eqb, eqb_refl, ltb, ltb→lt}
use Rattle.laws.specs.Lists.{member, Each, each_nil, each-cons, Distinct, distinct_nil, distinct_cons}
use Rattle.laws.proofs.Lists.{length_more, member_append, each_imp, each_append, distinct_append}
use Rattle.laws.proofs.Tests.{and_l, and_r, or_l, or_r}
use Rattle.ocl.specs.Forms.{Expr, node, Definition}
use Rattle.ocl.specs.Laws.{numbers, numbers_in, numbers_of}
use Rattle.sheet.specs.Lines.{Shape, leaf, unary, binary, connective, is_undef, conditional, let_in, attribute, call, quantified, iterate, assemble}
use Rattle.sheet.specs.Sheet.{operands_of, grow_all, grow, tree_of}
use Rattle.sheet.specs.Refusals.{fresh}

-- ---- the nodes of a tree are its operands' and its own

-- the nodes of several trees
numbers_all : (ℕ → Expr) → List ℕ → List ℕ
numbers_all f [] = []
numbers_all f (a ∷ es) = numbers (f a) ++ numbers_all f es

grown_all : (f : ℕ → Expr) (es : List ℕ) → numbers_of (grow_all f es) ≡ numbers_all f es
unfolding numbers grow_all numbers_all
grown_all f [] = refl
grown_all f (a ∷ es) = ap (λ l. numbers (f a) ++ l) (grown_all f es)

one : (f : ℕ → Expr) (a : ℕ) → numbers (f a) ≡ numbers_all f (a ∷ [])
unfolding numbers_all
one f a = sym (append-nil (numbers (f a)))

two : (f : ℕ → Expr) (a b : ℕ) → numbers (f a) ++ numbers (f b) ≡ numbers_all f (a ∷ b ∷ [])
unfolding numbers_all
two f a b = ap (λ l. numbers (f a) ++ l) (sym (append-nil (numbers (f b))))

three : (f : ℕ → Expr) (a b c : ℕ) → numbers (f a) ++ (numbers (f b) ++ numbers (f c)) ≡ numbers_all f (a ∷ b ∷ c ∷ [])
unfolding numbers_all
three f a b c = ap (λ l. numbers (f a) ++ (numbers (f b) ++ l)) (sym (append-nil (numbers (f c))))

grown : (f : ℕ → Expr) (g : ℕ → Definition) (x : Shape) → numbers_in (grow f g x) ≡ numbers_all f (operands_of x)
unfolding numbers grow operands_of numbers_all
grown f g (leaf l) = refl
grown f g (unary op a) = one f a
grown f g (binary op a b) = two f a b
grown f g (connective c a b) = two f a b
grown f g (is_undef a) = one f a
grown f g (conditional c a b) = three f c a b
grown f g (let_in i a b) = two f a b
grown f g (attribute x name a) = one f a
grown f g (call a n) = one f a
grown f g (quantified q i a b) = two f a b
grown f g (iterate i j t a e b) = three f a e b
grown f g (assemble k es) = grown_all f es

-- ---- two lists with nothing in common

abbrev pub Apart : List ℕ → List ℕ → Type 0
Apart xs ys = Each (λ n. Each (λ m. m ≢ n) ys) xs

apart_nil : (xs : List ℕ) → Apart xs []
apart_nil [] = each_nil
apart_nil (x ∷ xs) = each-cons each_nil (apart_nil xs)

apart_right : {ys xs zs : List ℕ} → Apart xs ys → Apart xs zs → Apart xs (ys ++ zs)
apart_right each_nil each_nil = each_nil
apart_right (each-cons p h) (each-cons q k) = each-cons (each_append p q) (apart_right h k)

differs : (m n : ℕ) → m < n → m ≢ n
differs m n l e = omega arith

-- all of the one are below n, and the other is n alone
apart_last : {xs : List ℕ} (n : ℕ) → Each (λ m. m < n) xs → Apart xs (n ∷ [])
apart_last n h = each_imp (λ m l. each-cons (λ e. omega arith) each_nil) h

apart_first : {xs : List ℕ} (n : ℕ) → Each (λ m. m < n) xs → Apart (n ∷ []) xs
apart_first n h = each-cons (each_imp (λ m l. differs m n l) h) each_nil

-- ---- the forest of a rule's nodes so far

-- a node that is no operand yet
abbrev pub Free : List ℕ → ℕ → Type 0
Free used a = T (not (member a used))

pub record Forest (first : ℕ) (trees : List Expr) (used : List ℕ) : Type 0 where
  pub distinct : (a : ℕ) → a < length trees → Distinct (numbers (tree_of trees a))
  pub apart : (a b : ℕ) → a < length trees → b < length trees → a ≢ b → Free used a → Free used b → Apart (numbers (tree_of trees a)) (numbers (tree_of trees b))
  pub below : (a : ℕ) → a < length trees → Each (λ n. n < first + length trees) (numbers (tree_of trees a))
  pub above : (a : ℕ) → a < length trees → Each (λ n. first ≤ n) (numbers (tree_of trees a))

pub forest_empty : (first : ℕ) → Forest first [] []
forest_empty first = record { distinct = λ a h. absurd (omega arith); apart = λ a b h. absurd (omega arith); below = λ a h. absurd (omega arith); above = λ a h. absurd (omega arith) }

-- ---- what fresh operands are

pub record Fresh (n : ℕ) (used : List ℕ) (a : ℕ) : Type 0 where
  pub smaller : a < n
  pub free : Free used a

free_other : (a e : ℕ) (used : List ℕ) → Free (a ∷ used) e → e ≢ a
unfolding member
free_other a e used h q = T_not (eqb e a || member e used) h (or_l (eqb e a) _ (rw q (eqb_refl a)))

free_rest : (a e : ℕ) (used : List ℕ) → Free (a ∷ used) e → Free used e
unfolding member
free_rest a e used h = not_T (member e used) (λ m. T_not (eqb e a || member e used) h (or_r (eqb e a) _ m))

fresh_first : (n a : ℕ) (used es : List ℕ) → T (fresh n used (a ∷ es)) → Fresh n used a
unfolding fresh
fresh_first n a used es h =
    let h' = and_l (ltb a n && not (member a used)) _ h in
    record { smaller = ltb→lt a n (and_l (ltb a n) _ h'); free = and_r (ltb a n) _ h' }

fresh_later : (n a : ℕ) (used es : List ℕ) → T (fresh n used (a ∷ es)) → T (fresh n (a ∷ used) es)
unfolding fresh
fresh_later n a used es h = and_r (ltb a n && not (member a used)) _ h

pub fresh_each : (n : ℕ) (used es : List ℕ) → T (fresh n used es) → Each (Fresh n used) es
fresh_each n used [] h = each_nil
fresh_each n used (a ∷ es) h =
    each-cons (fresh_first n a used es h)
    (each_imp (λ e f. record { smaller = f.smaller; free = free_rest a e used f.free }) (fresh_each n (a ∷ used) es (fresh_later n a used es h)))

-- each operand after a differs from a
fresh_other : (n a : ℕ) (used es : List ℕ) → T (fresh n used (a ∷ es)) → Each (λ e. e ≢ a) es
fresh_other n a used es h = each_imp (λ e f. free_other a e used f.free) (fresh_each n (a ∷ used) es (fresh_later n a used es h))

module _ {first : ℕ} {trees : List Expr} {used : List ℕ} (forest : Forest first trees used) where
  -- one tree, and those of fresh nodes that are others
  apart_all : (a : ℕ) {es : List ℕ} → a < length trees → Free used a → Each (Fresh (length trees) used) es → Each (λ e. e ≢ a) es
      → Apart (numbers (tree_of trees a)) (numbers_all (tree_of trees) es)
  unfolding numbers_all
  apart_all a l f each_nil each_nil = apart_nil _
  apart_all a l f (each-cons {n = e} p h) (each-cons q k) =
      apart_right (forest.apart a e l p.smaller (λ z. q (sym z)) f p.free) (apart_all a l f h k)

  -- the same, the others first
  all_apart : (b : ℕ) {es : List ℕ} → b < length trees → Free used b → Each (Fresh (length trees) used) es → Each (λ e. e ≢ b) es
      → Apart (numbers_all (tree_of trees) es) (numbers (tree_of trees b))
  unfolding numbers_all
  all_apart b l f each_nil each_nil = each_nil
  all_apart b l f (each-cons {n = e} p h) (each-cons q k) = each_append (forest.apart e b p.smaller l q p.free f) (all_apart b l f h k)

  -- the trees of fresh operands share no node
  distinct_all : (seen es : List ℕ) → ((e : ℕ) → Free seen e → Free used e) → T (fresh (length trees) seen es) → Distinct (numbers_all (tree_of trees) es)
  unfolding numbers_all
  distinct_all seen [] keep h = distinct_nil
  distinct_all seen (a ∷ es) keep h =
      let f = fresh_first (length trees) a seen es h in
      let g = fresh_later (length trees) a seen es h in
      distinct_append (forest.distinct a f.smaller) (distinct_all (a ∷ seen) es (λ e r. keep e (free_rest a e seen r)) g)
      (apart_all a f.smaller (keep a f.free)
      (each_imp (λ e r. record { smaller = r.smaller; free = keep e (free_rest a e seen r.free) }) (fresh_each (length trees) (a ∷ seen) es g))
      (fresh_other (length trees) a seen es h))

  below_all : {es : List ℕ} → Each (Fresh (length trees) used) es → Each (λ n. n < first + length trees) (numbers_all (tree_of trees) es)
  unfolding numbers_all
  below_all each_nil = each_nil
  below_all (each-cons {n = e} p h) = each_append (forest.below e p.smaller) (below_all h)

  above_all : {es : List ℕ} → Each (Fresh (length trees) used) es → Each (λ n. first ≤ n) (numbers_all (tree_of trees) es)
  unfolding numbers_all
  above_all each_nil = each_nil
  above_all (each-cons {n = e} p h) = each_append (forest.above e p.smaller) (above_all h)

-- ---- one node more

free_left : (a : ℕ) (used es : List ℕ) → Free (used ++ es) a → Free used a
free_left a used es h = not_T (member a used) (λ m. T_not (member a (used ++ es)) h (subst T (sym (member_append a used es)) (or_l (member a used) _ m)))

free_right : (a : ℕ) (used es : List ℕ) → Free (used ++ es) a → Free es a
free_right a used es h = not_T (member a es) (λ m. T_not (member a (used ++ es)) h (subst T (sym (member_append a used es)) (or_r (member a used) _ m)))

-- what is free is no operand
free_each : (a : ℕ) (es : List ℕ) → Free es a → Each (λ e. e ≢ a) es
free_each a [] h = each_nil
free_each a (e ∷ es) h = each-cons (λ q. free_other e a es h (sym q)) (free_each a es (free_rest e a es h))

-- the last of the trees, or an earlier one
data Place (a n : ℕ) : Type 0 where
  last : a ≡ n → Place a n
  earlier : a < n → Place a n

place_by : (a n : ℕ) → a < suc n → (b : Bool) → ltb a n ≡ b → Place a n
place_by a n h true e = earlier (ltb-true a n e)
place_by a n h false e = last (let k = ltb-false a n e in omega arith)

place : (a n : ℕ) → a < suc n → Place a n
place a n h = place_by a n h (ltb a n) refl

module _ (trees : List Expr) (x : Expr) where
  pub tree_earlier : (a : ℕ) → a < length trees → tree_of (trees ++ (x ∷ [])) a ≡ tree_of trees a
  unfolding tree_of
  tree_earlier a h = get_or-append trees (x ∷ []) _ a h

  pub tree_last : (a : ℕ) → a ≡ length trees → tree_of (trees ++ (x ∷ [])) a ≡ x
  unfolding tree_of
  tree_last a e = get_or_at trees x [] _ a (sym e)

-- the tree of the next node
abbrev new_tree : ℕ → List Expr → (ℕ → Definition) → Shape → Expr
new_tree first trees g x = node (first + length trees) (grow (tree_of trees) g x)

module _ (first : ℕ) (trees : List Expr) (used : List ℕ) (g : ℕ → Definition) (x : Shape) (forest : Forest first trees used) (h : T (fresh (length trees) used (operands_of x))) where
  own_numbers : numbers (new_tree first trees g x) ≡ numbers_all (tree_of trees) (operands_of x) ++ ((first + length trees) ∷ [])
  unfolding numbers
  own_numbers = ap (λ l. l ++ ((first + length trees) ∷ [])) (grown (tree_of trees) g x)

  operands_fresh : Each (Fresh (length trees) used) (operands_of x)
  operands_fresh = fresh_each (length trees) used (operands_of x) h

  operands_below : Each (λ n. n < first + length trees) (numbers_all (tree_of trees) (operands_of x))
  operands_below = below_all forest operands_fresh

  distinct_at : (a : ℕ) → Place a (length trees) → Distinct (numbers (tree_of (trees ++ (new_tree first trees g x ∷ [])) a))
  distinct_at a (last e) =
      rw (tree_last trees (new_tree first trees g x) a e, own_numbers)
      (distinct_append (distinct_all forest used (operands_of x) (λ n r. r) h) (distinct_cons each_nil distinct_nil) (apart_last (first + length trees) operands_below))
  distinct_at a (earlier l) = rw (tree_earlier trees (new_tree first trees g x) a l) (forest.distinct a l)

  apart_at : (a b : ℕ) → Place a (length trees) → Place b (length trees) → a ≢ b → Free (used ++ operands_of x) a → Free (used ++ operands_of x) b
      → Apart (numbers (tree_of (trees ++ (new_tree first trees g x ∷ [])) a)) (numbers (tree_of (trees ++ (new_tree first trees g x ∷ [])) b))
  apart_at a b (last e) (last f) q u v = absurd (q (e ∙ sym f))
  apart_at a b (last e) (earlier l) q u v =
      rw (tree_last trees (new_tree first trees g x) a e, tree_earlier trees (new_tree first trees g x) b l, own_numbers)
      (each_append
      (all_apart forest b l (free_left b used (operands_of x) v) operands_fresh (free_each b (operands_of x) (free_right b used (operands_of x) v)))
      (apart_first (first + length trees) (forest.below b l)))
  apart_at a b (earlier l) (last f) q u v =
      rw (tree_earlier trees (new_tree first trees g x) a l, tree_last trees (new_tree first trees g x) b f, own_numbers)
      (apart_right
      (apart_all forest a l (free_left a used (operands_of x) u) operands_fresh (free_each a (operands_of x) (free_right a used (operands_of x) u)))
      (apart_last (first + length trees) (forest.below a l)))
  apart_at a b (earlier l) (earlier m) q u v =
      rw (tree_earlier trees (new_tree first trees g x) a l, tree_earlier trees (new_tree first trees g x) b m)
      (forest.apart a b l m q (free_left a used (operands_of x) u) (free_left b used (operands_of x) v))

  below_at : (a : ℕ) → Place a (length trees) → Each (λ n. n < suc (first + length trees)) (numbers (tree_of (trees ++ (new_tree first trees g x ∷ [])) a))
  below_at a (last e) =
      rw (tree_last trees (new_tree first trees g x) a e, own_numbers)
      (each_append (each_imp (λ n l. omega arith) operands_below) (each-cons (omega arith) each_nil))
  below_at a (earlier l) = rw (tree_earlier trees (new_tree first trees g x) a l) (each_imp (λ n k. omega arith) (forest.below a l))

  above_at : (a : ℕ) → Place a (length trees) → Each (λ n. first ≤ n) (numbers (tree_of (trees ++ (new_tree first trees g x ∷ [])) a))
  above_at a (last e) = rw (tree_last trees (new_tree first trees g x) a e, own_numbers) (each_append (above_all forest operands_fresh) (each-cons (omega arith) each_nil))
  above_at a (earlier l) = rw (tree_earlier trees (new_tree first trees g x) a l) (forest.above a l)

  -- a node whose operands are fresh keeps the forest one
  pub forest_more : Forest first (trees ++ (new_tree first trees g x ∷ [])) (used ++ operands_of x)
  forest_more = let z = length_more trees (new_tree first trees g x) in record {
    distinct = λ a l. distinct_at a (place a (length trees) (omega arith));
    apart = λ a b l m q u v. apart_at a b (place a (length trees) (omega arith)) (place b (length trees) (omega arith)) q u v;
    below = λ a l. each_imp (λ n k. omega arith) (below_at a (place a (length trees) (omega arith)));
    above = λ a l. above_at a (place a (length trees) (omega arith));
  }
