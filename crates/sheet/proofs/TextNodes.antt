-- The node lines that a text stands for make a tree: each operand is an earlier node that is no operand yet, and each node but the last
-- is an operand. Assumes nothing.
use mathlib.Core.Path.{◌≡◌, refl, sym, ap, ◌∙◌, subst}
use mathlib.Core.Logic.{◌≢◌}
use mathlib.Core.Bool.{Bool, true, false, not, ◌&&◌}
use mathlib.Core.List.{List, [], ◌∷◌, ◌++◌, append_assoc, append-nil}
use Prim.Native.Nat.{ℕ, zero, suc, ◌+◌, ◌-◌, ◌<◌, ◌≤◌, pred}
use native.Mathlib.Omega.{arith}
use lib.ListN.{length, length-append}
use borrow.Author.Tests.{ltb-true, ltb-false}
use lib.Dec.{T, not_T, eqb, eqb→eq, eqb_refl, ltb, lt→ltb}
use Rattle.laws.specs.Lists.{member, Each, each_nil, each-cons}
use Rattle.laws.proofs.Lists.{member_append, each_imp, each_append}
use Rattle.laws.proofs.Tests.{and_i, or_l, or_r, or-e}
use Rattle.sheet.specs.Lines.{Shape}
use Rattle.sheet.specs.Sheet.{operands_of, all_used}
use Rattle.sheet.specs.Refusals.{fresh}
use Rattle.sheet.specs.Grammar.Trees.{One, unary, is_undef, attribute, call, Two, binary, connective, let_in, quantified, Three, conditional, iterate, Tree, leaf, one, two, three, assemble, Trees, none, more, count, counts, root, roots, one_shape, two_shape, three_shape, shapes, shapes_of}
use Rattle.sheet.proofs.Forest.{Free}

-- ---- the operands of several nodes, and nodes whose operands are fresh one after the other

unfoldable pub operands_all : List Shape → List ℕ
operands_all [] = []
operands_all (x ∷ xs) = operands_of x ++ operands_all xs

pub operands_append : (xs ys : List Shape) → operands_all (xs ++ ys) ≡ operands_all xs ++ operands_all ys
unfolding operands_all
operands_append [] ys = refl
operands_append (x ∷ xs) ys = ap (λ l. operands_of x ++ l) (operands_append xs ys) ∙ sym (append_assoc (operands_of x) (operands_all xs) (operands_all ys))

-- node n and those after it, where some nodes are operands already
pub data FreshAll : ℕ → List ℕ → List Shape → Type 0 where
  fresh_nil : {n : ℕ} {used : List ℕ} → FreshAll n used []
  fresh_cons : {n : ℕ} {used : List ℕ} {x : Shape} {xs : List Shape} → T (fresh n used (operands_of x)) → FreshAll (suc n) (used ++ operands_of x) xs → FreshAll n used (x ∷ xs)

fresh_append : {n m : ℕ} {used u : List ℕ} (xs : List Shape) {ys : List Shape} → FreshAll n used xs → m ≡ n + length xs → u ≡ used ++ operands_all xs → FreshAll m u ys → FreshAll n used (xs ++ ys)
unfolding operands_all
fresh_append {n} {m} {used} {u} [] {ys} fresh_nil e d h = let z : m ≡ n = omega arith in subst (λ k. FreshAll k used ys) z (subst (λ l. FreshAll m l ys) (d ∙ append-nil used) h)
fresh_append {n = n} {m = m} {used = used} {u = u} (x ∷ xs) {ys = ys} (fresh_cons p k) e d h = fresh_cons p (fresh_append {n = suc n} {m = m} {used = used ++ operands_of x} {u = u} xs {ys = ys} k (omega arith) (d ∙ sym (append_assoc used (operands_of x) (operands_all xs))) h)

-- ---- members

absent : (r : ℕ) {l : List ℕ} → Each (λ a. a ≢ r) l → Free l r
unfolding member
absent r {l} h = not_T (member r l) (there h)
  where
    there : {l : List ℕ} → Each (λ a. a ≢ r) l → T (member r l) → ⊥
    there each_nil t = t
    there (each-cons {n = a} {ns = l} p h) t = or-e (eqb r a) (member r l) t (λ q. p (sym (eqb→eq r a q))) (there h)

member_left : (m : ℕ) (a b : List ℕ) → T (member m a) → T (member m (a ++ b))
member_left m a b h = subst T (sym (member_append m a b)) (or_l (member m a) (member m b) h)

member_right : (m : ℕ) (a b : List ℕ) → T (member m b) → T (member m (a ++ b))
member_right m a b h = subst T (sym (member_append m a b)) (or_r (member m a) (member m b) h)

member_first : (m r : ℕ) (l : List ℕ) → m ≡ r → T (member m (r ∷ l))
unfolding member
member_first m r l e = or_l (eqb m r) (member m l) (rw e (eqb_refl r))

-- a fresh operand, and then others
fresh_first : {n : ℕ} (a : ℕ) (used es : List ℕ) → a < n → Free used a → T (fresh n (a ∷ used) es) → T (fresh n used (a ∷ es))
unfolding fresh
fresh_first {n} a used es l f h = and_i (ltb a n && not (member a used)) (fresh n (a ∷ used) es) (and_i (ltb a n) (not (member a used)) (lt→ltb a n l) f) h

-- ---- the nodes of trees, one after the other

-- from node n on, before node e
abbrev Between : ℕ → ℕ → ℕ → Type 0
Between n e a = (n ≤ a) × (a < e)

pub some_node : (t : Tree) → 1 ≤ count t
unfolding count
some_node (leaf l) = omega arith
some_node (one f a) = omega arith
some_node (two f a b) = omega arith
some_node (three f a b c) = omega arith
some_node (assemble k es) = omega arith

pred-suc : (m : ℕ) → 1 ≤ m → suc (pred m) ≡ m
pred-suc m h = omega arith

pub root_last : (n : ℕ) (t : Tree) → suc (root n t) ≡ n + count t
unfolding root
root_last n t = let h = some_node t in pred-suc (n + count t) (omega arith)

-- what holds of the nodes of a tree that begin with n
record Fits (t : Tree) (n : ℕ) : Type 0 where
  pub size : length (shapes t n) ≡ count t
  pub inside : Each (Between n (root n t)) (operands_all (shapes t n))
  pub every : (m : ℕ) → n ≤ m → m < root n t → T (member m (operands_all (shapes t n)))
  pub nodes_fresh : (used : List ℕ) → Each (λ a. a < n) used → FreshAll n used (shapes t n)

-- what holds of the nodes of trees, one after the other; their roots are no operands yet
record FitsAll (es : Trees) (n : ℕ) : Type 0 where
  pub size : length (shapes_of es n) ≡ counts es
  pub inside : Each (Between n (n + counts es)) (operands_all (shapes_of es n))
  pub roots_inside : Each (Between n (n + counts es)) (roots n es)
  pub every : (m : ℕ) → n ≤ m → m < n + counts es → T (member m (operands_all (shapes_of es n) ++ roots n es))
  pub nodes_fresh : (used : List ℕ) → Each (λ a. a < n) used → FreshAll n used (shapes_of es n)
  pub roots_fresh : (used : List ℕ) (e : ℕ) → e ≡ n + counts es → Each (λ a. a < n) used → T (fresh e (used ++ operands_all (shapes_of es n)) (roots n es))

fits_none : (n : ℕ) → FitsAll none n
unfolding counts roots shapes_of operands_all fresh
fits_none n = record {
  size = refl;
  inside = each_nil;
  roots_inside = each_nil;
  every = λ m l h. absurd (omega arith);
  nodes_fresh = λ used h. fresh_nil;
  roots_fresh = λ used e q h. tt;
}

-- the operands of e's nodes, those of the others' nodes, e's root, the others' roots
some_of_all : (m : ℕ) (a b : List ℕ) (r : ℕ) (c : List ℕ) → T (member m (b ++ c)) → T (member m ((a ++ b) ++ (r ∷ c)))
unfolding member
some_of_all m a b r c h =
    or-e (member m b) (member m c) (subst T (member_append m b c) h)
    (λ p. member_left m (a ++ b) (r ∷ c) (member_right m a b p))
    (λ p. member_right m (a ++ b) (r ∷ c) (or_r (eqb m r) (member m c) p))

fits_more : (t : Tree) (es : Trees) (n : ℕ) → Fits t n → FitsAll es (n + count t) → FitsAll (more t es) n
unfolding counts roots shapes_of fresh
fits_more t es n x y =
    let e = root_last n t in
    let ops = operands_append (shapes t n) (shapes_of es (n + count t)) in
    record {
      size = let p = x.size in let q = y.size in let l = length-append (shapes t n) (shapes_of es (n + count t)) in omega arith;
      inside = subst (Each (Between n (n + (count t + counts es)))) (sym ops) (each_append
          (each_imp (λ a h. let h0 = h.0 in let h1 = h.1 in (h0, omega arith)) x.inside)
          (each_imp (λ a h. let h0 = h.0 in let h1 = h.1 in (omega arith, omega arith)) y.inside));
      roots_inside = let s = some_node t in each-cons {n = root n t} (omega arith, omega arith) (each_imp (λ a h. let h0 = h.0 in let h1 = h.1 in (omega arith, omega arith)) y.roots_inside);
      every = λ m l h. rw ops (all m l h);
      nodes_fresh = λ used h. fresh_append (shapes t n) (x.nodes_fresh used h) (let p = x.size in omega arith) refl
          (y.nodes_fresh (used ++ operands_all (shapes t n)) (each_append (each_imp (λ a l. omega arith) h) (each_imp (λ a l. let l1 = l.1 in omega arith) x.inside)));
      roots_fresh = λ used d q h. rw ops (front used d q h);
    }
  where
    all : (m : ℕ) → n ≤ m → m < n + (count t + counts es) → T (member m ((operands_all (shapes t n) ++ operands_all (shapes_of es (n + count t))) ++ (root n t ∷ roots (n + count t) es)))
    all m l h = by (ltb m (root n t)) (ltb (root n t) m) refl refl
      where
        by : (p q : Bool) → ltb m (root n t) ≡ p → ltb (root n t) m ≡ q → T (member m ((operands_all (shapes t n) ++ operands_all (shapes_of es (n + count t))) ++ (root n t ∷ roots (n + count t) es)))
        by true q a b = member_left m _ _ (member_left m _ _ (x.every m l (ltb-true m (root n t) a)))
        by false true a b =
            let k = ltb-true (root n t) m b in let e = root_last n t in
            some_of_all m (operands_all (shapes t n)) (operands_all (shapes_of es (n + count t))) (root n t) (roots (n + count t) es) (y.every m (omega arith) (omega arith))
        by false false a b =
            let k = ltb-false m (root n t) a in let j = ltb-false (root n t) m b in let z : m ≡ root n t = omega arith in
            member_right m (operands_all (shapes t n) ++ operands_all (shapes_of es (n + count t))) (root n t ∷ roots (n + count t) es)
            (member_first m (root n t) (roots (n + count t) es) z)

    front : (used : List ℕ) (d : ℕ) → d ≡ n + (count t + counts es) → Each (λ a. a < n) used
        → T (fresh d (used ++ (operands_all (shapes t n) ++ operands_all (shapes_of es (n + count t)))) (root n t ∷ roots (n + count t) es))
    front used d q h =
        let e = root_last n t in
        let s = some_node t in
        let before : Each (λ a. a < n + count t) (root n t ∷ (used ++ operands_all (shapes t n))) =
        each-cons {n = root n t} (omega arith) (each_append (each_imp (λ a l. omega arith) h) (each_imp (λ a l. let l1 = l.1 in omega arith) x.inside)) in
        fresh_first (root n t) (used ++ (operands_all (shapes t n) ++ operands_all (shapes_of es (n + count t)))) (roots (n + count t) es) (omega arith)
        (absent (root n t) (each_append (each_imp (λ a l w. omega arith) h) (each_append (each_imp (λ a l w. let l1 = l.1 in omega arith) x.inside) (each_imp (λ a l w. let l0 = l.0 in omega arith) y.inside))))
        (subst (λ l. T (fresh d (root n t ∷ l) (roots (n + count t) es))) (append_assoc used (operands_all (shapes t n)) (operands_all (shapes_of es (n + count t))))
        (y.roots_fresh (root n t ∷ (used ++ operands_all (shapes t n))) d (omega arith) before))

-- ---- a node after its operands' trees

record After (t : Tree) (es : Trees) (n : ℕ) : Type 0 where
  pub last : Shape
  pub is : shapes t n ≡ shapes_of es n ++ (last ∷ [])
  pub operands : operands_of last ≡ roots n es
  pub size : count t ≡ suc (counts es)

fits : (t : Tree) (es : Trees) (n : ℕ) → After t es n → FitsAll es n → Fits t n
unfolding operands_all
fits t es n x y =
    let e = root_last n t in
    let c = x.size in
    let ops : operands_all (shapes t n) ≡ operands_all (shapes_of es n) ++ roots n es = all in
    record {
      size = let l = length-append (shapes_of es n) (x.last ∷ []) in let s = y.size in ap length x.is ∙ (omega arith);
      inside = subst (Each (Between n (root n t))) (sym ops) (each_append (each_imp (λ a h. let h0 = h.0 in let h1 = h.1 in (h0, omega arith)) y.inside) (each_imp (λ a h. let h0 = h.0 in let h1 = h.1 in (h0, omega arith)) y.roots_inside));
      every = λ m l h. subst (λ k. T (member m k)) (sym ops) (y.every m l (omega arith));
      nodes_fresh = λ used h. subst (FreshAll n used) (sym x.is) (fresh_append (shapes_of es n) (y.nodes_fresh used h) (let s = y.size in omega arith) refl
          (fresh_cons (subst (λ k. T (fresh (n + counts es) (used ++ operands_all (shapes_of es n)) k)) (sym x.operands) (y.roots_fresh used (n + counts es) refl h)) fresh_nil));
    }
  where
    all : operands_all (shapes t n) ≡ operands_all (shapes_of es n) ++ roots n es
    all = ap operands_all x.is ∙ operands_append (shapes_of es n) (x.last ∷ []) ∙ ap (λ l. operands_all (shapes_of es n) ++ l) (append-nil (operands_of x.last) ∙ x.operands)

one_operands : (f : One) (a : ℕ) → operands_of (one_shape f a) ≡ a ∷ []
unfolding operands_of one_shape
one_operands (unary op) a = refl
one_operands is_undef a = refl
one_operands (attribute x name) a = refl
one_operands (call n) a = refl

two_operands : (f : Two) (a b : ℕ) → operands_of (two_shape f a b) ≡ a ∷ b ∷ []
unfolding operands_of two_shape
two_operands (binary op) a b = refl
two_operands (connective c) a b = refl
two_operands (let_in i) a b = refl
two_operands (quantified q i) a b = refl

three_operands : (f : Three) (a b c : ℕ) → operands_of (three_shape f a b c) ≡ a ∷ b ∷ c ∷ []
unfolding operands_of three_shape
three_operands conditional a b c = refl
three_operands (iterate i j t) a b c = refl

mutual
  unfolding count counts roots shapes shapes_of operands_of

  tree_fits : (t : Tree) (n : ℕ) → Fits t n
  tree_fits (leaf l) n = fits (leaf l) none n (record { last = Shape.leaf l; is = refl; operands = refl; size = refl }) (fits_none n)
  tree_fits (one f a) n =
      fits (one f a) (more a none) n
      (record { last = one_shape f (root n a); is = ap (λ l. l ++ (one_shape f (root n a) ∷ [])) (sym (append-nil (shapes a n))); operands = one_operands f (root n a); size = omega arith })
      (fits_more a none n (tree_fits a n) (fits_none (n + count a)))
  tree_fits (two f a b) n =
      let m = n + count a in
      let x = two_shape f (root n a) (root m b) in
      fits (two f a b) (more a (more b none)) n
      (record {
        last = x;
        is = ap (λ l. shapes a n ++ (l ++ (x ∷ []))) (sym (append-nil (shapes b m))) ∙ sym (append_assoc (shapes a n) (shapes b m ++ []) (x ∷ []));
        operands = two_operands f (root n a) (root m b);
        size = omega arith;
      })
      (fits_more a (more b none) n (tree_fits a n) (fits_more b none m (tree_fits b m) (fits_none (m + count b))))
  tree_fits (three f a b c) n =
      let m = n + count a in
      let k = m + count b in
      let x = three_shape f (root n a) (root m b) (root k c) in
      fits (three f a b c) (more a (more b (more c none))) n
      (record {
        last = x;
        is = ap (λ l. shapes a n ++ (shapes b m ++ (l ++ (x ∷ [])))) (sym (append-nil (shapes c k)))
            ∙ ap (λ l. shapes a n ++ l) (sym (append_assoc (shapes b m) (shapes c k ++ []) (x ∷ [])))
            ∙ sym (append_assoc (shapes a n) (shapes b m ++ (shapes c k ++ [])) (x ∷ []));
        operands = three_operands f (root n a) (root m b) (root k c);
        size = omega arith;
      })
      (fits_more a (more b (more c none)) n (tree_fits a n) (fits_more b (more c none) m (tree_fits b m) (fits_more c none k (tree_fits c k) (fits_none (k + count c)))))
  tree_fits (assemble k es) n = fits (assemble k es) es n (record { last = Shape.assemble k (roots n es); is = refl; operands = refl; size = refl }) (trees_fit es n)

  trees_fit : (es : Trees) (n : ℕ) → FitsAll es n
  trees_fit none n = fits_none n
  trees_fit (more t es) n = fits_more t es n (tree_fits t n) (trees_fit es (n + count t))

-- ---- the nodes of a text

pub shapes_size : (t : Tree) (n : ℕ) → length (shapes t n) ≡ count t
shapes_size t n = (tree_fits t n).size

pub text_fresh : (t : Tree) → FreshAll 0 [] (shapes t 0)
text_fresh t = (tree_fits t 0).nodes_fresh [] each_nil

used_below : (l : List ℕ) (n : ℕ) → ((m : ℕ) → m < n → T (member m l)) → T (all_used l n)
unfolding all_used
used_below l zero h = tt
used_below l (suc n) h = and_i (member n l) (all_used l n) (h n (omega arith)) (used_below l n (λ m k. h m (omega arith)))

pub text_used : (t : Tree) → T (all_used (operands_all (shapes t 0)) (count t - 1))
text_used t = let e = root_last 0 t in used_below (operands_all (shapes t 0)) (count t - 1) (λ m h. (tree_fits t 0).every m (omega arith) (omega arith))
