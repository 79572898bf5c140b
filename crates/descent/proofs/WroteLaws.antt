-- The nodes of a tree, put down after those of its parts. Assumes nothing.
use mathlib.Core.Path.{◌≡◌, refl, ap, ◌∙◌, subst}
use mathlib.Core.List.{List, [], ◌∷◌, ◌++◌, append_assoc}
use Prim.Native.Nat.{ℕ, ◌+◌, ◌-◌, ◌≤◌}
use native.Mathlib.Omega.{arith}
use lib.ListN.{length, length-append}
use Rattle.sheet.specs.Lines.{Shape}
use Rattle.sheet.specs.Grammar.Trees.{Two, Three, Tree, two, three, count, root, two_shape, three_shape, shapes}
use Rattle.sheet.proofs.TextNodes.{root_last, shapes_size}
use Rattle.tables.specs.Layout.{Kept}
use Rattle.tables.proofs.Tables.{kept_then}
use Rattle.emission.specs.Nodes.{HoldsNodes}
use Rattle.importer.specs.Lets.{SameLets}
use Rattle.importer.specs.Descent.{Wrote}
use Rattle.importer.specs.Puts.{PutNode}
use Rattle.importer.proofs.LetLaws.{lets_then, lets_behind}

-- c nodes more, after n of them and inside d `let`s
pub record Lays (k n d c : ℕ) (ys : List Shape) (u v : List ℕ) : Type 0 where
  pub size : length ys ≡ c
  pub nodes : n + d + c ≤ 768 → (xs : List Shape) → length xs ≡ n → HoldsNodes k xs u → HoldsNodes k (xs ++ ys) v
  pub lets : SameLets d u v
  pub kept : Kept u v

pub lays_tree : {k n d : ℕ} {u v : List ℕ} (x : Tree) → Wrote k x n d u v → Lays k n d (count x) (shapes x n) u v
lays_tree {n = n} x w = record { size = shapes_size x n; nodes = w.nodes; lets = w.lets; kept = w.kept }

pub lays_put : {k m n d : ℕ} {u v : List ℕ} {x : Shape} → m ≡ n → PutNode k m x u v → Lays k n d 1 (x ∷ []) u v
lays_put {d = d} e put = record {
  size = refl;
  nodes = λ room xs s h. put.node (omega arith) xs (omega arith) h;
  lets = lets_behind d put.kept;
  kept = put.kept.kept;
}

pub lays_then : {k n d c c' : ℕ} {ys zs : List Shape} {u v w : List ℕ} → Lays k n d c ys u v → Lays k (n + c) d c' zs v w → Lays k n d (c + c') (ys ++ zs) u w
lays_then {k} {n} {d} {c} {c'} {ys} {zs} {u} {v} {w} x y = record {
  size = let e = length-append ys zs in let a = x.size in let b = y.size in omega arith;
  nodes = λ room xs s h.
      subst (λ (l : List Shape). HoldsNodes k l w) (append_assoc xs ys zs)
      (y.nodes (omega arith) (xs ++ ys) (let e = length-append xs ys in let a = x.size in omega arith) (x.nodes (omega arith) xs s h));
  lets = lets_then x.lets y.lets;
  kept = kept_then x.kept y.kept;
}

pub wrote_by : {k n d c : ℕ} {ys : List Shape} {u v : List ℕ} (x : Tree) → Lays k n d c ys u v → c ≡ count x → ys ≡ shapes x n → Wrote k x n d u v
wrote_by {k} {n} {d} {c} {ys} {u} {v} x l e q = record {
  nodes = λ room xs s h. subst (λ (zs : List Shape). HoldsNodes k (xs ++ zs) v) q (l.nodes (omega arith) xs s h);
  lets = l.lets;
  kept = l.kept;
}

-- the last of m nodes is the root of the tree that they end with
pub root_is : (n m : ℕ) (x : Tree) → m ≡ n + count x → m - 1 ≡ root n x
root_is n m x e = let r = root_last n x in omega arith

-- ---- what a step adds to a tree a, whose nodes come before: the operands' nodes and its own

pub two_more : {k n d m : ℕ} {u v w : List ℕ} (i : ℕ) (a b : Tree) (f : Two) → n ≡ i + count a → Wrote k b n d u v → m ≡ n + count b → PutNode k m (two_shape f (n - 1) (m - 1)) v w
    → Lays k n d (count b + 1) (shapes b (i + count a) ++ (two_shape f (root i a) (root (i + count a) b) ∷ [])) u w
two_more {k} {n} {d} {m} {u} {v} {w} i a b f e y q put =
    subst (λ (ys : List Shape). Lays k n d (count b + 1) ys u w) same (lays_then (lays_tree b y) (lays_put q put))
  where
    same : shapes b n ++ (two_shape f (n - 1) (m - 1) ∷ []) ≡ shapes b (i + count a) ++ (two_shape f (root i a) (root (i + count a) b) ∷ [])
    same =
        ap (λ (r : ℕ). shapes b n ++ (two_shape f r (m - 1) ∷ [])) (root_is i n a e)
        ∙ ap (λ (r : ℕ). shapes b n ++ (two_shape f (root i a) r ∷ [])) (root_is n m b q)
        ∙ ap (λ (r : ℕ). shapes b r ++ (two_shape f (root i a) (root r b) ∷ [])) e

pub three_more : {k n d m l : ℕ} {u v v' w : List ℕ} (i : ℕ) (a b c : Tree) (f : Three) → n ≡ i + count a → Wrote k b n d u v → m ≡ n + count b → Wrote k c m d v v' → l ≡ m + count c
    → PutNode k l (three_shape f (n - 1) (m - 1) (l - 1)) v' w
    → Lays k n d (count b + (count c + 1)) (shapes b (i + count a) ++ (shapes c (i + count a + count b) ++ (three_shape f (root i a) (root (i + count a) b) (root (i + count a + count b) c) ∷ []))) u w
three_more {k} {n} {d} {m} {l} {u} {v} {v'} {w} i a b c f e y q z o put =
    subst (λ (ys : List Shape). Lays k n d (count b + (count c + 1)) ys u w) same
    (lays_then (lays_tree b y) (subst (λ (j : ℕ). Lays k j d (count c + 1) (shapes c m ++ (three_shape f (n - 1) (m - 1) (l - 1) ∷ [])) v w) q (lays_then (lays_tree c z) (lays_put o put))))
  where
    same : shapes b n ++ (shapes c m ++ (three_shape f (n - 1) (m - 1) (l - 1) ∷ []))
        ≡ shapes b (i + count a) ++ (shapes c (i + count a + count b) ++ (three_shape f (root i a) (root (i + count a) b) (root (i + count a + count b) c) ∷ []))
    same =
        ap (λ (r : ℕ). shapes b n ++ (shapes c m ++ (three_shape f r (m - 1) (l - 1) ∷ []))) (root_is i n a e)
        ∙ ap (λ (r : ℕ). shapes b n ++ (shapes c m ++ (three_shape f (root i a) r (l - 1) ∷ []))) (root_is n m b q)
        ∙ ap (λ (r : ℕ). shapes b n ++ (shapes c m ++ (three_shape f (root i a) (root n b) r ∷ []))) (root_is m l c o)
        ∙ ap (λ (r : ℕ). shapes b n ++ (shapes c r ++ (three_shape f (root i a) (root n b) (root r c) ∷ []))) q
        ∙ ap (λ (r : ℕ). shapes b r ++ (shapes c (r + count b) ++ (three_shape f (root i a) (root r b) (root (r + count b) c) ∷ []))) e

pub wrote_two : {k n d m l : ℕ} {u v v' w : List ℕ} (a b : Tree) (f : Two) → Wrote k a n d u v → m ≡ n + count a → Wrote k b m d v v' → l ≡ m + count b
    → PutNode k l (two_shape f (m - 1) (l - 1)) v' w → Wrote k (two f a b) n d u w
unfolding count shapes
wrote_two {k} {n} {d} {m} {l} {u} {v} {v'} {w} a b f x e y q put =
    wrote_by (two f a b) (lays_then (lays_tree a x) (subst (λ (j : ℕ). Lays k j d (count b + 1) (shapes b (n + count a) ++ (two_shape f (root n a) (root (n + count a) b) ∷ [])) v w) e (two_more n a b f e y q put)))
    (omega arith) refl

pub wrote_three : {k n d m l j : ℕ} {u v v' v'' w : List ℕ} (a b c : Tree) (f : Three) → Wrote k a n d u v → m ≡ n + count a → Wrote k b m d v v' → l ≡ m + count b
    → Wrote k c l d v' v'' → j ≡ l + count c → PutNode k j (three_shape f (m - 1) (l - 1) (j - 1)) v'' w → Wrote k (three f a b c) n d u w
unfolding count shapes
wrote_three {k} {n} {d} {m} {l} {j} {u} {v} {v'} {v''} {w} a b c f x e y q z o put =
    wrote_by (three f a b c)
    (lays_then (lays_tree a x) (subst (λ (i : ℕ). Lays k i d (count b + (count c + 1)) (shapes b (n + count a) ++ (shapes c (n + count a + count b) ++ (three_shape f (root n a) (root (n + count a) b) (root (n + count a + count b) c) ∷ []))) v w) e (three_more n a b c f e y q z o put)))
    (omega arith) refl

-- after the nodes of a
pub step_nodes : {k n d c i : ℕ} {ys : List Shape} {u w : List ℕ} (a : Tree) → Lays k n d c ys u w → n ≡ i + count a → n + d + c ≤ 768 → (xs : List Shape) → length xs ≡ i
    → HoldsNodes k (xs ++ shapes a i) u → HoldsNodes k (xs ++ (shapes a i ++ ys)) w
step_nodes {k} {n} {d} {c} {i} {ys} {u} {w} a l e room xs s h =
    subst (λ (zs : List Shape). HoldsNodes k zs w) (append_assoc xs (shapes a i) ys)
    (l.nodes room (xs ++ shapes a i) (let p = length-append xs (shapes a i) in let q = shapes_size a i in omega arith) h)
