-- The nodes of a text, added to a rule that has none, end in the text's tree. Assumes nothing.
use mathlib.Core.Path.{◌≡◌, refl, ap, ◌∙◌}
use mathlib.Core.Option.{some}
use mathlib.Core.List.{List, [], ◌∷◌, ◌++◌}
use Prim.Native.Nat.{ℕ, zero, suc, ◌+◌, ◌<◌, pred}
use native.Mathlib.Omega.{arith}
use lib.ListN.{length, length-append}
use Rattle.ocl.specs.Types.{Kind}
use Rattle.ocl.specs.Forms.{Leaf, Expr, node, Form, Operands, operand, Definition}
use Rattle.sheet.specs.Lines.{Shape}
use Rattle.sheet.specs.Sheet.{Current, with_node, with_nodes, last_tree, tree_of, definition_of, grow, grow_all}
use Rattle.sheet.specs.Grammar.Trees.{One, unary, is_undef, attribute, call, Two, binary, connective, let_in, quantified, Three, conditional, iterate, Tree, leaf, one, two, three, assemble, Trees, none, more, count, counts, root, roots, one_shape, two_shape, three_shape, shapes, shapes_of}
use Rattle.sheet.specs.TextLaws.{one_form, two_form, three_form, numbered, numbered_all, BodyOfText}
use Rattle.sheet.proofs.Forest.{tree_earlier, tree_last}
use Rattle.sheet.proofs.TextNodes.{root_last}

-- the sheet's definitions
module _ (ds : List Definition) where
  -- a rule that has grown
  record Grown (c d : Current) (k : ℕ) : Type 0 where
    pub first : d.first ≡ c.first
    pub size : length d.trees ≡ length c.trees + k
    pub kept : (i : ℕ) → i < length c.trees → tree_of d.trees i ≡ tree_of c.trees i

  grown_none : (c : Current) → Grown c c 0
  grown_none c = record { first = refl; size = omega arith; kept = λ i h. refl }

  grown_on : {c d e : Current} (j k : ℕ) → Grown c d j → Grown d e k → Grown c e (j + k)
  grown_on j k x y =
      let a = x.size in
      let b = y.size in
      record { first = y.first ∙ x.first; size = omega arith; kept = λ i h. y.kept i (omega arith) ∙ x.kept i h }

  -- one node more
  node_grown : (c : Current) (x : Shape) → Grown c (with_node ds c x) 1
  unfolding with_node
  node_grown c x = record {
    first = refl;
    size = length-append c.trees _ ∙ (omega arith);
    kept = λ i h. tree_earlier c.trees _ i h;
  }

  node_here : (c : Current) (x : Shape) (i : ℕ) → i ≡ length c.trees → tree_of (with_node ds c x).trees i ≡ node (c.first + length c.trees) (grow (tree_of c.trees) (definition_of ds) x)
  unfolding with_node
  node_here c x i e = tree_last c.trees _ i e

  pub nodes_append : (c : Current) (xs ys : List Shape) → with_nodes ds c (xs ++ ys) ≡ with_nodes ds (with_nodes ds c xs) ys
  unfolding with_nodes
  nodes_append c [] ys = refl
  nodes_append c (x ∷ xs) ys = nodes_append (with_node ds c x) xs ys

  grow_one : (g : ℕ → Expr) (f : One) (a : ℕ) → grow g (definition_of ds) (one_shape f a) ≡ one_form (definition_of ds) f (g a)
  unfolding grow one_shape one_form
  grow_one g (unary op) a = refl
  grow_one g is_undef a = refl
  grow_one g (attribute x name) a = refl
  grow_one g (call n) a = refl

  grow_two : (g : ℕ → Expr) (f : Two) (a b : ℕ) → grow g (definition_of ds) (two_shape f a b) ≡ two_form f (g a) (g b)
  unfolding grow two_shape two_form
  grow_two g (binary op) a b = refl
  grow_two g (connective c) a b = refl
  grow_two g (let_in i) a b = refl
  grow_two g (quantified q i) a b = refl

  grow_three : (g : ℕ → Expr) (f : Three) (a b c : ℕ) → grow g (definition_of ds) (three_shape f a b c) ≡ three_form f (g a) (g b) (g c)
  unfolding grow three_shape three_form
  grow_three g conditional a b c = refl
  grow_three g (iterate i j t) a b c = refl

  -- a tree that has been added, from the node n on
  record Added (c d : Current) (n : ℕ) (t : Tree) : Type 0 where
    pub grown : Grown c d (count t)
    pub tree : tree_of d.trees (root n t) ≡ numbered (definition_of ds) t (c.first + n)

  record AddedAll (c d : Current) (n : ℕ) (es : Trees) : Type 0 where
    pub grown : Grown c d (counts es)
    pub trees : grow_all (tree_of d.trees) (roots n es) ≡ numbered_all (definition_of ds) es (c.first + n)

  -- the last node of a tree, after its operands
  last_node : (c d : Current) (n k : ℕ) (x : Shape) (f : Form) (i j : ℕ) → n ≡ length c.trees → Grown c d k → grow (tree_of d.trees) (definition_of ds) x ≡ f → i ≡ n + k → j ≡ c.first + n + k
      → tree_of (with_node ds d x).trees i ≡ node j f
  last_node c d n k x f i j e g q a b =
      let z = g.size in
      let h = g.first in
      let w : d.first + length d.trees ≡ j = omega arith in
      node_here d x i (omega arith) ∙ rw (w, q)

  moved : (t : Tree) {a b : ℕ} → a ≡ b → numbered (definition_of ds) t a ≡ numbered (definition_of ds) t b
  moved t e = ap (λ (k : ℕ). numbered (definition_of ds) t k) e

  leaf_added : (l : Leaf) (c : Current) (n : ℕ) → n ≡ length c.trees → Added c (with_node ds c (Shape.leaf l)) n (leaf l)
  unfolding count numbered root grow
  leaf_added l c n e = record {
    grown = node_grown c (Shape.leaf l);
    tree = last_node c c n 0 (Shape.leaf l) (Form.leaf l) (pred (n + 1)) (c.first + n) e (grown_none c) refl (omega arith) (omega arith);
  }

  one_added : (f : One) (a : Tree) (c d : Current) (n : ℕ) → n ≡ length c.trees → Added c d n a → Added c (with_node ds d (one_shape f (root n a))) n (one f a)
  unfolding count numbered root
  one_added f a c d n e x = record {
    grown = let y = grown_on (count a) 1 x.grown (node_grown d (one_shape f (root n a))) in let z : count a + 1 ≡ suc (count a) = omega arith in rw z at y;
    tree = last_node c d n (count a) (one_shape f (root n a)) _ (pred (n + suc (count a))) _ e x.grown
        (grow_one (tree_of d.trees) f (root n a) ∙ ap (one_form (definition_of ds) f) x.tree) (omega arith) refl;
  }

  -- a tree added before another one stays
  stays : {c d e : Current} {n m : ℕ} {t : Tree} → n ≡ length c.trees → Added c d n t → Grown d e m → tree_of e.trees (root n t) ≡ numbered (definition_of ds) t (c.first + n)
  stays {c} {d} {e} {n} {m} {t} p x g =
      let r = root_last n t in
      let z = x.grown.size in
      g.kept (root n t) (omega arith) ∙ x.tree

  -- where the next tree is added
  next_at : {c d : Current} {n k : ℕ} → n ≡ length c.trees → Grown c d k → n + k ≡ length d.trees
  next_at e g = let z = g.size in omega arith

  follows : {c d : Current} (e : Current) (n : ℕ) {k : ℕ} (t : Tree) → Grown c d k → tree_of e.trees (root (n + k) t) ≡ numbered (definition_of ds) t (d.first + (n + k)) → tree_of e.trees (root (n + k) t) ≡ numbered (definition_of ds) t (c.first + n + k)
  follows {c} {d} e n {k} t g h = let z = g.first in let w : d.first + (n + k) ≡ c.first + n + k = omega arith in h ∙ moved t w

  two_added : (f : Two) (a b : Tree) (c d e : Current) (n : ℕ) → n ≡ length c.trees → Added c d n a → Added d e (n + count a) b
      → Added c (with_node ds e (two_shape f (root n a) (root (n + count a) b))) n (two f a b)
  unfolding count numbered root
  two_added f a b c d e n p x y =
      let g = grown_on (count a) (count b) x.grown y.grown in
      record {
        grown = let w = grown_on (count a + count b) 1 g (node_grown e (two_shape f (root n a) (root (n + count a) b))) in let z : count a + count b + 1 ≡ suc (count a + count b) = omega arith in rw z at w;
        tree = last_node c e n (count a + count b) (two_shape f (root n a) (root (n + count a) b)) _ (pred (n + suc (count a + count b))) _ p g
            (grow_two (tree_of e.trees) f (root n a) (root (n + count a) b) ∙ both (stays p x y.grown) (follows e n b x.grown y.tree)) (omega arith) (omega arith);
      }
    where
      both : {u v w z : Expr} → u ≡ v → w ≡ z → two_form f u w ≡ two_form f v z
      both q r = rw (q, r)

  three_added : (f : Three) (a b t : Tree) (c d e h : Current) (n : ℕ) → n ≡ length c.trees → Added c d n a → Added d e (n + count a) b → Added e h (n + count a + count b) t
      → Added c (with_node ds h (three_shape f (root n a) (root (n + count a) b) (root (n + count a + count b) t))) n (three f a b t)
  unfolding count numbered root
  three_added f a b t c d e h n p x y w =
      let g = grown_on (count a) (count b) x.grown y.grown in
      let k = grown_on (count a + count b) (count t) g w.grown in
      let size : count a + count b + count t + 1 ≡ suc (count a + (count b + count t)) = omega arith in
      let z = w.grown.size in
      record {
        grown = rw size at (grown_on (count a + count b + count t) 1 k (node_grown h (three_shape f (root n a) (root (n + count a) b) (root (n + count a + count b) t))));
        tree = last_node c h n (count a + count b + count t) (three_shape f (root n a) (root (n + count a) b) (root (n + count a + count b) t)) _ (pred (n + suc (count a + (count b + count t)))) _ p k
            (grow_three (tree_of h.trees) f (root n a) (root (n + count a) b) (root (n + count a + count b) t)
            ∙ all_three (stays p x (grown_on (count b) (count t) y.grown w.grown))
            (follows h n b x.grown (stays (next_at p x.grown) y w.grown))
            (w.tree ∙ moved t (third x.grown.first y.grown.first))) (omega arith) (omega arith);
      }
    where
      all_three : {u v w z q r : Expr} → u ≡ v → w ≡ z → q ≡ r → three_form f u w q ≡ three_form f v z r
      all_three i j k = rw (i, j, k)

      third : d.first ≡ c.first → e.first ≡ d.first → e.first + (n + count a + count b) ≡ c.first + n + count a + count b
      third i j = omega arith

  none_added : (c : Current) (n : ℕ) → AddedAll c c n none
  unfolding counts roots grow_all numbered_all
  none_added c n = record { grown = grown_none c; trees = refl }

  more_added : (t : Tree) (es : Trees) (c d e : Current) (n : ℕ) → n ≡ length c.trees → Added c d n t → AddedAll d e (n + count t) es → AddedAll c e n (more t es)
  unfolding counts roots grow_all numbered_all
  more_added t es c d e n p x y = record {
    grown = grown_on (count t) (counts es) x.grown y.grown;
    trees = both (stays p x y.grown) (y.trees ∙ ap (λ (k : ℕ). numbered_all (definition_of ds) es k) (further x.grown.first));
  }
    where
      both : {u v : Expr} {w z : Operands} → u ≡ v → w ≡ z → operand u w ≡ operand v z
      both i j = rw (i, j)

      further : d.first ≡ c.first → d.first + (n + count t) ≡ c.first + n + count t
      further i = omega arith

  assemble_added : (k : Kind) (es : Trees) (c d : Current) (n : ℕ) → n ≡ length c.trees → AddedAll c d n es → Added c (with_node ds d (Shape.assemble k (roots n es))) n (assemble k es)
  unfolding count numbered root grow
  assemble_added k es c d n p x =
      let size : counts es + 1 ≡ suc (counts es) = omega arith in
      record {
        grown = rw size at (grown_on (counts es) 1 x.grown (node_grown d (Shape.assemble k (roots n es))));
        tree = last_node c d n (counts es) (Shape.assemble k (roots n es)) _ (pred (n + suc (counts es))) _ p x.grown (ap (λ (o : Operands). Form.assemble k o) x.trees) (omega arith) refl;
      }

  mutual
    unfolding count counts root roots shapes shapes_of numbered with_nodes

    added : (t : Tree) (c : Current) (n : ℕ) → n ≡ length c.trees → Added c (with_nodes ds c (shapes t n)) n t
    added (leaf l) c n e = leaf_added l c n e
    added (one f a) c n e = rw (nodes_append c (shapes a n) (one_shape f (root n a) ∷ [])) (one_added f a c (with_nodes ds c (shapes a n)) n e (added a c n e))
    added (two f a b) c n e =
        let x = added a c n e in
        let y = added b (with_nodes ds c (shapes a n)) (n + count a) (next_at e x.grown) in
        rw (
          nodes_append c (shapes a n) (shapes b (n + count a) ++ (two_shape f (root n a) (root (n + count a) b) ∷ [])),
          nodes_append (with_nodes ds c (shapes a n)) (shapes b (n + count a)) (two_shape f (root n a) (root (n + count a) b) ∷ []),
        )
        (two_added f a b c (with_nodes ds c (shapes a n)) (with_nodes ds (with_nodes ds c (shapes a n)) (shapes b (n + count a))) n e x y)
    added (three f a b t) c n e =
        let d = with_nodes ds c (shapes a n) in
        let x = added a c n e in
        let h = with_nodes ds d (shapes b (n + count a)) in
        let p = next_at e x.grown in
        let y = added b d (n + count a) p in
        let w = added t h (n + count a + count b) (next_at p y.grown) in
        rw (
          nodes_append c (shapes a n) (shapes b (n + count a) ++ (shapes t (n + count a + count b) ++ (three_shape f (root n a) (root (n + count a) b) (root (n + count a + count b) t) ∷ []))),
          nodes_append d (shapes b (n + count a)) (shapes t (n + count a + count b) ++ (three_shape f (root n a) (root (n + count a) b) (root (n + count a + count b) t) ∷ [])),
          nodes_append h (shapes t (n + count a + count b)) (three_shape f (root n a) (root (n + count a) b) (root (n + count a + count b) t) ∷ []),
        )
        (three_added f a b t c d h (with_nodes ds h (shapes t (n + count a + count b))) n e x y w)
    added (assemble k es) c n e = rw (nodes_append c (shapes_of es n) (Shape.assemble k (roots n es) ∷ [])) (assemble_added k es c (with_nodes ds c (shapes_of es n)) n e (added_all es c n e))

    added_all : (es : Trees) (c : Current) (n : ℕ) → n ≡ length c.trees → AddedAll c (with_nodes ds c (shapes_of es n)) n es
    added_all none c n e = none_added c n
    added_all (more t es) c n e =
        let x = added t c n e in
        let y = added_all es (with_nodes ds c (shapes t n)) (n + count t) (next_at e x.grown) in
        rw (nodes_append c (shapes t n) (shapes_of es (n + count t))) (more_added t es c (with_nodes ds c (shapes t n)) (with_nodes ds (with_nodes ds c (shapes t n)) (shapes_of es (n + count t))) n e x y)

-- the last of the trees is the one at the last place
last_at : (ts : List Expr) (k : ℕ) → length ts ≡ suc k → last_tree ts ≡ some (tree_of ts k)
unfolding last_tree tree_of
last_at [] k e = absurd (omega arith)
last_at (t ∷ []) zero e = refl
last_at (t ∷ []) (suc k) e = absurd (omega arith)
last_at (t ∷ u ∷ ts) zero e = absurd (omega arith)
last_at (t ∷ u ∷ ts) (suc k) e = last_at (u ∷ ts) k (omega arith)

pub body_of_text : BodyOfText
body_of_text t ds c e =
    let z : 0 ≡ length c.trees = rw e in
    let x = added ds t c 0 z in
    let n = x.grown.size in
    let r = root_last 0 t in
    let f : c.first + 0 ≡ c.first = omega arith in
    last_at (with_nodes ds c (shapes t 0)).trees (root 0 t) (omega arith) ∙ ap some (x.tree ∙ ap (λ (k : ℕ). numbered (definition_of ds) t k) f)
