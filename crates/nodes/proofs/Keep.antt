-- A node's tree is told by the words of the nodes up to it, and it is no deeper than these are many. Assumes nothing.
use mathlib.Core.Path.{◌≡◌, refl, ap, ◌∙◌, fun_ext}
use mathlib.Core.Bool.{Bool, true, false}
use mathlib.Core.List.{List}
use Prim.Native.Nat.{ℕ, zero, suc, ◌+◌, ◌*◌, ◌<◌, ◌≤◌, max}
use native.Mathlib.Omega.{arith}
use lib.ListN.{get_or}
use lib.Dec.{eqb, ltb}
use borrow.Author.Tests.{ltb-false}
use Rattle.std.specs.Prelude.{if◌then◌else◌}
use Rattle.laws.proofs.Tests.{by-if}
use Rattle.ocl.specs.Types.{Kind}
use Rattle.ocl.specs.Forms.{Expr, node, Form, leaf, assemble, undef, levels, levels_in, levels_of}
use Rattle.nodes.specs.Nodes.{word, leaf_of, unary_of, kind_of, operands_in, form_of, trees_below, tree_at}

-- ---- what a form takes of its words

module _ (f : ℕ → Expr) (w v : ℕ → ℕ) (same : (j : ℕ) → j < 8 → w j ≡ v j) where
  operands_keep : (c k : ℕ) → k + c ≤ 8 → operands_in f w c k ≡ operands_in f v c k
  unfolding operands_in
  operands_keep zero k h = refl
  operands_keep (suc c) k h = rw (same k (omega arith), operands_keep c (k + 1) (omega arith))

  assemble_keep : (kind : Kind) (c : ℕ) → (if ltb 4 c then leaf undef else assemble kind (operands_in f w c 1)) ≡ (if ltb 4 c then leaf undef else assemble kind (operands_in f v c 1))
  assemble_keep kind c = go (ltb 4 c) refl
    where
      go : (b : Bool) → ltb 4 c ≡ b → (if b then leaf undef else assemble kind (operands_in f w c 1)) ≡ (if b then leaf undef else assemble kind (operands_in f v c 1))
      go true e = refl
      go false e = ap (assemble kind) (operands_keep c 1 (let l = ltb-false 4 c e in omega arith))

  pub form_keep : (k : ℕ) → form_of f w k ≡ form_of f v k
  unfolding form_of leaf_of unary_of
  form_keep k =
      rw (same 1 (omega arith), same 2 (omega arith), same 3 (omega arith), same 4 (omega arith), same 5 (omega arith), same 6 (omega arith), assemble_keep (kind_of k) (v 5))

-- ---- two tables with the same words below node m

module _ (t u : List ℕ) (m : ℕ) (same : (i : ℕ) → i < 8 * m → get_or t i 0 ≡ get_or u i 0) where
  trees_keep : (n : ℕ) → n ≤ m → (a : ℕ) → trees_below t n a ≡ trees_below u n a
  unfolding trees_below
  trees_keep zero h a = refl
  trees_keep (suc n) h a =
      let below : trees_below t n ≡ trees_below u n = fun_ext (trees_keep n (omega arith)) in
      let words : (j : ℕ) → j < 8 → word t n j ≡ word u n j = (λ j l. same (8 * n + j) (omega arith)) in
      let form : form_of (trees_below t n) (word t n) (word t n 0) ≡ form_of (trees_below u n) (word u n) (word u n 0)
      = ap (λ (f : ℕ → Expr). form_of f (word t n) (word t n 0)) below
      ∙ form_keep (trees_below u n) (word t n) (word u n) words (word t n 0)
      ∙ ap (form_of (trees_below u n) (word u n)) (words 0 (omega arith)) in
      rw (form, trees_keep n (omega arith) a)

  pub tree_keep : (n : ℕ) → n < m → tree_at t n ≡ tree_at u n
  unfolding tree_at
  tree_keep n h = trees_keep (suc n) (omega arith) n

-- ---- depth

module _ (f : ℕ → Expr) (b : ℕ) (low : (a : ℕ) → levels (f a) ≤ b) where
  operands_depth : (w : ℕ → ℕ) (c k : ℕ) → levels_of (operands_in f w c k) ≤ b
  unfolding operands_in levels_of
  operands_depth w zero k = omega arith
  operands_depth w (suc c) k = omega (arith, low (w k), operands_depth w c (k + 1))

  Low : Form → Type 0
  Low x = levels_in x ≤ b

  form_depth : (w : ℕ → ℕ) (k : ℕ) → Low (form_of f w k)
  unfolding Low form_of levels_in
  form_depth w k =
      by-if Low (ltb 37 k) _ _ (λ h. omega arith) (λ h. by-if Low (ltb k 7) _ _ (λ h. omega arith) (λ h. by-if Low (ltb k 13) _ _ (λ h. low _)
      (λ h. by-if Low (ltb k 23) _ _ (λ h. two) (λ h. by-if Low (ltb k 25) _ _ (λ h. two) (λ h. by-if Low (ltb k 27) _ _ (λ h. two)
      (λ h. by-if Low (ltb k 30) _ _ (λ h. by-if Low (ltb 4 (w 5)) _ _ (λ h. omega arith) (λ h. operands_depth w (w 5) 1))
      (λ h. by-if Low (eqb k 30) _ _ (λ h. low _) (λ h. by-if Low (eqb k 31) _ _ (λ h. three) (λ h. by-if Low (eqb k 32) _ _ (λ h. two)
      (λ h. by-if Low (ltb k 35) _ _ (λ h. low _) (λ h. by-if Low (eqb k 35) _ _ (λ h. three) (λ h. by-if Low (eqb k 36) _ _ (λ h. two) (λ h. two)))))))))))))
    where
      two : max (levels (f (w 1))) (levels (f (w 2))) ≤ b
      two = omega (arith, low (w 1), low (w 2))

      three : max (levels (f (w 1))) (max (levels (f (w 2))) (levels (f (w 3)))) ≤ b
      three = omega (arith, low (w 1), low (w 2), low (w 3))

trees_depth : (t : List ℕ) (n a : ℕ) → levels (trees_below t n a) ≤ suc n
unfolding trees_below levels levels_in Low
trees_depth t zero a = omega arith
trees_depth t (suc n) a = go (trees_depth t n) (eqb a n)
  where
    go : ((a : ℕ) → levels (trees_below t n a) ≤ suc n) → (b : Bool) → levels (if b then node n (form_of (trees_below t n) (word t n) (word t n 0)) else trees_below t n a) ≤ suc (suc n)
    go ih true = omega (arith, form_depth (trees_below t n) (suc n) ih (word t n) (word t n 0))
    go ih false = omega (arith, ih a)

pub tree_depth : (t : List ℕ) (n : ℕ) → levels (tree_at t n) ≤ n + 2
unfolding tree_at
tree_depth t n = omega (arith, trees_depth t (suc n) n)
