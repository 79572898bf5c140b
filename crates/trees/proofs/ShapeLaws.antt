-- A form over its operands' trees: equal trees, depth, and a node's words from the words of its line. Assumes nothing.
use mathlib.Core.Path.{◌≡◌, refl, ap, ◌∙◌}
use mathlib.Core.List.{List, [], ◌∷◌}
use Prim.Native.Nat.{ℕ, ◌<◌, ◌≤◌, max}
use native.Mathlib.Nat.{zero-add}
use native.Mathlib.Omega.{arith}
use lib.ListN.{length, get_or}
use Rattle.laws.specs.Lists.{Each, each_nil, each-cons}
use Rattle.laws.proofs.Cases.{AllBelow, all-below}
use Rattle.ocl.specs.Types.{Kind}
use Rattle.ocl.specs.Forms.{Expr, Definition, levels, levels_in, levels_of}
use Rattle.sheet.specs.Lines.{Shape, leaf, unary, binary, connective, is_undef, conditional, let_in, attribute, call, quantified, iterate, assemble}
use Rattle.sheet.specs.Sheet.{operands_of, grow_all, grow}
use Rattle.nodes.specs.Nodes.{Called, operand_word, shape_words}
use Rattle.trees.specs.Operands.{shifted}
use Rattle.trees.proofs.MarkLaws.{deepest_of}

-- ---- trees that agree on the operands

module _ (f g : ℕ → Expr) (ds : ℕ → Definition) where
  all_same : (es : List ℕ) → Each (λ a. f a ≡ g a) es → grow_all f es ≡ grow_all g es
  unfolding grow_all
  all_same [] each_nil = refl
  all_same (a ∷ es) (each-cons e h) = rw (e, all_same es h)

  pub grow_same : (x : Shape) → Each (λ a. f a ≡ g a) (operands_of x) → grow f ds x ≡ grow g ds x
  unfolding grow operands_of
  grow_same (leaf l) h = refl
  grow_same (unary op a) (each-cons p h) = rw p
  grow_same (binary op a b) (each-cons p (each-cons q h)) = rw (p, q)
  grow_same (connective c a b) (each-cons p (each-cons q h)) = rw (p, q)
  grow_same (is_undef a) (each-cons p h) = rw p
  grow_same (conditional c a b) (each-cons p (each-cons q (each-cons r h))) = rw (p, q, r)
  grow_same (let_in i a b) (each-cons p (each-cons q h)) = rw (p, q)
  grow_same (attribute x name a) (each-cons p h) = rw p
  grow_same (call a n) (each-cons p h) = rw p
  grow_same (quantified k i a b) (each-cons p (each-cons q h)) = rw (p, q)
  grow_same (iterate i j t a e b) (each-cons p (each-cons q (each-cons r h))) = rw (p, q, r)
  grow_same (assemble k es) h = rw (all_same es h)

-- ---- depth

-- the depth of the body that is called
unfoldable pub body_levels : (ℕ → Definition) → Shape → ℕ
body_levels ds (leaf l) = 0
body_levels ds (unary op a) = 0
body_levels ds (binary op a b) = 0
body_levels ds (connective c a b) = 0
body_levels ds (is_undef a) = 0
body_levels ds (conditional c a b) = 0
body_levels ds (let_in i a b) = 0
body_levels ds (attribute x name a) = 0
body_levels ds (call a n) = levels (ds n).body
body_levels ds (quantified q i a b) = 0
body_levels ds (iterate i j t a e b) = 0
body_levels ds (assemble k es) = 0

module _ (f : ℕ → Expr) (ds : ℕ → Definition) where
  all_depth : (es : List ℕ) → levels_of (grow_all f es) ≡ deepest_of (λ a. levels (f a)) es
  unfolding grow_all levels_of deepest_of
  all_depth [] = refl
  all_depth (a ∷ es) = rw (all_depth es)

  pub grow_depth : (x : Shape) → levels_in (grow f ds x) ≡ max (deepest_of (λ a. levels (f a)) (operands_of x)) (body_levels ds x)
  unfolding grow operands_of levels_in deepest_of body_levels
  grow_depth (leaf l) = omega arith
  grow_depth (unary op a) = omega arith
  grow_depth (binary op a b) = omega arith
  grow_depth (connective c a b) = omega arith
  grow_depth (is_undef a) = omega arith
  grow_depth (conditional c a b) = omega arith
  grow_depth (let_in i a b) = omega arith
  grow_depth (attribute x name a) = omega arith
  grow_depth (call a n) = omega arith
  grow_depth (quantified q i a b) = omega arith
  grow_depth (iterate i j t a e b) = omega arith
  grow_depth (assemble k es) = let e = all_depth es in omega arith

-- ---- a node's words

-- the first eight
abbrev eight : (ℕ → ℕ) → List ℕ
eight v = v 0 ∷ v 1 ∷ v 2 ∷ v 3 ∷ v 4 ∷ v 5 ∷ v 6 ∷ v 7 ∷ []

eight_at : (v : ℕ → ℕ) (j : ℕ) → j < 8 → v j ≡ get_or (eight v) j 0
unfolding AllBelow
eight_at v = all-below (λ j. v j ≡ get_or (eight v) j 0) 8 ((((((((tt, refl), refl), refl), refl), refl), refl), refl), refl)

module _ (first type : ℕ) (d : Called) (line : ℕ) where
  assemble_eight : (k : Kind) (es : List ℕ) → length es ≤ 4 → eight (shifted (shape_words 0 type d line (assemble k es)) (length es) first) ≡ shape_words first type d line (assemble k es)
  unfolding shape_words shifted operand_word
  assemble_eight k [] h = refl
  assemble_eight k (a ∷ []) h = simp zero-add
  assemble_eight k (a ∷ b ∷ []) h = simp zero-add
  assemble_eight k (a ∷ b ∷ c ∷ []) h = simp zero-add
  assemble_eight k (a ∷ b ∷ c ∷ d ∷ []) h = simp zero-add
  assemble_eight k (a ∷ b ∷ c ∷ d ∷ e ∷ es) h = absurd (omega arith)

  shape_eight : (x : Shape) → length (operands_of x) ≤ 4 → eight (shifted (shape_words 0 type d line x) (length (operands_of x)) first) ≡ shape_words first type d line x
  unfolding shape_words shifted operands_of
  shape_eight (leaf l) h = refl
  shape_eight (unary op a) h = simp zero-add
  shape_eight (binary op a b) h = simp zero-add
  shape_eight (connective c a b) h = simp zero-add
  shape_eight (is_undef a) h = simp zero-add
  shape_eight (conditional c a b) h = simp zero-add
  shape_eight (let_in i a b) h = simp zero-add
  shape_eight (attribute x name a) h = simp zero-add
  shape_eight (call a n) h = simp zero-add
  shape_eight (quantified q i a b) h = simp zero-add
  shape_eight (iterate i j t a e b) h = simp zero-add
  shape_eight (assemble k es) h = assemble_eight k es h

  pub shape_shifted : (x : Shape) → length (operands_of x) ≤ 4 → (j : ℕ) → j < 8 → shifted (shape_words 0 type d line x) (length (operands_of x)) first j ≡ get_or (shape_words first type d line x) j 0
  shape_shifted x h j l = eight_at (shifted (shape_words 0 type d line x) (length (operands_of x)) first) j l ∙ ap (λ (ws : List ℕ). get_or ws j 0) (shape_eight x h)

  pub shape_line : (x : Shape) → get_or (shape_words first type d line x) 7 0 ≡ line
  unfolding shape_words
  shape_line (leaf l) = refl
  shape_line (unary op a) = refl
  shape_line (binary op a b) = refl
  shape_line (connective c a b) = refl
  shape_line (is_undef a) = refl
  shape_line (conditional c a b) = refl
  shape_line (let_in i a b) = refl
  shape_line (attribute x name a) = refl
  shape_line (call a n) = refl
  shape_line (quantified q i a b) = refl
  shape_line (iterate i j t a e b) = refl
  shape_line (assemble k es) = refl
