-- The nodes of `not`s: each turn of the loop that puts them down. Assumes nothing.
use mathlib.Core.Path.{◌≡◌, refl, ◌∙◌, subst}
use mathlib.Core.List.{List, [], ◌∷◌, ◌++◌, append_assoc}
use Prim.Native.Nat.{ℕ, suc, ◌+◌, ◌-◌, ◌<◌, ◌≤◌}
use native.Mathlib.Omega.{arith}
use lib.ListN.{length, length-append}
use Rattle.ocl.specs.Forms.{negation}
use Rattle.sheet.specs.Lines.{Shape, forms}
use Rattle.sheet.specs.Grammar.Trees.{unary, Tree, count, root, one_shape, shapes}
use Rattle.sheet.proofs.TextNodes.{root_last, shapes_size}
use Rattle.tables.proofs.Tables.{kept_refl, kept_then}
use Rattle.shapes.specs.Fields.{cut}
use Rattle.shapes.specs.Forms.{StandsFor}
use Rattle.text.specs.Words.{form_codes}
use Rattle.text.specs.Forms.{with_code, fields_by}
use Rattle.shapes.specs.Built.{count_of, form_with, Builds}
use Rattle.shapes.specs.declared.Parsed.{Parsed}
use Rattle.emission.specs.Nodes.{HoldsNodes, KeptBehind, Emitted}
use Rattle.importer.specs.Leaves.{negated}
use Rattle.importer.specs.Steps.{Negates}
use Rattle.importer.proofs.AnswerLaws.{negated_count}

pub behind_refl : (w : List ℕ) → KeptBehind w w
behind_refl w = record { kept = kept_refl w; behind = λ i l. refl }

pub behind_then : {u v w : List ℕ} → KeptBehind u v → KeptBehind v w → KeptBehind u w
behind_then p q = record { kept = kept_then p.kept q.kept; behind = λ i l. q.behind i l ∙ p.behind i l }

-- of the nodes from n on, those below m
pub record Negating (k n : ℕ) (before : List ℕ) (m : ℕ) (w : List ℕ) : Type 0 where
  pub from : n ≤ m
  pub on : (x : Tree) (i : ℕ) → n ≡ i + count x → m ≤ 768 → (xs : List Shape) → length xs ≡ i → HoldsNodes k (xs ++ shapes x i) before
      → HoldsNodes k (xs ++ shapes (negated (m - n) x) i) w
  pub kept : KeptBehind before w

module _ (k n : ℕ) (before : List ℕ) where
  pub negate_start : Negating k n before n before
  unfolding negated
  negate_start = record {
    from = omega arith;
    on = λ x i e l xs s h. let z : 0 ≡ n - n = omega arith in subst (λ (j : ℕ). HoldsNodes k (xs ++ shapes (negated j x) i) before) z h;
    kept = behind_refl before;
  }

  pub negate_end : {m times : ℕ} {w : List ℕ} → Negating k n before m w → m ≡ n + times → Negates k n times before w
  negate_end {m} {times} {w} c e = record {
    nodes = λ x i q l xs s h. let z : m - n ≡ times = omega arith in subst (λ (j : ℕ). HoldsNodes k (xs ++ shapes (negated j x) i) w) z (c.on x i q (omega arith) xs s h);
    kept = c.kept;
  }

  module _ {m : ℕ} {w v : List ℕ} {p : Parsed} (c : Negating k n before m w) (some : 0 < n) (built : Builds 7 ((m - 1) ∷ 0 ∷ 0 ∷ 0 ∷ []) k p) (put : Emitted m p w v) where
    not_is : (y : Tree) (i : ℕ) → m ≡ i + count y → m < 768 → StandsFor k (one_shape (unary negation) (root i y)) p
    unfolding count_of form_with fields_by with_code forms form_codes one_shape
    not_is y i e l =
        let r = root_last i y in
        let z : m - 1 ≡ cut (root i y) = omega arith in
        built.is (root i y ∷ []) (omega arith) refl (rw z)

    pub negate_next : Negating k n before (m + 1) v
    unfolding negated shapes
    negate_next = record {
      from = let l = c.from in omega arith;
      on = λ x i e l xs s h.
          let q = negated_count (m - n) x in
          let f = c.from in
          let g : m ≡ i + count (negated (m - n) x) = omega arith in
          let z : suc (m - n) ≡ m + 1 - n = omega arith in
          subst (λ (j : ℕ). HoldsNodes k (xs ++ shapes (negated j x) i) v) z
          (subst (λ (l : List Shape). HoldsNodes k l v) (append_assoc xs (shapes (negated (m - n) x) i) (one_shape (unary negation) (root i (negated (m - n) x)) ∷ []))
          (put.node (omega arith) k (one_shape (unary negation) (root i (negated (m - n) x))) (not_is (negated (m - n) x) i g (omega arith)) (xs ++ shapes (negated (m - n) x) i)
          (long x i xs s g) (c.on x i e (omega arith) xs s h)));
      kept = behind_then c.kept put.kept;
    }
      where
        long : (x : Tree) (i : ℕ) (xs : List Shape) → length xs ≡ i → m ≡ i + count (negated (m - n) x) → length (xs ++ shapes (negated (m - n) x) i) ≡ m
        long x i xs s g = let a = shapes_size (negated (m - n) x) i in let b = length-append xs (shapes (negated (m - n) x) i) in omega arith
