-- The bodies that an expression ends: each turn of the loop that closes them. Assumes nothing.
use mathlib.Core.Path.{◌≡◌, refl, sym, ap, ◌∙◌, subst}
use mathlib.Core.Logic.{◌≢◌}
use mathlib.Core.List.{List, [], ◌∷◌, ◌++◌, append_assoc}
use Prim.Native.Nat.{ℕ, suc, ◌+◌, ◌-◌, ◌≤◌, ◌<◌}
use native.Mathlib.Omega.{arith}
use lib.ListN.{length, get_or}
use Rattle.memory.specs.Map as memory
use Rattle.sheet.specs.Lines.{Shape, forms}
use Rattle.sheet.specs.Grammar.Trees.{let_in, Tree, two, count, root, two_shape, shapes}
use Rattle.sheet.proofs.TextNodes.{root_last}
use Rattle.tables.specs.Layout.{Kept}
use Rattle.tables.proofs.Tables.{kept_then}
use Rattle.shapes.specs.Fields.{cut}
use Rattle.shapes.specs.Forms.{StandsFor}
use Rattle.text.specs.Words.{form_codes}
use Rattle.text.specs.Forms.{with_code, fields_by}
use Rattle.shapes.specs.Built.{count_of, form_with, Builds}
use Rattle.shapes.specs.declared.Parsed.{Parsed}
use Rattle.emission.specs.Nodes.{HoldsNodes, Emitted}
use Rattle.importer.specs.Lets.{SameLets, Frame, value, body, counted, value_nodes, LetsLie, value_lies, body_lies, Open, ended_in, left_open, LetsClosed}
use Rattle.importer.proofs.LetLaws.{lets_then, lets_behind, lets_kept, open_size}

-- some bodies have ended: those that are left end as all of them do
pub record Left (k from n : ℕ) (fs : List Frame) (x : Tree) (first : List ℕ) (m d : ℕ) (w : List ℕ) : Type 0 where
  pub rest : List Frame
  pub tree : Tree
  pub left : left_open fs ≡ left_open rest
  pub ends : ended_in fs x ≡ ended_in rest tree
  pub is : Open k from n rest tree first m d w

-- m nodes and d `let`s before, m' and d' now
pub record Closing (k from m d : ℕ) (before : List ℕ) (m' d' : ℕ) (w : List ℕ) : Type 0 where
  pub sum : m' + d' ≡ m + d
  pub least : from ≤ d'
  pub some : 0 < m'
  pub few : m + d ≤ 768
  pub on : (n : ℕ) (fs : List Frame) (x : Tree) (first : List ℕ) → Open k from n fs x first m d before → Left k from n fs x first m' d' w
  pub lets : SameLets from before w
  pub kept : Kept before w

module _ (k from m d : ℕ) (before : List ℕ) where
  module _ {m' d' : ℕ} {w : List ℕ} (c : Closing k from m d before m' d' w) where
    -- nothing is left to end
    stopped : ((n : ℕ) (rest : List Frame) (x : Tree) (first : List ℕ) → Open k from n rest x first m' d' w → (left_open rest ≡ rest) × (ended_in rest x ≡ x))
        → LetsClosed k from m d before (record { nodes = m'; lets = d' }) w
    stopped all = record {
      sum = c.sum;
      least = c.least;
      past = λ h. absurd (omega (arith, c.few));
      ends = λ n fs x first h o.
          let l = c.on n fs x first o in
          let q = all n l.rest l.tree first l.is in
          rw (l.left ∙ q.0, l.ends ∙ q.1) l.is;
      lets = c.lets;
      kept = c.kept;
    }

    pub close_all : d' ≤ from → LetsClosed k from m d before (record { nodes = m'; lets = from }) w
    unfolding left_open ended_in
    close_all h =
        let e : d' ≡ from = omega (arith, c.least) in
        subst (λ (j : ℕ). LetsClosed k from m d before (record { nodes = m'; lets = j }) w) e (stopped (λ n rest x first o. go n rest x first o))
      where
        go : (n : ℕ) (rest : List Frame) (x : Tree) (first : List ℕ) → Open k from n rest x first m' d' w → (left_open rest ≡ rest) × (ended_in rest x ≡ x)
        go n [] x first o = (refl, refl)
        go n (f ∷ fs) x first o = absurd (omega (arith, o.lets))

    module _ (some-let : from < d') where
      -- of the innermost `let`
      at_root : (j : ℕ) → d' ≡ from + suc j → get_or w (memory.let_roots + (d' - 1)) 0 ≡ get_or w (memory.let_roots + (from + j)) 0
      at_root j e = ap (λ (i : ℕ). get_or w i 0) (omega arith)

      at_variable : (j : ℕ) → d' ≡ from + suc j → get_or w (memory.let_variables + (d' - 1)) 0 ≡ get_or w (memory.let_variables + (from + j)) 0
      at_variable j e = ap (λ (i : ℕ). get_or w i 0) (omega arith)

      pub close_value : {lets : ℕ} → d' ≡ lets → get_or w (memory.let_roots + (d' - 1)) 0 ≡ 0 → LetsClosed k from m d before (record { nodes = m'; lets = lets }) w
      unfolding left_open ended_in
      close_value q z = subst (λ (j : ℕ). LetsClosed k from m d before (record { nodes = m'; lets = j }) w) q (stopped (λ n rest x first o. go n rest x first o o.lies))
        where
          go : (n : ℕ) (rest : List Frame) (x : Tree) (first : List ℕ) → Open k from n rest x first m' d' w → LetsLie w from n rest → (left_open rest ≡ rest) × (ended_in rest x ≡ x)
          go n [] x first o l = absurd (omega (arith, o.lets))
          go n (value i ∷ fs) x first o l = (refl, refl)
          go n (body i e ∷ fs) x first o (body_lies a b l) =
              absurd (let q = at_root (length fs) o.lets in let r = root_last (n + counted fs) e in omega arith)

      module _ {p : Parsed} {v : List ℕ} (root_told : get_or w (memory.let_roots + (d' - 1)) 0 ≢ 0)
          (built : Builds 32 (get_or w (memory.let_variables + (d' - 1)) 0 ∷ (get_or w (memory.let_roots + (d' - 1)) 0 - 1) ∷ (m' - 1) ∷ 0 ∷ []) k p) (put : Emitted m' p w v) where
        -- a body's `let` is the next node
        node_is : (n : ℕ) (i : ℕ) (e x : Tree) (fs : List Frame) → m' + d' ≤ 768 → d' ≡ from + suc (length fs) → m' ≡ n + ((counted fs + count e) + count x)
            → get_or w (memory.let_variables + (from + length fs)) 0 ≡ cut i → get_or w (memory.let_roots + (from + length fs)) 0 ≡ n + (counted fs + count e)
            → StandsFor k (two_shape (let_in i) (root (n + counted fs) e) (root (n + counted fs + count e) x)) p
        unfolding count_of form_with fields_by with_code forms form_codes two_shape
        node_is n i e x fs room q s a b =
            let r = root_last (n + counted fs) e in
            let t = root_last (n + counted fs + count e) x in
            let y = at_root (length fs) q in
            let z : get_or w (memory.let_roots + (d' - 1)) 0 - 1 ≡ cut (root (n + counted fs) e) = omega arith in
            let u : m' - 1 ≡ cut (root (n + counted fs + count e) x) = omega arith in
            built.is (i ∷ root (n + counted fs) e ∷ root (n + counted fs + count e) x ∷ []) (omega arith) refl (rw (at_variable (length fs) q ∙ a, z, u))

        nodes_are : (n i : ℕ) (e x : Tree) (fs : List Frame) (first : List ℕ) → m' + d' ≤ 768 → Open k from n (body i e ∷ fs) x first m' d' w → LetsLie w from n (body i e ∷ fs)
            → (xs : List Shape) → length xs ≡ n → HoldsNodes k xs first → HoldsNodes k (xs ++ (value_nodes n fs ++ shapes (two (let_in i) e x) (n + counted fs))) v
        unfolding counted value_nodes shapes
        nodes_are n i e x fs first room o (body_lies a b l) xs s h =
            subst (λ (ys : List Shape). HoldsNodes k ys v) same
            (put.node (omega arith) k last (node_is n i e x fs room o.lets o.count a b) (xs ++ ((value_nodes n fs ++ shapes e (n + counted fs)) ++ shapes x (n + (counted fs + count e))))
            (open_size n (body i e ∷ fs) x xs s ∙ sym o.count) (o.nodes xs s h))
          where
            last : Shape
            last = two_shape (let_in i) (root (n + counted fs) e) (root (n + counted fs + count e) x)

            place : n + (counted fs + count e) ≡ n + counted fs + count e
            place = omega arith

            same : (xs ++ ((value_nodes n fs ++ shapes e (n + counted fs)) ++ shapes x (n + (counted fs + count e)))) ++ (last ∷ [])
                ≡ xs ++ (value_nodes n fs ++ (shapes e (n + counted fs) ++ (shapes x (n + counted fs + count e) ++ (last ∷ []))))
            same =
                append_assoc xs ((value_nodes n fs ++ shapes e (n + counted fs)) ++ shapes x (n + (counted fs + count e))) (last ∷ [])
                ∙ ap (λ (ys : List Shape). xs ++ ys) (append_assoc (value_nodes n fs ++ shapes e (n + counted fs)) (shapes x (n + (counted fs + count e))) (last ∷ []))
                ∙ ap (λ (ys : List Shape). xs ++ ys) (append_assoc (value_nodes n fs) (shapes e (n + counted fs)) (shapes x (n + (counted fs + count e)) ++ (last ∷ [])))
                ∙ ap (λ (j : ℕ). xs ++ (value_nodes n fs ++ (shapes e (n + counted fs) ++ (shapes x j ++ (last ∷ []))))) place

        pub close_body : Closing k from m d before (m' + 1) (d' - 1) v
        unfolding left_open ended_in counted count
        close_body = record {
          sum = let e = c.sum in omega arith;
          least = omega arith;
          some = omega arith;
          few = c.few;
          on = λ n fs x first o. let l = c.on n fs x first o in go n fs x first (let e = c.sum in let f = c.few in omega arith) l l.rest refl l.is l.is.lies;
          lets = lets_then c.lets (lets_behind from put.kept);
          kept = kept_then c.kept put.kept.kept;
        }
          where
            go : (n : ℕ) (fs : List Frame) (x : Tree) (first : List ℕ) → m' + d' ≤ 768 → (l : Left k from n fs x first m' d' w) → (r : List Frame) → l.rest ≡ r → Open k from n l.rest l.tree first m' d' w
                → LetsLie w from n l.rest → Left k from n fs x first (m' + 1) (d' - 1) v
            go n fs x first room l [] e o z = absurd (let q : d' ≡ from + length l.rest = o.lets in let y : length l.rest ≡ 0 = ap length e in omega arith)
            go n fs x first room l (value i ∷ gs) e o z = absurd (is_value i gs (rw e at z) (let q = o.lets in let y : length l.rest ≡ suc (length gs) = ap length e in omega arith))
              where
                is_value : (i : ℕ) (gs : List Frame) → LetsLie w from n (value i ∷ gs) → d' ≡ from + suc (length gs) → ⊥
                is_value i gs (value_lies a b y) q = root_told (at_root (length gs) q ∙ b)
            go n fs x first room l (body i b ∷ gs) e o z =
                let o' : Open k from n (body i b ∷ gs) l.tree first m' d' w = rw e at o in
                let z' : LetsLie w from n (body i b ∷ gs) = rw e at z in
                record {
                  rest = gs;
                  tree = two (let_in i) b l.tree;
                  left = l.left ∙ ap left_open e;
                  ends = l.ends ∙ ap (λ (r : List Frame). ended_in r l.tree) e;
                  is = record {
                    lets = let q = o'.lets in omega arith;
                    count = let q = o'.count in omega arith;
                    lies = lets_kept (lets_behind (from + length gs) put.kept) (let q = o'.lets in omega arith) (inner z');
                    nodes = nodes_are n i b l.tree gs first room o' z';
                  };
                }
              where
                inner : {i : ℕ} {b : Tree} {gs : List Frame} → LetsLie w from n (body i b ∷ gs) → LetsLie w from n gs
                inner (body_lies a r y) = y
