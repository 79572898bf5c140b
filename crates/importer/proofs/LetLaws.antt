-- The `let`s that are open, as they lie in the words: one more, a value that ends, and bodies that end. Assumes nothing.
use mathlib.Core.Path.{◌≡◌, refl, sym, ap, ◌∙◌}
use mathlib.Core.Logic.{◌≢◌}
use mathlib.Core.List.{List, [], ◌∷◌, ◌++◌}
use Prim.Native.Nat.{ℕ, suc, ◌+◌, ◌-◌, ◌≤◌, ◌<◌}
use native.Mathlib.Omega.{arith}
use lib.ListN.{length, get_or, set, length-set, length-append}
use lib.Seq.{get_or-set_same, get_or-set_other}
use Rattle.memory.specs.Map as memory
use Rattle.sheet.specs.Lines.{Shape}
use Rattle.sheet.specs.Grammar.Trees.{Tree, count, shapes}
use Rattle.sheet.proofs.TextNodes.{shapes_size}
use Rattle.tables.proofs.Tables.{kept_refl, kept_set, kept_then}
use Rattle.emission.specs.Nodes.{KeptBehind}
use Rattle.importer.specs.Lets.{SameLets, Frame, value, body, counted, value_nodes, LetsLie, no_lets, value_lies, body_lies, LetOpened, ValueEnded}

-- ---- words that stay

pub lets_refl : (n : ℕ) (w : List ℕ) → SameLets n w w
lets_refl n w = record { variables = λ j l h. refl; roots = λ j l h. refl }

pub lets_less : {m : ℕ} (n : ℕ) {v w : List ℕ} → n ≤ m → SameLets m v w → SameLets n v w
lets_less n h s = record { variables = λ j l k. s.variables j (omega arith) k; roots = λ j l k. s.roots j (omega arith) k }

pub lets_then : {n : ℕ} {u v w : List ℕ} → SameLets n u v → SameLets n v w → SameLets n u w
lets_then p q = record { variables = λ j l h. q.variables j l h ∙ p.variables j l h; roots = λ j l h. q.roots j l h ∙ p.roots j l h }

pub lets_behind : (n : ℕ) {v w : List ℕ} → KeptBehind v w → SameLets n v w
lets_behind n k = record { variables = λ j l h. k.behind (memory.let_variables + j) (omega arith); roots = λ j l h. k.behind (memory.let_roots + j) (omega arith) }

pub lets_kept : {v w : List ℕ} {from n : ℕ} {fs : List Frame} → SameLets (from + length fs) v w → from + length fs ≤ 768 → LetsLie v from n fs → LetsLie w from n fs
lets_kept s h no_lets = no_lets
lets_kept {from = from} s h (value_lies {fs = fs} a b z) =
    value_lies (s.variables (from + length fs) (omega arith) (omega arith) ∙ a) (s.roots (from + length fs) (omega arith) (omega arith) ∙ b)
    (lets_kept (lets_less (from + length fs) (omega arith) s) (omega arith) z)
lets_kept {from = from} s h (body_lies {fs = fs} a b z) =
    body_lies (s.variables (from + length fs) (omega arith) (omega arith) ∙ a) (s.roots (from + length fs) (omega arith) (omega arith) ∙ b)
    (lets_kept (lets_less (from + length fs) (omega arith) s) (omega arith) z)

-- ---- one `let` more

pub not_opened : {d v : ℕ} (w : List ℕ) → 768 ≤ d → LetOpened d v w w
not_opened {d} w h = record { lies = λ from n fs i e q l z. absurd (omega arith); below = λ j l. refl; lets = lets_refl d w; kept = kept_refl w }

module _ (d v : ℕ) (w : List ℕ) (long : 8192 ≤ length w) (low : d < 768) where
  abbrev with_let : List ℕ
  with_let = set (set w (memory.let_variables + d) v) (memory.let_roots + d) 0

  elsewhere : (j : ℕ) → j ≢ memory.let_variables + d → j ≢ memory.let_roots + d → get_or with_let j 0 ≡ get_or w j 0
  elsewhere j p q = get_or-set_other (set w (memory.let_variables + d) v) (memory.let_roots + d) j 0 0 q ∙ get_or-set_other w (memory.let_variables + d) j v 0 p

  variable_there : get_or with_let (memory.let_variables + d) 0 ≡ v
  variable_there = get_or-set_other (set w (memory.let_variables + d) v) (memory.let_roots + d) (memory.let_variables + d) 0 0 (λ e. omega arith) ∙ get_or-set_same w (memory.let_variables + d) v 0 (omega arith)

  nothing_there : get_or with_let (memory.let_roots + d) 0 ≡ 0
  nothing_there = get_or-set_same (set w (memory.let_variables + d) v) (memory.let_roots + d) 0 0 (rw length-set (omega arith))

  outer : SameLets d w with_let
  outer = record { variables = λ j l h. elsewhere (memory.let_variables + j) (λ e. omega arith) (λ e. omega arith); roots = λ j l h. elsewhere (memory.let_roots + j) (λ e. omega arith) (λ e. omega arith) }

  pub is_opened : LetOpened d v w with_let
  is_opened = record {
    lies = λ from n fs i e q l z.
        value_lies (ap (λ (j : ℕ). get_or with_let (memory.let_variables + j) 0) (sym q) ∙ variable_there ∙ e) (ap (λ (j : ℕ). get_or with_let (memory.let_roots + j) 0) (sym q) ∙ nothing_there)
        (lets_kept (lets_less (from + length fs) (omega arith) outer) (omega arith) z);
    below = λ j l. elsewhere j (λ e. omega arith) (λ e. omega arith);
    lets = outer;
    kept = kept_then (kept_set w (memory.let_variables + d) v (omega arith)) (kept_set (set w (memory.let_variables + d) v) (memory.let_roots + d) 0 (omega arith));
  }

-- ---- a value that ends

-- what the last of so many `let`s has lies one word before where that of one more would
abbrev pub last_root : ℕ
last_root = memory.let_roots - 1

pub not_ended : {d m : ℕ} (w : List ℕ) → 768 < d → ValueEnded d m w w
not_ended w h = record { lies = λ from n fs i e q l c z. absurd (omega arith); below = λ j l. refl; lets = λ n l. lets_refl n w; kept = kept_refl w }

module _ (d m : ℕ) (w : List ℕ) (long : 8192 ≤ length w) (low : d ≤ 768) where
  abbrev with_root : List ℕ
  with_root = set w (last_root + d) m

  inner : (n : ℕ) → n < d → SameLets n w with_root
  inner n l = record {
    variables = λ j k h. get_or-set_other w (last_root + d) (memory.let_variables + j) m 0 (λ e. omega arith);
    roots = λ j k h. get_or-set_other w (last_root + d) (memory.let_roots + j) m 0 (λ e. omega arith);
  }

  root_there : (j : ℕ) → d ≡ suc j → get_or with_root (memory.let_roots + j) 0 ≡ m
  root_there j e = let q : memory.let_roots + j ≡ last_root + d = omega arith in ap (λ (i : ℕ). get_or with_root i 0) q ∙ get_or-set_same w (last_root + d) m 0 (omega arith)

  ended_lies : (from n : ℕ) (fs : List Frame) (i : ℕ) (e : Tree) → d ≡ from + suc (length fs) → m ≡ n + (counted fs + count e) → LetsLie w from n (value i ∷ fs) → LetsLie with_root from n (body i e ∷ fs)
  ended_lies from n fs i e q c (value_lies a b z) =
      body_lies (get_or-set_other w (last_root + d) (memory.let_variables + (from + length fs)) m 0 (λ x. omega arith) ∙ a) (root_there (from + length fs) (omega arith) ∙ c)
      (lets_kept (inner (from + length fs) (omega arith)) (omega arith) z)

  pub is_ended : ValueEnded d m w with_root
  is_ended = record {
    lies = λ from n fs i e q l c z. ended_lies from n fs i e q c z;
    below = λ j l. get_or-set_other w (last_root + d) j m 0 (λ e. omega arith);
    lets = inner;
    kept = kept_set w (last_root + d) m (omega arith);
  }

-- ---- how many nodes there are

pub values_size : (n : ℕ) (fs : List Frame) → length (value_nodes n fs) ≡ counted fs
unfolding value_nodes counted
values_size n [] = refl
values_size n (value i ∷ fs) = values_size n fs
values_size n (body i e ∷ fs) =
    let d = values_size n fs in
    let h = shapes_size e (n + counted fs) in
    let p = length-append (value_nodes n fs) (shapes e (n + counted fs)) in
    omega arith

pub open_size : (n : ℕ) (fs : List Frame) (x : Tree) (xs : List Shape) → length xs ≡ n
    → length (xs ++ (value_nodes n fs ++ shapes x (n + counted fs))) ≡ n + (counted fs + count x)
open_size n fs x xs e =
    let d = values_size n fs in
    let h = shapes_size x (n + counted fs) in
    let p = length-append xs (value_nodes n fs ++ shapes x (n + counted fs)) in
    let q = length-append (value_nodes n fs) (shapes x (n + counted fs)) in
    omega arith
