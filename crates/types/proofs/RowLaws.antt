-- Laws of the row tables. Assumes nothing.
use mathlib.Core.Path.{◌≡◌, refl, sym, ap, ◌∙◌, fun_ext}
use mathlib.Core.Bool.{Bool, true, false, ◌&&◌, true≢false}
use mathlib.Core.Option.{Option, none, some}
use mathlib.Core.List.{List}
use Prim.Native.Nat.{ℕ, zero, suc, ◌-◌, ◌≤◌, ◌<◌}
use native.Mathlib.Omega.{arith}
use lib.ListN.{get_or}
use lib.Dec.{eqb, ltb}
use borrow.Author.Tests.{eq-eqb, ne_eqb, ltb-true, ltb-false}
use Rattle.laws.specs.Choice.{or_else, on_some}
use Rattle.std.specs.Prelude.{if◌then◌else◌, Option as Optional, Some, None}
use Rattle.ocl.specs.Types.{Parents}
use Rattle.ocl.specs.Model.{Schema, declared, nearest, row_read}
use Rattle.types.specs.Flat.{parent_word, parents_in}
use Rattle.types.specs.Rows.{declared_in, nearest_in, row_read_in, found, Unnamed}
use Rattle.types.proofs.Parents.{parent_le, parent_none, parent_some}

-- ---- rows of other names

-- a row of another name is passed by
other_name : (a b : Bool) (x y : Option ℕ) → b ≡ false → (if a && b then x else y) ≡ y
other_name true false x y e = refl
other_name false false x y e = refl
other_name true true x y e = absurd (true≢false e)
other_name false true x y e = absurd (true≢false e)

-- ---- one turn of the search for the row that a class declares, where i rows are left

module _ (owners names : List ℕ) (c name : ℕ) where
  declared_pred : (i : ℕ) → 0 < i → declared_in owners names c name i ≡ (if eqb (get_or owners (i - 1) 0) c && eqb (get_or names (i - 1) 0) name then some (i - 1) else declared_in owners names c name (i - 1))
  unfolding declared_in
  declared_pred zero h = absurd (omega arith)
  declared_pred (suc i) h = let e : suc i - 1 ≡ i = omega arith in rw e

  pass_by : (n : ℕ) → (get_or names n 0 ≡ name → ⊥) → declared_in owners names c name n ≡ declared_in owners names c name (suc n)
  unfolding declared_in
  pass_by n h = sym (other_name (eqb (get_or owners n 0) c) (eqb (get_or names n 0) name) (some n) (declared_in owners names c name n) (ne_eqb _ _ h))

  -- rows of other names declare nothing
  pub declared_none : {start : ℕ} → Unnamed names name 0 start → (i : ℕ) → i ≤ start → none ≡ declared_in owners names c name i
  unfolding declared_in
  declared_none u zero h = refl
  declared_none u (suc i) h = declared_none u i (omega arith) ∙ pass_by i (u.other i (omega arith) (omega arith))

  pub declared_cut : {low : ℕ} (high : ℕ) → low ≤ high → Unnamed names name low high → declared_in owners names c name low ≡ declared_in owners names c name high
  declared_cut {low} zero h u = let e : low ≡ 0 = omega arith in rw e
  declared_cut {low} (suc high) h u =
      by_le (λ k. declared_cut high k (record { other = λ i p q. u.other i p (omega arith) })) (ltb low (suc high)) refl
    where
      by_le : (low ≤ high → declared_in owners names c name low ≡ declared_in owners names c name high)
          → (b : Bool) → ltb low (suc high) ≡ b → declared_in owners names c name low ≡ declared_in owners names c name (suc high)
      by_le f false e = let z : low ≡ suc high = omega (arith, ltb-false low (suc high) e) in rw z
      by_le f true e = let z = ltb-true low (suc high) e in f (omega arith) ∙ pass_by high (u.other high (omega arith) (omega arith))

  pub declared_here : (i : ℕ) → 0 < i → get_or owners (i - 1) 0 ≡ c → get_or names (i - 1) 0 ≡ name → some (i - 1) ≡ declared_in owners names c name i
  declared_here i h p q = sym (declared_pred i h ∙ rw (eq-eqb _ _ p, eq-eqb _ _ q))

  pub declared_name : (i : ℕ) → 0 < i → get_or owners (i - 1) 0 ≡ c → (get_or names (i - 1) 0 ≡ name → ⊥) → declared_in owners names c name (i - 1) ≡ declared_in owners names c name i
  declared_name i h p q = sym (declared_pred i h ∙ rw (eq-eqb _ _ p, ne_eqb _ _ q))

  pub declared_owner : (i : ℕ) → 0 < i → (get_or owners (i - 1) 0 ≡ c → ⊥) → declared_in owners names c name (i - 1) ≡ declared_in owners names c name i
  declared_owner i h p = sym (declared_pred i h ∙ rw (ne_eqb _ _ p))

-- ---- one turn of the climb

module _ (ps owners names : List ℕ) (rows name : ℕ) where
  -- more classes than lead to the top change nothing
  nearest_more : (n m c : ℕ) → c < n → c < m → nearest_in (parents_in ps) owners names rows name n c ≡ nearest_in (parents_in ps) owners names rows name m c
  unfolding nearest_in on_some
  nearest_more zero m c h k = absurd (omega arith)
  nearest_more (suc n) zero c h k = absurd (omega arith)
  nearest_more (suc n) (suc m) c h k = ap (or_else (declared_in owners names c name rows)) (go (nearest_more n m) (parent_word ps c) refl)
    where
      go : ((d : ℕ) → d < n → d < m → nearest_in (parents_in ps) owners names rows name n d ≡ nearest_in (parents_in ps) owners names rows name m d) → (q : ℕ) → parent_word ps c ≡ q → on_some (parents_in ps c) (nearest_in (parents_in ps) owners names rows name n) ≡ on_some (parents_in ps c) (nearest_in (parents_in ps) owners names rows name m)
      go ih zero e = rw (parent_none ps c e)
      go ih (suc q) e = rw (parent_some ps c (suc q) (sym e) (λ z. omega arith)) (ih (suc q - 1) (omega (arith, parent_le ps c)) (omega (arith, parent_le ps c)))

  module _ (c : ℕ) (r : Optional ℕ) (at : found r ≡ declared_in owners names c name rows) where
    pub read_here : (i : ℕ) → r ≡ Some i → found r ≡ row_read_in ps owners names rows c name
    unfolding row_read_in nearest_in found or_else
    read_here i e = rw (sym at, e)

    pub read_none : r ≡ None → 0 ≡ parent_word ps c → none ≡ row_read_in ps owners names rows c name
    unfolding row_read_in nearest_in found or_else on_some
    read_none e z = rw (sym at, e, parent_none ps c (sym z))

    pub read_up : (q : ℕ) → r ≡ None → q ≡ parent_word ps c → (q ≡ 0 → ⊥) → row_read_in ps owners names rows (q - 1) name ≡ row_read_in ps owners names rows c name
    unfolding row_read_in nearest_in found or_else on_some
    read_up q e w z = sym (rw (sym at, e, parent_some ps c q w z) (nearest_more c (suc (q - 1)) (q - 1) (omega (arith, parent_le ps c)) (omega arith)))

-- rows of other names after the rest change nothing
module _ (ps owners names : List ℕ) (name : ℕ) {low high : ℕ} (h : low ≤ high) (u : Unnamed names name low high) where
  nearest_cut : (n c : ℕ) → nearest_in (parents_in ps) owners names low name n c ≡ nearest_in (parents_in ps) owners names high name n c
  unfolding nearest_in
  nearest_cut zero c = refl
  nearest_cut (suc n) c =
      ap (λ o. or_else o (on_some (parents_in ps c) (nearest_in (parents_in ps) owners names low name n))) (declared_cut owners names c name high h u)
      ∙ ap (λ g. or_else (declared_in owners names c name high) (on_some (parents_in ps c) g)) (fun_ext (nearest_cut n))

  pub read_cut : (c : ℕ) → row_read_in ps owners names low c name ≡ row_read_in ps owners names high c name
  unfolding row_read_in
  read_cut c = nearest_cut (suc c) c

-- ---- a model whose parents and rows are these tables finds the same rows

pub record ReadsTables (s : Schema) (ps owners names : List ℕ) (rows : ℕ) : Type 0 where
  pub parents : s.parent ≡ parents_in ps
  pub count : s.row_count ≡ rows
  pub owner : (i : ℕ) → i < rows → (s.row i).owner ≡ get_or owners i 0
  pub name : (i : ℕ) → i < rows → (s.row i).name ≡ get_or names i 0

module _ (s : Schema) (ps owners names : List ℕ) (rows : ℕ) (to : ReadsTables s ps owners names rows) where
  declared_law : (c name n : ℕ) → n ≤ rows → declared s c name n ≡ declared_in owners names c name n
  unfolding declared declared_in
  declared_law c name zero h = refl
  declared_law c name (suc n) h = rw (to.owner n h, to.name n h, declared_law c name n (omega arith))

  nearest_law : (name n c : ℕ) → nearest s name n c ≡ nearest_in (parents_in ps) owners names rows name n c
  unfolding nearest nearest_in
  nearest_law name zero c = refl
  nearest_law name (suc n) c =
      let d = ap (declared s c name) to.count ∙ declared_law c name rows (omega arith) in
      let u = ap (λ (p : Parents). on_some (p c) (nearest s name n)) to.parents ∙ ap (on_some (parents_in ps c)) (fun_ext (λ e. nearest_law name n e)) in
      ap (λ (o : Option ℕ). or_else o (on_some (s.parent c) (nearest s name n))) d ∙ ap (or_else (declared_in owners names c name rows)) u

  pub row_read_law : (c name : ℕ) → row_read s c name ≡ row_read_in ps owners names rows c name
  unfolding row_read row_read_in
  row_read_law c name = nearest_law name (suc c) c
