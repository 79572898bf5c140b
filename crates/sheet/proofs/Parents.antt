-- A sheet with one class more: each parent is still a smaller class. Assumes nothing.
use mathlib.Core.Path.{◌≡◌, refl, sym}
use mathlib.Core.Bool.{Bool, true, false}
use mathlib.Core.Option.{Option, none, some}
use mathlib.Core.List.{List, [], ◌∷◌, ◌++◌}
use Prim.Native.Nat.{ℕ, ◌<◌}
use native.Mathlib.Omega.{arith}
use borrow.Author.Tests.{ltb-true, ltb-false}
use lib.ListN.{length, get_or, get_or-append, get_or-eq_default}
use lib.Seq.{get_or_at}
use lib.Dec.{T, ltb, ltb→lt}
use Rattle.laws.proofs.Lists.{length_more}
use Rattle.sheet.specs.Refusals.{parent_smaller}

-- a table with one entry more
module _ {A : Type 0} (l : List A) (x d : A) where
  data Entry (i : ℕ) : A → Type 0 where
    old : i < length l → Entry i (get_or l i d)
    new : i ≡ length l → Entry i x
    past : Entry i d

  entry_by : (i : ℕ) (p q : Bool) → ltb i (length l) ≡ p → ltb (length l) i ≡ q → Entry i (get_or (l ++ (x ∷ [])) i d)
  entry_by i true q e f = let h = ltb-true i (length l) e in rw (get_or-append l (x ∷ []) d i h) (old h)
  entry_by i false true e f = let h = ltb-true (length l) i f in rw (get_or-eq_default (l ++ (x ∷ [])) d {n = i} (omega (arith, length_more l x))) past
  entry_by i false false e f =
      let g = ltb-false i (length l) e in let h = ltb-false (length l) i f in
      let z : i ≡ length l = omega arith in rw (get_or_at l x [] d i (sym z)) (new z)

  entry : (i : ℕ) → Entry i (get_or (l ++ (x ∷ [])) i d)
  entry i = entry_by i (ltb i (length l)) (ltb (length l) i) refl refl

pub parent_more : (l : List (Option ℕ)) (x : Option ℕ) → ((c p : ℕ) → get_or l c none ≡ some p → p < c) → T (parent_smaller (length l) x)
    → (c p : ℕ) → get_or (l ++ (x ∷ [])) c none ≡ some p → p < c
unfolding parent_smaller
parent_more l x h g c p e = at (entry l x none c) e
  where
    smaller : (y : Option ℕ) → T (parent_smaller (length l) y) → y ≡ some p → p < length l
    smaller none t e = absurd (let z : ◌≡◌ {A = ℕ} 0 1 = cc in omega arith)
    smaller (some q) t e = let z : q ≡ p = cc in omega (arith, ltb→lt q (length l) t)

    at : {y : Option ℕ} → Entry l x none c y → y ≡ some p → p < c
    at (old k) e = h c p e
    at (new k) e = omega (arith, smaller x g e)
    at past e = absurd (let z : ◌≡◌ {A = ℕ} 0 1 = cc in omega arith)
