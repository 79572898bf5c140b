-- Fields that are exactly m numbers, as crates/sheet reads them one by one. Assumes nothing.
use mathlib.Core.Path.{◌≡◌, refl, sym, ap, ◌∙◌, fun_ext}
use mathlib.Core.Bool.{Bool, true, false}
use mathlib.Core.Option.{Option, none, some, none-ne-some, some-injective}
use mathlib.Core.List.{List, [], ◌∷◌}
use Prim.Native.Nat.{ℕ, zero, suc}
use native.Mathlib.Omega.{arith}
use borrow.Author.Tests.{ne_eqb, eqb-true}
use lib.Dec.{eqb}
use lib.ListN.{length}
use Rattle.laws.specs.Choice.{on_some, map_some}
use Rattle.std.specs.Prelude.{if◌then◌else◌}
use Rattle.laws.proofs.Cases.{eqb_suc}
use Rattle.laws.proofs.Options.{on_some_some, map_some_some}
use Rattle.sheet.specs.Text.{Bytes}
use Rattle.sheet.specs.Lines.{Shape, next, done, each, a_number}
use Rattle.shapes.specs.Fields.{exact}

-- ---- their number

pub each-length : (fs : List Bytes) (l : List ℕ) → each a_number fs ≡ some l → length l ≡ length fs
unfolding each
each-length [] l e = ap length (sym (some-injective _ _ e))
each-length (f ∷ fs) l e =
    let p = on_some_some (a_number f) (λ x. map_some (λ xs. x ∷ xs) (each a_number fs)) e in
    let q = map_some_some (λ xs. p.0 ∷ xs) (each a_number fs) p.2 in
    sym (ap length q.2) ∙ ap suc (each-length fs q.0 q.1)

pub exact_length : (m : ℕ) (fs : List Bytes) (l : List ℕ) → exact m fs ≡ some l → length l ≡ m
unfolding exact
exact_length m fs l e = go (eqb (length fs) m) refl e
  where
    go : (b : Bool) → eqb (length fs) m ≡ b → (if b then each a_number fs else none) ≡ some l → length l ≡ m
    go true q e = each-length fs l e ∙ eqb-true (length fs) m q
    go false q e = absurd (none-ne-some _ e)

-- ---- one after the other

unfoldable pub chain : ℕ → (List ℕ → Shape) → List Bytes → Option Shape
chain zero k = done (k [])
chain (suc m) k = next a_number (λ x. chain m (λ l. k (x ∷ l)))

onto : (k : List ℕ → Shape) (x : ℕ) (o : Option (List ℕ)) → map_some (λ l. k (x ∷ l)) o ≡ map_some k (map_some (λ l. x ∷ l) o)
unfolding map_some
onto k x none = refl
onto k x (some l) = refl

pub chain_exact : (m : ℕ) (k : List ℕ → Shape) (fs : List Bytes) → chain m k fs ≡ map_some k (exact m fs)
unfolding chain next done exact each on_some map_some
chain_exact zero k [] = refl
chain_exact zero k (f ∷ fs) = rw (ne_eqb (suc (length fs)) 0 (λ e. omega arith))
chain_exact (suc m) k [] = rw (ne_eqb 0 (suc m) (λ e. omega arith))
chain_exact (suc m) k (f ∷ fs) =
    ap (on_some (a_number f)) (fun_ext (λ x. chain_exact m (λ l. k (x ∷ l)) fs)) ∙ rw (eqb_suc (length fs) m) (go (eqb (length fs) m) (a_number f))
  where
    go : (b : Bool) (o : Option ℕ)
        → on_some o (λ x. map_some (λ l. k (x ∷ l)) (if b then each a_number fs else none)) ≡ map_some k (if b then on_some o (λ x. map_some (λ l. x ∷ l) (each a_number fs)) else none)
    go true none = refl
    go true (some x) = onto k x (each a_number fs)
    go false none = refl
    go false (some x) = refl
