-- The class inside a type, and the names that a class declares: what the code's tests say. Assumes nothing.
use mathlib.Core.Path.{◌≡◌, refl, sym, ap, ◌∙◌}
use mathlib.Core.Bool.{Bool, true, ◌&&◌, ◌||◌}
use mathlib.Core.List.{List, [], ◌∷◌, map}
use Prim.Native.Nat.{ℕ, zero, suc, ◌+◌, ◌≤◌, ◌<◌}
use native.Mathlib.Omega.{arith}
use lib.Dec.{eqb, ltb}
use Rattle.std.specs.List.{list_any, range_with_len}
use lib.ListN.{length, get_or, drop, drop_of_length-le}
use Rattle.laws.proofs.Parts.{at_next}
use Rattle.memory.specs.Map as memory
use Rattle.ocl.specs.Model.{Row}
use Rattle.sheet.specs.Limits.{simple_class_below, class_below}
use Rattle.sheet.specs.Refusals.{declares}
use Rattle.types.specs.declared.Base.{Base}
use Rattle.types.specs.declared.Base.TheVariants as b
use Rattle.types.specs.declared.FlatType.{FlatType}
use Rattle.types.specs.Flat.{base_type, base_tag, base_class, ty_of}
use Rattle.types.proofs.Within.{type_class}
use Rattle.tables.specs.Layout.{tab}
use Rattle.tables.proofs.Tables.{tab_length, tab_at}
use Rattle.declarations.specs.Fields.{named_in}

-- ---- the class inside a type

module _ (n : ℕ) where
  no_class : (a : Base) → (base_tag a ≡ 5 → ⊥) → true ≡ class_below n (base_type a)
  unfolding class_below simple_class_below
  no_class b.Void h = refl
  no_class b.Bool h = refl
  no_class b.Int h = refl
  no_class b.Any h = refl
  no_class b.Real h = refl
  no_class (b.Class c) h = absurd (h refl)

  a_class : (a : Base) → base_tag a ≡ 5 → ltb (base_class a) n ≡ class_below n (base_type a)
  unfolding class_below simple_class_below
  a_class b.Void h = absurd (omega arith)
  a_class b.Bool h = absurd (omega arith)
  a_class b.Int h = absurd (omega arith)
  a_class b.Any h = absurd (omega arith)
  a_class b.Real h = absurd (omega arith)
  a_class (b.Class c) h = refl

  module _ (t : FlatType) {r : ℕ} (told : r ≡ base_tag t.base) where
    pub known_without : (r ≡ 5 → ⊥) → true ≡ class_below n (ty_of t)
    known_without h = no_class t.base (λ e. h (told ∙ e)) ∙ sym (type_class n t)

    pub known_class : {c : ℕ} → r ≡ 5 → c ≡ base_class t.base → ltb c n ≡ class_below n (ty_of t)
    known_class h e = ap (λ (x : ℕ). ltb x n) e ∙ a_class t.base (sym told ∙ h) ∙ sym (type_class n t)

-- ---- the names

-- `declares` asks each row, from row i on
module _ (w : List ℕ) (rows c name : ℕ) (room : 8192 ≤ length w) (few : rows ≤ 64) where
  abbrev pub asks : ℕ → Bool
  asks i = eqb (get_or w (memory.owners + i) 0) c && eqb (get_or w (memory.names + i) 0) name

  row : (off i : ℕ) → off + 64 ≤ 8192 → i < rows → drop i (tab off rows w) ≡ get_or w (off + i) 0 ∷ drop (i + 1) (tab off rows w)
  row off i h here = at_next 0 (tab off rows w) i (omega (arith, tab_length off rows w (omega arith))) ∙ ap (λ (y : ℕ). y ∷ drop (i + 1) (tab off rows w)) (tab_at off rows w i here)

  pub any_declares : (n i : ℕ) → i + n ≡ rows → list_any asks (range_with_len i n) ≡ named_in (drop i (tab memory.owners rows w)) (drop i (tab memory.names rows w)) c name
  unfolding named_in
  any_declares zero i e = rw (drop_of_length-le (tab memory.owners rows w) {i = i} (omega (arith, tab_length memory.owners rows w (omega arith))))
  any_declares (suc n) i e =
      rw (row memory.owners i (omega arith) (omega arith), row memory.names i (omega arith) (omega arith))
      (ap (λ (t : Bool). asks i || t) (any_declares n (i + 1) (omega arith)))

-- the rows by their owners and names
pub declares_rows : (rs : List Row) (c name : ℕ) → named_in (map (λ (r : Row). r.owner) rs) (map (λ (r : Row). r.name) rs) c name ≡ declares rs c name
unfolding named_in declares
declares_rows [] c name = refl
declares_rows (r ∷ rs) c name = ap (λ (t : Bool). eqb r.owner c && eqb r.name name || t) (declares_rows rs c name)
