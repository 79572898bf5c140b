-- The objects in a value, asked for cell by cell. Assumes nothing.
use mathlib.Core.Path.{◌≡◌, refl, ap, ◌∙◌}
use mathlib.Core.Bool.{Bool, true, ◌&&◌, and-true}
use mathlib.Core.List.{List}
use Prim.Native.Nat.{ℕ, ◌-◌, ◌<◌, ◌≤◌}
use native.Mathlib.Omega.{arith}
use Rattle.std.specs.List.{list_all}
use Rattle.std.proofs.lemmas.List.Recursion.{same_from_clauses}
use lib.Dec.{T, ltb}
use borrow.Author.Tests.{lt-ltb, le-ltb, le-leb, lt-leb}
use Rattle.laws.specs.Lists.{all_of}
use Rattle.laws.proofs.Elements.{all_append}
use Rattle.ocl.specs.Values.{Value, num, bool, obj, coll, Values, sort, every_part, every_parts}
use Rattle.reals.specs.Reals.{Number, kept}
use Rattle.sheet.specs.Refusals.{object_below}
use Rattle.values.specs.Cells.{head, enc, encs, Fits, fits_bool, fits_num, fits_obj, fits_coll, AllFit, fit_nil, fit_cons}
use Rattle.values.proofs.Heads.{head_obj, head_coll, start, band}
use Rattle.slots.specs.Objects.{cell_known, KnownIs}

-- ---- one cell

module _ (n c : ℕ) where
  pub known_low : c < 18442240474082181120 → cell_known n c ≡ true
  unfolding cell_known
  known_low h = rw (lt-ltb c 18442240474082181120 h)

  pub known_high : 18442240478377148416 ≤ c → cell_known n c ≡ true
  unfolding cell_known
  known_high h = rw (le-ltb c 18442240474082181120 (omega arith), le-leb 18442240478377148416 c h)

  pub known_object : 18442240474082181120 ≤ c → c < 18442240478377148416 → cell_known n c ≡ ltb (c - 18442240474082181120) n
  unfolding cell_known
  known_object h k = rw (le-ltb c 18442240474082181120 h, lt-leb 18442240478377148416 c k)

-- ---- all cells

bool_low : (b : Bool) → head (bool b) < 18442240474082181120
unfolding start sort
bool_low b = omega (arith, (band (fits_bool {b = b})).1)

num_low : (x : Number) → T (kept x) → head (num x) < 18442240474082181120
unfolding start sort
num_low x t = omega (arith, (band (fits_num {x = x} t)).1)

mutual
  unfolding enc encs every_part every_parts object_below all_of

  pub known_law : (n : ℕ) {v : Value} → Fits v → all_of (cell_known n) (enc v) ≡ every_part (object_below n) v
  known_law n (fits_bool {b}) = and-true _ ∙ known_low n (head (bool b)) (bool_low b)
  known_law n (fits_num {x} t) = and-true _ ∙ known_low n (head (num x)) (num_low x t)
  known_law n (fits_obj {o} h) = let e = head_obj o in and-true _ ∙ known_object n (head (obj o)) (omega arith) (omega arith) ∙ ap (λ (m : ℕ). ltb m n) (omega arith)
  known_law n (fits_coll {k} {vs} h fs) =
      ap (λ (b : Bool). b && all_of (cell_known n) (encs vs)) (known_high n (head (coll k vs)) (let e = head_coll k vs in omega arith)) ∙ knowns_law n fs

  knowns_law : (n : ℕ) {vs : Values} → AllFit vs → all_of (cell_known n) (encs vs) ≡ every_parts (object_below n) vs
  knowns_law n fit_nil = refl
  knowns_law n (fit_cons {v} {vs} f fs) = all_append (cell_known n) (enc v) (encs vs) ∙ rw (known_law n f, knowns_law n fs)

-- ---- what the chain of `all_known` answers

pub known_all : (n : ℕ) (cells : List ℕ) {r : Bool} → r ≡ list_all (cell_known n) cells → KnownIs cells n r
unfolding all_of
known_all n cells e = record {
  is = λ v f d.
      e
      ∙ same_from_clauses (list_all (cell_known n)) (all_of (cell_known n)) (λ x b. cell_known n x && b) refl (λ _ _. refl) (λ _ _. refl) cells
      ∙ ap (all_of (cell_known n)) d
      ∙ known_law n f;
}
