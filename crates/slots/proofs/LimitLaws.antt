-- When a value may be put into a table: what the test says, and when it fails. Assumes nothing.
use mathlib.Core.Path.{◌≡◌}
use mathlib.Core.Bool.{true, false, ◌&&◌}
use Prim.Native.Nat.{ℕ, ◌<◌, ◌≤◌}
use native.Mathlib.Omega.{arith}
use lib.Dec.{T, leb, leb→le, ltb→lt}
use borrow.Author.Tests.{le-leb}
use Rattle.laws.proofs.Tests.{and_l, and_r, test_fails}
use Rattle.ocl.specs.Values.{Value, bool, num, obj, coll, Values, nil, cons, size, sizes, count, every_part, every_parts}
use Rattle.ocl.proofs.Values.{count_sizes}
use Rattle.sheet.specs.Limits.{part_within, nesting, value_within as within_limits}
use Rattle.values.specs.Cells.{Fits, fits_bool, fits_num, fits_obj, fits_coll, AllFit, fit_nil, fit_cons}
use Rattle.slots.specs.Machine.{may_be}

pub record May (room : ℕ) (v : Value) : Type 0 where
  pub parts : T (every_part part_within v)
  pub small : size v ≤ 128
  pub shallow : nesting v ≤ 3
  pub fits : size v ≤ room

pub may_be_lem : (room : ℕ) (v : Value) → T (may_be room v) → May room v
unfolding may_be within_limits
may_be_lem room v t =
    let a = and_l (every_part part_within v && leb (size v) 128 && leb (nesting v) 3) (leb (size v) room) t in
    let b = and_l (every_part part_within v && leb (size v) 128) (leb (nesting v) 3) a in
    record {
      parts = and_l (every_part part_within v) (leb (size v) 128) b;
      small = leb→le (size v) 128 (and_r (every_part part_within v) (leb (size v) 128) b);
      shallow = leb→le (nesting v) 3 (and_r (every_part part_within v && leb (size v) 128) (leb (nesting v) 3) a);
      fits = leb→le (size v) room (and_r (every_part part_within v && leb (size v) 128 && leb (nesting v) 3) (leb (size v) room) t);
    }

pub may : (room : ℕ) (v : Value) → every_part part_within v ≡ true → size v ≤ 128 → nesting v ≤ 3 → size v ≤ room → may_be room v ≡ true
unfolding may_be within_limits
may room v p s d r = rw (p, le-leb (size v) 128 s, le-leb (nesting v) 3 d, le-leb (size v) room r)

module _ (room : ℕ) (v : Value) where
  pub never_wide : 128 < size v → may_be room v ≡ false
  never_wide h = test_fails _ (λ t. let m = (may_be_lem room v t).small in omega arith)

  pub never_room : room < size v → may_be room v ≡ false
  never_room h = test_fails _ (λ t. let m = (may_be_lem room v t).fits in omega arith)

  pub never_deep : 3 < nesting v → may_be room v ≡ false
  never_deep h = test_fails _ (λ t. let m = (may_be_lem room v t).shallow in omega arith)

  pub never_part : every_part part_within v ≡ false → may_be room v ≡ false
  never_part h = test_fails _ (λ t. rw h at (may_be_lem room v t).parts)

-- what is within the limits can be held in cells
mutual
  unfolding every_part every_parts part_within size sizes count

  pub within_fits : (v : Value) → T (every_part part_within v) → size v ≤ 4294967295 → Fits v
  within_fits (bool b) t h = fits_bool
  within_fits (num x) t h = fits_num t
  within_fits (obj o) t h = fits_obj {o = o} (let l = ltb→lt o 96 t in omega arith)
  within_fits (coll k vs) t h = fits_coll {vs = vs} (let c = count_sizes vs in omega arith) (all_fit vs t (omega arith))

  all_fit : (vs : Values) → T (every_parts part_within vs) → sizes vs ≤ 4294967295 → AllFit vs
  all_fit nil t h = fit_nil
  all_fit (cons v vs) t h =
      fit_cons (within_fits v (and_l (every_part part_within v) (every_parts part_within vs) t) (omega arith)) (all_fit vs (and_r (every_part part_within v) (every_parts part_within vs) t) (omega arith))
