-- The cells of values that lie one after the other. Assumes nothing.
use mathlib.Core.Path.{◌≡◌, refl, sym, ap, ◌∙◌, subst}
use mathlib.Core.Bool.{true}
use mathlib.Core.List.{List, ◌++◌, append_assoc}
use Prim.Native.Nat.{ℕ, ◌+◌, ◌<◌, ◌≤◌}
use native.Mathlib.Omega.{arith}
use lib.ListN.{length, drop, length-append, length-drop}
use lib.Seq.{drop-drop, drop-append_seam}
use lib.Dec.{T}
use Rattle.laws.proofs.Tests.{and_l, and_r, test_true}
use Rattle.ocl.specs.Values.{Value, Values, nil, cons, count, every_part, every_parts}
use Rattle.sheet.specs.Limits.{part_within, nestings}
use Rattle.values.specs.Cells.{enc, encs, Fits, AllFit, fit_nil, fit_cons}
use Rattle.values.proofs.Encoding.{some_cells}
use Rattle.replay.specs.Values.{Small, Spans, EndsAt}

-- ---- members

pub record AllSmall (d : ℕ) (vs : Values) : Type 0 where
  pub fits : AllFit vs
  pub parts : every_parts part_within vs ≡ true
  pub nests : nestings vs ≤ d

pub small_nil : {d : ℕ} → AllSmall d nil
unfolding every_parts nestings
small_nil = record { fits = fit_nil; parts = refl; nests = omega arith }

small_cons : {d : ℕ} {v : Value} {vs : Values} → Small d v → AllSmall d vs → AllSmall d (cons v vs)
unfolding every_parts nestings
small_cons s h = record { fits = fit_cons s.fits h.fits; parts = rw (s.parts, h.parts); nests = let a = s.nests in let b = h.nests in omega arith }

fits_first : {v : Value} {vs : Values} → AllFit (cons v vs) → Fits v
fits_first (fit_cons f g) = f

fits_rest : {v : Value} {vs : Values} → AllFit (cons v vs) → AllFit vs
fits_rest (fit_cons f g) = g

small_first : {d : ℕ} {v : Value} {vs : Values} → AllSmall d (cons v vs) → Small d v
unfolding every_parts nestings
small_first {v = v} {vs} h = record {
  fits = fits_first h.fits;
  parts = test_true (every_part part_within v) (and_l (every_part part_within v) (every_parts part_within vs) (subst T (sym h.parts) tt));
  nests = let a = h.nests in omega arith;
}

small_rest : {d : ℕ} {v : Value} {vs : Values} → AllSmall d (cons v vs) → AllSmall d vs
unfolding every_parts nestings
small_rest {v = v} {vs} h = record {
  fits = fits_rest h.fits;
  parts = test_true (every_parts part_within vs) (and_r (every_part part_within v) (every_parts part_within vs) (subst T (sym h.parts) tt));
  nests = let a = h.nests in omega arith;
}

-- n values lie from p on, before y
pub record Group (cells : List ℕ) (p d n : ℕ) (y : List ℕ) : Type 0 where
  pub values : Values
  pub small : AllSmall d values
  pub many : count values ≡ n
  pub lies : drop p cells ≡ encs values ++ y

-- those that are left at q, of the values vs from p on
pub record Rest (cells : List ℕ) (p d n q i : ℕ) (vs : Values) (y : List ℕ) : Type 0 where
  pub values : Values
  pub small : AllSmall d values
  pub many : i + count values ≡ n
  pub lies : drop q cells ≡ encs values ++ y
  pub to : q + length (encs values) ≡ p + length (encs vs)

-- i of n members have been found, up to q
pub record Among (cells : List ℕ) (p d n q i : ℕ) : Type 0 where
  pub few : i ≤ n
  pub up : p < q
  pub room : q ≤ length cells
  pub back : (us : Values) (y : List ℕ) → AllSmall d us → i + count us ≡ n → drop q cells ≡ encs us ++ y → Group cells (p + 1) d n y
  pub going : (vs : Values) (y : List ℕ) → AllSmall d vs → count vs ≡ n → drop (p + 1) cells ≡ encs vs ++ y → Rest cells (p + 1) d n q i vs y

pub among_first : {cells : List ℕ} {p : ℕ} (d n : ℕ) → p < length cells → Among cells p d n (p + 1) 0
among_first d n h = record {
  few = omega arith;
  up = omega arith;
  room = omega arith;
  back = λ us y s m e. record { values = us; small = s; many = omega arith; lies = e };
  going = λ vs y s m e. record { values = vs; small = s; many = omega arith; lies = e; to = refl };
}

span_room : {cells : List ℕ} {q d r : ℕ} → Spans cells q d r → (q < r) × (r ≤ length cells)
span_room {cells} {q} {d} {r} s =
    let e = ap length s.lies ∙ length-append (enc s.value) (drop r cells) in
    (omega (arith, some_cells s.value, s.to), omega (arith, some_cells s.value, s.to, length-drop q cells, length-drop r cells, e))

after_drop : (q r : ℕ) (cells A B : List ℕ) → r ≡ q + length A → drop q cells ≡ A ++ B → drop r cells ≡ B
after_drop q r cells A B z e = ap (λ (k : ℕ). drop k cells) z ∙ sym (drop-drop (length A) q cells) ∙ ap (drop (length A)) e ∙ drop-append_seam A B

module _ {cells : List ℕ} {p d n q i : ℕ} (a : Among cells p d n q i) {r : ℕ} (end : EndsAt cells q d r) (more : i < n) where
  -- the next one is what ends there
  pub next_at : (vs : Values) (y : List ℕ) → Rest cells (p + 1) d n q i vs y → (0 < r) × ((0 < r) → Rest cells (p + 1) d n r (i + 1) vs y)
  unfolding encs count
  next_at vs y x = by x.values x.small x.many x.lies x.to
    where
      by : (us : Values) → AllSmall d us → i + count us ≡ n → drop q cells ≡ encs us ++ y → q + length (encs us) ≡ p + 1 + length (encs vs)
          → (0 < r) × ((0 < r) → Rest cells (p + 1) d n r (i + 1) vs y)
      by nil s m e t = absurd (omega arith)
      by (cons v us) s m e t =
          let z = end.is v (encs us ++ y) (small_first s) (e ∙ append_assoc (enc v) (encs us) y) in (
            omega (arith, some_cells v),
            λ l. record {
              values = us;
              small = small_rest s;
              many = omega arith;
              lies = after_drop q r cells (enc v) (encs us ++ y) z (e ∙ append_assoc (enc v) (encs us) y);
              to = omega (arith, length-append (enc v) (encs us));
            },
          )

  pub among_again : 0 < r → Among cells p d n r (i + 1)
  unfolding encs count
  among_again l =
      let s = end.found l in
      let w = span_room s in
      record {
        few = omega arith;
        up = let u = a.up in omega (arith, w.0);
        room = w.1;
        back = λ us y h m e. a.back (cons s.value us) y (small_cons s.small h) (omega arith)
            (s.lies ∙ ap (λ (t : List ℕ). enc s.value ++ t) e ∙ sym (append_assoc (enc s.value) (encs us) y));
        going = λ vs y h m e. (next_at vs y (a.going vs y h m e)).1 l;
      }
