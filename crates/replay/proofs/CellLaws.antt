-- The cell of a value that is no collection, found among any words. Assumes nothing.
use mathlib.Core.Path.{◌≡◌, refl, sym, ap, ◌∙◌, subst}
use mathlib.Core.Bool.{Bool, true, false, true≢false}
use mathlib.Core.List.{List, [], ◌∷◌, ◌++◌}
use Prim.Native.Nat.{ℕ, zero, suc, ◌+◌, ◌-◌, ◌<◌, ◌≤◌}
use native.Mathlib.Omega.{arith}
use borrow.Author.Tests.{eqb-true, eq-eqb, ltb-true}
use lib.ListN.{length, get_or, drop, length-append, length-drop}
use lib.Dec.{T, eqb, ltb}
use Rattle.laws.proofs.Tests.{test_true}
use Rattle.laws.proofs.Parts.{at_next}
use Rattle.reals.specs.Reals.{kept}
use Rattle.reals.specs.Words.{cell, number_in}
use Rattle.reals.proofs.Onto.{number_back, number_kept}
use Rattle.ocl.specs.Types.{Kind, set, sequence, bag, kind_code}
use Rattle.ocl.specs.Values.{Value, bool, num, obj, coll, Values, sort, every_part}
use Rattle.sheet.specs.Limits.{part_within, nesting}
use Rattle.values.specs.Cells.{bit, head, enc, Fits, fits_bool, fits_num, fits_obj, fits_coll, AllFit}
use Rattle.values.proofs.Heads.{start, band, bit_small, enc_parts}
use Rattle.values.proofs.Encoding.{some_cells}
use Rattle.replay.specs.Values.{Small, Lone, SimpleCell, EndsAt}

-- ---- one cell

pub simple_low : {c : ℕ} → c < 2 → SimpleCell c true
unfolding enc head bit every_part part_within nesting
simple_low {c} h = record { found = λ e. by c h; is = λ v s q. refl }
  where
    by : (c : ℕ) → c < 2 → Lone c
    by zero h = record { value = bool false; small = record { fits = fits_bool; parts = refl; nests = omega arith }; is = refl }
    by (suc zero) h = record { value = bool true; small = record { fits = fits_bool; parts = refl; nests = omega arith }; is = refl }
    by (suc (suc n)) h = absurd (omega arith)

pub simple_number : {c w : ℕ} → 2 ≤ c → c < 18442240474082181120 → w ≡ cell (number_in c) → SimpleCell c (eqb w c)
unfolding enc head every_part part_within nesting
simple_number {c} {w} l h e = record {
  found = λ q. record {
    value = num (number_in c);
    small = record { fits = fits_num (number_kept c); parts = test_true (kept (number_in c)) (number_kept c); nests = omega arith };
    is = ap (λ (i : ℕ). i ∷ []) (sym e ∙ eqb-true w c q);
  };
  is = λ v s q. by v s q;
}
  where
    by : (v : Value) → Small 0 v → c ≡ head v → eqb w c ≡ true
    by (bool b) s q = absurd (let i = bit_small b in omega arith)
    by (num x) s q = eq-eqb w c (e ∙ ap (λ (i : ℕ). cell (number_in i)) q ∙ ap cell (number_back x (subst T (sym s.parts) tt)) ∙ sym q)
    by (obj o) s q = absurd (omega arith)
    by (coll k vs) s q = absurd (let n = s.nests in omega arith)

pub simple_object : {c : ℕ} → 18442240474082181120 ≤ c → SimpleCell c (ltb (c - 18442240474082181120) 96)
unfolding enc head every_part part_within nesting start sort
simple_object {c} h = record {
  found = λ q. let l = ltb-true (c - 18442240474082181120) 96 q in record {
    value = obj (c - 18442240474082181120);
    small = record { fits = fits_obj {o = c - 18442240474082181120} (omega arith); parts = q; nests = omega arith };
    is = ap (λ (i : ℕ). i ∷ []) (omega arith);
  };
  is = λ v s q. by v s q;
}
  where
    by : (v : Value) → Small 0 v → c ≡ head v → ltb (c - 18442240474082181120) 96 ≡ true
    by (bool b) s q = absurd (let i = bit_small b in omega arith)
    by (num x) s q = absurd (let i = (band s.fits).1 in omega arith)
    by (obj o) s q = ap (λ (i : ℕ). ltb i 96) (let z : c - 18442240474082181120 ≡ o = omega arith in z) ∙ s.parts
    by (coll k vs) s q = absurd (let n = s.nests in omega arith)

-- ---- which values have such a first cell

pub data Sided : Value → Type 0 where
  alone : {v : Value} → nesting v ≡ 0 → length (enc v) ≡ 1 → head v < 18442240478377148416 → Sided v
  group : (k : Kind) (vs : Values) → AllFit vs → 18442240478377148416 ≤ head (coll k vs) → head (coll k vs) < 18442240491262050304 → Sided (coll k vs)

pub sided : {v : Value} → Fits v → Sided v
unfolding enc head nesting start sort kind_code
sided (fits_bool {b}) = alone {v = bool b} refl refl (let i = bit_small b in omega arith)
sided (fits_num {x} t) = alone {v = num x} refl refl (let i = (band (fits_num {x = x} t)).1 in omega arith)
sided (fits_obj {o} l) = alone {v = obj o} refl refl (omega arith)
sided (fits_coll {k = set} {vs} l f) = group set vs f (omega arith) (omega arith)
sided (fits_coll {k = sequence} {vs} l f) = group sequence vs f (omega arith) (omega arith)
sided (fits_coll {k = bag} {vs} l f) = group bag vs f (omega arith) (omega arith)

pub first_cell : (cells y : List ℕ) (p : ℕ) (v : Value) → p < length cells → drop p cells ≡ enc v ++ y → get_or cells p 0 ≡ head v
first_cell cells y p v h e = ap (λ (l : List ℕ). get_or l 0 0) (sym (at_next 0 cells p h) ∙ e ∙ ap (λ (l : List ℕ). l ++ y) (enc_parts v))

-- ---- no value, or one cell

-- a value that begins with such a cell has no other
module _ (cells : List ℕ) (p d : ℕ) (there : p < length cells) (low : get_or cells p 0 < 18442240478377148416) {b : Bool} (cell : SimpleCell (get_or cells p 0) b) where
  lone_at : (v : Value) (y : List ℕ) → Small d v → drop p cells ≡ enc v ++ y → (b ≡ true) × (length (enc v) ≡ 1)
  lone_at v y s e = by (sided s.fits) s (first_cell cells y p v there e)
    where
      by : {v : Value} → Sided v → Small d v → get_or cells p 0 ≡ head v → (b ≡ true) × (length (enc v) ≡ 1)
      by {v} (alone n l h) s q = (cell.is v (record { fits = s.fits; parts = s.parts; nests = omega arith }) q, l)
      by (group k vs f l h) s q = absurd (omega arith)

module _ {cells : List ℕ} {p d : ℕ} where
  pub end_past : length cells ≤ p → EndsAt cells p d 0
  end_past h = record {
    found = λ l. absurd (omega arith);
    is = λ v y s e. absurd (omega (arith, some_cells v, length-drop p cells, ap length e ∙ length-append (enc v) y));
  }

  pub none_at : ((v : Value) (y : List ℕ) → Small d v → drop p cells ≡ enc v ++ y → ⊥) → EndsAt cells p d 0
  none_at h = record { found = λ l. absurd (omega arith); is = λ v y s e. absurd (h v y s e) }

  module _ (there : p < length cells) where
    module _ (low : get_or cells p 0 < 18442240478377148416) {b : Bool} (cell : SimpleCell (get_or cells p 0) b) where
      pub end_simple : b ≡ true → EndsAt cells p d (p + 1)
      end_simple t = record {
        found = λ l. let o = cell.found t in record {
          value = o.value;
          small = record { fits = o.small.fits; parts = o.small.parts; nests = let n = o.small.nests in omega arith };
          lies = at_next 0 cells p there ∙ ap (λ (l : List ℕ). l ++ drop (p + 1) cells) (sym o.is);
          to = omega (arith, ap length o.is);
        };
        is = λ v y s e. omega (arith, (lone_at cells p d there low cell v y s e).1);
      }

      pub end_other : b ≡ false → EndsAt cells p d 0
      end_other t = none_at (λ v y s e. true≢false (sym (lone_at cells p d there low cell v y s e).0 ∙ t))

    pub end_top : 18442240491262050304 ≤ get_or cells p 0 → EndsAt cells p d 0
    end_top h = none_at (λ v y s e. by (sided s.fits) (first_cell cells y p v there e))
      where
        by : {v : Value} → Sided v → get_or cells p 0 ≡ head v → ⊥
        by (alone n l i) q = omega arith
        by (group k vs f l i) q = omega arith

    pub end_deep : 18442240478377148416 ≤ get_or cells p 0 → d ≡ 0 → EndsAt cells p d 0
    unfolding nesting
    end_deep h z = none_at (λ v y s e. by (sided s.fits) s.nests (first_cell cells y p v there e))
      where
        by : {v : Value} → Sided v → nesting v ≤ d → get_or cells p 0 ≡ head v → ⊥
        by (alone n l i) m q = omega arith
        by (group k vs f l i) m q = omega arith
