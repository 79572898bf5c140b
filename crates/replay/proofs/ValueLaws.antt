-- The cells of a collection and of a whole value, found among any words. Assumes nothing.
use mathlib.Core.Path.{◌≡◌, refl, sym, ap, ◌∙◌, subst}
use mathlib.Core.Bool.{Bool, true, false, ◌&&◌, true≢false}
use mathlib.Core.List.{List, [], ◌∷◌, ◌++◌, append-nil}
use Prim.Native.Nat.{ℕ, suc, ◌+◌, ◌*◌, ◌-◌, ◌%◌, ◌<◌, ◌≤◌}
use native.Mathlib.Omega.{arith}
use native.Mathlib.Decide.{dec_lt}
use borrow.Author.Tests.{eqb-true, eq-eqb, le-ltb, le-leb}
use lib.ListN.{length, get_or, drop, length-append, length-drop, drop_of_length-le}
use lib.Dec.{T, eqb, leb, leb→le, ltb}
use Rattle.std.specs.Prelude.{if◌then◌else◌}
use Rattle.laws.proofs.Tests.{and_l, and_r, test_true}
use Rattle.laws.proofs.Parts.{at_next}
use Rattle.ocl.specs.Types.{Kind, set, sequence, bag, kind_code}
use Rattle.ocl.specs.Values.{Value, coll, Values, nil, cons, count, size, members, every_part}
use Rattle.sheet.specs.Limits.{part_within, nesting, value_within}
use Rattle.values.specs.Cells.{head, enc, encs, Fits, fits_coll, kids}
use Rattle.values.proofs.Heads.{kids_head}
use Rattle.values.proofs.Encoding.{size_law, some_cells}
use Rattle.replay.specs.Values.{Small, EndsAt, IsValue}
use Rattle.replay.proofs.CellLaws.{alone, group, Sided, sided, first_cell, none_at}
use Rattle.replay.proofs.MemberLaws.{AllSmall, small_nil, Rest, Among, next_at}

-- ---- a collection

record Opened (c n : ℕ) : Type 0 where
  kind : Kind
  is : c ≡ 18442240478377148416 + 4294967296 * kind_code kind + n

opened : (c n : ℕ) → 18442240478377148416 ≤ c → c < 18442240491262050304 → n ≡ kids c → Opened c n
unfolding kids kind_code
opened c n l h e = by (dec_lt c 18442240482672115712) (dec_lt c 18442240486967083008) (e ∙ rw (le-ltb c 18442240478377148416 l))
  where
    by : Dec (c < 18442240482672115712) → Dec (c < 18442240486967083008) → n ≡ c % 4294967296 → Opened c n
    by (yes a) b e = record { kind = set; is = omega arith }
    by (no a) (yes b) e = record { kind = sequence; is = omega arith }
    by (no a) (no b) e = record { kind = bag; is = omega arith }

kids_small : (c : ℕ) → kids c < 4294967296
unfolding kids
kids_small c = by (ltb c 18442240478377148416)
  where
    by : (b : Bool) → (if b then 0 else c % 4294967296) < 4294967296
    by true = omega arith
    by false = omega arith

module _ (cells : List ℕ) (p deep n : ℕ) (there : p < length cells) (high : 18442240478377148416 ≤ get_or cells p 0) (low : get_or cells p 0 < 18442240491262050304)
    (some-depth : (deep ≡ 0 → ⊥)) (many : n ≡ kids (get_or cells p 0)) where
  members_at : (v : Value) (y : List ℕ) → Small deep v → drop p cells ≡ enc v ++ y
      → (vs : Values) × (AllSmall (deep - 1) vs × (count vs ≡ n) × (drop (p + 1) cells ≡ encs vs ++ y) × (length (enc v) ≡ suc (length (encs vs))))
  unfolding enc every_part nesting members
  members_at v y s e = by (sided s.fits) s e (first_cell cells y p v there e) (kids_head s.fits)
    where
      by : {v : Value} → Sided v → Small deep v → drop p cells ≡ enc v ++ y → get_or cells p 0 ≡ head v → kids (head v) ≡ count (members v)
          → (vs : Values) × (AllSmall (deep - 1) vs × (count vs ≡ n) × (drop (p + 1) cells ≡ encs vs ++ y) × (length (enc v) ≡ suc (length (encs vs))))
      by (alone z l h) s e q k = absurd (omega arith)
      by (group k vs f l h) s e q c = (
        vs,
        (
          record { fits = f; parts = s.parts; nests = let m = s.nests in omega arith },
          sym c ∙ ap kids (sym q) ∙ sym many,
          ap (drop 1) (sym (at_next 0 cells p there) ∙ e),
          refl,
        ),
      )

  module _ {q i : ℕ} (a : Among cells p (deep - 1) n q i) where
    pub group_end : n ≤ i → EndsAt cells p deep q
    unfolding enc encs head every_part nesting count
    group_end h = record {
      found = λ l.
          let g = a.back nil (drop q cells) small_nil (let f = a.few in omega arith) refl in
          let o = opened (get_or cells p 0) n high low many in
          let z : get_or cells p 0 ≡ head (coll o.kind g.values) = o.is ∙ ap (λ (m : ℕ). 18442240478377148416 + 4294967296 * kind_code o.kind + m) (sym g.many) in
          let e = ap length g.lies ∙ length-append (encs g.values) (drop q cells) in
          record {
            value = coll o.kind g.values;
            small = record {
              fits = fits_coll {vs = g.values} (let m = kids_small (get_or cells p 0) in omega (arith, g.many)) g.small.fits;
              parts = g.small.parts;
              nests = let m = g.small.nests in omega arith;
            };
            lies = at_next 0 cells p there ∙ ap (λ (l : List ℕ). get_or cells p 0 ∷ l) g.lies ∙ ap (λ (c : ℕ). c ∷ (encs g.values ++ drop q cells)) z;
            to = let r = a.room in let u = a.up in omega (arith, length-drop (p + 1) cells, length-drop q cells, e);
          };
      is = λ v y s e. by v y (members_at v y s e);
    }
      where
        by : (v : Value) (y : List ℕ) → (vs : Values) × (AllSmall (deep - 1) vs × (count vs ≡ n) × (drop (p + 1) cells ≡ encs vs ++ y) × (length (enc v) ≡ suc (length (encs vs))))
            → q ≡ p + length (enc v)
        by v y m = ended (a.going m.0 y m.1.0 m.1.1 m.1.2) m.1.3
          where
            none : (us : Values) → i + count us ≡ n → length (encs us) ≡ 0
            none nil e = refl
            none (cons u us) e = absurd (omega arith)

            ended : Rest cells (p + 1) (deep - 1) n q i m.0 y → length (enc v) ≡ suc (length (encs m.0)) → q ≡ p + length (enc v)
            ended x l = omega (arith, none x.values x.many, x.to)

    pub group_none : {r : ℕ} → EndsAt cells q (deep - 1) r → i < n → r ≡ 0 → EndsAt cells p deep 0
    group_none {r} end more z = none_at (λ v y s e. let m = members_at v y s e in
        let x = (next_at a end more m.0 y (a.going m.0 y m.1.0 m.1.1 m.1.2)).0 in omega arith)

-- ---- a whole value

within_small : (v : Value) → Fits v → value_within v ≡ true → Small 3 v
unfolding value_within
within_small v f w =
    let t = and_l (every_part part_within v && leb (size v) 128) (leb (nesting v) 3) (subst T (sym w) tt) in
    record {
      fits = f;
      parts = test_true (every_part part_within v) (and_l (every_part part_within v) (leb (size v) 128) t);
      nests = leb→le (nesting v) 3 (and_r (every_part part_within v && leb (size v) 128) (leb (nesting v) 3) (subst T (sym w) tt));
    }

module _ {cells : List ℕ} where
  pub not_long : 128 < length cells → IsValue cells false
  unfolding value_within
  not_long h = record {
    found = λ e. absurd (true≢false (sym e));
    is = λ v f w e. absurd (
        let t = and_l (every_part part_within v && leb (size v) 128) (leb (nesting v) 3) (subst T (sym w) tt) in
        let l = leb→le (size v) 128 (and_r (every_part part_within v) (leb (size v) 128) t) in
        omega (arith, size_law v, ap length e));
  }

  module _ {r : ℕ} (short : length cells ≤ 128) (end : EndsAt cells 0 3 r) where
    end_is : (v : Value) → Fits v → value_within v ≡ true → cells ≡ enc v → r ≡ length cells
    end_is v f w e = end.is v [] (within_small v f w) (e ∙ sym (append-nil (enc v))) ∙ omega (arith, ap length e)

    pub no_value : r ≡ 0 → IsValue cells false
    no_value z = record {
      found = λ e. absurd (true≢false (sym e));
      is = λ v f w e. absurd (omega (arith, end_is v f w e, some_cells v, ap length e));
    }

    pub one_value : (r ≡ 0 → ⊥) → IsValue cells (eqb r (length cells))
    unfolding value_within
    one_value n = record {
      found = λ e.
          let s = end.found (omega (arith, n)) in
          let z : r ≡ length cells = eqb-true r (length cells) e in
          let l : cells ≡ enc s.value = s.lies ∙ ap (λ (t : List ℕ). enc s.value ++ t) (drop_of_length-le cells (let y : length cells ≤ r = omega arith in y)) ∙ append-nil (enc s.value) in
          record {
            value = s.value;
            fits = s.small.fits;
            within = rw (s.small.parts, le-leb (size s.value) 128 (omega (arith, size_law s.value, ap length l)), le-leb (nesting s.value) 3 s.small.nests);
            lies = l;
          };
      is = λ v f w e. eq-eqb r (length cells) (end_is v f w e);
    }
