-- Single cells, and the way from a value to the next: the laws that the proofs of crate module `cells` cite. Assumes nothing.
use mathlib.Core.Path.{◌≡◌, refl, sym, ap, ◌∙◌, subst}
use mathlib.Core.Bool.{Bool, true, false}
use mathlib.Core.List.{List, [], ◌∷◌, ◌++◌}
use Prim.Native.Nat.{ℕ, zero, suc, ◌+◌, ◌*◌, ◌-◌, ◌/◌, ◌%◌, ◌<◌, ◌≤◌}
use native.Mathlib.Omega.{arith}
use native.Mathlib.Numerals.{add-one}
use lib.ListN.{length, get_or, take, set}
use lib.Seq.{slice, slice-cons, length-slice, take-suc-set, take-set-le}
use lib.IntN.{ℤ}
use mir.Val.{bool_byte}
use lib.Dec.{T, eqb}
use lib.Ieee.{Float}
use lib.Ieee.Scale.{finite}
use borrow.Author.Tests.{lt-ltb, le-ltb, eq-eqb, ne_eqb}
use Rattle.reals.specs.Reals.{Number, int, real, in_range, kept}
use Rattle.floats.specs.Meanings.{coded_of, Sound, NumberOf, CellOf as NumberCell, integer_of, IntegerIn, IntegerCell}
use Rattle.floats.specs.declared.Number.{Number as Coded}
use Rattle.floats.specs.declared.Number.TheVariants as coded
use Rattle.floats.proofs.Coding.{same_integer, same_float, no_integer_lem, no_float}
use Rattle.ocl.specs.Values.{Value, num, nil, count, sort}
use Rattle.ocl.specs.Operations.{is_int}
use Rattle.values.specs.Cells.{bit, bias, head, enc, kids, past, Fits, fits_bool, fits_num, fits_obj, fits_coll}
use Rattle.values.specs.Meanings.{SortOf, PayloadOf, IntegerTest, SimpleOf, Means, means_bool, means_int, means_real, means_obj, Narrow, CellOf, Pushes, EmptyOf, Skips}
use Rattle.values.specs.declared.Simple.{Simple}
use Rattle.values.specs.declared.Simple.TheVariants as simple
use Rattle.values.proofs.Heads.{bit_small, head_coll, start, band, payload_back, Shape, shape_bool, shape_num, shape_obj, shape_coll, shape}
use Rattle.values.proofs.Encoding.{past_zero}
use Rattle.std.specs.Prelude.{Option as Optional, Some, None}

-- ---- single cells

pub sort_low : {c : ℕ} → c < 2 → SortOf c 0
unfolding start
sort_low {c} h = record { is = λ v f e. by (sort v) (band f).0 e }
  where
    by : {d : ℕ} (s : ℕ) → start s ≤ d → c ≡ d → 0 ≡ s
    by zero l e = refl
    by (suc zero) l e = absurd (omega arith)
    by (suc (suc s)) l e = absurd (omega arith)

pub sort_middle : {c : ℕ} → 2 ≤ c → c < 18442240474082181120 → SortOf c 1
unfolding start
sort_middle {c} h k = record { is = λ v f e. by (sort v) (band f).0 (band f).1 e }
  where
    by : {d : ℕ} (s : ℕ) → start s ≤ d → d < start (suc s) → c ≡ d → 1 ≡ s
    by zero l u e = absurd (omega arith)
    by (suc zero) l u e = refl
    by (suc (suc s)) l u e = absurd (omega arith)

pub sort_high : {c : ℕ} → 18442240474082181120 ≤ c → SortOf c (2 + (c - 18442240474082181120) / 4294967296)
unfolding start
sort_high {c} h = record { is = λ v f e. by (sort v) (band f).0 (band f).1 e }
  where
    by : {d : ℕ} (s : ℕ) → start s ≤ d → d < start (suc s) → c ≡ d → 2 + (c - 18442240474082181120) / 4294967296 ≡ s
    by zero l u e = absurd (omega arith)
    by (suc zero) l u e = absurd (omega arith)
    by (suc (suc s)) l u e = omega arith

pub payload_of : (c : ℕ) → PayloadOf c (c % 4294967296)
payload_of c = record { small = omega arith; is = λ v f n e. ap (λ (m : ℕ). m % 4294967296) e ∙ payload_back f n }

-- ---- simple values as cells

module _ {s : Simple} where
  pub cell_bool : {b : Bool} {r : ℕ} → s ≡ simple.Bool b → r ≡ bit b → CellOf s r
  unfolding head
  cell_bool {b} {r} e i = record { is = λ v f m. by (rw e at m) }
    where
      by : {v : Value} → Means (simple.Bool b) v → r ≡ head v
      by means_bool = i

  pub cell_int : {n r : ℕ} → s ≡ simple.Integer n → IntegerCell n r → CellOf s r
  unfolding head kept
  cell_int {n} {r} e C = record { is = λ v f m. by f (rw e at m) }
    where
      by : {v : Value} → Fits v → Means (simple.Integer n) v → r ≡ head v
      by (fits_num k) (means_int {z = z} i) = C.is z k i
      by (fits_bool {b = b}) x3 = elim x3 [ ]
      by (fits_obj {o = o} _) x6 = elim x6 [ ]
      by (fits_coll {k = k} {vs = vs} _ _) x9 = elim x9 [ ]

  pub cell_real : {x : Float} {r : ℕ} → s ≡ simple.Real x → NumberCell (coded.Real x) r → CellOf s r
  unfolding head coded_of
  cell_real {x} {r} e C = record { is = λ v f m. by f (rw e at m) }
    where
      by : {v : Value} → Fits v → Means (simple.Real x) v → r ≡ head v
      by (fits_num k) (means_real {r = y} i) = C.is (real y) k (ap coded.Real i)
      by (fits_bool {b = b}) x4 = elim x4 [ ]
      by (fits_obj {o = o} _) x7 = elim x7 [ ]
      by (fits_coll {k = k} {vs = vs} _ _) x10 = elim x10 [ ]

  pub cell_obj : {n : ℕ} → s ≡ simple.Object n → CellOf s (18442240474082181120 + n)
  unfolding head
  cell_obj {n} e = record { is = λ v f m. by (rw e at m) }
    where
      by : {v : Value} → Means (simple.Object n) v → 18442240474082181120 + n ≡ head v
      by means_obj = refl

  pub narrow_int : {n : ℕ} → Narrow s → s ≡ simple.Integer n → n < 4294967296
  narrow_int h e = rw e at h

  pub narrow_real : {x : Float} → Narrow s → s ≡ simple.Real x → T (finite x)
  narrow_real h e = rw e at h

  pub narrow_obj : {n : ℕ} → Narrow s → s ≡ simple.Object n → n < 4294967296
  narrow_obj h e = rw e at h

pub bit_byte : (b : Bool) → bool_byte b ≡ bit b
unfolding bit
bit_byte true = refl
bit_byte false = refl

-- ---- and back

bool_back : {b : Bool} {p : ℕ} → p ≡ bit b → eqb p 1 ≡ b
unfolding bit
bool_back {b = true} e = eq-eqb _ 1 e
bool_back {b = false} {p = p} e = ne_eqb p 1 (λ f. omega arith)

module _ {c t p : ℕ} (S : SortOf c t) (Q : PayloadOf c p) where
  shape_of : (v : Value) → Fits v → c ≡ head v → Shape t p v
  shape_of v f e = shape f (S.is v f e) (λ n. Q.is v f n e)

  pub simple_bool : t ≡ 0 → SimpleOf c (simple.Bool (eqb p 1))
  simple_bool z = record { narrow = tt; is = λ v f l e. by (shape_of v f e) }
    where
      by : {v : Value} → Shape t p v → Means (simple.Bool (eqb p 1)) v
      by (shape_bool h i) = rw (bool_back i) means_bool
      by (shape_num h i) = absurd (omega arith)
      by (shape_obj h i j) = absurd (omega arith)
      by (shape_coll h i j) = absurd (omega arith)

  pub simple_obj : (t ≡ 0 → ⊥) → (t ≡ 1 → ⊥) → SimpleOf c (simple.Object p)
  simple_obj y z = record { narrow = Q.small; is = λ v f l e. by (shape_of v f e) (let q = S.is v f e in omega arith) }
    where
      by : {v : Value} → Shape t p v → t < 3 → Means (simple.Object p) v
      by (shape_bool h i) l = absurd (y h)
      by (shape_num h i) l = absurd (z h)
      by (shape_obj h i j) l = rw i means_obj
      by (shape_coll h i j) l = absurd (omega arith)

-- ---- numbers, as floats reads them

data IsNumber (w : Coded) : Value → Type 0 where
  is_number : {x : Number} → w ≡ coded_of x → IsNumber w (num x)

module _ {c t : ℕ} {w : Coded} (S : SortOf c t) (h : t ≡ 1) (N : NumberOf c w) where
  number_is : (v : Value) → Fits v → c ≡ head v → IsNumber w v
  unfolding head
  number_is v f e = by (shape f (S.is v f e) (λ n. refl)) e
    where
      by : {p : ℕ} {v : Value} → Shape t p v → c ≡ head v → IsNumber w v
      by (shape_bool i j) e = absurd (omega arith)
      by (shape_num {x = x} i k) e = is_number (N.is x k e)
      by (shape_obj i j k) e = absurd (omega arith)
      by (shape_coll i j k) e = absurd (omega arith)

  module _ {n : ℕ} (q : w ≡ coded.Integer n) where
    pub simple_int : SimpleOf c (simple.Integer n)
    simple_int = record { narrow = subst Sound q N.sound; is = λ v f l e. by (number_is v f e) }
      where
        by : {v : Value} → IsNumber w v → Means (simple.Integer n) v
        by (is_number {x = int z} i) = means_int (same_integer z (sym q ∙ i))
        by (is_number {x = real r} i) = no_integer_lem r (sym q ∙ i)

  module _ {y : Float} (q : w ≡ coded.Real y) where
    pub simple_real : SimpleOf c (simple.Real y)
    simple_real = record { narrow = subst Sound q N.sound; is = λ v f l e. by (number_is v f e) }
      where
        by : {v : Value} → IsNumber w v → Means (simple.Real y) v
        by (is_number {x = int z} i) = no_float z (sym q ∙ i)
        by (is_number {x = real r} i) = means_real (same_float r (sym q ∙ i))

-- ---- the Integer in a cell

-- what a value is, by what was found in its first cell
pub data Integral (t : Optional ℕ) : Value → Type 0 where
  integral : {z : ℤ} → t ≡ Some (bias z) → T (in_range z) → Integral t (num (int z))
  no_integral : {v : Value} → t ≡ None → is_int v ≡ false → Integral t v

pub integral_of : {c : ℕ} {t : Optional ℕ} {v : Value} → IntegerIn c t → Fits v → c ≡ head v → Integral t v
unfolding head integer_of kept
integral_of I (fits_bool {b}) e = no_integral (I.low (let h = bit_small b in omega (arith, e, h))) refl
integral_of I (fits_num {x = int z} k) e = integral (I.is (int z) k e) k
integral_of I (fits_num {x = real r} k) e = no_integral (I.is (real r) k e) refl
integral_of I (fits_obj h) e = no_integral (I.high (omega (arith, e))) refl
integral_of I (fits_coll h f) e = no_integral (I.high (omega (arith, e))) refl

abbrev found : Optional ℕ → Bool
found (Some n) = true
found None = false

pub integer_yes : {c n : ℕ} {t : Optional ℕ} → IntegerIn c t → t ≡ Some n → IntegerTest c true
integer_yes {t = t} I q = record { is = λ v f e. by (integral_of I f e) }
  where
    by : {v : Value} → Integral t v → true ≡ is_int v
    by (integral i h) = refl
    by (no_integral i h) = ap found (sym q ∙ i) ∙ sym h

pub integer_no : {c : ℕ} {t : Optional ℕ} → IntegerIn c t → t ≡ None → IntegerTest c false
integer_no {t = t} I q = record { is = λ v f e. by (integral_of I f e) }
  where
    by : {v : Value} → Integral t v → false ≡ is_int v
    by (integral i h) = ap found (sym q ∙ i)
    by (no_integral i h) = sym h

pub means_alone : {s : Simple} {v : Value} → Means s v → enc v ≡ head v ∷ []
unfolding enc
means_alone means_bool = refl
means_alone (means_int e) = refl
means_alone (means_real e) = refl
means_alone means_obj = refl

pub pushed : {s : Simple} {S : List ℕ} {sp r : ℕ} → CellOf s r → sp < length S → Pushes s sp S (set S sp r)
pushed {s} {S} {sp} {r} C h = record {
  low = take-set-le sp S sp r (omega arith);
  lies = λ v f m.
      rw (add-one sp) (take-suc-set S sp r h) ∙ ap (λ (l : List ℕ). take sp S ++ l) (ap (λ (n : ℕ). n ∷ []) (C.is v f m) ∙ sym (means_alone m));
}

pub empty_of : (kind : ℕ) → EmptyOf kind (18442240478377148416 + kind * 4294967296)
unfolding count
empty_of kind = record { is = λ k e. let h = head_coll k nil in omega arith }

-- ---- how many members

pub kids_low : (c : ℕ) → c < 18442240478377148416 → (0 ≡ kids c) × (0 < 4294967296)
unfolding kids
kids_low c h = (sym (rw (lt-ltb c 18442240478377148416 h)), omega arith)

pub kids_high : (c r : ℕ) → 18442240478377148416 ≤ c → r ≡ c % 4294967296 → (r ≡ kids c) × (r < 4294967296)
unfolding kids
kids_high c r h e = (e ∙ sym (rw (le-ltb c 18442240478377148416 h)), omega arith)

-- ---- the place after a value

past_short : (cs : List ℕ) (n : ℕ) → length cs ≤ n → past cs n ≡ length cs
unfolding past
past_short [] n h = refl
past_short (c ∷ cs) zero h = absurd (omega arith)
past_short (c ∷ cs) (suc n) h = ap suc (past_short cs (n + kids c) (omega arith))

past_cons : (c : ℕ) (cs : List ℕ) (n : ℕ) → 0 < n → past (c ∷ cs) n ≡ suc (past cs (n - 1 + kids c))
unfolding past
past_cons c cs zero h = absurd (omega arith)
past_cons c cs (suc n) h = let e : suc n - 1 ≡ n = omega arith in rw e

-- where the loop stands: n values are left at q
pub record Skipping (S : List ℕ) (p limit q n : ℕ) : Type 0 where
  pub room : limit ≤ length S
  pub from : p ≤ limit
  pub below : q ≤ limit
  pub same : p + past (slice p limit S) 1 ≡ q + past (slice q limit S) n

pub skip_again : {S : List ℕ} {limit p q n m c : ℕ} → Skipping S p limit q n → c ≡ kids (get_or S q 0) → q < limit → 0 < n → m ≡ n - 1 + c → Skipping S p limit (q + 1) m
skip_again {S} {limit} {p} {q} {n} {m} {c} i e h l z =
    let a : past (slice q limit S) n ≡ suc (past (slice (q + 1) limit S) m) =
    rw (slice-cons q limit S 0 h i.room, add-one q, z, e) (past_cons (get_or S q 0) (slice (suc q) limit S) n l) in
    record { room = i.room; from = i.from; below = omega arith; same = let s = i.same in omega arith }

pub skips : {S : List ℕ} {limit p q n : ℕ} → Skipping S p limit q n → n ≡ 0 → Skips p limit S q
skips {S} {limit} {p} {q} {n} i z =
    let y = past_zero (slice q limit S) in
    let x : past (slice q limit S) n ≡ 0 = rw z y in
    let s = i.same in
    record { is = omega arith; within = i.below; up = λ l. let w = ap (λ (r : List ℕ). past r 1) (slice-cons p limit S 0 l i.room) ∙ past_cons (get_or S p 0) (slice (suc p) limit S) 1 (omega arith) in omega arith }

pub skips_over : {S : List ℕ} {limit p q n : ℕ} → Skipping S p limit q n → limit - q < n → Skips p limit S limit
skips_over {S} {limit} {p} {q} {n} i z =
    let k = i.room in
    let y = past_short (slice q limit S) n (rw (length-slice q limit S k) (omega arith)) ∙ length-slice q limit S k in
    let s = i.same in
    let b = i.below in
    record { is = omega arith; within = omega arith; up = λ l. l }
