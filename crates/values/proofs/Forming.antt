-- A value is formed at sp, or it would be too large. Assumes nothing.
use mathlib.Core.Path.{◌≡◌, refl, sym, ap, ◌∙◌}
use mathlib.Core.Bool.{Bool, true, false}
use mathlib.Core.List.{List, ◌++◌}
use Prim.Native.Nat.{ℕ, ◌+◌, ◌-◌, ◌<◌, ◌≤◌}
use native.Mathlib.Omega.{arith}
use lib.ListN.{length, take, drop, length-drop}
use lib.Seq.{slice, length-slice, length-take-le, paste, take-paste, take_all}
use lib.Dec.{leb}
use borrow.Author.Tests.{lt-leb, le-leb, leb-true, leb-false}
use Rattle.std.specs.Prelude.{if◌then◌else◌, Option as Optional, Some, None}
use Rattle.laws.proofs.Slices.{cut_part, slice_join, trim}
use Rattle.ocl.specs.Values.{Value, size}
use Rattle.values.specs.Cells.{enc, past, Fits}
use Rattle.values.specs.Meanings.{Skips, SmallForm, Forms, Copies, Brings}
use Rattle.values.proofs.Encoding.{size_law, past_law}

pub forms_done : {v : Value} {sp n : ℕ} (B : List ℕ) {D : List ℕ} → Fits v → size v ≡ n → n ≤ 128 → sp ≤ length B → take (sp + n) D ≡ take sp B ++ enc v → Forms v sp (take sp B) D (Some n)
forms_done {v} {sp} {n} B {D} f e s h l = record {
  below = trim sp n D (take sp B) (enc v) (length-take-le sp B h) l;
  is = rw (e, le-leb n 128 s);
  lies = λ _. rw e l;
  fits = λ _. f;
}

pub forms_over : {v : Value} {sp : ℕ} {low D : List ℕ} → 128 < size v → take sp D ≡ low → Forms v sp low D None
forms_over {v} h l = record { below = l; is = rw (lt-leb (size v) 128 h); lies = λ s. absurd (omega arith); fits = λ s. absurd (omega arith) }

pub done_size : {w : Value} {sp n : ℕ} {low A : List ℕ} {f : Optional ℕ} → Forms w sp low A f → f ≡ Some n → (n ≡ size w) × (size w ≤ 128)
done_size {w} {sp} {n} F q = by (leb (size w) 128) refl (sym q ∙ F.is)
  where
    by : (b : Bool) → leb (size w) 128 ≡ b → Some n ≡ (if b then Some (size w) else None) → (n ≡ size w) × (size w ≤ 128)
    by true e i = ((cc), leb-true (size w) 128 e)
    by false e i = absurd (let z : ◌≡◌ {A = ℕ} 0 1 = cc in omega arith)

pub over_size : {w : Value} {sp : ℕ} {low A : List ℕ} {f : Optional ℕ} → Forms w sp low A f → f ≡ None → 128 < size w
over_size {w} F q = by (leb (size w) 128) refl (sym q ∙ F.is)
  where
    by : (b : Bool) → leb (size w) 128 ≡ b → None ≡ (if b then Some (size w) else None) → 128 < size w
    by true e i = absurd (let z : ◌≡◌ {A = ℕ} 0 1 = cc in omega arith)
    by false e i = leb-false (size w) 128 e

pub small_over : {f : Optional ℕ} → f ≡ None → SmallForm f
small_over e = rw e tt

pub bounds : {f : Optional ℕ} {n : ℕ} → SmallForm f → f ≡ Some n → (1 ≤ n) × (n ≤ 128)
bounds x e = rw e at x

-- ---- a part's length is the value's size

pub part_size : (S : List ℕ) (a e : ℕ) (v : Value) → e ≤ length S → slice a e S ≡ enc v → size v ≡ e - a
part_size S a e v h d = sym (size_law v) ∙ sym (ap length d) ∙ length-slice a e S h

-- the place after a value, whatever stands after it
pub after_value : {S : List ℕ} {q end r : ℕ} {v : Value} (y : List ℕ) → Fits v → slice q end S ≡ enc v ++ y → Skips q end S r → r ≡ q + length (enc v)
after_value {q = q} {v = v} y f e k = k.is ∙ ap (λ (l : List ℕ). q + past l 1) e ∙ ap (λ (n : ℕ). q + n) (past_law f y)

-- ---- a copy from other words

module _ {L S : List ℕ} {a e sp : ℕ} (h : a < e) (room : e ≤ length L) where
  pub brings_over : 128 < e - a → Brings L a e sp S S None
  brings_over l = record { small = tt; low = refl; is = λ v f d. forms_over (let z = part_size L a e v room d in omega arith) refl }

  pub brings_done : {D : List ℕ} → e - a ≤ 128 → sp + (e - a) ≤ length S → D ≡ paste S sp (take (e - a) (drop a L)) (length (take (e - a) (drop a L))) → Brings L a e sp S D (Some (e - a))
  brings_done {D} l k p =
      let part = take (e - a) (drop a L) in
      let n = length-take-le (e - a) (drop a L) (rw (length-drop a L) (omega arith)) in
      let there : take (sp + (e - a)) D ≡ take sp S ++ part =
      rw (p, n) (take-paste S sp part (e - a) (omega arith) (omega arith) ∙ ap (λ (l : List ℕ). take sp S ++ l) (take_all (e - a) part (omega arith))) in
      record {
        small = (omega arith, l);
        low = trim sp (e - a) D (take sp S) part (length-take-le sp S (omega arith)) there;
        is = λ v f d.
            let z : a + (e - a) ≡ e = omega arith in
            forms_done S f (part_size L a e v room d) l (omega arith)
            (there ∙ ap (λ (l : List ℕ). take sp S ++ l) (sym (cut_part a (e - a) L (omega arith)) ∙ ap (λ (n : ℕ). slice a n L) z ∙ d));
      }

-- ---- a copy of the value at p

module _ {S : List ℕ} {p sp r : ℕ} (h : p < sp) (room : sp ≤ length S) (k : Skips p sp S r) where
  copy_size : {v : Value} → Fits v → p + size v ≤ sp → slice p (p + size v) S ≡ enc v → size v ≡ r - p
  copy_size {v} f l e =
      let j = slice_join S p (p + size v) sp (omega arith) l (omega arith) ∙ ap (λ (x : List ℕ). x ++ slice (p + size v) sp S) e in
      let z = after_value (slice (p + size v) sp S) f j k in let n = size_law v in omega arith

  pub copies_over : 128 < r - p → Copies p sp S S None
  copies_over l = record { small = tt; low = refl; is = λ v f m e. forms_over (let z = copy_size f m e in omega arith) refl }

  pub copies_done : {D : List ℕ} → r - p ≤ 128 → take (sp + (r - p)) D ≡ take sp S ++ take (r - p) (drop p S) → Copies p sp S D (Some (r - p))
  copies_done {D} l t = record {
    small = (let u = k.up h in omega arith, l);
    low = trim sp (r - p) D (take sp S) (take (r - p) (drop p S)) (length-take-le sp S room) t;
    is = λ v f m e.
        let z = copy_size f m e in
        forms_done S f z l room (t ∙ ap (λ (l : List ℕ). take sp S ++ l) (sym (cut_part p (r - p) S (omega arith)) ∙ ap (λ (n : ℕ). slice p (p + n) S) (sym z) ∙ e));
  }
