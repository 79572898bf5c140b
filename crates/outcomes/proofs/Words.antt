-- Words on the stack: what lies below a place stays, a value that lies there is read back, one is formed or moved. Assumes nothing.
use mathlib.Core.Path.{◌≡◌, refl, sym, ap, ◌∙◌}
use mathlib.Core.Bool.{Bool, true, false}
use mathlib.Core.List.{List, [], ◌∷◌, ◌++◌}
use Prim.Native.Nat.{ℕ, ◌+◌, ◌<◌, ◌≤◌}
use native.Mathlib.Omega.{arith}
use native.Mathlib.Nat.{add-zero}
use native.Mathlib.Numerals.{add-one}
use lib.ListN.{length, get_or, take, drop, set}
use lib.Seq.{take-suc-set, take-take, drop_at, length-take-le, get_or-take, get_or-drop}
use lib.Dec.{leb}
use borrow.Author.Tests.{le-leb, leb-true}
use Rattle.std.specs.Prelude.{if◌then◌else◌, Option as Optional, Some, None}
use Rattle.laws.proofs.Slices.{cut_part, trim, under_top}
use Rattle.ocl.specs.Values.{Value, bool, num, obj, coll, size, sort}
use Rattle.ocl.specs.Operations.{value, stop, form}
use Rattle.ocl.proofs.Values.{size_pos}
use Rattle.values.specs.Cells.{head, enc, Fits}
use Rattle.values.specs.Meanings.{Means, means_bool, means_int, means_real, means_obj, CellOf, Pushes, Forms, SortOf, PayloadOf, SmallForm}
use Rattle.values.specs.declared.Simple.{Simple}
use Rattle.values.proofs.Heads.{enc_parts, sort_kind, shape, Shape, shape_bool, shape_num, shape_obj, shape_coll}
use Rattle.outcomes.specs.declared.Ended.{Ended}
use Rattle.outcomes.specs.declared.Ended.TheVariants as ended
use Rattle.outcomes.specs.Answers.{Lies, Ends, ends_value, ends_stop, Under, Ran, SmallAnswer, GivesCell, Gives, formed_as, truth_of, Truth}

-- ---- what lies below

pub under_refl : {sp : ℕ} {A : List ℕ} → Under sp A A
under_refl = record { same = refl }

pub under_then : {sp : ℕ} {A B C : List ℕ} → Under sp A B → Under sp B C → Under sp A C
under_then e f = record { same = e.same ∙ f.same }

pub under_down : {sp mid : ℕ} {A B : List ℕ} → sp ≤ mid → Under mid A B → Under sp A B
under_down {sp} {mid} {A} {B} h e = record { same = sym (take-take sp mid A h) ∙ ap (take sp) e.same ∙ take-take sp mid B h }

pub lies_kept : {v : Value} {p len top : ℕ} {A B : List ℕ} → p + len ≤ top → Under top A B → Lies v p len B → Lies v p len A
lies_kept {v} {p} {len} {top} {A} {B} h e l = record { fits = l.fits; long = l.long; cells = under_top A B top p (p + len) h e.same ∙ l.cells }

-- a value's first cell is read at its place
pub head_at_lem : {v : Value} {p len : ℕ} {S : List ℕ} → Lies v p len S → get_or S p 0 ≡ head v
head_at_lem {v} {p} {len} {S} l =
    let n = size_pos v in let m = l.long in
    sym (get_or-take (p + len) S p 0 (omega arith)) ∙ ap (λ (k : ℕ). get_or (take (p + len) S) k 0) (sym (add-zero p))
    ∙ sym (get_or-drop p (take (p + len) S) 0 0) ∙ ap (λ (c : List ℕ). get_or c 0 0) (l.cells ∙ enc_parts v)

-- ---- what is above

-- a value above words of a known number
pub lies_above : (v : Value) (sp : ℕ) (B A : List ℕ) → Fits v → sp ≤ length B → take (sp + size v) A ≡ take sp B ++ enc v → Lies v sp (size v) A
lies_above v sp B A f h e = record { fits = f; long = refl; cells = ap (drop sp) e ∙ drop_at (take sp B) (enc v) sp (length-take-le sp B h) }

pub kept_above : (sp len : ℕ) (B A Q : List ℕ) → sp ≤ length B → take (sp + len) A ≡ take sp B ++ Q → Under sp A B
kept_above sp len B A Q h e = record { same = trim sp len A (take sp B) Q (length-take-le sp B h) e }

-- a value moved to another place
pub record Slid (v : Value) (to len : ℕ) (C D : List ℕ) : Type 0 where
  pub kept : Under to D C
  pub there : Lies v to len D

pub slid : {v : Value} {from to len : ℕ} {C D : List ℕ} → take (to + len) D ≡ take to C ++ take len (drop from C) → to ≤ length C → from ≤ length C → Lies v from len C → Slid v to len C D
slid {v} {from} {to} {len} {C} {D} e h k l = record {
  kept = kept_above to len C D (take len (drop from C)) h e;
  there = record {
    fits = l.fits;
    long = l.long;
    cells = ap (drop to) e ∙ drop_at (take to C) (take len (drop from C)) to (length-take-le to C h) ∙ sym (cut_part from len C k) ∙ l.cells;
  };
}

-- ---- simple values

simple_size : {x : Simple} {v : Value} → Means x v → size v ≡ 1
unfolding size
simple_size means_bool = refl
simple_size (means_int e) = refl
simple_size (means_real e) = refl
simple_size means_obj = refl

simple_sort : {x : Simple} {v : Value} → Means x v → sort v < 3
unfolding sort
simple_sort means_bool = omega arith
simple_sort (means_int e) = omega arith
simple_sort (means_real e) = omega arith
simple_sort means_obj = omega arith

-- a value that is no collection is its first cell
alone : (v : Value) → sort v < 3 → (size v ≡ 1) × (enc v ≡ head v ∷ [])
unfolding size enc
alone (bool b) h = (refl, refl)
alone (num x) h = (refl, refl)
alone (obj o) h = (refl, refl)
alone (coll k vs) h = absurd (let e = sort_kind k vs in omega arith)

pub gives_cell : {c sp s : ℕ} {B : List ℕ} → sp < length B → GivesCell c sp s B (set B sp c) (ended.Value 1 s)
gives_cell {c} {sp} {s} {B} h = record {
  small = omega arith;
  is = λ v f t q.
      let n = alone v t in
      let e : take (sp + size v) (set B sp c) ≡ take sp B ++ enc v = rw (n.0, add-one sp) (take-suc-set B sp c h ∙ ap (λ (l : List ℕ). take sp B ++ l) (ap (λ (k : ℕ). k ∷ []) q ∙ sym n.1)) in
      record { kept = kept_above sp (size v) B (set B sp c) (enc v) (omega arith) e; ends = ends_value (rw n.0 at (lies_above v sp B (set B sp c) f (omega arith) e)) (omega arith) };
}

pub gives_simple : {x : Simple} {c sp s : ℕ} {B A : List ℕ} {r : Ended} → CellOf x c → GivesCell c sp s B A r → Gives x sp s B A r
gives_simple C G = record { small = G.small; is = λ v f m. G.is v f (simple_sort m) (C.is v f m) }

pub gives : {x : Simple} {sp s : ℕ} {B A : List ℕ} → sp < length B → Pushes x sp B A → Gives x sp s B A (ended.Value 1 s)
gives {x} {sp} {s} {B} {A} h p = record {
  small = omega arith;
  is = λ v f m.
      let n = simple_size m in
      let e : take (sp + size v) A ≡ take sp B ++ enc v = rw n (p.lies v f m) in
      record { kept = kept_above sp (size v) B A (enc v) (omega arith) e; ends = ends_value (rw n at (lies_above v sp B A f (omega arith) e)) (omega arith) };
}

-- ---- truth values

pub truth_bool : {cell s p : ℕ} → SortOf cell s → PayloadOf cell p → s ≡ 0 → Truth cell p
unfolding truth_of
truth_bool {cell} {s} {p} S P e = record { is = λ v f h. by (shape f (S.is v f h) (λ n. P.is v f n h)) }
  where
    by : {v : Value} → Shape s p v → p ≡ truth_of v
    by (shape_bool i j) = j
    by (shape_num i j) = absurd (omega arith)
    by (shape_obj i j k) = absurd (omega arith)
    by (shape_coll i j k) = absurd (omega arith)

pub truth_other : {cell s : ℕ} → SortOf cell s → (s ≡ 0 → ⊥) → Truth cell 2
unfolding truth_of
truth_other {cell} {s} S e = record { is = λ v f h. by (shape f (S.is v f h) (λ n. refl)) }
  where
    by : {v : Value} {p : ℕ} → Shape s p v → 2 ≡ truth_of v
    by (shape_bool i j) = absurd (e i)
    by (shape_num i j) = refl
    by (shape_obj i j k) = refl
    by (shape_coll i j k) = refl

-- ---- which answer it is

-- no value
abbrev pub Other : Ended → Type 0
Other r = (len steps : ℕ) → r ≡ ended.Value len steps → ⊥

-- ---- what was formed

pub formed_small : (f : Optional ℕ) (s : ℕ) → SmallForm f → SmallAnswer (formed_as f s)
formed_small (Some n) s m = m
formed_small None s m = tt

module _ {v : Value} {sp : ℕ} {A : List ℕ} {f : Optional ℕ} (B : List ℕ) (s : ℕ) (h : sp ≤ length B) (F : Forms v sp (take sp B) A f) where
  kept_below : Under sp A B
  kept_below = record { same = F.below }

  there : size v ≤ 128 → Lies v sp (size v) A
  there l = lies_above v sp B A (F.fits l) h (F.lies l)

  -- with document 01's test of the size
  pub formed_ran : Ran (form v s) sp B A (formed_as f s)
  unfolding form
  formed_ran = record { kept = kept_below; ends = by (leb (size v) 128) refl }
    where
      by : (b : Bool) → leb (size v) 128 ≡ b → Ends sp A (if b then value v s else stop 17 s) (formed_as f s)
      by true e = let l = leb-true (size v) 128 e in rw (F.is, e) (ends_value (there l) l)
      by false e = rw (F.is, e) ends_stop

  -- and of a value that is known to be small enough
  pub formed_value : size v ≤ 128 → Ran (value v s) sp B A (formed_as f s)
  formed_value l = record { kept = kept_below; ends = rw (F.is, le-leb (size v) 128 l) (ends_value (there l) l) }
