-- The cell of an open collection: a member counted in it, and a collection that closes. Assumes nothing.
use mathlib.Core.Path.{◌≡◌, refl, sym, ap, ◌∙◌}
use mathlib.Core.Bool.{true}
use mathlib.Core.List.{List, [], ◌∷◌, ◌++◌, append_assoc, append-nil}
use Prim.Native.Nat.{ℕ, suc, ◌+◌, ◌<◌, ◌≤◌}
use native.Mathlib.Omega.{arith}
use lib.ListN.{length, get_or, take, set, length-append, length-set}
use lib.Seq.{take-set-lt, set_at, get_or-take, get_or-append-add}
use borrow.Author.Tests.{ne_eqb}
use Rattle.ocl.specs.Types.{Kind, kind_code, set as set_kind, sequence, bag}
use Rattle.ocl.specs.Values.{Value, coll, Values, size, sizes, count, append, every_part, every_parts}
use Rattle.ocl.proofs.Values.{count_sizes}
use Rattle.sheet.specs.Text.{Bytes}
use Rattle.sheet.specs.Limits.{part_within, nesting, nestings}
use Rattle.values.specs.Cells.{head, enc, encs}
use Rattle.values.proofs.Heads.{head_coll}
use Rattle.values.proofs.Encoding.{size_law}
use Rattle.values.proofs.Growing.{append_cells, append_count}
use Rattle.slots.specs.declared.reader.Open.{Open}
use Rattle.slots.specs.Machine.{Frame, grown, laid, head_at, outward, Heads, heads_cons, Tidy, FramesWithin, within_more, InFront, Sure, Raises}
use Rattle.slots.proofs.MachineLaws.{parts_append, nestings_append}
use Rattle.slots.proofs.CellLaws.{lies_size, heads_same}

-- ---- a member counted

module _ (o : Open) where
  pub header_first : o.depth ≡ 1 → 0 ≡ head_at o o.depth
  unfolding head_at
  header_first e = rw e

  pub header_second : o.depth ≡ 2 → o.second ≡ head_at o o.depth
  unfolding head_at
  header_second e = rw e

  pub header_third : (o.depth ≡ 1 → ⊥) → (o.depth ≡ 2 → ⊥) → o.third ≡ head_at o o.depth
  unfolding head_at
  header_third p q = rw (ne_eqb o.depth 1 p, ne_eqb o.depth 2 q)

-- the inmost open collection's cell
pub record First (A : List ℕ) (x : Frame) (at : ℕ) : Type 0 where
  pub within : at < length A
  pub cell : get_or A at 0 ≡ head (coll x.kind x.inside)
  pub few : count x.inside ≤ 128

module _ {A : List ℕ} {o : Open} {x : Frame} {fs : List Frame} {X : List ℕ} (l : InFront A o (x ∷ fs) X) where
  abbrev top : ℕ
  top = head (coll x.kind x.inside)

  spread : take o.size A ≡ laid fs ++ (top ∷ (encs x.inside ++ X))
  unfolding laid enc
  spread = l.laid ∙ append_assoc (laid fs) (top ∷ encs x.inside) X

  far : length (laid fs) + suc (sizes x.inside) ≤ o.size
  unfolding laid size
  far = omega (arith, lies_size l, length-append (laid fs) (enc (coll x.kind x.inside)), size_law (coll x.kind x.inside))

  pub first_cell : First A x (length (laid fs))
  first_cell = record {
    within = omega (arith, far, l.room);
    cell =
        sym (get_or-take o.size A (length (laid fs)) 0 (omega (arith, far)))
        ∙ ap (λ (t : List ℕ). get_or t (length (laid fs)) 0) spread
        ∙ ap (λ (n : ℕ). get_or (laid fs ++ (top ∷ (encs x.inside ++ X))) n 0) (omega arith)
        ∙ get_or-append-add (laid fs) (top ∷ (encs x.inside ++ X)) 0 0;
    few = omega (arith, far, l.small, count_sizes x.inside);
  }

head_at_lem : {o : Open} {x : Frame} {fs : List Frame} → Heads o (x ∷ fs) → head_at o (suc (length fs)) ≡ length (laid fs)
head_at_lem (heads_cons e hs) = e

pub first_at : {A : List ℕ} {o : Open} {x : Frame} {fs : List Frame} {X : List ℕ} → o.depth ≡ length (x ∷ fs) → InFront A o (x ∷ fs) X → First A x (head_at o o.depth)
unfolding head_at
first_at {A} {o} {x} {fs} d l = rw (d, head_at_lem l.heads) (first_cell l)

small_code : (k : Kind) → kind_code k ≤ 2
unfolding kind_code
small_code set_kind = omega arith
small_code sequence = omega arith
small_code bag = omega arith

small_cell : (k : Kind) (us : Values) → count us ≤ 128 → head (coll k us) < 18446744073709551615
small_cell k us h = omega (arith, head_coll k us, small_code k)

pub raise_may : {A : List ℕ} {x : Frame} {at : ℕ} → First A x at → (at < length A) × (get_or A at 0 < 18446744073709551615)
raise_may {x} c = (c.within, rw c.cell (small_cell x.kind x.inside c.few))

tail_sound : {x : Frame} {fs : List Frame} → FramesWithin (x ∷ fs) → FramesWithin fs
tail_sound (within_more p n s) = s

tail_heads : {o : Open} {x : Frame} {fs : List Frame} → Heads o (x ∷ fs) → Heads o fs
tail_heads (heads_cons e hs) = hs

head_parts : {x : Frame} {fs : List Frame} → FramesWithin (x ∷ fs) → every_parts part_within x.inside ≡ true
head_parts (within_more p n s) = p

head_nested : {x : Frame} {fs : List Frame} → FramesWithin (x ∷ fs) → nestings x.inside + suc (length fs) ≤ 3
head_nested (within_more p n s) = n

module _ {A : List ℕ} {o : Open} (x : Frame) (fs : List Frame) (u : Value) (l : InFront A o (x ∷ fs) (enc u)) (h : ℕ) (z : h ≡ length (laid fs)) (c : First A x (length (laid fs))) where
  counted : get_or A h 0 + 1 ≡ head (coll x.kind (append u x.inside))
  counted = omega (arith, ap (λ (n : ℕ). get_or A n 0) z, c.cell, head_coll x.kind x.inside, head_coll x.kind (append u x.inside), append_count u x.inside)

  written : take o.size (set A h (get_or A h 0 + 1)) ≡ laid (grown x u ∷ fs) ++ []
  unfolding laid enc
  written =
      take-set-lt o.size A h (get_or A h 0 + 1) (omega (arith, far l))
      ∙ ap (λ (t : List ℕ). set t h (get_or A h 0 + 1)) (spread l)
      ∙ set_at (laid fs) _ (encs x.inside ++ enc u) (get_or A h 0 + 1) h (sym z)
      ∙ ap (λ (n : ℕ). laid fs ++ (n ∷ (encs x.inside ++ enc u))) counted
      ∙ ap (λ (t : List ℕ). laid fs ++ (head (coll x.kind (append u x.inside)) ∷ t)) (ap (λ (t : List ℕ). encs x.inside ++ t) (sym (append-nil (enc u))) ∙ sym (append_cells u x.inside))
      ∙ sym (append-nil (laid (grown x u ∷ fs)))

grown_sound : (x : Frame) (fs : List Frame) (u : Value) → Tidy u (suc (length fs)) → FramesWithin (x ∷ fs) → FramesWithin (grown x u ∷ fs)
grown_sound x fs u t s =
    within_more {x = grown x u} {fs = fs} (parts_append u x.inside ∙ rw (head_parts s, t.parts))
    (let a = head_nested s in let b = t.nested in let e = nestings_append u x.inside in omega arith) (tail_sound s)

pub raised : {A : List ℕ} {o : Open} {h : ℕ} → o.size ≤ 128 → h ≡ head_at o o.depth → Raises A o (set A h (get_or A h 0 + 1))
raised {A} {o} {h} e he = record {
  is = λ f x fs u t s. record {
    depth = s.depth;
    over = λ q. absurd (omega arith);
    fine = λ q. up x fs u (t e) s.depth (s.fine e);
  };
}
  where
    up : (x : Frame) (fs : List Frame) (u : Value) → Tidy u (suc (length fs)) → o.depth ≡ length (x ∷ fs) → InFront A o (x ∷ fs) (enc u) → InFront (set A h (get_or A h 0 + 1)) o (grown x u ∷ fs) []
    up x fs u t d l =
        let z : h ≡ length (laid fs) = he ∙ ap (head_at o) d ∙ head_at_lem l.heads in
        let c = first_cell l in
        record {
          small = l.small;
          room = rw (length-set A h (get_or A h 0 + 1)) l.room;
          laid = written x fs u l h z c;
          sound = grown_sound x fs u t l.sound;
          heads = heads_cons (head_at_lem l.heads) (tail_heads l.heads);
        }

pub raised_over : {A : List ℕ} {o : Open} → 128 < o.size → Raises A o A
raised_over e = record { is = λ f x fs u t s. record { depth = s.depth; over = s.over; fine = λ q. absurd (omega arith) } }

-- ---- a collection that closes

pub closed_sure : {f : Bytes} {A : List ℕ} {o : Open} {x : Frame} {fs : List Frame} → Sure f A o (x ∷ fs) [] → Sure f A (outward o) fs (enc (coll x.kind x.inside))
unfolding laid
closed_sure {f} {A} {o} {x} {fs} s = record {
  depth = let d = s.depth in omega arith;
  over = s.over;
  fine = λ e. let l = s.fine e in record {
    small = l.small;
    room = l.room;
    laid = l.laid ∙ append-nil (laid fs ++ enc (coll x.kind x.inside));
    sound = tail_sound l.sound;
    heads = heads_same o (outward o) refl refl (tail_heads l.heads);
  };
}

pub closed_tidy : {A : List ℕ} {o : Open} {x : Frame} {fs : List Frame} {X : List ℕ} → InFront A o (x ∷ fs) X → Tidy (coll x.kind x.inside) (length fs)
unfolding every_part nesting
closed_tidy l = record { parts = head_parts l.sound; nested = let n = head_nested l.sound in omega arith }

-- how many parts may be read in a collection says nothing of its cells
pub other_parts : {f : Bytes} {A : List ℕ} {o : Open} {x : Frame} {fs : List Frame} (m : ℕ) → Sure f A o (x ∷ fs) [] → Sure f A o (record { kind = x.kind; inside = x.inside; parts = m } ∷ fs) []
unfolding laid
other_parts {f} {A} {o} {x} {fs} m s = record {
  depth = s.depth;
  over = s.over;
  fine = λ e. let l = s.fine e in record {
    small = l.small;
    room = l.room;
    laid = l.laid;
    sound = within_more {x = record { kind = x.kind; inside = x.inside; parts = m }} {fs = fs} (head_parts l.sound) (head_nested l.sound) (tail_sound l.sound);
    heads = heads_cons (head_at_lem l.heads) (tail_heads l.heads);
  };
}
