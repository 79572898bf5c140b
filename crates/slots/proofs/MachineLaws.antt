-- The reading from left to right: what each part of a field leads to, and what the finished value holds. Assumes nothing.
use mathlib.Core.Path.{◌≡◌, refl, sym, ap, ◌∙◌}
use mathlib.Core.Bool.{Bool, true, false, ◌&&◌, and_assoc, and_comm}
use mathlib.Core.Option.{Option, none, some, none-ne-some, some-injective}
use mathlib.Core.List.{List, [], ◌∷◌}
use Prim.Native.Nat.{ℕ, zero, suc, ◌+◌, ◌≤◌, max}
use native.Mathlib.Omega.{arith}
use lib.ListN.{length, length-append}
use borrow.Author.Tests.{ne_eqb}
use Rattle.laws.specs.Choice.{or_else, on_some, map_some}
use Rattle.laws.proofs.Options.{on_some_some}
use Rattle.ocl.specs.Types.{Kind}
use Rattle.ocl.specs.Values.{Value, coll, Values, nil, cons, size, sizes, append, every_part, every_parts}
use Rattle.sheet.specs.Text.{Bytes, bytes, after, literal, behind, ◌or◌, ◌then◌, mapped, nothing, at_end, number_parser, integer_parser, real_parser, digits, plain}
use Rattle.sheet.specs.Spelling.{value_parser, members_parser, more_parser}
use Rattle.sheet.specs.Limits.{part_within, nesting, nestings}
use Rattle.values.specs.Cells.{enc}
use Rattle.values.proofs.Encoding.{size_law}
use Rattle.values.proofs.Growing.{append_grows}
use Rattle.slots.specs.Machine.{Frame, glue, resume_read, among, start_read, enter, laid}

-- ---- members put together

glue_append : (v : Value) (us ys : Values) → glue (append v us) ys ≡ glue us (cons v ys)
unfolding glue append
glue_append v nil ys = refl
glue_append v (cons u us) ys = ap (cons u) (glue_append v us ys)

glue_nil : (us : Values) → glue us nil ≡ us
unfolding glue
glue_nil nil = refl
glue_nil (cons u us) = ap (cons u) (glue_nil us)

-- ---- one part more

abbrev frame : Kind → Values → ℕ → Frame
frame k us m = record { kind = k; inside = us; parts = m }

value_nil : (n : ℕ) → value_parser n [] ≡ none
unfolding value_parser bytes after literal behind ◌or◌ mapped nothing or_else on_some map_some integer_parser real_parser number_parser digits plain
value_nil zero = refl
value_nil (suc n) = refl

pub start_end : (n : ℕ) (fs : List Frame) → start_read n fs [] ≡ none
unfolding on_some
start_end n fs = rw (value_nil n)

pub enter_end : (n : ℕ) (k : Kind) (fs : List Frame) → enter (suc n) k fs [] ≡ none
unfolding members_parser bytes after literal ◌or◌ ◌then◌ or_else on_some map_some
enter_end n k fs = rw (value_nil n)

pub among_end : (x : Frame) (fs : List Frame) → among x fs [] ≡ none
unfolding more_parser bytes after literal behind ◌or◌ nothing or_else on_some map_some
among_end x fs = go x.parts
  where
    go : (m : ℕ) → among (frame x.kind x.inside m) fs [] ≡ none
    go zero = refl
    go (suc m) = refl

pub start_alone : (n : ℕ) (fs : List Frame) (s : Bytes) {v : Value} {r : Bytes} → value_parser n s ≡ some (v, r) → start_read n fs s ≡ resume_read fs v r
unfolding on_some
start_alone n fs s e = rw e

pub start_none : (n : ℕ) (fs : List Frame) (s : Bytes) → value_parser n s ≡ none → start_read n fs s ≡ none
unfolding on_some
start_none n fs s e = rw e

pub start_opens : (n : ℕ) (fs : List Frame) (s : Bytes) (m : ℕ) (k : Kind) (r : Bytes) → value_parser n s ≡ mapped (coll k) (members_parser m) r → start_read n fs s ≡ enter m k fs r
unfolding on_some mapped map_some
start_opens n fs s m k r e = rw e (go (members_parser m r))
  where
    go : (o : Option (Values × Bytes)) → on_some {B = Value} (map_some {B = Value × Bytes} (λ x. (coll k x.0, x.1)) o) (λ x. resume_read fs x.0 x.1) ≡ on_some o (λ y. resume_read fs (coll k y.0) y.1)
    go none = refl
    go (some y) = refl

module _ (k : Kind) (us : Values) (fs : List Frame) (m : ℕ) where
  -- the members after one that is read
  joins : (v : Value) (q : Option (Values × Bytes)) → on_some {B = Value} (map_some {B = Values × Bytes} (λ y. (cons v y.0, y.1)) q) (λ y. resume_read fs (coll k (glue us y.0)) y.1) ≡ on_some q (λ y. resume_read fs (coll k (glue (append v us) y.0)) y.1)
  unfolding on_some map_some
  joins v none = refl
  joins v (some y) = ap (λ (l : Values). resume_read fs (coll k l) y.1) (sym (glue_append v us y.0))

  member : (o : Option (Value × Bytes)) → on_some {B = Value} (on_some {B = Values × Bytes} o (λ x. map_some (λ y. (cons x.0 y.0, y.1)) (more_parser m x.1))) (λ y. resume_read fs (coll k (glue us y.0)) y.1) ≡ on_some o (λ x. resume_read (frame k us m ∷ fs) x.0 x.1)
  unfolding on_some resume_read
  member none = refl
  member (some x) = joins x.0 (more_parser m x.1)

  comma : (s : Bytes) → among (frame k us (suc m)) fs (44 ∷ s) ≡ start_read m (frame k us m ∷ fs) s
  unfolding more_parser bytes after literal behind ◌or◌ ◌then◌ mapped or_else on_some map_some
  comma s = member (value_parser m s)

  pub close : (s : Bytes) → among (frame k us (suc m)) fs (41 ∷ s) ≡ resume_read fs (coll k us) s
  unfolding more_parser bytes after literal ◌or◌ or_else on_some map_some
  close s = ap (λ (l : Values). resume_read fs (coll k l) s) (glue_nil us)

  pub other : (b : ℕ) (s : Bytes) → (b ≡ 41 → ⊥) → (b ≡ 44 → ⊥) → among (frame k us (suc m)) fs (b ∷ s) ≡ none
  unfolding more_parser bytes after literal behind ◌or◌ or_else on_some map_some
  other b s p q = rw (ne_eqb 41 b (λ e. p (sym e)), ne_eqb 44 b (λ e. q (sym e)))

pub among_comma : (x : Frame) (fs : List Frame) (m : ℕ) (s : Bytes) → x.parts ≡ suc m → among x fs (44 ∷ s) ≡ start_read m (frame x.kind x.inside m ∷ fs) s
among_comma x fs m s e = rw e (comma x.kind x.inside fs m s)

pub enter_close : (n : ℕ) (k : Kind) (fs : List Frame) (s : Bytes) → enter (suc n) k fs (41 ∷ s) ≡ resume_read fs (coll k nil) s
unfolding members_parser bytes after literal ◌or◌ or_else on_some map_some
enter_close n k fs s = refl

pub enter_value : (n : ℕ) (k : Kind) (fs : List Frame) (b : ℕ) (s : Bytes) → (b ≡ 41 → ⊥) → enter (suc n) k fs (b ∷ s) ≡ start_read n (frame k nil n ∷ fs) (b ∷ s)
unfolding members_parser bytes after literal ◌or◌ ◌then◌ mapped or_else on_some map_some glue
enter_value n k fs b s p = rw (ne_eqb 41 b (λ e. p (sym e))) (member k nil fs n (value_parser n (b ∷ s)))

-- ---- the finished value holds each part that was read

sizes_glue : (us ys : Values) → sizes (glue us ys) ≡ sizes us + sizes ys
unfolding glue sizes
sizes_glue nil ys = omega arith
sizes_glue (cons u us) ys = let e = sizes_glue us ys in omega arith

pub nestings_append : (v : Value) (us : Values) → nestings (append v us) ≡ max (nestings us) (nesting v)
unfolding append nestings
nestings_append v nil = omega arith
nestings_append v (cons u us) = let e = nestings_append v us in omega arith

nestings_glue : (us ys : Values) → nestings (glue us ys) ≡ max (nestings us) (nestings ys)
unfolding glue nestings
nestings_glue nil ys = omega arith
nestings_glue (cons u us) ys = let e = nestings_glue us ys in omega arith

pub parts_append : (v : Value) (us : Values) → every_parts part_within (append v us) ≡ every_parts part_within us && every_part part_within v
unfolding append every_parts
parts_append v nil = and_comm (every_part part_within v) true
parts_append v (cons u us) = ap (λ (b : Bool). every_part part_within u && b) (parts_append v us) ∙ sym (and_assoc (every_part part_within u) (every_parts part_within us) (every_part part_within v))

parts_glue : (us ys : Values) → every_parts part_within (glue us ys) ≡ every_parts part_within us && every_parts part_within ys
unfolding glue every_parts
parts_glue nil ys = refl
parts_glue (cons u us) ys = ap (λ (b : Bool). every_part part_within u && b) (parts_glue us ys) ∙ sym (and_assoc (every_part part_within u) (every_parts part_within us) (every_parts part_within ys))

-- u among the members us, then ys
pub record Comprises (u : Value) (us ys : Values) : Type 0 where
  pub wide : sizes us + size u ≤ sizes (glue (append u us) ys)
  pub deep : nesting u ≤ nestings (glue (append u us) ys)
  pub parts : every_part part_within u ≡ false → every_parts part_within (glue (append u us) ys) ≡ false

comprises : (u : Value) (us ys : Values) → Comprises u us ys
comprises u us ys = record {
  wide = omega (arith, sizes_glue (append u us) ys, append_grows u us);
  deep = omega (arith, nestings_glue (append u us) ys, nestings_append u us);
  parts = λ e. parts_glue (append u us) ys ∙ rw (parts_append u us, e, and_comm (every_parts part_within us) false);
}

pub record Big (fs : List Frame) (u v : Value) : Type 0 where
  pub wide : length (laid fs) + size u ≤ size v
  pub deep : length fs + nesting u ≤ nesting v
  pub parts : every_part part_within u ≡ false → every_part part_within v ≡ false

pub resumed : (fs : List Frame) (u : Value) (s : Bytes) {v : Value} → resume_read fs u s ≡ some v → Big fs u v
unfolding resume_read laid size nesting every_part at_end
resumed [] u s {v} e = go s e
  where
    go : (s : Bytes) → at_end u s ≡ some v → Big [] u v
    go [] q = let z : u ≡ v = some-injective _ _ q in record { wide = rw z (omega arith); deep = rw z (omega arith); parts = λ p. rw z at p }
    go (b ∷ s) q = absurd (none-ne-some _ q)
resumed (x ∷ fs) u s {v} e =
    let m = on_some_some (more_parser x.parts s) _ e in
    let inner = resumed fs (coll x.kind (glue (append u x.inside) m.0.0)) m.0.1 m.2 in
    let h = comprises u x.inside m.0.0 in
    let l = length-append (laid fs) (enc (coll x.kind x.inside)) in
    let z = size_law (coll x.kind x.inside) in
    record {
      wide = let a = inner.wide in let b = h.wide in omega arith;
      deep = let a = inner.deep in let b = h.deep in omega arith;
      parts = λ p. inner.parts (h.parts p);
    }
