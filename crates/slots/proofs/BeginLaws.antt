-- Where the reading stands after a value or a collection has begun: the answers of `begin`. Assumes nothing.
use mathlib.Core.Path.{◌≡◌, refl, sym, ap, ◌∙◌}
use mathlib.Core.Option.{none, some}
use mathlib.Core.List.{List, [], ◌∷◌}
use Prim.Native.Nat.{ℕ, suc, ◌+◌, ◌<◌, ◌≤◌}
use native.Mathlib.Omega.{arith}
use lib.ListN.{length, drop}
use Rattle.std.specs.Prelude.{Some, None}
use Rattle.laws.specs.Lists.{each_nil, each-cons}
use Rattle.laws.proofs.Options.{on_some_some}
use Rattle.ocl.specs.Types.{Kind}
use Rattle.ocl.specs.Values.{Value, coll, nil, size, every_part}
use Rattle.sheet.specs.Text.{Bytes, whole}
use Rattle.sheet.specs.Spelling.{value_parser, members_parser, read_value}
use Rattle.sheet.specs.Limits.{part_within, nesting}
use Rattle.values.specs.Cells.{head, enc}
use Rattle.slots.specs.declared.parts.Part.TheVariants as part
use Rattle.slots.specs.declared.reader.Open.{Open}
use Rattle.slots.specs.Parts.{Alone, alone_bool, alone_num, alone_obj, told_simple, told_wide, PartIs, part_bad, part_alone, part_opens}
use Rattle.slots.specs.Machine.{Frame, resume_read, enter, laid, beyond, Deep, FramesWithin, within_none, within_more, heads_nil, Wanted, ValueEnd, Live, live_wanted, live_opened, AddsCell, OpensCell}
use Rattle.slots.proofs.MachineLaws.{start_alone, start_none, start_opens, resumed}
use Rattle.slots.proofs.LimitLaws.{never_part}
use Rattle.slots.proofs.TurnLaws.{later, some_parts}

-- ---- a value begins

sound_length : {fs : List Frame} → FramesWithin fs → length fs ≤ 3
sound_length within_none = omega arith
sound_length (within_more p n s) = omega arith

alone_cells : {v : Value} → Alone v → enc v ≡ head v ∷ []
unfolding enc
alone_cells alone_bool = refl
alone_cells alone_num = refl
alone_cells alone_obj = refl

alone_size : {v : Value} → Alone v → size v ≡ 1
unfolding size
alone_size alone_bool = refl
alone_size alone_num = refl
alone_size alone_obj = refl

alone_nesting : {v : Value} → Alone v → nesting v ≡ 0
unfolding nesting
alone_nesting alone_bool = refl
alone_nesting alone_num = refl
alone_nesting alone_obj = refl

alone_part : {v : Value} → Alone v → every_part part_within v ≡ part_within v
unfolding every_part
alone_part alone_bool = refl
alone_part alone_num = refl
alone_part alone_obj = refl

deep_by : {f : Bytes} {fs : List Frame} (u : Value) (s : Bytes) → read_value f ≡ resume_read fs u s → 1 ≤ size u → Deep f fs 0
deep_by {f} {fs} u s e h = record {
  wide = λ v g. let b = (resumed fs u s (sym e ∙ g)).wide in omega arith;
  deep = λ v g. let b = (resumed fs u s (sym e ∙ g)).deep in omega arith;
}

deep_open : {f : Bytes} {fs : List Frame} (n : ℕ) (k : Kind) (s : Bytes) → read_value f ≡ enter n k fs s → Deep f fs 1
unfolding size nesting
deep_open {f} {fs} n k s e = record {
  wide = λ v g. let m = on_some_some (members_parser n s) _ (sym e ∙ g) in let b = (resumed fs (coll k m.0.0) m.0.1 m.2).wide in omega arith;
  deep = λ v g. let m = on_some_some (members_parser n s) _ (sym e ∙ g) in let b = (resumed fs (coll k m.0.0) m.0.1 m.2).deep in omega arith;
}

module _ {f : Bytes} {A : List ℕ} {at : ℕ} {o : Open} (w : Wanted f A at o) (h : at < length f) where
  wanted_parts : (m : ℕ) × (w.parts ≡ suc m)
  wanted_parts = some_parts w.parts (let l = w.left in omega arith)

  pub begin_bad : PartIs f at None → read_value f ≡ none
  begin_bad (part_bad q n) = let m = wanted_parts in w.same ∙ start_none w.parts w.frames (drop at f) (ap (λ (k : ℕ). value_parser k (drop at f)) m.1 ∙ n m.0)
  begin_bad (part_opens k q l n) = absurd (let z : ◌≡◌ {A = ℕ} 0 1 = cc in omega arith)
  begin_bad (part_alone v _ x'' _) = elim x'' [ ]

  read_to : {v : Value} {r : Bytes} → ((n : ℕ) → value_parser (suc n) (drop at f) ≡ some (v, r)) → read_value f ≡ resume_read w.frames v r
  read_to n = let m = wanted_parts in w.same ∙ start_alone w.parts w.frames (drop at f) (ap (λ (k : ℕ). value_parser k (drop at f)) m.1 ∙ n m.0)

  pub begin_simple : {c e : ℕ} {B : List ℕ} {s : Open} → PartIs f at (Some (part.Simple c e)) → AddsCell c A o B s → ValueEnd f B e s
  begin_simple (part_bad q n) a = absurd (let z : ◌≡◌ {A = ℕ} 0 1 = cc in omega arith)
  begin_simple (part_opens k q l n) a = absurd (let z : ◌≡◌ {A = ℕ} 0 1 = cc in omega arith)
  begin_simple {c} {e} {B} {s} (part_alone v al (told_simple af ce t) n) a =
      let q = read_to n in
      let one = alone_size al in
      let sure = a.is f w.frames 0 (deep_by v (drop e f) q (omega arith)) w.sure in
      record {
        frames = w.frames;
        value = v;
        sure = rw (alone_cells al, ← ce) sure;
        tidy = λ y. record { parts = alone_part al ∙ t; nested = let z = alone_nesting al in let l = sound_length (sure.fine y).sound in omega arith };
        enough = later (let u = af.up in omega arith) af.within w.enough;
        same = q;
      }

  pub begin_wide : {e : ℕ} {s : Open} → PartIs f at (Some (part.Wide e)) → s ≡ beyond o → ValueEnd f A e s
  begin_wide (part_bad q n) z = absurd (let z : ◌≡◌ {A = ℕ} 0 1 = cc in omega arith)
  begin_wide (part_opens k q l n) z = absurd (let z : ◌≡◌ {A = ℕ} 0 1 = cc in omega arith)
  begin_wide {e} {s} (part_alone v al (told_wide af t) n) z =
      let q = read_to n in
      rw z (record {
        frames = w.frames;
        value = v;
        sure = record {
          depth = w.sure.depth;
          over = λ y. record { is = λ u g. never_part (length A) u ((resumed w.frames v (drop e f) (sym q ∙ g)).parts (alone_part al ∙ t)) };
          fine = λ y. absurd (omega arith);
        };
        tidy = λ y. absurd (omega arith);
        enough = later (let u = af.up in omega arith) af.within w.enough;
        same = q;
      })

  pub begin_opens : {c e : ℕ} {B : List ℕ} {s : Open} → PartIs f at (Some (part.Opens c e)) → OpensCell c A o B s → Live f B e 1 s
  begin_opens {c} {e} {B} {s} (part_opens k q l n) a =
      let m = wanted_parts in
      let x = some_parts m.0 (let y = w.left in let z = m.1 in omega arith) in
      let same : read_value f ≡ enter m.0 k w.frames (drop (at + 2) f) =
      w.same ∙ start_opens w.parts w.frames (drop at f) m.0 k (drop (at + 2) f) (ap (λ (i : ℕ). value_parser i (drop at f)) m.1 ∙ n m.0) in
      let end : at + 2 ≡ e = cc in
      let cell : c ≡ head (coll k nil) = cc in
      let t = later {to = at + 2} (omega arith) l w.enough in
      rw (← end) (live_opened refl (record {
        kind = k;
        parts = x.0;
        frames = w.frames;
        sure = a.is f w.frames k x.0 (deep_open m.0 k (drop (at + 2) f) same) cell w.sure;
        enough = record {
          within = l;
          deep = let d = w.enough.deep in omega arith;
          parts = each-cons {n = record { kind = k; inside = nil; parts = x.0 }} (let y = w.left in let z = m.1 in let u = x.1 in omega arith) t.parts;
        };
        same = same ∙ ap (λ (i : ℕ). enter i k w.frames (drop (at + 2) f)) x.1;
      }))
  begin_opens (part_bad q n) a = absurd (let z : ◌≡◌ {A = ℕ} 0 1 = cc in omega arith)
  begin_opens {c = c} {e = e} {B = B} {s = s} (part_alone v _ x3 _) a = elim x3 [ ]

-- ---- the beginning

pub begun : (f : Bytes) (A : List ℕ) {o : Open} → o ≡ record { depth = 0; size = 0; second = 0; third = 0 } → Live f A 0 0 o
unfolding read_value whole resume_read laid
begun f A z = rw z (live_wanted refl (record {
  frames = [];
  parts = length f;
  sure = record { depth = refl; over = λ e. absurd (omega arith); fine = λ e. record { small = omega arith; room = omega arith; laid = refl; sound = within_none; heads = heads_nil } };
  enough = record { within = omega arith; deep = omega arith; parts = each_nil };
  left = omega arith;
  same = refl;
}))

-- ---- how far a part reaches

pub simple_up : {f : Bytes} {at c e : ℕ} → PartIs f at (Some (part.Simple c e)) → at + 1 ≤ e
simple_up (part_bad q n) = absurd (let z : ◌≡◌ {A = ℕ} 0 1 = cc in omega arith)
simple_up (part_opens k q l n) = absurd (let z : ◌≡◌ {A = ℕ} 0 1 = cc in omega arith)
simple_up (part_alone v al (told_simple af ce t) n) = let u = af.up in omega arith

pub wide_up : {f : Bytes} {at e : ℕ} → PartIs f at (Some (part.Wide e)) → at + 1 ≤ e
wide_up (part_bad q n) = absurd (let z : ◌≡◌ {A = ℕ} 0 1 = cc in omega arith)
wide_up (part_opens k q l n) = absurd (let z : ◌≡◌ {A = ℕ} 0 1 = cc in omega arith)
wide_up (part_alone v al (told_wide af t) n) = let u = af.up in omega arith

pub opens_up : {f : Bytes} {at c e : ℕ} → PartIs f at (Some (part.Opens c e)) → at + 1 ≤ e
opens_up {at} {e} (part_opens k q l n) = let z : at + 2 ≡ e = cc in omega arith
opens_up (part_bad q n) = absurd (let z : ◌≡◌ {A = ℕ} 0 1 = cc in omega arith)
opens_up {f = f} {at = at} {c = c} {e = e} (part_alone v _ x'' _) = elim x'' [ ]

-- at most as many collections are open as bytes are read
pub wanted_depth : {f : Bytes} {A : List ℕ} {at : ℕ} {o : Open} → Wanted f A at o → o.depth ≤ at
wanted_depth w = let a = w.enough.deep in let b = w.sure.depth in omega arith
