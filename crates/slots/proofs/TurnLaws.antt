-- Where the reading stands after each byte: the answers of `last`, `ended`, `next_part` and the loop. Assumes nothing.
use mathlib.Core.Path.{◌≡◌, refl, sym, ap, ◌∙◌}
use mathlib.Core.Option.{none, some}
use mathlib.Core.List.{List, [], ◌∷◌}
use Prim.Native.Nat.{ℕ, zero, suc, ◌+◌, ◌<◌, ◌≤◌}
use native.Mathlib.Omega.{arith}
use lib.ListN.{length, get_or, take, drop, drop_of_length-le}
use lib.Seq.{length-take-le}
use Rattle.laws.specs.Lists.{Each, each-cons}
use Rattle.laws.proofs.Lists.{each_imp}
use Rattle.laws.proofs.Parts.{at_next}
use Rattle.ocl.specs.Values.{Value, coll, nil, size}
use Rattle.sheet.specs.Text.{Bytes, at_end}
use Rattle.sheet.specs.Spelling.{read_value}
use Rattle.values.specs.Cells.{enc}
use Rattle.values.proofs.Encoding.{size_law}
use Rattle.slots.specs.declared.reader.Open.{Open}
use Rattle.slots.specs.declared.reader.Turn.{Turn}
use Rattle.slots.specs.declared.reader.Turn.TheVariants as turn
use Rattle.slots.specs.Machine.{Frame, grown, resume_read, among, start_read, enter, laid, head_at, outward, Tidy, InFront, Sure, Enough, Wanted, Joined, ValueEnd, Live, live_wanted, live_opened, live_joined, ReadIs, read_bad, read_over, read_is, TurnIs, turn_on, turn_stop, Raises, Last}
use Rattle.slots.proofs.MachineLaws.{start_end, enter_end, among_end, among_comma, close, other, enter_close, enter_value}
use Rattle.slots.proofs.LimitLaws.{may}
use Rattle.slots.proofs.PartLaws.{from_byte}
use Rattle.slots.proofs.CountLaws.{first_at, raise_may, closed_sure, closed_tidy, other_parts}
use Rattle.std.specs.Prelude.{Result, Ok, Err}
use Rattle.memory.specs.declared.refusals.Misread.{Misread}
use Rattle.memory.specs.declared.refusals.Misread.TheVariants.{Malformed, OverLimit}

-- ---- the field's end

alone : (v : Value) {o : Open} (fs : List Frame) → length fs ≡ 0 → {cells : List ℕ} → InFront cells o fs (enc v) → take o.size cells ≡ enc v
unfolding laid
alone v [] z l = l.laid
alone v (x ∷ fs) z l = absurd (omega arith)

module _ {f : Bytes} {at : ℕ} {o : Open} where
  pub last_bad : at < length f → Last f at o (Err Malformed)
  unfolding resume_read at_end
  last_bad h = record { is = λ cells e d. read_bad (e.same ∙ rw (at_next 0 f at h) (go _ _ _ e.frames (sym e.sure.depth ∙ d))) }
    where
      go : (v : Value) (b : ℕ) (s : Bytes) (fs : List Frame) → length fs ≡ 0 → resume_read fs v (b ∷ s) ≡ none
      go v b s [] z = refl
      go v b s (x ∷ fs) z = absurd (omega arith)

  at_last : {cells : List ℕ} (e : ValueEnd f cells at o) → o.depth ≡ 0 → length f ≤ at → read_value f ≡ some e.value
  unfolding resume_read at_end
  at_last e d h = e.same ∙ rw (drop_of_length-le f h) (go _ e.frames (sym e.sure.depth ∙ d))
    where
      go : (v : Value) (fs : List Frame) → length fs ≡ 0 → resume_read fs v [] ≡ some v
      go v [] z = refl
      go v (x ∷ fs) z = absurd (omega arith)

  pub last_over : length f ≤ at → 128 < o.size → Last f at o (Err OverLimit)
  last_over h t = record { is = λ cells e d. read_over e.value (at_last e d h) ((e.sure.over t).is e.value (at_last e d h)) }

  pub last_is : length f ≤ at → o.size ≤ 128 → Last f at o (Ok o.size)
  last_is h t = record { is = λ cells e d. made cells e d (e.sure.fine t) (e.tidy t) }
    where
      made : (cells : List ℕ) (e : ValueEnd f cells at o) → o.depth ≡ 0 → InFront cells o e.frames (enc e.value) → Tidy e.value (length e.frames) → ReadIs f cells (Ok o.size)
      made cells e d l y =
          let lies = alone e.value e.frames (sym e.sure.depth ∙ d) l in
          let n : o.size ≡ size e.value = sym (length-take-le o.size cells l.room) ∙ ap length lies ∙ size_law e.value in
          let a = l.small in
          let b = l.room in
          let w = y.nested in
          read_is e.value (at_last e d h) (may (length cells) e.value y.parts (omega arith) (omega arith) (omega arith)) n lies

-- ---- a value ends

pub later : {f : Bytes} {at to : ℕ} {fs : List Frame} → at ≤ to → to ≤ length f → Enough f at fs → Enough f to fs
later p q e = record { within = q; deep = let d = e.deep in omega arith; parts = each_imp (λ x h. omega arith) e.parts }

tail_enough : {f : Bytes} {at : ℕ} {x : Frame} {fs : List Frame} → Enough f at (x ∷ fs) → Enough f at fs
tail_enough {f} {at} {x} {fs} e = record { within = e.within; deep = let d = e.deep in omega arith; parts = rest e.parts }
  where
    rest : Each (λ (y : Frame). length f ≤ at + y.parts) (x ∷ fs) → Each (λ (y : Frame). length f ≤ at + y.parts) fs
    rest (each-cons p ps) = ps

head_enough : {f : Bytes} {at : ℕ} {x : Frame} {fs : List Frame} → Enough f at (x ∷ fs) → length f ≤ at + x.parts
head_enough {f} {at} {x} {fs} e = first e.parts
  where
    first : Each (λ (y : Frame). length f ≤ at + y.parts) (x ∷ fs) → length f ≤ at + x.parts
    first (each-cons p ps) = p

module _ {f : Bytes} {A : List ℕ} {at : ℕ} {o : Open} (e : ValueEnd f A at o) (inside : o.depth ≡ 0 → ⊥) where
  pub may_raise : o.size ≤ 128 → (head_at o o.depth < length A) × (get_or A (head_at o o.depth) 0 < 18446744073709551615)
  may_raise t = go e.frames e.sure.depth (e.sure.fine t)
    where
      go : (fs : List Frame) → o.depth ≡ length fs → InFront A o fs (enc e.value) → (head_at o o.depth < length A) × (get_or A (head_at o o.depth) 0 < 18446744073709551615)
      go [] d l = absurd (inside d)
      go (x ∷ fs) d l = raise_may (first_at d l)

  pub ended_on : {B : List ℕ} → Raises A o B → TurnIs f B at (turn.On at 2 o)
  unfolding resume_read
  ended_on {B} r = turn_on {at = at} (omega arith) (live_joined refl (go e.frames e.sure.depth e.sure e.tidy e.enough e.same))
    where
      go : (fs : List Frame) → o.depth ≡ length fs → Sure f A o fs (enc e.value) → (o.size ≤ 128 → Tidy e.value (length fs)) → Enough f at fs → read_value f ≡ resume_read fs e.value (drop at f) → Joined f B at o
      go [] d s t n q = absurd (inside d)
      go (x ∷ fs) d s t n q = record {
        frame = grown x e.value;
        frames = fs;
        sure = r.is f x fs e.value t s;
        enough = record { within = n.within; deep = n.deep; parts = each-cons (head_enough n) (tail_enough n).parts };
        same = q;
      }

-- ---- what comes at `at`, by the phase

pub some_parts : (n : ℕ) → 0 < n → (m : ℕ) × (n ≡ suc m)
some_parts zero h = absurd (omega arith)
some_parts (suc m) h = (m, refl)

module _ {f : Bytes} {A : List ℕ} {at : ℕ} {o : Open} where
  pub live_end : {phase : ℕ} → Live f A at phase o → length f ≤ at → read_value f ≡ none
  live_end (live_wanted p w) h = w.same ∙ rw (drop_of_length-le f h) (start_end w.parts w.frames)
  live_end (live_opened p w) h = w.same ∙ rw (drop_of_length-le f h) (enter_end w.parts w.kind w.frames)
  live_end (live_joined p w) h = w.same ∙ rw (drop_of_length-le f h) (among_end w.frame w.frames)

  pub is_wanted : {phase : ℕ} → Live f A at phase o → phase ≡ 0 → Wanted f A at o
  is_wanted (live_wanted p w) e = w
  is_wanted (live_opened p w) e = absurd (omega arith)
  is_wanted (live_joined p w) e = absurd (omega arith)

  pub is_open : {phase : ℕ} → Live f A at phase o → (phase ≡ 0 → ⊥) → 0 < o.depth
  is_open (live_wanted p w) e = absurd (e p)
  is_open (live_opened p w) e = let d = w.sure.depth in omega arith
  is_open (live_joined p w) e = let d = w.sure.depth in omega arith

  module _ (h : at < length f) where
    joined_parts : (w : Joined f A at o) → (m : ℕ) × (w.frame.parts ≡ suc m)
    joined_parts w = some_parts w.frame.parts (let p = head_enough w.enough in omega arith)

    pub closes : {phase : ℕ} {r : Open} → Live f A at phase o → (phase ≡ 0 → ⊥) → get_or f at 0 ≡ 41 → r ≡ outward o → ValueEnd f A (at + 1) r
    closes (live_wanted p w) n e z = absurd (n p)
    closes (live_opened p w) n e z = rw z (record {
      frames = w.frames;
      value = coll w.kind nil;
      sure = closed_sure w.sure;
      tidy = λ t. closed_tidy (w.sure.fine t);
      enough = later (omega arith) (omega arith) (tail_enough w.enough);
      same = w.same ∙ ap (enter (suc w.parts) w.kind w.frames) (from_byte f at h e) ∙ enter_close w.parts w.kind w.frames (drop (at + 1) f);
    })
    closes (live_joined p w) n e z =
        let q = joined_parts w in
        rw z (record {
          frames = w.frames;
          value = coll w.frame.kind w.frame.inside;
          sure = closed_sure w.sure;
          tidy = λ t. closed_tidy (w.sure.fine t);
          enough = later (omega arith) (omega arith) (tail_enough w.enough);
          same = w.same ∙ ap (among w.frame w.frames) (from_byte f at h e) ∙ rw q.1 (close w.frame.kind w.frame.inside w.frames q.0 (drop (at + 1) f));
        })

    pub begins : {phase : ℕ} → Live f A at phase o → phase ≡ 1 → (get_or f at 0 ≡ 41 → ⊥) → Wanted f A at o
    begins (live_wanted p w) e n = w
    begins (live_opened p w) e n = record {
      frames = record { kind = w.kind; inside = nil; parts = w.parts } ∷ w.frames;
      parts = w.parts;
      sure = w.sure;
      enough = w.enough;
      left = head_enough w.enough;
      same = w.same ∙ ap (enter (suc w.parts) w.kind w.frames) (from_byte f at h refl) ∙ enter_value w.parts w.kind w.frames (get_or f at 0) (drop (at + 1) f) n ∙ ap (start_read w.parts (record { kind = w.kind; inside = nil; parts = w.parts } ∷ w.frames)) (sym (from_byte f at h refl));
    }
    begins (live_joined p w) e n = absurd (omega arith)

    pub commas : {phase : ℕ} → Live f A at phase o → (phase ≡ 0 → ⊥) → (phase ≡ 1 → ⊥) → get_or f at 0 ≡ 44 → Live f A (at + 1) 0 o
    commas (live_wanted p w) n m e = absurd (n p)
    commas (live_opened p w) n m e = absurd (m p)
    commas (live_joined p w) n m e =
        let q = joined_parts w in
        let l = head_enough w.enough in
        let z = q.1 in
        let t = later {to = at + 1} (omega arith) (omega arith) (tail_enough w.enough) in
        live_wanted refl (record {
          frames = record { kind = w.frame.kind; inside = w.frame.inside; parts = q.0 } ∷ w.frames;
          parts = q.0;
          sure = other_parts q.0 w.sure;
          enough = record { within = omega arith; deep = let d = w.enough.deep in omega arith; parts = each-cons {n = record { kind = w.frame.kind; inside = w.frame.inside; parts = q.0 }} (omega arith) t.parts };
          left = omega arith;
          same = w.same ∙ ap (among w.frame w.frames) (from_byte f at h e) ∙ among_comma w.frame w.frames q.0 (drop (at + 1) f) q.1;
        })

    pub others : {phase : ℕ} → Live f A at phase o → (phase ≡ 0 → ⊥) → (phase ≡ 1 → ⊥) → (get_or f at 0 ≡ 41 → ⊥) → (get_or f at 0 ≡ 44 → ⊥) → read_value f ≡ none
    others (live_wanted p w) n m c d = absurd (n p)
    others (live_opened p w) n m c d = absurd (m p)
    others (live_joined p w) n m c d =
        let q = joined_parts w in
        w.same ∙ ap (among w.frame w.frames) (from_byte f at h refl) ∙ rw q.1 (other w.frame.kind w.frame.inside w.frames q.0 (get_or f at 0) (drop (at + 1) f) c d)

-- ---- turns

pub turn_later : {f : Bytes} {B : List ℕ} {from to : ℕ} {r : Turn} → from ≤ to → TurnIs f B to r → TurnIs f B from r
turn_later h (turn_on {at} l x) = turn_on {at = at} (omega arith) x
turn_later h (turn_stop x) = turn_stop x

pub turn_live : {f : Bytes} {B : List ℕ} {from at phase : ℕ} {o : Open} → TurnIs f B from (turn.On at phase o) → Live f B at phase o
turn_live (turn_on l x) = x

pub turn_up : {f : Bytes} {B : List ℕ} {from at phase : ℕ} {o : Open} → TurnIs f B from (turn.On at phase o) → from ≤ at
turn_up (turn_on l x) = l

pub turn_read : {f : Bytes} {B : List ℕ} {from : ℕ} {r : Result ℕ Misread} → TurnIs f B from (turn.Stop r) → ReadIs f B r
turn_read (turn_stop x) = x

pub live_within : {f : Bytes} {A : List ℕ} {at phase : ℕ} {o : Open} → Live f A at phase o → at ≤ length f
live_within (live_wanted p w) = w.enough.within
live_within (live_opened p w) = w.enough.within
live_within (live_joined p w) = w.enough.within
