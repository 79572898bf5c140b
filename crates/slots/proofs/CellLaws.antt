-- The cells that are written while a field is read: one more, and a collection that opens. Assumes nothing.
use mathlib.Core.Path.{◌≡◌, refl, sym, ap, ◌∙◌}
use mathlib.Core.Bool.{Bool, true, false}
use mathlib.Core.List.{List, [], ◌∷◌, ◌++◌, append-nil}
use Prim.Native.Nat.{ℕ, zero, suc, ◌+◌, ◌<◌, ◌≤◌}
use native.Mathlib.Omega.{arith}
use native.Mathlib.Decide.{dec_lt}
use native.Mathlib.Numerals.{add-one}
use lib.ListN.{length, take, set, length-append, length-set}
use lib.Seq.{length-take-le, take-suc-set}
use lib.Dec.{eqb, leb}
use borrow.Author.Tests.{eq-eqb, ne_eqb, leb-true, leb-false, eqb-true, eqb-false}
use Rattle.std.specs.Prelude.{if◌then◌else◌}
use Rattle.ocl.specs.Types.{Kind}
use Rattle.ocl.specs.Values.{Value, coll, nil, size, every_parts}
use Rattle.sheet.specs.Text.{Bytes}
use Rattle.sheet.specs.Limits.{nestings}
use Rattle.values.specs.Cells.{head, enc, encs}
use Rattle.slots.specs.declared.reader.Open.{Open}
use Rattle.slots.specs.Machine.{may_be, Frame, laid, head_at, beyond, Heads, heads_nil, heads_cons, Never, Deep, within_more, InFront, Sure, AddsCell, OpensCell}
use Rattle.slots.proofs.LimitLaws.{never_wide, never_room, never_deep}

-- ---- one cell more

pub lies_size : {A : List ℕ} {o : Open} {fs : List Frame} {X : List ℕ} → InFront A o fs X → o.size ≡ length (laid fs) + length X
lies_size {A} {o} {fs} {X} l = sym (length-take-le o.size A l.room) ∙ ap length l.laid ∙ length-append (laid fs) X

heads_keep : {o r : Open} {fs : List Frame} → Heads o fs → ((i : ℕ) → 0 < i → i ≤ length fs → head_at r i ≡ head_at o i) → Heads r fs
heads_keep heads_nil h = heads_nil
heads_keep (heads_cons {fs} e hs) h = heads_cons (h (suc (length fs)) (omega arith) (omega arith) ∙ e) (heads_keep hs (λ i p q. h i p (omega arith)))

pub heads_same : (o r : Open) {fs : List Frame} → r.second ≡ o.second → r.third ≡ o.third → Heads o fs → Heads r fs
unfolding head_at
heads_same o r p q hs = heads_keep hs (λ i a b. rw (p, q))

pub added_cell : {A : List ℕ} {o r : Open} (cell : ℕ) → o.size < 128 → o.size < length A
    → r ≡ record { depth = o.depth; size = o.size + 1; second = o.second; third = o.third } → AddsCell cell A o (set A o.size cell) r
added_cell {A} {o} {r} cell p q z = rw z (record {
  depth = refl;
  second = refl;
  third = refl;
  over = λ t. omega arith;
  is = λ f fs d deep s. record { depth = s.depth; over = λ t. absurd (omega arith); fine = λ t. put fs (s.fine (omega arith)) };
})
  where
    put : (fs : List Frame) → InFront A o fs [] → InFront (set A o.size cell) (record { depth = o.depth; size = o.size + 1; second = o.second; third = o.third }) fs (cell ∷ [])
    put fs l = record {
      small = omega arith;
      room = rw (length-set A o.size cell) (omega arith);
      laid = ap (λ (n : ℕ). take n (set A o.size cell)) (add-one o.size) ∙ take-suc-set A o.size cell q ∙ ap (λ (t : List ℕ). t ++ (cell ∷ [])) (l.laid ∙ append-nil (laid fs));
      sound = l.sound;
      heads = heads_same o _ refl refl l.heads;
    }

pub added_full : {A : List ℕ} {o r : Open} (cell : ℕ) → (o.size < 128 → o.size < length A → ⊥) → r ≡ beyond o → AddsCell cell A o A r
added_full {A} {o} {r} cell full z = rw z (record {
  depth = refl;
  second = refl;
  third = refl;
  over = λ t. omega arith;
  is = λ f fs d deep s. record { depth = s.depth; over = λ t. never f fs d deep s (dec_lt 128 o.size); fine = λ t. absurd (omega arith) };
})
  where
    none : (fs : List Frame) (v : Value) → length (laid fs) < size v → o.size ≡ length (laid fs) + length {A = ℕ} [] → may_be (length A) v ≡ false
    none fs v h g = go (dec_lt o.size 128)
      where
        go : Dec (o.size < 128) → may_be (length A) v ≡ false
        go (yes l) = never_room (length A) v (rest (dec_lt o.size (length A)))
          where
            rest : Dec (o.size < length A) → length A < size v
            rest (yes m) = absurd (full l m)
            rest (no m) = omega arith
        go (no l) = never_wide (length A) v (omega arith)

    never : (f : Bytes) (fs : List Frame) (d : ℕ) → Deep f fs d → Sure f A o fs [] → Dec (128 < o.size) → Never f (length A)
    never f fs d deep s (yes h) = s.over h
    never f fs d deep s (no h) = record { is = λ v g. none fs v (deep.wide v g) (lies_size (s.fine (omega arith))) }

-- ---- a collection that opens

above : (i : ℕ) → 0 < i → (i ≡ 1 → ⊥) → (i ≡ 2 → ⊥) → 2 < i
above i h x y = omega arith

heads_agree : (o r : Open) (i : ℕ) → 0 < i → (i ≡ 2 → r.second ≡ o.second) → (2 < i → r.third ≡ o.third) → head_at r i ≡ head_at o i
unfolding head_at
heads_agree o r i h p q = go (eqb i 1) (eqb i 2) refl refl
  where
    go : (a b : Bool) → eqb i 1 ≡ a → eqb i 2 ≡ b → (if a then 0 else if b then r.second else r.third) ≡ (if a then 0 else if b then o.second else o.third)
    go true b e f = refl
    go false true e f = p (eqb-true i 2 f)
    go false false e f = let x = eqb-false i 1 e in let y = eqb-false i 2 f in q (above i h x y)

none_laid : (fs : List Frame) → length fs ≡ 0 → length (laid fs) ≡ 0
unfolding laid
none_laid [] e = refl
none_laid (x ∷ fs) e = absurd (omega arith)

module _ {A B : List ℕ} {o s : Open} {cell : ℕ} (a : AddsCell cell A o B s) {m p q : ℕ}
    (em : m ≡ (if leb 3 o.depth then 129 else s.size)) (ep : p ≡ (if eqb o.depth 1 then o.size else o.second)) (eq : q ≡ (if eqb o.depth 2 then o.size else o.third)) where
  abbrev after : Open
  after = record { depth = o.depth + 1; size = m; second = p; third = q }

  kept_second : (i : ℕ) → i ≤ o.depth → i ≡ 2 → p ≡ s.second
  kept_second i h e = ep ∙ rw (ne_eqb o.depth 1 (λ z. omega arith)) (sym a.second)

  kept_third : (i : ℕ) → i ≤ o.depth → 2 < i → q ≡ s.third
  kept_third i h e = eq ∙ rw (ne_eqb o.depth 2 (λ z. omega arith)) (sym a.third)

  new_head : (fs : List Frame) → o.depth ≡ length fs → o.depth < 3 → o.size ≡ length (laid fs) → head_at after (suc (length fs)) ≡ length (laid fs)
  unfolding head_at
  new_head fs d h z = go o.depth d refl h
    where
      go : (n : ℕ) → n ≡ length fs → o.depth ≡ n → n < 3 → head_at after (suc (length fs)) ≡ length (laid fs)
      go zero e f l = rw (← e) (sym (none_laid fs (sym e)))
      go (suc zero) e f l = rw (← e) (ep ∙ rw (eq-eqb o.depth 1 f) z)
      go (suc (suc zero)) e f l = rw (← e) (eq ∙ rw (eq-eqb o.depth 2 f) z)
      go (suc (suc (suc n))) e f l = absurd (omega arith)

  opened_lies : (fs : List Frame) (k : Kind) (n : ℕ) → m ≡ s.size → cell ≡ head (coll k nil) → o.depth ≡ length fs → o.depth < 3 → InFront A o fs [] → InFront B s fs (cell ∷ []) → InFront B after (record { kind = k; inside = nil; parts = n } ∷ fs) []
  unfolding laid enc encs every_parts nestings
  opened_lies fs k n me ce d h before l = record {
    small = let x = l.small in omega arith;
    room = let x = l.room in omega arith;
    laid = ap (λ (i : ℕ). take i B) me ∙ l.laid ∙ ap (λ (c : ℕ). laid fs ++ (c ∷ [])) ce ∙ sym (append-nil (laid fs ++ (head (coll k nil) ∷ [])));
    sound = within_more {x = record { kind = k; inside = nil; parts = n }} {fs = fs} refl (omega arith) l.sound;
    heads = heads_cons (new_head fs d h (lies_size before ∙ omega arith)) (heads_keep l.heads (λ i x y. heads_agree s after i x (λ z. kept_second i (omega arith) z) (λ z. kept_third i (omega arith) z)));
  }

  pub opened_cell : {r : Open} → r ≡ after → OpensCell cell A o B r
  opened_cell z = rw z (record { is = λ f fs k n deep ce sure. made f fs k n deep ce sure (a.is f fs 1 deep sure) })
    where
      made : (f : Bytes) (fs : List Frame) (k : Kind) (n : ℕ) → Deep f fs 1 → cell ≡ head (coll k nil) → Sure f A o fs [] → Sure f B s fs (cell ∷ []) → Sure f B after (record { kind = k; inside = nil; parts = n } ∷ fs) []
      made f fs k n deep ce sure t = record {
        depth = let d = sure.depth in omega arith;
        over = λ e. passed (leb 3 o.depth) refl em e;
        fine = λ e. fine (leb 3 o.depth) refl em e (dec_lt 128 o.size);
      }
        where
          passed : (b : Bool) → leb 3 o.depth ≡ b → m ≡ (if b then 129 else s.size) → 128 < m → Never f (length B)
          passed true g me e = record { is = λ v h. let l = leb-true 3 o.depth g in let w = deep.deep v h in let d = sure.depth in never_deep (length B) v (omega arith) }
          passed false g me e = t.over (omega arith)

          fine : (b : Bool) → leb 3 o.depth ≡ b → m ≡ (if b then 129 else s.size) → m ≤ 128 → Dec (128 < o.size) → InFront B after (record { kind = k; inside = nil; parts = n } ∷ fs) []
          fine true g me e h = absurd (omega arith)
          fine false g me e (yes h) = absurd (let x = a.over h in omega arith)
          fine false g me e (no h) = opened_lies fs k n me ce sure.depth (leb-false 3 o.depth g) (sure.fine (omega arith)) (t.fine (omega arith))
