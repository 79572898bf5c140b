-- Laws of the first separator, of `split`, and of a line cut into fields. Assumes nothing.
use Prim.Native.Nat.{ℕ, zero, suc, ◌+◌, ◌-◌, ◌<◌, ◌≤◌}
use mathlib.Core.Path.{◌≡◌, refl, sym, ap, ◌∙◌}
use mathlib.Core.Bool.{Bool, true, false}
use mathlib.Core.List.{List, [], ◌∷◌}
use native.Mathlib.Numerals.{add-one, sub-one}
use native.Mathlib.Omega.{arith}
use native.Mathlib.Decide.{dec_lt}
use borrow.Author.Tests.{eq-eqb, ne_eqb}
use lib.Dec.{eqb}
use lib.ListN.{length, get_or, take, drop, set, length-drop, length-set}
use lib.Seq.{take_all, get_or-set_same, get_or-set_other, get_or-drop, drop-drop}
use Rattle.std.specs.Prelude.{if◌then◌else◌}
use Rattle.laws.proofs.Parts.{part_all}
use Rattle.sheet.specs.Text.{Bytes, onto, split, fields_of}
use Rattle.text.specs.Parts.{until_sep, PartEnd, BytesAt, field_start, Cut}
use Rattle.text.specs.declared.parts.Fields.{Fields}

-- ---- the first separator

pub first_at : (sep : ℕ) (s : Bytes) (r : ℕ) → r ≤ length s → ((k : ℕ) → k < r → get_or s k 0 ≡ sep → ⊥) → (r < length s → get_or s r 0 ≡ sep) → r ≡ until_sep sep s
unfolding until_sep
first_at sep [] r h before here = omega arith
first_at sep (b ∷ s) zero h before here = rw (eq-eqb b sep (here (omega arith))) refl
first_at sep (b ∷ s) (suc r) h before here =
    rw (ne_eqb b sep (before 0 (omega arith)))
    (let e : r ≡ until_sep sep s = first_at sep s r (omega arith) (λ k l. before (suc k) (omega arith)) (λ l. here (omega arith)) in omega arith)

-- ---- `split` by the first separator

split_more : (sep : ℕ) (s : Bytes) → until_sep sep s < length s → split sep s ≡ take (until_sep sep s) s ∷ split sep (drop (until_sep sep s + 1) s)
unfolding until_sep split onto
split_more sep [] h = absurd (omega arith)
split_more sep (b ∷ s) h = go (eqb b sep) (split_more sep s) h
  where
    go : (t : Bool) → (until_sep sep s < length s → split sep s ≡ take (until_sep sep s) s ∷ split sep (drop (until_sep sep s + 1) s)) → (if t then 0 else until_sep sep s + 1) < suc (length s)
        → (if t then [] ∷ split sep s else onto b (split sep s)) ≡ take (if t then 0 else until_sep sep s + 1) (b ∷ s) ∷ split sep (drop ((if t then 0 else until_sep sep s + 1) + 1) (b ∷ s))
    go true ih h = refl
    go false ih h = rw (ih (omega arith), add-one (until_sep sep s), add-one (suc (until_sep sep s)))

split_last : (sep : ℕ) (s : Bytes) → length s ≤ until_sep sep s → split sep s ≡ s ∷ []
unfolding until_sep split onto
split_last sep [] h = refl
split_last sep (b ∷ s) h = go (eqb b sep) (split_last sep s) h
  where
    go : (t : Bool) → (length s ≤ until_sep sep s → split sep s ≡ s ∷ []) → suc (length s) ≤ (if t then 0 else until_sep sep s + 1)
        → (if t then [] ∷ split sep s else onto b (split sep s)) ≡ (b ∷ s) ∷ []
    go true ih h = absurd (omega arith)
    go false ih h = rw (ih (omega arith))

-- what `find` answers parts a text: the first part and the parts after it, or all of it
pub first_part : {sep r : ℕ} {s : Bytes} → PartEnd sep s r → r < length s → split sep s ≡ take r s ∷ split sep (drop (r + 1) s)
first_part {sep} {r} {s} to h = rw to.is (split_more sep s (omega arith))

pub only_part : {sep r : ℕ} {s : Bytes} → PartEnd sep s r → length s ≤ r → split sep s ≡ s ∷ []
only_part {sep} {r} {s} to h = split_last sep s (omega arith)

-- ---- a line, cut as far as its first n fields

pub record CutTo (line : Bytes) (n at : ℕ) (ends : List ℕ) : Type 0 where
  pub within : at ≤ length line
  pub room : length ends ≡ 10
  pub start : at ≡ field_start ends n
  pub rest : drop n (fields_of line) ≡ split 9 (drop at line)
  pub each : (k : ℕ) → k < n → BytesAt line (field_start ends k) (get_or ends k 0) (get_or (fields_of line) k [])

pub cut_none : (line : Bytes) (ends : List ℕ) → length ends ≡ 10 → CutTo line 0 0 ends
unfolding field_start fields_of
cut_none line ends h = record { within = omega arith; room = h; start = refl; rest = refl; each = λ k l. absurd (omega arith) }

-- the starts up to that of the field whose end is set stay
start_kept : (ends : List ℕ) (n e k : ℕ) → k < n + 1 → field_start (set ends n e) k ≡ field_start ends k
unfolding field_start
start_kept ends n e zero h = refl
start_kept ends n e (suc k) h = rw (get_or-set_other ends n k e 0 (omega arith))

start_next : (ends : List ℕ) (n e : ℕ) → n < length ends → e + 1 ≡ field_start (set ends n e) (n + 1)
unfolding field_start
start_next ends n e h = rw (add-one n, get_or-set_same ends n e 0 h)

split_some : (sep : ℕ) (s : Bytes) → 0 < length (split sep s)
unfolding split onto
split_some sep [] = omega arith
split_some sep (b ∷ s) = go (eqb b sep) (split sep s)
  where
    go : (t : Bool) (ps : List Bytes) → 0 < length (if t then [] ∷ ps else onto b ps)
    go true ps = omega arith
    go false [] = omega arith
    go false (p ∷ ps) = omega arith

head_part : {r : ℕ} {s : Bytes} → PartEnd 9 s r → get_or (split 9 s) 0 [] ≡ take r s
head_part {r} {s} to = go (dec_lt r (length s))
  where
    go : Dec (r < length s) → get_or (split 9 s) 0 [] ≡ take r s
    go (yes l) = rw (first_part to l)
    go (no l) = rw (only_part to (omega arith)) (sym (take_all r s (omega arith)))

-- one turn: the part `rest` starts at `at`, and its first tab stands at r
module _ {line : Bytes} {n at r : ℕ} {ends : List ℕ} (so : CutTo line n at ends) (low : n < 10) (to : PartEnd 9 (take (length line - at) (drop at line)) r) where
  ends_at_lem : PartEnd 9 (drop at line) r
  ends_at_lem = rw (part_all line at) at to

  pub end_within : at + r ≤ length line
  end_within = omega (arith, simp length-drop at ends_at_lem.within, so.within)

  here : take r (drop at line) ≡ get_or (fields_of line) n []
  here = let z : n + 0 ≡ n = omega arith in sym (head_part ends_at_lem) ∙ rw (← so.rest) (rw z at (get_or-drop n (fields_of line) 0 []))

  each_more : (k : ℕ) → k < n + 1 → BytesAt line (field_start (set ends n (at + r)) k) (get_or (set ends n (at + r)) k 0) (get_or (fields_of line) k [])
  each_more k h = go (dec_lt k n)
    where
      go : Dec (k < n) → BytesAt line (field_start (set ends n (at + r)) k) (get_or (set ends n (at + r)) k 0) (get_or (fields_of line) k [])
      go (yes l) = rw (start_kept ends n (at + r) k h, get_or-set_other ends n k (at + r) 0 (omega arith)) (so.each k l)
      go (no l) =
          let e : k ≡ n = omega arith in
          let q : (at + r) - at ≡ r = omega arith in
          rw (e, start_kept ends n (at + r) n (omega arith), ← so.start, get_or-set_same ends n (at + r) 0 (omega (arith, so.room)))
          (record { order = omega arith; within = end_within; is = rw q here })

  -- no tab is left: the line has n + 1 fields
  pub cut_last : at + r ≡ length line → Cut line (record { count = n + 1; ends = set ends n (at + r) })
  cut_last h = record { counted = omega (arith, simp length-drop at (ap length (so.rest ∙ only_part ends_at_lem (simp length-drop (omega arith))))); each = λ k l t. each_more k l }

  pub cut_next : (at + r ≡ length line → ⊥) → CutTo line (n + 1) (at + r + 1) (set ends n (at + r))
  cut_next h = record {
    within = omega (arith, end_within);
    room = length-set ends n (at + r) ∙ so.room;
    start = start_next ends n (at + r) (omega (arith, so.room));
    rest =
        let q : at + (r + 1) ≡ at + r + 1 = omega arith in
        sym (drop-drop 1 n (fields_of line)) ∙ rw (so.rest, first_part ends_at_lem (simp length-drop (omega (arith, end_within))), drop-drop (r + 1) at line, q);
    each = each_more;
  }

-- ten fields, and a tab after the tenth: at least one field more
pub cut_full : {line : Bytes} {n at : ℕ} {ends : List ℕ} → CutTo line n at ends → n ≡ 10 → Cut line (record { count = 11; ends = ends })
cut_full {line} {n} {at} {ends} so h = record {
  counted = omega (arith, simp length-drop at (ap length so.rest), split_some 9 (drop at line));
  each = λ k l t. so.each k (omega arith);
}

-- ---- a line that was cut, and a field of it

-- every line has a field, and up to ten fields the count is exact
pub counted_some : {line : Bytes} {f : Fields} → Cut line f → 0 < f.count
unfolding fields_of
counted_some {line} is = omega (arith, is.counted, split_some 9 line)

pub counted_exact : {line : Bytes} {f : Fields} → Cut line f → f.count < 11 → length (fields_of line) ≡ f.count
counted_exact is h = omega (arith, is.counted)

start_first : (ends : List ℕ) (k : ℕ) → k ≡ 0 → field_start ends k ≡ 0
unfolding field_start
start_first ends k h = rw h

start_later : (ends : List ℕ) (k : ℕ) → (k ≡ 0 → ⊥) → field_start ends k ≡ get_or ends (k - 1) 0 + 1
unfolding field_start
start_later ends zero h = absurd (h refl)
start_later ends (suc k) h = rw (sub-one (suc k))

module _ {line : Bytes} {f : Fields} {k start : ℕ} (is : Cut line f) (counted : k < f.count) (low : k < 10) where
  field_from : start ≡ field_start f.ends k → BytesAt line start (get_or f.ends k 0) (get_or (fields_of line) k [])
  field_from e = rw e (is.each k counted low)

  pub first_field : k ≡ 0 → start ≡ 0 → BytesAt line start (get_or f.ends k 0) (get_or (fields_of line) k [])
  first_field z e = field_from (e ∙ sym (start_first f.ends k z))

  pub later_field : (k ≡ 0 → ⊥) → start ≡ get_or f.ends (k - 1) 0 + 1 → BytesAt line start (get_or f.ends k 0) (get_or (fields_of line) k [])
  later_field h e = field_from (e ∙ sym (start_later f.ends k h))
