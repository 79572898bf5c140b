-- Laws of fields that are numbers, read one after the other. Assumes nothing.
use mathlib.Core.Path.{◌≡◌, refl, sym, ap, ◌∙◌}
use mathlib.Core.Bool.{true, false}
use mathlib.Core.Option.{Option, none, some}
use mathlib.Core.List.{List, [], ◌∷◌, ◌++◌, map, append_assoc, append-nil}
use Prim.Native.Nat.{ℕ, zero, suc, ◌+◌, ◌-◌, ◌≤◌, ◌<◌}
use native.Mathlib.Omega.{arith}
use borrow.Author.Tests.{eq-eqb, ne_eqb}
use lib.ListN.{length, get_or, take, drop, set, length-append, length-drop}
use Rattle.laws.specs.Choice.{on_some, map_some}
use lib.Seq.{get_or-drop}
use Rattle.laws.proofs.Parts.{at_next, part_next, part_none, part_all}
use Rattle.laws.proofs.Tests.{Any?, any_some}
use Rattle.sheet.specs.Text.{Bytes, fields_of}
use Rattle.sheet.specs.Lines.{each, a_number}
use Rattle.text.specs.Numbers.{cut_num}
use Rattle.text.specs.Parts.{Cut}
use Rattle.text.specs.declared.parts.Fields.{Fields}
use Rattle.text.proofs.NumberLaws.{num_bad, num_is}
use Rattle.shapes.specs.declared.numbers.Numbers.{Numbers}
use Rattle.shapes.specs.Fields.{cut, four, exact, unread, read, NumbersRead}
use Rattle.std.specs.Prelude.{Some, None}

-- the fields of a line that was cut are as many as it says
pub field_count : {line : Bytes} {f : Fields} {to : ℕ} → Cut line f → to ≤ f.count → to ≤ length (fields_of line)
field_count is h = omega (arith, is.counted)

-- ---- four numbers

cut_small : (l : List ℕ) (k : ℕ) → get_or (map cut l) k 0 ≤ 1000000
cut_small [] k = omega arith
cut_small (n ∷ l) zero = omega arith
cut_small (n ∷ l) (suc k) = cut_small l k

four_small : (l : List ℕ) (k : ℕ) → get_or (four (map cut l)) k 0 ≤ 1000000
four_small l zero = cut_small l 0
four_small l (suc zero) = cut_small l 1
four_small l (suc (suc zero)) = cut_small l 2
four_small l (suc (suc (suc zero))) = cut_small l 3
four_small l (suc (suc (suc (suc k)))) = omega arith

four_more : (l : List ℕ) (n : ℕ) → length l < 4 → set (four (map cut l)) (length l) (cut n) ≡ four (map cut (l ++ (n ∷ [])))
four_more [] n h = refl
four_more (a ∷ []) n h = refl
four_more (a ∷ b ∷ []) n h = refl
four_more (a ∷ b ∷ c ∷ []) n h = refl
four_more (a ∷ b ∷ c ∷ d ∷ l) n h = absurd (omega arith)

pub no_numbers : NumbersRead none (record { good = false; at = 0 ∷ 0 ∷ 0 ∷ 0 ∷ [] })
no_numbers = record { is = unread refl; small = four_small []; size = refl }

-- ---- the turns of `number_fields`: the fields from `from` up to i are read

map_same : {A : Type 0} (o : Option A) → o ≡ map_some (λ x. x) o
unfolding map_some
map_same none = refl
map_same (some x) = refl

pub record ReadTo (fs : List Bytes) (from to i : ℕ) (at : List ℕ) : Type 0 where
  pub seen : List ℕ
  pub many : from + length seen ≡ i
  pub whole : each a_number (take (to - from) (drop from fs)) ≡ map_some (λ l. seen ++ l) (each a_number (take (to - i) (drop i fs)))
  pub held : at ≡ four (map cut seen)

pub read_none : (fs : List Bytes) (from to : ℕ) → ReadTo fs from to from (0 ∷ 0 ∷ 0 ∷ 0 ∷ [])
read_none fs from to = record { seen = []; many = omega arith; whole = map_same _; held = refl }

module _ {fs : List Bytes} {from to i : ℕ} {at : List ℕ} (so : ReadTo fs from to i at) where
  pub read_all : to ≤ i → NumbersRead (each a_number (take (to - from) (drop from fs))) (record { good = true; at = at })
  unfolding each map_some
  read_all h =
      let e : each a_number (take (to - from) (drop from fs)) ≡ some (so.seen ++ []) = so.whole ∙ rw (part_none fs i to h) in
      let q : so.seen ++ [] ≡ so.seen = append-nil so.seen in
      rw (e, q) (record { is = read refl so.held; small = λ k. rw so.held (four_small so.seen k); size = ap length so.held })

  module _ (more : i < to) (within : to ≤ length fs) where
    pub read_bad : {r : Numbers} → None ≡ cut_num (a_number (get_or fs i [])) → NumbersRead none r → NumbersRead (each a_number (take (to - from) (drop from fs))) r
    unfolding each map_some on_some
    read_bad h d =
        let e : each a_number (take (to - from) (drop from fs)) ≡ none
        = so.whole ∙ rw (part_next [] fs i to more within, num_bad (a_number (get_or fs i [])) h) in
        rw e d

    pub read_next : {m : ℕ} → Some m ≡ cut_num (a_number (get_or fs i [])) → to ≤ from + 4 → ReadTo fs from to (i + 1) (set at (i - from) m)
    unfolding each map_some on_some
    read_next {m} h room = go (a_number (get_or fs i [])) refl (num_is (a_number (get_or fs i [])) h)
      where
        turn : (n : ℕ) (o : Option (List ℕ)) → map_some (λ l. so.seen ++ l) (map_some (λ l. n ∷ l) o) ≡ map_some (λ l. (so.seen ++ (n ∷ [])) ++ l) o
        turn n none = refl
        turn n (some l) = ap some (sym (append_assoc so.seen (n ∷ []) l))

        go : (o : Option ℕ) → a_number (get_or fs i []) ≡ o → Any? (λ n. m ≡ cut n) o → ReadTo fs from to (i + 1) (set at (i - from) m)
        go (some n) e (any_some q) =
            record {
              seen = so.seen ++ (n ∷ []);
              many = omega (arith, length-append so.seen (n ∷ []), so.many);
              whole = so.whole ∙ rw (part_next [] fs i to more within, e) (turn n (each a_number (take (to - (i + 1)) (drop (i + 1) fs))));
              held =
                  let z : i - from ≡ length so.seen = omega (arith, so.many) in
                  rw (so.held, z, q) (four_more so.seen n (omega (arith, so.many)));
            }
        go none e x'' = elim x'' [ ]

-- ---- the fields after a form's word

module _ {line : Bytes} {f : Fields} (is : Cut line f) (m : ℕ) (low : m ≤ 4) where
  pub exact_not : {r : Numbers} → (f.count ≡ 3 + m → ⊥) → 3 ≤ f.count → NumbersRead none r → NumbersRead (exact m (drop 3 (fields_of line))) r
  unfolding exact
  exact_not h t d = rw (ne_eqb (length (drop 3 (fields_of line))) m (λ e. h (omega (arith, is.counted, length-drop 3 (fields_of line))))) d

  pub exact_all : {r : Numbers} → f.count ≡ 3 + m → NumbersRead (each a_number (take (f.count - 3) (drop 3 (fields_of line)))) r → NumbersRead (exact m (drop 3 (fields_of line))) r
  unfolding exact
  exact_all h d =
      let n : length (fields_of line) ≡ f.count = omega (arith, is.counted) in
      let e : take (f.count - 3) (drop 3 (fields_of line)) ≡ drop 3 (fields_of line) = rw (← n) (part_all (fields_of line) 3) in
      rw (eq-eqb (length (drop 3 (fields_of line))) m (omega (arith, length-drop 3 (fields_of line))), ← e) d

-- how many fields there are after a form's word, and the first of them
pub rest_first : (fs : List Bytes) → get_or (drop 3 fs) 0 [] ≡ get_or fs 3 []
rest_first fs = get_or-drop 3 fs 0 []

module _ {line : Bytes} {f : Fields} (is : Cut line f) where
  pub rest_exact : (m : ℕ) → m ≤ 7 → f.count ≡ 3 + m → length (drop 3 (fields_of line)) ≡ m
  rest_exact m h e = omega (arith, is.counted, length-drop 3 (fields_of line))

  pub rest_not : (m : ℕ) → m ≤ 7 → 3 ≤ f.count → (f.count ≡ 3 + m → ⊥) → length (drop 3 (fields_of line)) ≡ m → ⊥
  rest_not m h t e q = e (omega (arith, is.counted, length-drop 3 (fields_of line)))

  pub rest_short : 3 ≤ f.count → f.count < 4 → length (drop 3 (fields_of line)) ≡ 0
  rest_short t h = omega (arith, is.counted, length-drop 3 (fields_of line))

  pub rest_long : 8 < f.count → 5 < length (drop 3 (fields_of line))
  rest_long h = omega (arith, is.counted, length-drop 3 (fields_of line))

  pub rest_cons : 4 ≤ f.count → drop 3 (fields_of line) ≡ get_or (fields_of line) 3 [] ∷ drop 4 (fields_of line)
  rest_cons h = at_next [] (fields_of line) 3 (omega (arith, is.counted))

  pub rest_length : f.count ≤ 8 → length (drop 4 (fields_of line)) ≡ f.count - 4
  rest_length h = omega (arith, is.counted, length-drop 4 (fields_of line))

  pub rest_part : {r : Numbers} → f.count ≤ 8 → NumbersRead (each a_number (take (f.count - 4) (drop 4 (fields_of line)))) r → NumbersRead (each a_number (drop 4 (fields_of line))) r
  rest_part h d =
      let n : length (fields_of line) ≡ f.count = omega (arith, is.counted) in
      let e : take (f.count - 4) (drop 4 (fields_of line)) ≡ drop 4 (fields_of line) = rw (← n) (part_all (fields_of line) 4) in
      rw (← e) d
