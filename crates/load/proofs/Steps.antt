-- A byte in the reader: the end of the first line and of a length's line, a refusal, a byte of a line. Assumes nothing.
use Prim.Native.Nat.{ℕ, ◌+◌, ◌<◌, ◌≤◌, min}
use mathlib.Core.Path.{◌≡◌, refl, sym, ap, ◌∙◌}
use mathlib.Core.Logic.{◌⊎◌, inl, inr}
use mathlib.Core.Bool.{Bool, true, false, ◌&&◌, true≢false}
use mathlib.Core.Option.{Option, none, some, none-ne-some, some-injective}
use mathlib.Core.List.{List, [], ◌∷◌, ◌++◌}
use native.Mathlib.Omega.{arith}
use borrow.Author.Tests.{le-leb, lt-leb, eq-eqb, ne_eqb}
use lib.Dec.{leb, ltb}
use lib.ListN.{length}
use Rattle.std.specs.Prelude.{Option as Maybe, None, Some, Result, Ok, Err, ok_or}
use Rattle.std.specs.Prelude.{if◌then◌else◌}
use Rattle.laws.proofs.Tests.{Any?, any_some}
use Rattle.sheet.specs.Text.{Bytes}
use Rattle.sheet.specs.Lines.{a_number}
use Rattle.load.specs.Reading.{Run, Step, taken, refuse, step_window, step_length, step}
use Rattle.load.specs.Record.{window_of, Lengths, empty_window, Pushed, pushed_of, Takes}
use Rattle.load.specs.Tally.{with_ring, Slides}
use Rattle.load.specs.Refusals.{refusal_of}
use Rattle.load.specs.Reader.{Line, with_byte, line_from, line_of, cut_of, line_at, on_line, byte_read, window_for, state_of, empty_ring, ringed, on_window, Fits, fits_none, fits_some, FirstLine, LengthLine, LineRead, Ended, ByteRead}
use Rattle.load.specs.declared.refusal.Refusal.{Refusal}
use Rattle.load.specs.declared.refusal.Refusal.TheVariants.{OutOfRange}
use Rattle.load.specs.declared.refusal.Refused.{Refused}
use Rattle.load.specs.declared.reader.Reader.{Reader}
use Rattle.load.specs.declared.window.Window.{Window}
use Rattle.load.specs.declared.window.Tally.{Tally}
use Rattle.load.proofs.Record.{fresh}
use Rattle.load.proofs.Lines.{line_more}

-- a number of the line that has begun
abbrev pub LineNumber : Window → ℕ → Type 0
LineNumber w n = (run : Option Run) → Fits run → w ≡ window_for run → n ≡ line_at run

pub width_some : {r : Run} (w : Window) → Lengths r.window r.lengths → w ≡ window_for (some r) → 1 ≤ w.width
unfolding window_for window_of
width_some w fit is = rw is fit.narrow

pub number_first : (w : Window) → w.width ≡ 0 → LineNumber w 1
unfolding line_at
number_first w z none fits_none is = refl
number_first w z (some r) (fits_some fit) is = absurd (omega (arith, width_some w fit is))

pub number_length : (w : Window) {n : ℕ} → (w.width ≡ 0 → ⊥) → n ≡ min w.count 1000000 → LineNumber w (n + 2)
unfolding line_at window_for window_of empty_window
number_length w z e none fits_none is = absurd (z (ap (λ (v : Window). v.width) is))
number_length w z e (some r) (fits_some fit) is = let c : w.count ≡ length r.lengths = ap (λ (v : Window). v.count) is in omega (arith, fit.few)

-- ---- the first line

pub first_refused : {n : ℕ} → (n ≡ 0) ⊎ (64 < n) → FirstLine n (Err OutOfRange)
unfolding step_window on_window refusal_of
first_refused {n} why = record { is = λ k c. rw (shut k c why) }
  where
    shut : (k : ℕ) → n ≡ min k 1000000 → (n ≡ 0) ⊎ (64 < n) → (leb 1 k && leb k 64) ≡ false
    shut k c (inl z) = rw (lt-leb 1 k (omega arith))
    shut k c (inr z) = rw (le-leb 1 k (omega arith), lt-leb k 64 (omega arith))

abbrev fresh_tally : ℕ → Tally
fresh_tally n = record { width = n; count = 0; sum = 0; largest = 0; first = 0 }

abbrev ok_window : Window → Result Window Refusal
ok_window w = Ok w

pub first_taken : {n : ℕ} → (n ≡ 0 → ⊥) → n ≤ 64 → FirstLine n (ringed (Ok (fresh_tally n)) empty_ring)
unfolding step_window on_window empty_ring empty_window
first_taken {n} z h = record {
  is = λ k c.
      let q : k ≡ n = omega arith in
      rw (q, le-leb 1 n (omega arith), le-leb n 64 h) (ap ok_window ((fresh n).follows (omega arith)));
}

-- ---- a length

module _ {w : Window} {n : ℕ} where
  pub length_over : 1000 < n → LengthLine w n (Err OutOfRange)
  unfolding step_length on_window refusal_of
  length_over h = record { is = λ r x fit is c. rw (lt-leb x 1000 (omega arith)) }

  module _ {p : Pushed} (h : n ≤ 1000) (takes : Takes w n p) where
    pushed_taken : (k : ℕ) (xs : List ℕ) → Lengths k xs → w ≡ window_of k xs → (leb n 1000 && ltb (length xs) 1000000) ≡ p.taken
    unfolding pushed_of
    pushed_taken k xs fit is = go (leb n 1000 && ltb (length xs) 1000000) (takes.follows k xs fit is)
      where
        go : (t : Bool) → p ≡ (if t then record { taken = true; window = window_of k (xs ++ (n ∷ [])) } else record { taken = false; window = window_of k xs }) → t ≡ p.taken
        go true e = rw e
        go false e = rw e

    pub length_many : p.taken ≡ false → LengthLine w n (Err OutOfRange)
    unfolding step_length on_window refusal_of
    length_many left = record {
      is = λ r x fit is c.
          let q : x ≡ n = omega arith in
          rw (q, pushed_taken r.window r.lengths fit is, left);
    }

    pushed_window : (k : ℕ) (xs : List ℕ) → Lengths k xs → w ≡ window_of k xs → p.taken ≡ true → p.window ≡ window_of k (xs ++ (n ∷ []))
    unfolding pushed_of
    pushed_window k xs fit is t = go (leb n 1000 && ltb (length xs) 1000000) (pushed_taken k xs fit is ∙ t) (takes.follows k xs fit is)
      where
        go : (t : Bool) → t ≡ true → p ≡ (if t then record { taken = true; window = window_of k (xs ++ (n ∷ [])) } else record { taken = false; window = window_of k xs }) → p.window ≡ window_of k (xs ++ (n ∷ []))
        go true h e = rw e
        go false h e = absurd (true≢false (sym h))

    pub length_taken : p.taken ≡ true → LengthLine w n (Ok p.window)
    unfolding step_length on_window
    length_taken took = record {
      is = λ r x fit is c.
          let q : x ≡ n = omega arith in
          rw (q, pushed_taken r.window r.lengths fit is, took) (ap ok_window (pushed_window r.window r.lengths fit is took));
    }

-- what `slide` answers
pub length_slid : (t : Tally) (before after : List ℕ) {n : ℕ} → n ≤ 1000 → (next : Maybe Tally) → Slides t before n next after → LengthLine (with_ring t before) n (ringed (ok_or next OutOfRange) after)
length_slid t before after h (Some u) s = length_taken h s refl
length_slid t before after h None s = length_many h s.0 refl

-- ---- any line

ring_empty : {t : Tally} {ring : List ℕ} → with_ring t ring ≡ window_for none → ring ≡ empty_ring
unfolding window_for empty_window empty_ring
ring_empty is = ap (λ (w : Window). w.recent) is

abbrev refused_by : Refusal → Result Window Refusal
refused_by e = Err e

-- which number was read
abbrev num : Result ℕ Refusal → Option ℕ
num (Ok n) = some n
num (Err e) = none

cut_is : {n : ℕ} (o : Option ℕ) → Ok n ≡ cut_of o → Any? (λ m. n ≡ min m 1000000) o
cut_is none e = absurd (none-ne-some _ (sym (ap num e)))
cut_is (some m) e = any_some (some-injective _ _ (ap num e))

module _ {line : Line} where
  pub read_bad : {w : Window} {why : Refusal} → ((l : Bytes) → line ≡ line_of l → Err why ≡ cut_of (a_number l)) → LineRead w line (Err why)
  unfolding step on_window refusal_of
  read_bad {w} {why} bad = record { is = λ run l fit is from. go run (a_number l) (bad l from) }
    where
      why_of : Result ℕ Refusal → Refusal
      why_of (Ok n) = why
      why_of (Err e) = e

      go : (run : Option Run) (o : Option ℕ) → Err why ≡ cut_of o → Err why ≡ on_window (step run o)
      go run none e = ap refused_by (ap why_of e)
      go run (some m) e = absurd (none-ne-some _ (ap num e))

  module _ {n : ℕ} (read : (l : Bytes) → line ≡ line_of l → Ok n ≡ cut_of (a_number l)) where
    pub read_first : {t : Tally} {ring : List ℕ} (r : Result Tally Refusal) → t.width ≡ 0 → FirstLine n (ringed r empty_ring) → LineRead (with_ring t ring) line (ringed r ring)
    unfolding step
    read_first {t} {ring} r z first = record { is = λ run l fit is from. go run (a_number l) fit is (cut_is (a_number l) (read l from)) }
      where
        go : (run : Option Run) (o : Option ℕ) → Fits run → with_ring t ring ≡ window_for run → Any? (λ m. n ≡ min m 1000000) o → ringed r ring ≡ on_window (step run o)
        go none (some k) fits_none is (any_some c) = rw (ring_empty {t = t} is) (first.is k c)
        go (some r) (some k) (fits_some fit) is (any_some c) = absurd (omega (arith, width_some (with_ring t ring) fit is))
        go none none _ is x7 = elim x7 [ ]
        go (some r) none _ is x8 = elim x8 [ ]

    pub read_length : {w : Window} {r : Result Window Refusal} → (w.width ≡ 0 → ⊥) → LengthLine w n r → LineRead w line r
    unfolding step window_for empty_window
    read_length {w} {r} z line_taken = record { is = λ run l fit is from. go run (a_number l) fit is (cut_is (a_number l) (read l from)) }
      where
        go : (run : Option Run) (o : Option ℕ) → Fits run → w ≡ window_for run → Any? (λ m. n ≡ min m 1000000) o → r ≡ on_window (step run o)
        go none (some k) fits_none is (any_some c) = absurd (z (ap (λ (v : Window). v.width) is))
        go (some r) (some k) (fits_some fit) is (any_some c) = line_taken.is r k fit is c
        go none none _ is x7 = elim x7 [ ]
        go (some r) none _ is x8 = elim x8 [ ]

-- ---- the line has ended

-- a reader with a new line, and a refusal at this line
abbrev after_line : Result Window Refusal → ℕ → Result Reader Refused
after_line (Ok w) n = Ok (record { line = Ok None; window = w })
after_line (Err e) n = Err (record { why = e; place = n })

line_after : (s : Step) (n : ℕ) → after_line (on_window s) n ≡ state_of (on_line s n)
unfolding on_window on_line state_of line_of line_from window_for
line_after (taken r) n = refl
line_after (refuse c) n = refl

module _ {w : Window} {line : Line} where
  pub ended_taken : {v : Window} → LineRead w line (Ok v) → Ended w line (Ok (record { line = Ok None; window = v }))
  ended_taken {v} read = record { is = λ run l fit is from. ap (λ r. after_line r (line_at run)) (read.is run l fit is from) ∙ line_after (step run (a_number l)) (line_at run) }

  pub ended_refused : {why : Refusal} {place : ℕ} → LineRead w line (Err why) → LineNumber w place → Ended w line (Err (record { why = why; place = place }))
  ended_refused {why} read at = record { is = λ run l fit is from. rw (at run fit is) (ap (λ r. after_line r (line_at run)) (read.is run l fit is from) ∙ line_after (step run (a_number l)) (line_at run)) }

-- ---- any byte

module _ {w : Window} {line : Line} {b : ℕ} where
  pub byte_ends : {s : Result Reader Refused} → b ≡ 10 → Ended w line s → ByteRead w line b s
  unfolding byte_read
  byte_ends h ended = record { is = λ run l fit is from. rw (eq-eqb b 10 h) (ended.is run l fit is from) }

  pub byte_more : {next : Line} → (b ≡ 10 → ⊥) → next ≡ with_byte line b → ByteRead w line b (Ok (record { line = next; window = w }))
  unfolding byte_read state_of line_from
  byte_more h e = record { is = λ run l fit is from. rw (ne_eqb b 10 h, ← line_more l (b ∷ []), is, e, from) }
