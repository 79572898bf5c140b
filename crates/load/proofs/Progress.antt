-- A text byte by byte comes to what it comes to line by line. Assumes nothing.
use Prim.Native.Nat.{ℕ, suc}
use mathlib.Core.Path.{◌≡◌, refl, sym, ap, ◌∙◌}
use mathlib.Core.Bool.{Bool, true, false, ◌&&◌}
use mathlib.Core.Option.{Option, none, some}
use mathlib.Core.List.{List, [], ◌∷◌, ◌++◌, append-nil}
use native.Mathlib.Omega.{arith}
use borrow.Author.Tests.{leb-true, ltb-true}
use lib.Dec.{eqb, leb, ltb}
use lib.ListN.{length}
use lib.Seq.{append_snoc}
use Rattle.std.specs.Prelude.{if◌then◌else◌}
use Rattle.laws.specs.Lists.{each_nil, each-cons}
use Rattle.laws.proofs.Lists.{length_more, each_append}
use Rattle.laws.proofs.Tests.{and-true}
use Rattle.sheet.specs.Text.{Bytes, onto, split, lines_of}
use Rattle.sheet.specs.Lines.{a_number}
use Rattle.sheet.specs.Calls.{Verdict, refusal_at}
use Rattle.load.specs.Reading.{Run, Step, taken, refuse, step_window, step_length, step, read_last, on_step, read_lines, load_of}
use Rattle.load.specs.Record.{Lengths}
use Rattle.load.specs.Refusals.{number_of, refusal_of}
use Rattle.load.specs.Reader.{Progress, refused, reading, line_at, on_line, byte_read, read_from, progress_of, Fits, fits_none, fits_some}

-- ---- what a line's step keeps

pub data Keeps (run : Option Run) : Step → Type 0 where
  keeps : {r : Run} → Fits (some r) → line_at (some r) ≡ suc (line_at run) → Keeps run (taken r)
  shuts : {c : ℕ} → number_of (refusal_of c) ≡ c → Keeps run (refuse c)

window_keeps : (k : ℕ) → Keeps none (step_window k)
unfolding step_window line_at refusal_of
window_keeps k = go (leb 1 k && leb k 64) refl
  where
    go : (t : Bool) → (leb 1 k && leb k 64) ≡ t → Keeps none (if t then taken (record { window = k; lengths = [] }) else refuse 4)
    go true h =
        let b = and-true (leb 1 k) (leb k 64) h in
        keeps (fits_some {r = record { window = k; lengths = [] }} (record { narrow = leb-true 1 k b.0; wide = leb-true k 64 b.1; few = omega arith; short = each_nil })) refl
    go false h = shuts {c = 4} refl

length_keeps : (r : Run) (x : ℕ) → Lengths r.window r.lengths → Keeps (some r) (step_length r x)
unfolding step_length line_at refusal_of
length_keeps r x fit = go (leb x 1000 && ltb (length r.lengths) 1000000) refl
  where
    go : (t : Bool) → (leb x 1000 && ltb (length r.lengths) 1000000) ≡ t → Keeps (some r) (if t then taken (record { window = r.window; lengths = r.lengths ++ (x ∷ []) }) else refuse 4)
    go true h =
        let b = and-true (leb x 1000) (ltb (length r.lengths) 1000000) h in
        keeps (fits_some {r = record { window = r.window; lengths = r.lengths ++ (x ∷ []) }} (record {
          narrow = fit.narrow;
          wide = fit.wide;
          few = omega (arith, length_more r.lengths x, ltb-true (length r.lengths) 1000000 b.1);
          short = each_append fit.short (each-cons (leb-true x 1000 b.0) each_nil);
        })) (omega (arith, length_more r.lengths x))
    go false h = shuts {c = 4} refl

pub step_keeps : (run : Option Run) (o : Option ℕ) → Fits run → Keeps run (step run o)
unfolding step refusal_of
step_keeps run none fit = shuts {c = 3} refl
step_keeps none (some k) fit = window_keeps k
step_keeps (some r) (some x) (fits_some fit) = length_keeps r x fit

-- ---- what holds of every progress

pub data Sound : Progress → Type 0 where
  is_refused : {c n : ℕ} → number_of (refusal_of c) ≡ c → Sound (refused c n)
  is_reading : {run : Option Run} {l : Bytes} → Fits run → Sound (reading run l)

pub line_sound : {run : Option Run} {s : Step} (n : ℕ) → Keeps run s → Sound (on_line s n)
unfolding on_line
line_sound n (keeps fit e) = is_reading fit
line_sound n (shuts h) = is_refused h

pub byte_sound : {p : Progress} (b : ℕ) → Sound p → Sound (byte_read p b)
unfolding byte_read
byte_sound b (is_refused h) = is_refused h
byte_sound b (is_reading {run} {l} fit) = go (eqb b 10)
  where
    go : (t : Bool) → Sound (if t then on_line (step run (a_number l)) (line_at run) else reading run (l ++ (b ∷ [])))
    go true = line_sound (line_at run) (step_keeps run (a_number l) fit)
    go false = is_reading fit

from_sound : (s : Bytes) {p : Progress} → Sound p → Sound (read_from p s)
unfolding read_from
from_sound [] h = h
from_sound (b ∷ s) h = from_sound s (byte_sound b h)

pub progress_sound : (text : Bytes) → Sound (progress_of text)
unfolding progress_of
progress_sound text = from_sound text (is_reading fits_none)

-- ---- a text cut in two

from_append : (a b : Bytes) (p : Progress) → read_from p (a ++ b) ≡ read_from (read_from p a) b
unfolding read_from
from_append [] b p = refl
from_append (x ∷ a) b p = from_append a b (byte_read p x)

pub progress_append : (a b : Bytes) → progress_of (a ++ b) ≡ read_from (progress_of a) b
unfolding progress_of
progress_append a b = from_append a b (reading none [])

pub refused_stays : (s : Bytes) (c n : ℕ) → read_from (refused c n) s ≡ refused c n
unfolding read_from byte_read
refused_stays [] c n = refl
refused_stays (b ∷ s) c n = refused_stays s c n

-- ---- the definition, line by line

-- what a progress comes to where the text ends
unfoldable pub verdict_of : Progress → Verdict
verdict_of (refused c n) = refusal_at c n
verdict_of (reading run l) = read_last (line_at run) run l

-- the first part begins with the bytes of the line that has begun
abbrev begins : Bytes → List Bytes → List Bytes
begins l [] = l ∷ []
begins l (p ∷ ps) = (l ++ p) ∷ ps

begins_onto : (l : Bytes) (b : ℕ) (ps : List Bytes) → begins (l ++ (b ∷ [])) ps ≡ begins l (onto b ps)
unfolding onto
begins_onto l b [] = refl
begins_onto l b (p ∷ ps) = ap (λ (q : Bytes). q ∷ ps) (append_snoc l b p)

-- there is one part at least
data Parts : List Bytes → Type 0 where
  parts : {p : Bytes} {ps : List Bytes} → Parts (p ∷ ps)

onto_parts : (b : ℕ) {ps : List Bytes} → Parts ps → Parts (onto b ps)
unfolding onto
onto_parts b parts = parts

some_parts : (t : Bytes) → Parts (split 10 t)
unfolding split
some_parts [] = parts
some_parts (b ∷ t) = go (eqb b 10) (some_parts t)
  where
    go : (u : Bool) → Parts (split 10 t) → Parts (if u then [] ∷ split 10 t else onto b (split 10 t))
    go true h = parts
    go false h = onto_parts b h

begins_none : {ps : List Bytes} → Parts ps → begins [] ps ≡ ps
begins_none parts = refl

-- a line ends before the parts ps
lines_step : (n : ℕ) (run : Option Run) (l : Bytes) {ps : List Bytes} → Parts ps → read_lines n run (begins l ([] ∷ ps)) ≡ on_step (step run (a_number l)) n (λ r. read_lines (suc n) (some r) ps)
unfolding read_lines
lines_step n run l (parts {p} {ps}) = ap (λ (q : Bytes). on_step (step run (a_number q)) n (λ r. read_lines (suc n) (some r) (p ∷ ps))) (append-nil l)

abbrev Agrees : Bytes → Option Run → Bytes → Type 0
Agrees t run l = verdict_of (read_from (reading run l) t) ≡ read_lines (line_at run) run (begins l (split 10 t))

ends_line : (t : Bytes) {run : Option Run} {s : Step} → Keeps run s → ((r : Run) → Fits (some r) → Agrees t (some r) []) → verdict_of (read_from (on_line s (line_at run)) t) ≡ on_step s (line_at run) (λ r. read_lines (suc (line_at run)) (some r) (split 10 t))
unfolding on_line on_step verdict_of
ends_line t (keeps {r} fit e) rest = rest r fit ∙ rw (begins_none (some_parts t), e)
ends_line t {run} (shuts {c} h) rest = rw (refused_stays t c (line_at run))

agrees : (t : Bytes) (run : Option Run) (l : Bytes) → Fits run → Agrees t run l
unfolding read_from byte_read split read_lines verdict_of
agrees [] run l fit = rw (append-nil l)
agrees (b ∷ t) run l fit = go (eqb b 10) (λ r f. agrees t (some r) [] f) (agrees t run (l ++ (b ∷ [])) fit)
  where
    go : (u : Bool) → ((r : Run) → Fits (some r) → Agrees t (some r) []) → Agrees t run (l ++ (b ∷ []))
        → verdict_of (read_from (if u then on_line (step run (a_number l)) (line_at run) else reading run (l ++ (b ∷ []))) t)
        ≡ read_lines (line_at run) run (begins l (if u then [] ∷ split 10 t else onto b (split 10 t)))
    go true rest same = ends_line t (step_keeps run (a_number l) fit) rest ∙ sym (lines_step (line_at run) run l (some_parts t))
    go false rest same = same ∙ ap (read_lines (line_at run) run) (begins_onto l b (split 10 t))

-- what a text comes to
pub text_verdict : (text : Bytes) → verdict_of (progress_of text) ≡ load_of text
unfolding progress_of load_of lines_of line_at
text_verdict text = agrees text none [] fits_none ∙ ap (read_lines 1 none) (begins_none (some_parts text))
