-- A piece of a text, byte by byte. Assumes nothing.
use Prim.Native.Nat.{ℕ, ◌+◌, ◌<◌, ◌≤◌}
use mathlib.Core.Path.{◌≡◌, sym, ap, ◌∙◌}
use mathlib.Core.Option.{Option, none, some, none-ne-some, some-injective}
use mathlib.Core.List.{◌∷◌, ◌++◌}
use lib.ListN.{length, get_or, drop, drop_of_length-le}
use Rattle.std.specs.Prelude.{Result, Ok, Err}
use Rattle.laws.proofs.Parts.{at_next}
use Rattle.sheet.specs.Text.{Bytes}
use Rattle.load.specs.Reader.{Progress, reading, byte_read, read_from, line_of, progress_of, window_for, state_of, reader_of, ByteRead}
use Rattle.load.specs.declared.reader.Reader.{Reader}
use Rattle.load.specs.declared.refusal.Refused.{Refused}
use Rattle.load.proofs.Progress.{Sound, is_refused, is_reading, byte_sound, progress_sound, progress_append, refused_stays}

abbrev reader : Result Reader Refused → Option Reader
reader (Ok s) = some s
reader (Err e) = none

-- what is left of the piece leads from `now` to the progress after the piece
pub record Going (goal : Progress) (now : Result Reader Refused) (rest : Bytes) : Type 0 where
  pub at : Progress
  pub sound : Sound at
  pub is : now ≡ state_of at
  pub leads : read_from at rest ≡ goal

pub going_start : (text piece : Bytes) {s : Result Reader Refused} → s ≡ reader_of text → Going (progress_of (text ++ piece)) s piece
unfolding reader_of
going_start text piece e = record { at = progress_of text; sound = progress_sound text; is = e; leads = sym (progress_append text piece) }

stopped : {goal : Progress} {e : Refused} (rest : Bytes) {at : Progress} → Sound at → Err e ≡ state_of at → read_from at rest ≡ goal → Err e ≡ state_of goal
unfolding state_of
stopped rest (is_refused {c} {n} h) is leads = is ∙ ap state_of (sym (refused_stays rest c n) ∙ leads)
stopped rest (is_reading {run} {l} fit) is leads = absurd (none-ne-some _ (ap reader is))

-- a refused text stays refused, whatever follows
pub still_refused : (text piece : Bytes) {e : Refused} → Err e ≡ reader_of text → Err e ≡ reader_of (text ++ piece)
unfolding reader_of
still_refused text piece e = let g = going_start text piece e in stopped piece g.sound g.is g.leads

module _ {goal : Progress} {now : Reader} (piece : Bytes) (i : ℕ) where
  turn : {at : Progress} {b : ℕ} {rest : Bytes} {next : Result Reader Refused} → Sound at → Ok now ≡ state_of at → read_from at (b ∷ rest) ≡ goal → ByteRead now.window now.line b next → Going goal next rest
  unfolding state_of read_from
  turn (is_refused {c} {n} h) is leads read = absurd (none-ne-some _ (sym (ap reader is)))
  turn {b = b} (is_reading {run} {l} fit) is leads read =
      let same : now ≡ record { line = line_of l; window = window_for run } = some-injective _ _ (ap reader is) in
      record {
        at = byte_read (reading run l) b;
        sound = byte_sound b (is_reading fit);
        is = read.is run l fit (ap (λ (s : Reader). s.window) same) (ap (λ (s : Reader). s.line) same);
        leads = leads;
      }

  -- the next byte
  pub going_on : {next : Result Reader Refused} → i < length piece → Going goal (Ok now) (drop i piece) → ByteRead now.window now.line (get_or piece i 0) next → Going goal next (drop (i + 1) piece)
  going_on h g read = turn g.sound g.is (ap (read_from g.at) (sym (at_next 0 piece i h)) ∙ g.leads) read

  -- it refuses the text
  pub going_refused : {e : Refused} → i < length piece → Going goal (Ok now) (drop i piece) → ByteRead now.window now.line (get_or piece i 0) (Err e) → Err e ≡ state_of goal
  going_refused h g read = let f = going_on h g read in stopped (drop (i + 1) piece) f.sound f.is f.leads

  -- the piece has ended
  pub going_over : length piece ≤ i → Going goal (Ok now) (drop i piece) → Ok now ≡ state_of goal
  unfolding read_from
  going_over h g = g.is ∙ ap state_of (sym (ap (read_from g.at) (drop_of_length-le piece h)) ∙ g.leads)
