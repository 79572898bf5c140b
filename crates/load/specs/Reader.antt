-- The state of the reader after a text: what it holds of the lines read, and of the line that has begun.
use Rattle.std.specs.Prelude.{ℕ, ◌+◌, ◌-◌, ◌*◌, ◌≤◌, min, ◌≡◌, Bool, true, false, List, [], ◌∷◌, ◌++◌, length, replicate, eqb}
use Rattle.std.proofs.Math.Option.{Option, none, some}
use Rattle.std.specs.Prelude.{Option as Maybe, None, Some, Result, Ok, Err}
use Rattle.std.specs.Prelude.{if◌then◌else◌}
use Rattle.sheet.specs.Text.{Bytes, is_digit}
use Rattle.sheet.specs.Lines.{a_number}
use Rattle.text.specs.Written.{Puts}
use Rattle.load.specs.Reading.{Run, Step, taken, refuse, step_window, step_length, step, program}
use Rattle.load.specs.Record.{window_of, Lengths, empty_window}
use Rattle.load.specs.Tally.{with_ring}
use Rattle.load.specs.Refusals.{refusal_of}
use Rattle.load.specs.declared.refusal.Refusal.{Refusal}
use Rattle.load.specs.declared.refusal.Refusal.TheVariants.{Misspelt}
use Rattle.load.specs.declared.refusal.Refused.{Refused}
use Rattle.load.specs.declared.window.Window.{Window}
use Rattle.load.specs.declared.window.Tally.{Tally}
use Rattle.load.specs.declared.reader.Reader.{Reader}
use Rattle.load.specs.declared.reader.State.{State}

-- ---- a line, byte by byte

-- no byte yet, a number, or what is no number
abbrev pub Line : Type 0
Line = Result (Maybe ℕ) Refusal

unfoldable pub first_byte : ℕ → Line
first_byte b = if is_digit b then Ok (Some (b - 48)) else Err Misspelt

-- nothing follows a leading zero; a number is cut at a million on the way, which no limit lies above
unfoldable pub with_digit : ℕ → ℕ → Line
with_digit n b = if eqb n 0 then Err Misspelt else if is_digit b then Ok (Some (min n 1000000 * 10 + (b - 48))) else Err Misspelt

abbrev pub with_byte : Line → ℕ → Line
with_byte (Ok None) b = first_byte b
with_byte (Ok (Some n)) b = with_digit n b
with_byte (Err e) b = Err e

-- the bytes after a line that has begun
unfoldable pub line_from : Line → Bytes → Line
line_from l [] = l
line_from l (b ∷ s) = line_from (with_byte l b) s

unfoldable pub line_of : Bytes → Line
line_of s = line_from (Ok None) s

abbrev pub is_empty : Line → Bool
is_empty (Ok None) = true
is_empty (Ok (Some n)) = false
is_empty (Err e) = false

-- a number is cut at a million, which no limit lies above
abbrev pub cut_of : Option ℕ → Result ℕ Refusal
cut_of none = Err Misspelt
cut_of (some n) = Ok (min n 1000000)

-- ---- a text, byte by byte

-- a refusal's number and line; or what the lines so far hold, and the bytes of the line that has begun
pub data Progress : Type 0 where
  refused : ℕ → ℕ → Progress
  reading : Option Run → Bytes → Progress

-- the number of the line that has begun
unfoldable pub line_at : Option Run → ℕ
line_at none = 1
line_at (some r) = length r.lengths + 2

unfoldable pub on_line : Step → ℕ → Progress
on_line (taken r) n = reading (some r) []
on_line (refuse c) n = refused c n

unfoldable pub byte_read : Progress → ℕ → Progress
byte_read (refused c n) b = refused c n
byte_read (reading run l) b = if eqb b 10 then on_line (step run (a_number l)) (line_at run) else reading run (l ++ (b ∷ []))

unfoldable pub read_from : Progress → Bytes → Progress
read_from p [] = p
read_from p (b ∷ s) = read_from (byte_read p b) s

unfoldable pub progress_of : Bytes → Progress
progress_of text = read_from (reading none []) text

-- ---- the state that stands for it

unfoldable pub window_for : Option Run → Window
window_for none = empty_window 0
window_for (some r) = window_of r.window r.lengths

unfoldable pub state_of : Progress → Result Reader Refused
state_of (refused c n) = Err (record { why = refusal_of c; place = n })
state_of (reading run l) = Ok (record { line = line_of l; window = window_for run })

-- the state after a text, however the text was cut into pieces
unfoldable pub reader_of : Bytes → Result Reader Refused
reader_of text = state_of (progress_of text)

-- ---- what the reader's functions give

unfoldable pub empty_ring : List ℕ
empty_ring = replicate 64 0

-- the record by its tally and the ring
abbrev pub ringed : Result Tally Refusal → List ℕ → Result Window Refusal
ringed (Ok t) ring = Ok (with_ring t ring)
ringed (Err e) ring = Err e

-- the reader by what it keeps and the ring; nothing of the ring is kept after a refusal
abbrev pub reader_with : Result State Refused → List ℕ → Result Reader Refused
reader_with (Ok s) ring = Ok (record { line = s.line; window = with_ring s.tally ring })
reader_with (Err e) ring = Err e

-- the record after a line
unfoldable pub on_window : Step → Result Window Refusal
on_window (taken r) = Ok (window_of r.window r.lengths)
on_window (refuse c) = Err (refusal_of c)

-- the window's and the lengths' limits hold
pub data Fits : Option Run → Type 0 where
  fits_none : Fits none
  fits_some : {r : Run} → Lengths r.window r.lengths → Fits (some r)

-- the first line, and a length's line, by a number that was cut at a million
pub record FirstLine (n : ℕ) (r : Result Window Refusal) : Type 0 where
  pub is : (k : ℕ) → n ≡ min k 1000000 → r ≡ on_window (step_window k)

pub record LengthLine (w : Window) (n : ℕ) (r : Result Window Refusal) : Type 0 where
  pub is : (run : Run) (x : ℕ) → Lengths run.window run.lengths → w ≡ window_of run.window run.lengths → n ≡ min x 1000000 → r ≡ on_window (step_length run x)

-- any line
pub record LineRead (w : Window) (line : Line) (r : Result Window Refusal) : Type 0 where
  pub is : (run : Option Run) (l : Bytes) → Fits run → w ≡ window_for run → line ≡ line_of l → r ≡ on_window (step run (a_number l))

-- a line ends
pub record Ended (w : Window) (line : Line) (s : Result Reader Refused) : Type 0 where
  pub is : (run : Option Run) (l : Bytes) → Fits run → w ≡ window_for run → line ≡ line_of l → s ≡ state_of (on_line (step run (a_number l)) (line_at run))

-- one byte more
pub record ByteRead (w : Window) (line : Line) (b : ℕ) (s : Result Reader Refused) : Type 0 where
  pub is : (run : Option Run) (l : Bytes) → Fits run → w ≡ window_for run → line ≡ line_of l → s ≡ state_of (byte_read (reading run l) b)

-- a piece more of a text
pub record Feeds (s : Result Reader Refused) (piece : Bytes) (t : Result Reader Refused) : Type 0 where
  pub is : (text : Bytes) → s ≡ reader_of text → t ≡ reader_of (text ++ piece)

-- what is printed where the text ends
pub record Prints (s : Result Reader Refused) (before after : Bytes) (n : ℕ) : Type 0 where
  pub is : (text : Bytes) → s ≡ reader_of text → Puts 0 (program text) before after n
  pub room : n ≤ length after
