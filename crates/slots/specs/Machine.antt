-- Reading a value from left to right: what is left of the field is read into the collections that are open. What crates/sheet's
-- `read_value` gives of the whole field is, at each place, what `start_read`, `enter`, `among` or `resume_read` gives of the rest
-- (proofs/MachineLaws.antt).
use Rattle.std.specs.Prelude.{◌≡◌, Bool, true, false, ◌&&◌, List, [], ◌∷◌, ◌++◌, ℕ, suc, ◌+◌, ◌-◌, ◌<◌, ◌≤◌, length, take, drop, eqb, leb, Result, Ok, Err}
use Rattle.std.proofs.Math.Option.{Option, none, some}
use Rattle.laws.specs.Choice.{on_some}
use Rattle.std.specs.Prelude.{if◌then◌else◌}
use Rattle.laws.specs.Lists.{Each}
use Rattle.ocl.specs.Types.{Kind}
use Rattle.ocl.specs.Values.{Value, coll, Values, nil, cons, size, append, every_part, every_parts, largest}
use Rattle.sheet.specs.Text.{Bytes, at_end}
use Rattle.sheet.specs.Spelling.{value_parser, members_parser, more_parser, read_value}
use Rattle.sheet.specs.Limits.{part_within, nesting, nestings, value_within as within_limits}
use Rattle.values.specs.Cells.{head, enc}
use Rattle.slots.specs.declared.reader.Open.{Open}
use Rattle.slots.specs.declared.reader.Turn.{Turn}
use Rattle.slots.specs.declared.reader.Turn.TheVariants as turn
use Rattle.memory.specs.declared.refusals.Misread.{Misread}
use Rattle.memory.specs.declared.refusals.Misread.TheVariants.{Malformed, OverLimit}

-- ---- the collections that are open, the inmost first

-- a collection with the members that are read, and how many parts may still be read in it
pub record Frame : Type 0 where
  pub kind : Kind
  pub inside : Values
  pub parts : ℕ

-- members, and more of them
unfoldable pub glue : Values → Values → Values
glue nil vs = vs
glue (cons u us) vs = cons u (glue us vs)

abbrev pub grown : Frame → Value → Frame
grown x v = record { kind = x.kind; inside = append v x.inside; parts = x.parts }

-- v is read, and s is left
unfoldable pub resume_read : List Frame → Value → Bytes → Option Value
resume_read [] v s = at_end v s
resume_read (x ∷ fs) v s = on_some (more_parser x.parts s) (λ y. resume_read fs (coll x.kind (glue (append v x.inside) y.0)) y.1)

-- a member of x is read
abbrev pub among : Frame → List Frame → Bytes → Option Value
among x fs s = on_some (more_parser x.parts s) (λ y. resume_read fs (coll x.kind (glue x.inside y.0)) y.1)

-- a value is to be read
abbrev pub start_read : ℕ → List Frame → Bytes → Option Value
start_read n fs s = on_some (value_parser n s) (λ x. resume_read fs x.0 x.1)

-- a collection's bracket is read
abbrev pub enter : ℕ → Kind → List Frame → Bytes → Option Value
enter n k fs s = on_some (members_parser n s) (λ y. resume_read fs (coll k y.0) y.1)

-- ---- their cells

unfoldable pub laid : List Frame → List ℕ
laid [] = []
laid (x ∷ fs) = laid fs ++ enc (coll x.kind x.inside)

-- where the cell of the n-th open collection is, the outermost first
unfoldable pub head_at : Open → ℕ → ℕ
head_at o n = if eqb n 1 then 0 else if eqb n 2 then o.second else o.third

-- the inmost is closed
abbrev pub outward : Open → Open
outward o = record { depth = o.depth - 1; size = o.size; second = o.second; third = o.third }

-- a limit is passed
abbrev pub beyond : Open → Open
beyond o = record { depth = o.depth; size = largest + 1; second = o.second; third = o.third }

pub data Heads (o : Open) : List Frame → Type 0 where
  heads_nil : Heads o []
  heads_cons : {x : Frame} {fs : List Frame} → head_at o (suc (length fs)) ≡ length (laid fs) → Heads o fs → Heads o (x ∷ fs)

-- ---- limits

-- a value may be put into a table with so much room
unfoldable pub may_be : ℕ → Value → Bool
may_be room v = within_limits v && leb (size v) room

-- whatever the field spells is over a limit
pub record Never (f : Bytes) (room : ℕ) : Type 0 where
  pub is : (v : Value) → read_value f ≡ some v → may_be room v ≡ false

-- whatever the field spells has one cell more, and is nested d deeper
pub record Deep (f : Bytes) (fs : List Frame) (d : ℕ) : Type 0 where
  pub wide : (v : Value) → read_value f ≡ some v → length (laid fs) < size v
  pub deep : (v : Value) → read_value f ≡ some v → length fs + d ≤ nesting v

-- v's parts are within their limits, and so is its nesting inside d collections
pub record Tidy (v : Value) (d : ℕ) : Type 0 where
  pub parts : every_part part_within v ≡ true
  pub nested : nesting v + d ≤ 3

pub data FramesWithin : List Frame → Type 0 where
  within_none : FramesWithin []
  within_more : {x : Frame} {fs : List Frame} → every_parts part_within x.inside ≡ true → nestings x.inside + suc (length fs) ≤ 3
      → FramesWithin fs → FramesWithin (x ∷ fs)

-- the cells of the open collections lie in front, and X after them
pub record InFront (cells : List ℕ) (o : Open) (fs : List Frame) (X : List ℕ) : Type 0 where
  pub small : o.size ≤ largest
  pub room : o.size ≤ length cells
  pub laid : take o.size cells ≡ laid fs ++ X
  pub sound : FramesWithin fs
  pub heads : Heads o fs

pub record Sure (f : Bytes) (cells : List ℕ) (o : Open) (fs : List Frame) (X : List ℕ) : Type 0 where
  pub depth : o.depth ≡ length fs
  pub over : largest < o.size → Never f (length cells)
  pub fine : o.size ≤ largest → InFront cells o fs X

-- ---- where the reading stands

-- at most as many parts are left as bytes
pub record Enough (f : Bytes) (at : ℕ) (fs : List Frame) : Type 0 where
  pub within : at ≤ length f
  pub deep : length fs ≤ at
  pub parts : Each (λ (x : Frame). length f ≤ at + x.parts) fs

pub record Wanted (f : Bytes) (cells : List ℕ) (at : ℕ) (o : Open) : Type 0 where
  pub frames : List Frame
  pub parts : ℕ
  pub sure : Sure f cells o frames []
  pub enough : Enough f at frames
  pub left : length f ≤ at + parts
  pub same : read_value f ≡ start_read parts frames (drop at f)

pub record Opened (f : Bytes) (cells : List ℕ) (at : ℕ) (o : Open) : Type 0 where
  pub kind : Kind
  pub parts : ℕ
  pub frames : List Frame
  pub sure : Sure f cells o (record { kind = kind; inside = nil; parts = parts } ∷ frames) []
  pub enough : Enough f at (record { kind = kind; inside = nil; parts = parts } ∷ frames)
  pub same : read_value f ≡ enter (suc parts) kind frames (drop at f)

pub record Joined (f : Bytes) (cells : List ℕ) (at : ℕ) (o : Open) : Type 0 where
  pub frame : Frame
  pub frames : List Frame
  pub sure : Sure f cells o (frame ∷ frames) []
  pub enough : Enough f at (frame ∷ frames)
  pub same : read_value f ≡ among frame frames (drop at f)

pub record ValueEnd (f : Bytes) (cells : List ℕ) (at : ℕ) (o : Open) : Type 0 where
  pub frames : List Frame
  pub value : Value
  pub sure : Sure f cells o frames (enc value)
  pub tidy : o.size ≤ largest → Tidy value (length frames)
  pub enough : Enough f at frames
  pub same : read_value f ≡ resume_read frames value (drop at f)

pub data Live (f : Bytes) (cells : List ℕ) (at phase : ℕ) (o : Open) : Type 0 where
  live_wanted : phase ≡ 0 → Wanted f cells at o → Live f cells at phase o
  live_opened : phase ≡ 1 → Opened f cells at o → Live f cells at phase o
  live_joined : phase ≡ 2 → Joined f cells at o → Live f cells at phase o

-- ---- what the code answers

-- the field spells no value, one that may not be put into the room, or one whose cells lie in front
pub data ReadIs (f : Bytes) (cells : List ℕ) : Result ℕ Misread → Type 0 where
  read_bad : read_value f ≡ none → ReadIs f cells (Err Malformed)
  read_over : (v : Value) → read_value f ≡ some v → may_be (length cells) v ≡ false → ReadIs f cells (Err OverLimit)
  read_is : (v : Value) {n : ℕ} → read_value f ≡ some v → may_be (length cells) v ≡ true → n ≡ size v → take n cells ≡ enc v → ReadIs f cells (Ok n)

pub data TurnIs (f : Bytes) (cells : List ℕ) (from : ℕ) : Turn → Type 0 where
  turn_on : {at phase : ℕ} {o : Open} → from ≤ at → Live f cells at phase o → TurnIs f cells from (turn.On at phase o)
  turn_stop : {r : Result ℕ Misread} → ReadIs f cells r → TurnIs f cells from (turn.Stop r)

pub record AddsCell (cell : ℕ) (before : List ℕ) (o : Open) (after : List ℕ) (r : Open) : Type 0 where
  pub depth : r.depth ≡ o.depth
  pub second : r.second ≡ o.second
  pub third : r.third ≡ o.third
  pub over : largest < o.size → largest < r.size
  pub is : (f : Bytes) (fs : List Frame) (d : ℕ) → Deep f fs d → Sure f before o fs [] → Sure f after r fs (cell ∷ [])

pub record OpensCell (cell : ℕ) (before : List ℕ) (o : Open) (after : List ℕ) (r : Open) : Type 0 where
  pub is : (f : Bytes) (fs : List Frame) (k : Kind) (n : ℕ) → Deep f fs 1 → cell ≡ head (coll k nil) → Sure f before o fs []
      → Sure f after r (record { kind = k; inside = nil; parts = n } ∷ fs) []

pub record Raises (before : List ℕ) (o : Open) (after : List ℕ) : Type 0 where
  pub is : (f : Bytes) (x : Frame) (fs : List Frame) (u : Value) → (o.size ≤ largest → Tidy u (suc (length fs))) → Sure f before o (x ∷ fs) (enc u)
      → Sure f after o (grown x u ∷ fs) []

pub record Last (f : Bytes) (at : ℕ) (o : Open) (r : Result ℕ Misread) : Type 0 where
  pub is : (cells : List ℕ) → ValueEnd f cells at o → o.depth ≡ 0 → ReadIs f cells r
