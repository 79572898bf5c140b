-- What the program has read stands at the front of a buffer.
use Rattle.std.specs.Prelude.{ℕ, ◌≤◌, ◌<◌, List, length, take, Result, Ok, Err}
use Rattle.std.specs.Io.KnownBytes.{Consumes, IsAtEnd}
use Rattle.std.specs.declared.option.Option.{Option}

-- it lies within the buffer
abbrev pub Within : {E : Type 0} → List ℕ → Result ℕ E → Type 0
Within text (Ok n) = n ≤ length text
Within text (Err e) = Unit {0}

-- of a reader whose bytes are known: they are the ones that it gave, and all of them unless the buffer is full
abbrev pub Reads : {E : Type 0} → Option (List ℕ) → Option (List ℕ) → List ℕ → Result ℕ E → Type 0
Reads before after text (Ok n) = Consumes before after (take n text) × (n < length text → IsAtEnd after)
Reads before after text (Err e) = Unit {0}
