-- Document 01, the table of refusals and stops, and document 02's: 19 (F-5), 20 (F-7), 21 (F-10), 22 (F-12), 23 and 24 (F-13). Each has
-- its trade's word.
use Rattle.std.specs.Prelude.{ℕ}
use Rattle.memory.specs.declared.refusals.Refusal.{Refusal}
use Rattle.memory.specs.declared.refusals.Refusal.TheVariants.{ShortBench, LongSheet, BadLine, OverMeasure, OutOfRow, UnknownPart, WrongThread, BrokenTree, LooseEnd, NoMatch, WrongPiece, NoSuchMark, TooManyLayers, NotListed, OtherClass, StepStop, SizeStop, SlipTooLong, OverTheRange, NotASentence, BoardFull, OutsideProfile, CallUpward, UnknownDefinition}
use Rattle.memory.specs.declared.refusals.Refused.{Refused}
use Rattle.memory.specs.declared.refusals.Misread.{Misread}
use Rattle.memory.specs.declared.refusals.Misread.TheVariants.{Malformed, OverLimit}

abbrev pub number : Refusal → ℕ
number ShortBench = 1
number LongSheet = 2
number BadLine = 3
number OverMeasure = 4
number OutOfRow = 5
number UnknownPart = 6
number WrongThread = 7
number BrokenTree = 8
number LooseEnd = 9
number NoMatch = 10
number WrongPiece = 11
number NoSuchMark = 12
number TooManyLayers = 13
number NotListed = 14
number OtherClass = 15
number StepStop = 16
number SizeStop = 17
number SlipTooLong = 18
number OverTheRange = 19
number NotASentence = 20
number BoardFull = 21
number OutsideProfile = 22
number CallUpward = 23
number UnknownDefinition = 24

-- a refusal at a line, or at a node
abbrev pub at : Refusal → ℕ → Refused
at e k = record { refusal = e; place = k }

-- 3 is for what is not of its form, 4 for a number, a type or a value that is over the limits
abbrev pub refusal_of : Misread → Refusal
refusal_of Malformed = BadLine
refusal_of OverLimit = OverMeasure
