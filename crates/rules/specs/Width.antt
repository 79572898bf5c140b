-- How many bytes the outcome of a rule may take in a report line, by the rule's type (proofs/Lengths.antt: it takes no more).
use Rattle.std.specs.Prelude.{ℕ}
use Rattle.ocl.specs.Types.{any, boolean, integer, real, class, Ty, void, simple, around}

-- a stop's `!16`, `!17` or `!19` has three bytes, and an object three; an Integer has eleven, a Real 17, and a value of size 128 at most 2,304
unfoldable pub width : Ty → ℕ
width void = 3
width (simple any) = 2304
width (simple boolean) = 3
width (simple integer) = 11
width (simple real) = 17
width (simple (class c)) = 3
width (around l t) = 2304
