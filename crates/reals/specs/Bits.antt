-- Document 02, F-8: a Real by the 64 bits of its binary64 number.
use Rattle.std.specs.Prelude.{Bool, ℕ, zero, suc, ◌+◌, ◌*◌, ◌/◌, ◌%◌, ◌^◌, leb}
use Rattle.std.specs.Prelude.{if◌then◌else◌}
use Rattle.reals.specs.Reals.{Real, binary}

-- the bits without the sign: the exponent's field, then the significand without its first digit. That digit is 2^52, and so
-- adds one to the field. It is also how many Reals there are from 0 up to this one, hence the name
unfoldable pub rank : Real → ℕ
rank (binary s m e) = e * 2 ^ 52 + m

-- the sign's bit comes first
unfoldable pub bits : Real → ℕ
bits (binary s m e) = (if s then 2 ^ 63 else 0) + rank (binary s m e)

-- the Real with a sign, an exponent's field and the digits behind it. With a field of 0 there is no first digit; a field of
-- 2047, an infinity's or a NaN's, gives what is no binary64 number
unfoldable pub from_fields : Bool → ℕ → ℕ → Real
from_fields s zero t = binary s t 0
from_fields s (suc x) t = binary s (2 ^ 52 + t) x

unfoldable pub from_bits : ℕ → Real
from_bits b = from_fields (leb (2 ^ 63) b) (b % 2 ^ 63 / 2 ^ 52) (b % 2 ^ 52)
