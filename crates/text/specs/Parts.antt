-- Where parts of a text end, and a line that is cut into its fields. proofs/PartLaws.antt ties both to crates/sheet's `split`.
use Rattle.std.specs.Prelude.{ℕ, zero, suc, ◌+◌, ◌-◌, ◌≤◌, ◌<◌, min, ◌≡◌, List, [], ◌∷◌, length, get_or, take, drop, eqb}
use Rattle.std.specs.Prelude.{if◌then◌else◌}
use Rattle.sheet.specs.Text.{Bytes, fields_of}
use Rattle.text.specs.declared.parts.Fields.{Fields}

-- how many bytes stand before the first `sep`
unfoldable pub until_sep : ℕ → Bytes → ℕ
until_sep sep [] = 0
until_sep sep (b ∷ s) = if eqb b sep then 0 else until_sep sep s + 1

pub record PartEnd (sep : ℕ) (s : Bytes) (r : ℕ) : Type 0 where
  pub is : r ≡ until_sep sep s
  pub within : r ≤ length s

-- the bytes of s from a up to e are x
pub record BytesAt (s : Bytes) (a e : ℕ) (x : Bytes) : Type 0 where
  pub order : a ≤ e
  pub within : e ≤ length s
  pub is : take (e - a) (drop a s) ≡ x

-- where the field k starts: after the field before it and a tab
unfoldable pub field_start : List ℕ → ℕ → ℕ
field_start ends zero = 0
field_start ends (suc k) = get_or ends k 0 + 1

-- the first ten fields at most lie where the ends say
pub record Cut (line : Bytes) (f : Fields) : Type 0 where
  pub counted : f.count ≡ min (length (fields_of line)) 11
  pub each : (k : ℕ) → k < f.count → k < 10 → BytesAt line (field_start f.ends k) (get_or f.ends k 0) (get_or (fields_of line) k [])
