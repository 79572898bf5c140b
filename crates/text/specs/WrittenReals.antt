-- A Real written into the output. It stands apart, since the promises of the calls speak of no f64.
use Rattle.std.specs.Prelude.{◌≡◌, ℕ, T, Float}
use Rattle.reals.specs.Reals.{Real, is_binary64}
use Rattle.reals.specs.Floats.{f64_of}
use Rattle.reals.specs.Spelling.{spell_real}
use Rattle.sheet.specs.Text.{Bytes}
use Rattle.text.specs.Written.{Puts}

-- the Real that x is, as document 02 spells it (F-8)
pub record PutsReal (at : ℕ) (x : Float) (before after : Bytes) (r : ℕ) : Type 0 where
  pub is : (y : Real) → T (is_binary64 y) → x ≡ f64_of y → Puts at (spell_real y) before after r
