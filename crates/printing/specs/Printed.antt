-- What is printed stands at the front of the output.
use Rattle.std.specs.Prelude.{ℕ, ◌≤◌, ◌≡◌, length, take}
use Rattle.sheet.specs.Text.{Bytes}

-- the first n bytes of out are b, all of it
pub record Front (b out : Bytes) (n : ℕ) : Type 0 where
  pub size : n ≡ length b
  pub room : n ≤ length out
  pub is : take n out ≡ b
