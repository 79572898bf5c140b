-- Bytes written at a position. proofs/WrittenLaws.antt: one thing written behind another is both written at once.
use Rattle.std.specs.Prelude.{ℕ, ◌+◌, ◌-◌, ◌*◌, ◌≤◌, ◌<◌, ◌≡◌, ◌++◌, length, take, drop}
use Rattle.sheet.specs.Text.{Bytes}
use Rattle.text.specs.declared.spelling.Lead.{Lead}

-- w in the place of as many bytes from `at` on
abbrev pub put_bytes : ℕ → Bytes → Bytes → Bytes
put_bytes at w out = take at out ++ w ++ drop (at + length w) out

pub record Puts (at : ℕ) (w before after : Bytes) (r : ℕ) : Type 0 where
  pub is : after ≡ put_bytes at w before
  pub end : r ≡ at + length w

-- n's digit at the place that p stands for, and what stands behind it
pub record LeadOf (n p : ℕ) (t : Lead) : Type 0 where
  pub is : n ≡ (t.digit - 48) * p + t.rest
  pub digit : (48 ≤ t.digit) × (t.digit ≤ 57)
  pub rest : t.rest < p
