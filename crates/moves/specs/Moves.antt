-- Bytes moved within a slice.
use Rattle.std.specs.Prelude.{◌≡◌, Bool, true, false, List, ℕ, ◌≤◌, ◌<◌, length, take, drop}
use Rattle.sheet.specs.Text.{Bytes}
use Rattle.text.specs.Written.{put_bytes}
use Rattle.moves.specs.Joined.{joined, staying, arriving, replaced, EndsAt, Stand}

-- n bytes from `from` on
abbrev pub part : ℕ → ℕ → Bytes → Bytes
part from n out = take n (drop from out)

-- the pieces that stay are put one behind the other, and nothing behind them has changed
pub record Gathers (ends : List ℕ) (n : ℕ) (t : ℕ → Bool) (before after : Bytes) : Type 0 where
  pub is : (f : ℕ → Bytes) → Stand ends before f n → after ≡ put_bytes 0 (joined (staying t f) n) before
  pub size : length after ≡ length before

-- `fresh` are the ends of the new pieces alone: the ends of all, if they are within the room
pub data PlacesAs (t : ℕ → Bool) (new old : ℕ → Bytes) (n room : ℕ) (placed : List ℕ) : Bool → Type 0 where
  fits : length (joined (replaced t new old) n) ≤ room → EndsAt placed (replaced t new old) n → PlacesAs t new old n room placed true
  too_long : room < length (joined (replaced t new old) n) → PlacesAs t new old n room placed false

-- the words were `before`
pub record Places (ends fresh : List ℕ) (n : ℕ) (t : ℕ → Bool) (room : ℕ) (before placed : List ℕ) (r : Bool) : Type 0 where
  pub is : (new old : ℕ → Bytes) → EndsAt ends old n → EndsAt fresh (arriving t new) n → PlacesAs t new old n room placed r
  pub size : length placed ≡ length before
