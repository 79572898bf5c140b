-- Pieces of bytes that stand one behind the other, each found by its number, and a choice among them.
use Rattle.std.specs.Prelude.{◌≡◌, Bool, true, false, List, [], ◌++◌, ℕ, zero, suc, ◌-◌, ◌≤◌, ◌<◌, eqb, length, get_or, take}
use Rattle.std.specs.Prelude.{if◌then◌else◌}
use Rattle.sheet.specs.Text.{Bytes}

-- the first n pieces, one after the other
unfoldable pub joined : (ℕ → Bytes) → ℕ → Bytes
joined f zero = []
joined f (suc n) = joined f n ++ f n

-- ---- t names the pieces that are new

-- the old ones that stay; a new one leaves nothing
abbrev pub staying : (ℕ → Bool) → (ℕ → Bytes) → ℕ → Bytes
staying t old r = if t r then [] else old r

-- the new ones alone
abbrev pub arriving : (ℕ → Bool) → (ℕ → Bytes) → ℕ → Bytes
arriving t new r = if t r then new r else []

-- each piece as it is then
abbrev pub replaced : (ℕ → Bool) → (ℕ → Bytes) → (ℕ → Bytes) → ℕ → Bytes
replaced t new old r = if t r then new r else old r

-- ---- in words and bytes

-- word r is where piece r ends
pub record EndsAt (ends : List ℕ) (f : ℕ → Bytes) (n : ℕ) : Type 0 where
  pub at : (r : ℕ) → r < n → get_or ends r 0 ≡ length (joined f (suc r))

-- where piece r begins: where the one before it ends
unfoldable pub start_in : List ℕ → ℕ → ℕ
start_in ends r = if eqb r 0 then 0 else get_or ends (r - 1) 0

-- none ends before it begins
pub record Rising (ends : List ℕ) (n : ℕ) : Type 0 where
  pub at : (r : ℕ) → r < n → start_in ends r ≤ get_or ends r 0

-- how long piece r is, if it stays
unfoldable pub staying_size : List ℕ → (ℕ → Bool) → ℕ → ℕ
staying_size ends t r = if t r then 0 else get_or ends r 0 - start_in ends r

-- n pieces stand in front of the bytes, and the words say where each ends
pub record Stand (ends : List ℕ) (out : Bytes) (f : ℕ → Bytes) (n : ℕ) : Type 0 where
  pub ended : EndsAt ends f n
  pub within : length (joined f n) ≤ length out
  pub bytes : take (length (joined f n)) out ≡ joined f n

-- some pieces do
pub record Standing (ends : List ℕ) (out : Bytes) (n : ℕ) : Type 0 where
  pub pieces : ℕ → Bytes
  pub stand : Stand ends out pieces n

-- whether some do
pub data Told (ends : List ℕ) (out : Bytes) (n : ℕ) : Bool → Type 0 where
  they_stand : Standing ends out n → Told ends out n true
  none_stand : ((f : ℕ → Bytes) → Stand ends out f n → ⊥) → Told ends out n false
