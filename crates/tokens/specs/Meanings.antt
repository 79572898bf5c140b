-- What the code that cuts tokens promises, by crates/sheet's `tokens`.
use Rattle.std.specs.Prelude.{◌≡◌, ◌≢◌, Bool, true, false, ◌&&◌, ◌||◌, [], ◌∷◌, ℕ, suc, pred, ◌+◌, ◌-◌, ◌<◌, ◌≤◌, length, take, drop, get_or, eqb, leb}
use Rattle.std.specs.Prelude.{if◌then◌else◌}
use Rattle.laws.specs.Lists.{member}
use Rattle.memory.specs.Codes as code
use Rattle.sheet.specs.Sizes.{most_open}
use Rattle.sheet.specs.Text.{Bytes, byte}
use Rattle.sheet.specs.Grammar.Tokens.{Tokens, tokens, in_word}
use Rattle.tokens.specs.Codes.{head_code}
use Rattle.tokens.specs.declared.Token.{Token}
use Rattle.tokens.specs.Signs as sign

-- ---- where tokens begin and end

-- spaces from `at` on end at r
pub record Skipped (s : Bytes) (at r : ℕ) : Type 0 where
  pub from : at ≤ r
  pub within : r ≤ length s
  pub same : tokens (drop r s) ≡ tokens (drop at s)
  pub stops : r < length s → get_or s r 0 ≢ 32

-- how many bytes of a word stand in front
unfoldable pub run : Bytes → ℕ
run [] = 0
run (b ∷ s) = if in_word b then suc (run s) else 0

pub record RunEnds (s : Bytes) (at r : ℕ) : Type 0 where
  pub is : r ≡ at + run (drop at s)
  pub within : r ≤ length s

-- `->` at a place
unfoldable pub arrow_in : Bytes → Bool
arrow_in [] = false
arrow_in (b ∷ []) = false
arrow_in (b ∷ c ∷ s) = eqb b (byte "-") && eqb c (byte ">")

unfoldable pub arrow_at : Bytes → ℕ → Bool
arrow_at s at = arrow_in (drop at s)

-- the bytes from a up to e
abbrev pub part : Bytes → ℕ → ℕ → Bytes
part s a e = take (e - a) (drop a s)

-- the token that begins at `at` ends at r
pub record TokenEnds (s : Bytes) (at r : ℕ) : Type 0 where
  pub from : at < r
  pub within : r ≤ length s
  pub is : tokens (drop at s) ≡ part s at r ∷ tokens (drop r s)

-- ---- a token, and what comes from it on

-- the tokens from t on
abbrev pub onward : Bytes → Token → Tokens
onward s t = tokens (drop t.start s)

-- t is the next token of s at its place: its bytes and its code, or no bytes and `end` where none is left
pub record Ahead (s : Bytes) (t : Token) : Type 0 where
  pub order : t.start ≤ t.end
  pub within : t.end ≤ length s
  pub code : t.code ≡ head_code (onward s t)
  pub one : t.code ≢ sign.end → (t.start < t.end) × (onward s t ≡ part s t.start t.end ∷ tokens (drop t.end s))
  pub none : t.code ≡ sign.end → onward s t ≡ []

-- the next token from `at` on
pub record NextIs (s : Bytes) (at : ℕ) (t : Token) : Type 0 where
  pub ahead : Ahead s t
  pub from : at ≤ t.start
  pub rest : tokens (drop at s) ≡ onward s t

-- ---- brackets: how many are open after a token of code k, where d were: `(`, `{` and `if` count up, `)`, `}` and `endif` down

unfoldable pub open_after : ℕ → ℕ → ℕ
open_after k d =
    if member k (code.conditional ∷ sign.open_bracket ∷ sign.open_brace ∷ []) then suc d
    else if member k (sign.close_bracket ∷ sign.close_brace ∷ sign.endif_word ∷ []) then pred d
    else d

-- and by bytes alone, each `if` left open for ever: after the byte b, which follows `i` or not
unfoldable pub open_by : Bool → ℕ → ℕ → ℕ
open_by p b d =
    if eqb b (byte "(") || eqb b (byte "{") then suc d
    else if eqb b (byte ")") || eqb b (byte "}") then pred d
    else if eqb b (byte "f") && p then suc d
    else d

unfoldable pub few_bytes : Bool → ℕ → Bytes → Bool
few_bytes p d [] = true
few_bytes p d (b ∷ s) = leb (open_by p b d) most_open && few_bytes (eqb b (byte "i")) (open_by p b d) s

unfoldable pub bytes_within : Bytes → Bool
bytes_within s = few_bytes false 0 s
