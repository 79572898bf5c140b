-- The verdicts put where they belong: old ones moved there, fresh ones from the buffer, or evaluated once more where it did not hold them.
use Rattle.std.specs.Prelude.{◌≡◌, Bool, true, List, ℕ, suc, ◌+◌, ◌≤◌, length, take}
use Rattle.ocl.specs.Types.{Ty}
use Rattle.sheet.specs.Text.{Bytes}
use Rattle.sheet.specs.Sheet.{Sheet}
use Rattle.text.specs.Written.{put_bytes}
use Rattle.tables.specs.declared.Counts.{Counts}
use Rattle.tables.specs.Layout.{Kept}
use Rattle.rules.specs.Accepted.{Accepted}
use Rattle.rows.specs.Bits.{bit}
use Rattle.moves.specs.Joined.{joined, staying, arriving, replaced, EndsAt, Stand}
use Rattle.renewal.specs.Fresh.{Buffers, lines_at}

-- ---- fresh lines

-- the buffer has the lines of the rules that t names, and `fresh` where they end
pub record Held (st : Counts) (w0 w1 : List ℕ) (t : ℕ → Bool) (fresh : List ℕ) (buf : Bytes) (s : Sheet) (ts : List Ty) : Type 0 where
  pub accepted : Accepted st w0 w1 s ts
  pub end : ℕ
  pub held : Buffers buf (joined (arriving t (lines_at s)) st.rules) end
  pub ended : EndsAt fresh (arriving t (lines_at s)) st.rules

-- rule r is among them, and there is room for its lines at `at`
pub record FreshFits (st : Counts) (w0 w1 fresh : List ℕ) (buf : Bytes) (r at room : ℕ) : Type 0 where
  pub sheet : Sheet
  pub types : List Ty
  pub told : ℕ → Bool
  pub is : Held st w0 w1 told fresh buf sheet types
  pub chosen : told r ≡ true
  pub enough : at + length (lines_at sheet r) ≤ room

pub record PutsFresh (st : Counts) (w0 w1 fresh : List ℕ) (buf : Bytes) (r at : ℕ) (before after : List ℕ) (out now : Bytes) : Type 0 where
  pub is : (s : Sheet) (ts : List Ty) (t : ℕ → Bool) → Held st w0 w1 t fresh buf s ts → t r ≡ true → now ≡ put_bytes at (lines_at s r) out
  pub size : length now ≡ length out
  pub kept : Kept before after

-- ---- all lines: `placed` is where each rule's end

pub record Placing (st : Counts) (w0 w1 : List ℕ) (touched : ℕ) (fresh : List ℕ) (buf : Bytes) (placed : List ℕ) (room : ℕ) (s : Sheet) (ts : List Ty) (old : ℕ → Bytes) : Type 0 where
  pub held : Held st w0 w1 (bit touched) fresh buf s ts
  pub placed_at : EndsAt placed (replaced (bit touched) (lines_at s) old) st.rules
  pub fits : length (joined (replaced (bit touched) (lines_at s) old) st.rules) ≤ room

pub record SomePlacing (st : Counts) (w0 w1 : List ℕ) (touched : ℕ) (fresh : List ℕ) (buf : Bytes) (placed : List ℕ) (room : ℕ) : Type 0 where
  pub sheet : Sheet
  pub types : List Ty
  pub old : ℕ → Bytes
  pub is : Placing st w0 w1 touched fresh buf placed room sheet types old

-- rule r: what stays of the rules up to it has been gathered in front
pub record PutsRule (st : Counts) (w0 w1 : List ℕ) (touched : ℕ) (fresh : List ℕ) (buf : Bytes) (placed : List ℕ) (r : ℕ) (before after : List ℕ) (out now : Bytes) : Type 0 where
  pub is : (s : Sheet) (ts : List Ty) (old : ℕ → Bytes) → Placing st w0 w1 touched fresh buf placed (length out) s ts old
      → take (length (joined (staying (bit touched) old) (suc r))) out ≡ joined (staying (bit touched) old) (suc r)
      → now ≡ put_bytes (length (joined (replaced (bit touched) (lines_at s) old) r)) (replaced (bit touched) (lines_at s) old r) out
  pub size : length now ≡ length out
  pub kept : Kept before after

-- all of them, where the old ones that stay have been gathered in front of what was `first`
pub record SpreadsRules (st : Counts) (w0 w1 : List ℕ) (touched : ℕ) (fresh : List ℕ) (buf : Bytes) (placed : List ℕ) (before after : List ℕ) (out now : Bytes) : Type 0 where
  pub is : (s : Sheet) (ts : List Ty) (old : ℕ → Bytes) (first : Bytes) → Placing st w0 w1 touched fresh buf placed (length out) s ts old
      → out ≡ put_bytes 0 (joined (staying (bit touched) old) st.rules) first → length out ≡ length first
      → now ≡ put_bytes 0 (joined (replaced (bit touched) (lines_at s) old) st.rules) first
  pub size : length now ≡ length out
  pub kept : Kept before after

-- the same from the start: the old ones stood in the bytes, with their ends in `ends`
pub record Rearranges (st : Counts) (w0 w1 : List ℕ) (touched : ℕ) (ends fresh : List ℕ) (buf : Bytes) (placed : List ℕ) (before after : List ℕ) (out now : Bytes) : Type 0 where
  pub is : (s : Sheet) (ts : List Ty) (old : ℕ → Bytes) → Placing st w0 w1 touched fresh buf placed (length out) s ts old → Stand ends out old st.rules
      → now ≡ put_bytes 0 (joined (replaced (bit touched) (lines_at s) old) st.rules) out
  pub size : length now ≡ length out
  pub kept : Kept before after
