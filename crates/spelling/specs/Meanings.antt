-- What is written of the cells of values, and where the bytes and the cells go on.
use Rattle.std.specs.Prelude.{◌≡◌, List, ◌++◌, ℕ, ◌+◌, ◌≤◌, length, drop}
use Rattle.std.proofs.Math.Seq.{slice}
use Rattle.ocl.specs.Values.{Value, Values, count}
use Rattle.sheet.specs.Text.{Bytes}
use Rattle.sheet.specs.Spelling.{spell_value, spell_members}
use Rattle.text.specs.Written.{Puts}
use Rattle.values.specs.Cells.{enc, encs, Fits, AllFit}
use Rattle.values.specs.Meanings.{Means}
use Rattle.values.specs.declared.Simple.{Simple}
use Rattle.spelling.specs.declared.Next.{Next}

-- there is room at `at` for the value whose cells lie from `from` to `end`
pub record ValueFits (at : ℕ) (cells : List ℕ) (from end room : ℕ) : Type 0 where
  pub v : Value
  pub fits : Fits v
  pub order : from ≤ end
  pub within : end ≤ length cells
  pub lies : slice from end cells ≡ enc v
  pub enough : at + length (spell_value v) ≤ room

-- ---- within the recursion

-- cs are the first of the cells from `from` on
pub record CellsStand (cs cells : List ℕ) (from : ℕ) : Type 0 where
  pub rest : List ℕ
  pub is : drop from cells ≡ cs ++ rest

-- s stands for a value, and there is room for its bytes
pub record SimpleWaits (at : ℕ) (s : Simple) (room : ℕ) : Type 0 where
  pub v : Value
  pub fits : Fits v
  pub means : Means s v
  pub enough : at + length (spell_value v) ≤ room

-- a value stands there, with room for its bytes
pub record ValueWaits (at from : ℕ) (cells : List ℕ) (room : ℕ) : Type 0 where
  pub v : Value
  pub fits : Fits v
  pub stands : CellsStand (enc v) cells from
  pub enough : at + length (spell_value v) ≤ room

-- n values stand there, with room for the bytes of members
pub record MembersWait (n at from : ℕ) (cells : List ℕ) (room : ℕ) : Type 0 where
  pub vs : Values
  pub fits : AllFit vs
  pub many : n ≡ count vs
  pub stands : CellsStand (encs vs) cells from
  pub enough : at + length (spell_members vs) ≤ room

-- w is written for the first n cells from `from` on
pub record Wrote (w : Bytes) (n at from : ℕ) (before after : Bytes) (r : Next) : Type 0 where
  pub bytes : Puts at w before after r.at
  pub cells : r.from ≡ from + n
