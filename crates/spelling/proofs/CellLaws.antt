-- Cells that stand at a place: the first of them, and those behind. Assumes nothing.
use Prim.Native.Nat.{ℕ, ◌+◌, ◌<◌}
use mathlib.Core.Path.{◌≡◌, refl, sym, ap, ◌∙◌}
use mathlib.Core.List.{List, [], ◌∷◌, ◌++◌, append_assoc, append-nil}
use native.Mathlib.Omega.{arith}
use lib.ListN.{length, get_or, drop, length-drop}
use lib.Seq.{drop_at, drop-drop}
use Rattle.laws.proofs.Parts.{at_next}
use Rattle.ocl.specs.Values.{Value, members}
use Rattle.values.specs.Cells.{head, enc, encs}
use Rattle.values.proofs.Heads.{enc_parts}
use Rattle.spelling.specs.Meanings.{CellsStand}

module _ {cells : List ℕ} {from : ℕ} where
  -- nothing behind them
  pub stands_last : {cs : List ℕ} → drop from cells ≡ cs → CellsStand cs cells from
  stands_last {cs} e = record { rest = []; is = e ∙ sym (append-nil cs) }

  -- of two runs of cells, the first, and the one behind it
  pub stands_left : (a b : List ℕ) → CellsStand (a ++ b) cells from → CellsStand a cells from
  stands_left a b s = record { rest = b ++ s.rest; is = s.is ∙ append_assoc a b s.rest }

  pub stands_right : (a b : List ℕ) → CellsStand (a ++ b) cells from → CellsStand b cells (from + length a)
  stands_right a b s = record {
    rest = s.rest;
    is = sym (drop-drop (length a) from cells) ∙ ap (drop (length a)) (s.is ∙ append_assoc a b s.rest) ∙ drop_at a (b ++ s.rest) (length a) refl;
  }

  -- of a value, the first cell, and those of its members
  module _ (v : Value) (s : CellsStand (enc v) cells from) where
    parts : drop from cells ≡ head v ∷ (encs (members v) ++ s.rest)
    parts = s.is ∙ ap (λ (l : List ℕ). l ++ s.rest) (enc_parts v)

    pub value_within : from < length cells
    value_within = omega (arith, ap length parts, length-drop from cells)

    pub first_cell : get_or cells from 0 ≡ head v
    first_cell = let a = at_next 0 cells from value_within in let b = parts in cc

    pub members_stand : CellsStand (encs (members v)) cells (from + 1)
    members_stand = record {
      rest = s.rest;
      is = let a = at_next 0 cells from value_within in let b = parts in cc;
    }
