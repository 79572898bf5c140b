-- Laws of `label`, one for each return. Assumes nothing.
use mathlib.Core.Path.{◌≡◌, refl}
use mathlib.Core.Logic.{◌≢◌}
use mathlib.Core.List.{[], ◌∷◌}
use Prim.Native.Nat.{ℕ, ◌-◌, ◌<◌, ◌≤◌}
use native.Mathlib.Omega.{arith}
use borrow.Author.Tests.{eq-eqb, ne_eqb}
use lib.ListN.{length, get_or, take, drop}
use Rattle.laws.proofs.Parts.{at_next, part_all}
use Rattle.sheet.specs.Text.{Bytes}
use Rattle.sheet.specs.Lines.{a_number}
use Rattle.sheet.specs.Grammar.Words.{labelled}
use Rattle.text.specs.Numbers.{cut_num}
use Rattle.std.specs.Prelude.{Option as Optional, None}

pub label_none : (l : ℕ) (w : Bytes) → length w < 1 → None ≡ cut_num (labelled l w)
unfolding cut_num labelled
label_none l [] h = refl
label_none l (b ∷ w) h = absurd (omega arith)

module _ (l : ℕ) (w : Bytes) (n : 1 ≤ length w) where
  pub label_other : get_or w 0 0 ≢ l → None ≡ cut_num (labelled l w)
  unfolding cut_num labelled
  label_other q = rw (at_next 0 w 0 n, ne_eqb _ _ q)

  pub label_here : {r : Optional ℕ} → get_or w 0 0 ≡ l → r ≡ cut_num (a_number (take (length w - 1) (drop 1 w))) → r ≡ cut_num (labelled l w)
  unfolding labelled
  label_here q e = rw (at_next 0 w 0 n, eq-eqb (get_or w 0 0) l q) (rw (part_all w 1) at e)
