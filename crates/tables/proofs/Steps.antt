-- One line's step by the tests that it passes, in their order: each refusal of a line's code is one of these. Assumes nothing.
use mathlib.Core.Path.{◌≡◌}
use mathlib.Core.Bool.{Bool, true, false}
use mathlib.Core.Option.{none, some}
use mathlib.Core.List.{List}
use Prim.Native.Nat.{ℕ}
use Rattle.sheet.specs.Text.{Bytes}
use Rattle.sheet.specs.Lines.{Line, line_of}
use Rattle.sheet.specs.Texts.{brackets_within, is_sentence, on_text}
use Rattle.sheet.specs.Sheet.{Sheet, added}
use Rattle.sheet.specs.Limits.{within_limits}
use Rattle.sheet.specs.Refusals.{in_order, parts_known, calls_smaller, calls_known, suits, tree_holds}
use Rattle.sheet.specs.Reading.{taken, refuse, must, step_line, step_spelled, step}

module _ (s : Sheet) (k : ℕ) (l : Line) where
  pub over_limits : within_limits s l ≡ false → step_line s k l ≡ refuse 4
  unfolding step_line must
  over_limits a = rw a

  pub out_of_order : within_limits s l ≡ true → in_order s l ≡ false → step_line s k l ≡ refuse 5
  unfolding step_line must
  out_of_order a b = rw (a, b)

  pub unknown_part : within_limits s l ≡ true → in_order s l ≡ true → parts_known s l ≡ false → step_line s k l ≡ refuse 6
  unfolding step_line must
  unknown_part a b c = rw (a, b, c)

  pub calls_up : within_limits s l ≡ true → in_order s l ≡ true → parts_known s l ≡ true → calls_smaller s l ≡ false → step_line s k l ≡ refuse 23
  unfolding step_line must
  calls_up a b c d = rw (a, b, c, d)

  pub calls_none : within_limits s l ≡ true → in_order s l ≡ true → parts_known s l ≡ true → calls_smaller s l ≡ true → calls_known s l ≡ false → step_line s k l ≡ refuse 24
  unfolding step_line must
  calls_none a b c d e = rw (a, b, c, d, e)

  -- a line whose calls are of smaller definitions that are there
  module _ (smaller : calls_smaller s l ≡ true) (known : calls_known s l ≡ true) where
    pub not_suited : within_limits s l ≡ true → in_order s l ≡ true → parts_known s l ≡ true → suits s l ≡ false → step_line s k l ≡ refuse 7
    unfolding step_line must
    not_suited a b c d = rw (a, b, c, smaller, known, d)

    pub malformed_tree : within_limits s l ≡ true → in_order s l ≡ true → parts_known s l ≡ true → suits s l ≡ true → tree_holds s l ≡ false → step_line s k l ≡ refuse 8
    unfolding step_line must
    malformed_tree a b c d e = rw (a, b, c, smaller, known, d, e)

    pub steps_on : within_limits s l ≡ true → in_order s l ≡ true → parts_known s l ≡ true → suits s l ≡ true → tree_holds s l ≡ true → step_line s k l ≡ taken (added s k l)
    unfolding step_line must
    steps_on a b c d e = rw (a, b, c, smaller, known, d, e)

module _ (s : Sheet) (k : ℕ) (fields : List Bytes) where
  pub step_bad : line_of fields ≡ none → step s k fields ≡ refuse 3
  unfolding step step_spelled
  step_bad h = rw h

  -- a line that has no text
  pub step_line_lem : {l : Line} → ((test : Bytes → Bool) → on_text l test ≡ true) → line_of fields ≡ some l → step s k fields ≡ step_line s k l
  unfolding step step_spelled must
  step_line_lem plain h = rw (h, plain brackets_within, plain is_sentence)
