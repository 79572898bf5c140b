-- The lines, formed apart, and put into an output that has room for them. Assumes nothing.
use mathlib.Core.Path.{◌≡◌, sym, ap, ◌∙◌}
use mathlib.Core.List.{List}
use Prim.Native.Nat.{ℕ, ◌+◌, ◌≤◌, ◌<◌}
use native.Mathlib.Omega.{arith}
use native.Mathlib.Nat.{zero-add}
use lib.ListN.{length, take, drop}
use lib.Seq.{take_at}
use borrow.Author.Tests.{lt-ltb, le-ltb}
use Rattle.ocl.specs.Types.{Ty}
use Rattle.sheet.specs.Text.{Bytes}
use Rattle.sheet.specs.Sheet.{Sheet}
use Rattle.sheet.specs.Calls.{answer, refusal}
use Rattle.sheet.specs.Report.{fitting}
use Rattle.sheet.specs.Rows.{rows_lines}
use Rattle.text.specs.Written.{Puts}
use Rattle.tables.specs.declared.Counts.{Counts}
use Rattle.rules.specs.Accepted.{Accepted}
use Rattle.report.specs.Reports.{written, too_long}
use Rattle.report.proofs.SheetLaws.{untouched, written_output}
use Rattle.rows.specs.Seen.{SeesAll}
use Rattle.rows.specs.Lines.{PutsLines, rows_on, TellsRows}
use Rattle.std.specs.Prelude.{Some, None}

-- what was put in front is what is read in front
put_front : {w before after : Bytes} {n : ℕ} → Puts 0 w before after n → take n after ≡ w
put_front {w} {before} {n = n} p = ap (take n) p.is ∙ take_at w (drop (0 + length w) before) n (sym (p.end ∙ zero-add (length w)))

module _ {st : Counts} {w0 w1 u2 v2 : List ℕ} {blank lines : Bytes} {end : ℕ} (sees : SeesAll w1 u2 v2) (put : PutsLines st w0 v2 blank lines end) where
  module _ (s : Sheet) (ts : List Ty) (a : Accepted st w0 w1 s ts) where
    abbrev all : Bytes
    all = rows_lines s 0 s.rules

    front : Puts 0 all blank lines end
    front = put.is w1 sees.seen s ts a

    size : end ≡ length all
    size = front.end ∙ zero-add _

    short : (out : Bytes) → length out < end → rows_on s (length out) ≡ refusal 18
    unfolding fitting
    short out h = rw (lt-ltb (length out) (length all) (omega (arith, size)))

    fits : (out : Bytes) → end ≤ length out → rows_on s (length out) ≡ answer all
    unfolding fitting
    fits out h = rw (le-ltb (length out) (length all) (omega (arith, size)))

  pub rows_short : {out : Bytes} → length out < end → TellsRows st w0 w1 u2 v2 out out None
  rows_short {out} h = record {
    is = λ s ts a. rw (short s ts a out h) too_long;
    output = λ s ts a. rw (short s ts a out h) (untouched out);
    kept = sees.kept;
  }

  pub rows_written : {out now : Bytes} {n : ℕ} → end ≤ length out → Puts 0 (take end lines) out now n → TellsRows st w0 w1 u2 v2 out now (Some n)
  rows_written {out} {now} {n} h p = record {
    is = λ s ts a. rw (fits s ts a out h) (written (all s ts a) ((same s ts a).end ∙ zero-add _));
    output = λ s ts a. rw (fits s ts a out h) (written_output (all s ts a) out (same s ts a).is);
    kept = sees.kept;
  }
    where
      same : (s : Sheet) (ts : List Ty) (a : Accepted st w0 w1 s ts) → Puts 0 (all s ts a) out now n
      same s ts a = rw (put_front (front s ts a)) at p
