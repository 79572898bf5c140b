-- The lines of a sheet: measured, written, or too long. Assumes nothing.
use mathlib.Core.Path.{◌≡◌, refl, ◌∙◌}
use mathlib.Core.Logic.{◌⊎◌, inl, inr}
use mathlib.Core.Bool.{Bool, true, false}
use mathlib.Core.List.{List}
use Prim.Native.Nat.{ℕ, ◌+◌, ◌≤◌, ◌<◌}
use native.Mathlib.Omega.{arith}
use native.Mathlib.Nat.{zero-add}
use native.Mathlib.Decide.{dec_lt}
use borrow.Author.Tests.{lt-ltb, le-ltb, le-leb, lt-leb}
use lib.Dec.{leb}
use lib.ListN.{length}
use Rattle.ocl.specs.Types.{Ty}
use Rattle.sheet.specs.Text.{Bytes}
use Rattle.sheet.specs.Sheet.{Sheet}
use Rattle.sheet.specs.Calls.{answer, refusal, refusal_at, output_after}
use Rattle.sheet.specs.Report.{fitting}
use Rattle.text.specs.Written.{put_bytes}
use Rattle.tables.specs.declared.Counts.{Counts}
use Rattle.tables.proofs.Tables.{kept_refl, kept_then}
use Rattle.rules.specs.Accepted.{Accepted, TypesIn, KnownTyped}
use Rattle.report.specs.Bound.{rules_bound, BoundsAll}
use Rattle.report.specs.Passes.{lines_from, all_lines, RoomForAll, AddsAll}
use Rattle.report.specs.Reports.{lines_on, report_on, origins_on, written, too_long, Reports, Bounded, Measures, Fit, by_bound, by_length, no_fit, TellsFit}
use Rattle.std.specs.Prelude.{Option as Optional, Some, None}

module _ {origins : Bool} {st : Counts} {w0 w1 : List ℕ} where
  -- ---- the length

  pub counted_room : {bound : ℕ} → Bounded origins st w0 w1 bound → RoomForAll origins st w0 w1 false 2560
  counted_room k = record {
    sheet = k.sheet;
    types = k.types;
    accepted = k.accepted;
    space = record { all = λ q. absurd (let z : ◌≡◌ {A = ℕ} 0 1 = cc in omega arith); line = omega arith; few = omega (arith, k.is, k.few) };
  }

  module _ {u2 v2 : List ℕ} where
    pub measures : {keep : Bool} {out now : Bytes} {n : ℕ} → AddsAll origins st w0 w1 u2 v2 keep out now n → Measures origins st w0 w1 u2 v2 n
    measures a = record { is = λ s ts g. (a.is s ts g).end ∙ zero-add _; kept = a.kept }

    pub tells_length : {bound room n : ℕ} → Measures origins st w0 w1 u2 v2 n → TellsFit origins st w0 w1 u2 v2 bound room (leb n room)
    tells_length {bound} {room} {n} m = record { is = λ s ts g. rw (← m.is s ts g) (by (dec_lt room n)); kept = m.kept }
      where
        by : Dec (room < n) → Fit bound room n (leb n room)
        by (yes h) = rw (lt-leb n room h) (no_fit h)
        by (no h) = rw (le-leb n room (omega arith)) (by_length (omega arith))

  pub tells_bound : {bound room : ℕ} (u2 : List ℕ) → bound ≤ room → TellsFit origins st w0 w1 u2 u2 bound room (leb bound room)
  tells_bound {bound} {room} u2 h = record { is = λ s ts g. rw (le-leb bound room h) (by_bound h); kept = kept_refl u2 }

-- ---- the lines

pub untouched : (out : Bytes) → out ≡ output_after (refusal 18) out
unfolding output_after refusal refusal_at
untouched out = refl

-- lines that were put from the first byte on
pub written_output : (b out : Bytes) {now : Bytes} → now ≡ put_bytes 0 b out → now ≡ output_after (answer b) out
unfolding output_after answer
written_output b out e = e ∙ rw (zero-add (length b))

module _ {origins : Bool} {st : Counts} {w0 w1 u2 : List ℕ} where
  module _ {bound : ℕ} (bounds : BoundsAll origins st w0 u2 bound) where
    pub bounded_by : KnownTyped st w0 w1 u2 → Bounded origins st w0 w1 bound
    bounded_by k = record {
      sheet = k.sheet;
      types = k.types;
      accepted = k.accepted;
      is = bounds.is w1 k.sheet k.types k.accepted k.waiting;
      few = bounds.few;
    }

    pub all_room : {room : ℕ} {v2 : List ℕ} {r : Bool} → TellsFit origins st w0 w1 u2 v2 bound room r → r ≡ true → KnownTyped st w0 w1 u2 → 2560 ≤ room
        → RoomForAll origins st w0 w1 true room
    all_room {room} tells q k h = record {
      sheet = s;
      types = k.types;
      accepted = k.accepted;
      space = record { all = λ _. by (rw q at (tells.is s k.types k.accepted)); line = h; few = omega (arith, is, bounds.few) };
    }
      where
        s : Sheet
        s = k.sheet

        is : bound ≡ rules_bound origins s s.rules k.types
        is = bounds.is w1 s k.types k.accepted k.waiting

        by : Fit bound room (length (all_lines origins s)) true
            → (0 + rules_bound origins s s.rules k.types ≤ room) ⊎ (0 + length (all_lines origins s) ≤ room)
        by (by_bound l) = inl (omega (arith, is))
        by (by_length l) = inr (omega arith)

    module _ {out : Bytes} {v2 : List ℕ} {r : Bool} (tells : TellsFit origins st w0 w1 u2 v2 bound (length out) r) where
      pub all_short : r ≡ false → Reports (lines_on origins) st w0 w1 u2 v2 out out None
      unfolding fitting
      all_short q = record {
        is = λ s ts g w. rw (verdict s ts g) too_long;
        output = λ s ts g w. rw (verdict s ts g) (untouched out);
        kept = tells.kept;
      }
        where
          longer : {n : ℕ} → Fit bound (length out) n false → length out < n
          longer (no_fit h) = h

          verdict : (s : Sheet) (ts : List Ty) → Accepted st w0 w1 s ts → lines_on origins s (length out) ≡ refusal 18
          verdict s ts g = rw (lt-ltb (length out) (length (all_lines origins s)) (longer (rw q at (tells.is s ts g))))

      pub all_written : {x2 : List ℕ} {now : Bytes} {n : ℕ} → r ≡ true → AddsAll origins st w0 w1 v2 x2 true out now n
          → Reports (lines_on origins) st w0 w1 u2 x2 out now (Some n)
      unfolding fitting
      all_written {x2} {now} {n} q a = record {
        is = λ s ts g w. rw (verdict s ts g w) (written (all_lines origins s) (size s ts g));
        output = λ s ts g w. rw (verdict s ts g w) (written_output (all_lines origins s) out ((a.is s ts g).kept refl));
        kept = kept_then tells.kept a.kept;
      }
        where
          size : (s : Sheet) (ts : List Ty) → Accepted st w0 w1 s ts → n ≡ length (all_lines origins s)
          size s ts g = (a.is s ts g).end ∙ zero-add _

          short : (s : Sheet) (ts : List Ty) → Accepted st w0 w1 s ts → TypesIn u2 ts → Fit bound (length out) (length (all_lines origins s)) true
              → length (all_lines origins s) ≤ length out
          short s ts g w (by_bound h) = omega (arith, a.bounded s ts g, size s ts g, bounds.is w1 s ts g w)
          short s ts g w (by_length h) = h

          verdict : (s : Sheet) (ts : List Ty) → Accepted st w0 w1 s ts → TypesIn u2 ts → lines_on origins s (length out) ≡ answer (all_lines origins s)
          verdict s ts g w = rw (le-ltb (length out) (length (all_lines origins s)) (short s ts g w (rw q at (tells.is s ts g))))

-- ---- the report, and where undefined came from

module _ {st : Counts} {w0 w1 u2 v2 : List ℕ} {out now : Bytes} {r : Optional ℕ} where
  pub as_report : Reports (lines_on false) st w0 w1 u2 v2 out now r → Reports report_on st w0 w1 u2 v2 out now r
  unfolding lines_from
  as_report a = record { is = a.is; output = a.output; kept = a.kept }

  pub as_origins : Reports (lines_on true) st w0 w1 u2 v2 out now r → Reports origins_on st w0 w1 u2 v2 out now r
  unfolding lines_from
  as_origins a = record { is = a.is; output = a.output; kept = a.kept }
