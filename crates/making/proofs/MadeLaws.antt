-- A board made: where the lines of each rule end, and the two slices. Assumes nothing.
use mathlib.Core.Path.{◌≡◌, refl, sym, ap, ◌∙◌}
use mathlib.Core.Bool.{Bool, false, true}
use mathlib.Core.List.{List, [], ◌∷◌, ◌++◌}
use Prim.Native.Nat.{ℕ, zero, suc, ◌+◌, ◌*◌, ◌≤◌, ◌<◌}
use native.Mathlib.Omega.{arith}
use native.Mathlib.Nat.{mul-le-mul}
use native.Mathlib.Decide.{dec_lt}
use native.Mathlib.Numerals.{add-one}
use lib.ListN.{length, get_or, take, drop, set, length-append}
use lib.Seq.{length-take-le, get_or-take, get_or-set_same, get_or-set_other, ext_get_or}
use Rattle.std.specs.Prelude.{if◌then◌else◌, Option as Optional, Some, None}
use Rattle.ocl.specs.Types.{Ty, void, simple, around, any, boolean, integer, real, class}
use Rattle.ocl.specs.Model.{Model, is_a}
use Rattle.sheet.specs.Text.{Bytes}
use Rattle.sheet.specs.Sheet.{Rule, Sheet, model_of}
use Rattle.sheet.specs.Calls.{Verdict, answer, refusal, refusal_at}
use Rattle.sheet.specs.Report.{object_lines, rule_lines}
use Rattle.board.specs.Board.{verdicts_from, made}
use Rattle.board.specs.Calls.{board_after}
use Rattle.tables.specs.declared.Counts.{Counts}
use Rattle.tables.specs.Layout.{Fine}
use Rattle.tables.proofs.Tables.{kept_then}
use Rattle.rules.specs.Accepted.{Accepted, KnownTyped}
use Rattle.rules.specs.Width.{width}
use Rattle.report.specs.Bound.{objects_of, line_width, lines_bound, rules_bound}
use Rattle.report.specs.Passes.{lines_from, RoomForAll}
use Rattle.report.specs.Reports.{report_on, SaysReport, written, too_long, Reports}
use Rattle.report.proofs.ReportLaws.{lines_to}
use Rattle.report.proofs.RuleLaws.{RulesTo}
use Rattle.board_words.specs.Layout.{ends_from, board_words, StoresBoard}
use Rattle.board_words.proofs.Found.{ends_length}
use Rattle.making.specs.Made.{EndsOfRules, MakesBoard}

-- ---- the ends of the first rules' lines

pub record EndsTo (st : Counts) (w0 w1 ends : List ℕ) (r : ℕ) : Type 0 where
  pub at : (s : Sheet) (ts : List Ty) → Accepted st w0 w1 s ts → (j : ℕ) → j < r → get_or ends j 0 ≡ length (lines_to false s (j + 1))

pub ends_none : {st : Counts} {w0 w1 ends : List ℕ} → EndsTo st w0 w1 ends 0
ends_none = record { at = λ s ts a j l. absurd (omega arith) }

pub ends_next : {st : Counts} {w0 w1 before w2 ends : List ℕ} {keep : Bool} {out now : Bytes} {r n : ℕ} → EndsTo st w0 w1 ends r → RulesTo false st w0 w1 before w2 keep out now (r + 1) n
    → r < length ends → EndsTo st w0 w1 (set ends r n) (r + 1)
ends_next {st} {w0} {w1} {ends = ends} {r = r} {n} h so l = record { at = λ s ts a j k. by s ts a j k (dec_lt j r) }
  where
    by : (s : Sheet) (ts : List Ty) → Accepted st w0 w1 s ts → (j : ℕ) → j < r + 1 → Dec (j < r) → get_or (set ends r n) j 0 ≡ length (lines_to false s (j + 1))
    by s ts a j k (yes m) = get_or-set_other ends r j n 0 (λ e. omega arith) ∙ h.at s ts a j m
    by s ts a j k (no m) = let z : j ≡ r = omega arith in rw z (get_or-set_same ends r n 0 l ∙ (so.is s ts a).end ∙ omega arith)

verdicts_length : (s : Sheet) (k : ℕ) (xs : List Rule) → length (verdicts_from s k xs) ≡ length xs
unfolding verdicts_from
verdicts_length s k [] = refl
verdicts_length s k (x ∷ xs) = ap suc (verdicts_length s (suc k) xs)

ends_at_lem : (s : Sheet) (xs : List Rule) (k m j : ℕ) → j < length xs → get_or (ends_from m (verdicts_from s k xs)) j 0 ≡ m + length (rule_lines s k (take (suc j) xs))
unfolding ends_from verdicts_from rule_lines
ends_at_lem s [] k m j h = absurd (omega arith)
ends_at_lem s (x ∷ xs) k m zero h = omega (arith, length-append (object_lines s k x (length s.objects)) [])
ends_at_lem s (x ∷ xs) k m (suc j) h =
    ends_at_lem s xs (suc k) (m + length (object_lines s k x (length s.objects))) j (omega arith)
    ∙ omega (arith, length-append (object_lines s k x (length s.objects)) (rule_lines s (suc k) (take (suc j) xs)))

pub ends_all : {st : Counts} {w0 w1 before w2 ends : List ℕ} {keep : Bool} {out now : Bytes} {rules r n : ℕ} → rules ≡ st.rules → Fine st → 64 ≤ length ends
    → EndsTo st w0 w1 ends r → RulesTo false st w0 w1 before w2 keep out now r n → rules ≤ r → EndsOfRules st w0 w1 before w2 ends
unfolding lines_from
ends_all {st} {w0} {w1} {ends = ends} {rules = rules} {r} count fine long h so l = record { is = λ s ts a. by s ts a; kept = so.kept }
  where
    by : (s : Sheet) (ts : List Ty) → Accepted st w0 w1 s ts → take st.rules ends ≡ ends_from 0 (verdicts_from s 0 s.rules)
    by s ts a =
        let c = a.lies.holds.counted.rules in
        let f = fine.rules in
        let n = length-take-le st.rules ends (omega arith) in
        ext_get_or 0 (take st.rules ends) (ends_from 0 (verdicts_from s 0 s.rules)) (n ∙ c ∙ sym (ends_length 0 (verdicts_from s 0 s.rules) ∙ verdicts_length s 0 s.rules))
        (λ i k. get_or-take st.rules ends i 0 (omega arith) ∙ h.at s ts a i (omega arith) ∙ ap (λ (j : ℕ). length (lines_to false s j)) (add-one i)
        ∙ sym (ends_at_lem s s.rules 0 0 i (omega arith) ∙ omega arith))

-- ---- how many bytes lines can take

width_few : (t : Ty) → width t ≤ 2304
unfolding width
width_few void = omega arith
width_few (simple any) = omega arith
width_few (simple boolean) = omega arith
width_few (simple integer) = omega arith
width_few (simple real) = omega arith
width_few (simple (class c)) = omega arith
width_few (around l t) = omega arith

objects_few : (m : Model) (c n : ℕ) → objects_of m c n ≤ n
unfolding objects_of
objects_few m c zero = omega arith
objects_few m c (suc n) = by (is_a m n (class c)) (objects_few m c n)
  where
    by : (b : Bool) → objects_of m c n ≤ n → objects_of m c n + (if b then 1 else 0) ≤ suc n
    by true h = omega arith
    by false h = omega arith

lines_few : (s : Sheet) (x : Rule) (t : Ty) (n : ℕ) → n ≤ 96 → lines_bound false s x t n ≤ 222624
unfolding lines_bound line_width
lines_few s x t n h =
    let w : 15 + width t ≤ 2319 = (let k = width_few t in omega arith) in
    let o : objects_of (model_of s) x.context n ≤ 96 = (let k = objects_few (model_of s) x.context n in omega arith) in
    omega (arith, mul-le-mul o w)

rules_few : (s : Sheet) (xs : List Rule) (ts : List Ty) → length s.objects ≤ 96 → rules_bound false s xs ts ≤ length xs * 222624
unfolding rules_bound
rules_few s [] ts h = omega arith
rules_few s (x ∷ xs) [] h = omega arith
rules_few s (x ∷ xs) (t ∷ ts) h = omega (arith, lines_few s x t (length s.objects) h, rules_few s xs ts h)

-- there is room to count the lines of all rules
pub room_to_count : {st : Counts} {w0 w1 w2 : List ℕ} → KnownTyped st w0 w1 w2 → RoomForAll false st w0 w1 false 2560
room_to_count k =
    let c = k.accepted.lies.holds.counted in
    let f = k.accepted.lies.fine in
    let s = k.sheet in
    let b = rules_few s s.rules k.types (omega (arith, c.objects, f.objects)) in
    record {
      sheet = s;
      types = k.types;
      accepted = k.accepted;
      space = record { all = λ q. absurd (let z : ◌≡◌ {A = ℕ} 0 1 = cc in omega arith); line = omega arith; few = omega (arith, c.rules, f.rules) };
    }

-- ---- the two slices

laid_written : {v : Verdict} {n : ℕ} (laid words : List ℕ) → SaysReport (Some n) v → board_after v laid words ≡ laid ++ drop 8192 words
unfolding board_after answer
laid_written laid words (written b e) = refl

laid_short : {v : Verdict} (laid words : List ℕ) → SaysReport None v → board_after v laid words ≡ words
unfolding board_after refusal refusal_at
laid_short laid words too_long = refl

module _ {st : Counts} {w0 w1 before w2 : List ℕ} {out now : Bytes} {r : Optional ℕ} (told : Reports report_on st w0 w1 before w2 out now r) where
  pub made_short : {words : List ℕ} → r ≡ None → MakesBoard st w0 w1 before w2 out now words words None
  made_short {words} e = record {
    is = λ s ts a t. rw e at (told.is s ts a t);
    output = told.output;
    laid = λ s ts a t. sym (laid_short (board_words (made s)) words (rw e at (told.is s ts a t)));
    kept = told.kept;
  }

  pub made_written : {n : ℕ} {v2 ends words board : List ℕ} → r ≡ Some n → EndsOfRules st w0 w1 w2 v2 ends → ((x1 : List ℕ) → StoresBoard st w0 x1 ends words board)
      → MakesBoard st w0 w1 before v2 out now words board (Some n)
  unfolding made
  made_written {words = words} e h k = record {
    is = λ s ts a t. rw e at (told.is s ts a t);
    output = told.output;
    laid = λ s ts a t. (k w1).is s (verdicts_from s 0 s.rules) a.lies.holds (h.is s ts a)
        ∙ sym (laid_written (board_words (made s)) words (rw e at (told.is s ts a t)));
    kept = kept_then told.kept h.kept;
  }
