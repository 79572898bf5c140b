-- The line of a verdict, by the evaluation's answer: it is the definition's, and takes no more than its bound. Assumes nothing.
use mathlib.Core.Path.{◌≡◌, refl}
use mathlib.Core.Logic.{⊎_elim}
use mathlib.Core.Bool.{Bool, true, false}
use mathlib.Core.Option.{some}
use mathlib.Core.List.{List}
use Prim.Native.Nat.{ℕ, ◌≤◌, ◌<◌}
use native.Mathlib.Omega.{arith}
use lib.Dec.{T}
use lib.ListN.{length, get_or, get_elem?}
use Rattle.laws.proofs.Elements.{elem_at}
use Rattle.ocl.specs.Types.{class, Ty}
use Rattle.ocl.specs.Values.{obj}
use Rattle.ocl.specs.Model.{is_a}
use Rattle.ocl.specs.Environment.{start}
use Rattle.ocl.specs.Operations.{Outcome}
use Rattle.ocl.specs.Trace.{Traced, undefined_t, trace_rule}
use Rattle.ocl.proofs.Trace.{origin}
use Rattle.ocl.proofs.Origin.{origin_place}
use Rattle.sheet.specs.Text.{Bytes}
use Rattle.sheet.specs.Sheet.{Rule, Sheet, model_of}
use Rattle.sheet.specs.Calls.{marks_of, outcome_of}
use Rattle.sheet.specs.Report.{report_line}
use Rattle.sheet.specs.Origin.{trace_of, origin_line}
use Rattle.sheet.proofs.Lengths.{length_laws}
use Rattle.sheet.proofs.Good.{Good}
use Rattle.sheet.proofs.Origin.{node_on_sheet}
use Rattle.text.specs.Written.{Puts}
use Rattle.tables.specs.declared.Counts.{Counts}
use Rattle.outcomes.specs.declared.Ended.{Ended}
use Rattle.outcomes.specs.Answers.{Ends}
use Rattle.evaluation.specs.declared.Traced.{Traced as Answer}
use Rattle.evaluation.specs.Traces.{EndsT, ends_value, ends_undefined, ends_stuck, ends_stop, SmallTraced}
use Rattle.rules.specs.Numbered.{EvaluatesNumbered, TracesNumbered}
use Rattle.rules.proofs.Lengths.{line_length}
use Rattle.rules.proofs.RulesIn.{node_line}
use Rattle.report.specs.Bound.{line_width}
use Rattle.report.specs.Lines.{LineFits, origin_by, OriginFits}
use Rattle.report.specs.Passes.{TypedRule, verdict_line, RoomForLine, PutsVerdict}
use Rattle.report.proofs.LineLaws.{place_length}

-- ---- a line of the report

module _ {origins : Bool} (no : origins ≡ false) {st : Counts} {w0 w1 : List ℕ} {r o : ℕ} {w2 v2 : List ℕ} {e : Ended} (ev : EvaluatesNumbered st w0 w1 r o w2 v2 e) where
  module _ {s : Sheet} {x : Rule} {t : Ty} (m : TypedRule st w0 w1 r s x t) where
    line_ends : Ends 1 v2 (outcome_of s x o) e
    line_ends = ev.ends s m.lies m.marks x m.rule

    line_is : verdict_line origins r o s x ≡ report_line r o (outcome_of s x o)
    unfolding verdict_line
    line_is = rw no

    line_within : T (is_a (model_of s) o (class x.context)) → length (report_line r o (outcome_of s x o)) ≤ line_width origins t
    unfolding line_width
    line_within h = rw no (line_length m.lies m.defined r o m.rule m.type h line_ends)

  module _ {at room : ℕ} (k : RoomForLine origins st w0 w1 r o at room) where
    pub line_fits : LineFits at r o v2 e room
    line_fits = record {
      outcome = outcome_of k.sheet k.rule o;
      ends = line_ends k.typed;
      enough = ⊎_elim (λ h. omega (arith, line_within k.typed k.of_class)) (λ h. rw (line_is k.typed) at h) k.space;
    }

  pub puts_report : {at n : ℕ} {out now : Bytes} → ((y : Outcome) → Ends 1 v2 y e → Puts at (report_line r o y) out now n) → length now ≡ length out
      → PutsVerdict origins st w0 w1 r o at w2 v2 out now n
  puts_report puts same = record {
    is = λ s x t m h. rw (line_is m) (puts (outcome_of s x o) (line_ends m));
    bounded = λ s x t m h. omega (arith, (puts (outcome_of s x o) (line_ends m)).end, line_within m h);
    size = same;
    kept = ev.kept;
  }

-- ---- a line that says where undefined came from

-- the node at which undefined arose has a line
arose_on_sheet : (s : Sheet) → Good s → (r : ℕ) (x : Rule) → get_elem? s.rules r ≡ some x → (o n q j : ℕ) → trace_of s x o ≡ undefined_t n q j
    → q < length s.lines
unfolding trace_of trace_rule
arose_on_sheet s g r x i o n q j h =
    let a = (origin (model_of s) (marks_of s) x.body (start (obj o)) 0).arose n q j h in
    node_on_sheet s g r x i q (origin_place _ _ _ _ _ _ _ a)

module _ {st : Counts} {w0 w1 : List ℕ} {r : ℕ} (o : ℕ) {s : Sheet} {x : Rule} {t : Ty} (m : TypedRule st w0 w1 r s x t) where
  -- the line by the words
  origin_by_lem : {A : List ℕ} {e : Answer} (y : Traced) → trace_of s x o ≡ y → EndsT 1 A y e → origin_line s r o y ≡ origin_by r o w1 e
  unfolding origin_line origin_by
  origin_by_lem y h (ends_value l k) = refl
  origin_by_lem y h (ends_undefined {s = n} {p = p} {k = j} {place = place} a) =
      let l = arose_on_sheet s m.lies.good r x m.rule o n p j h in
      rw (a.node, a.step, (node_line m.lies.fine m.lies.holds p l).1)
  origin_by_lem y h ends_stuck = refl
  origin_by_lem y h ends_stop = refl

  -- two digits, two, five and seven
  origin_short : {A : List ℕ} {e : Answer} (y : Traced) → r < 64 → o < 96 → SmallTraced e → EndsT 1 A y e → length (origin_line s r o y) ≤ 20
  unfolding origin_line
  origin_short y a b k (ends_value l q) = omega arith
  origin_short y a b k (ends_undefined {p = p} {k = j} {place = place} i) =
      let d = length_laws.number_length 2 r (omega arith) (omega arith) in
      let f = length_laws.number_length 2 o (omega arith) (omega arith) in
      let g = length_laws.number_length 5 (get_or s.lines p 0) (omega arith) (let z = m.lies.low p in omega arith) in
      let h = length_laws.number_length 7 j (omega arith) (let z = k.room in let v = i.step in omega arith) in
      omega (arith, place_length r o (get_or s.lines p 0) j)
  origin_short y a b k ends_stuck = omega arith
  origin_short y a b k ends_stop = omega arith

module _ {origins : Bool} (yes : origins ≡ true) {st : Counts} {w0 w1 : List ℕ} {r o : ℕ} {w2 v2 : List ℕ} {e : Answer} (tr : TracesNumbered st w0 w1 r o w2 v2 e)
    (low : o < st.objects) where
  module _ {s : Sheet} {x : Rule} {t : Ty} (m : TypedRule st w0 w1 r s x t) where
    traced_as : EndsT 1 v2 (trace_of s x o) e
    traced_as = tr.ends s m.lies m.marks x m.rule

    origin_is : verdict_line origins r o s x ≡ origin_by r o w1 e
    unfolding verdict_line
    origin_is = rw yes (origin_by_lem o m (trace_of s x o) refl traced_as)

    origin_within : length (origin_by r o w1 e) ≤ line_width origins t
    unfolding line_width verdict_line
    origin_within =
        let i = (elem_at s.rules r x m.rule).0 in
        let h = origin_short o m (trace_of s x o) (omega (arith, i, m.lies.holds.counted.rules, m.lies.fine.rules)) (omega (arith, low, m.lies.fine.objects)) tr.small traced_as in
        rw (yes, ← origin_by_lem o m (trace_of s x o) refl traced_as) h

  module _ {at room : ℕ} (k : RoomForLine origins st w0 w1 r o at room) where
    pub origin_fits : OriginFits at r o w1 e room
    origin_fits = record { enough = ⊎_elim (λ h. omega (arith, origin_within k.typed)) (λ h. rw (origin_is k.typed) at h) k.space }

  pub puts_origin : {at n : ℕ} {out now : Bytes} → Puts at (origin_by r o w1 e) out now n → length now ≡ length out
      → PutsVerdict origins st w0 w1 r o at w2 v2 out now n
  puts_origin p same = record {
    is = λ s x t m h. rw (origin_is m) p;
    bounded = λ s x t m h. omega (arith, p.end, origin_within m);
    size = same;
    kept = tr.kept;
  }
