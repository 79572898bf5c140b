-- The lines that name where undefined came from: an undefined verdict gets its line and no other does, in the report's order, refused as
-- the report is. Assumes nothing.
use mathlib.Core.Path.{◌≡◌, refl, sym, ap, ◌∙◌}
use mathlib.Core.Logic.{◌≢◌, ◌⊎◌, inl, inr}
use mathlib.Core.Bool.{Bool, true, false, ◌||◌}
use mathlib.Core.Option.{some}
use mathlib.Core.List.{List, [], ◌∷◌, ◌++◌, map, append-nil, append_assoc}
use Prim.Native.Nat.{ℕ, zero, suc, ◌<◌}
use native.Mathlib.Omega.{arith}
use lib.ListN.{length, get_elem?}
use Rattle.std.specs.Prelude.{if◌then◌else◌}
use Rattle.laws.specs.Lists.{concat}
use Rattle.laws.proofs.Lists.{each_at, member_exact}
use Rattle.laws.proofs.Elements.{each_elem}
use Rattle.ocl.specs.Types.{class, Ty}
use Rattle.ocl.specs.Values.{obj}
use Rattle.ocl.specs.Model.{is_a}
use Rattle.ocl.specs.Environment.{start}
use Rattle.ocl.specs.Operations.{undefined}
use Rattle.ocl.specs.Evaluation.{evaluate_rule}
use Rattle.ocl.specs.Laws.{numbers}
use Rattle.ocl.specs.Trace.{Traced, value_t, undefined_t, stuck_t, stop_t, untraced, trace_rule}
use Rattle.ocl.specs.Origin.{NodeOf, own_node, reached_node}
use Rattle.ocl.proofs.Trace.{origin}
use Rattle.ocl.proofs.Origin.{origin_place}
use Rattle.ocl.proofs.InTurn.{origin_step}
use Rattle.sheet.specs.Text.{Bytes}
use Rattle.sheet.specs.Sheet.{Rule, Sheet, model_of}
use Rattle.sheet.specs.Reading.{sheet_in}
use Rattle.sheet.specs.Calls.{Verdict, answer, refusal_at, refusal, short_words, short_output, on_accepted, type_lines, read_call, marks_of, outcome_of}
use Rattle.sheet.specs.Report.{report_line, object_lines, rule_lines, fitting, report_of, report_call}
use Rattle.sheet.specs.TextLaws.{with_lines}
use Rattle.sheet.specs.Origin.{trace_of, origin_line, object_origins, rule_origins, origins_of, origin_call}
use Rattle.sheet.specs.OriginLaws.{OriginOnLaw, Asked, SameOrder, AsReportLaw, OriginOfText}
use Rattle.sheet.proofs.Good.{Good}
use Rattle.sheet.proofs.Accepted.{AcceptedSheet, Refused, refused_or, on_accepted_lem}
use Rattle.sheet.proofs.Acceptance.{accepted_good}
use Rattle.sheet.proofs.Soundness.{sheet_is}

-- ---- a node of a rule, or of a definition that it reaches, has a line

pub node_on_sheet : (s : Sheet) → Good s → (r : ℕ) (x : Rule) → get_elem? s.rules r ≡ some x → (q : ℕ) → NodeOf x.body q → q < length s.lines
node_on_sheet s g r x e q (own_node h) = each_at (each_elem r g.rules e).on_sheet ((member_exact q (numbers x.body)).0 h)
node_on_sheet s g r x e q (reached_node d m h) =
    let i = each_at (each_elem r g.rules e).called m in
    each_at (each_elem i.index g.definitions i.there).body.on_sheet ((member_exact q (numbers d.body)).0 h)

-- ---- the lines

pub traced_outcome : (s : Sheet) (x : Rule) (o : ℕ) → untraced (trace_of s x o) ≡ outcome_of s x o
unfolding trace_of trace_rule outcome_of evaluate_rule
traced_outcome s x o = (origin (model_of s) (marks_of s) x.body (start (obj o)) 0).same_outcome

-- a place, where the outcome is undefined
place_of : (t : Traced) (m : ℕ) → untraced t ≡ undefined m → (q : ℕ) × (j : ℕ) × (t ≡ undefined_t m q j)
place_of (value_t v n) m e = absurd (let z : ◌≡◌ {A = ℕ} 0 1 = cc in omega arith)
place_of (undefined_t n q j) m e = let z : n ≡ m = cc in (q, j, ap (λ i. undefined_t i q j) z)
place_of stuck_t m e = absurd (let z : ◌≡◌ {A = ℕ} 0 1 = cc in omega arith)
place_of (stop_t c n) m e = absurd (let z : ◌≡◌ {A = ℕ} 0 1 = cc in omega arith)

no_line : (s : Sheet) (r o : ℕ) (t : Traced) → ((m : ℕ) → untraced t ≢ undefined m) → origin_line s r o t ≡ []
unfolding origin_line
no_line s r o (value_t v n) h = refl
no_line s r o (undefined_t n q j) h = absurd (h n refl)
no_line s r o stuck_t h = refl
no_line s r o (stop_t c n) h = refl

pub origin_on : OriginOnLaw
unfolding trace_of trace_rule origin_line
origin_on text s e r x i o = record {
  named = λ m d.
      let p = place_of (trace_of s x o) m (traced_outcome s x o ∙ d) in
      let a = (origin (model_of s) (marks_of s) x.body (start (obj o)) 0).arose m p.0 p.1 p.2 in
      let n = origin_place _ _ _ _ _ _ _ a in
      let w = origin_step (model_of s) (marks_of s) x.body (start (obj o)) 0 m p.0 p.1 (unfold outcome_of evaluate_rule in d) a in
      record {
        at = p.0;
        step = p.1;
        arose = a;
        node = n;
        on_sheet = node_on_sheet s (accepted_good text s e) r x i p.0 n;
        first = w.0;
        last = w.1;
        line = ap (origin_line s r o) p.2;
      };
  unnamed = λ h. no_line s r o (trace_of s x o) (λ m d. h m (sym (traced_outcome s x o) ∙ d));
}

-- ---- the report's order

lines_append : (f : Asked → Bytes) (vs ws : List Asked) → concat (map f (vs ++ ws)) ≡ concat (map f vs) ++ concat (map f ws)
unfolding concat
lines_append f [] ws = refl
lines_append f (v ∷ vs) ws = ap (λ l. f v ++ l) (lines_append f vs ws) ∙ sym (append_assoc (f v) (concat (map f vs)) (concat (map f ws)))

module _ (s : Sheet) where
  abbrev reported : Asked → Bytes
  reported v = report_line v.number v.object (outcome_of s v.rule v.object)

  abbrev named_as : Asked → Bytes
  named_as v = origin_line s v.number v.object (trace_of s v.rule v.object)

  -- these verdicts give the two texts
  record Verdicts (a b : Bytes) : Type 0 where
    list : List Asked
    of_report : a ≡ concat (map reported list)
    of_origins : b ≡ concat (map named_as list)

  no_verdict : Verdicts [] []
  unfolding concat
  no_verdict = record { list = []; of_report = refl; of_origins = refl }

  one_verdict : (v : Asked) → Verdicts (reported v) (named_as v)
  unfolding concat
  one_verdict v = record { list = v ∷ []; of_report = sym (append-nil (reported v)); of_origins = sym (append-nil (named_as v)) }

  then_verdicts : {a b c d : Bytes} → Verdicts a b → Verdicts c d → Verdicts (a ++ c) (b ++ d)
  then_verdicts h k = record {
    list = h.list ++ k.list;
    of_report = rw (h.of_report, k.of_report) (sym (lines_append reported h.list k.list));
    of_origins = rw (h.of_origins, k.of_origins) (sym (lines_append named_as h.list k.list));
  }

  if_verdict : (t : Bool) (v : Asked) → Verdicts (if t then reported v else []) (if t then named_as v else [])
  if_verdict true v = one_verdict v
  if_verdict false v = no_verdict

  objects_asked : (r : ℕ) (x : Rule) (n : ℕ) → Verdicts (object_lines s r x n) (object_origins s r x n)
  unfolding object_lines object_origins
  objects_asked r x zero = no_verdict
  objects_asked r x (suc n) = then_verdicts (objects_asked r x n) (if_verdict (is_a (model_of s) n (class x.context)) (record { number = r; rule = x; object = n }))

  rules_asked : (r : ℕ) (xs : List Rule) → Verdicts (rule_lines s r xs) (rule_origins s r xs)
  unfolding rule_lines rule_origins
  rules_asked r [] = no_verdict
  rules_asked r (x ∷ xs) = then_verdicts (objects_asked r x (length s.objects)) (rules_asked (suc r) xs)

pub same_order : (s : Sheet) → SameOrder s
same_order s = let h = rules_asked s 0 s.rules in record { verdicts = h.list; report = h.of_report; origins = h.of_origins }

-- ---- the calls

module _ (text : Bytes) (out : Bytes) where
  abbrev types : Sheet → List Ty → Verdict
  types s ts = answer (type_lines ts)

  abbrev lines : Sheet → List Ty → Verdict
  lines s ts = fitting (length out) (rule_origins s 0 s.rules)

  -- an accepted text answers, and another is refused whatever would follow
  alike : Refused (on_accepted text) ⊎ AcceptedSheet text → (on_accepted text types).number ≢ 0 → origins_of text (length out) ≡ report_of text (length out)
  unfolding origins_of report_of answer
  alike (inl r) h = r.always _ ∙ sym (r.always _)
  alike (inr a) h = absurd (h (ap (λ v. v.number) (on_accepted_lem text a types)))

  answered : Refused (on_accepted text) ⊎ AcceptedSheet text → (on_accepted text types).number ≡ 0 → origins_of text (length out) ≡ lines (sheet_in text) []
  unfolding origins_of
  answered (inl r) e = absurd (r.no_answer (ap (λ v. v.number) (sym (r.always types)) ∙ e))
  answered (inr a) e = on_accepted_lem text a lines ∙ ap (λ s. lines s []) (sym (sheet_is text a.sheet a.is))

  alike_lent : (b : Bool) → ((if b then refusal 1 else on_accepted text types).number ≢ 0 → (if b then refusal 1 else origins_of text (length out)) ≡ (if b then refusal 1 else report_of text (length out)))
      × ((if b then refusal 1 else on_accepted text types).number ≡ 0 → (if b then refusal 1 else origins_of text (length out)) ≡ lines (sheet_in text) [])
  unfolding refusal refusal_at
  alike_lent true = (λ h. refl, λ e. absurd (let z : ◌≡◌ {A = ℕ} 1 0 = e in omega arith))
  alike_lent false = (alike (refused_or text), answered (refused_or text))

pub as_report : AsReportLaw
unfolding read_call origin_call report_call
as_report text w0 w1 w2 out = let h = alike_lent text out (short_words w0 w1 w2 || short_output out) in record { refuses_alike = h.0; answers = h.1 }

pub origin_of_text : OriginOfText
unfolding trace_of marks_of model_of with_lines
origin_of_text s ls x o = refl
