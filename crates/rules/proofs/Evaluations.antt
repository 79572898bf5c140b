-- A rule's evaluation by its number, with where undefined arose and without. Assumes nothing.
use mathlib.Core.Path.{◌≡◌, ap, ◌∙◌}
use mathlib.Core.List.{List, ◌++◌}
use Prim.Native.Nat.{ℕ, ◌+◌, ◌≤◌, ◌<◌}
use native.Mathlib.Omega.{arith}
use lib.ListN.{length, get_or, take, drop, length-append, length-drop}
use lib.Seq.{length-take-le, take-append-le, drop_at}
use Rattle.memory.specs.Map as memory
use Rattle.ocl.specs.Forms.{levels}
use Rattle.ocl.specs.Trace.{Traced, trace_rule}
use Rattle.sheet.specs.Sheet.{Rule, Sheet, model_of}
use Rattle.sheet.specs.Calls.{marks_of}
use Rattle.sheet.specs.Origin.{trace_of}
use Rattle.sheet.proofs.Origin.{traced_outcome}
use Rattle.nodes.specs.Nodes.{tree_at}
use Rattle.tables.specs.declared.Counts.{Counts}
use Rattle.outcomes.specs.declared.Ended.{Ended}
use Rattle.evaluation.specs.declared.Traced.{Traced as Answer}
use Rattle.evaluation.specs.Traces.{EndsT, ends_value, ends_undefined, ends_stuck, ends_stop, without_place}
use Rattle.evaluation.specs.Evaluating.{ReadsWorld, TracesRule, StackRoom}
use Rattle.evaluation.proofs.Composition.{ends_alone, small_alone}
use Rattle.rules.specs.Accepted.{InWords, Known, RuleIn, MarksIn}
use Rattle.rules.specs.Numbered.{TracesNumbered, EvaluatesNumbered}
use Rattle.rules.proofs.Ready.{ready}
use Rattle.rules.proofs.Typings.{rule_known, rule_root}

-- a value at 1 has at most 128 cells, so that it lies in the first words
ends_above : {part : List ℕ} {o : Traced} {e : Answer} (rest : List ℕ) → 129 ≤ length part → EndsT 1 part o e → EndsT 1 (part ++ rest) o e
ends_above {part} rest room (ends_value {v} {len} l small) =
    ends_value (record { fits = l.fits; long = l.long; cells = ap (drop 1) (take-append-le (1 + len) part rest (omega arith)) ∙ l.cells }) small
ends_above rest room (ends_undefined n) = ends_undefined n
ends_above rest room ends_stuck = ends_stuck
ends_above rest room ends_stop = ends_stop

-- what evaluation reads at the rule's place is the rule's
rule_trace : {w0 w1 : List ℕ} {r root : ℕ} (s : Sheet) (x : Rule) (o : ℕ) → RuleIn w0 w1 r x → root ≡ get_or w0 (memory.roots + r) 0
    → trace_rule (model_of s) (marks_of s) (tree_at w1 root) o ≡ trace_of s x o
unfolding trace_of
rule_trace s x o i e = rw (e, i.body)

-- the rule is shallow enough for the stack
pub rule_shallow : {st : Counts} {w0 w1 : List ℕ} {r root : ℕ} → Known st w0 w1 → r < st.rules → root ≡ get_or w0 (memory.roots + r) 0 → levels (tree_at w1 root) ≤ 19
rule_shallow k h e = let i = (rule_known k h).1 in rw (e, i.body) (omega (arith, i.shallow))

-- which has room for it in the first words
pub rule_room : {st : Counts} {w0 w1 : List ℕ} {r root : ℕ} (w2 : List ℕ) → (8192 ≤ length w0) × (8192 ≤ length w1) × (8192 ≤ length w2) → Known st w0 w1 → r < st.rules → root ≡ get_or w0 (memory.roots + r) 0
    → StackRoom st (length w0) (length w1) (length (take 8192 w2)) root 1 19
rule_room w2 lent k h e = record {
  fine = k.lies.fine;
  tables = lent.0;
  nodes = lent.1;
  stack = omega (arith, length-take-le 8192 w2 lent.2);
  node = rule_root k h e;
  room = omega arith;
}

module _ {st : Counts} {w0 w1 : List ℕ} where
  -- the sheet's model and its marks, as evaluation reads them
  world_in : (s : Sheet) → InWords st w0 w1 s → MarksIn w1 s → ReadsWorld st w0 w1 (record { model = model_of s; mark = marks_of s })
  world_in s g m =
      let a = ready g in
      record { holds = a.model; plain = a.plain; mark = λ p h. rw (m.at p h) (a.mark p) }

  pub traces_numbered : {r o root : ℕ} {before part : List ℕ} {e : Answer} → 8192 ≤ length before → length part ≡ length (take 8192 before)
      → root ≡ get_or w0 (memory.roots + r) 0 → TracesRule (ReadsWorld st w0 w1) (tree_at w1 root) o part e
      → TracesNumbered st w0 w1 r o before (part ++ drop 8192 before) e
  traces_numbered {r} {o} {root} {before} {part} {e} room long at t =
      let size : length part ≡ 8192 = long ∙ length-take-le 8192 before room in
      record {
        small = t.small;
        ends = λ s g m x q.
            let i = (ready g).rule r x q in
            rw (rule_trace s x o i at) at (ends_above (drop 8192 before) (omega arith) (t.ends (record { model = model_of s; mark = marks_of s }) (world_in s g m)));
        kept = record { size = simp (length-append, length-drop) (omega arith); rest = drop_at part (drop 8192 before) 8192 size };
      }

  pub evaluates_numbered : {r o : ℕ} {before after : List ℕ} {e : Answer} {x : Ended} → TracesNumbered st w0 w1 r o before after e → x ≡ without_place e → EvaluatesNumbered st w0 w1 r o before after x
  evaluates_numbered {o = o} {e = e} t i = rw i (record {
    small = small_alone e t.small;
    ends = λ s g m x q. rw (traced_outcome s x o) at (ends_alone (t.ends s g m x q));
    kept = t.kept;
  })
