-- Lines evaluated again: one object's, and a rule's. Assumes nothing.
use mathlib.Core.Path.{◌≡◌, refl, sym, ap, ◌∙◌}
use mathlib.Core.Bool.{Bool, true, false}
use mathlib.Core.List.{List, [], ◌++◌, append-nil, append_assoc}
use Prim.Native.Nat.{ℕ, ◌+◌, ◌*◌, ◌-◌, ◌≤◌, ◌<◌, min}
use native.Mathlib.Omega.{arith}
use native.Mathlib.Numerals.{add-one}
use lib.ListN.{length, get_or}
use Rattle.memory.specs.Map as memory
use Rattle.ocl.specs.Types.{class, Ty}
use Rattle.ocl.specs.Model.{is_a}
use Rattle.ocl.specs.Operations.{Outcome, steps_of}
use Rattle.ocl.proofs.Steps.{steps_limited}
use Rattle.sheet.specs.Text.{Bytes}
use Rattle.sheet.specs.Sheet.{Rule, Sheet, model_of}
use Rattle.sheet.specs.Calls.{outcome_of}
use Rattle.sheet.specs.Report.{report_line, object_lines}
use Rattle.text.specs.Written.{Puts}
use Rattle.text.proofs.WrittenLaws.{puts_length}
use Rattle.board.specs.Board.{object_steps}
use Rattle.tables.specs.declared.Counts.{Counts}
use Rattle.tables.proofs.Tables.{kept_refl, kept_then}
use Rattle.outcomes.specs.declared.Ended.{Ended}
use Rattle.outcomes.specs.Answers.{Ends}
use Rattle.outcomes.specs.Tables.{IsA}
use Rattle.rules.specs.Numbered.{EvaluatesNumbered}
use Rattle.rules.proofs.Ready.{ready}
use Rattle.rules.proofs.Lengths.{width_within, line_length}
use Rattle.report.specs.Lines.{LineFits}
use Rattle.report.specs.Passes.{TypedRule}
use Rattle.renewal.specs.declared.fresh.Sums.{Sums}
use Rattle.renewal.specs.Fresh.{SomeRule, line_for, all_lines, object_step, all_steps, AddsFresh, told_lines, told_steps}
use Rattle.renewal.proofs.BufferLaws.{buffers_line}

-- ---- one object

steps_few : (s : Sheet) (x : Rule) (o : ℕ) → steps_of (outcome_of s x o) ≤ 1000000
unfolding outcome_of
steps_few s x o = steps_limited (model_of s) _ x.body o

module _ {st : Counts} {w0 w1 : List ℕ} {r o : ℕ} {b : Bool} (a : IsA st w0 o (get_or w0 (memory.contexts + r) 0) b) where
  class_is : {s : Sheet} {x : Rule} {t : Ty} → TypedRule st w0 w1 r s x t → is_a (model_of s) o (class x.context) ≡ b
  class_is {s} {x} m =
      let all = ready m.lies in
      rw (all.rule r x m.rule).context at (sym (a.is (model_of s) all.model))

  pub no_fresh : b ≡ false → (was : Sums) (w2 : List ℕ) (buf : Bytes) → AddsFresh (line_for r o) (object_step o) 2319 1000000 st w0 w1 r was w2 w2 buf buf was
  unfolding line_for object_step
  no_fresh e was w2 buf = record {
    is = λ s x t m w g. rw (class_is m, e, append-nil w) g;
    added = λ s x t m. rw (class_is m, e) (omega arith);
    few_bytes_lem = omega arith;
    few_steps = omega arith;
    size = refl;
    kept = kept_refl w2;
  }

  module _ (yes : b ≡ true) (k : SomeRule st w0 w1 r) {w2 v2 : List ℕ} {e : Ended} (ev : EvaluatesNumbered st w0 w1 r o w2 v2 e) where
    fresh_ends : {s : Sheet} {x : Rule} {t : Ty} → TypedRule st w0 w1 r s x t → Ends 1 v2 (outcome_of s x o) e
    fresh_ends {s} {x} m = ev.ends s m.lies m.marks x m.rule

    short : {s : Sheet} {x : Rule} {t : Ty} → TypedRule st w0 w1 r s x t → length (report_line r o (outcome_of s x o)) ≤ 2319
    short {t = t} m = omega (arith, line_length m.lies m.defined r o m.rule m.type (rw (class_is m, yes) tt) (fresh_ends m), (width_within t).1)

    pub fresh_fits : (bytes : ℕ) {at room : ℕ} → at ≡ min bytes (room - 2560) → 2560 ≤ room → LineFits at r o v2 e room
    fresh_fits bytes place wide = record {
      outcome = outcome_of k.sheet k.rule o;
      ends = fresh_ends k.typed;
      enough = omega (arith, short k.typed);
    }

    pub fresh_steps : (n : ℕ) → ((stack : List ℕ) (x : Outcome) → Ends 1 stack x e → n ≡ steps_of x) → n ≤ 1000000
    fresh_steps n steps = omega (arith, steps v2 (outcome_of k.sheet k.rule o) (fresh_ends k.typed), steps_few k.sheet k.rule o)

    module _ {at end : ℕ} {buf now : Bytes} (puts : (x : Outcome) → Ends 1 v2 x e → Puts at (report_line r o x) buf now end) where
      put_at : {s : Sheet} {x : Rule} {t : Ty} → TypedRule st w0 w1 r s x t → Puts at (report_line r o (outcome_of s x o)) buf now end
      put_at {s} {x} m = puts (outcome_of s x o) (fresh_ends m)

      pub fresh_from : at ≤ end
      fresh_from = omega (arith, (put_at k.typed).end)

      pub fresh_to : end ≤ at + 2319
      fresh_to = omega (arith, (put_at k.typed).end, short k.typed)

      pub one_fresh : {n : ℕ} (was : Sums) → at ≡ min was.bytes (length buf - 2560) → 2560 ≤ length buf
          → ((stack : List ℕ) (x : Outcome) → Ends 1 stack x e → n ≡ steps_of x)
          → AddsFresh (line_for r o) (object_step o) 2319 1000000 st w0 w1 r was w2 v2 buf now (record { bytes = was.bytes + (end - at); steps = was.steps + n })
      unfolding line_for object_step
      one_fresh {n} was place wide steps = record {
        is = λ s x t m w g. rw (class_is m, yes) (buffers_line g place wide (short m) (put_at m));
        added = λ s x t m. rw (class_is m, yes) (ap (λ (i : ℕ). was.steps + i) (steps v2 (outcome_of s x o) (fresh_ends m)));
        few_bytes_lem = omega (arith, fresh_from, fresh_to);
        few_steps = omega (arith, fresh_steps n steps);
        size = puts_length (put_at k.typed) (omega (arith, short k.typed));
        kept = ev.kept;
      }

-- ---- one after the other

module _ {st : Counts} {w0 w1 : List ℕ} {r : ℕ} {was : Sums} where
  pub fresh_none : (w2 : List ℕ) (buf : Bytes) → AddsFresh (λ s x. []) (λ s x. 0) 0 0 st w0 w1 r was w2 w2 buf buf was
  fresh_none w2 buf = record {
    is = λ s x t m w g. rw (append-nil w) g;
    added = λ s x t m. omega arith;
    few_bytes_lem = omega arith;
    few_steps = omega arith;
    size = refl;
    kept = kept_refl w2;
  }

  pub fresh_then : {f h : Sheet → Rule → Bytes} {g i : Sheet → Rule → ℕ} {b c d e : ℕ} {w2 u2 v2 : List ℕ} {buf mid now : Bytes} {m n : Sums}
      → AddsFresh f g b c st w0 w1 r was w2 u2 buf mid m → AddsFresh h i d e st w0 w1 r m u2 v2 mid now n
      → AddsFresh (λ s x. f s x ++ h s x) (λ s x. g s x + i s x) (b + d) (c + e) st w0 w1 r was w2 v2 buf now n
  fresh_then {f} {h} p q = record {
    is = λ s x t m w z. rw (← append_assoc w (f s x) (h s x)) (q.is s x t m (w ++ f s x) (p.is s x t m w z));
    added = λ s x t m. omega (arith, p.added s x t m, q.added s x t m);
    few_bytes_lem = omega (arith, p.few_bytes_lem, q.few_bytes_lem);
    few_steps = omega (arith, p.few_steps, q.few_steps);
    size = q.size ∙ p.size;
    kept = kept_then p.kept q.kept;
  }

-- the first o objects
pub record ObjectsTo (st : Counts) (w0 w1 : List ℕ) (r : ℕ) (was : Sums) (before after : List ℕ) (buf now : Bytes) (o : ℕ) (sums : Sums) : Type 0 where
  pub so : AddsFresh (λ s x. object_lines s r x o) (λ s x. object_steps s x o) (2319 * o) (1000000 * o) st w0 w1 r was before after buf now sums
  pub within : o ≤ st.objects

module _ {st : Counts} {w0 w1 : List ℕ} {r : ℕ} {was : Sums} where
  pub objects_none : (w2 : List ℕ) (buf : Bytes) → ObjectsTo st w0 w1 r was w2 w2 buf buf 0 was
  unfolding object_lines object_steps
  objects_none w2 buf = record { so = fresh_none w2 buf; within = omega arith }

  pub objects_next : {w2 u2 v2 : List ℕ} {buf mid now : Bytes} {o : ℕ} {m n : Sums} → ObjectsTo st w0 w1 r was w2 u2 buf mid o m → o < st.objects
      → AddsFresh (line_for r o) (object_step o) 2319 1000000 st w0 w1 r m u2 v2 mid now n → ObjectsTo st w0 w1 r was w2 v2 buf now (o + 1) n
  unfolding object_lines line_for object_steps object_step
  objects_next {o = o} p h q =
      let both = fresh_then p.so q in
      rw (add-one o) (record {
        so = record {
          is = both.is;
          added = both.added;
          few_bytes_lem = omega (arith, both.few_bytes_lem);
          few_steps = omega (arith, both.few_steps);
          size = both.size;
          kept = both.kept;
        };
        within = omega arith;
      })

  pub objects_few : {w2 u2 : List ℕ} {buf mid : Bytes} {o : ℕ} {m : Sums} → ObjectsTo st w0 w1 r was w2 u2 buf mid o m → SomeRule st w0 w1 r → was.bytes ≤ 14247936 → was.steps ≤ 6144000000
      → (m.bytes ≤ 20000000) × (m.steps ≤ 10000000000)
  objects_few p k b c =
      let l = k.typed.lies.fine.objects in
      (omega (arith, p.so.few_bytes_lem, p.within), omega (arith, p.so.few_steps, p.within))

  pub objects_all : {w2 u2 : List ℕ} {buf mid : Bytes} {o : ℕ} {m : Sums} → ObjectsTo st w0 w1 r was w2 u2 buf mid o m → st.objects ≤ o → SomeRule st w0 w1 r
      → AddsFresh (all_lines r) all_steps 222624 96000000 st w0 w1 r was w2 u2 buf mid m
  objects_all {o = o} p h k =
      let e : o ≡ st.objects = omega (arith, p.within) in
      let l = k.typed.lies.fine.objects in
      record {
        is = λ s x t m. rw (e ∙ m.lies.holds.counted.objects) at (p.so.is s x t m);
        added = λ s x t m. rw (e ∙ m.lies.holds.counted.objects) at (p.so.added s x t m);
        few_bytes_lem = omega (arith, p.so.few_bytes_lem);
        few_steps = omega (arith, p.so.few_steps);
        size = p.so.size;
        kept = p.so.kept;
      }

  -- a rule that the word names, or does not
  module _ (t : ℕ → Bool) {b : Bool} (is : b ≡ t r) where
    pub told : {w2 u2 : List ℕ} {buf mid : Bytes} {m : Sums} → b ≡ true → AddsFresh (all_lines r) all_steps 222624 96000000 st w0 w1 r was w2 u2 buf mid m
        → AddsFresh (told_lines t r) (told_steps t r) 222624 96000000 st w0 w1 r was w2 u2 buf mid m
    told e p = record {
      is = λ s x z m w g. rw (sym is ∙ e) (p.is s x z m w g);
      added = λ s x z m. rw (sym is ∙ e) (p.added s x z m);
      few_bytes_lem = p.few_bytes_lem;
      few_steps = p.few_steps;
      size = p.size;
      kept = p.kept;
    }

    pub not_told : b ≡ false → (w2 : List ℕ) (buf : Bytes) → AddsFresh (told_lines t r) (told_steps t r) 222624 96000000 st w0 w1 r was w2 w2 buf buf was
    not_told e w2 buf = record {
      is = λ s x z m w g. rw (sym is ∙ e, append-nil w) g;
      added = λ s x z m. rw (sym is ∙ e) (omega arith);
      few_bytes_lem = omega arith;
      few_steps = omega arith;
      size = refl;
      kept = kept_refl w2;
    }
