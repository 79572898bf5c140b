-- A line that is refused changes no word; a line that is spelled well is taken as its spelling says. Assumes nothing.
use mathlib.Core.Path.{◌≡◌, refl, ◌∙◌}
use mathlib.Core.Bool.{Bool, true, false}
use mathlib.Core.Option.{Option, none, some}
use mathlib.Core.List.{List}
use Prim.Native.Nat.{ℕ, ◌≤◌, ◌<◌}
use native.Mathlib.Omega.{arith}
use borrow.Author.Tests.{le-leb, lt-leb}
use Rattle.sheet.specs.Text.{Bytes, fields_of}
use Rattle.ocl.specs.Types.{Ty}
use Rattle.sheet.specs.Lines.{Line, class_line, row_line, object_line, definition_line, rule_line, line_of}
use Rattle.sheet.specs.Texts.{on_text}
use Rattle.sheet.specs.Sheet.{Sheet, added}
use Rattle.sheet.specs.Limits.{type_within, within_limits}
use Rattle.sheet.specs.Refusals.{block_of, numbered, in_order, parts_known}
use Rattle.sheet.specs.Reading.{taken, refuse, step_line}
use Rattle.tables.specs.declared.Counts.{Counts}
use Rattle.tables.specs.Layout.{Counted, Holds, Fine, Kept, moved_next, moved_refused, Took}
use Rattle.tables.proofs.Tables.{kept_refl}
use Rattle.tables.proofs.Steps.{step_bad, step_line_lem, over_limits, out_of_order, unknown_part}
use Rattle.declarations.specs.Taken.{TookSpelled}
use Rattle.std.specs.Prelude.{Result, Ok, Err}
use Rattle.memory.specs.declared.refusals.Refusal.{Refusal}
use Rattle.memory.specs.declared.refusals.Refusal.TheVariants.{BadLine, OverMeasure, OutOfRow, UnknownPart}
use Rattle.memory.specs.declared.refusals.Misread.{Misread}
use Rattle.memory.specs.declared.refusals.Misread.TheVariants.{Malformed, OverLimit}
use Rattle.memory.specs.Refusals.{number, refusal_of}
use Rattle.types.specs.declared.FlatType.{FlatType}
use Rattle.types.specs.Reading.{type_field, held}
use Rattle.types.proofs.Within.{read_bad, read_big}

module _ (st : Counts) (k : ℕ) (w0 w1 : List ℕ) where
  pub stopped : (l : Line) (e : Refusal) → ((s : Sheet) → Holds st w0 w1 s → step_line s k l ≡ refuse (number e)) → TookSpelled st k l (Err e) w0 w1 w0 w1
  stopped l e all = record { is = λ s h. rw (all s h) moved_refused; kept0 = kept_refl w0; kept1 = kept_refl w1 }

  pub passed : (l : Line) (su : Counts) (v0 : List ℕ) → Kept w0 v0 → Fine su
      → ((s : Sheet) → Holds st w0 w1 s → (step_line s k l ≡ taken (added s k l)) × Holds su v0 w1 (added s k l)) → TookSpelled st k l (Ok su) w0 w1 v0 w1
  passed l su v0 kept fine all =
      record { is = λ s h. rw (all s h).0 (moved_next {st = su} fine (all s h).1); kept0 = kept; kept1 = kept_refl w1 }

  pub unspelled : (line : Bytes) → line_of (fields_of line) ≡ none → Took st k line (Err BadLine) w0 w1 w0 w1
  unspelled line h = record { is = λ s _. rw (step_bad s k (fields_of line) h) moved_refused; kept0 = kept_refl w0; kept1 = kept_refl w1 }

-- ---- lines that have no text

pub class_plain : (n : ℕ) (p : Option ℕ) (test : Bytes → Bool) → on_text (class_line n p) test ≡ true
unfolding on_text
class_plain n p test = refl

pub row_plain : (n c name : ℕ) (t : Ty) (test : Bytes → Bool) → on_text (row_line n c name t) test ≡ true
unfolding on_text
row_plain n c name t test = refl

pub object_plain : (n c : ℕ) (test : Bytes → Bool) → on_text (object_line n c) test ≡ true
unfolding on_text
object_plain n c test = refl

pub definition_plain : (n c : ℕ) (t : Ty) (test : Bytes → Bool) → on_text (definition_line n c t) test ≡ true
unfolding on_text
definition_plain n c t test = refl

pub rule_plain : (n c : ℕ) (test : Bytes → Bool) → on_text (rule_line n c) test ≡ true
unfolding on_text
rule_plain n c test = refl

pub spelled : {st : Counts} {k : ℕ} (line : Bytes) {l : Line} {r : Result Counts Refusal} {w0 w1 v0 v1 : List ℕ}
    → ((test : Bytes → Bool) → on_text l test ≡ true) → line_of (fields_of line) ≡ some l → TookSpelled st k l r w0 w1 v0 v1 → Took st k line r w0 w1 v0 v1
spelled {k = k} line plain h t = record { is = λ s q. rw (step_line_lem s k (fields_of line) plain h) (t.is s q); kept0 = t.kept0; kept1 = t.kept1 }

-- a line whose last field should be a type: it spells none, or one over the limits
pub misread : {st : Counts} {k : ℕ} {line : Bytes} {w0 w1 : List ℕ} {o : Option Ty} {r : Result FlatType Misread} {m : Misread} (to : Ty → Line) → type_field r ≡ held o → r ≡ Err m
    → ((t : Ty) (test : Bytes → Bool) → on_text (to t) test ≡ true)
    → (o ≡ none → line_of (fields_of line) ≡ none)
    → ((t : Ty) → o ≡ some t → line_of (fields_of line) ≡ some (to t))
    → ((t : Ty) → type_within t ≡ false → (s : Sheet) → within_limits s (to t) ≡ false)
    → Took st k line (Err (refusal_of m)) w0 w1 w0 w1
misread {st} {k} {line} {w0} {w1} {o} {m = Malformed} to read e plain off on over = unspelled st k w0 w1 line (off (read_bad o read e))
misread {st} {k} {line} {w0} {w1} {o} {m = OverLimit} to read e plain off on over =
    let t = read_big o read e in
    spelled line (plain t.0) (on t.0 t.1) (stopped st k w0 w1 _ OverMeasure (λ s _. over_limits s k _ (over t.0 t.2 s)))

-- a line within its limits: out of row by its block or its number, or with an unknown part
module _ (st : Counts) (k : ℕ) (w0 w1 : List ℕ) (l : Line) (within : (s : Sheet) → within_limits s l ≡ true) where
  pub past_block : block_of l < st.block → TookSpelled st k l (Err OutOfRow) w0 w1 w0 w1
  unfolding in_order
  past_block b = stopped st k w0 w1 l OutOfRow (λ s h. out_of_order s k l (within s) (rw (lt-leb s.block (block_of l) (omega (arith, h.counted.block)))))

  module _ (in_block : st.block ≤ block_of l) where
    pub order_by_number : (s : Sheet) → Counted st s → in_order s l ≡ numbered s l
    unfolding in_order
    order_by_number s h = rw (le-leb s.block (block_of l) (omega (arith, h.block)))

    pub misnumbered : ((s : Sheet) → Holds st w0 w1 s → numbered s l ≡ false) → TookSpelled st k l (Err OutOfRow) w0 w1 w0 w1
    misnumbered wrong = stopped st k w0 w1 l OutOfRow (λ s h. out_of_order s k l (within s) (order_by_number s h.counted ∙ wrong s h))

    pub unknown : ((s : Sheet) → Holds st w0 w1 s → numbered s l ≡ true) → ((s : Sheet) → Holds st w0 w1 s → parts_known s l ≡ false)
        → TookSpelled st k l (Err UnknownPart) w0 w1 w0 w1
    unknown right off = stopped st k w0 w1 l UnknownPart (λ s h. unknown_part s k l (within s) (order_by_number s h.counted ∙ right s h) (off s h))
