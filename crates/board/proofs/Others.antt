-- A text that differs from the board's only in V lines, and whose V lines say the board's slots, has the board's verdicts as its report.
-- Assumes nothing.
use mathlib.Core.Path.{◌≡◌, refl, sym, ap, ◌∙◌, subst}
use mathlib.Core.List.{List, [], ◌∷◌, ◌++◌}
use Prim.Native.Nat.{ℕ, zero, suc, ◌≤◌}
use borrow.Author.Tests.{le-ltb}
use lib.ListN.{length}
use Rattle.laws.specs.Lists.{Each}
use Rattle.laws.proofs.Lists.{each_imp}
use Rattle.ocl.specs.Types.{Ty}
use Rattle.ocl.specs.Forms.{Definition}
use Rattle.sheet.specs.Text.{Bytes, lines_of}
use Rattle.sheet.specs.Sheet.{Rule, Sheet, empty, model_of}
use Rattle.sheet.specs.Reading.{accepted, read_lines, read_text, sheet_in}
use Rattle.sheet.specs.Calls.{typing_of, marks_of, outcome_of}
use Rattle.sheet.specs.Report.{object_lines, rule_lines, fitting, report_of}
use Rattle.sheet.specs.Laws.{Defined, AllTyped, none_typed, one_typed}
use Rattle.sheet.proofs.Bare.{bare}
use Rattle.sheet.proofs.Edited.{lines_bare}
use Rattle.sheet.proofs.TextLaws.{lines_read}
use Rattle.sheet.proofs.Accepted.{AcceptedSheet, on_accepted_lem}
use Rattle.sheet.proofs.Soundness.{sheet_is}
use Rattle.board.specs.Edits.{Edit, with_slots}
use Rattle.board.specs.Board.{Board, all_verdicts, valued}
use Rattle.board.specs.Calls.{After}
use Rattle.board.specs.Laws.{OtherTexts}
use Rattle.board.proofs.Board.{Ready, ready, made_accepted, verdicts_report}

-- ---- two sheets that are the same but for block, lines and what is open

pub record SameParts (t u : Sheet) : Type 0 where
  pub parents : t.parents ≡ u.parents
  pub rows : t.rows ≡ u.rows
  pub objects : t.objects ≡ u.objects
  pub slots : t.slots ≡ u.slots
  pub definitions : t.definitions ≡ u.definitions
  pub rules : t.rules ≡ u.rules

module _ (t u : Sheet) (h : SameParts t u) where
  same_model : model_of t ≡ model_of u
  unfolding model_of
  same_model = rw (h.parents, h.rows, h.objects, h.slots)

  same_marks : marks_of t ≡ marks_of u
  unfolding marks_of
  same_marks = rw (h.parents, h.rows, h.definitions, h.rules)

  same_outcome : (x : Rule) (o : ℕ) → outcome_of t x o ≡ outcome_of u x o
  unfolding outcome_of
  same_outcome x o = rw (same_model, same_marks)

  same_objects : (r : ℕ) (x : Rule) (n : ℕ) → object_lines t r x n ≡ object_lines u r x n
  unfolding object_lines
  same_objects r x zero = refl
  same_objects r x (suc n) = rw (same_objects r x n, same_outcome x n, same_model)

  pub same_rules : (r : ℕ) (rs : List Rule) → rule_lines t r rs ≡ rule_lines u r rs
  unfolding rule_lines
  same_rules r [] = refl
  same_rules r (x ∷ rs) =
      ap (λ (n : ℕ). object_lines t r x n ++ rule_lines t (suc r) rs) (ap length h.objects)
      ∙ ap (λ l. l ++ rule_lines t (suc r) rs) (same_objects r x (length u.objects))
      ∙ ap (λ l. object_lines u r x (length u.objects) ++ l) (same_rules (suc r) rs)

-- typing reads classes and rows alone
module _ (t s : Sheet) (p : t.parents ≡ s.parents) (q : t.rows ≡ s.rows) where
  same_defined : {ds : List Definition} → Each (Defined s) ds → Each (Defined t) ds
  same_defined h = each_imp (λ d k. record { typed_body = rw (p, q) k.typed_body }) h

  same_typed : {rs : List Rule} {ts : List Ty} → AllTyped s rs ts → AllTyped t rs ts
  unfolding typing_of
  same_typed none_typed = none_typed
  same_typed (one_typed {x} {t = w} k h) = one_typed {x = x} {t = w} (rw (p, q) k) (same_typed h)

-- ---- the texts

text_read : (text : Bytes) (t : Sheet) → length text ≤ 49152 → read_lines empty 0 (lines_of text) ≡ accepted t → read_text text ≡ accepted t
unfolding read_text
text_read text t l e = rw (le-ltb 49152 (length text) l) e

module _ (s : Sheet) (r : Ready s) (es : List Edit) (b : Board) (k : After s es b) (t : Sheet) (z : bare [] s ≡ bare [] t) (e : t.slots ≡ b.slots) where
  parts : SameParts t (valued s b.slots)
  unfolding bare valued with_slots
  parts = record {
    parents = sym (ap (λ (u : Sheet). u.parents) z);
    rows = sym (ap (λ (u : Sheet). u.rows) z);
    objects = sym (ap (λ (u : Sheet). u.objects) z);
    slots = e;
    definitions = sym (ap (λ (u : Sheet). u.definitions) z);
    rules = sym (ap (λ (u : Sheet). u.rules) z);
  }

  same_report : rule_lines t 0 t.rules ≡ all_verdicts b
  unfolding valued with_slots
  same_report = ap (rule_lines t 0) parts.rules ∙ same_rules t (valued s b.slots) parts 0 s.rules ∙ sym (verdicts_report s r es b k)

  accepted_other : (other : Bytes) → read_text other ≡ accepted t → AcceptedSheet other
  unfolding valued with_slots
  accepted_other other q = record {
    sheet = t;
    is = q;
    defined = subst (Each (Defined t)) (sym parts.definitions) (same_defined t s parts.parents parts.rows r.defined);
    typing = record { types = r.types; all = subst (λ rs. AllTyped t rs r.types) (sym parts.rules) (same_typed t s parts.parents parts.rows r.typed_all) };
  }

pub other_texts : OtherTexts
unfolding report_of accepted_other
other_texts text w0 w1 w2 words out e es b k other t q d h =
    let a = made_accepted text w0 w1 w2 words out e in
    let r = ready text a in
    let p : read_lines empty 0 (lines_of text) ≡ accepted (sheet_in text) = rw (sheet_is text a.sheet a.is) (lines_read text a.sheet a.is) in
    let z = lines_bare [] (lines_of text) (lines_of other) (sheet_in text) t p q d in
    record {
      lines = same_report (sheet_in text) r es b k t z h;
      report = λ l room.
          on_accepted_lem other (accepted_other (sheet_in text) r es b k t z h other (text_read other t l q)) (λ s ts. fitting room (rule_lines s 0 s.rules))
          ∙ ap (fitting room) (same_report (sheet_in text) r es b k t z h);
    }
