-- After every list of accepted edits the board's verdicts are the report's: a rule that was not resolved to the edited row has the same lines
-- before and after, by F-9's law. Assumes nothing.
use mathlib.Core.Path.{◌≡◌, refl, sym, ap, ◌∙◌, subst}
use mathlib.Core.Bool.{Bool, true, false, not}
use mathlib.Core.Option.{some}
use mathlib.Core.List.{List, [], ◌∷◌, ◌++◌}
use Prim.Native.Nat.{ℕ, zero, suc}
use borrow.Author.Tests.{ne_eqb}
use lib.ListN.{length, get_elem?}
use lib.Dec.{T, T_not, eqb}
use Rattle.laws.specs.Lists.{member, concat, Each}
use Rattle.laws.proofs.Lists.{each_imp}
use Rattle.ocl.specs.Types.{Ty}
use Rattle.ocl.specs.Model.{is_a}
use Rattle.ocl.specs.Unseen.{with_values}
use Rattle.ocl.proofs.Unseen.{unseen}
use Rattle.sheet.specs.Sheet.{Slot, Rule, Sheet, lookup, model_of}
use Rattle.sheet.specs.Calls.{typing_of, marks_of, outcome_of}
use Rattle.sheet.specs.Report.{object_lines, rule_lines}
use Rattle.sheet.specs.Rows.{rows_seen}
use Rattle.sheet.specs.Laws.{Defined, AllTyped, none_typed, one_typed}
use Rattle.sheet.proofs.Good.{Good}
use Rattle.sheet.proofs.Unseen.{resolved}
use Rattle.board.specs.Edits.{Edit, edited, all_edited, with_slots, judged, has_room}
use Rattle.board.specs.Board.{Board, valued, verdicts_from, made, renewed, after}
use Rattle.board.specs.Calls.{After, none_yet, one_more}
use Rattle.board.proofs.Cells.{and_no, other_cell}
use Rattle.board.proofs.Slots.{each_edited}
use Rattle.board.proofs.Facts.{Fact}
use Rattle.board.proofs.Within.{Small, room_of}
use Rattle.board.proofs.Judged.{Passed, new_fact, answered_of, good_edited, good_made}

-- the lines of all rules, one after the other
pub verdicts_lines : (s : Sheet) (r : ℕ) (xs : List Rule) → concat (verdicts_from s r xs) ≡ rule_lines s r xs
unfolding verdicts_from rule_lines concat
verdicts_lines s r [] = refl
verdicts_lines s r (x ∷ xs) = ap (λ l. object_lines s r x (length s.objects) ++ l) (verdicts_lines s (suc r) xs)

-- one edit more
pub edited_more : (xs : List Slot) (es : List Edit) (e : Edit) → all_edited xs (es ++ (e ∷ [])) ≡ edited (all_edited xs es) e
unfolding all_edited
edited_more xs [] e = refl
edited_more xs (f ∷ es) e = edited_more (edited xs f) es e

module _ (s : Sheet) where
  -- ---- block and values play no part in typing

  pub valued_defined : (xs : List Slot) → Each (Defined s) s.definitions → Each (Defined (valued s xs)) (valued s xs).definitions
  unfolding valued with_slots
  valued_defined xs h = each_imp (λ d q. record { typed_body = q.typed_body }) h

  all_valued : (xs : List Slot) {rs : List Rule} {ts : List Ty} → AllTyped s rs ts → AllTyped (valued s xs) rs ts
  unfolding valued with_slots typing_of
  all_valued xs none_typed = none_typed
  all_valued xs (one_typed q h) = one_typed q (all_valued xs h)

  pub valued_typed : (xs : List Slot) {ts : List Ty} → AllTyped s s.rules ts → AllTyped (valued s xs) (valued s xs).rules ts
  unfolding valued with_slots
  valued_typed xs h = all_valued xs h

  -- ---- a board as it is made

  outcome_made : (x : Rule) (o : ℕ) → outcome_of (valued s s.slots) x o ≡ outcome_of s x o
  unfolding outcome_of model_of marks_of valued with_slots
  outcome_made x o = refl

  lines_made : (r : ℕ) (x : Rule) (n : ℕ) → object_lines (valued s s.slots) r x n ≡ object_lines s r x n
  unfolding object_lines model_of valued with_slots is_a
  lines_made r x zero = refl
  lines_made r x (suc n) = rw (lines_made r x n, outcome_made x n)

  verdicts_made : (r : ℕ) (rs : List Rule) → verdicts_from s r rs ≡ verdicts_from (valued s s.slots) r rs
  unfolding verdicts_from valued with_slots
  verdicts_made r [] = refl
  verdicts_made r (x ∷ rs) = rw (lines_made r x (length s.objects), verdicts_made (suc r) rs)

  -- ---- an edit

  module _ (d : Each (Defined s) s.definitions) {ts : List Ty} (t : AllTyped s s.rules ts) (xs : List Slot) (g : Good (valued s xs)) (e : Edit) where
    -- a rule that was not resolved to the row
    module _ (i : ℕ) (x : Rule) (q : get_elem? s.rules i ≡ some x) (n : T (not (member e.row (rows_seen s x)))) where
      other_row : (j : ℕ) → T (member j (rows_seen s x)) → eqb j e.row ≡ false
      other_row j h = ne_eqb j e.row (λ z. T_not (member e.row (rows_seen s x)) n (subst (λ (k : ℕ). T (member k (rows_seen s x))) z h))

      outcome_kept : (o : ℕ) → outcome_of (valued s (edited xs e)) x o ≡ outcome_of (valued s xs) x o
      unfolding outcome_of model_of marks_of valued with_slots with_values rows_seen edited
      outcome_kept o =
          unseen (model_of (valued s xs)) (lookup (edited xs e)) (marks_of (valued s xs)) x.context x.body
          (resolved (valued s xs) g (valued_defined xs d) (valued_typed xs t) i x q)
          (λ p j h. other_cell e.object e.row p j (and_no (eqb p e.object) (eqb j e.row) (other_row j h)) e.value xs) o

      lines_kept : (r m : ℕ) → object_lines (valued s (edited xs e)) r x m ≡ object_lines (valued s xs) r x m
      unfolding object_lines model_of valued with_slots is_a
      lines_kept r zero = refl
      lines_kept r (suc m) = rw (lines_kept r m, outcome_kept m)

    -- so that keeping its bytes is as good as evaluating it again
    renewed_is : (r : ℕ) (rs : List Rule) → ((i : ℕ) (x : Rule) → get_elem? rs i ≡ some x → T (not (member e.row (rows_seen s x))) → (k m : ℕ)
        → object_lines (valued s (edited xs e)) k x m ≡ object_lines (valued s xs) k x m)
        → renewed (valued s (edited xs e)) e.row r rs (verdicts_from (valued s xs) r rs) ≡ verdicts_from (valued s (edited xs e)) r rs
    unfolding renewed verdicts_from valued with_slots rows_seen
    renewed_is r [] h = refl
    renewed_is r (x ∷ rs) h = by (member e.row (rows_seen s x)) refl (renewed_is (suc r) rs (λ i. h (suc i)))
      where
        by : (b : Bool) → member e.row (rows_seen s x) ≡ b
            → renewed (valued s (edited xs e)) e.row (suc r) rs (verdicts_from (valued s xs) (suc r) rs) ≡ verdicts_from (valued s (edited xs e)) (suc r) rs
            → renewed (valued s (edited xs e)) e.row r (x ∷ rs) (verdicts_from (valued s xs) r (x ∷ rs)) ≡ verdicts_from (valued s (edited xs e)) r (x ∷ rs)
        by true q i = rw (q, i)
        by false q i = rw (q, i) (ap (λ l. l ∷ verdicts_from (valued s (edited xs e)) (suc r) rs) (sym (h 0 x refl (rw q tt) r (length s.objects))))

    pub renewed_all : renewed (valued s (edited xs e)) e.row 0 s.rules (verdicts_from (valued s xs) 0 s.rules) ≡ verdicts_from (valued s (edited xs e)) 0 s.rules
    renewed_all = renewed_is 0 s.rules lines_kept

-- ---- after a list of edits

pub record Stands (s : Sheet) (es : List Edit) (b : Board) : Type 0 where
  pub slots : b.slots ≡ all_edited s.slots es
  pub by_rule : b.verdicts ≡ verdicts_from (valued s b.slots) 0 s.rules
  pub good : Good (valued s b.slots)
  pub room : T (has_room b.slots)
  pub facts : Each (Fact s) b.slots

edited_facts : {s : Sheet} (xs : List Slot) (e : Edit) → Each (Fact s) xs → Passed (judged s e) → Each (Fact s) (edited xs e)
unfolding edited judged
edited_facts {s} xs e h p = each_edited e.object e.row e.value h (new_fact s e.object e.row e.value p)

pub stands : (s : Sheet) → Good s → Small s → Each (Defined s) s.definitions → {ts : List Ty} → AllTyped s s.rules ts
    → {es : List Edit} {b : Board} → After s es b → Stands s es b
unfolding made after all_edited
stands s g h d t none_yet = record { slots = refl; by_rule = verdicts_made s 0 s.rules; good = good_made s g; room = room_of s.slots h.count h.sizes; facts = h.facts }
stands s g h d t (one_more {es} {b} k room e q) =
    let i = stands s g h d t k in
    let a = answered_of room s b e q in
    record {
      slots = ap (λ l. edited l e) i.slots ∙ sym (edited_more s.slots es e);
      by_rule = ap (λ l. renewed (valued s (edited b.slots e)) e.row 0 s.rules l) i.by_rule ∙ renewed_all s d t b.slots i.good e;
      good = good_edited s b.slots e i.good a.passed;
      room = a.room_left;
      facts = edited_facts b.slots e i.facts a.passed;
    }
