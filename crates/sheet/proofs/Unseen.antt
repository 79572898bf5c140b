-- F-9, from the bytes: evaluate answers for a rule as on the sheet without the slots of rows that it does not see, which two accepted texts
-- share where they differ only in V lines of such rows. Assumes nothing.
use mathlib.Core.Path.{◌≡◌, refl, sym, ap, ◌∙◌}
use mathlib.Core.Option.{Option, none, some}
use mathlib.Core.List.{List}
use Prim.Native.Nat.{ℕ}
use lib.ListN.{get_elem?}
use Rattle.laws.specs.Lists.{member, Each}
use Rattle.ocl.specs.Types.{Ty}
use Rattle.ocl.specs.Model.{is_a}
use Rattle.ocl.specs.Unseen.{with_values, tree_rows, Resolved}
use Rattle.ocl.proofs.Rows.{rows_by_marks}
use Rattle.ocl.proofs.Unseen.{unseen}
use Rattle.sheet.specs.Text.{Bytes}
use Rattle.sheet.specs.Sheet.{Rule, Sheet, lookup, model_of}
use Rattle.sheet.specs.Calls.{Verdict, answer, words_after, output_after, typing_of, on_accepted, type_lines, on_rule, on_object, marks_of, outcome_of, ended, evaluate_on, evaluate_call}
use Rattle.sheet.specs.Laws.{Defined, AllTyped}
use Rattle.sheet.specs.Rows.{rows_seen}
use Rattle.sheet.specs.Unseen.{seen_by, rows_seen_in, UnseenLaw}
use Rattle.sheet.proofs.Good.{Good}
use Rattle.sheet.proofs.Marks.{rule_agrees}
use Rattle.sheet.proofs.Acceptance.{accepted_good}
use Rattle.sheet.proofs.Accepted.{AcceptedSheet, accepted_of, on_accepted_lem}
use Rattle.sheet.proofs.Soundness.{reached_typed, read_lent, evaluate_lent, sheet_is}
use Rattle.sheet.proofs.NeverStuck.{type_of}
use Rattle.sheet.proofs.Bare.{slots_of, slots_read, bare}
use Rattle.sheet.proofs.Edited.{same_bare}

-- ---- a rule of an accepted sheet

pub resolved : (s : Sheet) → Good s → Each (Defined s) s.definitions → {ts : List Ty} → AllTyped s s.rules ts → (r : ℕ) (x : Rule) → get_elem? s.rules r ≡ some x
    → Resolved (model_of s) (marks_of s) x.context x.body
unfolding model_of typing_of
resolved s g d h r x e = let t = type_of h r x e in record { type = t.0; typed_rule = t.1; marked = rule_agrees s g r x e; reached = reached_typed s g d r x e }

-- the rows that it sees are those that the table of marks has at its nodes and at those of the bodies that it reaches
pub rows_in_table : (s : Sheet) → Good s → Each (Defined s) s.definitions → {ts : List Ty} → AllTyped s s.rules ts → (r : ℕ) (x : Rule) → get_elem? s.rules r ≡ some x
    → (i : ℕ) → member i (tree_rows (marks_of s) x.body) ≡ member i (rows_seen s x)
unfolding model_of rows_seen
rows_in_table s g d h r x e i = rows_by_marks (model_of s) (marks_of s) x.context x.body (resolved s g d h r x e) i

-- ---- the sheet without the slots of other rows

object_bare : (rows : List ℕ) (s : Sheet) (d : Option ℕ) (o c : ℕ) (v : Verdict) → on_object (model_of (bare rows s)) d o c v ≡ on_object (model_of s) d o c v
unfolding on_object is_a model_of bare
object_bare rows s none o c v = refl
object_bare rows s (some d) o c v = refl

outcome_bare : (s : Sheet) (x : Rule) → Resolved (model_of s) (marks_of s) x.context x.body → (o : ℕ) → outcome_of (bare (rows_seen s x) s) x o ≡ outcome_of s x o
unfolding outcome_of marks_of model_of bare with_values rows_seen
outcome_bare s x h o =
    unseen (model_of s) (lookup (slots_of (rows_seen s x) s.slots)) (marks_of s) x.context x.body h (λ p i t. slots_read (rows_seen s x) s.slots p i t) o

evaluate_bare : (s : Sheet) (r o : ℕ) (y : Option Rule) → get_elem? s.rules r ≡ y → ((x : Rule) → get_elem? s.rules r ≡ some x → Resolved (model_of s) (marks_of s) x.context x.body)
    → evaluate_on (bare (seen_by s y) s) r o ≡ evaluate_on s r o
unfolding evaluate_on bare seen_by on_rule model_of
evaluate_bare s r o none e h = rw e
evaluate_bare s r o (some x) e h = rw e
    (ap (λ z. on_object (model_of (bare (rows_seen s x) s)) ((model_of s).class_of o) o x.context (ended z)) (outcome_bare s x (h x e) o)
    ∙ object_bare (rows_seen s x) s ((model_of s).class_of o) o x.context (ended (outcome_of s x o)))

seen_bare : (rows : List ℕ) (s : Sheet) (y : Option Rule) → seen_by (bare rows s) y ≡ seen_by s y
unfolding seen_by rows_seen bare
seen_bare rows s none = refl
seen_bare rows s (some x) = refl

-- two sheets that are one without other rows' slots
module _ (rows : List ℕ) (s t : Sheet) (b : bare rows s ≡ bare rows t) where
  rules_same : s.rules ≡ t.rules
  unfolding bare
  rules_same = ap (λ (u : Sheet). u.rules) b

  seen_same : (r : ℕ) → seen_by t (get_elem? t.rules r) ≡ seen_by s (get_elem? s.rules r)
  seen_same r =
      sym (seen_bare rows t (get_elem? t.rules r)) ∙ ap (λ u. seen_by u (get_elem? t.rules r)) (sym b) ∙ seen_bare rows s (get_elem? t.rules r)
      ∙ ap (λ l. seen_by s (get_elem? l r)) (sym rules_same)

-- ---- texts

module _ (text : Bytes) (a : AcceptedSheet text) where
  pub rule_resolved : (r : ℕ) (x : Rule) → get_elem? a.sheet.rules r ≡ some x → Resolved (model_of a.sheet) (marks_of a.sheet) x.context x.body
  rule_resolved = resolved a.sheet (accepted_good text a.sheet a.is) a.defined a.typing.all

  seen_in : (r : ℕ) → rows_seen_in text r ≡ seen_by a.sheet (get_elem? a.sheet.rules r)
  unfolding rows_seen_in
  seen_in r = ap (λ u. seen_by u (get_elem? u.rules r)) (sheet_is text a.sheet a.is)

  -- evaluate's answer, on the sheet without other rows' slots
  answered : (rows : List ℕ) (r o : ℕ) → rows ≡ rows_seen_in text r → on_accepted text (λ s ts. evaluate_on s r o) ≡ evaluate_on (bare rows a.sheet) r o
  answered rows r o e =
      on_accepted_lem text a (λ s ts. evaluate_on s r o) ∙ sym (evaluate_bare a.sheet r o (get_elem? a.sheet.rules r) refl (rule_resolved r))
      ∙ ap (λ l. evaluate_on (bare l a.sheet) r o) (sym (e ∙ seen_in r))

pub unseen_law : UnseenLaw
unseen_law text w0 w1 w2 out l n other v0 v1 v2 put m k r d =
    let a = accepted_of text (λ s ts. answer (type_lines ts)) (rw (read_lent text w0 w1 w2 out l) at n) in
    let b = accepted_of other (λ s ts. answer (type_lines ts)) (rw (read_lent other v0 v1 v2 put m) at k) in
    let rows = rows_seen_in text r in
    let e = same_bare rows text other a.sheet b.sheet a.is b.is d in
    let seen : rows_seen_in other r ≡ rows = seen_in other b r ∙ seen_same rows a.sheet b.sheet e r ∙ sym (seen_in text a r) in
    let same : (o : ℕ) → evaluate_call text r o w0 w1 w2 out ≡ evaluate_call other r o v0 v1 v2 put =
    λ o. evaluate_lent text w0 w1 w2 out l r o ∙ answered text a rows r o refl ∙ ap (λ s. evaluate_on s r o) e
    ∙ sym (evaluate_lent other v0 v1 v2 put m r o ∙ answered other b rows r o (sym seen)) in
    record {
      same_rows = seen;
      same_answer = same;
      same_words = λ o w. ap (λ v. words_after v w) (same o);
      same_output = λ o b. ap (λ v. output_after v b) (same o);
    }
