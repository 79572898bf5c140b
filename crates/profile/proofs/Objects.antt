-- C, A and O lines that are taken one after another: what O lines have met, what they make of a sheet, and which are taken.
-- Assumes nothing.
use mathlib.Core.Path.{◌≡◌, refl, sym, ap, ◌∙◌, subst}
use mathlib.Core.Bool.{Bool, true, false}
use mathlib.Core.Option.{none, some, some-injective}
use mathlib.Core.List.{List, [], ◌∷◌, ◌++◌, append-nil, append_assoc}
use Prim.Native.Nat.{ℕ, suc, ◌+◌, ◌≤◌, ◌<◌}
use native.Mathlib.Omega.{arith}
use borrow.Author.Tests.{eq-eqb}
use lib.ListN.{length}
use lib.Dec.{T, eqb, eqb→eq, ltb, ltb→lt, leb, leb→le, lt→ltb, le→leb}
use Rattle.laws.specs.Lists.{Each, each_nil, each-cons}
use Rattle.laws.proofs.Tests.{and_i, and_l, and_r}
use Rattle.laws.proofs.Lists.{length_more, each_imp}
use Rattle.sheet.specs.Lines.{Line, class_line, row_line, object_line, value_line, definition_line, rule_line, node_line, text_line}
use Rattle.sheet.specs.Sheet.{Sheet, added, end_for, end_rule}
use Rattle.sheet.specs.Texts.{on_text}
use Rattle.sheet.specs.Limits.{is_class, within_limits}
use Rattle.sheet.specs.Refusals.{block_of, numbered, in_order, parts_known, calls_smaller, calls_known, suits, tree_holds}
use Rattle.sheet.proofs.GoodLines.{Met}
use Rattle.sheet.proofs.Stays.{of_body}
use Rattle.profile.specs.RenumberedLines.{early, objects_in, object_lines_from, of_blocks}
use Rattle.profile.proofs.Taken.{closed_by, Takes, takes_nil, takes_cons}
use Rattle.profile.proofs.Rising.{object_part}

-- ---- no rule is open

pub closed_none : (b : Bool) (s t : Sheet) → s.current ≡ none → closed_by b s ≡ some t → s ≡ t
unfolding closed_by end_rule end_for
closed_none true s t h e = some-injective s t e
closed_none false s t h e = some-injective s t (sym (ap (end_for s) h) ∙ e)

pub none_closed : (b : Bool) (s : Sheet) → s.current ≡ none → closed_by b s ≡ some s
unfolding closed_by end_rule end_for
none_closed true s h = refl
none_closed false s h = ap (end_for s) h

-- a block that has begun if there is a line
unfoldable pub block_after : {A : Type 0} → ℕ → ℕ → List A → ℕ
block_after b c [] = c
block_after b c (x ∷ xs) = b

-- ---- C and A lines

pub record Quiet (s : Sheet) : Type 0 where
  pub objects : s.objects ≡ []
  pub slots : s.slots ≡ []
  pub current : s.current ≡ none

pub quiet_early : (ls : List Line) {s t : Sheet} {k j : ℕ} → Takes s k (early ls) t j → Quiet s → Quiet t
unfolding of_blocks block_of added
quiet_early [] takes_nil q = q
quiet_early (class_line n p ∷ ls) {s} {k} (takes_cons {t} e m r) q =
    let z = closed_none (of_body (class_line n p)) s t q.current e in
    quiet_early ls r (record { objects = rw (← z) q.objects; slots = rw (← z) q.slots; current = rw (← z) q.current })
quiet_early (row_line n c name u ∷ ls) {s} {k} (takes_cons {t} e m r) q =
    let z = closed_none (of_body (row_line n c name u)) s t q.current e in
    quiet_early ls r (record { objects = rw (← z) q.objects; slots = rw (← z) q.slots; current = rw (← z) q.current })
quiet_early (object_line n c ∷ ls) r q = quiet_early ls r q
quiet_early (value_line o a v ∷ ls) r q = quiet_early ls r q
quiet_early (definition_line n c t ∷ ls) r q = quiet_early ls r q
quiet_early (rule_line n c ∷ ls) r q = quiet_early ls r q
quiet_early (node_line n x ∷ ls) r q = quiet_early ls r q
quiet_early (text_line x ∷ ls) r q = quiet_early ls r q

-- ---- O lines

unfoldable pub with_objects : Sheet → ℕ → List ℕ → Sheet
with_objects s b l = record {
  block = b;
  parents = s.parents;
  rows = s.rows;
  objects = l;
  slots = s.slots;
  lines = s.lines;
  definitions = s.definitions;
  rules = s.rules;
  current = s.current;
}

pub record ObjectFact (s : Sheet) (c : ℕ) : Type 0 where
  pub low : c < 64
  pub known : c < length s.parents

pub record ObjectFacts (s : Sheet) (part : List Line) (os : List ℕ) (t : Sheet) : Type 0 where
  pub lines : part ≡ object_lines_from (length s.objects) os
  pub result : t ≡ with_objects s (block_after 2 s.block os) (s.objects ++ os)
  pub facts : Each (ObjectFact s) os
  pub room : length s.objects ≤ 96 → length s.objects + length os ≤ 96
  pub low : 1 ≤ length os → s.block ≤ 2

met_object : (s : Sheet) (n c : ℕ) → Met s (object_line n c) → (n ≡ length s.objects) × (n < 96) × ObjectFact s c × (s.block ≤ 2)
unfolding within_limits in_order numbered block_of parts_known is_class
met_object s n c m = (
  eqb→eq n (length s.objects) (and_r (leb s.block 2) _ m.order),
  ltb→lt n 96 (and_l (ltb n 96) _ m.limits),
  record { low = ltb→lt c 64 (and_r (ltb n 96) _ m.limits); known = ltb→lt c (length s.parents) m.parts },
  leb→le s.block 2 (and_l (leb s.block 2) _ m.order),
)

pub two_blocks : {A : Type 0} (b : ℕ) (xs : List A) → block_after b b xs ≡ b
unfolding block_after
two_blocks b [] = refl
two_blocks b (x ∷ xs) = refl

one_object : (s t : Sheet) (k n c : ℕ) (part : List Line) (os : List ℕ) → Met s (object_line n c) → ObjectFacts (added s (suc k) (object_line n c)) part os t
    → ObjectFacts s (object_line n c ∷ part) (c ∷ os) t
unfolding object_lines_from block_after added with_objects
one_object s t k n c part os m f = let y = met_object s n c m in let l = length_more s.objects c in record {
  lines = ap (λ r. object_line n c ∷ r) (f.lines ∙ ap (λ i. object_lines_from i os) l) ∙ ap (λ i. object_line i c ∷ object_lines_from (suc (length s.objects)) os) y.0;
  result =
      f.result ∙ ap (λ b. with_objects s b ((s.objects ++ (c ∷ [])) ++ os)) (two_blocks 2 os) ∙ ap (with_objects s 2) (append_assoc s.objects (c ∷ []) os);
  facts = each-cons y.2 (each_imp (λ d g. record { low = g.low; known = g.known }) f.facts);
  room = λ h. let a = f.room (let b = y.0 in let d = y.1 in omega arith) in omega arith;
  low = λ h. y.3;
}

pub objects_facts : (ls : List Line) (s t : Sheet) (k j : ℕ) → Takes s k (object_part ls) t j → s.current ≡ none → ObjectFacts s (object_part ls) (objects_in ls) t
unfolding of_blocks block_of objects_in object_lines_from block_after added
objects_facts [] s t k j takes_nil h = record {
  lines = refl;
  result = unfold with_objects in ap (with_objects s s.block) (sym (append-nil s.objects));
  facts = each_nil;
  room = λ l. omega arith;
  low = λ l. absurd (omega arith);
}
objects_facts (class_line n p ∷ ls) s t k j r h = objects_facts ls s t k j r h
objects_facts (row_line n c name u ∷ ls) s t k j r h = objects_facts ls s t k j r h
objects_facts (object_line n c ∷ ls) s t k j (takes_cons {t = w} e m r) h =
    let z = closed_none (of_body (object_line n c)) s w h e in
    one_object s t k n c (object_part ls) (objects_in ls) (subst (λ x. Met x (object_line n c)) (sym z) m)
    (objects_facts ls (added s (suc k) (object_line n c)) t (suc k) j (subst (λ x. Takes (added x (suc k) (object_line n c)) (suc k) (object_part ls) t j) (sym z) r) h)
objects_facts (value_line o a v ∷ ls) s t k j r h = objects_facts ls s t k j r h
objects_facts (definition_line n c u ∷ ls) s t k j r h = objects_facts ls s t k j r h
objects_facts (rule_line n c ∷ ls) s t k j r h = objects_facts ls s t k j r h
objects_facts (node_line n x ∷ ls) s t k j r h = objects_facts ls s t k j r h
objects_facts (text_line x ∷ ls) s t k j r h = objects_facts ls s t k j r h

object_met : (s : Sheet) (c : ℕ) → s.block ≤ 2 → length s.objects < 96 → ObjectFact s c → Met s (object_line (length s.objects) c)
unfolding on_text within_limits in_order numbered block_of parts_known calls_smaller calls_known suits tree_holds is_class
object_met s c b l f = record {
  brackets = tt;
  sentence = tt;
  limits = and_i (ltb (length s.objects) 96) (ltb c 64) (lt→ltb (length s.objects) 96 l) (lt→ltb c 64 f.low);
  order = and_i (leb s.block 2) (eqb (length s.objects) (length s.objects)) (le→leb s.block 2 b) (subst T (sym (eq-eqb (length s.objects) (length s.objects) refl)) tt);
  parts = lt→ltb c (length s.parents) f.known;
  smaller = tt;
  known = tt;
  suit = tt;
  tree = tt;
}

pub objects_taken : (os : List ℕ) (s : Sheet) (k : ℕ) → s.current ≡ none → (1 ≤ length os → s.block ≤ 2) → Each (ObjectFact s) os → length s.objects + length os ≤ 96
    → Takes s k (object_lines_from (length s.objects) os) (with_objects s (block_after 2 s.block os) (s.objects ++ os)) (k + length os)
unfolding object_lines_from block_after added with_objects
objects_taken [] s k h b each_nil r =
    let e : with_objects s s.block (s.objects ++ []) ≡ s = ap (with_objects s s.block) (append-nil s.objects) in
    let i : k + 0 ≡ k = omega arith in
    subst (λ t. Takes s k [] t (k + 0)) (sym e) (subst (Takes s k [] s) (sym i) takes_nil)
objects_taken (c ∷ os) s k h b (each-cons f fs) r =
    let l = length_more s.objects c in
    let s₁ = added s (suc k) (object_line (length s.objects) c) in
    let p = objects_taken os s₁ (suc k) h (λ z. omega arith) (each_imp (λ d g. record { low = g.low; known = g.known }) fs) (omega arith) in
    let i : suc k + length os ≡ k + length (c ∷ os) = omega arith in
    let e : with_objects s₁ (block_after 2 2 os) ((s.objects ++ (c ∷ [])) ++ os) ≡ with_objects s 2 (s.objects ++ (c ∷ os)) =
    ap (λ b. with_objects s b ((s.objects ++ (c ∷ [])) ++ os)) (two_blocks 2 os) ∙ ap (with_objects s 2) (append_assoc s.objects (c ∷ []) os) in
    takes_cons (none_closed (of_body (object_line (length s.objects) c)) s h) (object_met s c (b (omega arith)) (omega arith) f)
    (subst (λ t. Takes s₁ (suc k) (object_lines_from (suc (length s.objects)) os) t (k + length (c ∷ os))) e
    (subst (Takes s₁ (suc k) (object_lines_from (suc (length s.objects)) os) (with_objects s₁ (block_after 2 2 os) ((s.objects ++ (c ∷ [])) ++ os))) i
    (subst (λ x. Takes s₁ (suc k) (object_lines_from x os) (with_objects s₁ (block_after 2 2 os) ((s.objects ++ (c ∷ [])) ++ os)) (suc k + length os)) l p)))
