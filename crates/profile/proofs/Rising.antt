-- Lines that are taken rise by their blocks, and fall into four parts: C and A lines, O lines, V lines, and D, R, N and X lines.
-- Assumes nothing.
use mathlib.Core.Path.{◌≡◌, refl, sym, ap, ◌∙◌, subst}
use mathlib.Core.Bool.{Bool, true, false, ◌&&◌}
use mathlib.Core.Option.{Option, none, some, none-ne-some, some-injective}
use mathlib.Core.List.{List, [], ◌∷◌, ◌++◌}
use Prim.Native.Nat.{ℕ, suc, ◌-◌, ◌≤◌, min}
use native.Mathlib.Omega.{arith}
use borrow.Author.Tests.{le-ltb, ne_eqb}
use lib.ListN.{length}
use lib.Dec.{T, eqb, ltb, leb}
use Rattle.laws.specs.Lists.{Each, each_nil, each-cons}
use Rattle.laws.proofs.Tests.{and_l, and_r}
use Rattle.laws.proofs.Options.{if_some, on_some_some}
use Rattle.laws.proofs.Lists.{each_imp}
use Rattle.ocl.specs.Types.{Ty}
use Rattle.ocl.specs.Forms.{Expr, levels}
use Rattle.sheet.specs.Text.{Bytes}
use Rattle.sheet.specs.Lines.{Shape, Line, class_line, row_line, object_line, value_line, definition_line, rule_line, node_line, text_line}
use Rattle.sheet.specs.Sheet.{Current, Sheet, empty, added, last_tree, all_used, with_body, end_of, end_for, end_rule, most_levels}
use Rattle.sheet.specs.Refusals.{block_of, next_node, may_be_text, numbered, in_order}
use Rattle.sheet.proofs.Stays.{of_body}
use Rattle.sheet.proofs.GoodLines.{Met, block_le}
use Rattle.profile.specs.RenumberedLines.{early, slots_in, late, value_lines, of_blocks}
use Rattle.profile.proofs.Taken.{closed_by, Takes, takes_nil, takes_cons}

-- ---- what a rule's end leaves

pub record Ended (s t : Sheet) : Type 0 where
  pub block : t.block ≡ s.block
  pub objects : t.objects ≡ s.objects
  pub slots : t.slots ≡ s.slots
  pub closed : t.current ≡ none

ended_body : (s : Sheet) (c : ℕ) (r : Option Ty) (body : Expr) → Ended s (with_body s c r body)
unfolding with_body
ended_body s c none body = record { block = refl; objects = refl; slots = refl; closed = refl }
ended_body s c (some t) body = record { block = refl; objects = refl; slots = refl; closed = refl }

pub end_leaves : (s t : Sheet) → end_rule s ≡ some t → Ended s t
unfolding end_rule end_for end_of
end_leaves s t e = by s.current refl e
  where
    by : (o : Option Current) → s.current ≡ o → end_for s o ≡ some t → Ended s t
    by none q e = subst (Ended s) (some-injective s t e) (record { block = refl; objects = refl; slots = refl; closed = q })
    by (some c) q e =
        let a = on_some_some (last_tree c.trees) _ e in let b = if_some (all_used c.used (length c.trees - 1) && leb (levels a.0) most_levels) _ a.2 in
        subst (Ended s) b.1 (ended_body s c.context c.result a.0)

closed_block : (b : Bool) (s t : Sheet) → closed_by b s ≡ some t → t.block ≡ s.block
unfolding closed_by
closed_block true s t e = ap (λ x. x.block) (sym (some-injective s t e))
closed_block false s t e = (end_leaves s t e).block

-- ---- a definition or rule is open in its own block alone

record Late (s : Sheet) : Type 0 where
  opened : (c : Current) → s.current ≡ some c → 4 ≤ s.block

none_late : (s : Sheet) → s.current ≡ none → Late s
none_late s e = record { opened = λ c q. absurd (none-ne-some c (sym e ∙ q)) }

closed_late : (b : Bool) (s t : Sheet) → closed_by b s ≡ some t → Late s → Late t
unfolding closed_by
closed_late true s t e l = subst Late (some-injective s t e) l
closed_late false s t e l = none_late t (end_leaves s t e).closed

added_late : (s t : Sheet) (k : ℕ) (x : Line) → closed_by (of_body x) s ≡ some t → Late s → Late (added t k x)
unfolding closed_by of_body added
added_late s t k (class_line n p) e l = none_late _ (end_leaves s t e).closed
added_late s t k (row_line n c name u) e l = none_late _ (end_leaves s t e).closed
added_late s t k (object_line n c) e l = none_late _ (end_leaves s t e).closed
added_late s t k (value_line o a v) e l = none_late _ (end_leaves s t e).closed
added_late s t k (definition_line n c u) e l = record { opened = λ d q. omega arith }
added_late s t k (rule_line n c) e l = record { opened = λ d q. omega arith }
added_late s t k (text_line x) e l = record { opened = λ d q. let a = on_some_some t.current _ q in (closed_late true s t e l).opened a.0 a.1 }
added_late s t k (node_line n x) e l = record { opened = λ d q. let a = on_some_some t.current _ q in (closed_late true s t e l).opened a.0 a.1 }

node_late : (s : Sheet) (n : ℕ) (x : Shape) → Late s → Met s (node_line n x) → 4 ≤ s.block
unfolding in_order numbered
node_late s n x l m = by s.current refl (and_l (next_node s.current n) _ (and_r (leb s.block (block_of (node_line n x))) _ m.order))
  where
    by : (o : Option Current) → s.current ≡ o → T (next_node o n) → 4 ≤ s.block
    by none q h = unfold next_node in absurd h
    by (some c) q h = l.opened c q

text_late : (s : Sheet) (x : Bytes) → Late s → Met s (text_line x) → 4 ≤ s.block
unfolding in_order numbered
text_late s x l m = by s.current refl (and_l (may_be_text s.current) _ (and_r (leb s.block (block_of (text_line x))) _ m.order))
  where
    by : (o : Option Current) → s.current ≡ o → T (may_be_text o) → 4 ≤ s.block
    by none q h = unfold may_be_text in absurd h
    by (some c) q h = l.opened c q

-- ---- lines in the order of their blocks; D, R, N and X lines stand in any order

pub data Rising : List Line → Type 0 where
  rising_nil : Rising []
  rising_cons : {x : Line} {xs : List Line} → Each (λ y. min (block_of x) 4 ≤ block_of y) xs → Rising xs → Rising (x ∷ xs)

-- the block after a line
added_block : (s : Sheet) (k : ℕ) (x : Line) → Late s → Met s x → (min (block_of x) 4 ≤ (added s k x).block) × (s.block ≤ (added s k x).block)
unfolding added block_of
added_block s k (class_line n p) l m = (omega arith, block_le s (class_line n p) m)
added_block s k (row_line n c name t) l m = (omega arith, block_le s (row_line n c name t) m)
added_block s k (object_line n c) l m = (omega arith, block_le s (object_line n c) m)
added_block s k (value_line o a v) l m = (omega arith, block_le s (value_line o a v) m)
added_block s k (definition_line n c t) l m = (omega arith, block_le s (definition_line n c t) m)
added_block s k (rule_line n c) l m = (omega arith, block_le s (rule_line n c) m)
added_block s k (node_line n x) l m = (node_late s n x l m, omega arith)
added_block s k (text_line x) l m = (text_late s x l m, omega arith)

takes_over : {s u : Sheet} {k j : ℕ} {xs : List Line} → Late s → Takes s k xs u j → Each (λ y. min s.block 4 ≤ block_of y) xs
takes_over l takes_nil = each_nil
takes_over {s} {k} l (takes_cons {t} {x} e m p) =
    let a = closed_block (of_body x) s t e in let b = block_le t x m in let c = (added_block t (suc k) x (closed_late (of_body x) s t e l) m).1 in
    each-cons {n = x} (omega arith) (each_imp (λ y h. omega arith) (takes_over (added_late s t (suc k) x e l) p))

takes_rising : {s u : Sheet} {k j : ℕ} {xs : List Line} → Late s → Takes s k xs u j → Rising xs
takes_rising l takes_nil = rising_nil
takes_rising {s} {k} l (takes_cons {t} {x} e m p) =
    let c = (added_block t (suc k) x (closed_late (of_body x) s t e l) m).0 in let r = added_late s t (suc k) x e l in
    rising_cons {x = x} (each_imp (λ y h. omega arith) (takes_over r p)) (takes_rising r p)

-- from the beginning
pub lines_rising : {u : Sheet} {j : ℕ} {xs : List Line} → Takes empty 0 xs u j → Rising xs
unfolding empty
lines_rising p = takes_rising (none_late empty refl) p

-- ---- the four parts of lines in order

-- O lines as they stand
abbrev pub object_part : List Line → List Line
object_part ls = of_blocks (λ b. eqb 2 b) ls

none_kept : (f : ℕ → Bool) {ls : List Line} → Each (λ y. f (block_of y) ≡ false) ls → of_blocks f ls ≡ []
unfolding of_blocks
none_kept f each_nil = refl
none_kept f (each-cons e h) = rw e (none_kept f h)

no_early : {ls : List Line} → Each (λ y. 2 ≤ block_of y) ls → early ls ≡ []
no_early h = none_kept (λ b. ltb b 2) (each_imp (λ y l. le-ltb (block_of y) 2 l) h)

no_objects : {ls : List Line} → Each (λ y. 3 ≤ block_of y) ls → object_part ls ≡ []
no_objects h = none_kept (λ b. eqb 2 b) (each_imp (λ y l. ne_eqb 2 (block_of y) (λ e. omega arith)) h)

no_values : {ls : List Line} → Each (λ y. 4 ≤ block_of y) ls → value_lines (slots_in ls) ≡ []
unfolding slots_in value_lines block_of
no_values {ls = []} h = refl
no_values {ls = class_line n p ∷ ls} (each-cons h r) = absurd (omega arith)
no_values {ls = row_line n c name t ∷ ls} (each-cons h r) = absurd (omega arith)
no_values {ls = object_line n c ∷ ls} (each-cons h r) = absurd (omega arith)
no_values {ls = value_line o a v ∷ ls} (each-cons h r) = absurd (omega arith)
no_values {ls = definition_line n c t ∷ ls} (each-cons h r) = no_values r
no_values {ls = rule_line n c ∷ ls} (each-cons h r) = no_values r
no_values {ls = node_line n x ∷ ls} (each-cons h r) = no_values r
no_values {ls = text_line x ∷ ls} (each-cons h r) = no_values r

low : {n m : ℕ} {ls : List Line} → n ≤ m → Each (λ y. m ≤ block_of y) ls → Each (λ y. n ≤ block_of y) ls
low l h = each_imp (λ y k. omega arith) h

rule_parts : (x : Line) (ls : List Line) → Each (λ y. 4 ≤ block_of y) ls → ls ≡ early ls ++ (object_part ls ++ (value_lines (slots_in ls) ++ late ls))
    → x ∷ ls ≡ early ls ++ (object_part ls ++ (value_lines (slots_in ls) ++ (x ∷ late ls)))
rule_parts x ls a h =
    let e = no_early (low (omega arith) a) in let f = no_objects (low (omega arith) a) in let g = no_values a in
    ap (λ r. x ∷ r) (h ∙ ap (λ r. r ++ (object_part ls ++ (value_lines (slots_in ls) ++ late ls))) e ∙ ap (λ r. r ++ (value_lines (slots_in ls) ++ late ls)) f ∙ ap (λ r. r ++ late ls) g)
    ∙ sym (ap (λ r. r ++ (object_part ls ++ (value_lines (slots_in ls) ++ (x ∷ late ls)))) e ∙ ap (λ r. r ++ (value_lines (slots_in ls) ++ (x ∷ late ls))) f ∙ ap (λ r. r ++ (x ∷ late ls)) g)

pub in_parts : (ls : List Line) → Rising ls → ls ≡ early ls ++ (object_part ls ++ (value_lines (slots_in ls) ++ late ls))
unfolding of_blocks slots_in value_lines block_of
in_parts [] h = refl
in_parts (class_line n p ∷ ls) (rising_cons a h) = ap (λ r. class_line n p ∷ r) (in_parts ls h)
in_parts (row_line n c name t ∷ ls) (rising_cons a h) = ap (λ r. row_line n c name t ∷ r) (in_parts ls h)
in_parts (object_line n c ∷ ls) (rising_cons a h) =
    let e = no_early a in ap (λ r. object_line n c ∷ r) (in_parts ls h ∙ ap (λ r. r ++ (object_part ls ++ (value_lines (slots_in ls) ++ late ls))) e)
    ∙ ap (λ r. r ++ (object_line n c ∷ (object_part ls ++ (value_lines (slots_in ls) ++ late ls)))) (sym e)
in_parts (value_line o b v ∷ ls) (rising_cons a h) =
    let e = no_early (low (omega arith) a) in let f = no_objects a in
    ap (λ r. value_line o b v ∷ r) (in_parts ls h ∙ ap (λ r. r ++ (object_part ls ++ (value_lines (slots_in ls) ++ late ls))) e ∙ ap (λ r. r ++ (value_lines (slots_in ls) ++ late ls)) f)
    ∙ sym (ap (λ r. r ++ (object_part ls ++ (value_line o b v ∷ (value_lines (slots_in ls) ++ late ls)))) e ∙ ap (λ r. r ++ (value_line o b v ∷ (value_lines (slots_in ls) ++ late ls))) f)
in_parts (definition_line n c t ∷ ls) (rising_cons a h) = rule_parts (definition_line n c t) ls a (in_parts ls h)
in_parts (rule_line n c ∷ ls) (rising_cons a h) = rule_parts (rule_line n c) ls a (in_parts ls h)
in_parts (node_line n x ∷ ls) (rising_cons a h) = rule_parts (node_line n x) ls a (in_parts ls h)
in_parts (text_line x ∷ ls) (rising_cons a h) = rule_parts (text_line x) ls a (in_parts ls h)
