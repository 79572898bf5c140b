-- Marks kept in w1: the sheet still lies in the words, and the marks are those of its definitions and rules. Assumes nothing.
use mathlib.Core.Path.{◌≡◌, refl, sym, ap, ◌∙◌}
use mathlib.Core.Bool.{Bool, true, false}
use mathlib.Core.Option.{Option}
use mathlib.Core.List.{List, [], ◌∷◌, ◌++◌, map}
use Prim.Native.Nat.{ℕ, zero, suc, ◌+◌, ◌*◌, ◌/◌, ◌≤◌, ◌<◌}
use native.Mathlib.Omega.{arith}
use lib.ListN.{length, get_or, take, drop, replicate, set, length-set, length-replicate, get_or-replicate}
use borrow.Author.Count.{below_more}
use lib.Seq.{drop-drop, get_or-take, get_or-drop, get_or-set_same, get_or-set_other, take-set-le, drop-set-lt}
use lib.Dec.{eqb}
use borrow.Author.Tests.{eqb-true, eqb-false}
use Rattle.std.specs.Prelude.{if◌then◌else◌}
use Rattle.laws.specs.Lists.{Each, each_nil, each-cons}
use Rattle.memory.specs.Map as memory
use Rattle.ocl.specs.Types.{kind_code, same_kind}
use Rattle.ocl.specs.Forms.{levels}
use Rattle.ocl.specs.Marks.{Mark, of_row, row_marked, kind_marked, Marks, mark_or, mark_in}
use Rattle.sheet.specs.Sheet.{Current, Sheet, schema_in}
use Rattle.sheet.specs.Calls.{definition_marks, rule_marks, marks_of}
use Rattle.nodes.specs.Nodes.{tree_at}
use Rattle.nodes.specs.Marks.{mark_word}
use Rattle.nodes.proofs.Keep.{tree_keep}
use Rattle.tables.specs.declared.Counts.{Counts}
use Rattle.tables.specs.Layout.{tab, lines_in, HoldsCurrent, HoldsOpen, closed, opened, Kept}
use Rattle.judgements.specs.Replies.{write_marks}
use Rattle.rules.specs.Accepted.{InWords, MarksIn}
use Rattle.rules.specs.All.{KeepsMarks}

-- ---- copying, of which i words are done

pub record Copying (w2 before : List ℕ) (i : ℕ) (now : List ℕ) : Type 0 where
  pub within : i ≤ 768
  pub at : (p : ℕ) → p < i → get_or now (memory.marks + p) 0 ≡ get_or w2 p 0
  pub below : take memory.nodes_end now ≡ take memory.nodes_end before
  pub above : drop memory.depths now ≡ drop memory.depths before
  pub size : length now ≡ length before

pub copy_none : (w2 before : List ℕ) → Copying w2 before 0 before
copy_none w2 before = record { within = omega arith; at = λ p h. absurd (omega arith); below = refl; above = refl; size = refl }

pub copy_more : {w2 before now : List ℕ} {i : ℕ} → 8192 ≤ length before → i < 768 → Copying w2 before i now
    → Copying w2 before (i + 1) (set now (memory.marks + i) (get_or w2 i 0))
copy_more {w2} {before} {now} {i} room h c =
    let x = get_or w2 i 0 in
    let v = set now (memory.marks + i) x in
    record {
      within = omega arith;
      at = below_more (λ (p : ℕ). get_or v (memory.marks + p) 0 ≡ get_or w2 p 0) i
          (λ p l. get_or-set_other now (memory.marks + i) (memory.marks + p) x 0 (λ e. absurd (omega arith)) ∙ c.at p l)
          (get_or-set_same now (memory.marks + i) x 0 (omega (arith, c.size)));
      below = take-set-le memory.nodes_end now (memory.marks + i) x (omega arith) ∙ c.below;
      above = drop-set-lt memory.depths now (memory.marks + i) x (omega arith) ∙ c.above;
      size = length-set now (memory.marks + i) x ∙ c.size;
    }

pub copy_done : {w2 before now : List ℕ} {i : ℕ} → 768 ≤ i → Copying w2 before i now → KeepsMarks w2 before now
copy_done h c = record { at = λ p l. c.at p (omega (arith, c.within)); below = c.below; above = c.above; size = c.size }

-- ---- what does not change

module _ {w2 w1 v1 : List ℕ} (k : KeepsMarks w2 w1 v1) where
  node_words : (i : ℕ) → i < 8 * 768 → get_or v1 i 0 ≡ get_or w1 i 0
  node_words i h = sym (get_or-take memory.nodes_end v1 i 0 (omega arith)) ∙ ap (λ (l : List ℕ). get_or l i 0) k.below ∙ get_or-take memory.nodes_end w1 i 0 (omega arith)

  depth_words : (i : ℕ) → get_or v1 (memory.depths + i) 0 ≡ get_or w1 (memory.depths + i) 0
  depth_words i = sym (get_or-drop memory.depths v1 i 0) ∙ ap (λ (l : List ℕ). get_or l i 0) k.above ∙ get_or-drop memory.depths w1 i 0

  tree_same : (n : ℕ) → n < 768 → tree_at v1 n ≡ tree_at w1 n
  tree_same = tree_keep v1 w1 768 node_words

  trees_same : (b : ℕ) → b ≤ 768 → (ns : List ℕ) → Each (λ n. n < b) ns → map (tree_at v1) ns ≡ map (tree_at w1) ns
  trees_same b h [] each_nil = refl
  trees_same b h (n ∷ ns) (each-cons l ls) = rw (tree_same n (omega arith), trees_same b h ns ls)

  depths_same : (b : ℕ) → b ≤ 768 → (ns : List ℕ) → Each (λ n. n < b) ns → Each (λ n. get_or w1 (memory.depths + n) 0 / 2 ≡ levels (tree_at w1 n)) ns
      → Each (λ n. get_or v1 (memory.depths + n) 0 / 2 ≡ levels (tree_at v1 n)) ns
  depths_same b h [] each_nil each_nil = each_nil
  depths_same b h (n ∷ ns) (each-cons l ls) (each-cons e es) = each-cons {n = n} (rw (depth_words n, tree_same n (omega arith)) e) (depths_same b h ns ls es)

  pub lines_same : (n : ℕ) → n ≤ 768 → lines_in v1 n ≡ lines_in w1 n
  unfolding lines_in
  lines_same zero h = refl
  lines_same (suc n) h = rw (lines_same n (omega arith), node_words (8 * n + 7) (omega arith))

  module _ {st : Counts} {n : ℕ} (small : n ≤ 768) where
    current_same : {c : Current} → HoldsCurrent st w1 n c → HoldsCurrent st v1 n c
    current_same {c} h = record {
      is_open = h.is_open;
      of_rule = h.of_rule;
      context = h.context;
      result = h.result;
      first = h.first;
      count = h.count;
      trees = λ a l. h.trees a l ∙ sym (tree_same (c.first + a) (omega (arith, h.count)));
      depths = λ a l. depth_words (c.first + a) ∙ h.depths a l;
      used = h.used;
    }

    open_same : {c : Option Current} → HoldsOpen st w1 n c → HoldsOpen st v1 n c
    open_same (closed e) = closed e
    open_same (opened h) = opened (current_same h)

  pub accepted_same : {st : Counts} {w0 : List ℕ} {s : Sheet} → InWords st w0 w1 s → InWords st w0 v1 s
  accepted_same {st} {w0} {s} a =
      let small : length s.lines ≤ 768 = omega (arith, a.fine.nodes, a.holds.counted.nodes) in
      let h = a.holds.rules in
      let d = a.holds.definitions in
      let roots = tab memory.definition_roots (length s.definitions) w0 in
      record {
        good = a.good;
        low = a.low;
        fine = a.fine;
        holds = record {
          counted = a.holds.counted;
          tables = a.holds.tables;
          definitions = record {
            contexts = d.contexts;
            classes = d.classes;
            types = d.types;
            bodies = trees_same (length s.lines) small roots d.roots ∙ d.bodies;
            roots = d.roots;
            depths = depths_same (length s.lines) small roots d.roots d.depths;
          };
          rules = record {
            bodies = trees_same (length s.lines) small (tab memory.roots (length s.rules) w0) h.roots ∙ h.bodies;
            roots = h.roots;
            lines = lines_same (length s.lines) small ∙ h.lines;
          };
          current = open_same small a.holds.current;
        };
      }

pub marks_kept : {w2 w1 v1 : List ℕ} → KeepsMarks w2 w1 v1 → Kept w1 v1
marks_kept {w2} {w1} {v1} k = record { size = k.size; rest = sym (drop-drop 1280 memory.depths v1) ∙ ap (drop 1280) k.above ∙ drop-drop 1280 memory.depths w1 }

-- only marks change
pub kept_behind : {u v : List ℕ} → drop 768 v ≡ drop 768 u → length v ≡ length u → Kept u v
kept_behind {u} {v} rest size = record { size = size; rest = sym (drop-drop 7424 768 v) ∙ ap (drop 7424) rest ∙ drop-drop 7424 768 u }

-- ---- each word of a table of marks is that of the last mark made there

set_at : (l : List ℕ) (i p v : ℕ) → p < length l → (b : Bool) → eqb p i ≡ b → get_or (set l i v) p 0 ≡ (if b then v else get_or l p 0)
set_at l i p v h true e = let q = eqb-true p i e in rw q (get_or-set_same l i v 0 (omega arith))
set_at l i p v h false e = get_or-set_other l i p v 0 (eqb-false p i e)

word_of : (b : Bool) (x d : Mark) → (if b then mark_word x else mark_word d) ≡ mark_word (if b then x else d)
word_of true x d = refl
word_of false x d = refl

mark_at : (m : Marks) (l : List ℕ) (p : ℕ) (d : Mark) → p < length l → get_or l p 0 ≡ mark_word d → get_or (write_marks l m) p 0 ≡ mark_word (mark_or d m p)
unfolding write_marks mark_or
mark_at [] l p d h e = e
mark_at (x ∷ m) l p d h e =
    mark_at m (set l x.0 (mark_word x.1)) p (if eqb p x.0 then x.1 else d) (simp length-set (omega arith))
    (set_at l x.0 p (mark_word x.1) h (eqb p x.0) refl ∙ ap (λ (n : ℕ). if eqb p x.0 then mark_word x.1 else n) e ∙ word_of (eqb p x.0) x.1 d)

-- ---- the marks that typing left, over a cleared table

pub zeros_length : length (replicate {A = ℕ} 768 0) ≡ 768
zeros_length = length-replicate {A = ℕ} 768 0

-- all marks of a sheet, in order
abbrev pub sheet_marks : Sheet → Marks
sheet_marks s = definition_marks (schema_in s) s.definitions ++ rule_marks (schema_in s) s.rules

pub marks_in : {w2 w1 v1 : List ℕ} (s : Sheet) → take 768 w2 ≡ write_marks (replicate 768 0) (sheet_marks s) → KeepsMarks w2 w1 v1 → MarksIn v1 s
unfolding marks_of mark_in mark_word kind_marked row_marked same_kind kind_code
marks_in {w2} s e k = record {
  at = λ p h. k.at p h ∙ sym (get_or-take 768 w2 p 0 h) ∙ ap (λ (l : List ℕ). get_or l p 0) e
      ∙ mark_at (sheet_marks s) (replicate 768 0) p (of_row 0) (rw zeros_length h) (get_or-replicate 768 p 0 0 h);
}
