-- The line numbers of an accepted sheet's nodes are those of its text, which has at most 49,153 parts. Assumes nothing.
use mathlib.Core.Path.{◌≡◌, subst}
use mathlib.Core.Bool.{not, ◌&&◌}
use mathlib.Core.Option.{Option, none, some}
use mathlib.Core.List.{List, [], ◌∷◌}
use Prim.Native.Nat.{ℕ, zero, suc, ◌+◌, ◌-◌, ◌≤◌, ◌<◌}
use native.Mathlib.Omega.{arith}
use native.Mathlib.Decide.{dec_lt}
use borrow.Author.Tests.{lt-ltb}
use lib.Dec.{T, eqb, ltb, leb}
use lib.ListN.{length, get_or, replicate}
use Rattle.laws.specs.Choice.{on_some}
use Rattle.std.specs.Prelude.{if◌then◌else◌}
use Rattle.laws.specs.Lists.{Each, each_nil, each-cons}
use Rattle.laws.proofs.Tests.{by-if, All?, all_none, all_some}
use Rattle.laws.proofs.Lists.{each_append}
use Rattle.ocl.specs.Types.{Ty}
use Rattle.ocl.specs.Forms.{Expr, levels}
use Rattle.sheet.specs.Text.{Bytes, onto, split, lines_of, fields_of}
use Rattle.sheet.specs.Lines.{Line, class_line, row_line, object_line, value_line, definition_line, rule_line, node_line, text_line, line_of, in_body}
use Rattle.sheet.specs.Texts.{nodes_of}
use Rattle.sheet.specs.Sheet.{Current, Sheet, empty, added, last_tree, all_used, with_body, most_levels, end_of, end_for, end_rule}
use Rattle.sheet.specs.Reading.{Step, step, Reading, accepted, rejected, on_step, on_end, closing, read_last, read_lines, read_text}
use Rattle.sheet.proofs.Steps.{Steps, not_taken, takes, spelled_steps}

-- ---- a text's parts

onto_few : (b n : ℕ) (ps : List Bytes) → length ps ≤ n → 1 ≤ n → length (onto b ps) ≤ n
unfolding onto
onto_few b n [] h k = k
onto_few b n (p ∷ ps) h k = h

parts_few : (sep : ℕ) (text : Bytes) → length (split sep text) ≤ length text + 1
unfolding split
parts_few sep [] = omega arith
parts_few sep (b ∷ s) =
    let h = parts_few sep s in
    by-if (λ (ps : List Bytes). length ps ≤ length (b ∷ s) + 1) (eqb b sep) ([] ∷ split sep s) (onto b (split sep s))
    (λ t. omega arith) (λ t. onto_few b (length (b ∷ s) + 1) (split sep s) (omega arith) (omega arith))

-- ---- the lines of a sheet's nodes are at most m

abbrev Low : ℕ → Sheet → Type 0
Low m s = Each (λ k. k ≤ m) s.lines

each_same : {m : ℕ} (n k : ℕ) → k ≤ m → Each (λ i. i ≤ m) (replicate n k)
each_same zero k h = each_nil
each_same (suc n) k h = each-cons h (each_same n k h)

low_added : {m : ℕ} (s : Sheet) (k : ℕ) (l : Line) → k ≤ m → Low m s → Low m (added s k l)
unfolding added
low_added s k (class_line n p) h a = a
low_added s k (row_line n c name t) h a = a
low_added s k (object_line n c) h a = a
low_added s k (value_line o i v) h a = a
low_added s k (definition_line n c t) h a = a
low_added s k (rule_line n c) h a = a
low_added s k (node_line n x) h a = each_append a (each-cons h each_nil)
low_added s k (text_line x) h a = each_append a (each_same (length (nodes_of x)) k h)

low_body : {m : ℕ} (s : Sheet) (c : ℕ) (t : Option Ty) (body : Expr) → Low m s → Low m (with_body s c t body)
unfolding with_body
low_body s c none body a = a
low_body s c (some t) body a = a

low_end : {m : ℕ} (s : Sheet) (c : Current) → Low m s → (o : Option Expr)
    → All? (Low m) (on_some o (λ body. if all_used c.used (length c.trees - 1) && leb (levels body) most_levels then some (with_body s c.context c.result body) else none))
unfolding on_some
low_end s c a none = all_none
low_end {m} s c a (some body) =
    by-if (All? (Low m)) (all_used c.used (length c.trees - 1) && leb (levels body) most_levels) _ none
    (λ t. all_some (low_body s c.context c.result body a)) (λ t. all_none)

low_ended : {m : ℕ} (s : Sheet) → Low m s → (o : Option Current) → All? (Low m) (end_for s o)
unfolding end_for end_of
low_ended s a none = all_some a
low_ended s a (some c) = low_end s c a (last_tree c.trees)

-- ---- a reading that accepts such a sheet

data LowReading (m : ℕ) : Reading → Type 0 where
  no_reading : {n k : ℕ} → LowReading m (rejected n k)
  low_reading : {s : Sheet} → Low m s → LowReading m (accepted s)

on_step_lem : {m : ℕ} {s : Sheet} {o : Option Line} (k : ℕ) {x : Step} {f : Sheet → Reading} → Steps s k o x → k ≤ m → Low m s
    → ((t : Sheet) → Low m t → LowReading m (f t)) → LowReading m (on_step x k f)
unfolding on_step
on_step_lem k not_taken h a g = no_reading
on_step_lem {s = s} k (takes l e met) h a g = g (added s k l) (low_added s k l h a)

on_end_lem : {m : ℕ} {o : Option Sheet} (k : ℕ) {f : Sheet → Reading} → All? (Low m) o → ((t : Sheet) → Low m t → LowReading m (f t)) → LowReading m (on_end o k f)
unfolding on_end
on_end_lem k all_none g = no_reading
on_end_lem k (all_some {x = t} a) g = g t a

on_closing : {m : ℕ} (s : Sheet) (k : ℕ) (fs : List Bytes) {f : Sheet → Reading} → Low m s → ((t : Sheet) → Low m t → LowReading m (f t)) → LowReading m (closing s k fs f)
unfolding closing end_rule
on_closing {m} s k fs a g = by-if (LowReading m) (in_body fs) _ _ (λ t. g s a) (λ t. on_end_lem k (low_ended s a s.current) g)

on_last : {m : ℕ} (k : ℕ) (l : Bytes) (s : Sheet) → Low m s → LowReading m (read_last k l s)
unfolding read_last
on_last k [] s a = low_reading a
on_last k (b ∷ l) s a = no_reading

low_lines : {m : ℕ} (s : Sheet) (k : ℕ) (ls : List Bytes) → k + length ls ≤ m → Low m s → LowReading m (read_lines s k ls)
unfolding read_lines step
low_lines s k [] h a = low_reading a
low_lines s k (l ∷ []) h a = on_closing s k (fields_of l) a (on_last k l)
low_lines s k (l ∷ n ∷ ls) h a =
    on_closing s k (fields_of l) a (λ t b. on_step_lem (suc k) (spelled_steps t (suc k) (line_of (fields_of l))) (omega arith) b
    (λ u c. low_lines u (suc k) (n ∷ ls) (omega arith) c))

not_over : (n : ℕ) → T (not (ltb 49152 n)) → n ≤ 49152
not_over n t = by (dec_lt 49152 n)
  where
    by : Dec (49152 < n) → n ≤ 49152
    by (yes h) = absurd (rw (lt-ltb 49152 n h) at t)
    by (no h) = omega arith

low_text : (text : Bytes) → LowReading 49153 (read_text text)
unfolding read_text lines_of empty
low_text text =
    by-if (LowReading 49153) (ltb 49152 (length text)) _ _ (λ t. no_reading)
    (λ t. low_lines empty 0 (split 10 text) (let h = not_over (length text) t in let p = parts_few 10 text in omega arith) each_nil)

low_at : {m : ℕ} {ns : List ℕ} (p : ℕ) → Each (λ k. k ≤ m) ns → get_or ns p 0 ≤ m
low_at p each_nil = omega arith
low_at zero (each-cons h hs) = h
low_at (suc p) (each-cons h hs) = low_at p hs

pub node_line_low : (text : Bytes) (s : Sheet) → read_text text ≡ accepted s → (p : ℕ) → get_or s.lines p 0 ≤ 49153
node_line_low text s e p = of (subst (LowReading 49153) e (low_text text))
  where
    of : LowReading 49153 (accepted s) → get_or s.lines p 0 ≤ 49153
    of (low_reading a) = low_at p a
