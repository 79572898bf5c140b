-- Reading does not look at line numbers: two sheets that differ only in them go on alike, line by line, and every call answers the same
-- for them, with other places at most. Assumes nothing.
use mathlib.Core.Path.{◌≡◌, refl, sym, ap, ◌∙◌}
use mathlib.Core.Bool.{Bool, true, false, ◌&&◌}
use mathlib.Core.Option.{Option, none, some}
use mathlib.Core.List.{List, [], ◌∷◌, ◌++◌}
use Prim.Native.Nat.{ℕ, suc, ◌+◌, ◌-◌}
use native.Mathlib.Omega.{arith}
use lib.ListN.{length, length-append, replicate, length-replicate}
use lib.Dec.{leb}
use Rattle.laws.specs.Choice.{on_some}
use Rattle.std.specs.Prelude.{if◌then◌else◌}
use Rattle.ocl.specs.Types.{Ty}
use Rattle.ocl.specs.Forms.{Expr, levels}
use Rattle.sheet.specs.Text.{Bytes, fields_of}
use Rattle.sheet.specs.Lines.{Line, class_line, row_line, object_line, value_line, definition_line, rule_line, node_line, text_line, line_of, in_body}
use Rattle.sheet.specs.Texts.{brackets_within, is_sentence, on_text, nodes_of}
use Rattle.sheet.specs.Sheet.{Current, Sheet, model_of, added, last_tree, all_used, with_body, most_levels, end_of, end_for, end_rule}
use Rattle.sheet.specs.Limits.{within_limits}
use Rattle.sheet.specs.Refusals.{numbered, in_order, parts_known, calls_smaller, calls_known, suits, tree_holds}
use Rattle.sheet.specs.Reading.{Step, taken, refuse, must, step_line, step_spelled, step, Reading, accepted, rejected, on_step, on_end, closing, read_last, read_lines}
use Rattle.sheet.specs.TextLaws.{with_lines}

-- ---- sheets that differ only in line numbers

pub data Alike : Sheet → Sheet → Type 0 where
  alike : (s : Sheet) (ls : List ℕ) → length ls ≡ length s.lines → Alike s (with_lines s ls)

-- ---- the tests of a line

module _ (s : Sheet) (ls : List ℕ) (e : length ls ≡ length s.lines) where
  limits_same : (l : Line) → within_limits (with_lines s ls) l ≡ within_limits s l
  unfolding within_limits with_lines
  limits_same (class_line n p) = refl
  limits_same (row_line n c name t) = refl
  limits_same (object_line n c) = refl
  limits_same (value_line o a v) = refl
  limits_same (definition_line n c t) = refl
  limits_same (rule_line n c) = refl
  limits_same (node_line n x) = rw e
  limits_same (text_line x) = rw e

  order_same : (l : Line) → in_order (with_lines s ls) l ≡ in_order s l
  unfolding in_order numbered with_lines
  order_same (class_line n p) = refl
  order_same (row_line n c name t) = refl
  order_same (object_line n c) = refl
  order_same (value_line o a v) = refl
  order_same (definition_line n c t) = refl
  order_same (rule_line n c) = refl
  order_same (node_line n x) = refl
  order_same (text_line x) = refl

  parts_same : (l : Line) → parts_known (with_lines s ls) l ≡ parts_known s l
  unfolding parts_known with_lines
  parts_same (class_line n p) = refl
  parts_same (row_line n c name t) = refl
  parts_same (object_line n c) = refl
  parts_same (value_line o a v) = refl
  parts_same (definition_line n c t) = refl
  parts_same (rule_line n c) = refl
  parts_same (node_line n x) = refl
  parts_same (text_line x) = refl

  smaller_same : (l : Line) → calls_smaller (with_lines s ls) l ≡ calls_smaller s l
  unfolding calls_smaller with_lines
  smaller_same (class_line n p) = refl
  smaller_same (row_line n c name t) = refl
  smaller_same (object_line n c) = refl
  smaller_same (value_line o a v) = refl
  smaller_same (definition_line n c t) = refl
  smaller_same (rule_line n c) = refl
  smaller_same (node_line n x) = refl
  smaller_same (text_line x) = refl

  known_same : (l : Line) → calls_known (with_lines s ls) l ≡ calls_known s l
  unfolding calls_known with_lines
  known_same (class_line n p) = refl
  known_same (row_line n c name t) = refl
  known_same (object_line n c) = refl
  known_same (value_line o a v) = refl
  known_same (definition_line n c t) = refl
  known_same (rule_line n c) = refl
  known_same (node_line n x) = refl
  known_same (text_line x) = refl

  suits_same : (l : Line) → suits (with_lines s ls) l ≡ suits s l
  unfolding suits with_lines model_of
  suits_same (class_line n p) = refl
  suits_same (row_line n c name t) = refl
  suits_same (object_line n c) = refl
  suits_same (value_line o a v) = refl
  suits_same (definition_line n c t) = refl
  suits_same (rule_line n c) = refl
  suits_same (node_line n x) = refl
  suits_same (text_line x) = refl

  tree_same : (l : Line) → tree_holds (with_lines s ls) l ≡ tree_holds s l
  unfolding tree_holds with_lines
  tree_same (class_line n p) = refl
  tree_same (row_line n c name t) = refl
  tree_same (object_line n c) = refl
  tree_same (value_line o a v) = refl
  tree_same (definition_line n c t) = refl
  tree_same (rule_line n c) = refl
  tree_same (node_line n x) = refl
  tree_same (text_line x) = refl

  -- a new body's first node is counted
  added_alike : (k j : ℕ) (l : Line) → Alike (added s k l) (added (with_lines s ls) j l)
  unfolding added with_lines
  added_alike k j (class_line n p) = alike (added s k (class_line n p)) ls e
  added_alike k j (row_line n c name t) = alike (added s k (row_line n c name t)) ls e
  added_alike k j (object_line n c) = alike (added s k (object_line n c)) ls e
  added_alike k j (value_line o a v) = alike (added s k (value_line o a v)) ls e
  added_alike k j (definition_line n c t) = rw e (alike (added s k (definition_line n c t)) ls e)
  added_alike k j (rule_line n c) = rw e (alike (added s k (rule_line n c)) ls e)
  added_alike k j (node_line n x) =
      alike (added s k (node_line n x)) (ls ++ (j ∷ [])) (let p = length-append ls (j ∷ []) in let q = length-append s.lines (k ∷ []) in omega arith)
  added_alike k j (text_line x) =
      let m = length (nodes_of x) in
      alike (added s k (text_line x)) (ls ++ replicate m j)
      (length-append ls (replicate m j) ∙ ap (λ i. length ls + i) (length-replicate m j) ∙ ap (λ i. i + m) e
      ∙ sym (length-append s.lines (replicate m k) ∙ ap (λ i. length s.lines + i) (length-replicate m k)))

-- ---- one line

pub data LikeStep : Step → Step → Type 0 where
  both_taken : {s t : Sheet} → Alike s t → LikeStep (taken s) (taken t)
  both_refuse : {n : ℕ} → LikeStep (refuse n) (refuse n)

must_alike : (b c : Bool) (n : ℕ) {x y : Step} → c ≡ b → LikeStep x y → LikeStep (must b n x) (must c n y)
unfolding must
must_alike true c n e h = rw e h
must_alike false c n e h = rw e both_refuse

pub step_alike : (k j : ℕ) {s t : Sheet} (fs : List Bytes) → Alike s t → LikeStep (step s k fs) (step t j fs)
unfolding step
step_alike k j fs (alike s ls e) = spelled (line_of fs)
  where
    spelled : (o : Option Line) → LikeStep (step_spelled s k o) (step_spelled (with_lines s ls) j o)
    spelled none = unfold step_spelled in both_refuse
    spelled (some l) = unfold step_spelled step_line in
        must_alike (on_text l brackets_within) (on_text l brackets_within) 4 refl (must_alike (on_text l is_sentence) (on_text l is_sentence) 20 refl
        (must_alike (within_limits s l) (within_limits (with_lines s ls) l) 4 (limits_same s ls e l)
        (must_alike (in_order s l) (in_order (with_lines s ls) l) 5 (order_same s ls e l)
        (must_alike (parts_known s l) (parts_known (with_lines s ls) l) 6 (parts_same s ls e l)
        (must_alike (calls_smaller s l) (calls_smaller (with_lines s ls) l) 23 (smaller_same s ls e l)
        (must_alike (calls_known s l) (calls_known (with_lines s ls) l) 24 (known_same s ls e l)
        (must_alike (suits s l) (suits (with_lines s ls) l) 7 (suits_same s ls e l)
        (must_alike (tree_holds s l) (tree_holds (with_lines s ls) l) 8 (tree_same s ls e l)
        (both_taken (added_alike s ls e k j l))))))))))

-- ---- the end of a definition or rule

pub data LikeEnd : Option Sheet → Option Sheet → Type 0 where
  both_bad : LikeEnd none none
  both_end : {s t : Sheet} → Alike s t → LikeEnd (some s) (some t)

end_if : (b : Bool) {s t : Sheet} → Alike s t → LikeEnd (if b then some s else none) (if b then some t else none)
end_if true h = both_end h
end_if false h = both_bad

-- two sheets that differ in line numbers and in what is open, that with the same nodes
pub body_alike : (s : Sheet) (ls : List ℕ) (o : Option Current) → length ls ≡ length s.lines → (c : ℕ) (t : Option Ty) (body : Expr)
    → Alike (with_body s c t body) (with_body (record { block = s.block; parents = s.parents; rows = s.rows; objects = s.objects; slots = s.slots; lines = ls; definitions = s.definitions; rules = s.rules; current = o }) c t body)
unfolding with_body with_lines
body_alike s ls o e c (some t) body = alike (with_body s c (some t) body) ls e
body_alike s ls o e c none body = alike (with_body s c none body) ls e

-- at the end of it, only its nodes, operands, class and type are asked for
pub end_alike : (s : Sheet) (ls : List ℕ) (o : Option Current) (c d : Current) → length ls ≡ length s.lines
    → d.trees ≡ c.trees → d.used ≡ c.used → d.context ≡ c.context → d.result ≡ c.result
    → LikeEnd (end_of s c) (end_of (record { block = s.block; parents = s.parents; rows = s.rows; objects = s.objects; slots = s.slots; lines = ls; definitions = s.definitions; rules = s.rules; current = o }) d)
unfolding end_of on_some
end_alike s ls o c d e p q u v = rw (p, q, u, v) (by (last_tree c.trees))
  where
    by : (r : Option Expr)
        → LikeEnd (on_some r (λ body. if all_used c.used (length c.trees - 1) && leb (levels body) most_levels then some (with_body s c.context c.result body) else none))
        (on_some r (λ body. if all_used c.used (length c.trees - 1) && leb (levels body) most_levels then some (with_body (record { block = s.block; parents = s.parents; rows = s.rows; objects = s.objects; slots = s.slots; lines = ls; definitions = s.definitions; rules = s.rules; current = o }) c.context c.result body) else none))
    by none = both_bad
    by (some body) = end_if (all_used c.used (length c.trees - 1) && leb (levels body) most_levels) (body_alike s ls o e c.context c.result body)

end_rule_alike : {s t : Sheet} → Alike s t → LikeEnd (end_rule s) (end_rule t)
unfolding end_rule end_for with_lines
end_rule_alike (alike s ls e) = by s.current refl
  where
    by : (o : Option Current) → s.current ≡ o → LikeEnd (end_for s o) (end_for (with_lines s ls) o)
    by none q = both_end (alike s ls e)
    by (some c) q = end_alike s ls s.current c c e refl refl refl refl

-- ---- all lines

pub data LikeReading : Reading → Reading → Type 0 where
  both_accepted : {s t : Sheet} → Alike s t → LikeReading (accepted s) (accepted t)
  both_rejected : {n k j : ℕ} → LikeReading (rejected n k) (rejected n j)

on_step_lem : {x y : Step} (k j : ℕ) {f g : Sheet → Reading} → LikeStep x y → ((s t : Sheet) → Alike s t → LikeReading (f s) (g t)) → LikeReading (on_step x k f) (on_step y j g)
unfolding on_step
on_step_lem k j (both_taken {s} {t} h) r = r s t h
on_step_lem k j both_refuse r = both_rejected

pub on_end_lem : {x y : Option Sheet} (k j : ℕ) {f g : Sheet → Reading} → LikeEnd x y → ((s t : Sheet) → Alike s t → LikeReading (f s) (g t)) → LikeReading (on_end x k f) (on_end y j g)
unfolding on_end
on_end_lem k j both_bad r = both_rejected
on_end_lem k j (both_end {s} {t} h) r = r s t h

on_closing : {s t : Sheet} (k j : ℕ) (fs : List Bytes) {f g : Sheet → Reading} → Alike s t → ((s t : Sheet) → Alike s t → LikeReading (f s) (g t)) → LikeReading (closing s k fs f) (closing t j fs g)
unfolding closing
on_closing {s} {t} k j fs {f} {g} h r = by (in_body fs)
  where
    by : (b : Bool) → LikeReading (if b then f s else on_end (end_rule s) k f) (if b then g t else on_end (end_rule t) j g)
    by true = r s t h
    by false = on_end_lem k j (end_rule_alike h) r

on_last : (k j : ℕ) (l : Bytes) {s t : Sheet} → Alike s t → LikeReading (read_last k l s) (read_last j l t)
unfolding read_last
on_last k j [] h = both_accepted h
on_last k j (b ∷ l) h = both_rejected

-- after what a line ends
unfoldable pub going : ℕ → Bytes → List Bytes → Sheet → Reading
going k l [] s = read_last k l s
going k l (m ∷ ls) s = on_step (step s (suc k) (fields_of l)) (suc k) (λ u. read_lines u (suc k) (m ∷ ls))

pub read_by : (s : Sheet) (k : ℕ) (l : Bytes) (ls : List Bytes) → read_lines s k (l ∷ ls) ≡ closing s k (fields_of l) (going k l ls)
unfolding read_lines going
read_by s k l [] = refl
read_by s k l (m ∷ ls) = refl

pub lines_alike : (k j : ℕ) (ls : List Bytes) {s t : Sheet} → Alike s t → LikeReading (read_lines s k ls) (read_lines t j ls)
unfolding read_lines
lines_alike k j [] h = both_accepted h
lines_alike k j (l ∷ []) h = on_closing k j (fields_of l) h (λ s t. on_last k j l)
lines_alike k j (l ∷ m ∷ ls) h = on_closing k j (fields_of l) h (λ s t i. on_step_lem (suc k) (suc j) (step_alike (suc k) (suc j) (fields_of l) i) (λ s t u. lines_alike (suc k) (suc j) (m ∷ ls) u))

pub going_alike : (k j : ℕ) (l : Bytes) (ls : List Bytes) {s t : Sheet} → Alike s t → LikeReading (going k l ls s) (going j l ls t)
unfolding going
going_alike k j l [] h = on_last k j l h
going_alike k j l (m ∷ ls) h = on_step_lem (suc k) (suc j) (step_alike (suc k) (suc j) (fields_of l) h) (λ s t. lines_alike (suc k) (suc j) (m ∷ ls))
