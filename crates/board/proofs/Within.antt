-- The slots of a sheet that is read are within 21's limits, which are a sheet's own, and each is as a V line's. Assumes nothing.
use mathlib.Core.Path.{◌≡◌, refl, sym, ◌∙◌, subst}
use mathlib.Core.Bool.{Bool, true, false, ◌&&◌}
use mathlib.Core.Option.{Option, none, some}
use mathlib.Core.List.{List, [], ◌∷◌}
use Prim.Native.Nat.{ℕ, suc, ◌+◌, ◌-◌, ◌<◌, ◌≤◌}
use native.Mathlib.Omega.{arith}
use borrow.Author.Tests.{le-leb}
use lib.ListN.{length}
use lib.Dec.{T, leb, leb→le, ltb, ltb→lt}
use Rattle.laws.specs.Choice.{on_some}
use Rattle.std.specs.Prelude.{if◌then◌else◌}
use Rattle.laws.proofs.Tests.{and_l, and_r, by-if}
use Rattle.laws.specs.Lists.{Each, each_nil, each-cons}
use Rattle.laws.proofs.Lists.{length_more, each_imp, each_append}
use Rattle.ocl.specs.Types.{Ty}
use Rattle.ocl.specs.Values.{size}
use Rattle.ocl.specs.Forms.{Expr, levels}
use Rattle.sheet.specs.Text.{Bytes, lines_of, fields_of}
use Rattle.sheet.specs.Lines.{Line, class_line, row_line, object_line, value_line, definition_line, rule_line, node_line, text_line, line_of, in_body}
use Rattle.sheet.specs.Texts.{brackets_within, is_sentence, on_text}
use Rattle.sheet.specs.Sheet.{Slot, Current, Sheet, empty, added, last_tree, all_used, with_body, end_of, end_for, end_rule, most_levels}
use Rattle.sheet.specs.Limits.{total_size, value_within, within_limits}
use Rattle.sheet.specs.Refusals.{block_of, in_order, parts_known, calls_smaller, calls_known, suits, tree_holds}
use Rattle.sheet.specs.Reading.{Step, taken, refuse, must, step_line, step_spelled, step, Reading, accepted, rejected, on_step, on_end, closing, read_last, read_lines, read_text}
use Rattle.sheet.proofs.TextLaws.{lines_read}
use Rattle.sheet.proofs.GoodLines.{Met, block_le}
use Rattle.sheet.proofs.SlotSizes.{size_more}
use Rattle.board.specs.Edits.{has_room}
use Rattle.board.proofs.Facts.{line_for, Fact, fact_same, fact_of}

pub record Small (s : Sheet) : Type 0 where
  pub count : length s.slots ≤ 1024
  pub sizes : total_size s.slots ≤ 2048
  -- no value stands on the sheet before its block
  pub early : s.block < 3 → s.slots ≡ []
  pub facts : Each (Fact s) s.slots

-- ---- a line

-- the sheet with other fields than slots changed
small_same : (s t : Sheet) → t.slots ≡ s.slots → t.parents ≡ s.parents → t.rows ≡ s.rows → t.objects ≡ s.objects → (t.block < 3 → s.block < 3) → Small s → Small t
small_same s t e p q r b h = record {
  count = rw e h.count;
  sizes = rw e h.sizes;
  early = λ l. e ∙ h.early (b l);
  facts = subst (Each (Fact t)) (sym e) (each_imp (λ x. fact_same s t x p q r) h.facts);
}

-- classes, rows and objects come before all slots
small_none : (s t : Sheet) (l : Line) → t.slots ≡ s.slots → block_of l < 3 → Met s l → Small s → Small t
small_none s t l e n m h =
    let z : t.slots ≡ [] = e ∙ h.early (let k = block_le s l m in omega arith) in
    record { count = rw e h.count; sizes = rw e h.sizes; early = λ i. z; facts = rw z each_nil }

small_value : (s : Sheet) (k : ℕ) (y : Slot) → Small s → Met s (line_for y) → Small (added s k (line_for y))
unfolding added within_limits
small_value s k y h g =
    let o = y.object in let a = y.row in let v = y.value in
    let p = and_l (ltb o 96 && ltb a 64 && value_within v && ltb (length s.slots) 1024) (leb (total_size s.slots + size v) 2048) g.limits in
    let q = and_r (ltb o 96 && ltb a 64 && value_within v && ltb (length s.slots) 1024) (leb (total_size s.slots + size v) 2048) g.limits in
    let n = ltb→lt (length s.slots) 1024 (and_r (ltb o 96 && ltb a 64 && value_within v) (ltb (length s.slots) 1024) p) in
    let m = leb→le (total_size s.slots + size v) 2048 q in
    let t = added s k (line_for y) in
    record {
      count = omega (arith, length_more s.slots y);
      sizes = omega (arith, size_more s.slots y);
      early = λ l. absurd (omega arith);
      facts = each_append (each_imp (λ x. fact_same s t x refl refl refl) h.facts) (each-cons (fact_same s t y refl refl refl (fact_of s y g)) each_nil);
    }

small_added : (s : Sheet) (k : ℕ) (l : Line) → Small s → Met s l → Small (added s k l)
unfolding added block_of
small_added s k (class_line n p) h m = small_none s (added s k (class_line n p)) (class_line n p) refl (omega arith) m h
small_added s k (row_line n c name x) h m = small_none s (added s k (row_line n c name x)) (row_line n c name x) refl (omega arith) m h
small_added s k (object_line n c) h m = small_none s (added s k (object_line n c)) (object_line n c) refl (omega arith) m h
small_added s k (value_line o a v) h m = small_value s k (record { object = o; row = a; value = v }) h m
small_added s k (definition_line n c x) h m = small_same s (added s k (definition_line n c x)) refl refl refl refl (λ l. absurd (omega arith)) h
small_added s k (rule_line n c) h m = small_same s (added s k (rule_line n c)) refl refl refl refl (λ l. absurd (omega arith)) h
small_added s k (node_line n x) h m = small_same s (added s k (node_line n x)) refl refl refl refl (λ l. l) h
small_added s k (text_line x) h m = small_same s (added s k (text_line x)) refl refl refl refl (λ l. l) h

data SmallStep : Step → Type 0 where
  no_step : {n : ℕ} → SmallStep (refuse n)
  steps : {s : Sheet} → Small s → SmallStep (taken s)

must_small : (b : Bool) (n : ℕ) {x : Step} → (T b → SmallStep x) → SmallStep (must b n x)
unfolding must
must_small true n h = h tt
must_small false n h = no_step

small_spelled : (s : Sheet) (k : ℕ) (o : Option Line) → Small s → SmallStep (step_spelled s k o)
unfolding step_spelled step_line
small_spelled s k none h = no_step
small_spelled s k (some x) h =
    must_small (on_text x brackets_within) 4 (λ b. must_small (on_text x is_sentence) 20 (λ c. must_small (within_limits s x) 4 (λ d. must_small (in_order s x) 5 (λ e.
    must_small (parts_known s x) 6 (λ f. must_small (calls_smaller s x) 23 (λ g. must_small (calls_known s x) 24 (λ i. must_small (suits s x) 7 (λ j.
    must_small (tree_holds s x) 8 (λ l. steps (small_added s k x h
    (record { brackets = b; sentence = c; limits = d; order = e; parts = f; smaller = g; known = i; suit = j; tree = l })))))))))))

-- ---- the end of a definition or rule

data SmallEnd : Option Sheet → Type 0 where
  no_end : SmallEnd none
  ends : {s : Sheet} → Small s → SmallEnd (some s)

small_body : (s : Sheet) (c : ℕ) (t : Option Ty) (body : Expr) → Small s → Small (with_body s c t body)
unfolding with_body
small_body s c (some t) body h = small_same s (with_body s c (some t) body) refl refl refl refl (λ l. l) h
small_body s c none body h = small_same s (with_body s c none body) refl refl refl refl (λ l. l) h

small_end : (s : Sheet) → Small s → SmallEnd (end_rule s)
unfolding end_rule end_for end_of on_some
small_end s h = by s.current
  where
    last : (c : Current) (o : Option Expr)
        → SmallEnd (on_some o (λ body. if all_used c.used (length c.trees - 1) && leb (levels body) most_levels then some (with_body s c.context c.result body) else none))
    last c none = no_end
    last c (some body) = by-if SmallEnd (all_used c.used (length c.trees - 1) && leb (levels body) most_levels) _ none (λ t. ends (small_body s c.context c.result body h)) (λ t. no_end)

    by : (o : Option Current) → SmallEnd (end_for s o)
    by none = ends h
    by (some c) = last c (last_tree c.trees)

-- ---- a text

data SmallReading : Reading → Type 0 where
  refusing : {n k : ℕ} → SmallReading (rejected n k)
  reads : {s : Sheet} → Small s → SmallReading (accepted s)

on_step_lem : {x : Step} (k : ℕ) {f : Sheet → Reading} → SmallStep x → ((s : Sheet) → Small s → SmallReading (f s)) → SmallReading (on_step x k f)
unfolding on_step
on_step_lem k no_step h = refusing
on_step_lem k (steps {s} g) h = h s g

on_end_lem : {o : Option Sheet} (k : ℕ) {f : Sheet → Reading} → SmallEnd o → ((s : Sheet) → Small s → SmallReading (f s)) → SmallReading (on_end o k f)
unfolding on_end
on_end_lem k no_end h = refusing
on_end_lem k (ends {s} g) h = h s g

on_closing : (s : Sheet) (k : ℕ) (fs : List Bytes) {f : Sheet → Reading} → Small s → ((s : Sheet) → Small s → SmallReading (f s)) → SmallReading (closing s k fs f)
unfolding closing
on_closing s k fs g h = by-if SmallReading (in_body fs) _ _ (λ t. h s g) (λ t. on_end_lem k (small_end s g) h)

on_last : (k : ℕ) (l : Bytes) (s : Sheet) → Small s → SmallReading (read_last k l s)
unfolding read_last
on_last k [] s g = reads g
on_last k (b ∷ l) s g = refusing

small_lines : (s : Sheet) (k : ℕ) (ls : List Bytes) → Small s → SmallReading (read_lines s k ls)
unfolding read_lines step
small_lines s k [] g = reads g
small_lines s k (l ∷ []) g = on_closing s k (fields_of l) g (on_last k l)
small_lines s k (l ∷ m ∷ ls) g =
    on_closing s k (fields_of l) g (λ t h. on_step_lem (suc k) (small_spelled t (suc k) (line_of (fields_of l)) h) (λ u i. small_lines u (suc k) (m ∷ ls) i))

small_empty : Small empty
unfolding empty total_size
small_empty = record { count = omega arith; sizes = omega arith; early = λ l. refl; facts = each_nil }

pub room_of : (xs : List Slot) → length xs ≤ 1024 → total_size xs ≤ 2048 → T (has_room xs)
unfolding has_room
room_of xs p q = rw (le-leb (length xs) 1024 p, le-leb (total_size xs) 2048 q) tt

pub read_small : (text : Bytes) (s : Sheet) → read_text text ≡ accepted s → Small s
read_small text s e = of (subst SmallReading (lines_read text s e) (small_lines empty 0 (lines_of text) small_empty))
  where
    of : SmallReading (accepted s) → Small s
    of (reads g) = g
