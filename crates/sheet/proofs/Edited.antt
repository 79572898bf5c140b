-- Two accepted texts that differ only in V lines of other rows than these have one sheet, but for its slots of other rows and its line numbers.
-- Assumes nothing.
use mathlib.Core.Path.{◌≡◌, refl, sym, ap, ◌∙◌, subst}
use mathlib.Core.Bool.{Bool, true, false, not}
use mathlib.Core.Option.{Option, none, some}
use mathlib.Core.List.{List, [], ◌∷◌}
use Prim.Native.Nat.{ℕ, suc, ◌≤◌}
use native.Mathlib.Omega.{arith}
use lib.Dec.{T, leb, leb→le}
use Rattle.laws.specs.Choice.{on_some}
use Rattle.std.specs.Prelude.{if◌then◌else◌}
use Rattle.laws.specs.Lists.{member}
use Rattle.laws.proofs.Tests.{and_l, by-if, by-test, test_true, test_false}
use Rattle.ocl.specs.Values.{Value}
use Rattle.sheet.specs.Text.{Bytes, bytes, split, lines_of, fields_of}
use Rattle.sheet.specs.Lines.{Line, class_line, row_line, object_line, value_line, definition_line, rule_line, node_line, text_line, is, line_of, in_body}
use Rattle.sheet.specs.Texts.{brackets_within, is_sentence, on_text}
use Rattle.sheet.specs.Sheet.{Sheet, empty, added, end_rule}
use Rattle.sheet.specs.Limits.{within_limits}
use Rattle.sheet.specs.Refusals.{block_of, in_order, parts_known, calls_smaller, calls_known, suits, tree_holds}
use Rattle.sheet.specs.Reading.{Step, taken, refuse, must, step_line, step_spelled, step, Reading, accepted, rejected, on_step, on_end, closing, read_last, read_lines, read_text}
use Rattle.sheet.specs.Unseen.{sets_other, lines_but}
use Rattle.sheet.proofs.NodesRead.{not_accepted}
use Rattle.sheet.proofs.Bare.{Early, Closed, bare, bare_twice, both_added, other_added, BareEnd, no_end, both_end, end_bare}
use Rattle.sheet.proofs.TextLaws.{lines_read}

module _ (rows : List ℕ) where
  -- ---- a line that is taken

  block_low : (s : Sheet) (x : Line) → T (in_order s x) → s.block ≤ block_of x
  unfolding in_order
  block_low s x h = leb→le s.block (block_of x) (and_l (leb s.block (block_of x)) _ h)

  early_added : (s : Sheet) (k : ℕ) (x : Line) → Early s → T (in_order s x) → Early (added s k x)
  unfolding added block_of on_some
  early_added s k (class_line n p) e h l = e (let z = block_low s (class_line n p) h in omega arith)
  early_added s k (row_line n c name t) e h l = e (let z = block_low s (row_line n c name t) h in omega arith)
  early_added s k (object_line n c) e h l = e (let z = block_low s (object_line n c) h in omega arith)
  early_added s k (value_line o a v) e h l = e (let z = block_low s (value_line o a v) h in omega arith)
  early_added s k (definition_line n c t) e h l = absurd (omega arith)
  early_added s k (rule_line n c) e h l = absurd (omega arith)
  early_added s k (node_line n x) e h l = rw (e l)
  early_added s k (text_line x) e h l = rw (e l)

  data Takes (s : Sheet) (k : ℕ) (o : Option Line) : Step → Type 0 where
    no_step : {n : ℕ} → Takes s k o (refuse n)
    takes : (x : Line) → o ≡ some x → T (in_order s x) → Takes s k o (taken (added s k x))

  must_take : {s : Sheet} {k : ℕ} {o : Option Line} (b : Bool) (n : ℕ) {x : Step} → (T b → Takes s k o x) → Takes s k o (must b n x)
  unfolding must
  must_take true n h = h tt
  must_take false n h = no_step

  spelled_takes : (s : Sheet) (k : ℕ) (o : Option Line) → Takes s k o (step_spelled s k o)
  unfolding step_spelled step_line
  spelled_takes s k none = no_step
  spelled_takes s k (some x) =
      must_take (on_text x brackets_within) 4 (λ p. must_take (on_text x is_sentence) 20 (λ p. must_take (within_limits s x) 4 (λ p. must_take (in_order s x) 5 (λ i.
      must_take (parts_known s x) 6 (λ p. must_take (calls_smaller s x) 23 (λ p. must_take (calls_known s x) 24 (λ p. must_take (suits s x) 7 (λ p.
      must_take (tree_holds s x) 8 (λ p. takes x refl i)))))))))

  -- ---- the lines that are left, taken without a test

  unfoldable ended : Sheet → Option Sheet → Sheet
  ended s none = s
  ended s (some t) = t

  unfoldable closed : Sheet → List Bytes → Sheet
  closed s fs = if in_body fs then s else ended s (end_rule s)

  unfoldable with_line : Sheet → Option Line → Sheet
  with_line s none = s
  with_line s (some l) = added s 0 l

  unfoldable built : Sheet → List Bytes → Sheet
  built s [] = s
  built s (l ∷ ls) = built (bare rows (with_line (closed s (fields_of l)) (line_of (fields_of l)))) ls

  -- a reading that comes to b, where it refuses nothing
  data Comes (b : Sheet) : Reading → Type 0 where
    refusing : {n k : ℕ} → Comes b (rejected n k)
    comes : {u : Sheet} → bare rows u ≡ b → Comes b (accepted u)

  on_step_lem : {s b : Sheet} {k : ℕ} {o : Option Line} {x : Step} (f : Sheet → Reading) → Takes s k o x
      → ((y : Line) → o ≡ some y → T (in_order s y) → Comes b (f (added s k y))) → Comes b (on_step x k f)
  unfolding on_step
  on_step_lem f no_step h = refusing
  on_step_lem f (takes y e i) h = h y e i

  on_end_lem : {s b : Sheet} (t : Sheet) {o p : Option Sheet} (k : ℕ) {f : Sheet → Reading} → BareEnd rows s o p
      → ((u : Sheet) → Closed s u → bare rows u ≡ bare rows (ended t p) → Comes b (f u)) → Comes b (on_end o k f)
  unfolding on_end ended
  on_end_lem t k no_end h = refusing
  on_end_lem t k (both_end {u} c g) h = h u c g

  on_closing : {b : Sheet} (s : Sheet) (k : ℕ) (fs : List Bytes) {f : Sheet → Reading} → Early s
      → ((u : Sheet) → Closed s u → bare rows u ≡ bare rows (closed (bare rows s) fs) → Comes b (f u)) → Comes b (closing s k fs f)
  unfolding closing closed
  on_closing {b} s k fs {f} e h =
      by-if (Comes b) (in_body fs) (f s) (on_end (end_rule s) k f)
      (λ i. h s (record { early = e; unmoved = λ l. refl }) (rw (test_true (in_body fs) i) (bare_twice rows s)))
      (λ i. on_end_lem (bare rows s) k (end_bare rows s e) (λ u c g. h u c (rw (test_false (in_body fs) i) g)))

  -- a line is kept, or is the V line of another row
  module _ (s u : Sheet) (k : ℕ) (y : Line) (ls : List Bytes) (l : Bytes) (f : Sheet → Reading) (e : line_of (fields_of l) ≡ some y)
      (c : Closed s u) (g : bare rows u ≡ bare rows (closed (bare rows s) (fields_of l))) (i : T (in_order u y))
      (more : (v : Sheet) → Early v → Comes (built (bare rows v) (lines_but rows ls)) (f v)) where
    after : Comes (built (bare rows (added u k y)) (lines_but rows ls)) (f (added u k y))
    after = more (added u k y) (early_added u k y c.early i)

    line_kept : sets_other rows (some y) ≡ false → Comes (built (bare rows s) (lines_but rows (l ∷ ls))) (f (added u k y))
    unfolding lines_but built with_line
    line_kept n =
        let a : lines_but rows (l ∷ ls) ≡ l ∷ lines_but rows ls = rw (e, n) in
        let b : built (bare rows s) (lines_but rows (l ∷ ls)) ≡ built (bare rows (added (closed (bare rows s) (fields_of l)) 0 y)) (lines_but rows ls) =
        ap (built (bare rows s)) a ∙ ap (λ o. built (bare rows (with_line (closed (bare rows s) (fields_of l)) o)) (lines_but rows ls)) e in
        let d = both_added rows u (closed (bare rows s) (fields_of l)) k 0 y g in
        subst (λ x. Comes x (f (added u k y))) (ap (λ v. built v (lines_but rows ls)) d ∙ sym b) after

    line_other : (o a : ℕ) (v : Value) → y ≡ value_line o a v → T (not (member a rows)) → Comes (built (bare rows s) (lines_but rows (l ∷ ls))) (f (added u k y))
    unfolding lines_but sets_other block_of
    line_other o a v q n =
        let z : u ≡ s = c.unmoved (let r = rw q at (block_low u y i) in omega arith) in
        let m : sets_other rows (some y) ≡ true = ap (λ x. sets_other rows (some x)) q ∙ test_true (not (member a rows)) n in
        let b : lines_but rows (l ∷ ls) ≡ lines_but rows ls = rw (e, m) in
        let d : bare rows (added u k y) ≡ bare rows s = ap (λ x. bare rows (added u k x)) q ∙ other_added rows u k o a v n ∙ ap (bare rows) z in
        subst (λ x. Comes x (f (added u k y))) (ap (λ v. built v (lines_but rows ls)) d ∙ ap (built (bare rows s)) (sym b)) after

  line_comes : (s u : Sheet) (k : ℕ) (y : Line) (ls : List Bytes) (l : Bytes) (f : Sheet → Reading) → line_of (fields_of l) ≡ some y
      → Closed s u → bare rows u ≡ bare rows (closed (bare rows s) (fields_of l)) → T (in_order u y)
      → ((v : Sheet) → Early v → Comes (built (bare rows v) (lines_but rows ls)) (f v)) → Comes (built (bare rows s) (lines_but rows (l ∷ ls))) (f (added u k y))
  unfolding sets_other
  line_comes s u k (class_line n p) ls l f e c g i more = line_kept s u k (class_line n p) ls l f e c g i more refl
  line_comes s u k (row_line n d name x) ls l f e c g i more = line_kept s u k (row_line n d name x) ls l f e c g i more refl
  line_comes s u k (object_line n d) ls l f e c g i more = line_kept s u k (object_line n d) ls l f e c g i more refl
  line_comes s u k (value_line o a v) ls l f e c g i more =
      by-test (not (member a rows)) (line_other s u k (value_line o a v) ls l f e c g i more o a v refl)
      (λ n. line_kept s u k (value_line o a v) ls l f e c g i more (test_false (not (member a rows)) n))
  line_comes s u k (definition_line n d t) ls l f e c g i more = line_kept s u k (definition_line n d t) ls l f e c g i more refl
  line_comes s u k (rule_line n d) ls l f e c g i more = line_kept s u k (rule_line n d) ls l f e c g i more refl
  line_comes s u k (node_line n x) ls l f e c g i more = line_kept s u k (node_line n x) ls l f e c g i more refl
  line_comes s u k (text_line x) ls l f e c g i more = line_kept s u k (text_line x) ls l f e c g i more refl

  last_comes : (s u : Sheet) (k : ℕ) (l : Bytes) → bare rows u ≡ bare rows (closed (bare rows s) (fields_of l)) → Comes (built (bare rows s) (lines_but rows (l ∷ []))) (read_last k l u)
  unfolding read_last lines_but built with_line sets_other line_of fields_of split is bytes
  last_comes s u k [] g = comes g
  last_comes s u k (b ∷ l) g = refusing

  lines_come : (s : Sheet) (k : ℕ) (ls : List Bytes) → Early s → Comes (built (bare rows s) (lines_but rows ls)) (read_lines s k ls)
  unfolding read_lines step lines_but built
  lines_come s k [] e = comes refl
  lines_come s k (l ∷ []) e = on_closing s k (fields_of l) e (λ u c g. last_comes s u k l g)
  lines_come s k (l ∷ m ∷ ls) e =
      on_closing s k (fields_of l) e (λ u c g. on_step_lem (λ w. read_lines w (suc k) (m ∷ ls)) (spelled_takes u (suc k) (line_of (fields_of l))) (λ y q i.
      line_comes s u (suc k) y (m ∷ ls) l (λ w. read_lines w (suc k) (m ∷ ls)) q c g i (λ v z. lines_come v (suc k) (m ∷ ls) z)))

  read_comes : (ls : List Bytes) (s : Sheet) → read_lines empty 0 ls ≡ accepted s → bare rows s ≡ built (bare rows empty) (lines_but rows ls)
  unfolding empty
  read_comes ls s q = of (lines_come empty 0 ls (λ l. refl)) q
    where
      of : {b : Sheet} {r : Reading} → Comes b r → r ≡ accepted s → bare rows s ≡ b
      of refusing e = absurd (not_accepted e)
      of (comes {u} a) e = let z : u ≡ s = cc in sym (ap (bare rows) z) ∙ a

  -- lines that are the same but for V lines of other rows, whatever their texts' lengths
  pub lines_bare : (ls ms : List Bytes) (s t : Sheet) → read_lines empty 0 ls ≡ accepted s → read_lines empty 0 ms ≡ accepted t
      → lines_but rows ls ≡ lines_but rows ms → bare rows s ≡ bare rows t
  lines_bare ls ms s t p q e = read_comes ls s p ∙ ap (built (bare rows empty)) e ∙ sym (read_comes ms t q)

  -- two texts that differ only in V lines of other rows
  pub same_bare : (text other : Bytes) (s t : Sheet) → read_text text ≡ accepted s → read_text other ≡ accepted t
      → lines_but rows (lines_of text) ≡ lines_but rows (lines_of other) → bare rows s ≡ bare rows t
  same_bare text other s t p q e = lines_bare (lines_of text) (lines_of other) s t (lines_read text s p) (lines_read other t q) e
