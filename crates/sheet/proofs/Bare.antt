-- A sheet without the slots of other rows than these: what a line adds to it, and how its definitions and rules end. Assumes nothing.
use mathlib.Core.Path.{◌≡◌, refl, sym, ap, ◌∙◌}
use mathlib.Core.Bool.{Bool, true, false, not, ◌&&◌}
use mathlib.Core.Option.{Option, none, some, none-ne-some}
use mathlib.Core.List.{List, [], ◌∷◌, ◌++◌, append-nil}
use Prim.Native.Nat.{ℕ, ◌-◌, ◌<◌}
use native.Mathlib.Omega.{arith}
use lib.ListN.{length, length-append, replicate, length-replicate}
use lib.Dec.{T, T_not, eqb, eqb→eq, leb}
use Rattle.laws.specs.Choice.{on_some}
use Rattle.std.specs.Prelude.{if◌then◌else◌}
use Rattle.laws.specs.Lists.{member}
use Rattle.laws.proofs.Tests.{by-test, test_true, test_false, test_fails}
use Rattle.ocl.specs.Types.{Ty}
use Rattle.ocl.specs.Forms.{Expr, levels}
use Rattle.ocl.specs.Values.{Value}
use Rattle.sheet.specs.Lines.{Line, class_line, row_line, object_line, value_line, definition_line, rule_line, node_line, text_line}
use Rattle.sheet.specs.Texts.{nodes_of}
use Rattle.sheet.specs.Sheet.{Slot, Current, Sheet, lookup, added, last_tree, all_used, with_body, most_levels, end_of, end_for, end_rule}

-- nothing is open before the blocks of definitions and rules
abbrev pub Early : Sheet → Type 0
Early s = s.block < 4 → s.current ≡ none

-- after s, where a body may have ended: before these blocks none has
pub record Closed (s u : Sheet) : Type 0 where
  pub early : Early u
  pub unmoved : u.block < 4 → u ≡ s

module _ (rows : List ℕ) where
  -- ---- the slots of these rows

  unfoldable pub slots_of : List Slot → List Slot
  slots_of [] = []
  slots_of (x ∷ xs) = if member x.row rows then x ∷ slots_of xs else slots_of xs

  slots_append : (xs ys : List Slot) → slots_of (xs ++ ys) ≡ slots_of xs ++ slots_of ys
  unfolding slots_of
  slots_append [] ys = refl
  slots_append (x ∷ xs) ys =
      by-test (member x.row rows) (λ t. rw (test_true (member x.row rows) t, slots_append xs ys)) (λ t. rw (test_false (member x.row rows) t, slots_append xs ys))

  slots_twice : (xs : List Slot) → slots_of (slots_of xs) ≡ slots_of xs
  unfolding slots_of
  slots_twice [] = refl
  slots_twice (x ∷ xs) =
      by-test (member x.row rows) (λ t. let e = test_true (member x.row rows) t in rw (e, e, slots_twice xs)) (λ t. rw (test_false (member x.row rows) t, slots_twice xs))

  -- a row's values are those of its slots
  pub slots_read : (xs : List Slot) (o i : ℕ) → T (member i rows) → lookup (slots_of xs) o i ≡ lookup xs o i
  unfolding slots_of lookup
  slots_read [] o i h = refl
  slots_read (x ∷ xs) o i h =
      by-test (member x.row rows) (λ t. rw (test_true (member x.row rows) t, slots_read xs o i h))
      (λ t. let n : eqb i x.row ≡ false = test_fails (eqb i x.row) (λ e. T_not (member x.row rows) t (rw (← eqb→eq i x.row e) h)) in
      rw (test_false (member x.row rows) t, n, slots_read xs o i h) (sym (none_here (eqb o x.object) _ _)))
    where
      none_here : {A : Type 0} (b : Bool) (y z : A) → (if b && false then y else z) ≡ z
      none_here true y z = refl
      none_here false y z = refl

  -- ---- the sheet with these slots alone, and without its block and line numbers

  unfoldable pub blank : List ℕ → List ℕ
  blank ls = replicate (length ls) 0

  unfoldable pub bare : Sheet → Sheet
  bare s = record {
    block = 0;
    parents = s.parents;
    rows = s.rows;
    objects = s.objects;
    slots = slots_of s.slots;
    lines = blank s.lines;
    definitions = s.definitions;
    rules = s.rules;
    current = s.current;
  }

  count_blank : (ls : List ℕ) → length (blank ls) ≡ length ls
  unfolding blank
  count_blank ls = length-replicate (length ls) 0

  blank_twice : (ls : List ℕ) → blank (blank ls) ≡ blank ls
  unfolding blank
  blank_twice ls = ap (λ n. replicate n 0) (count_blank ls)

  blank_append : (ls ks ms : List ℕ) → length ks ≡ length ms → blank (ls ++ ks) ≡ blank (blank ls ++ ms)
  unfolding blank
  blank_append ls ks ms e =
      let a = length-append ls ks in let b = length-append (blank ls) ms in let c = count_blank ls in
      let n : length (ls ++ ks) ≡ length (blank ls ++ ms) = omega arith in ap (λ n. replicate n 0) n

  pub bare_twice : (s : Sheet) → bare s ≡ bare (bare s)
  unfolding bare
  bare_twice s = rw (slots_twice s.slots, blank_twice s.lines)

  -- what a line adds to it
  bare_added : (s : Sheet) (k j : ℕ) (x : Line) → bare (added s k x) ≡ bare (added (bare s) j x)
  unfolding bare added
  bare_added s k j (class_line n p) = rw (slots_twice s.slots, blank_twice s.lines)
  bare_added s k j (row_line n c name t) = rw (slots_twice s.slots, blank_twice s.lines)
  bare_added s k j (object_line n c) = rw (slots_twice s.slots, blank_twice s.lines)
  bare_added s k j (value_line o a v) =
      let x : List Slot = record { object = o; row = a; value = v } ∷ [] in
      rw (slots_append s.slots x, slots_append (slots_of s.slots) x, slots_twice s.slots, blank_twice s.lines)
  bare_added s k j (definition_line n c t) = rw (slots_twice s.slots, blank_twice s.lines, count_blank s.lines)
  bare_added s k j (rule_line n c) = rw (slots_twice s.slots, blank_twice s.lines, count_blank s.lines)
  bare_added s k j (node_line n x) = rw (slots_twice s.slots, blank_append s.lines (k ∷ []) (j ∷ []) refl)
  bare_added s k j (text_line x) =
      let m = length (nodes_of x) in
      rw (slots_twice s.slots, blank_append s.lines (replicate m k) (replicate m j) (length-replicate m k ∙ sym (length-replicate m j)))

  -- two sheets that are one so far
  pub both_added : (s t : Sheet) (k j : ℕ) (x : Line) → bare s ≡ bare t → bare (added s k x) ≡ bare (added t j x)
  both_added s t k j x e = bare_added s k 0 x ∙ ap (λ u. bare (added u 0 x)) e ∙ sym (bare_added t j 0 x)

  -- the V line of another row
  pub other_added : (s : Sheet) (k o a : ℕ) (v : Value) → T (not (member a rows)) → bare (added s k (value_line o a v)) ≡ bare s
  unfolding bare added slots_of
  other_added s k o a v n =
      let x : List Slot = record { object = o; row = a; value = v } ∷ [] in
      rw (slots_append s.slots x, test_false (member a rows) n, append-nil (slots_of s.slots))

  -- ---- the end of a definition or rule

  bare_body : (s : Sheet) (c : ℕ) (t : Option Ty) (body : Expr) → bare (with_body s c t body) ≡ bare (with_body (bare s) c t body)
  unfolding bare with_body
  bare_body s c (some t) body = rw (slots_twice s.slots, blank_twice s.lines)
  bare_body s c none body = rw (slots_twice s.slots, blank_twice s.lines)

  pub data BareEnd (s : Sheet) : Option Sheet → Option Sheet → Type 0 where
    no_end : BareEnd s none none
    both_end : {u v : Sheet} → Closed s u → bare u ≡ bare v → BareEnd s (some u) (some v)

  end_if : {s : Sheet} (b : Bool) (u v : Sheet) → Closed s u → bare u ≡ bare v → BareEnd s (if b then some u else none) (if b then some v else none)
  end_if true u v c e = both_end c e
  end_if false u v c e = no_end

  body_closed : (s : Sheet) (c : Current) (t : Option Ty) (body : Expr) → Early s → s.current ≡ some c → Closed s (with_body s c.context t body)
  unfolding with_body
  body_closed s c (some t) body e q = record { early = λ l. refl; unmoved = λ l. absurd (none-ne-some _ (sym (e l) ∙ q)) }
  body_closed s c none body e q = record { early = λ l. refl; unmoved = λ l. absurd (none-ne-some _ (sym (e l) ∙ q)) }

  pub end_bare : (s : Sheet) → Early s → BareEnd s (end_rule s) (end_rule (bare s))
  unfolding end_rule end_for end_of on_some bare
  end_bare s e = by s.current refl
    where
      last : (c : Current) → s.current ≡ some c → (o : Option Expr)
          → BareEnd s (on_some o (λ body. if all_used c.used (length c.trees - 1) && leb (levels body) most_levels then some (with_body s c.context c.result body) else none))
          (on_some o (λ body. if all_used c.used (length c.trees - 1) && leb (levels body) most_levels then some (with_body (bare s) c.context c.result body) else none))
      last c q none = no_end
      last c q (some body) = end_if (all_used c.used (length c.trees - 1) && leb (levels body) most_levels) _ _ (body_closed s c c.result body e q) (bare_body s c.context c.result body)

      by : (o : Option Current) → s.current ≡ o → BareEnd s (end_for s o) (end_for (bare s) o)
      by none q = both_end (record { early = e; unmoved = λ l. refl }) (bare_twice s)
      by (some c) q = last c q (last_tree c.trees)
