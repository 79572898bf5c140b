-- D, R, N and X lines, and the end of a definition or rule, look at no object and no slot. Assumes nothing.
use mathlib.Core.Path.{◌≡◌, refl, sym, ap, ◌∙◌, subst}
use mathlib.Core.Bool.{Bool, true, false, ◌&&◌}
use mathlib.Core.Option.{Option, none, some, some-injective}
use mathlib.Core.List.{List, [], ◌∷◌}
use Prim.Native.Nat.{ℕ, suc, ◌-◌, ◌≤◌}
use native.Mathlib.Omega.{arith}
use lib.ListN.{length}
use lib.Dec.{T, leb, leb→le}
use Rattle.laws.specs.Choice.{on_some, map_some}
use Rattle.std.specs.Prelude.{if◌then◌else◌}
use Rattle.laws.specs.Lists.{Each, each_nil, each-cons}
use Rattle.laws.proofs.Tests.{by-if}
use Rattle.laws.proofs.Lists.{each_imp}
use Rattle.ocl.specs.Types.{Ty}
use Rattle.ocl.specs.Forms.{Expr, levels}
use Rattle.sheet.specs.Lines.{Line, class_line, row_line, object_line, value_line, definition_line, rule_line, node_line, text_line}
use Rattle.sheet.specs.Sheet.{Current, Sheet, added, last_tree, all_used, with_body, end_of, end_for, end_rule, most_levels}
use Rattle.sheet.specs.Limits.{within_limits}
use Rattle.sheet.specs.Refusals.{block_of, numbered, in_order, parts_known, calls_smaller, calls_known, suits, tree_holds}
use Rattle.sheet.proofs.Stays.{of_body}
use Rattle.sheet.proofs.GoodLines.{Met}
use Rattle.profile.specs.RenumberedLines.{late, of_blocks}
use Rattle.profile.proofs.Taken.{closed_by, Takes, takes_nil, takes_cons}
use Rattle.profile.proofs.Rising.{end_leaves}
use Rattle.profile.proofs.NewSheet.{shuffled}

-- ---- D, R, N and X lines, and the end of a definition or rule, look at no object and no slot

module _ (to back : ℕ → ℕ) where
  abbrev sh : Sheet → Sheet
  sh s = shuffled to back s

  body_shuffled : (s : Sheet) (c : ℕ) (r : Option Ty) (body : Expr) → with_body (sh s) c r body ≡ sh (with_body s c r body)
  unfolding with_body shuffled
  body_shuffled s c none body = refl
  body_shuffled s c (some t) body = refl

  pub end_shuffled : (s : Sheet) → end_rule (sh s) ≡ map_some sh (end_rule s)
  unfolding end_rule end_for end_of map_some shuffled
  end_shuffled s = by s.current
    where
      test : (b : Bool) (c : ℕ) (r : Option Ty) (body : Expr) → (if b then some (with_body (sh s) c r body) else none) ≡ map_some sh (if b then some (with_body s c r body) else none)
      test true c r body = ap some (body_shuffled s c r body)
      test false c r body = refl

      tree : (c : Current) (o : Option Expr)
          → on_some o (λ body. if all_used c.used (length c.trees - 1) && leb (levels body) most_levels then some (with_body (sh s) c.context c.result body) else none)
          ≡ map_some sh (on_some o (λ body. if all_used c.used (length c.trees - 1) && leb (levels body) most_levels then some (with_body s c.context c.result body) else none))
      tree c none = unfold on_some in refl
      tree c (some body) = unfold on_some in test (all_used c.used (length c.trees - 1) && leb (levels body) most_levels) c.context c.result body

      by : (o : Option Current) → end_for (sh s) o ≡ map_some sh (end_for s o)
      by none = refl
      by (some c) = tree c (last_tree c.trees)

  closed_shuffled : (b : Bool) (s t : Sheet) → closed_by b s ≡ some t → closed_by b (sh s) ≡ some (sh t)
  unfolding closed_by map_some
  closed_shuffled true s t e = ap (map_some sh) e
  closed_shuffled false s t e = end_shuffled s ∙ ap (map_some sh) e

  -- the objects and slots stay
  pub record Same (s t : Sheet) : Type 0 where
    pub objects : t.objects ≡ s.objects
    pub slots : t.slots ≡ s.slots

  pub closed_same : (b : Bool) (s t : Sheet) → closed_by b s ≡ some t → Same s t
  unfolding closed_by
  closed_same true s t e = let z = some-injective s t e in record { objects = ap (λ x. x.objects) (sym z); slots = ap (λ x. x.slots) (sym z) }
  closed_same false s t e = let z = end_leaves s t e in record { objects = z.objects; slots = z.slots }

  -- these lines ask for no object and no slot
  late_met : (s : Sheet) (x : Line) → 4 ≤ block_of x → Met s x → Met (sh s) x
  unfolding within_limits in_order numbered block_of parts_known calls_smaller calls_known suits tree_holds shuffled
  late_met s (class_line n p) h m = absurd (omega arith)
  late_met s (row_line n c name t) h m = absurd (omega arith)
  late_met s (object_line n c) h m = absurd (omega arith)
  late_met s (value_line o a v) h m = absurd (omega arith)
  late_met s (definition_line n c t) h m = record { brackets = m.brackets; sentence = m.sentence; limits = m.limits; order = m.order; parts = m.parts; smaller = m.smaller; known = m.known; suit = m.suit; tree = m.tree }
  late_met s (rule_line n c) h m = record { brackets = m.brackets; sentence = m.sentence; limits = m.limits; order = m.order; parts = m.parts; smaller = m.smaller; known = m.known; suit = m.suit; tree = m.tree }
  late_met s (node_line n x) h m = record { brackets = m.brackets; sentence = m.sentence; limits = m.limits; order = m.order; parts = m.parts; smaller = m.smaller; known = m.known; suit = m.suit; tree = m.tree }
  late_met s (text_line x) h m = record { brackets = m.brackets; sentence = m.sentence; limits = m.limits; order = m.order; parts = m.parts; smaller = m.smaller; known = m.known; suit = m.suit; tree = m.tree }

  late_added : (s : Sheet) (k : ℕ) (x : Line) → 4 ≤ block_of x → (added (sh s) k x ≡ sh (added s k x)) × Same s (added s k x)
  unfolding added shuffled block_of
  late_added s k (class_line n p) h = absurd (omega arith)
  late_added s k (row_line n c name t) h = absurd (omega arith)
  late_added s k (object_line n c) h = absurd (omega arith)
  late_added s k (value_line o a v) h = absurd (omega arith)
  late_added s k (definition_line n c t) h = (refl, record { objects = refl; slots = refl })
  late_added s k (rule_line n c) h = (refl, record { objects = refl; slots = refl })
  late_added s k (node_line n x) h = (refl, record { objects = refl; slots = refl })
  late_added s k (text_line x) h = (refl, record { objects = refl; slots = refl })

  each_of : (f : ℕ → Bool) (ls : List Line) → Each (λ x. T (f (block_of x))) (of_blocks f ls)
  unfolding of_blocks
  each_of f [] = each_nil
  each_of f (x ∷ ls) = by-if (Each (λ x. T (f (block_of x)))) (f (block_of x)) (x ∷ of_blocks f ls) (of_blocks f ls) (λ t. each-cons t (each_of f ls)) (λ t. each_of f ls)

  lines_taken : {ls : List Line} {s u : Sheet} {k j : ℕ} → Each (λ x. 4 ≤ block_of x) ls → Takes s k ls u j → Takes (sh s) k ls (sh u) j × Same s u
  lines_taken each_nil takes_nil = (takes_nil, record { objects = refl; slots = refl })
  lines_taken {s} {u} {k} {j} (each-cons {n = x} {ns = ls} h hs) (takes_cons {t} e m r) =
      let z = lines_taken hs r in let y = closed_same (of_body x) s t e in let w = late_added t (suc k) x h in (
        takes_cons (closed_shuffled (of_body x) s t e) (late_met t x h m) (subst (λ v. Takes v (suc k) ls (sh u) j) (sym w.0) z.0),
        record { objects = z.1.objects ∙ w.1.objects ∙ y.objects; slots = z.1.slots ∙ w.1.slots ∙ y.slots },
      )

  late_low : (ls : List Line) → Each (λ x. 4 ≤ block_of x) (late ls)
  late_low ls = each_imp (λ x h. leb→le 4 (block_of x) h) (each_of (λ b. leb 4 b) ls)

  pub late_taken : (ls : List Line) (s u : Sheet) (k j : ℕ) → Takes s k (late ls) u j → Takes (sh s) k (late ls) (sh u) j × Same s u
  late_taken ls s u k j r = lines_taken (late_low ls) r
