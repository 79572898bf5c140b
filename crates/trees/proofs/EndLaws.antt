-- The end of a definition or rule: the code's tests and the definition's. Assumes nothing.
use mathlib.Core.Path.{◌≡◌, refl, sym, ap, ◌∙◌}
use mathlib.Core.Bool.{Bool, true, false, ◌&&◌, and-true}
use mathlib.Core.Option.{Option, none, some}
use mathlib.Core.List.{List, [], ◌∷◌}
use Prim.Native.Nat.{ℕ, zero, suc, ◌+◌, ◌-◌, ◌*◌, ◌/◌, ◌%◌, ◌<◌, ◌≤◌}
use native.Mathlib.Omega.{arith}
use native.Mathlib.Numerals.{add-one}
use Rattle.std.specs.List.{list_all, range_with_len}
use borrow.Author.Tests.{eq-eqb, ne_eqb, le-leb, lt-leb}
use lib.Dec.{eqb, leb}
use lib.ListN.{length, get_or}
use Rattle.laws.specs.Choice.{on_some}
use Rattle.std.specs.Prelude.{if◌then◌else◌, Ok, Err}
use Rattle.laws.specs.Lists.{member}
use Rattle.memory.specs.Map as memory
use Rattle.ocl.specs.Types.{Ty}
use Rattle.ocl.specs.Forms.{Expr, levels}
use Rattle.sheet.specs.Sheet.{Current, Sheet, tree_of, last_tree, all_used, most_levels, with_body, end_of, end_for, end_rule}
use Rattle.nodes.specs.Nodes.{tree_at}
use Rattle.tables.specs.Layout.{open_code, used_bit, HoldsCurrent, HoldsOpen, opened, Holds, Fine}
use Rattle.tables.specs.declared.Counts.{Counts}
use Rattle.tables.proofs.Tables.{kept_refl}
use Rattle.trees.specs.Operands.{depth_at}
use Rattle.trees.specs.Rules.{used_in, PutDown, EndMoved, ended, refused, RuleEnded}
use Rattle.trees.proofs.NodeLaws.{OpenRule, open_rule}
use Rattle.memory.specs.declared.refusals.Refusal.TheVariants.{BrokenTree}

-- ---- what the chain of `all_used` answers: it asks from the front, and `used_in` from the back

and_around : (a b u : Bool) → ((a && b) && u) ≡ (b && (a && u))
and_around true true u = refl
and_around true false u = refl
and_around false true u = refl
and_around false false u = refl

module _ (w : List ℕ) (first : ℕ) where
  abbrev pub is_used : ℕ → Bool
  is_used n = eqb (get_or w (depth_at first n) 0 % 2) 1

  used_from : (n i : ℕ) → (list_all is_used (range_with_len i n) && used_in w first i) ≡ used_in w first (i + n)
  unfolding used_in
  used_from zero i = ap (used_in w first) (omega arith)
  used_from (suc n) i =
      let one : (is_used i && used_in w first i) ≡ used_in w first (i + 1) = ap (used_in w first) (sym (add-one i)) in
      and_around (is_used i) (list_all is_used (range_with_len (i + 1) n)) (used_in w first i)
      ∙ ap (λ (b : Bool). list_all is_used (range_with_len (i + 1) n) && b) one
      ∙ used_from n (i + 1)
      ∙ ap (used_in w first) (omega arith)

  pub used_all : (n : ℕ) {r : Bool} → r ≡ list_all is_used (range_with_len 0 n) → r ≡ used_in w first n
  unfolding used_in
  used_all n e = e ∙ sym (and-true _) ∙ used_from n 0 ∙ ap (used_in w first) (omega arith)

-- ---- the definition's tests, by the tables

last_tree_lem : (es : List Expr) (m : ℕ) → length es ≡ suc m → last_tree es ≡ some (tree_of es m)
unfolding last_tree tree_of
last_tree_lem [] m h = absurd (omega arith)
last_tree_lem (e ∷ []) zero h = refl
last_tree_lem (e ∷ []) (suc m) h = absurd (omega arith)
last_tree_lem (e ∷ f ∷ es) zero h = absurd (omega arith)
last_tree_lem (e ∷ f ∷ es) (suc m) h = last_tree_lem (f ∷ es) m (omega arith)

no_tree : (es : List Expr) → length es ≡ 0 → last_tree es ≡ none
unfolding last_tree
no_tree [] h = refl
no_tree (e ∷ es) h = absurd (omega arith)

bit_test : (l : ℕ) (b : Bool) → eqb ((2 * l + used_bit b) % 2) 1 ≡ b
unfolding used_bit
bit_test l true = eq-eqb ((2 * l + 1) % 2) 1 (omega arith)
bit_test l false = ne_eqb ((2 * l + 0) % 2) 1 (λ e. omega arith)

bit_half : (l : ℕ) (b : Bool) → (2 * l + used_bit b) / 2 ≡ l
unfolding used_bit
bit_half l true = omega arith
bit_half l false = omega arith

used_same : {st : Counts} {w1 : List ℕ} {k : ℕ} {c : Current} → HoldsCurrent st w1 k c → (m : ℕ) → m ≤ length c.trees → used_in w1 c.first m ≡ all_used c.used m
unfolding used_in all_used
used_same h zero l = refl
used_same {c = c} h (suc m) l =
    rw (h.depths m (omega arith), bit_test (levels (tree_of c.trees m)) (member m c.used), used_same h m (omega arith))

-- what is open has a code
some_open : (o : Option Ty) (b : Bool) → open_code o b ≡ 0 → ⊥
unfolding open_code
some_open none true e = omega arith
some_open none false e = omega arith
some_open (some t) b e = omega arith

-- ---- the answers

module _ {st : Counts} {w1 : List ℕ} (w0 : List ℕ) where
  pub end_none : st.«open» ≡ 0 → Fine st → RuleEnded st (Ok st) w0 w1 w0
  unfolding end_rule end_for
  end_none e fine = record {
    is = λ s h. go s h s.current refl h.current;
    kept = kept_refl w0;
  }
    where
      go : (s : Sheet) → Holds st w0 w1 s → (o : Option Current) → s.current ≡ o → HoldsOpen st w1 (length s.lines) o → EndMoved w0 w1 (Ok st) (end_for s o)
      go s h none q k = ended fine h
      go s h (some c) q (opened k) = absurd (some_open c.result c.text (sym k.is_open ∙ e))

  module _ (is_open : st.«open» ≡ 0 → ⊥) where
    rule_end : (s : Sheet) (o : OpenRule st w1 s) → end_rule s ≡ end_of s o.rule
    unfolding end_rule end_for
    rule_end s o = ap (end_for s) o.is

    pub end_empty : st.first ≡ st.nodes → RuleEnded st (Err BrokenTree) w0 w1 w0
    unfolding end_of on_some
    end_empty e = record {
      is = λ s h.
          let o = open_rule h is_open in
          rw (rule_end s o, no_tree o.rule.trees (omega (arith, o.holds.count, o.holds.first, h.counted.nodes))) refused;
      kept = kept_refl w0;
    }

    module _ (fine : Fine st) (node : st.first ≡ st.nodes → ⊥) where
      -- of node m, the rule's last one
      module _ {s : Sheet} (h : Holds st w0 w1 s) (o : OpenRule st w1 s) where
        many : length o.rule.trees ≡ suc (st.nodes - 1 - st.first)
        many = omega (arith, o.holds.count, o.holds.first, h.counted.nodes, fine.first)

        its_used : used_in w1 st.first (st.nodes - 1 - st.first) ≡ all_used o.rule.used (length o.rule.trees - 1)
        its_used =
            let e : st.nodes - 1 - st.first ≡ length o.rule.trees - 1 = omega (arith, many) in
            ap (λ (f : ℕ). used_in w1 f (st.nodes - 1 - st.first)) o.holds.first ∙ ap (used_in w1 o.rule.first) e ∙ used_same o.holds (length o.rule.trees - 1) (omega arith)

        its_depth : get_or w1 (memory.depths + (st.nodes - 1)) 0 / 2 ≡ levels (tree_of o.rule.trees (st.nodes - 1 - st.first))
        its_depth =
            let e : o.rule.first + (st.nodes - 1 - st.first) ≡ st.nodes - 1 = omega (arith, o.holds.first, fine.first) in
            let q : get_or w1 (memory.depths + (st.nodes - 1)) 0 ≡ 2 * levels (tree_of o.rule.trees (st.nodes - 1 - st.first)) + used_bit (member (st.nodes - 1 - st.first) o.rule.used)
            = ap (λ (j : ℕ). get_or w1 (memory.depths + j) 0) (sym e) ∙ o.holds.depths (st.nodes - 1 - st.first) (omega (arith, many)) in
            ap (λ (v : ℕ). v / 2) q ∙ bit_half (levels (tree_of o.rule.trees (st.nodes - 1 - st.first))) (member (st.nodes - 1 - st.first) o.rule.used)

        end_by : end_of s o.rule
            ≡ (if used_in w1 st.first (st.nodes - 1 - st.first) && leb (get_or w1 (memory.depths + (st.nodes - 1)) 0 / 2) most_levels
            then some (with_body s o.rule.context o.rule.result (tree_of o.rule.trees (st.nodes - 1 - st.first))) else none)
        unfolding end_of on_some
        end_by = rw (last_tree_lem o.rule.trees (st.nodes - 1 - st.first) many, ← its_used, its_depth)

      module _ {b : Bool} (told : b ≡ used_in w1 st.first (st.nodes - 1 - st.first)) where
        pub end_unused : b ≡ false → RuleEnded st (Err BrokenTree) w0 w1 w0
        end_unused q = record {
          is = λ s h.
              let o = open_rule h is_open in
              rw (rule_end s o, end_by h o, ← told, q) refused;
          kept = kept_refl w0;
        }

        pub end_deep : b ≡ true → most_levels < get_or w1 (memory.depths + (st.nodes - 1)) 0 / 2 → RuleEnded st (Err BrokenTree) w0 w1 w0
        end_deep q l = record {
          is = λ s h.
              let o = open_rule h is_open in
              rw (rule_end s o, end_by h o, ← told, q, lt-leb (get_or w1 (memory.depths + (st.nodes - 1)) 0 / 2) most_levels l) refused;
          kept = kept_refl w0;
        }

-- ---- what ends well

pub end_down : {st : Counts} {w1 : List ℕ} {b : Bool} {r : Counts} (w0 v0 : List ℕ) → (st.«open» ≡ 0 → ⊥) → Fine st → (st.first ≡ st.nodes → ⊥)
    → b ≡ used_in w1 st.first (st.nodes - 1 - st.first) → b ≡ true → get_or w1 (memory.depths + (st.nodes - 1)) 0 / 2 ≤ most_levels
    → PutDown st r (st.nodes - 1) w0 v0 → RuleEnded st (Ok r) w0 w1 v0
end_down {st} {w1} {b} {r} w0 v0 is_open fine node told q l down = record {
  is = λ s h.
      let o = open_rule h is_open in
      let d = down.is w1 s o.rule o.is h (omega (arith, h.counted.nodes, fine.first)) (its_depth w0 is_open fine node h o ∙ ap levels (sym (tree s h o))) in
      rw (rule_end w0 is_open s o, end_by w0 is_open fine node h o, ← told, q, le-leb (get_or w1 (memory.depths + (st.nodes - 1)) 0 / 2) most_levels l, ← tree s h o) (ended d.0 d.1);
  kept = down.kept;
}
  where
    tree : (s : Sheet) (h : Holds st w0 w1 s) (o : OpenRule st w1 s) → tree_at w1 (st.nodes - 1) ≡ tree_of o.rule.trees (st.nodes - 1 - st.first)
    tree s h o =
        let e : o.rule.first + (st.nodes - 1 - st.first) ≡ st.nodes - 1 = omega (arith, o.holds.first, fine.first) in
        ap (tree_at w1) (sym e) ∙ sym (o.holds.trees (st.nodes - 1 - st.first) (omega (arith, many w0 is_open fine node h o)))
