-- A text's tests, the code's and the definition's, and its refusals. Assumes nothing.
use mathlib.Core.Path.{◌≡◌, refl, sym, ap, ◌∙◌}
use mathlib.Core.Bool.{Bool, true, false, not, ◌&&◌, and-false}
use mathlib.Core.Option.{Option, none, some}
use mathlib.Core.List.{List}
use Prim.Native.Nat.{ℕ, ◌+◌, ◌<◌, ◌≤◌}
use native.Mathlib.Omega.{arith}
use native.Mathlib.Decide.{dec_lt}
use borrow.Author.Tests.{eq-eqb, ne_eqb, le-leb, lt-leb}
use lib.ListN.{length}
use lib.Dec.{eqb, leb}
use Rattle.laws.specs.Lists.{all_of}
use Rattle.laws.proofs.Lists.{each_imp}
use Rattle.laws.proofs.Tests.{and-true, test_true}
use Rattle.ocl.specs.Types.{Ty}
use Rattle.sheet.specs.Text.{Bytes}
use Rattle.sheet.specs.Lines.{Shape, text_line}
use Rattle.sheet.specs.Texts.{nodes_of}
use Rattle.sheet.specs.Sheet.{Current, Sheet, operands_of}
use Rattle.sheet.specs.Limits.{is_node, form_within, within_limits}
use Rattle.sheet.specs.Refusals.{two_variables, form_known, call_below, has_type, may_be_text, block_of, numbered, in_order, parts_known, calls_smaller, calls_known, suits, tree_holds}
use Rattle.sheet.proofs.Forest.{fresh_each}
use Rattle.sheet.proofs.TextNodes.{FreshAll, fresh_nil, fresh_cons}
use Rattle.sheet.proofs.GoodTexts.{nodes_fresh}
use Rattle.sheet.proofs.NodesRead.{nodes_below}
use Rattle.sheet.proofs.AsNodeLines.{in_rule, no_node, may_be_lem}
use Rattle.tables.specs.declared.Counts.{Counts}
use Rattle.tables.specs.Layout.{open_code, HoldsOpen, closed, opened, Holds, Fine, moved_refused}
use Rattle.tables.proofs.Tables.{kept_refl}
use Rattle.tables.proofs.Steps.{over_limits, out_of_order, unknown_part, calls_none, steps_on}
use Rattle.emission.specs.Nodes.{HoldsNodes}
use Rattle.texts.specs.declared.gathering.Gathered.{Gathered}
use Rattle.texts.specs.Gathering.{operands_within, Sums, Gathers}
use Rattle.texts.specs.Placing.{Passed, TextPlaced}
use Rattle.texts.specs.Judging.{text_limits, text_order, Judged}
use Rattle.texts.proofs.PlacingLaws.{passed_true, held_open}
use Rattle.std.specs.Prelude.{Result, Err}
use Rattle.memory.specs.declared.refusals.Refusal.{Refusal}
use Rattle.memory.specs.declared.refusals.Refusal.TheVariants.{OutOfRow, OverMeasure, UnknownDefinition, UnknownPart}

-- ---- the two agree

rule_only : (o : Option Ty) (b : Bool) → eqb (open_code o b) 1 ≡ not (has_type o) && not b
unfolding open_code has_type
rule_only none true = refl
rule_only none false = refl
rule_only (some t) b = refl

none_yet : (first n m : ℕ) → first + n ≡ m → eqb first m ≡ eqb n 0
none_yet first n m e = go (dec_lt 0 n)
  where
    go : Dec (0 < n) → eqb first m ≡ eqb n 0
    go (yes l) = ne_eqb first m (λ q. omega arith) ∙ sym (ne_eqb n 0 (λ q. omega arith))
    go (no l) = eq-eqb first m (omega arith) ∙ sym (eq-eqb n 0 (omega arith))

may_same : {st : Counts} {w1 : List ℕ} {m : ℕ} (o : Option Current) → st.nodes ≡ m → HoldsOpen st w1 m o → (eqb st.«open» 1 && eqb st.first st.nodes) ≡ may_be_text o
unfolding may_be_text
may_same none e (closed z) = rw z
may_same {st} (some c) e (opened q) =
    rw (q.is_open, rule_only c.result c.text, none_yet st.first (length c.trees) st.nodes (omega (arith, q.first, q.count)))

-- operands that are fresh are smaller than their node
operands_small : {n : ℕ} {used : List ℕ} {xs : List Shape} → FreshAll n used xs → n + length xs ≤ 768 → all_of operands_within xs ≡ true
unfolding all_of operands_within
operands_small fresh_nil l = refl
operands_small {n} {used} (fresh_cons {x = x} p h) l =
    rw (test_true (all_of is_node (operands_of x)) (nodes_below {n = n} (omega arith) (each_imp (λ a f. f.smaller) (fresh_each n used (operands_of x) p)))) (operands_small h (omega arith))

module _ {st : Counts} {line nodes : ℕ} {g : Gathered} {w0 w1 w2 : List ℕ} (all : Gathers line nodes w2 g) (fine : Fine st) {s : Sheet} (x : Bytes) (e : length (nodes_of x) ≡ nodes) (z : HoldsNodes line (nodes_of x) w2) (h : Holds st w0 w1 s) where
  sums : Sums (nodes_of x) g
  sums = all.of (nodes_of x) e z

  limits_same : text_limits st g nodes ≡ within_limits s (text_line x)
  unfolding text_limits within_limits
  limits_same = rw (sums.within, h.counted.nodes, e)

  module _ (ok : text_limits st g nodes ≡ true) where
    forms_within : all_of form_within (nodes_of x) ≡ true
    unfolding text_limits
    forms_within = sym sums.within ∙ (and-true g.within (leb (st.nodes + nodes) 768) ok).0

    order_same : text_order st g ≡ in_order s (text_line x)
    unfolding text_order in_order block_of numbered
    order_same = rw (h.counted.block, sums.apart forms_within) (ap (λ (b : Bool). leb s.block 5 && (b && all_of two_variables (nodes_of x))) (may_same s.current h.counted.nodes h.current))

    known_same : leb g.classes st.classes ≡ parts_known s (text_line x)
    unfolding parts_known
    known_same = sums.known forms_within st.classes fine.classes ∙ ap (λ (n : ℕ). all_of (form_known n) (nodes_of x)) h.counted.classes

    -- in a rule without a node the text's own nodes are the only operands
    operands_fine : nodes ≤ 768 → text_order st g ≡ true → all_of operands_within (nodes_of x) ≡ true
    operands_fine low o =
        let r = in_rule s.current (may_be_lem s x (passed_true (sym order_same ∙ o))) in
        let c = held_open r.rule h.current r.is in
        operands_small (nodes_fresh x r.rule c.used r.may) (omega (arith, no_node r.rule r.may))

    called_same : nodes ≤ 768 → text_order st g ≡ true → leb g.calls st.definitions ≡ calls_known s (text_line x)
    unfolding calls_known
    called_same low o = sums.called forms_within (operands_fine low o) st.definitions fine.definitions ∙ ap (λ (n : ℕ). all_of (call_below n) (nodes_of x)) h.counted.definitions

-- ---- 4, 5, 6 and 24, and a text that meets them

module _ {st : Counts} {line nodes : ℕ} (w0 w1 w2 : List ℕ) where
  pub judge_many : 768 < nodes → Judged st line nodes (Err OverMeasure) w0 w1 w2 w1
  unfolding within_limits
  judge_many l = record {
    is = λ s x e z h. rw (over_limits s line (text_line x) (rw (lt-leb (length s.lines + length (nodes_of x)) 768 (omega arith)) (and-false (all_of form_within (nodes_of x))))) moved_refused;
    kept = kept_refl w1;
  }

  module _ {g : Gathered} (low : nodes ≤ 768) (all : Gathers line nodes w2 g) (fine : Fine st) where
    pub judge_4 : {b : Bool} → b ≡ text_limits st g nodes → b ≡ false → Judged st line nodes (Err OverMeasure) w0 w1 w2 w1
    judge_4 {b} told q = record {
      is = λ s x e z h. rw (over_limits s line (text_line x) (sym (limits_same all fine x e (z low) h) ∙ sym told ∙ q)) moved_refused;
      kept = kept_refl w1;
    }

    module _ {b : Bool} (told : b ≡ text_limits st g nodes) (ok : b ≡ true) where
      is_within : text_limits st g nodes ≡ true
      is_within = sym told ∙ ok

      pub judge_5 : {d : Bool} → d ≡ text_order st g → d ≡ false → Judged st line nodes (Err OutOfRow) w0 w1 w2 w1
      judge_5 {d} f q = record {
        is = λ s x e z h. rw (out_of_order s line (text_line x) (sym (limits_same all fine x e (z low) h) ∙ is_within) (sym (order_same all fine x e (z low) h is_within) ∙ sym f ∙ q)) moved_refused;
        kept = kept_refl w1;
      }

      module _ {d : Bool} (f : d ≡ text_order st g) (so : d ≡ true) where
        ordered : text_order st g ≡ true
        ordered = sym f ∙ so

        pub judge_6 : st.classes < g.classes → Judged st line nodes (Err UnknownPart) w0 w1 w2 w1
        judge_6 l = record {
          is = λ s x e z h.
              rw (unknown_part s line (text_line x) (sym (limits_same all fine x e (z low) h) ∙ is_within) (sym (order_same all fine x e (z low) h is_within) ∙ ordered)
              (sym (known_same all fine x e (z low) h is_within) ∙ lt-leb g.classes st.classes l)) moved_refused;
          kept = kept_refl w1;
        }

        module _ (classes : g.classes ≤ st.classes) where
          passed : (s : Sheet) (x : Bytes) → length (nodes_of x) ≡ nodes → HoldsNodes line (nodes_of x) w2 → Holds st w0 w1 s → g.calls ≤ st.definitions → Passed s x
          passed s x e z h m = record {
            limits = sym (limits_same all fine x e z h) ∙ is_within;
            order = sym (order_same all fine x e z h is_within) ∙ ordered;
            parts = sym (known_same all fine x e z h is_within) ∙ le-leb g.classes st.classes classes;
            calls = sym (called_same all fine x e z h is_within low ordered) ∙ le-leb g.calls st.definitions m;
          }

          pub judge_24 : st.definitions < g.calls → Judged st line nodes (Err UnknownDefinition) w0 w1 w2 w1
          unfolding calls_smaller
          judge_24 l = record {
            is = λ s x e z h.
                rw (calls_none s line (text_line x) (sym (limits_same all fine x e (z low) h) ∙ is_within) (sym (order_same all fine x e (z low) h is_within) ∙ ordered)
                (sym (known_same all fine x e (z low) h is_within) ∙ le-leb g.classes st.classes classes) refl
                (sym (called_same all fine x e (z low) h is_within low ordered) ∙ lt-leb g.calls st.definitions l)) moved_refused;
            kept = kept_refl w1;
          }

          pub judge_on : {r : Result Counts Refusal} {v1 : List ℕ} → g.calls ≤ st.definitions → TextPlaced st line nodes r w0 w1 w2 v1 → Judged st line nodes r w0 w1 w2 v1
          unfolding calls_smaller suits tree_holds
          judge_on m t = record {
            is = λ s x e z h. let p = passed s x e (z low) h m in rw (steps_on s line (text_line x) refl p.calls p.limits p.order p.parts refl refl) (t.is s x e (z low) h p);
            kept = t.kept;
          }
