-- A node by its form's code, an operand by its node, an answer as a word, and a rule by its root. Assumes nothing.
use mathlib.Core.Path.{◌≡◌, refl, ap, ◌∙◌}
use mathlib.Core.Bool.{Bool, true, false}
use mathlib.Core.Logic.{◌⊎◌, inl, inr}
use mathlib.Core.Option.{none}
use mathlib.Core.List.{List}
use Prim.Native.Nat.{ℕ, ◌+◌, ◌<◌, ◌≤◌}
use native.Mathlib.Omega.{arith}
use lib.ListN.{length, set, replicate}
use lib.Dec.{eqb, ltb}
use borrow.Author.Tests.{ltb-true, ltb-false, lt-ltb, le-ltb, ne_eqb}
use Rattle.std.specs.Prelude.{if◌then◌else◌}
use Rattle.ocl.specs.Values.{Value, obj, size}
use Rattle.ocl.specs.Environment.{Env, extend, start}
use Rattle.ocl.specs.Forms.{Expr, node, undef, levels}
use Rattle.ocl.specs.Operations.{value, unary_apply, access}
use Rattle.ocl.specs.Evaluation.{leaf_run}
use Rattle.ocl.specs.Trace.{Traced, value_t, undefined_t, stuck_t, stop_t, at, resume_t, bind_t, leaf_trace, unary_trace, is_undef_trace, attribute_trace, tick_t, trace, form_trace, trace_rule}
use Rattle.ocl.proofs.Steps.{run_limited}
use Rattle.ocl.proofs.Trace.{origin}
use Rattle.values.specs.Cells.{fits_obj}
use Rattle.values.specs.Meanings.{means_obj, Pushes}
use Rattle.values.specs.declared.Simple.TheVariants as simple
use Rattle.nodes.specs.Nodes.{word, leaf_of, unary_of, access_of, tree_at}
use Rattle.nodes.proofs.Nodes.{below_law}
use Rattle.nodes.proofs.Levels.{unary_levels, assemble_levels, is_undef_levels, attribute_levels}
use Rattle.nodes.proofs.Trace.{operand_trace, leaf_trace_lem, unary_trace_lem, binary_trace_lem, connective_trace_lem, quantified_trace_lem, assemble_trace_lem, over_trace, is_undef_trace_lem, conditional_trace_lem, let_trace_lem, attribute_trace_lem, iterate_trace_lem, call_trace_lem, none_trace, operand_trace_lem, late_trace}
use Rattle.tables.specs.declared.Counts.{Counts}
use Rattle.outcomes.specs.declared.Ended.{Ended}
use Rattle.outcomes.specs.declared.Ended.TheVariants as ended
use Rattle.outcomes.specs.Answers as plain
use Rattle.outcomes.specs.Answers.{Lies, Ends}
use Rattle.operations.specs.Operand.{of_value, of_undefined}
use Rattle.operations.specs.Runs.{World, ModelIn, held, Evals, leaf_for}
use Rattle.evaluation.specs.declared.Traced.{Traced as Answer}
use Rattle.evaluation.specs.declared.Traced.TheVariants as traced
use Rattle.evaluation.specs.Traces.{place_of, arisen, answer_in, Packs, MeaningT, EvalsT}
use Rattle.evaluation.specs.Evaluating.{ReadsWorld, TracesRule, node_for, operand_for, unary_node, binary_node, connective_node, conditional_node, let_node, call_node, quantified_node, iterate_node, members_trace, assemble_node, operand_tree, Shallow}
use Rattle.outcomes.proofs.Words.{under_refl, gives}
use Rattle.evaluation.proofs.Composition.{rel_bind, nothing_bound, arisen_small, arisen_ran, named, placed, tick_on, tick_stop, ran_undefined_at}
use Rattle.evaluation.proofs.Packing.{ends_packed}

-- ---- the form

-- `undef` at node p
unfoldable pub undef_node : ℕ → MeaningT
undef_node p w = leaf_trace w.model p undef

undef_done : {Ok : World → Type 0} {p place : ℕ} {env B : List ℕ} {sp s : ℕ} → p < 768 → 1 ≤ s → s ≤ 1000000 → place ≡ place_of p s → EvalsT Ok (undef_node p) env sp s B B (traced.Undef s place)
unfolding undef_node leaf_trace leaf_run
undef_done h l m e = record { small = placed e h l m; ran = λ w ok ρ rel. ran_undefined_at under_refl (named e h) }

assemble_by : (t : List ℕ) (n k : ℕ) → k ≡ word t n 0 → 27 ≤ k → k < 30 → (w : World) (b : Bool) → ltb 4 (word t n 5) ≡ b → trace w.model w.mark (tree_at t n) ≡ tick_t (if b then leaf_trace w.model n undef else members_trace t n k w)
unfolding members_trace
assemble_by t n k e a b w true f = over_trace w.model w.mark t n k e a b (ltb-true 4 (word t n 5) f)
assemble_by t n k e a b w false f = assemble_trace_lem w.model w.mark t n k e a b (ltb-false 4 (word t n 5) f)

-- ---- one operand

-- the codes of the forms with one operand
pub data Single (k : ℕ) : Type 0 where
  low_code : 7 ≤ k → k < 13 → Single k
  lone_code : k ≡ 30 → Single k
  high_code : 33 ≤ k → k < 35 → Single k

pub single_codes : {k : ℕ} → Single k → 7 ≤ k
single_codes (low_code a b) = a
single_codes (lone_code a) = omega arith
single_codes (high_code a b) = omega arith

pub single_levels : (t : List ℕ) (n k : ℕ) → k ≡ word t n 0 → Single k → levels (operand_tree t n 1) < levels (tree_at t n)
single_levels t n k e (low_code a b) = unary_levels t n k e a b
single_levels t n k e (lone_code a) = is_undef_levels t n k e a
single_levels t n k e (high_code a b) = attribute_levels t n k e a b

-- those of the forms with two strict operands
pub two_codes : {k : ℕ} → (k ≡ 37) ⊎ ((13 ≤ k) × (k < 23)) → 13 ≤ k
two_codes (inl e) = omega arith
two_codes (inr h) = h.0

-- a strict form is undefined where its operand is
strict : (o : Traced) (f g : Value → ℕ → Traced) (u : ℕ → ℕ → ℕ → Traced) → ((v : Value) (s : ℕ) → f v s ≡ g v s) → ((s q j : ℕ) → u s q j ≡ undefined_t s q j) → resume_t o f u ≡ bind_t o g
strict (value_t v s) f g u a b = a v s
strict (undefined_t s q j) f g u a b = b s q j
strict stuck_t f g u a b = refl
strict (stop_t c s) f g u a b = refl

module _ (t : List ℕ) (n k : ℕ) (w : World) (ρ : Env Value) (s : ℕ) where
  -- what follows a value, and what follows undefined
  abbrev on_value : Value → ℕ → Traced
  on_value v m = at n s (of_value w.model k (word t n) (w.mark n) v m)

  abbrev on_undefined : ℕ → ℕ → ℕ → Traced
  on_undefined m q j = at q j (of_undefined k m)

  unary_as : k < 13 → unary_node t n k w ρ s ≡ unary_trace w.model n (unary_of k (word t n)) (operand_for t n 1 w) ρ s
  unfolding unary_node unary_trace of_value of_undefined
  unary_as h = strict (operand_for t n 1 w ρ s) on_value (λ v m. at n s (unary_apply w.model (unary_of k (word t n)) v m)) on_undefined (λ v m. rw (lt-ltb k 13 h)) (λ m q j. rw (ne_eqb k 30 (λ e. omega arith)))

  is_undef_as : k ≡ 30 → unary_node t n k w ρ s ≡ is_undef_trace (operand_for t n 1 w) ρ s
  unfolding unary_node is_undef_trace of_value of_undefined
  is_undef_as e = rw e refl

  attribute_as : 33 ≤ k → unary_node t n k w ρ s ≡ attribute_trace w.model n (access_of k) (w.mark n) (operand_for t n 1 w) ρ s
  unfolding unary_node attribute_trace of_value of_undefined
  attribute_as h =
      let no : eqb k 30 ≡ false = ne_eqb k 30 (λ e. omega arith) in
      strict (operand_for t n 1 w ρ s) on_value (λ v m. at n s (access w.model (access_of k) (w.mark n) v m)) on_undefined (λ v m. rw (le-ltb k 13 (omega arith), no)) (λ m q j. rw no)

runs_as : {Ok : World → Type 0} {f g : MeaningT} {env B A : List ℕ} {sp s : ℕ} {r : Answer} → ((w : World) (ρ : Env Value) → f w ρ s ≡ g w ρ s) → EvalsT Ok f env sp s B A r → EvalsT Ok g env sp s B A r
runs_as e x = record { small = x.small; ran = λ w ok ρ rel. rw (e w ρ) at (x.ran w ok ρ rel) }

-- ---- a node by its code

-- the code k is node n's, and a step may begin
module _ {Ok : World → Type 0} (t : List ℕ) (n k : ℕ) {env B A : List ℕ} {sp s : ℕ} {r : Answer} (e : k ≡ word t n 0) (h : s < 1000000) where
  pub node_unary : Single k → EvalsT Ok (unary_node t n k) env sp (s + 1) B A r → EvalsT Ok (node_for t n) env sp s B A r
  unfolding node_for operand_for operand_trace
  node_unary (low_code a b) x = tick_on _ (λ w. unary_trace_lem w.model w.mark t n k e a b) h (runs_as (λ w ρ. unary_as t n k w ρ (s + 1) b) x)
  node_unary (lone_code a) x = tick_on _ (λ w. is_undef_trace_lem w.model w.mark t n k e a) h (runs_as (λ w ρ. is_undef_as t n k w ρ (s + 1) a) x)
  node_unary (high_code a b) x = tick_on _ (λ w. attribute_trace_lem w.model w.mark t n k e a b) h (runs_as (λ w ρ. attribute_as t n k w ρ (s + 1) a) x)

  pub node_binary : (k ≡ 37) ⊎ ((13 ≤ k) × (k < 23)) → EvalsT Ok (binary_node t n k) env sp (s + 1) B A r → EvalsT Ok (node_for t n) env sp s B A r
  unfolding node_for binary_node operand_for operand_trace
  node_binary a x = tick_on (binary_node t n k) (λ w. binary_trace_lem w.model w.mark t n k e a) h x

  pub node_connective : 23 ≤ k → k < 25 → EvalsT Ok (connective_node t n k) env sp (s + 1) B A r → EvalsT Ok (node_for t n) env sp s B A r
  unfolding node_for connective_node operand_for operand_trace
  node_connective a b x = tick_on (connective_node t n k) (λ w. connective_trace_lem w.model w.mark t n k e a b) h x

  pub node_quantified : 25 ≤ k → k < 27 → EvalsT Ok (quantified_node t n k) env sp (s + 1) B A r → EvalsT Ok (node_for t n) env sp s B A r
  unfolding node_for quantified_node operand_for operand_trace
  node_quantified a b x = tick_on (quantified_node t n k) (λ w. quantified_trace_lem w.model w.mark t n k e a b) h x

  pub node_assemble : 27 ≤ k → k < 30 → EvalsT Ok (assemble_node t n k) env sp (s + 1) B A r → EvalsT Ok (node_for t n) env sp s B A r
  unfolding node_for assemble_node
  node_assemble a b x = tick_on (assemble_node t n k) (λ w. assemble_by t n k e a b w (ltb 4 (word t n 5)) refl) h x

  pub node_conditional : k ≡ 31 → EvalsT Ok (conditional_node t n) env sp (s + 1) B A r → EvalsT Ok (node_for t n) env sp s B A r
  unfolding node_for conditional_node operand_for operand_trace
  node_conditional a x = tick_on (conditional_node t n) (λ w. conditional_trace_lem w.model w.mark t n k e a) h x

  pub node_let : k ≡ 32 → EvalsT Ok (let_node t n) env sp (s + 1) B A r → EvalsT Ok (node_for t n) env sp s B A r
  unfolding node_for let_node operand_for operand_trace
  node_let a x = tick_on (let_node t n) (λ w. let_trace_lem w.model w.mark t n k e a) h x

  pub node_iterate : k ≡ 35 → EvalsT Ok (iterate_node t n) env sp (s + 1) B A r → EvalsT Ok (node_for t n) env sp s B A r
  unfolding node_for iterate_node operand_for operand_trace
  node_iterate a x = tick_on (iterate_node t n) (λ w. iterate_trace_lem w.model w.mark t n k e a) h x

  pub node_call : k ≡ 36 → EvalsT Ok (call_node t n) env sp (s + 1) B A r → EvalsT Ok (node_for t n) env sp s B A r
  unfolding node_for call_node operand_for operand_trace
  node_call a x = tick_on (call_node t n) (λ w. call_trace_lem w.model w.mark t n k e a) h x

pub node_none : {Ok : World → Type 0} (t : List ℕ) (n k : ℕ) {env B : List ℕ} {sp s place : ℕ} → k ≡ word t n 0 → s < 1000000 → 37 < k → n < 768 → place ≡ place_of n (s + 1) → EvalsT Ok (node_for t n) env sp s B B (traced.Undef (s + 1) place)
unfolding node_for undef_node
node_none t n k e h a l p = tick_on (undef_node n) (λ w. none_trace w.model w.mark t n k e a) h (undef_done l (omega arith) (omega arith) p)

leaf_same : (t : List ℕ) (n k x : ℕ) → x ≡ word t n 1 → leaf_of k (λ _. x) ≡ leaf_of k (word t n)
unfolding leaf_of
leaf_same t n k x e = rw e

pub node_leaf : {st : Counts} {w0 w1 : List ℕ} (t : List ℕ) (n k x : ℕ) {env B A : List ℕ} {sp s place : ℕ} {r : Ended} {a : Answer} → k ≡ word t n 0 → s < 1000000 → k < 7 → x ≡ word t n 1
    → Evals (ModelIn st w0) (leaf_for k x) env sp (s + 1) B A r → n < 768 → place ≡ place_of n (s + 1) → a ≡ arisen r place → EvalsT (ReadsWorld st w0 w1) (node_for t n) env sp s B A a
unfolding node_for leaf_for leaf_trace
node_leaf t n k x {r = r} e h l f y b p i = rw i (
    tick_on (λ w. leaf_trace w.model n (leaf_of k (λ _. x))) (λ w. leaf_trace_lem w.model w.mark t n k e l ∙ rw (leaf_same t n k x f)) h
    (record { small = arisen_small r y.small (placed p b (omega arith) (omega arith)); ran = λ w ok ρ rel. arisen_ran (y.ran w (record { holds = ok.holds }) ρ rel) (named p b) }))

-- ---- an operand

-- every node begins with a step
unfoldable form_for : Expr → MeaningT
form_for (node p f) w = form_trace w.model w.mark p f

begins : (e : Expr) (w : World) → trace w.model w.mark e ≡ tick_t (form_for e w)
unfolding trace form_for
begins (node p f) w = refl

pub below_stop : {Ok : World → Type 0} (t : List ℕ) (n k : ℕ) {env B : List ℕ} {sp s : ℕ} → 1000000 ≤ s → EvalsT Ok (operand_for t n k) env sp s B B (traced.Stop 16 s)
unfolding operand_for
below_stop t n k h = tick_stop (form_for (operand_tree t n k)) (begins (operand_tree t n k)) h

module _ {Ok : World → Type 0} (t : List ℕ) (n k a : ℕ) {env B : List ℕ} {sp s : ℕ} (e : a ≡ word t n k) where
  pub below_done : {A : List ℕ} {r : Answer} → a < n → EvalsT Ok (node_for t a) env sp s B A r → EvalsT Ok (operand_for t n k) env sp s B A r
  unfolding node_for operand_for operand_trace
  below_done h x = record { small = x.small; ran = λ w ok ρ rel. rw (operand_trace_lem w.model w.mark t n k a e h) (x.ran w ok ρ rel) }

  pub below_late : {place : ℕ} → n ≤ a → s < 1000000 → place ≡ place_of 0 (s + 1) → EvalsT Ok (operand_for t n k) env sp s B B (traced.Undef (s + 1) place)
  unfolding operand_for undef_node operand_trace
  below_late h l p = tick_on (undef_node 0) (λ w. late_trace w.model w.mark t n k a e h) l (undef_done (omega arith) (omega arith) (omega arith) p)

-- ---- an answer as one word

pub node_packed : {Ok : World → Type 0} (t : List ℕ) (n : ℕ) {env B A : List ℕ} {sp s w : ℕ} {r : Answer} → s < 1000000 → EvalsT Ok (node_for t n) env sp s B A r → Packs r w
    → EvalsT Ok (node_for t n) env sp s B A (answer_in w)
unfolding node_for
node_packed t n {s = s} h x p = record {
  small = p.small x.small;
  ran = λ w ok ρ rel.
      let y = x.ran w ok ρ rel in
      let same = (origin w.model w.mark (tree_at t n) ρ s).same_outcome in
      record { kept = y.kept; ends = ends_packed y.ends (rw same (run_limited w.model w.mark (tree_at t n) ρ (omega arith))) x.small p };
}

-- ---- a rule

-- the object's cell, which is put at 0
self_lies : {o : ℕ} {B S : List ℕ} → 0 < length B → o < 4294967296 → Pushes (simple.Object o) 0 B S → Lies (obj o) 0 1 S
unfolding size
self_lies {o} room h p = by ((gives {s = 0} room p).is (obj o) (fits_obj h) means_obj).ends
  where
    by : {S : List ℕ} → Ends 0 S (value (obj o) 0) (ended.Value 1 0) → Lies (obj o) 0 1 S
    by (plain.ends_value l m) = l

pub rule_done : {Ok : World → Type 0} (t : List ℕ) (n o : ℕ) (B : List ℕ) {S A : List ℕ} {r : Answer} → 0 < length B → o < 4294967296 → Pushes (simple.Object o) 0 B S
    → EvalsT Ok (node_for t n) (set (replicate 16 0) 0 1) 1 0 S A r → TracesRule Ok (tree_at t n) o A r
unfolding node_for trace_rule start
rule_done t n o B {S} room h p x = record {
  small = x.small;
  ends = λ w ok.
      (x.ran w ok (extend (λ j. none) 0 (obj o)) (rel_bind (obj o) (omega arith) (held 0 refl (self_lies room h p) (omega arith) (omega arith)) (nothing_bound S 1))).ends;
}

-- ---- levels

pub below_levels : (t : List ℕ) (n k a : ℕ) → a ≡ word t n k → a < n → levels (operand_tree t n k) ≡ levels (tree_at t a)
below_levels t n k a e h = rw (← e) (ap levels (below_law t n a h))

pub shallow : (t : List ℕ) (n k left : ℕ) → k ≡ word t n 0 → 27 ≤ k → k < 30 → levels (tree_at t n) ≤ left + 1 → Shallow t n left
shallow t n k left e a b h = record { members = λ c i m. let l = assemble_levels t n k e a b c i m in omega arith }

-- ---- codes of no form

pub over_37 : (k : ℕ) → 35 ≤ k → (k ≡ 37 → ⊥) → (k ≡ 35 → ⊥) → (k ≡ 36 → ⊥) → 37 < k
over_37 k h a b c = omega arith
