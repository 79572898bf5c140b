-- What the recursion's contracts say: for every model and marks that the words hold, and every environment whose values lie
-- below sp, the answer is the definition's outcome, with where its undefined arose.
use Rattle.std.specs.Prelude.{◌≡◌, List, ℕ, ◌+◌, ◌*◌, ◌/◌, ◌%◌, ◌≤◌, ◌<◌, eqb, ltb}
use Rattle.std.specs.Bool.{beq}
use Rattle.std.proofs.Math.Option.{none}
use Rattle.std.proofs.Math.Seq.{slice}
use Rattle.std.specs.Prelude.{if◌then◌else◌}
use Rattle.memory.specs.Map as memory
use Rattle.ocl.specs.Values.{Value, bool, Values}
use Rattle.ocl.specs.Environment.{Env, extend}
use Rattle.ocl.specs.Forms.{Expr, levels, Connective, Quantifier, undef}
use Rattle.ocl.specs.Evaluation.{decides}
use Rattle.ocl.specs.Trace.{value_t, undefined_t, at, resume_t, bind_t, on_bool_t, leaf_trace, binary_trace, connective_trace, conditional_trace, let_trace, call_trace, quantified_trace, iterate_trace, assemble_trace, trace, trace_rule, operands_trace, seek_t, fold_t}
use Rattle.sheet.specs.Sizes.{most_nodes, least_words}
use Rattle.values.specs.Cells.{encs, AllFit}
use Rattle.nodes.specs.Nodes.{word, variable, class_in, binary_of, connective_of, quantifier_of, kind_of, operands_in, trees_below, tree_at}
use Rattle.nodes.specs.Marks.{Marked}
use Rattle.tables.specs.declared.Counts.{Counts}
use Rattle.tables.specs.Layout.{Fine}
use Rattle.tables.specs.Stored.{HoldsModel}
use Rattle.outcomes.specs.Answers.{Lies}
use Rattle.outcomes.specs.Tables.{Plain}
use Rattle.operations.specs.Runs.{World, Rel}
use Rattle.operations.specs.Operand.{mark_in, of_value, of_undefined}
use Rattle.evaluation.specs.declared.Traced.{Traced as Answer}
use Rattle.evaluation.specs.Traces.{EndsT, RanT, SmallTraced, MeaningT}

-- ---- what is evaluated over

-- the tables hold the model, and w1 the marks
pub record ReadsWorld (st : Counts) (w0 w1 : List ℕ) (w : World) : Type 0 where
  pub holds : HoldsModel st w0 w.model
  pub plain : Plain st w.model
  pub mark : (p : ℕ) → p < most_nodes → Marked (mark_in w1 p) (w.mark p)

-- a rule's outcome with where its undefined arose, its value at 1
pub record TracesRule (Ok : World → Type 0) (e : Expr) (o : ℕ) (A : List ℕ) (r : Answer) : Type 0 where
  pub small : SmallTraced r
  pub ends : (w : World) → Ok w → EndsT 1 A (trace_rule w.model w.mark e o) r

-- ---- nodes and operands

-- the tree of operand k of node n
abbrev pub operand_tree : List ℕ → ℕ → ℕ → Expr
operand_tree t n k = trees_below t n (word t n k)

unfoldable pub node_for : List ℕ → ℕ → MeaningT
node_for t n w = trace w.model w.mark (tree_at t n)

unfoldable pub operand_for : List ℕ → ℕ → ℕ → MeaningT
operand_for t n k w = trace w.model w.mark (operand_tree t n k)

-- the counts are within the limits, the words are as many as are lent, n is a node, and the stack has room for left levels
-- above sp: a level keeps at most 384 words below an operand, and 256 are for what is formed above
pub record StackRoom (st : Counts) (w0 w1 w2 n sp left : ℕ) : Type 0 where
  pub fine : Fine st
  pub tables : least_words ≤ w0
  pub nodes : least_words ≤ w1
  pub stack : least_words ≤ w2
  pub node : n < most_nodes
  pub room : sp + (384 * left + 256) ≤ least_words

-- ---- the forms of node n over its operands

-- one operand: the strict forms (`not` to `as`), `isUndef`, `attr`, `collect`
unfoldable pub unary_node : List ℕ → ℕ → ℕ → MeaningT
unary_node t n k w ρ s = resume_t (operand_for t n 1 w ρ s) (λ v m. at n s (of_value w.model k (word t n) (w.mark n) v m)) (λ m q j. at q j (of_undefined k m))

unfoldable pub binary_node : List ℕ → ℕ → ℕ → MeaningT
binary_node t n k w = binary_trace n (w.mark n) (binary_of k) (operand_for t n 1 w) (operand_for t n 2 w)

unfoldable pub connective_node : List ℕ → ℕ → ℕ → MeaningT
connective_node t n k w = connective_trace (connective_of k) (operand_for t n 1 w) (operand_for t n 2 w)

-- the right side, after a left side that does not decide: a known one, or one whose undefined arose at this place
unfoldable pub known_left : MeaningT → MeaningT
known_left g w ρ n = bind_t (g w ρ n) (λ v n. on_bool_t v (λ b. value_t (bool b) n))

unfoldable pub undefined_left : ℕ → Connective → MeaningT → MeaningT
undefined_left place c g w ρ n = resume_t (g w ρ n)
    (λ v n. on_bool_t v (λ b. if beq b (decides c) then value_t (bool b) n else undefined_t n (place % memory.place_step) (place / memory.place_step)))
    (λ n q j. undefined_t n (place % memory.place_step) (place / memory.place_step))

unfoldable pub right_side : ℕ → Connective → MeaningT → MeaningT
right_side place c g = if eqb place 0 then known_left g else undefined_left place c g

unfoldable pub conditional_node : List ℕ → ℕ → MeaningT
conditional_node t n w = conditional_trace (operand_for t n 1 w) (operand_for t n 2 w) (operand_for t n 3 w)

unfoldable pub let_node : List ℕ → ℕ → MeaningT
let_node t n w = let_trace (variable (word t n 3)) (operand_for t n 1 w) (operand_for t n 2 w)

unfoldable pub call_node : List ℕ → ℕ → MeaningT
call_node t n w = call_trace w.model (class_in (word t n 3)) (operand_for t n 1 w) (operand_for t n 2 w)

unfoldable pub quantified_node : List ℕ → ℕ → ℕ → MeaningT
quantified_node t n k w = quantified_trace (quantifier_of k) (variable (word t n 3)) (operand_for t n 1 w) (operand_for t n 2 w)

unfoldable pub iterate_node : List ℕ → ℕ → MeaningT
iterate_node t n w = iterate_trace (variable (word t n 4)) (variable (word t n 5)) (operand_for t n 1 w) (operand_for t n 2 w) (operand_for t n 3 w)

-- the members of `coll`, by their nodes; more than four count as `undef`
unfoldable pub members_trace : List ℕ → ℕ → ℕ → MeaningT
members_trace t n k w = assemble_trace n (kind_of k) (operands_trace w.model w.mark (operands_in (trees_below t n) (word t n) (word t n 5) 1))

unfoldable pub assemble_node : List ℕ → ℕ → ℕ → MeaningT
assemble_node t n k w = if ltb 4 (word t n 5) then leaf_trace w.model n undef else members_trace t n k w

-- each operand of `coll` has few enough levels
pub record Shallow (t : List ℕ) (n left : ℕ) : Type 0 where
  pub members : word t n 5 ≤ 4 → (i : ℕ) → i < word t n 5 → levels (operand_tree t n (i + 1)) ≤ left

-- ---- loops over the members of the collection of la cells at sp

pub record Seeks (Ok : World → Type 0) (q : Quantifier) (i : ℕ) (g : MeaningT) (env : List ℕ) (sp la s : ℕ) (B A : List ℕ) (r : Answer) : Type 0 where
  pub small : SmallTraced r
  pub ran : (w : World) → Ok w → (ρ : Env Value) → Rel env B sp ρ → (vs : Values) → AllFit vs → slice (sp + 1) (sp + la) B ≡ encs vs
      → RanT (seek_t q (λ x. g w (extend ρ i x)) none vs s) sp B A r

-- the accumulator is the lb cells after the collection
pub record Folds (Ok : World → Type 0) (i j : ℕ) (h : MeaningT) (env : List ℕ) (sp la lb s : ℕ) (B A : List ℕ) (r : Answer) : Type 0 where
  pub small : SmallTraced r
  pub ran : (w : World) → Ok w → (ρ : Env Value) → Rel env B sp ρ → (vs : Values) → AllFit vs → slice (sp + 1) (sp + la) B ≡ encs vs
      → (a : Value) → Lies a (sp + la) lb B → RanT (fold_t (λ x y. h w (extend (extend ρ i x) j y)) vs a s) sp B A r
