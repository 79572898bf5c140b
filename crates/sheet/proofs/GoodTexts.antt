-- Each X line that is taken keeps a sheet good, and so every line. Assumes nothing.
use mathlib.Core.Path.{◌≡◌, refl, sym, subst}
use mathlib.Core.Bool.{not, ◌&&◌}
use mathlib.Core.Option.{Option, none, some}
use mathlib.Core.List.{List, [], ◌∷◌, ◌++◌}
use Prim.Native.Nat.{ℕ, suc, ◌+◌, ◌<◌}
use native.Mathlib.Omega.{arith}
use lib.ListN.{length, replicate, length-replicate}
use lib.Dec.{T, eqb→eq}
use Rattle.laws.specs.Choice.{on_some}
use Rattle.laws.specs.Lists.{all_of, Each, each_nil, each-cons}
use Rattle.laws.proofs.Tests.{and_l, and_r}
use Rattle.laws.proofs.Lists.{length_more}
use Rattle.ocl.specs.Forms.{node, Definition}
use Rattle.sheet.specs.Text.{Bytes}
use Rattle.sheet.specs.Lines.{Shape, Line, class_line, row_line, object_line, value_line, definition_line, rule_line, node_line, text_line}
use Rattle.sheet.specs.Texts.{nodes_in, nodes_of}
use Rattle.sheet.specs.Grammar.Trees.{Tree}
use Rattle.sheet.specs.Grammar.Parser.{reading_of}
use Rattle.sheet.specs.Sheet.{Current, Sheet, operands_of, grow, tree_of, definition_of, with_node, with_nodes, as_text, added}
use Rattle.sheet.specs.Limits.{form_within, within_limits}
use Rattle.sheet.specs.Refusals.{has_type, may_be_text, numbered, call_below, calls_known}
use Rattle.sheet.proofs.TextNodes.{FreshAll, fresh_nil, fresh_cons, text_fresh}
use Rattle.sheet.proofs.Good.{DefinitionOk, CurrentOk, OpenOk, none_open, one_open, Good}
use Rattle.sheet.proofs.GoodLines.{Met, met_numbered, good_class, good_row, good_object, good_value, good_definition, good_rule}
use Rattle.sheet.proofs.GoodNodes.{definitions_more, good_more, node_ok, good_node}

-- several nodes more
nodes_ok : (ds : List Definition) (n : ℕ) (xs : List Shape) (c : Current) → Each (DefinitionOk ds n) ds → CurrentOk ds n c → T (all_of form_within xs) → T (all_of (call_below (length ds)) xs) → FreshAll (length c.trees) c.used xs
    → CurrentOk ds (n + length xs) (with_nodes ds c xs)
unfolding with_nodes with_node all_of
nodes_ok ds n [] c k r w b fresh_nil = subst (λ i. CurrentOk ds i c) (let z : n ≡ n + 0 = omega arith in z) r
nodes_ok ds n (x ∷ xs) c k r w b (fresh_cons p h) =
    subst (λ i. CurrentOk ds i (with_nodes ds (with_node ds c x) xs)) (let z : suc n + length xs ≡ n + suc (length xs) = omega arith in z)
    (nodes_ok ds (suc n) xs (with_node ds c x) (definitions_more (omega arith) k)
    (node_ok ds n x c k r (and_l (form_within x) _ w) (and_l (call_below (length ds) x) _ b) p)
    (and_r (form_within x) _ w) (and_r (call_below (length ds) x) _ b)
    (subst (λ i. FreshAll i (c.used ++ operands_of x) xs) (sym (length_more c.trees (node (c.first + length c.trees) (grow (tree_of c.trees) (definition_of ds) x)))) h))

pub nodes_first : (ds : List Definition) (c : Current) (xs : List Shape) → (with_nodes ds c xs).first ≡ c.first
unfolding with_nodes with_node
nodes_first ds c [] = refl
nodes_first ds c (x ∷ xs) = nodes_first ds (with_node ds c x) xs

pub nodes_result : (ds : List Definition) (c : Current) (xs : List Shape) → (with_nodes ds c xs).result ≡ c.result
unfolding with_nodes with_node
nodes_result ds c [] = refl
nodes_result ds c (x ∷ xs) = nodes_result ds (with_node ds c x) xs

-- a rule without a node has no operand
no_operand : (n : ℕ) {used : List ℕ} → n ≡ 0 → Each (λ a. a < n) used → [] ≡ used
no_operand n e each_nil = refl
no_operand n e (each-cons l h) = absurd (omega arith)

reading_fresh : (o : Option Tree) → FreshAll 0 [] (nodes_in o)
unfolding nodes_in
reading_fresh none = fresh_nil
reading_fresh (some t) = text_fresh t

-- the nodes of a text are fresh in a rule that has none
pub nodes_fresh : (x : Bytes) (c : Current) → Each (λ a. a < length c.trees) c.used → T (may_be_text (some c)) → FreshAll (length c.trees) c.used (nodes_of x)
unfolding nodes_of may_be_text
nodes_fresh x c r h =
    let e = eqb→eq (length c.trees) 0 (and_r (not (has_type c.result) && not c.text) _ h) in
    subst (λ i. FreshAll i c.used (nodes_in (reading_of x))) (sym e) (subst (λ l. FreshAll 0 l (nodes_in (reading_of x))) (no_operand (length c.trees) e r) (reading_fresh (reading_of x)))

open_text : (ds : List Definition) (n : ℕ) (x : Bytes) {o : Option Current} → Each (DefinitionOk ds n) ds → OpenOk ds n o → T (may_be_text o) → T (all_of form_within (nodes_of x)) → T (all_of (call_below (length ds)) (nodes_of x))
    → OpenOk ds (n + length (nodes_of x)) (on_some o (λ c. some (as_text (with_nodes ds c (nodes_of x)))))
unfolding on_some as_text
open_text ds n x k none_open h w b = none_open
open_text ds n x k (one_open {c} r) h w b =
    let y = nodes_ok ds n (nodes_of x) c k r w b (nodes_fresh x c r.operands h) in
    one_open (record { context = y.context; result = y.result; forest = y.forest; count = y.count; operands = y.operands; numbers_kept_lem = y.numbers_kept_lem; names = y.names; called = y.called })

good_text : (s : Sheet) (k : ℕ) (x : Bytes) → Good s → Met s (text_line x) → Good (added s k (text_line x))
unfolding added within_limits numbered calls_known as_text
good_text s k x g m =
    let n = length (nodes_of x) in
    good_more s (λ c. as_text (with_nodes s.definitions c (nodes_of x))) g
    (record { same_first = λ c. nodes_first s.definitions c (nodes_of x); same_result = λ c. nodes_result s.definitions c (nodes_of x) }) (replicate n k)
    (subst (λ i. OpenOk s.definitions (length s.lines + i) (on_some s.current (λ c. some (as_text (with_nodes s.definitions c (nodes_of x)))))) (sym (length-replicate n k))
    (open_text s.definitions (length s.lines) x g.definitions g.current (and_l (may_be_text s.current) _ (met_numbered s (text_line x) m)) (and_l (all_of form_within (nodes_of x)) _ m.limits) m.known))

-- ---- every line

pub good_added : (s : Sheet) (k : ℕ) (l : Line) → Good s → Met s l → Good (added s k l)
good_added s k (class_line n p) g m = good_class s k n p g m
good_added s k (row_line n c name t) g m = good_row s k n c name t g m
good_added s k (object_line n c) g m = good_object s k n c g m
good_added s k (value_line o a v) g m = good_value s k o a v g m
good_added s k (definition_line n c t) g m = good_definition s k n c t g m
good_added s k (rule_line n c) g m = good_rule s k n c g m
good_added s k (node_line n x) g m = good_node s k n x g m
good_added s k (text_line x) g m = good_text s k x g m
